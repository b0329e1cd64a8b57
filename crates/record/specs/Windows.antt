-- The three windows: off (none), D and N.
use Rattle.std.specs.Prelude.{ℕ, Bool, eqb, if◌then◌else◌, Result, Ok, Err}
use Rattle.record.specs.declared.Window.{Window}
use Rattle.record.specs.declared.Window.TheVariants.{Off, D, N}
use Rattle.record.specs.declared.windows.NoWindow.{NoWindow}

-- a choice by window
abbrev pub by_window {ℓ} : {A : Type ℓ} → Window → A → A → A → A
by_window Off off d n = off
by_window D off d n = d
by_window N off d n = n

-- the row of the table of window changes, and on page 0Ah "0 window (0, 1, 2)"
abbrev pub window_no : Window → ℕ
window_no w = by_window w 0 1 2

abbrev pub same_window : Window → Window → Bool
same_window v w = eqb (window_no v) (window_no w)

-- the window of a number, which other numbers than those three do not have
abbrev pub window_of : ℕ → Result Window NoWindow
window_of n = if eqb n 0 then Ok Off else if eqb n 1 then Ok D else if eqb n 2 then Ok N else Err (record {})
