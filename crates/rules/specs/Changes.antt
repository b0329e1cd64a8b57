-- 01, "Window changes": "Kept as one constant table, three windows by seven causes".
use Rattle.std.specs.Prelude.{◌≡◌, ℕ, Bool, true, false, List, [], ◌∷◌, get_or}
use Rattle.record.specs.declared.Window.{Window}
use Rattle.record.specs.declared.Window.TheVariants.{Off, D, N}
use Rattle.record.specs.Windows.{by_window, window_no}
use Rattle.rules.specs.declared.Cause.{Cause}
use Rattle.rules.specs.declared.Cause.TheVariants.{Enable, Disable, SelectD, SelectN, Excursion, Exceeded, TimeUp}
use Rattle.rules.specs.declared.Next.{Next}
use Rattle.rules.specs.declared.Next.TheVariants.{Never, Refuse, To}

-- the table's columns
abbrev pub cause_no : Cause → ℕ
cause_no Enable = 0
cause_no Disable = 1
cause_no SelectD = 2
cause_no SelectN = 3
cause_no Excursion = 4
cause_no Exceeded = 5
cause_no TimeUp = 6

-- the table; its "if time is spent" is `is_early` of Rules
abbrev pub changes : List (List Next)
changes =
    (To N ∷ To Off ∷ Refuse ∷ Refuse ∷ To Off ∷ Never ∷ Never ∷ [])
    ∷ (To N ∷ To Off ∷ To D ∷ To N ∷ To N ∷ To N ∷ To N ∷ [])
    ∷ (To N ∷ To Off ∷ To D ∷ To N ∷ To N ∷ Never ∷ Never ∷ [])
    ∷ []

-- the entry for a window and a cause
abbrev pub next : Window → Cause → Next
next w c = get_or (get_or changes (window_no w) []) (cause_no c) Never

-- the window that an entry leads to from w: w itself where it refuses, and where the cause never arises
abbrev pub moved_to : Window → Next → Window
moved_to w Never = w
moved_to w Refuse = w
moved_to w (To v) = v

abbrev pub moved_by : Window → Cause → Window
moved_by w c = moved_to w (next w c)

abbrev pub is_refuse : Next → Bool
is_refuse Never = false
is_refuse Refuse = true
is_refuse (To v) = false

abbrev pub refused_by : Window → Cause → Bool
refused_by w c = is_refuse (next w c)

-- "14h while off": both selects are refused while a set is off, and in no other window
abbrev pub OffRefuses : Type 0
OffRefuses = (w : Window) → (refused_by w SelectD ≡ by_window w true false false) × (refused_by w SelectN ≡ by_window w true false false)
