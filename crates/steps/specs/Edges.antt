-- 01, "Edges to show": "Starred ones are proved about the written rules, gathered in a single table under a single claim"; and 02's
-- short windows, in the same table.
-- "Same set", of the whole run: set 7 (`seven` of Order.antt).
use Rattle.std.specs.Prelude.{◌≡◌, Bool, true, false, List, [], ◌∷◌, ◌++◌, map, ℕ, replicate}
use Rattle.octets.specs.Octets.{bytes_of}
use Rattle.record.specs.declared.Window.{Window}
use Rattle.record.specs.declared.Window.TheVariants.{Off, D, N}
use Rattle.record.specs.declared.Thresholds.{Thresholds}
use Rattle.record.specs.declared.Spent.{Spent}
use Rattle.record.specs.declared.Recovery.{Recovery}
use Rattle.record.specs.declared.Config.{Config}
use Rattle.record.specs.declared.Record.{Record}
use Rattle.record.specs.Parts.{config_of, spends, nothing_spent, recovers, no_recovery, state_of}
use Rattle.record.specs.Event.{events_of, no_events, bits_of}
use Rattle.replies.specs.Answers.{Answer}
use Rattle.desk.specs.Desk.{new_desk}
use Rattle.table.specs.Card.{card_with}
use Rattle.steps.specs.Items.{Card, Item, reads, excursion, tick, command}
use Rattle.steps.specs.Card.{Outcome, step}
use Rattle.steps.specs.Order.{seven, Each}

-- ---- the cards to start from

-- ENEV 4001h and reads threshold 10
abbrev pub warned : Config
warned = config_of (events_of true false false true false) 10 0 0

-- ENEV 0 and no threshold
abbrev pub silent : Config
silent = config_of no_events 0 0 0

-- set 7 alone in a window, with nothing spent in D, some time in N and a need, and no event; no request waits
abbrev pub card_in : Window → Config → Recovery → Card
card_in w c r =
    card_with
    (record { attributes = seven; state = state_of w c nothing_spent r; notes = record { events = no_events; listed = false } } ∷ [])
    new_desk

abbrev pub in_d : Card
in_d = card_in D warned no_recovery

-- after so many milliseconds in D
abbrev pub in_dFor : ℕ → Card
in_dFor s = (step in_d (tick s 0)).card

-- after edge 2's reads, and after edge 10's excursion
abbrev pub after91 : Card
after91 = (step in_d (reads 7 91)).card

abbrev pub after_excursion : Card
after_excursion = (step (card_in D silent no_recovery) (excursion 7)).card

-- ---- the commands

-- 64 bytes with an opcode and dwords 10, 11 and 12
abbrev pub command_of : ℕ → ℕ → ℕ → ℕ → List ℕ
command_of opcode ten eleven twelve =
    bytes_of 4 opcode ++ replicate 36 0 ++ bytes_of 4 ten ++ bytes_of 4 eleven ++ bytes_of 4 twelve ++ replicate 12 0

-- Set Features 14h: window D, and N
abbrev select_d : Item
select_d = command (command_of 0x09 0x14 7 1) [] 0

abbrev select_n : Item
select_n = command (command_of 0x09 0x14 7 2) [] 0

-- Set Features 13h: enable, with 512 data bytes that are zero but for bit 15 of ENEV
abbrev enable_bit15 : Item
enable_bit15 = command (command_of 0x09 0x13 7 1) (bytes_of 512 0x8000) 0

-- the same, disable
abbrev disable_bit15 : Item
disable_bit15 = command (command_of 0x09 0x13 7 0) (bytes_of 512 0x8000) 0

-- Get Log Page 0Ah: one dword from an offset, Retain 1
abbrev read_from : ℕ → Item
read_from offset = command (command_of 0x02 0x800A 0x70000 offset) [] 4

-- ---- what is looked at

-- of a set: all that changes. ENEV and the events as their 16 bits; of D reads, writes and time
pub record Shown : Type 0 where
  pub window : Window
  pub enev : ℕ
  pub thresholds : Thresholds
  pub spent : Spent
  pub n_time : ℕ
  pub need : ℕ
  pub events : ℕ
  pub listed : Bool

-- of an outcome: the answer (status, dword 0 and bytes), and the sets of the card after it
pub record Seen : Type 0 where
  pub answer : Answer
  pub sets : List Shown

abbrev pub shown : Record → Shown
shown r =
    record {
      window = r.state.window;
      enev = bits_of r.state.config.enabled;
      thresholds = r.state.config.thresholds;
      spent = r.state.spent;
      n_time = r.state.recovery.time;
      need = r.state.recovery.need;
      events = bits_of r.notes.events;
      listed = r.notes.listed;
    }

abbrev pub seen : Outcome → Seen
seen o = record { answer = o.answer; sets = map shown o.card.sets }

-- ---- the table: each row has the edge's number, what comes of it, and what is expected. 10 has two rows; those of 02 have no number.

-- an answer: status, dword 0 and bytes
abbrev says : ℕ → ℕ → List ℕ → Answer
says status dword bytes = record { status = status; dword = dword; bytes = bytes }

-- a set: window; ENEV; thresholds of reads, writes and time; reads, writes and time in D; N time; the need; events; listed
abbrev left : Window → ℕ → Thresholds → Spent → ℕ → ℕ → ℕ → Bool → Shown
left w enev thresholds spent n_time need events listed =
    record { window = w; enev = enev; thresholds = thresholds; spent = spent; n_time = n_time; need = need; events = events; listed = listed }

abbrev limits : ℕ → ℕ → ℕ → Thresholds
limits i o t = record { reads = i; writes = o; time = t }

-- what is seen, and what is expected
pub record Edge : Type 0 where
  pub number : ℕ
  pub seen : Seen
  pub expected : Seen

abbrev edge : ℕ → Outcome → Answer → Shown → Edge
edge number outcome answer set = record { number = number; seen = seen outcome; expected = record { answer = answer; sets = set ∷ [] } }

unfoldable pub twelve : List Edge
twelve =
    -- "90 reads: no warning."
    edge 1 (step in_d (reads 7 90)) (says 0 0 []) (left D 0x4001 (limits 10 0 0) (spends 90 0 0) 0 0 0x0000 false)
    -- "91: warning."
    ∷ edge 2 (step in_d (reads 7 91)) (says 0 0 []) (left D 0x4001 (limits 10 0 0) (spends 91 0 0) 0 0 0x0001 true)
    -- "100: still D."
    ∷ edge 3 (step in_d (reads 7 100)) (says 0 0 []) (left D 0x4001 (limits 10 0 0) (spends 100 0 0) 0 0 0x0001 true)
    -- "101 at once: events 4001h, N."
    ∷ edge 4 (step in_d (reads 7 101)) (says 0 0 []) (left N 0x4001 (limits 10 0 0) (spends 0 0 0) 0 5 0x4001 true)
    -- "tick 999 in D: D."
    ∷ edge 5 (step in_d (tick 999 0)) (says 0 0 []) (left D 0x4001 (limits 10 0 0) (spends 0 0 999) 0 0 0x0000 false)
    -- "tick 1000: N, time 0."
    ∷ edge 6 (step in_d (tick 1000 0)) (says 0 0 []) (left N 0x4001 (limits 10 0 0) (spends 0 0 0) 0 20 0x4000 true)
    -- "tick 1007: N, time 7."
    ∷ edge 7 (step in_d (tick 1007 0)) (says 0 0 []) (left N 0x4001 (limits 10 0 0) (spends 0 0 0) 7 20 0x4000 true)
    -- "enabled, N time 19, select D: 07C1h." 02: "cases 8 and 9 now speak of the need", which after enabling is high, 20
    ∷ edge 8 (step (card_in N warned (recovers 19 20)) select_d) (says 0x07C1 0 []) (left N 0x4001 (limits 10 0 0) (spends 0 0 0) 19 20 0x0000 false)
    -- "N time 20: D."
    ∷ edge 9 (step (card_in N warned (recovers 20 20)) select_d) (says 0 0 []) (left D 0x4001 (limits 10 0 0) (spends 0 0 0) 0 0 0x0000 false)
    -- "excursion with ENEV 0: event 8000h, not listed;"
    ∷ edge 10 (step (card_in D silent no_recovery) (excursion 7)) (says 0 0 []) (left N 0x0000 (limits 0 0 0) (spends 0 0 0) 0 5 0x8000 false)
    -- "then enabling bit 15 doesn't list it."
    ∷ edge 10 (step after_excursion enable_bit15) (says 0 0 []) (left N 0x8000 (limits 0 0 0) (spends 0 0 0) 0 20 0x8000 false)
    -- "offset 512 of 0Ah, Retain 1: zeros."
    ∷ edge 11 (step after91 (read_from 512)) (says 0 0 (replicate 4 0)) (left D 0x4001 (limits 10 0 0) (spends 91 0 0) 0 0 0x0001 true)
    -- "offset 516: 0002h."
    ∷ edge 12 (step after91 (read_from 516)) (says 0x0002 0 []) (left D 0x4001 (limits 10 0 0) (spends 91 0 0) 0 0 0x0001 true)
    ∷ []

-- set 7 in N, warned, with so much time and a need of 11: after a window of 400 ms
abbrev pub recovered_for : ℕ → Card
recovered_for n = card_in N warned (recovers n 11)

abbrev unnumbered : ℕ
unnumbered = 0

-- a row of 02: the set is warned as that of edge 1 is, and has nothing spent
abbrev short : Outcome → Answer → Window → ℕ → ℕ → ℕ → Bool → Edge
short outcome answer w n_time need events listed =
    edge unnumbered outcome answer (left w 0x4001 (limits 10 0 0) (spends 0 0 0) n_time need events listed)

-- 02, "Short windows pay too much": "With high 20, low 5, maximum 1000"
unfoldable pub short_windows : List Edge
short_windows =
    -- "s = 400 needs 11, s = 401 needs 12": by select N,
    short (step (in_dFor 400) select_n) (says 0 0 []) N 0 11 0x0000 false
    ∷ short (step (in_dFor 401) select_n) (says 0 0 []) N 0 12 0x0000 false
    -- by an excursion
    ∷ short (step (in_dFor 400) (excursion 7)) (says 0 0 []) N 0 11 0x8000 false
    ∷ short (step (in_dFor 401) (excursion 7)) (says 0 0 []) N 0 12 0x8000 false
    -- and by exceeding.
    ∷ short (step (in_dFor 400) (reads 7 101)) (says 0 0 []) N 0 11 0x4001 true
    ∷ short (step (in_dFor 401) (reads 7 101)) (says 0 0 []) N 0 12 0x4001 true
    -- A window of no time needs low.
    ∷ short (step in_d select_n) (says 0 0 []) N 0 5 0x0000 false
    -- "Time up counts s as maximum": it needs high, whatever was spent before the tick; and the excess stops at it.
    ∷ short (step (in_dFor 401) (tick 599 0)) (says 0 0 []) N 0 20 0x4000 true
    ∷ short (step (in_dFor 401) (tick 620 0)) (says 0 0 []) N 20 20 0x4000 true
    -- "N time stops at the need"
    ∷ short (step (recovered_for 10) (tick 1 0)) (says 0 0 []) N 11 11 0x0000 false
    ∷ short (step (recovered_for 10) (tick 9 0)) (says 0 0 []) N 11 11 0x0000 false
    -- "the estimates in N wait for the need": that of reads is at byte 128
    ∷ short (step (recovered_for 10) (read_from 128)) (says 0 0 (replicate 4 0)) N 10 11 0x0000 false
    ∷ short (step (recovered_for 11) (read_from 128)) (says 0 0 (bytes_of 4 100)) N 11 11 0x0000 false
    -- "07C1h and cases 8 and 9 now speak of the need"
    ∷ short (step (recovered_for 10) select_d) (says 0x07C1 0 []) N 10 11 0x0000 false
    ∷ short (step (recovered_for 11) select_d) (says 0 0 []) D 0 0 0x0000 false
    -- Selecting N in N keeps the need.
    ∷ short (step (recovered_for 10) select_n) (says 0 0 []) N 10 11 0x0000 false
    -- "after enabling it is high", from D and from N
    ∷ edge unnumbered (step (in_dFor 400) enable_bit15) (says 0 0 []) (left N 0x8000 (limits 0 0 0) (spends 0 0 0) 0 20 0x0000 false)
    ∷ edge unnumbered (step (recovered_for 10) enable_bit15) (says 0 0 []) (left N 0x8000 (limits 0 0 0) (spends 0 0 0) 0 20 0x0000 false)
    -- "in N, else 0"
    ∷ edge unnumbered (step (recovered_for 10) disable_bit15) (says 0 0 []) (left Off 0x8000 (limits 0 0 0) (spends 0 0 0) 0 0 0x0000 false)
    ∷ []

-- proved as `edges` in proofs/EdgesHold.antt
abbrev pub Edges : Type 0
Edges = Each (λ (e : Edge). e.seen ≡ e.expected) (twelve ++ short_windows)
