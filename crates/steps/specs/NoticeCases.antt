-- 02, "Wake the host": its sentences on requests, notices, the mask and the flag, each on one item, computed. Sets 7 and 8 (as `seven` of Order.antt) are in D, with the excursion event
-- and time up enabled; a row has a desk, an item, and what is expected of it.
use Rattle.std.specs.Prelude.{◌≡◌, Bool, true, false, List, [], ◌∷◌, ℕ, ◌+◌, ◌*◌, ◌^◌}
use Rattle.record.specs.declared.Window.TheVariants.{D, N}
use Rattle.record.specs.declared.Attributes.{Attributes}
use Rattle.record.specs.declared.Record.{Record}
use Rattle.record.specs.Parts.{config_of, nothing_spent, recovers, no_recovery, state_of}
use Rattle.record.specs.Event.{events_of, no_events}
use Rattle.replies.specs.Numbers.{success, too_short, too_many_requests, request_waits, not_saveable, invalid_field}
use Rattle.replies.specs.Answers.{told_of}
use Rattle.desk.specs.Desk.{Desk, desk_of, new_desk}
use Rattle.table.specs.Card.{Card, card_with}
use Rattle.commands.specs.Shapes.{log_opcode, set_opcode, get_opcode, request_opcode, notices_fid, window_fid, latency_page_no, aggregate_page_no}
use Rattle.steps.specs.Items.{Item, excursion, tick, command}
use Rattle.steps.specs.Commanded.{notices_bit}
use Rattle.steps.specs.Card.{Outcome, step}
use Rattle.steps.specs.Order.{seven, Each}
use Rattle.steps.specs.Edges.{command_of}

-- ---- the cards

abbrev pub eight : Attributes
eight =
    record {
      id = record { 0 = 8 };
      group = seven.group;
      random_read_typical = seven.random_read_typical;
      optimal_write_size = seven.optimal_write_size;
      total = seven.total;
      unallocated = seven.unallocated;
      reads_typical = seven.reads_typical;
      writes_typical = seven.writes_typical;
      time_maximum = seven.time_maximum;
      minimum_high = seven.minimum_high;
      minimum_low = seven.minimum_low;
    }

-- a set in D with nothing spent, "exceeded or time up" and the excursion enabled, listed with such an event or not
abbrev pub in_d : Attributes → Bool → Record
in_d a listed =
    record {
      attributes = a;
      state = state_of D (config_of (events_of false false false true true) 0 0 0) nothing_spent no_recovery;
      notes = record { events = events_of false false false listed false; listed = listed };
    }

-- set 7 in N with its time spent; the threshold of reads is 101, above the 100 with which D starts, so that entering D warns
abbrev pub spent : Record
spent =
    record {
      attributes = seven;
      state = state_of N (config_of (events_of true false false false false) 101 0 0) nothing_spent (recovers 20 20);
      notes = record { events = no_events; listed = false };
    }

-- both sets, listed or not; and set 7 alone, about to enter D
abbrev pub unlisted : Desk → Card
unlisted d = card_with (in_d seven false ∷ in_d eight false ∷ []) d

abbrev pub listed : Desk → Card
listed d = card_with (in_d seven true ∷ in_d eight true ∷ []) d

abbrev pub entering : Desk → Card
entering d = card_with (spent ∷ []) d

-- ---- the commands

-- Asynchronous Event Request: the identifier in CDW0 31:16
abbrev pub request : ℕ → Item
request id = command (command_of (request_opcode + id * 2 ^ 16) 0 0 0) [] 0

-- the same with every other bit set
abbrev pub request_full : ℕ → Item
request_full id = command (command_of (request_opcode + 0xFF00 + id * 2 ^ 16) 0xFFFFFFFF 0xFFFFFFFF 0xFFFFFFFF) [] 0

-- Set Features 0Bh, bit 12 (it names no set: there is no set 1000h); and the same with Save
abbrev pub turn_on : Item
turn_on = command (command_of set_opcode notices_fid notices_bit 0) [] 0

abbrev pub turn_off : Item
turn_off = command (command_of set_opcode notices_fid 0 0) [] 0

-- every bit but that one
abbrev pub turn_off_full : Item
turn_off_full = command (command_of set_opcode notices_fid 0xFFFFEFFF 0xFFFFFFFF) [] 0

abbrev pub turn_on_saved : Item
turn_on_saved = command (command_of set_opcode (notices_fid + 2 ^ 31) notices_bit 0) [] 0

-- Get Features 0Bh, with Select
abbrev pub ask_on : ℕ → Item
ask_on select = command (command_of get_opcode (notices_fid + select * 2 ^ 8) 0 0) [] 0

-- Get Log Page 0Bh: one dword from an offset, with room for so many bytes, with Retain 0 and 1
abbrev pub read_from : ℕ → ℕ → Item
read_from offset room = command (command_of log_opcode aggregate_page_no 0 offset) [] room

abbrev pub read_lists : Item
read_lists = read_from 0 4

abbrev pub peek_lists : Item
peek_lists = command (command_of log_opcode (aggregate_page_no + 2 ^ 15) 0 0) [] 4

-- Get Log Page 0Ah of set 7, with Retain 0
abbrev pub read_seven : Item
read_seven = command (command_of log_opcode latency_page_no (7 * 2 ^ 16) 0) [] 4

-- Set Features 14h of set 7: window D
abbrev pub enter_d : Item
enter_d = command (command_of set_opcode window_fid 7 1) [] 0

-- ---- the table

-- of an outcome: status, dword 0, the identifiers that a notice completes, and the desk
pub record Seen : Type 0 where
  pub status : ℕ
  pub dword : ℕ
  pub told : List ℕ
  pub desk : Desk

abbrev pub seen : Outcome → Seen
seen o = record { status = o.answer.status; dword = o.answer.dword; told = told_of o.notice; desk = o.card.desk }

pub record Case : Type 0 where
  pub got : Seen
  pub expected : Seen

abbrev case : Outcome → ℕ → ℕ → List ℕ → Desk → Case
case o status dword told desk = record { got = seen o; expected = record { status = status; dword = dword; told = told; desk = desk } }

-- a desk: on, masked, flag, waiting
unfoldable pub cases : List Case
cases =
    -- "each answered 07C8h (waiting, no refusal)", off or on; "a fifth gets 0105h"
    case (step (unlisted new_desk) (request 5)) request_waits 0 [] (desk_of false false false (5 ∷ []))
    ∷ case (step (unlisted new_desk) (request_full 5)) request_waits 0 [] (desk_of false false false (5 ∷ []))
    ∷ case (step (unlisted new_desk) (request 0)) request_waits 0 [] (desk_of false false false (0 ∷ []))
    ∷ case (step (unlisted (desk_of false false false (5 ∷ []))) (request 5)) request_waits 0 [] (desk_of false false false (5 ∷ 5 ∷ []))
    ∷ case (step (unlisted (desk_of true true false (4 ∷ []))) (request 5)) request_waits 0 [] (desk_of true true false (4 ∷ 5 ∷ []))
    ∷ case (step (unlisted (desk_of false false false (1 ∷ 2 ∷ 3 ∷ 4 ∷ []))) (request 5)) too_many_requests 0 [] (desk_of false false false (1 ∷ 2 ∷ 3 ∷ 4 ∷ []))
    -- "If a notice can't be sent, one flag remembers it": off, no request, masked
    ∷ case (step (unlisted (desk_of false false false (5 ∷ []))) (excursion 7)) success 0 [] (desk_of false false true (5 ∷ []))
    ∷ case (step (unlisted (desk_of true false false [])) (excursion 7)) success 0 [] (desk_of true false true [])
    ∷ case (step (unlisted (desk_of true true false (5 ∷ []))) (excursion 7)) success 0 [] (desk_of true true true (5 ∷ []))
    -- "oldest served first", "and further notices are masked"
    ∷ case (step (unlisted (desk_of true false false (5 ∷ 6 ∷ []))) (excursion 7)) success 0 (5 ∷ []) (desk_of true true false (6 ∷ []))
    -- "sets that weren't listed": an event of one that was; a tick that lists two; a select D that warns on entering
    ∷ case (step (listed (desk_of true false false (5 ∷ []))) (excursion 7)) success 0 [] (desk_of true false false (5 ∷ []))
    ∷ case (step (unlisted (desk_of true false false (5 ∷ 6 ∷ []))) (tick 1000 0)) success 0 (5 ∷ []) (desk_of true true false (6 ∷ []))
    ∷ case (step (entering (desk_of true false false (5 ∷ []))) enter_d) success 0 (5 ∷ []) (desk_of true true false [])
    -- "It is served as soon as notices are on, none is masked and a request waits (one just arriving still gets 07C8h first)"
    -- also where nothing is listed any more
    ∷ case (step (listed (desk_of false false true (5 ∷ []))) turn_on) success 0 (5 ∷ []) (desk_of true true false [])
    ∷ case (step (unlisted (desk_of false false true (5 ∷ []))) turn_on) success 0 (5 ∷ []) (desk_of true true false [])
    ∷ case (step (listed (desk_of false true true (5 ∷ []))) turn_on) success 0 [] (desk_of true true true (5 ∷ []))
    ∷ case (step (listed (desk_of true false true [])) (request 5)) request_waits 0 (5 ∷ []) (desk_of true true false [])
    -- "A successful read of 0Bh with Retain 0 lifts the mask and drops the flag": from any offset; not one that is refused, nor one
    -- with Retain 1, nor one of 0Ah
    ∷ case (step (listed (desk_of true true true (5 ∷ []))) read_lists) success 0 [] (desk_of true false false (5 ∷ []))
    ∷ case (step (listed (desk_of true true true (5 ∷ []))) (read_from 8 4)) success 0 [] (desk_of true false false (5 ∷ []))
    ∷ case (step (listed (desk_of true true true (5 ∷ []))) (read_from 0 3)) too_short 0 [] (desk_of true true true (5 ∷ []))
    ∷ case (step (listed (desk_of true true true (5 ∷ []))) read_seven) success 0 [] (desk_of true true true (5 ∷ []))
    ∷ case (step (listed (desk_of true true true (5 ∷ []))) peek_lists) success 0 [] (desk_of true true true (5 ∷ []))
    -- turned off it keeps flag, mask and requests; "feature 0Bh bit 12 for Get"
    ∷ case (step (listed (desk_of true true true (5 ∷ []))) turn_off) success 0 [] (desk_of false true true (5 ∷ []))
    ∷ case (step (listed (desk_of true true true (5 ∷ []))) turn_off_full) success 0 [] (desk_of false true true (5 ∷ []))
    ∷ case (step (listed (desk_of true true true (5 ∷ []))) (ask_on 0)) success notices_bit [] (desk_of true true true (5 ∷ []))
    ∷ case (step (listed new_desk) (ask_on 0)) success 0 [] new_desk
    -- "Set Features with Save", "Select not 0"
    ∷ case (step (listed new_desk) turn_on_saved) not_saveable 0 [] new_desk
    ∷ case (step (listed new_desk) (ask_on 1)) invalid_field 0 [] new_desk
    ∷ []

-- proved as `cases_hold` in proofs/NoticeCases.antt
abbrev pub CasesHold : Type 0
CasesHold = Each (λ (c : Case). c.got ≡ c.expected) cases
