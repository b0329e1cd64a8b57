-- What a command does and answers where no row of the status table refuses it. All else of a command stands in its row of
-- crates/commands/specs/Shapes.antt: a new command is a row there, and a row here.
use Rattle.std.specs.Prelude.{Bool, List, [], ◌∷◌, ◌++◌, map, ℕ, length, if◌then◌else◌}
use Rattle.octets.specs.Octets.{padded}
use Rattle.record.specs.declared.Attributes.{Attributes}
use Rattle.record.specs.declared.State.{State}
use Rattle.record.specs.declared.Record.{Record}
use Rattle.record.specs.declared.Effect.{Effect}
use Rattle.record.specs.Parts.{id_of}
use Rattle.record.specs.Windows.{by_window, window_no}
use Rattle.replies.specs.Numbers.{success, request_waits}
use Rattle.replies.specs.Status.{Line}
use Rattle.replies.specs.Answers.{Answer, saying, granted}
use Rattle.desk.specs.Desk.{Desk, queued, turned, lifted}
use Rattle.rules.specs.Rules as rules
use Rattle.table.specs.Table.{listed_marks}
use Rattle.pages.specs.Features.{config_in, config_page}
use Rattle.pages.specs.Latency.{latency_page}
use Rattle.pages.specs.Aggregate.{picked, aggregate_page}
use Rattle.pages.specs.Identify.{identify_page}
use Rattle.commands.specs.declared.Command.{Command}
use Rattle.commands.specs.declared.Kind.{Kind}
use Rattle.commands.specs.declared.Kind.TheVariants.{SetNotices, SetConfig, SetWindow, GetNotices, GetConfig, GetWindow, ReadLatency, ReadAggregate, EventRequest, Identify}
use Rattle.commands.specs.Commands.{enable, window_cause, retain, offset, asked, identifier, turns_on, command_in}
use Rattle.commands.specs.Shapes.{shape_of, kind_of, is_named, named_by, needs_out}
use Rattle.commands.specs.StatusTable.{early_lines, unknown_number, short_line, request_line, late_lines}
use Rattle.steps.specs.Items.{Card, One, View, Meaning, Nobody, The}

-- ---- what commands do to the set that they name

abbrev pub Rule : Type 0
Rule = Command → List ℕ → Attributes → State → Effect

-- 13h, with 512 bytes of data in
abbrev pub stores_config : Rule
stores_config c given a s = rules.configure (enable c) (config_in given) a s

-- 14h
abbrev pub selects_window : Rule
selects_window c given a s = rules.selecting (window_cause c) a s

-- "Any successful read with Retain 0 clears that set's events and listed mark"
abbrev pub reads_page : Rule
reads_page c given a s = if retain c then rules.still s else rules.clearing_read s

abbrev pub changes_nothing : Rule
changes_nothing c given a s = rules.still s

-- ---- their dword 0 and pages

-- "enable": 1 while the mode is on
abbrev pub mode_no : State → ℕ
mode_no s = by_window s.window 0 1 1

-- the identifiers of the listed sets, "rising" as the sets are
abbrev pub listed_ids : List Record → List ℕ
listed_ids rs = picked (map id_of rs) (listed_marks rs)

abbrev pub aggregate_of : Command → Card → List ℕ
aggregate_of c card = aggregate_page (listed_ids card.sets)

-- the attributes of all sets
abbrev pub attributes_of : List Record → List Attributes
attributes_of rs = map (λ r. r.attributes) rs

-- 01: "sets with identifier at or above CDW11 15:0", amended by 02: "An Identify answer still holds 31 entries" (`in_one_answer`)
abbrev pub set_list_of : Command → Card → List ℕ
set_list_of c card = identify_page (asked c) (attributes_of card.sets)

-- ---- what commands do to the desk

abbrev pub AtDesk : Type 0
AtDesk = Command → Desk → Desk

abbrev pub leaves_desk : AtDesk
leaves_desk c d = d

-- 01: "Reading changes nothing.", amended by 02: "A successful read of 0Bh with Retain 0 lifts the mask and drops the flag"
abbrev pub lifts_mask : AtDesk
lifts_mask c d = if retain c then d else lifted d

-- "Up to four requests wait, oldest served first"
abbrev pub queues : AtDesk
queues c d = queued (identifier c) d

-- "feature 0Bh bit 12"
abbrev pub turns : AtDesk
turns c d = turned (turns_on c) d

-- bit 12, as Get Features gives it in dword 0
abbrev pub notices_bit : ℕ
notices_bit = 0x1000

abbrev pub notices_no : Bool → ℕ
notices_no on = if on then notices_bit else 0

-- ---- the table

-- of a set that is named: the rule, dword 0, and the page from its record before it is changed ("after the bytes are taken");
-- of a command that names none: what it does to the desk; its status, and dword 0 and page from the card before it
pub record Doing : Type 0 where
  pub rule : Rule
  pub dword : Record → ℕ
  pub page : Record → List ℕ
  pub desk : AtDesk
  pub status : ℕ
  pub word : Card → ℕ
  pub view : Command → Card → List ℕ

abbrev pub on_set : Rule → (Record → ℕ) → (Record → List ℕ) → Doing
on_set rule dword page =
    record { rule = rule; dword = dword; page = page; desk = leaves_desk; status = success; word = λ card. 0; view = λ c card. [] }

abbrev pub on_card : AtDesk → ℕ → (Card → ℕ) → (Command → Card → List ℕ) → Doing
on_card desk status word view =
    record { rule = changes_nothing; dword = λ r. 0; page = λ r. []; desk = desk; status = status; word = word; view = view }

-- a page of the whole card
abbrev pub on_page : AtDesk → (Command → Card → List ℕ) → Doing
on_page desk view = on_card desk success (λ card. 0) view

-- "Get returns enable with the 512 bytes, or the window, in dword 0. Other dword 0 values are zero."; 02: a request is "answered 07C8h
-- (waiting, no refusal)"
abbrev pub doing : Kind → Doing
doing SetNotices = on_card turns success (λ card. 0) (λ c card. [])
doing SetConfig = on_set stores_config (λ r. 0) (λ r. [])
doing SetWindow = on_set selects_window (λ r. 0) (λ r. [])
doing GetNotices = on_card leaves_desk success (λ card. notices_no card.desk.on) (λ c card. [])
doing GetConfig = on_set changes_nothing (λ r. mode_no r.state) (λ r. config_page r.state.config)
doing GetWindow = on_set changes_nothing (λ r. window_no r.state.window) (λ r. [])
doing ReadLatency = on_set reads_page (λ r. 0) latency_page
doing ReadAggregate = on_page lifts_mask aggregate_of
doing EventRequest = on_card queues request_waits (λ card. 0) (λ c card. [])
doing Identify = on_page leaves_desk set_list_of

-- what of a page is handed out: the part that a log read asks for, or all
abbrev pub asked_of : Kind → Command → List ℕ → List ℕ
asked_of k c page = if (shape_of k).part then padded page (offset c) (needs_out k c) else page

-- ---- every command

abbrev pub answer_of : Kind → Command → Record → Answer
answer_of k c r = granted ((doing k).dword r) (asked_of k c ((doing k).page r))

abbrev pub named : Kind → Command → List ℕ → ℕ → One
named k c given room =
    record {
      early = early_lines c;
      unknown = unknown_number;
      late = λ a s. late_lines k c (length given) room s;
      rule = (doing k).rule c given;
      done = answer_of k c;
    }

-- "Identify and 0Bh name none."; 02: nor do opcode 0Ch and FID 0Bh
abbrev pub view_lines : Kind → Command → ℕ → ℕ → ℕ → List Line
view_lines k c given room waiting = early_lines c ++ short_line k c given room ∷ request_line k waiting ∷ []

abbrev pub viewed : Kind → Command → ℕ → ℕ → View
viewed k c given room =
    record {
      early = λ card. view_lines k c given room (length card.desk.waiting);
      desk = (doing k).desk c;
      done = λ card. saying (doing k).status ((doing k).word card) (asked_of k c ((doing k).view c card));
    }

abbrev pub meaning_by : Kind → Command → List ℕ → ℕ → Meaning
meaning_by k c given room = if is_named k then The (named_by k c) (named k c given room) else Nobody (viewed k c (length given) room)

unfoldable pub command_meaning : List ℕ → List ℕ → ℕ → Meaning
command_meaning bytes given room = meaning_by (kind_of (command_in bytes)) (command_in bytes) given room
