-- 01's commands, and 02's, as one table: what each is, what data it takes and answers, whom it names, and which rows of the status table look
-- at it. What a command does to the set that it names or to the desk, and its page and dword 0, stand by kind in
-- crates/steps/specs/Commanded.antt.
use Rattle.std.specs.Prelude.{Bool, true, false, Option, Some, None, List, [], ◌∷◌, ℕ, ◌*◌, eqb, if◌then◌else◌}
use Rattle.octets.specs.Lists.{keep}
use Rattle.pages.specs.Features.{feature_size}
use Rattle.pages.specs.Latency.{latency_size}
use Rattle.pages.specs.Aggregate.{aggregate_size}
use Rattle.pages.specs.Identify.{identify_size}
use Rattle.commands.specs.declared.Command.{Command}
use Rattle.commands.specs.declared.Kind.{Kind}
use Rattle.commands.specs.declared.Kind.TheVariants.{SetNotices, SetConfig, SetWindow, GetNotices, GetConfig, GetWindow, ReadLatency, ReadAggregate, EventRequest, Identify}
use Rattle.commands.specs.declared.Whom.{Whom}
use Rattle.commands.specs.declared.Whom.TheVariants.{NoSet, FeatureSet, LogSet}
use Rattle.commands.specs.declared.Shape.{Shape}
use Rattle.commands.specs.Commands.{dword_size, opcode, chosen, feature_set, dwords, log_set}

-- "Opcodes: 02h Get Log Page, 06h Identify, 09h Set Features, 0Ah Get Features.", amended by 02, below
abbrev pub log_opcode : ℕ
log_opcode = 0x02

abbrev pub identify_opcode : ℕ
identify_opcode = 0x06

abbrev pub set_opcode : ℕ
set_opcode = 0x09

abbrev pub get_opcode : ℕ
get_opcode = 0x0A

-- 02: "Asynchronous Event Request (opcode 0Ch) and feature 0Bh"
abbrev pub request_opcode : ℕ
request_opcode = 0x0C

-- Asynchronous Event Configuration
abbrev pub notices_fid : ℕ
notices_fid = 0x0B

-- features 13h and 14h, pages 0Ah and 0Bh, Identify 04h
abbrev pub config_fid : ℕ
config_fid = 0x13

abbrev pub window_fid : ℕ
window_fid = 0x14

abbrev pub latency_page_no : ℕ
latency_page_no = 0x0A

abbrev pub aggregate_page_no : ℕ
aggregate_page_no = 0x0B

abbrev pub set_list_cns : ℕ
set_list_cns = 0x04

-- ---- the table

-- a row's columns: opcode; its FID, CNS or page, if it has one; bytes of data in; size of the page that it answers, and whether
-- a part of that is asked; whom it names; and whether these rows of the status table look at it: Save, Select, "14h while off",
-- "window not 1 or 2 (Set)" with "select D from N too early", and "a fifth gets 0105h"
abbrev pub shape : ℕ → Option ℕ → ℕ → ℕ → Bool → Whom → Bool → Bool → Bool → Bool → Bool → Shape
shape opcode choice takes page part whom save select on window queues =
    record {
      opcode = opcode;
      choice = choice;
      takes = takes;
      page = page;
      part = part;
      whom = whom;
      save = save;
      select = select;
      on = on;
      window = window;
      queues = queues;
    }

-- "Features: FID in CDW10 7:0; Save in CDW10 bit 31 (Set)": so many bytes of data in, or a window
abbrev pub set_feature : ℕ → ℕ → Whom → Bool → Shape
set_feature fid takes whom window = shape set_opcode (Some fid) takes 0 false whom true false window window false

-- "Select in CDW10 10:8 (Get)": a page of that size, or the window, which is none while off
abbrev pub get_feature : ℕ → ℕ → Whom → Bool → Shape
get_feature fid page whom window = shape get_opcode (Some fid) 0 page false whom false true window false false

-- a part of a page of that size
abbrev pub read_log : ℕ → ℕ → Whom → Shape
read_log page size whom = shape log_opcode (Some page) 0 size true whom false false false false false

abbrev pub identified : ℕ → ℕ → Shape
identified cns size = shape identify_opcode (Some cns) 0 size false NoSet false false false false false

-- a request has no FID, no data and no page
abbrev pub requested : Shape
requested = shape request_opcode None 0 0 false NoSet false false false false true

-- 02: "Opcode 0Ch and FID 0Bh leave 01's refusals, name no set"
abbrev pub shape_of : Kind → Shape
shape_of SetNotices = set_feature notices_fid 0 NoSet false
shape_of SetConfig = set_feature config_fid feature_size FeatureSet false
shape_of SetWindow = set_feature window_fid 0 FeatureSet true
shape_of GetNotices = get_feature notices_fid 0 NoSet false
shape_of GetConfig = get_feature config_fid feature_size FeatureSet false
shape_of GetWindow = get_feature window_fid 0 FeatureSet true
shape_of ReadLatency = read_log latency_page_no latency_size LogSet
shape_of ReadAggregate = read_log aggregate_page_no aggregate_size NoSet
shape_of EventRequest = requested
shape_of Identify = identified set_list_cns identify_size

-- all that are listed; the last of an opcode stands for what is not (`pick`), so that a feature command names its set all the same
abbrev pub kinds : List Kind
kinds =
    SetNotices ∷ SetConfig ∷ SetWindow ∷ GetNotices ∷ GetConfig ∷ GetWindow ∷ ReadLatency ∷ ReadAggregate ∷ EventRequest ∷ Identify ∷ []

-- ---- which command it is

abbrev pub has_opcode : ℕ → Kind → Bool
has_opcode n k = eqb n (shape_of k).opcode

-- a FID, CNS or page is that of a kind which has one; a request has none, and takes any
abbrev pub is_choice : Option ℕ → ℕ → Bool
is_choice None n = true
is_choice (Some its) n = eqb n its

abbrev pub has_choice : ℕ → Kind → Bool
has_choice n k = is_choice (shape_of k).choice n

-- the first of these kinds with a FID, CNS or page; where none has it, the last
abbrev pub pick : List Kind → ℕ → Kind
pick [] choice = Identify
pick (k ∷ []) choice = k
pick (k ∷ l ∷ ks) choice = if has_choice choice k then k else pick (l ∷ ks) choice

-- The kind with this opcode and this FID, CNS or page. One that the table does not list is given some kind too, of its opcode where
-- there is one: the status table refuses it, and a feature command names its set all the same.
unfoldable pub kind_by : ℕ → ℕ → Kind
kind_by opcode choice = pick (keep (has_opcode opcode) kinds) choice

abbrev pub kind_of : Command → Kind
kind_of c = kind_by (opcode c) (chosen c)

-- ---- whom it names

abbrev pub some_set : Whom → Bool
some_set NoSet = false
some_set FeatureSet = true
some_set LogSet = true

-- "CDW11 15:0 is the set" of a feature command, "31:16 set for 0Ah"
abbrev pub set_by : Whom → Command → ℕ
set_by NoSet c = 0
set_by FeatureSet c = feature_set c
set_by LogSet c = log_set c

-- "The items that name a set are events other than ticks, feature commands and reads of 0Ah; Identify and 0Bh name none.", amended by
-- 02: "Opcode 0Ch and FID 0Bh .. name no set"
abbrev pub is_named : Kind → Bool
is_named k = some_set (shape_of k).whom

abbrev pub named_by : Kind → Command → ℕ
named_by k c = set_by (shape_of k).whom c

-- ---- how many bytes it needs

-- of data in: "512 data bytes" of 13h
abbrev pub needs_in : Kind → ℕ
needs_in k = (shape_of k).takes

-- of room in the answer buffer: "Get returns enable with the 512 bytes"; of a log read "Dwords moved are count + 1", past the page's end
-- too; "Identify 04h, 4,096 bytes"
abbrev pub needs_out : Kind → Command → ℕ
needs_out k c = if (shape_of k).part then dwords c * dword_size else (shape_of k).page
