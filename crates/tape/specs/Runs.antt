-- Printouts of whole files: 01's "Whole run", one for each way in which a file can end, and two with a notice.
use Rattle.std.specs.Prelude.{◌≡◌, List, [], ◌∷◌, ◌++◌, ℕ, ◌+◌, ◌*◌, ◌^◌, take}
use Prim.Native.String.{String}
use Rattle.octets.specs.Octets.{bytes_of}
use Rattle.octets.specs.Pages.{field, place}
use Rattle.pages.specs.Features.{feature_size}
use Rattle.pages.specs.Bodies.{body}
use Rattle.steps.specs.Order.{seven, Each}
use Rattle.steps.specs.Edges.{command_of}
use Rattle.tape.specs.Text.{signs}
use Rattle.tape.specs.Tape.{command_kind, data_kind, reads_kind, tick_kind, attributes_kind, attributes_size}
use Rattle.tape.specs.Printout.{printout}

-- ---- pieces of a file: a kind, then a body

-- "set 7, typicals 100 and 50, maximum 1000, high 20, low 5"
abbrev set_seven : List ℕ
set_seven = attributes_kind ∷ body seven

abbrev ticked : ℕ → List ℕ
ticked t = tick_kind ∷ bytes_of 4 t

-- reads of set 7
abbrev read_of : ℕ → List ℕ
read_of k = reads_kind ∷ bytes_of 2 7 ++ bytes_of 2 k

-- "01h command"; "02h command with data"
abbrev bare : List ℕ → List ℕ
bare bytes = command_kind ∷ bytes

abbrev with_data : List ℕ → List ℕ → List ℕ
with_data bytes given = data_kind ∷ bytes ++ given

-- Set Features 13h of set 7: "Enable with ENEV 4001h and reads threshold 10"
abbrev enabling : List ℕ
enabling = with_data (command_of 0x09 0x13 7 1) (place feature_size (field 0 2 0x4001 ∷ field 32 8 10 ∷ []))

-- Set Features 14h of set 7: window D
abbrev select_d : List ℕ
select_d = bare (command_of 0x09 0x14 7 1)

-- Get Features 14h of set 7
abbrev get_window : List ℕ
get_window = bare (command_of 0x0A 0x14 7 0)

-- Get Log Page 0Bh: "for 3 dwords"
abbrev read_list : List ℕ
read_list = bare (command_of 0x02 0x2000B 0 0)

-- 02: Set Features 0Bh, bit 12, and a request
abbrev turn_on : List ℕ
turn_on = bare (command_of 0x09 0x0B 0x1000 0)

abbrev request : ℕ → List ℕ
request id = bare (command_of (0x0C + id * 2 ^ 16) 0 0 0)

-- ---- the table: each row has a file, and its printout as text

pub record Run : Type 0 where
  pub file : List ℕ
  pub text : List ℕ

abbrev run : List ℕ → String → Run
run file text = record { file = file; text = signs text }

unfoldable pub runs : List Run
runs =
    -- "Whole run": "Enable with ENEV 4001h and reads threshold 10; tick 20; select D; read 91; read 0Bh for 3 dwords; read 10; get
    -- 14h; select D."
    run (set_seven ++ enabling ++ ticked 20 ++ select_d ++ read_of 91 ++ read_list ++ read_of 10 ++ get_window ++ select_d)
    "sets 1 0000\n0000 00000000\n0000 00000000\n0000 00000000\n0000 00000000\n0000 00000000 010000000000000007000000\n0000 00000000\n0000 00000002\n07C1 00000000\nend 8\n"
    -- no set at all: "number of sets .. wrong 07C4h"
    ∷ run [] "sets 0 07C4\n"
    -- no item: "then "end N""
    ∷ run set_seven "sets 1 0000\nend 0\n"
    -- the same set twice, and an item: "If set-up is refused, only the first line."
    ∷ run (set_seven ++ set_seven ++ ticked 20) "sets 2 07C4\n"
    -- "a cut 07h prints "bad 0" alone"
    ∷ run (set_seven ++ take attributes_size set_seven) "bad 0\n"
    -- "Unknown kind": 0Ah, after an item
    ∷ run (set_seven ++ ticked 20 ++ 0x0A ∷ []) "sets 1 0000\n0000 00000000\nbad 1\n"
    -- "a late 07h"
    ∷ run (set_seven ++ ticked 20 ++ set_seven) "sets 1 0000\n0000 00000000\nbad 1\n"
    -- a late 07h that is cut is late
    ∷ run (set_seven ++ ticked 20 ++ take attributes_size set_seven) "sets 1 0000\n0000 00000000\nbad 1\n"
    -- "or a cut body"
    ∷ run (set_seven ++ take 4 (ticked 20)) "sets 1 0000\nbad 0\n"
    -- 02: "replay adds a line: identifier, dword 0", right after that of the item that lists a set; it is not counted
    ∷ run (set_seven ++ turn_on ++ request 5 ++ enabling ++ ticked 20 ++ select_d ++ read_of 91 ++ 0x0A ∷ [])
    "sets 1 0000\n0000 00000000\n07C8 00000000\n0000 00000000\n0000 00000000\n0000 00000000\n0000 00000000\n0005 000B0402\nbad 6\n"
    -- "(one just arriving still gets 07C8h first)"
    ∷ run (set_seven ++ turn_on ++ enabling ++ ticked 20 ++ select_d ++ read_of 91 ++ request 5)
    "sets 1 0000\n0000 00000000\n0000 00000000\n0000 00000000\n0000 00000000\n0000 00000000\n07C8 00000000\n0005 000B0402\nend 6\n"
    ∷ []

-- proved as `runs_hold` in proofs/RunsHold.antt
abbrev pub RunsHold : Type 0
RunsHold = Each (λ (r : Run). printout r.file ≡ r.text) runs
