-- What a command that names a set does, where the set was found: for the functions that carry it out.
use Rattle.std.specs.Prelude.{◌≡◌, List, ◌++◌, ℕ, eqb, length, if◌then◌else◌, None}
use Rattle.record.specs.declared.Record.{Record}
use Rattle.record.specs.Event.{settled, newly_listed}
use Rattle.desk.specs.Desk.{Told, settle}
use Rattle.replies.specs.Status.{first_of}
use Rattle.replies.specs.Answers.{Notice, Answer, refused, Replied}
use Rattle.replies.specs.declared.Reply.{Reply}
use Rattle.table.specs.Layout.{words_of, record_of}
use Rattle.table.specs.Table.{desk_at, with_desk, row, put}
use Rattle.commands.specs.declared.Command.{Command}
use Rattle.commands.specs.declared.Kind.{Kind}
use Rattle.commands.specs.StatusTable.{early_lines, late_lines}
use Rattle.steps.specs.Commanded.{doing, answer_of}

-- the status of the command on this set
unfoldable pub status_on : Kind → Command → ℕ → ℕ → Record → ℕ
status_on k c given room r = first_of (early_lines c ++ late_lines k c given room r.state)

-- the set's record after it
abbrev pub after_on : Kind → Command → List ℕ → Record → Record
after_on k c given r = settled r ((doing k).rule c given r.attributes r.state)

abbrev pub answer_on : Kind → Command → List ℕ → ℕ → Record → Answer
answer_on k c given room r =
    if eqb (status_on k c (length given) room r) 0 then answer_of k c r else refused (status_on k c (length given) room r)

-- what its end makes of the desk: whether the set was listed by it
abbrev pub told_on : List ℕ → Kind → Command → List ℕ → Record → Told
told_on ws k c given r = settle (newly_listed r (after_on k c given r)) (desk_at ws)

abbrev pub table_on : List ℕ → ℕ → Kind → Command → List ℕ → ℕ → Record → List ℕ
table_on ws slot k c given room r =
    if eqb (status_on k c (length given) room r) 0
    then with_desk (put ws slot (words_of (after_on k c given r))) (told_on ws k c given r).desk
    else ws

abbrev pub notice_on : List ℕ → Kind → Command → List ℕ → ℕ → Record → Notice
notice_on ws k c given room r = if eqb (status_on k c (length given) room r) 0 then (told_on ws k c given r).notice else None

pub record OnSet (ws : List ℕ) (slot : ℕ) (k : Kind) (c : Command) (given before : List ℕ) (r : Reply) (words buffer : List ℕ) : Type 0 where
  pub table : words ≡ table_on ws slot k c given (length before) (record_of (row ws slot))
  pub reply : Replied (answer_on k c given (length before) (record_of (row ws slot))) before r buffer
  pub notice : r.notice ≡ notice_on ws k c given (length before) (record_of (row ws slot))
