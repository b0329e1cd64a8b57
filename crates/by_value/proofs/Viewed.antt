-- Commands that name no set, from the step to the words and the answer buffer.
use mathlib.Core.Path.{◌≡◌, refl, sym, ◌∙◌}
use mathlib.Core.Bool.{Bool, true, false, not, ◌&&◌}
use mathlib.Core.List.{List, [], ◌∷◌, ◌++◌}
use Prim.Native.Nat.{ℕ, ◌≤◌}
use borrow.Author.Tests.{eqb-true, eqb-false}
use lib.Dec.{eqb}
use lib.ListN.{length}
use lib.Seq.{sets}
use Rattle.std.specs.Prelude.{if◌then◌else◌, None}
use Rattle.replies.specs.Answers.{Notice, saying, answered, refused, refusing, giving, beside_of, Replied}
use Rattle.replies.specs.declared.Reply.{Reply}
use Rattle.replies.specs.Status.{first_of}
use Rattle.replies.proofs.Answering.{granting, one_outcome, with_notice, refused_reply, no_data, waits_reply}
use Rattle.desk.specs.Desk.{lifted, settle}
use Rattle.table.specs.Table.{desk_at, with_desk, DeskThere, Tells, legal_table}
use Rattle.table.proofs.LegalTables.{legal_known, desk_there}
use Rattle.table.proofs.Desks.{quiet_tells}
use Rattle.table.proofs.Written.{written_desk}
use Rattle.commands.specs.declared.Command.{Command}
use Rattle.commands.specs.declared.Kind.{Kind}
use Rattle.commands.specs.declared.Kind.TheVariants.{GetNotices, ReadAggregate, Identify}
use Rattle.commands.specs.Commands.{command_in, retain}
use Rattle.commands.specs.Shapes.{shape_of, kind_of, is_named, named_by}
use Rattle.commands.specs.StatusTable.{early_lines, short_line}
use Rattle.steps.specs.Items.{Item, command, Nobody, The}
use Rattle.steps.specs.Commanded.{aggregate_of, set_list_of, notices_no, doing, asked_of, named, view_lines, viewed, meaning_by}
use Rattle.steps.specs.Meanings.{meaning}
use Rattle.steps.specs.Card.{refusal_of, after, answer}
use Rattle.steps.specs.Words.{card_of, Answered}
use Rattle.steps.proofs.AtDesk.{nobody_sets, told_nobody}
use Rattle.steps.proofs.StepOnWords.{step_legal, step_refused}
use Rattle.steps.proofs.CommandIs.{command_is}
use Rattle.by_value.proofs.EventsAndTicks.{turned_down}

-- what the rows of the status table say of it, on this card
abbrev pub view_status : Kind → Command → ℕ → ℕ → List ℕ → ℕ
view_status k c given room ws = first_of (view_lines k c given room (length (desk_at ws).waiting))

-- one that does not queue is never refused for want of a place: the rows above that one decide
pub unqueued :
    (k : Kind) (c : Command) (given room : ℕ) (ws : List ℕ) (s : ℕ) → (shape_of k).queues ≡ false
    → s ≡ first_of (early_lines c ++ short_line k c given room ∷ []) → s ≡ view_status k c given room ws
unqueued k c given room ws s h e = e ∙ rw h

module _ (ws : List ℕ) (i : Item) (k : Kind) (c : Command) (given : ℕ) (before : List ℕ)
    (m : meaning i ≡ Nobody (viewed k c given (length before))) (e : legal_table ws ≡ true) (s : ℕ) (es : s ≡ view_status k c given (length before) ws) where
  refusal_is : refusal_of (card_of ws) i ≡ s
  unfolding refusal_of
  refusal_is = rw m (sym es)

  pub viewed_refused : (x : Reply) → (s ≡ 0 → ⊥) → x ≡ refusing s → Answered ws i before x ws before
  viewed_refused x n ex = turned_down ws i before s x (step_refused ws i s e refusal_is n) ex

  answer_is : s ≡ 0 → answer (card_of ws) i ≡ saying (doing k).status ((doing k).word (card_of ws)) (asked_of k c ((doing k).view c (card_of ws)))
  unfolding answer
  answer_is z = rw (m, ← es, z)

  -- carried out: the desk after it, and its reply, with the notice that goes out
  pub viewed_done :
      (vs : List ℕ) (n : Notice) (x : Reply) (buffer : List ℕ) → s ≡ 0 → Tells ws (settle false ((doing k).desk c (desk_at ws))) vs n
      → Replied (saying (doing k).status ((doing k).word (card_of ws)) (asked_of k c ((doing k).view c (card_of ws)))) before x buffer → x.notice ≡ n
      → Answered ws i before x vs buffer
  viewed_done vs n x buffer z t p ex =
      let d = step_legal ws i e in
      let w = written_desk ws (legal_known ws e) (after (card_of ws) i) (nobody_sets i _ m (card_of ws)) in
      let o = told_nobody i _ m (card_of ws) (refusal_is ∙ z) in
      record { table = rw (d, w, o) t.desk; reply = rw (d, answer_is z) p; notice = rw (d, o) (ex ∙ t.sent) }

  -- without dword 0 and data
  pub viewed_told :
      (vs : List ℕ) (n : Notice) (y x : Reply) → s ≡ 0 → Tells ws (settle false ((doing k).desk c (desk_at ws))) vs n
      → (doing k).word (card_of ws) ≡ 0 → asked_of k c ((doing k).view c (card_of ws)) ≡ [] → y ≡ refusing (doing k).status → x ≡ beside_of y n
      → Answered ws i before x vs before
  viewed_told vs n y x z t w v ey ex = viewed_done vs n x before z t (rw (ex, ey, w, v) (waits_reply (doing k).status before n)) (rw ex)

-- ---- page 0Bh, which lifts the mask and drops the flag unless Retain is set

lifts_tells :
    (ws vs : List ℕ) → DeskThere ws → (b : Bool) → vs ≡ (if not b then with_desk ws (lifted (desk_at ws)) else ws)
    → Tells ws (settle false (if b then desk_at ws else lifted (desk_at ws))) vs None
lifts_tells ws vs t true h = rw h (quiet_tells ws t)
lifts_tells ws vs t false h = record { desk = h; sent = refl }

module _ (ws : List ℕ) (i : Item) (c : Command) (given : ℕ) (before : List ℕ) (m : meaning i ≡ Nobody (viewed ReadAggregate c given (length before)))
    (e : legal_table ws ≡ true) (s : ℕ) (es : s ≡ view_status ReadAggregate c given (length before) ws) (bytes : List ℕ) (y x : Reply) (buffer vs : List ℕ)
    (eb : bytes ≡ asked_of ReadAggregate c (aggregate_of c (card_of ws))) (p : Replied (answered s 0 bytes) before y buffer) (ex : x ≡ beside_of y None)
    (ev : vs ≡ (if eqb s 0 && not (retain c) then with_desk ws (lifted (desk_at ws)) else ws)) where
  reply_is : Replied (answered s 0 bytes) before x buffer
  reply_is = rw ex (with_notice _ before buffer y None p)

  by_status : (b : Bool) → eqb s 0 ≡ b → Answered ws i before x vs buffer
  by_status true t =
      viewed_done ws i ReadAggregate c given before m e s es vs None x buffer (eqb-true s 0 t)
      (lifts_tells ws vs (desk_there ws (legal_known ws e)) (retain c) (rw t at ev)) (rw (t, eb) at reply_is) (rw ex)
  by_status false t =
      let f = one_outcome (refused s) before buffer before x (refusing s) (rw t at reply_is) (refused_reply s before) (rw ex) in
      let v : vs ≡ ws = rw t at ev in
      rw (v, f.1) (viewed_refused ws i ReadAggregate c given before m e s es x (eqb-false s 0 t) f.0)

  pub aggregate_read : Answered ws i before x vs buffer
  aggregate_read = by_status (eqb s 0) refl

-- ---- Identify: the whole page, written where the answer starts

pub identified :
    (ws : List ℕ) (i : Item) (c : Command) (given : ℕ) (before : List ℕ) → meaning i ≡ Nobody (viewed Identify c given (length before))
    → legal_table ws ≡ true → (s : ℕ) → s ≡ view_status Identify c given (length before) ws → (n : ℕ) (page : List ℕ) (x : Reply) (buffer : List ℕ)
    → s ≡ 0 → page ≡ set_list_of c (card_of ws) → n ≡ length page → n ≤ length before → buffer ≡ sets before 0 page → x ≡ giving 0 n
    → Answered ws i before x ws buffer
identified ws i c given before m e s es n page x buffer z ep en h eb ex =
    viewed_done ws i Identify c given before m e s es ws None x buffer z (quiet_tells ws (desk_there ws (legal_known ws e)))
    (rw (ex, ← ep) (granting n 0 page before buffer en h eb)) (rw ex)

-- ---- Get Features 0Bh: dword 0 alone

pub notices_read :
    (ws : List ℕ) (i : Item) (c : Command) (given : ℕ) (before : List ℕ) → meaning i ≡ Nobody (viewed GetNotices c given (length before))
    → legal_table ws ≡ true → (s : ℕ) → s ≡ view_status GetNotices c given (length before) ws → (on : Bool) (w : ℕ) (x : Reply)
    → s ≡ 0 → on ≡ (desk_at ws).on → w ≡ notices_no on → x ≡ giving w 0 → Answered ws i before x ws before
notices_read ws i c given before m e s es on w x z eo ew ex =
    viewed_done ws i GetNotices c given before m e s es ws None x before z (quiet_tells ws (desk_there ws (legal_known ws e)))
    (rw (ex, ew, eo) (no_data _ before)) (rw ex)

-- ---- which command it is

module _ (bytes given : List ℕ) (room : ℕ) (c : Command) (k : Kind) (ec : c ≡ command_in bytes) (ek : k ≡ kind_of c) where
  meaning_is : meaning (command bytes given room) ≡ meaning_by k c given room
  meaning_is = rw ec (command_is bytes given room k (sym (rw ec at ek)))

  pub is_named_lem : is_named k ≡ true → meaning (command bytes given room) ≡ The (named_by k c) (named k c given room)
  is_named_lem n = meaning_is ∙ rw n

  pub is_viewed : is_named k ≡ false → meaning (command bytes given room) ≡ Nobody (viewed k c (length given) room)
  is_viewed n = meaning_is ∙ rw n
