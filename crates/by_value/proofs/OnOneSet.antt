-- A command carried out on the set that it names, and one that is refused there.
use mathlib.Core.Path.{◌≡◌, sym, ap, subst, ◌∙◌}
use mathlib.Core.Bool.{Bool, true}
use mathlib.Core.List.{List}
use Prim.Native.Nat.{ℕ, ◌≤◌}
use borrow.Author.Tests.{eq-eqb, ne_eqb}
use lib.Dec.{eqb}
use lib.ListN.{length}
use lib.Seq.{sets}
use Rattle.octets.specs.Octets.{padded}
use Rattle.octets.proofs.Runs.{padded_whole}
use Rattle.octets.proofs.Pages.{length_place}
use Rattle.record.specs.declared.Record.{Record}
use Rattle.record.specs.Event.{newly_listed}
use Rattle.replies.specs.Answers.{Notice, Answer, refused, refusing, giving, beside_of, Replied}
use Rattle.replies.specs.declared.Reply.{Reply}
use Rattle.replies.proofs.Answering.{granting, refused_reply, with_notice}
use Rattle.desk.specs.Desk.{settle}
use Rattle.table.specs.Layout.{words_of, record_of}
use Rattle.table.specs.Table.{row, put, desk_at, Tells}
use Rattle.pages.specs.Features.{feature_size, config_fields, config_page}
use Rattle.pages.specs.Latency.{latency_size, latency_fields, latency_page}
use Rattle.commands.specs.declared.Command.{Command}
use Rattle.commands.specs.declared.Kind.{Kind}
use Rattle.commands.specs.declared.Kind.TheVariants.{GetConfig, ReadLatency}
use Rattle.commands.specs.Commands.{offset}
use Rattle.commands.specs.Shapes.{kind_of, needs_out}
use Rattle.steps.specs.Commanded.{mode_no, answer_of}
use Rattle.by_value.specs.OnSet.{status_on, after_on, answer_on, OnSet}
use Rattle.by_value.proofs.Passed.{Fine, fine}
use Rattle.by_value.proofs.Told.{told_put}

pub latency_long : (r : Record) → length (latency_page r) ≡ latency_size
unfolding latency_page
latency_long r = length_place latency_size (latency_fields r)

-- a whole page handed out: that of 13h, and that of 0Ah
pub whole_config : (c : Command) (r : Record) (w : ℕ) (before after : List ℕ) → w ≡ mode_no r.state → feature_size ≤ length before → after ≡ sets before 0 (config_page r.state.config)
    → Replied (answer_of GetConfig c r) before (giving w feature_size) after
unfolding config_page
whole_config c r w before after e h ea =
    rw e (granting feature_size (mode_no r.state) (config_page r.state.config) before after (sym (length_place feature_size (config_fields r.state.config))) h ea)

pub whole_latency : (c : Command) (r : Record) (from n : ℕ) (before after : List ℕ) → from ≡ offset c → n ≡ needs_out ReadLatency c → from ≡ 0 → n ≡ latency_size
    → n ≤ length before → after ≡ sets before 0 (latency_page r) → Replied (answer_of ReadLatency c r) before (giving 0 n) after
whole_latency c r from n before after ef en zf zn h ea =
    let l : length (latency_page r) ≡ latency_size = latency_long r in
    let p : padded (latency_page r) (offset c) (needs_out ReadLatency c) ≡ latency_page r = rw (← ef, ← en, zf, zn) (padded_whole (latency_page r) latency_size l) in
    rw p (granting n 0 (latency_page r) before after (zn ∙ sym l) h ea)

pub fine_on : (k : Kind) (c : Command) (given room : ℕ) (r : Record) (s : ℕ) → k ≡ kind_of c → s ≡ status_on k c given room r → s ≡ 0 → Fine k c given room
unfolding status_on
fine_on k c given room r s e q z = fine k c given room r.state e (sym q ∙ z)

module _ (ws : List ℕ) (slot : ℕ) (k : Kind) (c : Command) (given before : List ℕ) (x : Reply) (rec : Record) (s : ℕ)
    (er : rec ≡ record_of (row ws slot)) (es : s ≡ status_on k c (length given) (length before) rec) where
  status_is : s ≡ status_on k c (length given) (length before) (record_of (row ws slot))
  status_is = es ∙ ap (status_on k c (length given) (length before)) er

  pub on_refused : (s ≡ 0 → ⊥) → x ≡ refusing s → OnSet ws slot k c given before x ws before
  on_refused n ex =
      let t : eqb (status_on k c (length given) (length before) (record_of (row ws slot))) 0 ≡ _ = ne_eqb _ 0 (λ z. n (status_is ∙ z)) in
      let a : refused s ≡ answer_on k c given (length before) (record_of (row ws slot)) = rw t (ap refused status_is) in
      record {
        table = rw t;
        reply = rw ex (subst (λ (y : Answer). Replied y before (refusing s) before) a (refused_reply s before));
        notice = rw (ex, t);
      }

  -- the record after it, stored; its reply; and then the desk told of it, with the notice beside that reply
  pub on_done :
      (r' : Record) (us words buffer : List ℕ) (y : Reply) (new : Bool) (n : Notice) → s ≡ 0 → r' ≡ after_on k c given rec
      → us ≡ put ws slot (words_of r') → Replied (answer_of k c rec) before y buffer → new ≡ newly_listed rec r'
      → Tells us (settle new (desk_at us)) words n → x ≡ beside_of y n → OnSet ws slot k c given before x words buffer
  on_done r' us words buffer y new n z e h p en t ex =
      let q : eqb (status_on k c (length given) (length before) (record_of (row ws slot))) 0 ≡ true = eq-eqb _ 0 (sym status_is ∙ z) in
      let a : answer_of k c rec ≡ answer_on k c given (length before) (record_of (row ws slot)) = rw q (ap (answer_of k c) er) in
      let d = rw (e, er) at (told_put ws us words new n t slot rec r' h en) in
      record {
        table = rw q d.desk;
        reply = rw ex (subst (λ (b : Answer). Replied b before (beside_of y n) buffer) a (with_notice _ before buffer y n p));
        notice = rw (ex, q) d.sent;
      }
