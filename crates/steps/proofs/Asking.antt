-- Identify asked again: no item changes a set's attributes, so the answers are parts of one list.
use mathlib.Core.Path.{◌≡◌, refl, ap, ap₂, subst, ◌∙◌}
use mathlib.Core.Bool.{Bool, true, false, not, ◌&&◌, false≢true}
use mathlib.Core.List.{List, [], ◌∷◌, ◌++◌, map}
use mathlib.Core.Logic.{◌⊎◌, inl, inr, ⊎_elim}
use Prim.Native.Nat.{ℕ, zero, suc, ◌≤◌}
use native.Mathlib.Omega.{arith}
use native.Mathlib.Nat.{mod-eq_of_lt}
use borrow.Author.Tests.{eqb-true, eq-eqb, le-ltb}
use lib.Dec.{eqb}
use lib.ListN.{length, length-map}
use Rattle.std.specs.Prelude.{if◌then◌else◌}
use Rattle.octets.specs.Octets.{part, bytes_of, number_of}
use Rattle.octets.proofs.JoinedTests.{both, together, and_left}
use Rattle.octets.proofs.PutAndGet.{number_bytes}
use Rattle.record.specs.declared.Attributes.{Attributes}
use Rattle.record.specs.declared.Record.{Record}
use Rattle.record.specs.Parts.{id_of}
use Rattle.record.specs.Legal.{number_maximum}
use Rattle.replies.specs.Numbers.{success}
use Rattle.replies.specs.Answers.{Answer, granted}
use Rattle.table.specs.Table.{legal_sets}
use Rattle.pages.specs.Identify.{identify_size, identify_page}
use Rattle.pages.specs.Asking.{next_in, is_last, Ask, ask_of, asks_from, through, asks_most}
use Rattle.pages.proofs.Asking as pages
use Rattle.commands.specs.declared.Kind.{Kind}
use Rattle.commands.specs.declared.Kind.TheVariants.{SetNotices, SetConfig, SetWindow, GetNotices, GetConfig, GetWindow, ReadLatency, ReadAggregate, EventRequest, Identify}
use Rattle.commands.specs.Commands.{command_size, bits, asked, command_in}
use Rattle.commands.specs.Shapes.{identify_opcode, set_list_cns, kind_by, kind_of}
use Rattle.steps.specs.Items.{Card, Item, reads, writes, excursion, tick, command}
use Rattle.steps.specs.Commanded.{attributes_of}
use Rattle.steps.specs.Card.{concerns, ruled, touched, refusal_of, answer, step}
use Rattle.steps.specs.Edges.{command_of}
use Rattle.steps.specs.Asking.{is_set_list, ask_in, asks, AskingGives, AsksList, AskAnswered, identify_from, host_asks, EachSetOnce}
use Rattle.steps.proofs.CommandIs.{command_is}
use Rattle.steps.proofs.Slots.{ordered}
use Rattle.steps.proofs.ExactRefusals.{not_refused}
use Rattle.steps.proofs.IdleRefuted.{id_fits}

-- ---- no item changes a set's attributes

attributes_by : (b : Bool) (i : Item) (r : Record) → (if b then ruled i r else r).attributes ≡ r.attributes
attributes_by true i r = refl
attributes_by false i r = refl

touched_attributes : (n : ℕ) (i : Item) (r : Record) → (touched n i r).attributes ≡ r.attributes
unfolding touched
touched_attributes n i r = attributes_by (concerns n (id_of r) i) i r

each_kept : (n : ℕ) (i : Item) (rs : List Record) → attributes_of (map (touched n i) rs) ≡ attributes_of rs
each_kept n i [] = refl
each_kept n i (r ∷ rs) = λ k. touched_attributes n i r k ∷ each_kept n i rs k

pub attributes_kept : (c : Card) (i : Item) → attributes_of (step c i).card.sets ≡ attributes_of c.sets
attributes_kept c i = each_kept (length c.sets) i c.sets

-- legal sets rise
pub sets_ordered : (p : ℕ) (rs : List Record) → legal_sets p rs ≡ true → pages.Ordered p (attributes_of rs)
sets_ordered p [] h = tt
sets_ordered p (r ∷ rs) h =
    let o = ordered p r rs h in
    let fits = id_fits r.attributes (and_left _ _ (and_left _ _ o.legal)) in
    (o.above, omega (arith, fits), sets_ordered (id_of r) rs o.rest)

-- ---- what an ask is answered

is_identify : (k : Kind) → is_set_list k ≡ true → k ≡ Identify
is_identify SetNotices h = absurd (false≢true h)
is_identify SetConfig h = absurd (false≢true h)
is_identify SetWindow h = absurd (false≢true h)
is_identify GetNotices h = absurd (false≢true h)
is_identify GetConfig h = absurd (false≢true h)
is_identify GetWindow h = absurd (false≢true h)
is_identify ReadLatency h = absurd (false≢true h)
is_identify ReadAggregate h = absurd (false≢true h)
is_identify EventRequest h = absurd (false≢true h)
is_identify Identify h = refl

identify_answer :
    (c : Card) (bytes given : List ℕ) (room : ℕ) → kind_of (command_in bytes) ≡ Identify → refusal_of c (command bytes given room) ≡ 0
    → answer c (command bytes given room) ≡ granted 0 (identify_page (asked (command_in bytes)) (attributes_of c.sets))
unfolding answer refusal_of
identify_answer c bytes given room k h = let m = command_is bytes given room Identify k in rw (m, rw m at h)

module _ (c : Card) (bytes given : List ℕ) (room : ℕ) (came : List ℕ) (r : pages.Reads came (answer c (command bytes given room)).bytes) where
  asked_by : (b : Bool) → is_set_list (kind_of (command_in bytes)) && eqb (answer c (command bytes given room)).status success ≡ b
      → pages.Answers (attributes_of c.sets) (if b then ask_of (asked (command_in bytes)) came ∷ [] else [])
  asked_by false e = tt
  asked_by true e =
      let t = both (is_set_list (kind_of (command_in bytes))) _ e in
      let s : (answer c (command bytes given room)).status ≡ 0 = eqb-true (answer c (command bytes given room)).status success t.1 in
      let a = identify_answer c bytes given room (is_identify (kind_of (command_in bytes)) t.0) (not_refused c (command bytes given room) s) in
      let page : (answer c (command bytes given room)).bytes ≡ identify_page (asked (command_in bytes)) (attributes_of c.sets) = ap (λ (x : Answer). x.bytes) a in
      (subst (pages.Reads came) page r, tt)

pub ask_reads : (c : Card) (i : Item) (came : List ℕ) → pages.Reads came (answer c i).bytes → pages.Answers (attributes_of c.sets) (ask_in i (answer c i).status came)
ask_reads c (reads id k) came r = tt
ask_reads c (writes id k) came r = tt
ask_reads c (excursion id) came r = tt
ask_reads c (tick t room) came r = tt
ask_reads c (command bytes given room) came r = asked_by c bytes given room came r _ refl

pub both_answered : (all : List Attributes) (xs ys : List Ask) → pages.Answers all xs → pages.Answers all ys → pages.Answers all (xs ++ ys)
both_answered all [] ys r s = s
both_answered all (x ∷ xs) ys r s = (r.0, both_answered all xs ys r.1 s)

-- of another host nothing is asked
pub mine_answered : (all : List Attributes) (b : Bool) (xs : List Ask) → pages.Answers all xs → pages.Answers all (if b then xs else [])
mine_answered all true xs r = r
mine_answered all false xs r = tt

answers : (all : List Attributes) (mine : Item → Bool) (c : Card) (items : List Item) → attributes_of c.sets ≡ all → pages.Answers all (asks mine c items)
answers all mine c [] e = tt
answers all mine c (i ∷ is) e =
    let own : List Ask = ask_in i (answer c i).status (answer c i).bytes in
    both_answered all (if mine i then own else []) (asks mine (step c i).card is)
    (mine_answered all (mine i) own (rw e at (ask_reads c i (answer c i).bytes (λ at n h. refl))))
    (answers all mine (step c i).card is (attributes_kept c i ∙ e))

pub asking_gives : AskingGives
asking_gives mine c items from l few h =
    pages.gives_each (attributes_of c.sets) (sets_ordered 0 c.sets l) from (asks mine c items) (simp length-map few) h
    (answers (attributes_of c.sets) mine c items refl)

-- ---- no ask is refused

module _ (bytes : List ℕ) (room : ℕ) (a : AsksList bytes room) where
  list_kind : kind_of (command_in bytes) ≡ Identify
  unfolding kind_by
  list_kind = ap₂ kind_by a.identifies a.lists_sets

  list_whole : (command_in bytes).whole ≡ true
  unfolding command_in
  list_whole = eq-eqb (length bytes) command_size a.whole

  list_done : (c : Card) (given : List ℕ) → refusal_of c (command bytes given room) ≡ 0
  unfolding refusal_of kind_by
  list_done c given =
      rw (command_is bytes given room Identify list_kind, list_whole, a.identifies, a.lists_sets, le-ltb room identify_size a.roomy, le-ltb (length given) 0 (omega arith))

pub ask_answered : AskAnswered
ask_answered c bytes given room a = ap (λ (x : Answer). x.status) (identify_answer c bytes given room (list_kind bytes room a) (list_done bytes room a c given))

-- ---- a host that asks so

abbrev identify_command : ℕ → List ℕ
identify_command from = command_of identify_opcode set_list_cns from 0

from_asks : (from : ℕ) → AsksList (identify_command from) identify_size
unfolding command_in
from_asks from = record { whole = refl; identifies = refl; lists_sets = refl; roomy = omega arith }

from_kind : (from : ℕ) → kind_of (command_in (identify_command from)) ≡ Identify
from_kind from = list_kind (identify_command from) identify_size (from_asks from)

from_asked : (from : ℕ) → from ≤ number_maximum → asked (command_in (identify_command from)) ≡ from
unfolding command_in
from_asked from h =
    let e : number_of (bytes_of 4 from) ≡ from = number_bytes 4 from ∙ mod-eq_of_lt (omega arith) in
    ap (bits 15 0) e ∙ omega arith

from_page : (c : Card) (from : ℕ) → from ≤ number_maximum → answer c (identify_from from) ≡ granted 0 (identify_page from (attributes_of c.sets))
from_page c from h =
    identify_answer c (identify_command from) [] identify_size (from_kind from) (list_done (identify_command from) identify_size (from_asks from) c [])
    ∙ ap (λ (n : ℕ). granted 0 (identify_page n (attributes_of c.sets))) (from_asked from h)

-- the ask that it is
abbrev the_ask : Card → ℕ → Ask
the_ask c from = ask_of from (answer c (identify_from from)).bytes

one_ask : (c : Card) (from : ℕ) → from ≤ number_maximum → ask_in (identify_from from) (answer c (identify_from from)).status (answer c (identify_from from)).bytes ≡ the_ask c from ∷ []
one_ask c from h = rw (from_kind from, ap (λ (a : Answer). a.status) (from_page c from h), from_asked from h)

more_asks : (from : ℕ) (a : Ask) (ds : List Ask) → eqb a.from from ≡ true → is_last a.answer ≡ false → asks_from (next_in a.answer) ds ≡ true
    → asks_from from (a ∷ ds) ≡ true
more_asks from a [] e n h = e
more_asks from a (b ∷ ds) e n h = together _ _ (together _ _ e (ap not n)) h

through_more : (a : Ask) (ds : List Ask) → through ds ≡ true → through (a ∷ ds) ≡ true
through_more a [] h = absurd (false≢true h)
through_more a (b ∷ ds) h = h

-- what it sends is asked in that way, and it is through, or has asked as often as it may
pub record Asked (n from : ℕ) (ds : List Ask) : Type 0 where
  pub right : asks_from from ds ≡ true
  pub ended : (through ds ≡ true) ⊎ (length ds ≡ n)

module _ (n from : ℕ) (a : Ask) (e : eqb a.from from ≡ true) where
  asked_last : is_last a.answer ≡ true → Asked (suc n) from (a ∷ [])
  asked_last t = record { right = e; ended = inl t }

  asked_more : (ds : List Ask) → is_last a.answer ≡ false → Asked n (next_in a.answer) ds → Asked (suc n) from (a ∷ ds)
  asked_more ds t p = record { right = more_asks from a ds e t p.right; ended = ⊎_elim (λ q. inl (through_more a ds q)) (λ q. inr (ap suc q)) p.ended }

host_by : (b : Bool) (n : ℕ) (c : Card) (from : ℕ) (later : List Item) → is_last (answer c (identify_from from)).bytes ≡ b → from ≤ number_maximum
    → (b ≡ false → Asked n (next_in (answer c (identify_from from)).bytes) (asks (λ i. true) (step c (identify_from from)).card later))
    → Asked (suc n) from (asks (λ i. true) c (identify_from from ∷ (if b then [] else later)))
host_by true n c from later e h p = rw (one_ask c from h) (asked_last n from (the_ask c from) (eq-eqb from from refl) e)
host_by false n c from later e h p = rw (one_ask c from h) (asked_more n from (the_ask c from) (eq-eqb from from refl) _ e (p refl))

host : (n : ℕ) (c : Card) (from : ℕ) → pages.Ordered 0 (attributes_of c.sets) → from ≤ number_maximum → Asked n from (asks (λ i. true) c (host_asks n c from))
host zero c from o h = record { right = refl; ended = inr refl }
host (suc n) c from o h =
    let page : (answer c (identify_from from)).bytes ≡ identify_page from (attributes_of c.sets) = ap (λ (a : Answer). a.bytes) (from_page c from h) in
    host_by (is_last (answer c (identify_from from)).bytes) n c from (host_asks n (step c (identify_from from)).card (next_in (answer c (identify_from from)).bytes)) refl h
    (λ e.
    host n (step c (identify_from from)).card (next_in (answer c (identify_from from)).bytes)
    (rw (attributes_kept c (identify_from from)) o)
    (pages.last_small (attributes_of c.sets) from o (answer c (identify_from from)).bytes (λ at m k. ap (λ (l : List ℕ). part l at m) page) e))

pub each_set_once : EachSetOnce
each_set_once c from l few h =
    let p = host asks_most c from (sets_ordered 0 c.sets l) h in
    let g = asking_gives (λ i. true) c (host_asks asks_most c from) from l few p.right in
    let ended : through (asks (λ i. true) c (host_asks asks_most c from)) ≡ true = ⊎_elim (λ t. t) g.ends p.ended in
    record { ended = ended; once = g.once ended }
