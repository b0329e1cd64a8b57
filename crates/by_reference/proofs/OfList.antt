-- The laws of specs/Lists.antt.
use mathlib.Core.Path.{◌≡◌, refl, sym, ap, ◌∙◌}
use mathlib.Core.List.{List, [], ◌∷◌, ◌++◌, map, append_assoc}
use Prim.Native.Nat.{ℕ, ◌+◌}
use lib.ListN.{length, take, length-append}
use lib.Seq.{take_at, drop_at}
use Rattle.octets.specs.Octets.{part}
use Rattle.record.specs.declared.Attributes.{Attributes}
use Rattle.pages.specs.Bodies.{body_size, body, attributes_in, Sized, AllSized}
use Rattle.pages.proofs.Back.{body_length, body_alone, body_back}
use Rattle.steps.specs.Words.{OutcomeWords}
use Rattle.steps.specs.SetUp.{new_record, attributes_from, new_sets}
use Rattle.by_reference.specs.Lists.{bodies_of, TheirOwn, TooMany}
use Rattle.steps.proofs.NewSets.{refused_many}
use Rattle.by_reference.proofs.Filled.{bodies_many}

-- a body among bytes
among : (before rest : List ℕ) (a : Attributes) → Sized a → attributes_in (before ++ (body a ++ rest)) (length before) ≡ a
among before rest a s =
    let whole : part (before ++ (body a ++ rest)) (length before) body_size ≡ body a
    = ap (λ (l : List ℕ). take body_size l) (drop_at before (body a ++ rest) (length before) refl) ∙ take_at (body a) rest body_size (body_length a) in
    sym (body_alone (before ++ (body a ++ rest)) (length before)) ∙ ap (λ (l : List ℕ). attributes_in l 0) whole ∙ body_back a s

read_list_lem : (list : List Attributes) (before : List ℕ) → AllSized list → attributes_from (before ++ bodies_of list) (length before) (length list) ≡ list
read_list_lem [] before s = refl
read_list_lem (a ∷ list) before s =
    let next : length (before ++ body a) ≡ length before + body_size = length-append before (body a) ∙ ap (λ (n : ℕ). length before + n) (body_length a) in
    let rest : attributes_from (before ++ (body a ++ bodies_of list)) (length before + body_size) (length list) ≡ list
    = rw (← next, ← append_assoc before (body a) (bodies_of list)) (read_list_lem list (before ++ body a) s.1) in
    λ i. among before (bodies_of list) a s.0 i ∷ rest i

pub their_own : TheirOwn
unfolding new_sets
their_own list s = rw (bodies_many list) (ap (map new_record) (read_list_lem list [] s))

pub too_many : TooMany
too_many list ws after number h p =
    let refusal = refused_many (bodies_of list) ws (rw (bodies_many list) h) in
    (p.status ∙ ap (λ (r : OutcomeWords). r.answer.status) refusal, p.table ∙ ap (λ (r : OutcomeWords). r.table) refusal)
