-- Bodies put one after another into bytes: what is held after each, and that set-up needs no more of a long list than it holds.
use mathlib.Core.Path.{◌≡◌, refl, sym, ap, ◌∙◌}
use mathlib.Core.Bool.{Bool, true, false}
use mathlib.Core.List.{List, [], ◌∷◌, ◌++◌, append-nil, append_assoc}
use Prim.Native.Nat.{ℕ, suc, ◌+◌, ◌-◌, ◌*◌, ◌/◌, ◌≤◌, ◌<◌, min}
use native.Mathlib.Omega.{arith}
use native.Mathlib.Nat.{zero-add}
use native.Mathlib.Numerals.{add-one}
use borrow.Author.Tests.{ltb-true, ltb-false, leb-true, leb-false, lt-ltb, le-ltb}
use borrow.Rule.Slice.PartMut.{put_mid}
use lib.Dec.{ltb, leb}
use lib.ListN.{length, get_or, take, drop, length-append, length-take, length-drop, take-append-drop}
use lib.Seq.{sets, sets-eq, length-sets, length-take-le, take_all, take-suc, drop-drop}
use Rattle.std.specs.Prelude.{if◌then◌else◌}
use Rattle.octets.specs.Octets.{padded}
use Rattle.octets.proofs.Runs.{sets_append, padded_whole}
use Rattle.record.specs.declared.Attributes.{Attributes}
use Rattle.table.specs.Table.{max_sets}
use Rattle.pages.specs.Bodies.{body_size, body, attributes_in}
use Rattle.pages.proofs.Back.{body_length}
use Rattle.steps.specs.Words.{OutcomeWords}
use Rattle.steps.specs.SetUp.{bodies, with_body, first_bodies, set_up, SetUp}
use Rattle.steps.proofs.NewSets.{refused_many, first_more}
use Rattle.by_reference.specs.Lists.{bodies_of}

-- a run stored at the start of what lies from a place on
stored_from : (l vs : List ℕ) (a : ℕ) → a + length vs ≤ length l → put_mid a (length l - a) l (sets (take (length l - a) (drop a l)) 0 vs) ≡ sets l a vs
stored_from l vs a h =
    let n = length l - a in
    let long : length (take n (drop a l)) ≡ n = simp (length-take, length-drop) (omega arith) in
    let rest : length (drop a l) ≡ n = length-drop a l in
    let joined : sets (take n (drop a l)) 0 vs ++ drop n (drop a l) ≡ sets (drop a l) 0 vs
    = sym (sets_append vs (take n (drop a l)) (drop n (drop a l)) 0 (omega arith)) ∙ ap (λ (z : List ℕ). sets z 0 vs) (take-append-drop n (drop a l)) in
    ap (λ (z : List ℕ). take a l ++ z) (joined ∙ sets-eq vs (drop a l) 0 (omega arith))
    ∙ rw (sets-eq vs l a h, zero-add, drop-drop (length vs) a l) (sym (append_assoc (take a l) vs (drop (a + length vs) l)))

stored_page :
    (l page r : List ℕ) (a n : ℕ) → length page ≡ n → a + n ≤ length l
    → r ≡ sets (take (length l - a) (drop a l)) 0 (padded page 0 n) → put_mid a (length l - a) l r ≡ sets l a page
stored_page l page r a n e h er = rw (er, padded_whole page n e) (stored_from l page a (rw e h))

module _ (bytes : List ℕ) (i : ℕ) (a : Attributes) where
  pub body_put :
      (page r : List ℕ) → i < bodies bytes → page ≡ body a
      → r ≡ sets (take (length bytes - i * body_size) (drop (i * body_size) bytes)) 0 (padded page 0 body_size)
      → put_mid (i * body_size) (length bytes - i * body_size) bytes r ≡ with_body bytes i (body a)
  body_put page r h e er =
      stored_page bytes page r (i * body_size) body_size (ap length e ∙ body_length a) (omega arith) er
      ∙ rw (e, lt-ltb i (bodies bytes) h)

  pub body_left : bodies bytes ≤ i → bytes ≡ with_body bytes i (body a)
  body_left h = rw (le-ltb i (bodies bytes) h)

-- ---- the bodies of a list

pub length_bodies : (list : List Attributes) → length (bodies_of list) ≡ length list * body_size
length_bodies [] = refl
length_bodies (a ∷ list) = length-append (body a) (bodies_of list) ∙ rw (body_length a, length_bodies list) (omega arith)

pub bodies_many : (list : List Attributes) → bodies (bodies_of list) ≡ length list
bodies_many list = rw (length_bodies list) (omega arith)

bodies_append : (xs ys : List Attributes) → bodies_of (xs ++ ys) ≡ bodies_of xs ++ bodies_of ys
bodies_append [] ys = refl
bodies_append (x ∷ xs) ys = rw (bodies_append xs ys) (sym (append_assoc (body x) (bodies_of xs) (bodies_of ys)))

-- an element past the end of a list
abbrev pub blank : Attributes
blank = attributes_in [] 0

bodies_suc : (list : List Attributes) (i : ℕ) → i < length list → bodies_of (take (suc i) list) ≡ bodies_of (take i list) ++ body (get_or list i blank)
bodies_suc list i h =
    ap bodies_of (take-suc list i blank h)
    ∙ bodies_append (take i list) (get_or list i blank ∷ [])
    ∙ ap (λ (z : List ℕ). bodies_of (take i list) ++ z) (append-nil (body (get_or list i blank)))

-- ---- a turn of the loop: after i elements the bytes hold the first bodies, as many as there is room for

pub record Filled (room : ℕ) (list : List Attributes) (i : ℕ) (bytes : List ℕ) : Type 0 where
  pub long : length bytes ≡ room
  pub within : i ≤ length list
  pub laid : first_bodies bytes i ≡ bodies_of (take (min i (bodies bytes)) list)

module _ (room : ℕ) (list : List Attributes) where
  pub filled_none : (bytes : List ℕ) → length bytes ≡ room → Filled room list 0 bytes
  filled_none bytes e = record { long = e; within = omega arith; laid = let z : min 0 (bodies bytes) ≡ 0 = omega arith in rw z }

  module _ (i : ℕ) (bytes : List ℕ) (g : Filled room list i bytes) (h : i < length list) where
    abbrev a : Attributes
    a = get_or list i blank

    abbrev Laid : List ℕ → Type 0
    Laid after = first_bodies after (suc i) ≡ bodies_of (take (min (suc i) (bodies after)) list)

    put : i < bodies bytes → Laid (sets bytes (i * body_size) (body a))
    put l =
        let here : min i (bodies bytes) ≡ i = omega arith in
        let next : min (suc i) (bodies bytes) ≡ suc i = omega arith in
        first_more bytes (body a) i (body_length a) l
        ∙ rw (length-sets bytes (i * body_size) (body a), next) (sym (bodies_suc list i h ∙ ap (λ (z : List ℕ). z ++ body a) (sym (ap (λ (k : ℕ). bodies_of (take k list)) here) ∙ sym g.laid)))

    kept : bodies bytes ≤ i → Laid bytes
    kept l = let same : min (suc i) (bodies bytes) ≡ min i (bodies bytes) = omega arith in rw same g.laid

    laid_by : (b : Bool) → ltb i (bodies bytes) ≡ b → Laid (if b then sets bytes (i * body_size) (body a) else bytes)
    laid_by true e = put (ltb-true i (bodies bytes) e)
    laid_by false e = kept (ltb-false i (bodies bytes) e)

    pub filled_more : (after : List ℕ) → length after ≡ length bytes → after ≡ with_body bytes i (body a) → Filled room list (i + 1) after
    filled_more after l e = record { long = l ∙ g.long; within = omega arith; laid = rw (add-one, e) (laid_by (ltb i (bodies bytes)) refl) }

-- ---- more sets than a table may have are refused, however many more

module _ (list : List Attributes) (ws : List ℕ) (m : ℕ) (h : max_sets < m) where
  cut_by : (b : Bool) → leb (length list) m ≡ b → set_up (bodies_of (take (min (length list) m) list)) ws ≡ set_up (bodies_of list) ws
  cut_by true e =
      let all : length list ≤ min (length list) m = omega (arith, leb-true (length list) m e) in
      ap (λ (xs : List Attributes). set_up (bodies_of xs) ws) (take_all (min (length list) m) list all)
  cut_by false e =
      let over : m < length list = leb-false (length list) m e in
      let some : min (length list) m ≡ m = omega arith in
      let many : bodies (bodies_of (take m list)) ≡ m = bodies_many (take m list) ∙ length-take-le m list (omega arith) in
      let few : bodies (bodies_of list) ≡ length list = bodies_many list in
      rw some (refused_many (bodies_of (take m list)) ws (omega arith) ∙ sym (refused_many (bodies_of list) ws (omega arith)))

  pub cut_list : set_up (bodies_of (take (min (length list) m) list)) ws ≡ set_up (bodies_of list) ws
  cut_list = cut_by (leb (length list) m) refl

-- what the bytes hold after the last element is enough
pub set_up_all :
    (room : ℕ) → max_sets < room / body_size → (list : List Attributes) (i : ℕ) (bytes : List ℕ) → Filled room list i bytes → length list ≤ i
    → (ws after : List ℕ) (r : ℕ) → SetUp (first_bodies bytes (length list)) ws after r → SetUp (bodies_of list) ws after r
set_up_all room h list i bytes g over ws after r p =
    let last : i ≡ length list = omega (arith, g.within) in
    let same : bodies bytes ≡ room / body_size = ap (λ (n : ℕ). n / body_size) g.long in
    let whole : set_up (first_bodies bytes (length list)) ws ≡ set_up (bodies_of list) ws
    = ap (λ (xs : List ℕ). set_up xs ws) (rw last at g.laid) ∙ cut_list list ws (bodies bytes) (rw same h) in
    record { table = p.table ∙ ap (λ (s : OutcomeWords). s.table) whole; status = p.status ∙ ap (λ (s : OutcomeWords). s.answer.status) whole }
