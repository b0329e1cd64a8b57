-- The table of commands read by opcode, as the code reads it: which kind a command is, and whether it is listed.
use mathlib.Core.Path.{◌≡◌, refl, sym, subst, ◌∙◌}
use mathlib.Core.Bool.{Bool, true, false, ◌&&◌, or-false}
use mathlib.Core.List.{[], ◌∷◌}
use Prim.Native.Nat.{ℕ}
use borrow.Author.Tests.{eqb-true, eq-eqb, ne_eqb}
use lib.Dec.{eqb}
use Rattle.std.specs.Prelude.{if◌then◌else◌}
use Rattle.octets.specs.Lists.{any_of, keep}
use Rattle.commands.specs.declared.Kind.{Kind}
use Rattle.commands.specs.declared.Kind.TheVariants.{SetNotices, SetConfig, SetWindow, GetNotices, GetConfig, GetWindow, ReadLatency, ReadAggregate, EventRequest, Identify}
use Rattle.commands.specs.Shapes.{log_opcode, identify_opcode, set_opcode, get_opcode, request_opcode, notices_fid, config_fid, latency_page_no, kinds, has_opcode, has_choice, kind_by}

-- ---- which kind it is: of an opcode the first of its kinds that has its FID or page, and else the last

-- one with two kinds
abbrev TwoOf : ℕ → Kind → Kind → Type 0
TwoOf code k l = keep (has_opcode code) kinds ≡ k ∷ l ∷ []

module _ (code : ℕ) (k l : Kind) (two : TwoOf code k l) (op n : ℕ) (e : op ≡ code) where
  kind_is : kind_by op n ≡ if has_choice n k then k else l
  unfolding kind_by
  kind_is = rw (e, two)

  first_kind : has_choice n k ≡ true → kind_by op n ≡ k
  first_kind f = kind_is ∙ rw f

  second_kind : has_choice n k ≡ false → kind_by op n ≡ l
  second_kind f = kind_is ∙ rw f

-- and with three
abbrev ThreeOf : ℕ → Kind → Kind → Kind → Type 0
ThreeOf code k l m = keep (has_opcode code) kinds ≡ k ∷ l ∷ m ∷ []

module _ (code : ℕ) (k l m : Kind) (three : ThreeOf code k l m) (op n : ℕ) (e : op ≡ code) where
  of_three : kind_by op n ≡ if has_choice n k then k else (if has_choice n l then l else m)
  unfolding kind_by
  of_three = rw (e, three)

  first_of_three : has_choice n k ≡ true → kind_by op n ≡ k
  first_of_three f = of_three ∙ rw f

  second_of_three : has_choice n k ≡ false → has_choice n l ≡ true → kind_by op n ≡ l
  second_of_three f g = of_three ∙ rw (f, g)

  third_of_three : has_choice n k ≡ false → has_choice n l ≡ false → kind_by op n ≡ m
  third_of_three f g = of_three ∙ rw (f, g)

module _ (op n : ℕ) where
  pub set_notices : op ≡ set_opcode → n ≡ notices_fid → kind_by op n ≡ SetNotices
  set_notices e f = first_of_three set_opcode SetNotices SetConfig SetWindow refl op n e (eq-eqb n notices_fid f)

  pub set_config : op ≡ set_opcode → (n ≡ notices_fid → ⊥) → n ≡ config_fid → kind_by op n ≡ SetConfig
  set_config e g f = second_of_three set_opcode SetNotices SetConfig SetWindow refl op n e (ne_eqb n notices_fid g) (eq-eqb n config_fid f)

  pub set_window : op ≡ set_opcode → (n ≡ notices_fid → ⊥) → (n ≡ config_fid → ⊥) → kind_by op n ≡ SetWindow
  set_window e g f = third_of_three set_opcode SetNotices SetConfig SetWindow refl op n e (ne_eqb n notices_fid g) (ne_eqb n config_fid f)

  pub get_notices : op ≡ get_opcode → n ≡ notices_fid → kind_by op n ≡ GetNotices
  get_notices e f = first_of_three get_opcode GetNotices GetConfig GetWindow refl op n e (eq-eqb n notices_fid f)

  pub get_config : op ≡ get_opcode → (n ≡ notices_fid → ⊥) → n ≡ config_fid → kind_by op n ≡ GetConfig
  get_config e g f = second_of_three get_opcode GetNotices GetConfig GetWindow refl op n e (ne_eqb n notices_fid g) (eq-eqb n config_fid f)

  pub get_window_lem : op ≡ get_opcode → (n ≡ notices_fid → ⊥) → (n ≡ config_fid → ⊥) → kind_by op n ≡ GetWindow
  get_window_lem e g f = third_of_three get_opcode GetNotices GetConfig GetWindow refl op n e (ne_eqb n notices_fid g) (ne_eqb n config_fid f)

  pub read_latency : op ≡ log_opcode → n ≡ latency_page_no → kind_by op n ≡ ReadLatency
  read_latency e f = first_kind log_opcode ReadLatency ReadAggregate refl op n e (eq-eqb n latency_page_no f)

  pub read_aggregate : op ≡ log_opcode → (n ≡ latency_page_no → ⊥) → kind_by op n ≡ ReadAggregate
  read_aggregate e f = second_kind log_opcode ReadLatency ReadAggregate refl op n e (ne_eqb n latency_page_no f)

  -- a request, whatever stands where others have their FID
  pub event_request : op ≡ request_opcode → kind_by op n ≡ EventRequest
  unfolding kind_by
  event_request e = rw e

  identify_by : (b : Bool) → eqb op set_opcode ≡ false → eqb op get_opcode ≡ false → eqb op log_opcode ≡ false → eqb op request_opcode ≡ false → eqb op identify_opcode ≡ b → kind_by op n ≡ Identify
  unfolding kind_by
  identify_by true s g l r e = rw (s, g, l, r, e)
  identify_by false s g l r e = rw (s, g, l, r, e)

  pub identify : (op ≡ set_opcode → ⊥) → (op ≡ get_opcode → ⊥) → (op ≡ log_opcode → ⊥) → (op ≡ request_opcode → ⊥) → kind_by op n ≡ Identify
  identify s g l r = identify_by _ (ne_eqb op set_opcode s) (ne_eqb op get_opcode g) (ne_eqb op log_opcode l) (ne_eqb op request_opcode r) refl

-- ---- whether it is listed: its kind has its opcode, and its FID, CNS or page

record Listed (op n : ℕ) : Type 0 where
  known : any_of (has_opcode op) kinds ≡ has_opcode op (kind_by op n)
  listed : any_of (λ k. has_opcode op k && has_choice n k) kinds ≡ has_opcode op (kind_by op n) && has_choice n (kind_by op n)

of_set_lem : (n : ℕ) (a b : Bool) → eqb n notices_fid ≡ a → eqb n config_fid ≡ b → Listed set_opcode n
unfolding kind_by
of_set_lem n true b f e = record { known = rw f; listed = rw f (sym f) }
of_set_lem n false true f e = record { known = rw (f, e); listed = rw (f, e) (sym e) }
of_set_lem n false false f e = record { known = rw (f, e); listed = rw (f, e) (or-false _) }

of_get : (n : ℕ) (a b : Bool) → eqb n notices_fid ≡ a → eqb n config_fid ≡ b → Listed get_opcode n
unfolding kind_by
of_get n true b f e = record { known = rw f; listed = rw f (sym f) }
of_get n false true f e = record { known = rw (f, e); listed = rw (f, e) (sym e) }
of_get n false false f e = record { known = rw (f, e); listed = rw (f, e) (or-false _) }

of_log : (n : ℕ) (b : Bool) → eqb n latency_page_no ≡ b → Listed log_opcode n
unfolding kind_by
of_log n true e = record { known = rw e; listed = rw e (sym e) }
of_log n false e = record { known = rw e; listed = rw e (or-false _) }

of_request : (n : ℕ) → Listed request_opcode n
unfolding kind_by
of_request n = record { known = refl; listed = refl }

of_identify : (n : ℕ) → Listed identify_opcode n
unfolding kind_by
of_identify n = record { known = refl; listed = or-false _ }

of_none : (op n : ℕ) → eqb op set_opcode ≡ false → eqb op get_opcode ≡ false → eqb op log_opcode ≡ false → eqb op request_opcode ≡ false → eqb op identify_opcode ≡ false → Listed op n
unfolding kind_by
of_none op n s g l r i = record { known = rw (s, g, l, r, i) (sym i); listed = rw (s, g, l, r, i) (rw i) }

module _ (op n : ℕ) where
  is : (x : ℕ) → eqb op x ≡ true → Listed x n → Listed op n
  is x e h = subst (λ (y : ℕ). Listed y n) (sym (eqb-true op x e)) h

  by_tests :
      (s g l r i : Bool) → eqb op set_opcode ≡ s → eqb op get_opcode ≡ g → eqb op log_opcode ≡ l → eqb op request_opcode ≡ r → eqb op identify_opcode ≡ i
      → Listed op n
  by_tests true g l r i es eg el er ei = is set_opcode es (of_set_lem n _ _ refl refl)
  by_tests false true l r i es eg el er ei = is get_opcode eg (of_get n _ _ refl refl)
  by_tests false false true r i es eg el er ei = is log_opcode el (of_log n _ refl)
  by_tests false false false true i es eg el er ei = is request_opcode er (of_request n)
  by_tests false false false false true es eg el er ei = is identify_opcode ei (of_identify n)
  by_tests false false false false false es eg el er ei = of_none op n es eg el er ei

  in_table : Listed op n
  in_table = by_tests _ _ _ _ _ refl refl refl refl refl

  pub opcode_listed_lem : any_of (has_opcode op) kinds ≡ has_opcode op (kind_by op n)
  opcode_listed_lem = in_table.known

  pub is_listed_lem : any_of (λ k. has_opcode op k && has_choice n k) kinds ≡ has_opcode op (kind_by op n) && has_choice n (kind_by op n)
  is_listed_lem = in_table.listed
