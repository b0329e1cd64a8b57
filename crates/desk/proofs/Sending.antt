-- Laws of the desk: when a notice goes out, what stays legal, and in what order two items may come.
use mathlib.Core.Path.{◌≡◌, refl, sym, ap, ◌∙◌}
use mathlib.Core.Bool.{Bool, true, false, not, ◌&&◌}
use mathlib.Core.List.{List, [], ◌∷◌, ◌++◌, append-nil}
use mathlib.Core.Logic.{◌⊎◌, inl, inr, ⊎_elim}
use Prim.Native.Nat.{ℕ, ◌≤◌}
use native.Mathlib.Omega.{arith}
use borrow.Author.Tests.{leb-true, le-leb, not-true}
use lib.Dec.{leb}
use lib.ListN.{length}
use Rattle.std.specs.Prelude.{if◌then◌else◌, Some}
use Rattle.octets.proofs.JoinedTests.{both, together}
use Rattle.replies.specs.Answers.{told_of}
use Rattle.desk.specs.Desk.{Desk, desk_of, Told, ready, quiet, send, settle, requests_maximum, all_identifiers, legal_desk}
use Rattle.desk.proofs.LegalDesks.{fine}

-- ---- the flag is served, or the desk stays as it is

pub record Sent (d : Desk) : Type 0 where
  pub id : ℕ
  pub ids : List ℕ
  pub there : d.waiting ≡ id ∷ ids
  pub raised : d.flag ≡ true
  pub on : d.on ≡ true
  pub unmasked : d.masked ≡ false
  pub is : send d ≡ record { desk = desk_of d.on true false ids; notice = Some id }

pub record Unsent' (d : Desk) : Type 0 where
  pub why : d.flag && ready d ≡ false
  pub is : send d ≡ quiet d

sent_by : (flag on masked : Bool) (ws : List ℕ) → Sent (desk_of on masked flag ws) ⊎ Unsent' (desk_of on masked flag ws)
sent_by false on masked ws = inr (record { why = refl; is = refl })
sent_by true false masked ws = inr (record { why = refl; is = refl })
sent_by true true true ws = inr (record { why = refl; is = refl })
sent_by true true false [] = inr (record { why = refl; is = refl })
sent_by true true false (id ∷ ids) = inl (record { id = id; ids = ids; there = refl; raised = refl; on = refl; unmasked = refl; is = refl })

pub sent : (d : Desk) → Sent d ⊎ Unsent' d
sent d = sent_by d.flag d.on d.masked d.waiting

-- the notice's request was the oldest
pub oldest : (d : Desk) → told_of (send d).notice ++ (send d).desk.waiting ≡ d.waiting
oldest d = ⊎_elim (λ (s : Sent d). rw s.is (sym s.there)) (λ (u : Unsent' d). rw u.is) (sent d)

pub send_on : (d : Desk) → (send d).desk.on ≡ d.on
send_on d = ⊎_elim (λ (s : Sent d). rw s.is) (λ (u : Unsent' d). rw u.is) (sent d)

-- ---- legal

pub few : (d : Desk) → legal_desk d ≡ true → length d.waiting ≤ requests_maximum
few d h = leb-true _ _ (fine d h).few

pub unserved : (d : Desk) → legal_desk d ≡ true → d.flag && ready d ≡ false
unserved d h = not-true _ (fine d h).unserved

pub send_legal : (d : Desk) → length d.waiting ≤ requests_maximum → all_identifiers d.waiting ≡ true → legal_desk (send d).desk ≡ true
send_legal d h k =
    ⊎_elim
    (λ (s : Sent d).
    let l : length s.ids ≤ requests_maximum = omega (arith, ap length s.there) in
    let i : all_identifiers s.ids ≡ true = (both (leb s.id _) (all_identifiers s.ids) (sym (ap all_identifiers s.there) ∙ k)).1 in
    rw s.is (together (leb (length s.ids) requests_maximum && all_identifiers s.ids) _ (together (leb (length s.ids) requests_maximum) _ (le-leb _ _ l) i) refl))
    (λ (u : Unsent' d).
    rw u.is (together (leb (length d.waiting) requests_maximum && all_identifiers d.waiting) _ (together (leb (length d.waiting) requests_maximum) _ (le-leb _ _ h) k) (ap not u.why)))
    (sent d)

-- where nothing is listed, a legal desk stays as it is
settle_none_by : (flag on masked : Bool) (ws : List ℕ) → flag && ready (desk_of on masked flag ws) ≡ false → settle false (desk_of on masked flag ws) ≡ quiet (desk_of on masked flag ws)
settle_none_by false on masked ws h = refl
settle_none_by true false masked ws h = refl
settle_none_by true true true ws h = refl
settle_none_by true true false [] h = refl
settle_none_by true true false (id ∷ ids) h = absurd (let z : ◌≡◌ {A = ℕ} 0 1 = cc in omega arith)

pub settle_none : (d : Desk) → legal_desk d ≡ true → settle false d ≡ quiet d
settle_none d h = settle_none_by d.flag d.on d.masked d.waiting (unserved d h)

-- ---- two items that do nothing to the desk by themselves may change places

pub record Same (x y : Told) (p q : List ℕ) : Type 0 where
  pub desk : x.desk ≡ y.desk
  pub notices : p ≡ q

abbrev Swaps : (Desk → Told) → (Desk → Told) → Desk → Type 0
Swaps f g d =
    Same (g (f d).desk) (f (g d).desk) (told_of (f d).notice ++ told_of (g (f d).desk).notice) (told_of (g d).notice ++ told_of (f (g d).desk).notice)

settle_swap : (on masked flag x y : Bool) (ws : List ℕ) → flag && ready (desk_of on masked flag ws) ≡ false → Swaps (settle x) (settle y) (desk_of on masked flag ws)
settle_swap false masked true x y ws h = record { desk = refl; notices = refl }
settle_swap false masked false true true ws h = record { desk = refl; notices = refl }
settle_swap false masked false true false ws h = record { desk = refl; notices = refl }
settle_swap false masked false false true ws h = record { desk = refl; notices = refl }
settle_swap false masked false false false ws h = record { desk = refl; notices = refl }
settle_swap true true true x y ws h = record { desk = refl; notices = refl }
settle_swap true true false true true ws h = record { desk = refl; notices = refl }
settle_swap true true false true false ws h = record { desk = refl; notices = refl }
settle_swap true true false false true ws h = record { desk = refl; notices = refl }
settle_swap true true false false false ws h = record { desk = refl; notices = refl }
settle_swap true false true x y [] h = record { desk = refl; notices = refl }
settle_swap true false true x y (id ∷ ids) h = absurd (let z : ◌≡◌ {A = ℕ} 0 1 = cc in omega arith)
settle_swap true false false true true [] h = record { desk = refl; notices = refl }
settle_swap true false false true true (id ∷ ids) h = record { desk = refl; notices = refl }
settle_swap true false false true false [] h = record { desk = refl; notices = refl }
settle_swap true false false true false (id ∷ ids) h = record { desk = refl; notices = refl }
settle_swap true false false false true [] h = record { desk = refl; notices = refl }
settle_swap true false false false true (id ∷ ids) h = record { desk = refl; notices = refl }
settle_swap true false false false false ws h = record { desk = refl; notices = refl }

-- one that is refused leaves the desk as it was
abbrev pub told_if : Bool → Bool → Desk → Told
told_if carried new d = if carried then settle new d else quiet d

pub told_swap : (k l x y : Bool) (d : Desk) → d.flag && ready d ≡ false → Swaps (told_if k x) (told_if l y) d
told_swap true true x y d h = settle_swap d.on d.masked d.flag x y d.waiting h
told_swap true false x y d h = record { desk = refl; notices = append-nil _ }
told_swap false true x y d h = record { desk = refl; notices = sym (append-nil _) }
told_swap false false x y d h = record { desk = refl; notices = refl }
