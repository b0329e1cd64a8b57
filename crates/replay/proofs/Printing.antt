-- What is written of a file's printout, and what is still to come of it.
use Rattle.std.proofs.Common.{◌≡◌, ℕ, suc, ◌+◌, ◌*◌, ◌-◌, ◌^◌, ◌<◌, ◌≤◌, Bool, true, Option, Some, None, IfSome, List, [], ◌++◌, length, take, drop, arith, sym, ap, ◌∙◌, subst, append_assoc, length-drop}
use Rattle.std.specs.Prelude.{min, replicate}
use Rattle.std.specs.Io.KnownBytes.{Appends, Consumes, IsAtEnd}
use Rattle.std.proofs.KnownBytes.{Appends-nil, Appends-trans}
use Rattle.std.proofs.lemmas.List.{append-nil, drop-take, take-append-drop, take-take}
use Rattle.std.proofs.lemmas.List.Edits.{take-paste}
use Rattle.std.specs.List.{copy_within}
use Rattle.table.specs.Table.{row_start, max_sets}
use Rattle.pages.specs.Bodies.{body_size}
use Rattle.steps.specs.SetUp.{bodies}
use Rattle.tape.specs.Printout.{sets_text, printout}
use Rattle.tape.specs.Pieces.{at_start, bodies_room, PlayedOn}
use Rattle.tape.specs.declared.Stage.TheVariants.{Ended}
use Rattle.tape.specs.declared.Progress.{Progress}
use Rattle.tape.proofs.Printed.{text_from, told_call}

-- of a file, of which some bytes are read and not used yet and others are to come
pub record Playing
    (file later : List ℕ) (held₀ held : Option (List ℕ)) (wrote : Bool) (p : Progress) (words kept left : List ℕ) : Type 0 where
  pub room : length kept ≡ bodies_room
  pub few : p.count + length (left ++ later) < 2 ^ 64
  pub written : List ℕ
  pub same : printout file ≡ written ++ text_from p.stage p.count words kept (left ++ later)
  pub there : wrote ≡ true → Appends held₀ held written

-- the same where the file's bytes are known
abbrev pub Plays :
    (file now held₀ held : Option (List ℕ)) → Bool → Progress → (words kept left : List ℕ) → Type 0
Plays None now held₀ held wrote p words kept left = Unit {0}
Plays (Some file) None held₀ held wrote p words kept left = ⊥
Plays (Some file) (Some later) held₀ held wrote p words kept left =
    length file < 2 ^ 64 → Playing file later held₀ held wrote p words kept left

starts :
    (r h : Option (List ℕ)) (kept : List ℕ) → length kept ≡ bodies_room
    → Plays r r h h true at_start (replicate (row_start max_sets) 0) kept []
starts None h kept room = tt
starts (Some file) h kept room = λ few.
    let none : min 0 (bodies kept) * body_size ≡ 0 = omega arith in
    record {
      room = room;
      few = omega arith;
      written = [];
      same = ap (λ (k : ℕ). sets_text (suc (length file)) (replicate (row_start max_sets) 0) 0 (take k kept) file) (sym none);
      there = λ e. Appends-nil h;
    }

pub starts_at :
    (r h : Option (List ℕ)) (p : Progress) (words kept left : List ℕ) → p ≡ at_start → words ≡ replicate (row_start max_sets) 0
    → length kept ≡ bodies_room → left ≡ []
    → Plays r r h h true p words kept left
starts_at r h p words kept left e f room none = rw (e, f, none) (starts r h kept room)

-- what was left and what came
piece_of : (b₀ b : List ℕ) (n m : ℕ) → n ≤ m → take n b ≡ take n b₀ → take n b₀ ++ drop n (take m b) ≡ take m b
piece_of b₀ b n m h e = ap (λ (l : List ℕ). l ++ drop n (take m b)) (sym e ∙ sym (take-take n m b h)) ∙ take-append-drop n (take m b)

module _ (held₀ held : Option (List ℕ)) (wrote : Bool) (p : Progress) (words kept : List ℕ) where
  -- bytes that come are no longer to come
  feeds :
      (r now new : Option (List ℕ)) (left added : List ℕ) → Plays r now held₀ held wrote p words kept left → Consumes now new added
      → Plays r new held₀ held wrote p words kept (left ++ added)
  feeds None now new left added h e = tt
  feeds (Some file) None new left added h e = absurd h
  feeds (Some file) (Some later) None left added h e = absurd e
  feeds (Some file) (Some later) (Some rest) left added h e = λ few.
      let k = h few in
      let whole : left ++ later ≡ (left ++ added) ++ rest = ap (λ (l : List ℕ). left ++ l) e ∙ sym (append_assoc left added rest) in
      record {
        room = k.room;
        few = subst (λ (l : List ℕ). p.count + length l < 2 ^ 64) whole k.few;
        written = k.written;
        same = k.same ∙ ap (λ (l : List ℕ). k.written ++ text_from p.stage p.count words kept l) whole;
        there = k.there;
      }

  -- a call, and its text written
  plays :
      (r now held' : Option (List ℕ)) (wrote' : Bool) (piece out₀ : List ℕ) (last : Bool) (q : Progress) (words' kept' out : List ℕ)
      → Plays r now held₀ held wrote p words kept piece → PlayedOn p words kept out₀ piece last q words' kept' out
      → (last ≡ true → IsAtEnd now) → (wrote' ≡ true → (wrote ≡ true) × Appends held held' (take q.len out))
      → Plays r now held₀ held' wrote' q words' kept' (drop q.used piece)
  plays None now held' wrote' piece out₀ last q words' kept' out h c e f = tt
  plays (Some file) None held' wrote' piece out₀ last q words' kept' out h c e f = absurd h
  plays (Some file) (Some later) held' wrote' piece out₀ last q words' kept' out h c e f = λ few.
      let k = h few in
      let t = told_call p words kept out₀ piece later last q words' kept' out c e k.room k.few in
      record {
        room = t.room;
        few = t.few;
        written = k.written ++ take q.len out;
        same = k.same ∙ ap (λ (l : List ℕ). k.written ++ l) t.same ∙ sym (append_assoc k.written (take q.len out) _);
        there = λ b.
            let t = f b in
            Appends-trans held₀ held held' k.written (take q.len out) (k.there t.0) t.1;
      }

  -- and once the tape has ended, all of it
  pub ends :
      (r now : Option (List ℕ)) (left : List ℕ) → Plays r now held₀ held wrote p words kept left → p.stage ≡ Ended → wrote ≡ true
      → IfSome r (λ file. length file < 2 ^ 64 → Appends held₀ held (printout file))
  ends None now left h e b = tt
  ends (Some file) None left h e b = absurd h
  ends (Some file) (Some later) left h e b = λ few.
      let k = h few in
      let none : text_from p.stage p.count words kept (left ++ later) ≡ [] = rw e in
      let all : k.written ≡ printout file = sym (k.same ∙ ap (λ (l : List ℕ). k.written ++ l) none ∙ append-nil k.written) in
      subst (λ (l : List ℕ). Appends held₀ held l) all (k.there b)

  -- a read, a call and a write
  pub turn :
      (r now new held' : Option (List ℕ)) (b₀ b : List ℕ) (n m : ℕ) (wrote' : Bool) (out₀ : List ℕ) (last : Bool) (q : Progress)
      (words' kept' out : List ℕ) → n ≤ m → take n b ≡ take n b₀ → Plays r now held₀ held wrote p words kept (take n b₀)
      → Consumes now new (drop n (take m b)) → PlayedOn p words kept out₀ (take m b) last q words' kept' out
      → (last ≡ true → IsAtEnd new) → (wrote' ≡ true → (wrote ≡ true) × Appends held held' (take q.len out))
      → Plays r new held₀ held' wrote' q words' kept' (drop q.used (take m b))
  turn r now new held' b₀ b n m wrote' out₀ last q words' kept' out h same k eaten c end f =
      let fed = feeds r now new (take n b₀) (drop n (take m b)) k eaten in
      let piece : take n b₀ ++ drop n (take m b) ≡ take m b = piece_of b₀ b n m h same in
      let there = subst (λ (l : List ℕ). Plays r new held₀ held wrote p words kept l) piece fed in
      plays r new held' wrote' (take m b) out₀ last q words' kept' out there c end f

-- what is moved to the front is what is not used
pub fronted :
    (b front : List ℕ) (at end n : ℕ) → at ≤ end → end ≤ length b → n ≡ end - at → front ≡ copy_within b at end 0
    → drop at (take end b) ≡ take n front
fronted b front at end n p q e f =
    let k = end - at in
    let same : at + k ≡ end = omega arith in
    let front_part : take (0 + k) front ≡ take k (drop at b) =
    ap (take (0 + k)) f ∙ take-paste b 0 (drop at b) k (omega arith) (omega (arith, length-drop at b)) in
    let m : 0 + k ≡ n = omega (arith, e) in
    sym (ap (λ (x : ℕ). drop at (take x b)) same) ∙ drop-take at k b ∙ sym front_part ∙ ap (λ (x : ℕ). take x front) m
