-- What is written and what is still to come are the file's printout, turn by turn, and at the end nothing is to come.
use Rattle.std.proofs.Common.{◌≡◌, true, ℕ, ◌≤◌, ◌∙◌, Bool, List, take, drop, arith, refl, sym, subst, length-take-le}
use Rattle.std.specs.Io.KnownBytes.{Appends, IsAtEnd}
use Rattle.std.specs.Prelude.{replicate}
use Rattle.std.proofs.lemmas.List.{length-replicate}
use Rattle.table.specs.Table.{row_start, max_sets}
use Rattle.tape.specs.Pieces.{bodies_room}
use Rattle.tape.specs.declared.Stage.TheVariants.{Ended}
use Rattle.replay.proofs.Printing.{Plays, starts_at, turn, ends, fronted}
use Rattle.replay.proofs.replay.Given as given
use Rattle.replay.proofs.replay.Goals as goal
use Rattle.replay.proofs.replay.Goals.{After-write_all, in-Err-write_all, in_default-write_all, in-Ended, in_default-matches}

pub loop-init : goal.loop-init
loop-init g c = record {
  within = omega arith;
  end = λ last. let z : ◌≡◌ {A = ℕ} 0 1 = cc last in absurd (omega arith);
  plays = starts_at _ _ _ (replicate (row_start max_sets) 0) (replicate bodies_room 0) (take 0 (replicate 65536 0))
      c.at_start-p.ensures refl (length-replicate {A = ℕ} bodies_room 0) refl;
}

-- what was so at the loop's head is so of what is left of the piece, once a call's text is written
played :
    (g : given.Over) (c : After-write_all g) (wrote : Bool)
    → (wrote ≡ true → (c.loop.wrote ≡ true) × Appends (g.W.Write.contents c.loop.to) (g.W.Write.contents c.write_all.new.self) (take c.play_on-p.result.len c.play_on-p.new.out))
    → (c.fill.new.self.last ≡ true → IsAtEnd (g.R.Read.remaining c.fill.new.from))
    × Plays (g.R.Read.remaining c.args.from.now) (g.R.Read.remaining c.fill.new.from) (g.W.Write.contents c.args.to.now)
    (g.W.Write.contents c.write_all.new.self) wrote c.play_on-p.result c.play_on-p.new.table
    c.play_on-p.new.bodies (drop c.play_on-p.result.used (take c.fill.new.self.have c.fill.new.buf))
played g c wrote all =
    let l = c.loop in
    let kept = c.fill.ensures.kept in
    let end : c.fill.new.self.last ≡ true → IsAtEnd (g.R.Read.remaining c.fill.new.from) = c.in_default.ensures.end l.invariant.end in (
      end,
      turn _ _ _ _ _ _ _ _ _ _ l.buf c.fill.new.buf _ c.fill.new.self.have wrote _ _ _ _ _ _ kept.0 kept.2 l.invariant.plays
          c.in_default.ensures.added c.play_on-p.ensures end all,
    )

pub loop-preserved : goal.loop-preserved
loop-preserved g c =
    let b = c.fill.new.buf in
    let have = c.fill.new.self.have in
    let within = c.fill.ensures.kept.1 in
    let q = c.play_on-p.result in
    let n = c.play_on-p.new in
    let at = (goal.at.loop-preserved g c).After-write_all in
    let used : q.used ≤ have = omega (arith, length-take-le have b within, c.play_on-p.ensures.used_within) in
    let rest : drop q.used (take have b) ≡ take c.let_go.new.self.have c.let_go.new.buf =
    fronted b _ q.used have _ used within c.let_go.ensures.fields.0 c.let_go.ensures.bytes in
    let all : c.match-write_all.wrote ≡ true → (c.loop.wrote ≡ true) × Appends (g.W.Write.contents c.loop.to) (g.W.Write.contents c.write_all.new.self) (take q.len n.out) =
    elim c.match-write_all.branch [
      | in-Err-write_all w ↦ λ e. let z : ◌≡◌ {A = ℕ} 0 1 = cc (w.wrote-is, e) in absurd (omega arith)
      | in_default-write_all w ↦ λ e. (sym w.wrote-is ∙ e, w.in_default-write_all.ensures.bytes)
    ] in
    record {
      within = omega (arith, c.let_go.ensures.fields.0, c.let_go.auto.buf, within);
      end = λ last. (played g at _ all).0 (sym c.let_go.ensures.fields.1 ∙ last);
      plays = subst
          (λ (x : List ℕ).
          Plays (g.R.Read.remaining c.args.from.now) (g.R.Read.remaining c.fill.new.from) (g.W.Write.contents c.args.to.now)
          (g.W.Write.contents c.write_all.new.self) c.match-write_all.wrote q n.table n.bodies x)
          rest (played g at _ all).1;
    }

pub returns-then-matches : goal.returns-then-matches
returns-then-matches g c =
    let q = c.play_on-p.result in
    let all : c.match-write_all.wrote ≡ true → (c.loop.wrote ≡ true) × Appends (g.W.Write.contents c.loop.to) (g.W.Write.contents c.write_all.new.self) (take q.len c.play_on-p.new.out) =
    elim c.match-write_all.branch [
      | in-Err-write_all w ↦ λ e. let z : ◌≡◌ {A = ℕ} 0 1 = cc (w.wrote-is, e) in absurd (omega arith)
      | in_default-write_all w ↦ λ e. (sym w.wrote-is ∙ e, w.in_default-write_all.ensures.bytes)
    ] in
    let ended : q.stage ≡ Ended =
    elim c.match-matches.branch [
      | in-Ended w ↦ w.in-Ended.is
      | in_default-matches w ↦ let z : ◌≡◌ {A = ℕ} 0 1 = cc (w.matches-is, c.if-matches.true) in absurd (omega arith)
    ] in
    λ told. ends _ _ _ _ _ _ _ _ _ (played g (goal.at.returns-then-matches g c).After-write_all _ all).1 ended told
