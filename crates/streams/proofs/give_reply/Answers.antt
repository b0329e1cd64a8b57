-- The numbers put one after another are the bytes of a reply.
use Rattle.std.proofs.Common.{◌≡◌, List, ℕ, subst, OnOk}
use Rattle.std.specs.Io.KnownBytes.{Appends}
use Rattle.streams.specs.Calls.{reply_bytes}
use Rattle.streams.proofs.give_reply.Goals as goal

pub returns : goal.returns
returns g c =
    let a = c.args in
    let e : c.put-5.new.buf ≡ reply_bytes a.status a.told a.dword a.len a.to =
    rw
    (c.put-5.ensures, c.from-4.ensures, c.put-4.ensures, c.put-3.ensures, c.from-3.ensures, c.put-2.ensures, c.from-2.ensures, c.put.ensures, c.from.ensures) in
    let held = g.W.Write.contents in
    subst (λ (l : List ℕ). OnOk c.write_all.result (Appends (held a.out.now) (held c.write_all.new.self) l)) e c.write_all.ensures.bytes
