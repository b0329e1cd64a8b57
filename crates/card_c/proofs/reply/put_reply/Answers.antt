use mathlib.Core.Path.{◌∙◌}
use native.Mathlib.Omega.{arith}
use lib.ListN.{length}
use Rattle.octets.proofs.Runs.{sets_whole}
use Rattle.card_c.proofs.Replies.{part_whole, part_short, page_long}
use Rattle.card_c.proofs.reply.put_reply.Goals as goal

pub returns-then-reply-ge-REPLY : goal.returns-then-reply-ge-REPLY
returns-then-reply-ge-REPLY c = let r = c.args.r in simp (part_whole r.dword r.len r.notice (length c.args.reply.now) c.if-reply-ge-REPLY.true) c.put_whole.ensures

pub returns-else-reply-ge-REPLY : goal.returns-else-reply-ge-REPLY
returns-else-reply-ge-REPLY c =
    let r = c.args.r in
    let page = c.put_whole-else-reply-ge-REPLY.ensures ∙ sets_whole _ _ (page_long r.dword r.len r.notice) in
    rw (page, part_short r.dword r.len r.notice (length c.args.reply.now) (omega (arith, c.if-reply-ge-REPLY.false))) at c.copy_part.ensures
