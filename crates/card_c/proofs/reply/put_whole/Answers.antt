use Rattle.card_c.proofs.Replies.{whole}
use Rattle.card_c.proofs.reply.put_whole.Goals as goal

pub returns : goal.returns
returns c =
    let r = c.args.r in
    simp
    (c.put-5.ensures, c.from-4.ensures, c.notice_no.ensures, c.put-4.ensures, c.from-3.ensures, c.to_no.ensures, c.put-3.ensures, c.from-2.ensures, c.told_no.ensures, c.put-2.ensures, c.put.ensures, c.from.ensures)
    (whole c.args.reply.now r.dword r.len r.notice)
