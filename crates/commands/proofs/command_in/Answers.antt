use mathlib.Core.Path.{sym, ap₂, ◌∙◌}
use borrow.Author.Tests.{eq-eqb, ne_eqb}
use lib.ListN.{length, replicate}
use Rattle.octets.specs.Octets.{padded}
use Rattle.octets.proofs.Runs.{sets_whole, padded_whole}
use Rattle.replies.proofs.Answering.{length_padded}
use Rattle.commands.specs.Commands.{command_size, dwords_of, command_in}
use Rattle.commands.proofs.command_in.Goals as goal

pub returns-then-bytes-eq-SIZE : goal.returns-then-bytes-eq-SIZE
unfolding command_in
returns-then-bytes-eq-SIZE c =
    let b = c.args.bytes.now in
    let e = eq-eqb (length b) command_size c.if-bytes-eq-SIZE.true in
    c.dwords_in.ensures ∙ ap₂ dwords_of (sym e) (sym (padded_whole b command_size c.if-bytes-eq-SIZE.true))

pub returns : goal.returns
unfolding command_in
returns c =
    let b = c.args.bytes.now in
    let e = c.copy_part.ensures ∙ sets_whole (padded b 0 command_size) (replicate command_size 0) (length_padded b 0 command_size) in
    c.dwords_in-2.ensures ∙ ap₂ dwords_of (sym (ne_eqb (length b) command_size c.if-bytes-eq-SIZE.false)) e
