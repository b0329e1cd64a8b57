use Rattle.std.proofs.Common.{◌≡◌, length, length-take-le, arith, sym}
use Rattle.tape.proofs.Playing.{played_command, played_with_data}
use Rattle.tape.proofs.items.play_item.Goals as goal

pub returns-in-Command : goal.returns-in-Command
returns-in-Command c = rw c.in-Command.is (played_command _ c.args.body.now _ _ (rw c.in-Command.is at c.requires) c.play_command.ensures)

pub slice_bounds-play_command-end-in-CommandWithData : goal.slice_bounds-play_command-end-in-CommandWithData
slice_bounds-play_command-end-in-CommandWithData c = let long : length c.args.body.now ≡ 576 = rw c.in-CommandWithData.is at c.requires in sym (length-take-le 64 c.args.body.now (omega arith))

pub returns-in-CommandWithData : goal.returns-in-CommandWithData
returns-in-CommandWithData c = rw c.in-CommandWithData.is (played_with_data _ c.args.body.now _ _ c.play_command-in-CommandWithData.ensures)
