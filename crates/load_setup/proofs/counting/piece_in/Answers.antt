use Rattle.std.proofs.Common.{◌*◌}
use Rattle.load_setup.proofs.Groups.{part_cut}
use Rattle.load_setup.proofs.counting.piece_in.Goals as goal

pub returns : goal.returns
returns c =
    part_cut c.args.payload.now (c.args.piece * 1048576) 1048576 c.min-start.result c.min-end.result c.min-start.ensures c.min-end.ensures
