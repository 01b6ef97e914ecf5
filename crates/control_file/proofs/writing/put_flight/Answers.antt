use Rattle.control_file.specs.Spelling.{in_flight_bytes}
use Rattle.control_file.specs.declared.fields.ByteOrder.TheVariants.{Big}
use Rattle.control_file.proofs.Written.{one_more}
use Rattle.control_file.proofs.writing.put_flight.Goals as goal

pub loop-piece-preserved : goal.loop-piece-preserved
loop-piece-preserved c =
    one_more (in_flight_bytes Big) c.args.pieces.now c.loop-piece.piece-index c.piece-item.result c.args.out.now.items
    c.loop-piece.out.items c.put_in_flight.new.out.items
    c.loop-piece-test.true c.piece-item.is c.loop-piece.invariant c.in_ok-put_in_flight.ensures
