use Rattle.machine_core.proofs.Places.{free_is, none_of}
use Rattle.machine_core.proofs.gids.is_free.Goals as goal

pub returns-then-number-ne0 : goal.returns-then-number-ne0
returns-then-number-ne0 c = λ downloads is.
    free_is c.args.queue.now.added c.args.number downloads c.adding_place.result c.is_none.result is c.if-number-ne0.true
    c.adding_place.ensures (none_of c.adding_place.result c.is_none.result c.is_none.ensures)
