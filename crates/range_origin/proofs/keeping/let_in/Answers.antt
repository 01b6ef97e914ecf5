use Rattle.std.proofs.Common.{refl}
use Rattle.range_origin.specs.Talking.{origin_at}
use Rattle.range_origin.proofs.keeping.let_in.Goals as goal

pub serve_connection-requires : goal.serve_connection-requires
serve_connection-requires g c = record {
  opened = λ tells. ((rw c.in-Ok-Somebody.field-0-is at c.in-Ok-Somebody.ensures.came) tells).1.is_open;
}

pub returns-in-Ok-Somebody-clause-visited : goal.returns-in-Ok-Somebody-clause-visited
returns-in-Ok-Somebody-clause-visited g c = (
  origin_at c.args.desk.now c.accept.new.self,
  record {
    desk = refl;
    told = rw c.in-Ok-Somebody.field-0-is at c.in-Ok-Somebody.ensures.came;
    faults = c.in-Ok-Somebody.ensures.cause.done;
  },
  c.serve_connection.ensures.served,
)
