use Rattle.std.proofs.Common.{refl}
use Rattle.console_http.specs.Readings.{door_at}
use Rattle.console_http.proofs.keeping.let_in.Goals as goal

pub returns-in-Ok-Somebody-clause-visited : goal.returns-in-Ok-Somebody-clause-visited
returns-in-Ok-Somebody-clause-visited g c =
    let serves = c.serve_connection.ensures.serves in
    let came = rw c.in-Ok-Somebody.field-0-is at c.in-Ok-Somebody.ensures.came in (
      serves.0,
      (
        door_at c.args.session.now c.args.desk.now c.accept.new.self,
        record { stays = record { session = refl; desk = refl }; told = came; faults = c.in-Ok-Somebody.ensures.cause.done },
        serves.1,
      ),
    )
