use Rattle.std.proofs.Common.{refl}
use Rattle.conn_worker.specs.Hands.{Nothing, link_at}
use Rattle.conn_worker.proofs.following.hang_up.Goals as goal

pub returns : goal.returns
returns g c =
    let e = c.hang_up.ensures in (
      Nothing,
      (refl, record { faults = e.faults; state = e.closed }),
      λ told. e.may (link_at g.L.Links c.hang_up.new.link).state,
    )
