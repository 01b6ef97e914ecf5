use Rattle.std.proofs.Common.{◌≡◌, inr, length, map, rules, subst}
use Rattle.std.specs.Prelude.{string_bytes}
use Rattle.run_lifecycle.specs.Begins.{HasBegun}
use Rattle.shared_run.proofs.Framed.{comes_first}
use Rattle.shared_run.proofs.running.run_through.Goals as goal

pub go_on-requires-clause-first : goal.go_on-requires-clause-first
go_on-requires-clause-first g c κs within =
    comes_first c.in-Ok.begun.desk.own c.in-Ok.begun.is_short c.in-Ok.ensures.begins.call c.in-Ok.ensures.begins.own
    c.in-Ok.ensures.begins.first

pub returns-in-Ok : goal.returns-in-Ok
returns-in-Ok g c =
    let many : c.len.result ≡ length c.args.doors.items = search (c, rules) in inr record {
      begun = c.in-Ok.begun;
      begins = subst
          (λ n. HasBegun g.D.Disk (map string_bytes c.args.words.now) c.args.gids n c.args.disk c.in-Ok.begun) many
          c.in-Ok.ensures.begins;
      goes_on = c.go_on.ensures;
    }
