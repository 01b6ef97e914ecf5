use Rattle.std.proofs.Common.{◌∙◌, arith, eq-eqb, sym}
use Rattle.std.proofs.lemmas.Option.{slice_get_within}
use Rattle.machine_core.specs.MachineViews.{standing_in}
use Rattle.run_report.proofs.Mirrors.{none_used, one_used}
use Rattle.run_report.proofs.uris.is_used.Goals as goal

pub returns-then-claim-mirror : goal.returns-then-claim-mirror
returns-then-claim-mirror c =
    sym (one_used c.loop-place.place (standing_in c.args.machine.now c.args.gid) c.unwrap-claim.result c.args.mirror
    (sym c.standing_at.ensures ∙ c.unwrap-claim.ensures)
    (eq-eqb c.unwrap-claim.result.mirror c.args.mirror c.if-claim-mirror.true))

pub returns : goal.returns
returns c =
    sym (none_used (standing_in c.args.machine.now c.args.gid) c.args.mirror
    (λ k claim is.
    let w = slice_get_within (standing_in c.args.machine.now c.args.gid) k claim is in
    c.loop-place.invariant k claim (omega arith) is))
