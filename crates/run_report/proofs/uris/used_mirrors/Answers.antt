use Rattle.std.proofs.Common.{arith}
use Rattle.std.proofs.lemmas.Grind.{common_steps}
use Rattle.std.proofs.lemmas.List.FromFn.{map-range_with_len_more}
use Rattle.machine_core.specs.MachineViews.{standing_in}
use Rattle.run_report.specs.Uris.{is_used}
use Rattle.run_report.proofs.uris.used_mirrors.Goals as goal

pub loop-mirror-preserved : goal.loop-mirror-preserved
loop-mirror-preserved c =
    let next = map-range_with_len_more (is_used (standing_in c.args.machine.now c.args.gid)) 0 c.loop-mirror.mirror
    c.loop-mirror.mirror (omega arith) in
    grind (arith, common_steps, next)
