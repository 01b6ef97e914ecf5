use Rattle.std.proofs.Common.{refl}
use Rattle.segment_claim.specs.Situation.{situation_of}
use Rattle.one_download.proofs.Thefts.{no_choice}
use Rattle.one_download.proofs.choosing.choose.Goals as goal

pub returns-in-None-clause-none : goal.returns-in-None-clause-none
returns-in-None-clause-none c =
    no_choice (situation_of c.args.claims.now c.args.table.now c.args.marks.now c.args.limits.now) c.args.now.0
    c.theft.result (c.in-None.ensures.none.0 refl) c.theft.ensures.none
