use Rattle.dl_kinds.specs.declared.gid.Gid.{Gid}
use Rattle.machine_core.specs.Clashes.{IsFileTwin}
use Rattle.machine_core.specs.Openings.{HasPlan}
use Rattle.machine_core.specs.declared.ends.End.TheVariants.{SameFile, SameHash}
use Rattle.machine_core.proofs.FileTwins.{clear, file_clash, hash_clash, may_end, shares_none, told_none}
use Rattle.machine_core.proofs.Here.{told_some}
use Rattle.machine_core.proofs.machine.Machine.clash.Goals as goal

pub returns-in-Some-clause-may : goal.returns-in-Some-clause-may
returns-in-Some-clause-may c =
    may_end c.args.self.now c.args.gid (SameHash c.in-Some.twin)
    (hash_clash c.args.self.now c.args.gid c.in-Some.twin c.in-Some.ensures.found)

pub returns-in-Some-2-clause-found : goal.returns-in-Some-2-clause-found
returns-in-Some-2-clause-found c =
    file_clash c.args.self.now c.args.gid c.in-Some-2.twin c.in_default.ensures.none
    (told_some (IsFileTwin c.args.self.now c.args.gid) _ _ c.in-Some-2.is c.in_ok-twin.ensures.found)

pub returns-in-Some-2-clause-may : goal.returns-in-Some-2-clause-may
returns-in-Some-2-clause-may c =
    may_end c.args.self.now c.args.gid (SameFile c.in-Some-2.twin)
    (file_clash c.args.self.now c.args.gid c.in-Some-2.twin c.in_default.ensures.none
    (told_some (IsFileTwin c.args.self.now c.args.gid) _ _ c.in-Some-2.is c.in_ok-twin.ensures.found))

pub returns-in-None-clause-none : goal.returns-in-None-clause-none
returns-in-None-clause-none c =
    λ plan. clear c.args.self.now c.args.gid c.in_default.ensures.none
    (told_none (HasPlan c.args.self.now c.args.gid → (twin : Gid) → IsFileTwin c.args.self.now c.args.gid twin → ⊥) _
    c.in-None.is c.in_ok-twin.ensures.none plan)

pub returns-in-None-clause-apart : goal.returns-in-None-clause-apart
returns-in-None-clause-apart c =
    shares_none c.args.self.now c.args.gid
    (told_none (HasPlan c.args.self.now c.args.gid → (twin : Gid) → IsFileTwin c.args.self.now c.args.gid twin → ⊥) _
    c.in-None.is c.in_ok-twin.ensures.none)
