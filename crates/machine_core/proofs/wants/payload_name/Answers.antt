use Rattle.std.proofs.Common.{subst}
use Rattle.machine_core.specs.LawfulCalls.{IsLawful}
use Rattle.machine_core.proofs.wants.payload_name.Goals as goal

pub base_of-requires-clause-usable : goal.base_of-requires-clause-usable
base_of-requires-clause-usable c =
    let lawful = subst IsLawful c.in-AddUri.is c.requires.lawful in
    lawful.0.usable
