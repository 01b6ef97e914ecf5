use Rattle.served_runs.proofs.Slices.{parts_are_given, parts_lead_among}
use Rattle.served_runs.proofs.serving.parts_of_payloads_are_given.Goals as goal

pub returns-clause-given : goal.returns-clause-given
returns-clause-given c = parts_are_given c.parts_hold_slices.ensures

pub returns-clause-among : goal.returns-clause-among
returns-clause-among c = parts_lead_among
