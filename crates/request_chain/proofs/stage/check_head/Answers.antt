use Rattle.std.proofs.Common.{refl, inr, ap, ◌∙◌, Ok}
use Rattle.request_chain.proofs.stage.check_head.Goals as goal

pub returns-in-Ok-false-clause-lost : goal.returns-in-Ok-false-clause-lost
returns-in-Ok-false-clause-lost c = inr (refl, c.is_due.ensures.none (c.in-Ok-false.is ∙ ap Ok c.in-Ok-false.field-0-test))
