use Rattle.std.proofs.Common.{inl}
use Rattle.ftp_link.proofs.StepLemmas.{keeps_on}
use Rattle.ftp_link.proofs.dialogue.open.Goals as goal

pub returns-in-Ok-clause-answered : goal.returns-in-Ok-clause-answered
returns-in-Ok-clause-answered g c told before =
    let keeps = c.links_keep_answers.ensures in
    let dials = c.in_default.ensures.dialled told in
    keeps_on before _ _ _ (keeps.dial before _ _ _ _ dials) (keeps.send before _ _ _ _ _ dials.peer (inl dials.due) (c.in-Ok.ensures.sent told))
