use Rattle.std.proofs.Common.{inr}
use Rattle.ftp_link.proofs.dialogue.say.Goals as goal

pub returns-in-Ok-send-clause-answered : goal.returns-in-Ok-send-clause-answered
returns-in-Ok-send-clause-answered g c told before =
    let talks = c.requires.talks told in
    c.links_keep_answers.ensures.send before _ _ _ _ _ talks.peer (inr talks.listens) (c.in-Ok-send.ensures.sent told)
