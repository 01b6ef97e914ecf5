use Rattle.ftp_link.proofs.CallLemmas.{turn_goes_on, turn_due}
use Rattle.ftp_link.proofs.StepLemmas.{keeps_on}
use Rattle.ftp_link.proofs.talk.FtpTalk.hear.Goals as goal

pub returns-in-Due-clause-steps : goal.returns-in-Due-clause-steps
returns-in-Due-clause-steps g c told before used bytes is gains =
    turn_due before used _ bytes _ _ _ c.in-Due.is (c.in_ok-turn.ensures.hears told before used bytes is gains)

pub returns-in_default-clause-steps : goal.returns-in_default-clause-steps
returns-in_default-clause-steps g c told before used bytes is gains =
    let heard = c.in_ok-turn.ensures.hears told before used bytes is gains in
    turn_goes_on c.go_on.result before used _ bytes _ _ _ c.go_on.new.self _ (g.L.Links.state c.go_on.new.link) heard
    (c.go_on.ensures.steps told before heard.later heard.gains heard.leads)

pub returns-in_default-clause-answered : goal.returns-in_default-clause-answered
returns-in_default-clause-answered g c told before used bytes is gains since few =
    keeps_on since _ _ _ (c.in_ok-turn.ensures.answered told before used bytes is gains since few) (c.go_on.ensures.answered told since)
