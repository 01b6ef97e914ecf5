use Rattle.std.proofs.Common.{refl, subst, arith}
use Rattle.ftp_steps.specs.StepFacts.{FollowsStep}
use Rattle.ftp_steps.specs.declared.turn.FtpTurn.{FtpTurn}
use Rattle.ftp_fetches.specs.Dialogues.{dialogue_behind}
use Rattle.ftp_link.specs.Stages.{Leads}
use Rattle.ftp_link.proofs.DialogueLemmas.{leads_missized, turn_lost}
use Rattle.ftp_link.proofs.talk.FtpTalk.go_on.Goals as goal

pub returns-then-size-self-clause-steps : goal.returns-then-size-self-clause-steps
returns-then-size-self-clause-steps g c told before used gains leads =
    let self = c.args.self.now in
    let P : FtpTurn → Type 0 = λ t. Leads self.place self.part used (dialogue_behind self.part self.port t) in
    record {
      later = used;
      gains = gains;
      taken_is = refl;
      tells = leads_missized self.place self.part used self.port c.in-Sized.size (subst P c.in-Sized.is leads) (omega arith);
    }

pub returns-in-Lost-clause-steps : goal.returns-in-Lost-clause-steps
returns-in-Lost-clause-steps g c told before used gains leads =
    let self = c.args.self.now in
    let P : FtpTurn → Type 0 = λ t. Leads self.place self.part used (dialogue_behind self.part self.port t) in
    let follows = c.requires.follows in
    let own = subst (λ (t : FtpTurn). FollowsStep follows.0 t) c.in-Lost.is follows.2 in
    record {
      later = used;
      gains = gains;
      taken_is = refl;
      tells = turn_lost self.place self.part used self.port _ c.in-Lost.loss (subst P c.in-Lost.is leads) own.1;
    }
