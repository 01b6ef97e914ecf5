-- Commands, and steps that follow each other.
use Rattle.std.proofs.Common.{◌≡◌, ◌<◌, ◌≤◌, ℕ, false, refl, ap, arith, get_or}
use Rattle.ftp_places.specs.declared.place.FtpPlace.{FtpPlace}
use Rattle.ftp_steps.specs.Commands.{command_of}
use Rattle.ftp_steps.specs.StepFacts.{steps_behind}
use Rattle.ftp_steps.specs.declared.step.FtpStep.{FtpStep}
use Rattle.ftp_steps.specs.declared.step.FtpStep.TheVariants.{Greeting, User, Password, Binary, Size, Passive, Restart, Retrieve}
use Rattle.ftp_fetches.specs.Dialogues.{is_greeting}
use Rattle.request_chain.specs.KeptAnswers.{IsNoGet}

-- a later step isn't the first one
pub not_greeting : (next step : FtpStep) → steps_behind next < steps_behind step → is_greeting next ≡ false
not_greeting Greeting step later = absurd (omega (arith, later, most step))
  where
    most : (s : FtpStep) → steps_behind s ≤ 7
    most Greeting = omega arith
    most User = omega arith
    most Password = omega arith
    most Binary = omega arith
    most Size = omega arith
    most Passive = omega arith
    most Restart = omega arith
    most Retrieve = omega arith
not_greeting User step later = refl
not_greeting Password step later = refl
not_greeting Binary step later = refl
not_greeting Size step later = refl
not_greeting Passive step later = refl
not_greeting Restart step later = refl
not_greeting Retrieve step later = refl

-- ---- commands

pub command_no_get : (place : FtpPlace) (at : ℕ) (step : FtpStep) → IsNoGet (command_of place at step)
command_no_get place at Greeting rest is = cc
command_no_get place at User rest is = absurd (omega (arith, ap (λ l. get_or l 0 0) is))
command_no_get place at Password rest is = absurd (omega (arith, ap (λ l. get_or l 0 0) is))
command_no_get place at Binary rest is = absurd (omega (arith, ap (λ l. get_or l 0 0) is))
command_no_get place at Size rest is = absurd (omega (arith, ap (λ l. get_or l 0 0) is))
command_no_get place at Passive rest is = absurd (omega (arith, ap (λ l. get_or l 0 0) is))
command_no_get place at Restart rest is = absurd (omega (arith, ap (λ l. get_or l 0 0) is))
command_no_get place at Retrieve rest is = absurd (omega (arith, ap (λ l. get_or l 0 0) is))
