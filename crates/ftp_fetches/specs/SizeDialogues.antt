-- What exchanges tell of the size of a file on an FTP server, the oldest first (RFC 3659 section 4).
use Rattle.std.specs.Prelude.{◌≡◌, List, [], ◌∷◌}
use Rattle.link_source.specs.Exchanges.{Exchange}
use Rattle.reply_reader.specs.declared.loss.Loss.TheVariants.{BadReply}
use Rattle.request_chain.specs.Probes.{Probe, Due, Told, Lost}
use Rattle.ftp_places.specs.declared.place.FtpPlace.{FtpPlace}
use Rattle.ftp_steps.specs.declared.step.FtpStep.{FtpStep}
use Rattle.ftp_steps.specs.declared.step.FtpStep.TheVariants.{Greeting}
use Rattle.ftp_steps.specs.declared.turn.FtpTurn.{FtpTurn}
use Rattle.ftp_steps.specs.declared.turn.FtpTurn.TheVariants as turns
use Rattle.ftp_fetches.specs.Dialogues.{IsStepOf}

-- what is next: a step, or this is told
pub data SizeDialogue : Type 0 where
  At : FtpStep → SizeDialogue
  Found : Probe → SizeDialogue

-- What is next where a step leads to this. No step before that for the size leads to data.
abbrev pub size_dialogue_behind : FtpTurn → SizeDialogue
size_dialogue_behind turns.Due = Found Due
size_dialogue_behind (turns.Next step) = At step
size_dialogue_behind (turns.Sized size) = Found (Told size)
size_dialogue_behind (turns.Dials port) = Found (Lost BadReply)
size_dialogue_behind turns.Opens = Found (Lost BadReply)
size_dialogue_behind (turns.Lost loss) = Found (Lost loss)

-- what these exchanges tell from here on
abbrev pub FtpProbedBy : FtpPlace → SizeDialogue → List Exchange → Probe → Type 0
FtpProbedBy place (Found told) streams probe = (probe ≡ told) × (streams ≡ [])
FtpProbedBy place (At step) [] probe = probe ≡ Due
FtpProbedBy place (At step) (stream ∷ streams) probe =
    (turn : FtpTurn) × IsStepOf place 0 step stream turn × FtpProbedBy place (size_dialogue_behind turn) streams probe

-- what they tell from the greeting on
abbrev pub FtpProbed : FtpPlace → List Exchange → Probe → Type 0
FtpProbed place streams probe = FtpProbedBy place (At Greeting) streams probe
