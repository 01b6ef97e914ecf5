-- A dialogue that asks for the size of a file.
use Rattle.std.specs.Prelude.{◌≡◌, ℕ, List, ◌∷◌, ◌++◌, Result, MatchResult}
use Rattle.link_source.specs.Exchanges.{Exchange}
use Rattle.reply_reader.specs.declared.loss.Loss.{Loss}
use Rattle.reply_reader.specs.declared.loss.Loss.TheVariants as losses
use Rattle.request_chain.specs.Chains.{Gains}
use Rattle.request_chain.specs.Probes.{Probe, Due, Told, Lost}
use Rattle.ftp_places.specs.declared.place.FtpPlace.{FtpPlace}
use Rattle.ftp_steps.specs.declared.step.FtpStep.{FtpStep}
use Rattle.ftp_steps.specs.declared.turn.FtpTurn.{FtpTurn}
use Rattle.ftp_fetches.specs.Dialogues.{IsStepOf}
use Rattle.ftp_link.specs.Heard.{LosesReply}
use Rattle.ftp_fetches.specs.SizeDialogues.{SizeDialogue, FtpProbedBy, FtpProbed}

-- what each loss says of the streams that were used, where so many faults of the link are counted now
abbrev pub TellsFtpProbeLoss : FtpPlace → List Exchange → ℕ → Loss → Type 0
TellsFtpProbeLoss place used faults (losses.Link count) = FtpProbed place used Due × (count ≡ faults)
TellsFtpProbeLoss place used faults losses.NoMemory = Unit {0}
TellsFtpProbeLoss place used faults loss = FtpProbed place used (Lost loss)

-- over these exchanges the size is told, or what each loss says
abbrev pub ProbesSize : FtpPlace → List Exchange → List Exchange → ℕ → Result ℕ Loss → Type 0
ProbesSize place before now faults result = (used : List Exchange) × Gains before now used
    × MatchResult result (λ size. FtpProbed place used (Told size)) (TellsFtpProbeLoss place used faults)

-- whatever is told from the next step on is told behind these exchanges
abbrev pub LeadsToSize : FtpPlace → List Exchange → SizeDialogue → Type 0
LeadsToSize place used next = (streams : List Exchange) (probe : Probe)
    → FtpProbedBy place next streams probe → FtpProbed place (used ++ streams) probe

-- the newest exchange is the step's, and leads to this
abbrev pub HeardTo : FtpPlace → FtpStep → List Exchange → List Exchange → FtpTurn → Type 0
HeardTo place step others now turn = (stream : Exchange) × (now ≡ stream ∷ others) × IsStepOf place 0 step stream turn

-- what each loss says of a reply that didn't come whole
abbrev pub ReplyLost : FtpPlace → FtpStep → List Exchange → List Exchange → ℕ → Loss → Type 0
ReplyLost place step others now faults loss = (turn : FtpTurn) × HeardTo place step others now turn × LosesReply faults loss turn

abbrev pub HearsReply : FtpPlace → FtpStep → List Exchange → List Exchange → ℕ → Result FtpTurn Loss → Type 0
HearsReply place step others now faults result =
    MatchResult result (HeardTo place step others now) (ReplyLost place step others now faults)
