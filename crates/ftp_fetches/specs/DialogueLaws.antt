-- Laws of what exchanges with an FTP server tell.
use Rattle.std.specs.Prelude.{◌≡◌, ◌≤◌, ℕ, false, List, [], length}
use Rattle.link_source.specs.Exchanges.{Exchange}
use Rattle.span_map.specs.declared.jobs.JobPart.{JobPart}
use Rattle.request_chain.specs.Plans.{FetchEnding, Done}
use Rattle.request_chain.specs.Probes.{Probe}
use Rattle.ftp_places.specs.declared.place.FtpPlace.{FtpPlace}
use Rattle.ftp_steps.specs.Answers.{StepAnswers}
use Rattle.ftp_steps.specs.declared.step.FtpStep.{FtpStep}
use Rattle.ftp_steps.specs.declared.turn.FtpTurn.TheVariants.{Due}
use Rattle.ftp_fetches.specs.Dialogues.{FtpFetched}
use Rattle.ftp_fetches.specs.SizeDialogues.{FtpProbed}

-- the same streams determine one result
abbrev pub FtpFetchedIsOne : Type 0
FtpFetchedIsOne = (place : FtpPlace) (part : JobPart) (streams rest other_rest : List Exchange) (bytes other_bytes : List ℕ)
    (ending other_ending : FetchEnding)
    → FtpFetched place part streams bytes ending rest → FtpFetched place part streams other_bytes other_ending other_rest
    → (bytes ≡ other_bytes) × (ending ≡ other_ending) × (rest ≡ other_rest)

abbrev pub FtpProbedIsOne : Type 0
FtpProbedIsOne = (place : FtpPlace) (streams : List Exchange) (probe other : Probe)
    → FtpProbed place streams probe → FtpProbed place streams other → probe ≡ other

-- no more bytes than the part has, and as many exactly where all came
pub record FitsPart (part : JobPart) (bytes : List ℕ) (ending : FetchEnding) : Type 0 where
  pub few : length bytes ≤ part.len
  pub all : ending ≡ Done → length bytes ≡ part.len

abbrev pub FtpFetchedFits : Type 0
FtpFetchedFits = (place : FtpPlace) (part : JobPart) (streams rest : List Exchange) (bytes : List ℕ) (ending : FetchEnding)
    → FtpFetched place part streams bytes ending rest → FitsPart part bytes ending

-- before a step's first byte came its reply is due
abbrev pub NothingHeardIsDue : Type 0
NothingHeardIsDue = (step : FtpStep) → StepAnswers step [] false Due
