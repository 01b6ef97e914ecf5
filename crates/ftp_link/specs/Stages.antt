-- How far a talk with an FTP server has come.
use Rattle.std.specs.Prelude.{◌≡◌, ◌⊎◌, ◌<◌, ℕ, true, false, List, [], ◌∷◌, ◌++◌, length, Some, ⊤}
use Rattle.link_source.specs.Exchanges.{Exchange}
use Rattle.link_source.specs.Link.{LinkState, Dialled, Gives}
use Rattle.span_map.specs.declared.jobs.JobPart.{JobPart}
use Rattle.request_chain.specs.Plans.{FetchEnding, Done}
use Rattle.ftp_places.specs.declared.place.FtpPlace.{FtpPlace}
use Rattle.ftp_steps.specs.Answers.{StepAnswers}
use Rattle.ftp_steps.specs.declared.step.FtpStep.{FtpStep}
use Rattle.ftp_steps.specs.declared.turn.FtpTurn.TheVariants.{Due}
use Rattle.ftp_fetches.specs.Dialogues.{Dialogue, At, Data, FtpFetchedBy, FtpFetched}
use Rattle.ftp_link.specs.Heard.{TalksTo, hearing, taking}
use Rattle.ftp_steps.specs.StepFacts.{has_data}
use Rattle.ftp_link.specs.declared.stage.TalkStage.{TalkStage}
use Rattle.ftp_link.specs.declared.stage.TalkStage.TheVariants.{Silent, Hearing, Taking, Over}

-- whatever comes from the next step on comes behind these exchanges
abbrev pub Leads : FtpPlace → JobPart → List Exchange → Dialogue → Type 0
Leads place part used next = (streams rest : List Exchange) (bytes : List ℕ) (ending : FetchEnding)
    → FtpFetchedBy place part next streams bytes ending rest → FtpFetched place part (used ++ streams) bytes ending rest

-- the newest exchange is the step's, and its reply is due
pub record IsHearing (place : FtpPlace) (part : JobPart) (port : ℕ) (heard : List ℕ) (step : FtpStep) (used : List Exchange) (bytes : List ℕ) : Type 0 where
  pub older : List Exchange
  pub used_is : used ≡ older ++ hearing place part.at step heard ∷ []
  pub leads : Leads place part older (At step port)
  pub due : StepAnswers step heard false Due
  pub none : bytes ≡ []

-- the data may come, or some of it came in the newest exchange
pub record IsTaking (place : FtpPlace) (part : JobPart) (port got : ℕ) (used : List Exchange) (bytes : List ℕ) : Type 0 where
  pub got_is : got ≡ length bytes
  pub comes : ((got ≡ 0) × Leads place part used (Data port))
      ⊎ ((0 < got) × (older : List Exchange) × (used ≡ older ++ taking place port bytes ∷ []) × Leads place part older (Data port))

-- by these exchanges the talk came to its stage, and brought these bytes
abbrev pub IsTalkAt : TalkStage → FtpPlace → JobPart → ℕ → List ℕ → ℕ → List Exchange → List ℕ → Type 0
IsTalkAt Silent place part port heard got used bytes = (port ≡ 0) × (used ≡ []) × (bytes ≡ [])
IsTalkAt (Hearing step) place part port heard got used bytes = IsHearing place part port heard step used bytes
IsTalkAt Taking place part port heard got used bytes = IsTaking place part port got used bytes
IsTalkAt Over place part port heard got used bytes = FtpFetched place part used bytes Done []

-- a reply is due over the link
pub record MayHear (place : FtpPlace) (port : ℕ) (step : FtpStep) (link : LinkState) : Type 0 where
  pub talks : TalksTo place link
  pub data_link : has_data step ≡ true → link.data_link ≡ Dialled port

-- data is due over the link
pub record MayTake (place : FtpPlace) (port got : ℕ) (link : LinkState) : Type 0 where
  pub peer : link.peer ≡ Some (place.host, place.port)
  pub first : got ≡ 0 → link.data_link ≡ Dialled port
  pub more : 0 < got → link.data_link ≡ Gives port

abbrev pub MayGoOnAt : TalkStage → FtpPlace → ℕ → ℕ → LinkState → Type 0
MayGoOnAt Silent place port got link = ⊤
MayGoOnAt (Hearing step) place port got link = MayHear place port step link
MayGoOnAt Taking place port got link = MayTake place port got link
MayGoOnAt Over place port got link = ⊤

-- how many steps a stage may take before a byte comes
abbrev pub steps_before : TalkStage → ℕ
steps_before Silent = 1
steps_before stage = 0
