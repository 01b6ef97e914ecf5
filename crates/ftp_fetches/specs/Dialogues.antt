-- What came of a part of a file on an FTP server, by the exchanges of the link that was used for it, the oldest first
-- (RFC 959 section 5.4, RFC 3659 sections 4 and 5).
use Rattle.std.specs.Prelude.{◌≡◌, ◌≤◌, ◌==◌, ℕ, Bool, true, false, List, [], ◌∷◌, length, if◌then◌else◌}
use Rattle.link_source.specs.Exchanges.{Exchange}
use Rattle.span_map.specs.declared.jobs.JobPart.{JobPart}
use Rattle.reply_reader.specs.declared.loss.Loss.TheVariants.{Length, Short}
use Rattle.request_chain.specs.Plans.{FetchEnding, Done, Open, Lost}
use Rattle.ftp_places.specs.declared.place.FtpPlace.{FtpPlace}
use Rattle.ftp_steps.specs.Answers.{StepAnswers}
use Rattle.ftp_steps.specs.Commands.{command_of}
use Rattle.ftp_steps.specs.declared.step.FtpStep.{FtpStep}
use Rattle.ftp_steps.specs.declared.step.FtpStep.TheVariants.{Greeting, Passive, Restart, Retrieve}
use Rattle.ftp_steps.specs.declared.turn.FtpTurn.{FtpTurn}
use Rattle.ftp_steps.specs.declared.turn.FtpTurn.TheVariants as turns

-- What is next in a dialogue: a step, where the server told this port for the data, or 0 before it did; the data, over a
-- connection to that port; or it is over.
pub data Dialogue : Type 0 where
  At : FtpStep → ℕ → Dialogue
  Data : ℕ → Dialogue
  Over : FetchEnding → Dialogue

-- the step for which nothing is said, since the server greets whoever comes
abbrev pub is_greeting : FtpStep → Bool
is_greeting Greeting = true
is_greeting step = false

-- the exchange is that of the step, with the server of the file that is to come from this place on, and leads to this
pub record IsStepOf (place : FtpPlace) (at : ℕ) (step : FtpStep) (stream : Exchange) (turn : FtpTurn) : Type 0 where
  pub host_is : stream.host ≡ place.host
  pub port_is : stream.port ≡ place.port
  pub request_is : stream.request ≡ command_of place at step
  pub fresh_is : stream.fresh ≡ is_greeting step
  pub answers : StepAnswers step stream.received stream.ended turn

-- the exchange is that of the data, over a connection of its own to this port of the same host
pub record IsDataOf (place : FtpPlace) (part : JobPart) (port : ℕ) (stream : Exchange) : Type 0 where
  pub host_is : stream.host ≡ place.host
  pub port_is : stream.port ≡ port
  pub request_is : stream.request ≡ []
  pub fresh_is : stream.fresh ≡ true
  pub few : length stream.received ≤ part.len

-- the first step with the data's connection: a part that begins at the file's first byte needs no place
abbrev pub first_with_data : JobPart → FtpStep
first_with_data part = if part.at == 0 then Retrieve else Restart

-- what is next where a step leads to this
abbrev pub dialogue_behind : JobPart → ℕ → FtpTurn → Dialogue
dialogue_behind part port turns.Due = Over Open
dialogue_behind part port (turns.Next step) = At step port
dialogue_behind part port (turns.Sized size) =
    if size == part.total then At Passive port else Over (Lost (Length size part.total))
dialogue_behind part port (turns.Dials told) = At (first_with_data part) told
dialogue_behind part port turns.Opens = Data port
dialogue_behind part port (turns.Lost loss) = Over (Lost loss)

-- how it stands with the part, where its data came so far
abbrev pub data_ending : JobPart → Exchange → FetchEnding
data_ending part stream =
    if length stream.received == part.len then Done
    else if stream.ended then Lost (Short (length stream.received)) else Open

-- From here on, over these exchanges: the bytes that came, how it ended, and the exchanges behind the last that was used,
-- which there are only where all came.
abbrev pub FtpFetchedBy : FtpPlace → JobPart → Dialogue → List Exchange → List ℕ → FetchEnding → List Exchange → Type 0
FtpFetchedBy place part (Over Done) streams bytes ending rest = (bytes ≡ []) × (ending ≡ Done) × (rest ≡ streams)
FtpFetchedBy place part (Over Open) streams bytes ending rest =
    (bytes ≡ []) × (ending ≡ Open) × (streams ≡ []) × (rest ≡ [])
FtpFetchedBy place part (Over (Lost loss)) streams bytes ending rest =
    (bytes ≡ []) × (ending ≡ Lost loss) × (streams ≡ []) × (rest ≡ [])
FtpFetchedBy place part (At step port) [] bytes ending rest = (bytes ≡ []) × (ending ≡ Open) × (rest ≡ [])
FtpFetchedBy place part (At step port) (stream ∷ streams) bytes ending rest =
    (turn : FtpTurn) × IsStepOf place part.at step stream turn
    × FtpFetchedBy place part (dialogue_behind part port turn) streams bytes ending rest
FtpFetchedBy place part (Data port) [] bytes ending rest = (bytes ≡ []) × (ending ≡ Open) × (rest ≡ [])
FtpFetchedBy place part (Data port) (stream ∷ streams) bytes ending rest =
    IsDataOf place part port stream × (bytes ≡ stream.received)
    × FtpFetchedBy place part (Over (data_ending part stream)) streams [] ending rest

-- the part, from the greeting on
abbrev pub FtpFetched : FtpPlace → JobPart → List Exchange → List ℕ → FetchEnding → List Exchange → Type 0
FtpFetched place part streams bytes ending rest = FtpFetchedBy place part (At Greeting 0) streams bytes ending rest
