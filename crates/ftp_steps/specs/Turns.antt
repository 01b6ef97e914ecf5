-- What a reply leads to, by its last line.
use Rattle.std.specs.Prelude.{◌≡◌, ℕ, ◌<◌, List}
use Rattle.ftp_replies.specs.Addresses.{TellsPort}
use Rattle.ftp_replies.specs.Sizes.{TellsSize}
use Rattle.reply_reader.specs.declared.loss.Loss.TheVariants.{BadReply}
use Rattle.ftp_steps.specs.declared.meaning.Meaning.{Meaning}
use Rattle.ftp_steps.specs.declared.meaning.Meaning.TheVariants.{GoesTo, HasSize, HasPort, GivesData, Loses}
use Rattle.ftp_steps.specs.declared.turn.FtpTurn.{FtpTurn}
use Rattle.ftp_steps.specs.declared.turn.FtpTurn.TheVariants.{Next, Sized, Dials, Opens, Lost}

-- the size that the line tells, or a bad reply where it tells none
abbrev pub TurnsBySize : List ℕ → FtpTurn → Type 0
TurnsBySize line (Sized size) = TellsSize line size
TurnsBySize line (Lost BadReply) = (size : ℕ) → TellsSize line size → ⊥
TurnsBySize line turn = ⊥

-- the port that the line tells, or a bad reply where it tells none, or 0
abbrev pub TurnsByPort : List ℕ → FtpTurn → Type 0
TurnsByPort line (Dials port) = (0 < port) × TellsPort line port
TurnsByPort line (Lost BadReply) = (port : ℕ) → 0 < port → TellsPort line port → ⊥
TurnsByPort line turn = ⊥

abbrev pub TurnsBy : Meaning → List ℕ → FtpTurn → Type 0
TurnsBy (GoesTo step) line turn = turn ≡ Next step
TurnsBy HasSize line turn = TurnsBySize line turn
TurnsBy HasPort line turn = TurnsByPort line turn
TurnsBy GivesData line turn = turn ≡ Opens
TurnsBy (Loses loss) line turn = turn ≡ Lost loss
