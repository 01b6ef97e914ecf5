-- What a reply leads to is one thing.
use Rattle.std.proofs.Common.{◌≡◌, ◌<◌, ℕ, List, ap, sym, ◌∙◌, inl, inr, refl, ◌⊎◌}
use Rattle.ftp_replies.specs.Addresses.{TellsPort}
use Rattle.ftp_replies.specs.Sizes.{TellsSize}
use Rattle.ftp_replies.specs.ReplyLaws.{HasOneSize, HasOnePort}
use Rattle.reply_reader.specs.declared.loss.Loss.TheVariants.{BadReply}
use Rattle.ftp_steps.specs.Turns.{TurnsBySize, TurnsByPort, TurnsBy}
use Rattle.ftp_steps.specs.declared.meaning.Meaning.{Meaning}
use Rattle.ftp_steps.specs.declared.meaning.Meaning.TheVariants.{GoesTo, HasSize, HasPort, GivesData, Loses}
use Rattle.ftp_steps.specs.declared.turn.FtpTurn.{FtpTurn}
use Rattle.ftp_steps.specs.declared.turn.FtpTurn.TheVariants.{Due, Sized, Dials, Lost}

-- it leads to the size that it tells, or it tells none
abbrev HasSizeTurn : List ℕ → FtpTurn → Type 0
HasSizeTurn line turn = ((size : ℕ) × TellsSize line size × (turn ≡ Sized size))
    ⊎ (((size : ℕ) → TellsSize line size → ⊥) × (turn ≡ Lost BadReply))

size_cases : (line : List ℕ) (turn : FtpTurn) → TurnsBySize line turn → HasSizeTurn line turn
size_cases line (Sized size) is = inl (size, is, refl)
size_cases line (Lost BadReply) is = inr (is, refl)
size_cases line turn is = absurd is

both_sizes : HasOneSize → (line : List ℕ) (turn other : FtpTurn) → HasSizeTurn line turn → HasSizeTurn line other → turn ≡ other
both_sizes one line turn other (inl x) (inl y) = x.2 ∙ (ap Sized (one line x.0 y.0 x.1 y.1) ∙ sym y.2)
both_sizes one line turn other (inl x) (inr y) = absurd (y.0 x.0 x.1)
both_sizes one line turn other (inr x) (inl y) = absurd (x.0 y.0 y.1)
both_sizes one line turn other (inr x) (inr y) = x.1 ∙ sym y.1

-- the same of the port
abbrev HasPortTurn : List ℕ → FtpTurn → Type 0
HasPortTurn line turn = ((port : ℕ) × (0 < port) × TellsPort line port × (turn ≡ Dials port))
    ⊎ (((port : ℕ) → 0 < port → TellsPort line port → ⊥) × (turn ≡ Lost BadReply))

port_cases : (line : List ℕ) (turn : FtpTurn) → TurnsByPort line turn → HasPortTurn line turn
port_cases line (Dials port) is = inl (port, is.0, is.1, refl)
port_cases line (Lost BadReply) is = inr (is, refl)
port_cases line turn is = absurd is

both_ports : HasOnePort → (line : List ℕ) (turn other : FtpTurn) → HasPortTurn line turn → HasPortTurn line other → turn ≡ other
both_ports one line turn other (inl x) (inl y) = x.3 ∙ (ap Dials (one line x.0 y.0 x.2 y.2) ∙ sym y.3)
both_ports one line turn other (inl x) (inr y) = absurd (y.0 x.0 x.1 x.2)
both_ports one line turn other (inr x) (inl y) = absurd (x.0 y.0 y.1 y.2)
both_ports one line turn other (inr x) (inr y) = x.1 ∙ sym y.1

one_by_size : HasOneSize → (line : List ℕ) (turn other : FtpTurn) → TurnsBySize line turn → TurnsBySize line other → turn ≡ other
one_by_size one line turn other a b = both_sizes one line turn other (size_cases line turn a) (size_cases line other b)

one_by_port : HasOnePort → (line : List ℕ) (turn other : FtpTurn) → TurnsByPort line turn → TurnsByPort line other → turn ≡ other
one_by_port one line turn other a b = both_ports one line turn other (port_cases line turn a) (port_cases line other b)

-- a reply of this meaning leads to one thing
pub one_turn : HasOneSize → HasOnePort → (meaning : Meaning) (line : List ℕ) (turn other : FtpTurn) → TurnsBy meaning line turn
    → TurnsBy meaning line other → turn ≡ other
one_turn size port (GoesTo step) line turn other a b = a ∙ sym b
one_turn size port HasSize line turn other a b = one_by_size size line turn other a b
one_turn size port HasPort line turn other a b = one_by_port port line turn other a b
one_turn size port GivesData line turn other a b = a ∙ sym b
one_turn size port (Loses loss) line turn other a b = a ∙ sym b

-- behind a reply no more of it is due
pub none_due : (meaning : Meaning) (line : List ℕ) → TurnsBy meaning line Due → ⊥
none_due (GoesTo step) line is = cc
none_due HasSize line is = is
none_due HasPort line is = is
none_due GivesData line is = cc
none_due (Loses loss) line is = cc
