-- Which pieces of a download were found wrong and not cleared since, by its events.
use Rattle.std.specs.Prelude.{ℕ, ◌==◌, ◌&&◌, Bool, false, not, List}
use Rattle.std.specs.List.{list_any}
use Rattle.dl_history.specs.OwnEvents.{OwnEvent, Clears, Settles}
use Rattle.dl_history.specs.StandingClaims.{since}

abbrev pub clears_piece : ℕ → OwnEvent → Bool
clears_piece p (Clears piece) = piece == p
clears_piece p e = false

abbrev pub finds_wrong : ℕ → OwnEvent → Bool
finds_wrong p (Settles piece right giver) = piece == p && not right
finds_wrong p e = false

-- it was found wrong since it was last cleared
abbrev pub is_uncleared : ℕ → List OwnEvent → Bool
is_uncleared p own = list_any (finds_wrong p) (since (clears_piece p) own)
