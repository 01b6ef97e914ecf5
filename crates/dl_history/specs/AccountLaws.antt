-- What is kept of a download is what its events say.
use Rattle.std.specs.Prelude.{◌≡◌, ℕ, ◌+◌, ◌<◌, ◌≤◌, true, false, List, All, length, slice_index_or}
use Rattle.dl_kinds.specs.Plan.{pieces_of, blocks_of, IsPlan}
use Rattle.piece_table.specs.Changes.{IsGiver}
use Rattle.piece_table.specs.Progress.{piece_part}
use Rattle.piece_table.specs.declared.giver.Giver.TheVariants.{Nobody}
use Rattle.dl_history.specs.OwnEvents.{OwnEvent}
use Rattle.dl_history.specs.StandingClaims.{standing_claims, is_open_since}
use Rattle.dl_history.specs.PayloadParts.{is_opened, is_sole_in, is_landed_in, is_verified_in, is_wrong_in, is_settled_in, sources_in, told_total, last_check, is_ended}
use Rattle.dl_history.specs.Listings.{last_listing, last_saved}
use Rattle.dl_history.specs.Accounts.{Account, is_still_open, account_of, no_progress}
use Rattle.dl_history.specs.OwnLegal.{LegalOwn}

-- the rows have the plan's lengths
pub record FitsPlan (total len : ℕ) (k : Account) : Type 0 where
  pub total_is : k.progress.total ≡ total
  pub piece_len_is : k.progress.piece_len ≡ len
  pub landed : length k.progress.landed ≡ blocks_of total len
  pub verified : length k.progress.verified ≡ pieces_of total len
  pub givers : length k.progress.givers ≡ pieces_of total len
  pub closed : length k.closed ≡ pieces_of total len
  pub settled : length k.settled ≡ pieces_of total len

-- each row says of a piece what the events say
pub record PieceMatches (total len : ℕ) (own : List OwnEvent) (k : Account) (piece : ℕ) : Type 0 where
  pub verified : slice_index_or k.progress.verified piece false ≡ is_verified_in own piece
  pub sole : slice_index_or k.progress.sole piece false ≡ is_sole_in own piece
  pub wrong : slice_index_or k.progress.wrong piece false ≡ is_wrong_in own piece
  pub settled : slice_index_or k.settled piece false ≡ is_settled_in len own piece
  pub giver : IsGiver (piece_part total len (sources_in total len own) piece)
      (slice_index_or k.progress.givers piece Nobody)

-- the claims that stand are the events', with the same open blocks, within the plan
pub record MatchesClaims (total len : ℕ) (own : List OwnEvent) (k : Account) : Type 0 where
  pub standing : k.standing ≡ standing_claims own
  pub open_blocks : All (λ claim. (b : ℕ) → is_still_open k claim b ≡ is_open_since own claim b) (standing_claims own)
  pub within : All (λ claim. claim.run.first + claim.run.count ≤ blocks_of total len) (standing_claims own)

pub record MatchesEvents (total len : ℕ) (own : List OwnEvent) (k : Account) : Type 0 where
  pub rows : is_opened own ≡ true → FitsPlan total len k
  pub nothing : is_opened own ≡ false → k.progress ≡ no_progress
  pub blocks : (b : ℕ) → b < blocks_of total len → slice_index_or k.progress.landed b false ≡ is_landed_in len own b
  pub pieces : (p : ℕ) → p < pieces_of total len → PieceMatches total len own k p
  pub claims : MatchesClaims total len own k
  pub listing : k.listing ≡ last_listing total len own
  pub saved : k.saved ≡ last_saved own
  pub told : k.told ≡ told_total own
  pub checked : k.checked ≡ last_check own
  pub ended : k.ended ≡ is_ended own

-- in every legal history, whose lengths are a plan's once the download is opened
abbrev pub AccountsMatchEvents : Type 0
AccountsMatchEvents =
    (total len : ℕ) (own : List OwnEvent)
    → (is_opened own ≡ true → IsPlan total len) → LegalOwn total len own
    → MatchesEvents total len own (account_of total len own)

-- before the opening what is kept doesn't go by the lengths
abbrev pub UnopenedAccountsAreAlike : Type 0
UnopenedAccountsAreAlike =
    (total len other_total other_len : ℕ) (own : List OwnEvent)
    → LegalOwn total len own → is_opened own ≡ false → account_of total len own ≡ account_of other_total other_len own
