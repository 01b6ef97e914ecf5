-- What holds in every legal history of a download.
use Rattle.std.specs.Prelude.{Some, ◌≡◌, ◌≢◌, ℕ, ◌+◌, ◌<◌, ◌≤◌, true, false, List, [], ◌∷◌, Contains}
use Rattle.dl_kinds.specs.Plan.{piece_of, pieces_of, blocks_of, IsPlan}
use Rattle.dl_kinds.specs.declared.claims.Claim.{Claim}
use Rattle.dl_kinds.specs.declared.runs.Run.{Run}
use Rattle.piece_table.specs.Changes.{From}
use Rattle.dl_history.specs.OwnEvents.{OwnEvent, Clears, Settles}
use Rattle.dl_history.specs.StandingClaims.{standing_claims, granted_claims, is_open_since, is_probe}
use Rattle.dl_history.specs.PayloadParts.{is_opened, is_sole_in, is_landed_in, is_verified_in, source_in, told_total}
use Rattle.dl_history.specs.Listings.{ListsNone, last_listing, is_block_listed}
use Rattle.dl_history.specs.OwnLegal.{LegalOwn, MayLand, MayClear, MaySize}

-- all blocks of the piece are landed
abbrev pub IsFullIn : ℕ → ℕ → List OwnEvent → ℕ → Type 0
IsFullIn total len own piece = (b : ℕ) → b < blocks_of total len → piece_of len b ≡ piece
    → is_landed_in len own b ≡ true

-- a block that is open in a claim that stands is one of the payload, and isn't landed
pub record OpenBlockIsUnlanded (total len : ℕ) (own : List OwnEvent) (b : ℕ) : Type 0 where
  pub within : b < blocks_of total len
  pub unlanded : is_landed_in len own b ≡ false

abbrev pub OpenBlocksAreUnlanded : Type 0
OpenBlocksAreUnlanded =
    (total len : ℕ) (own : List OwnEvent) (claim : Claim) (b : ℕ)
    → LegalOwn total len own → Contains (standing_claims own) claim → is_open_since own claim b ≡ true
    → OpenBlockIsUnlanded total len own b

-- a verified piece is full
abbrev pub VerifiedAreFull : Type 0
VerifiedAreFull =
    (total len : ℕ) (own : List OwnEvent) (piece : ℕ)
    → IsPlan total len → LegalOwn total len own → piece < pieces_of total len → is_verified_in own piece ≡ true
    → IsFullIn total len own piece

-- a piece that may be cleared isn't verified, and the download is opened
pub record ClearedIsUnverified (own : List OwnEvent) (piece : ℕ) : Type 0 where
  pub opened : is_opened own ≡ true
  pub unverified : is_verified_in own piece ≡ false

abbrev pub ClearedAreUnverified : Type 0
ClearedAreUnverified =
    (total len : ℕ) (own : List OwnEvent) (piece : ℕ)
    → IsPlan total len → LegalOwn total len own → MayClear total len own piece → ClearedIsUnverified own piece

-- a claim is known by its number
abbrev pub ClaimsAreApart : Type 0
ClaimsAreApart =
    (total len : ℕ) (own : List OwnEvent) (claim other : Claim)
    → LegalOwn total len own → Contains (granted_claims own) claim → Contains (granted_claims own) other
    → claim.id ≡ other.id → claim ≡ other

-- what lands is of the payload, and of a download that is opened
pub record LandingIsWithin (total len : ℕ) (own : List OwnEvent) (run : Run) : Type 0 where
  pub opened : is_opened own ≡ true
  pub within : run.first + run.count ≤ blocks_of total len

abbrev pub LandingsAreWithin : Type 0
LandingsAreWithin =
    (total len : ℕ) (own : List OwnEvent) (id mirror : ℕ) (run : Run)
    → LegalOwn total len own → MayLand own id mirror run → LandingIsWithin total len own run

-- a mirror that gave a block was granted a claim
abbrev pub GiversAreGranted : Type 0
GiversAreGranted =
    (total len : ℕ) (own : List OwnEvent) (b mirror : ℕ)
    → LegalOwn total len own → source_in len own b ≡ From mirror
    → (claim : Claim) × Contains (granted_claims own) claim × (claim.mirror ≡ mirror)

-- a probe that stands is one of a download that isn't opened, and a claim that then stands is a probe
pub record StandsAsProbe (own : List OwnEvent) (claim : Claim) : Type 0 where
  pub probe : is_opened own ≡ false → is_probe claim ≡ true
  pub blocks : is_opened own ≡ true → is_probe claim ≡ false

abbrev pub ProbesComeFirst : Type 0
ProbesComeFirst =
    (total len : ℕ) (own : List OwnEvent) (claim : Claim)
    → LegalOwn total len own → Contains (standing_claims own) claim → StandsAsProbe own claim

-- a full piece stays so until it is cleared
abbrev pub FullPiecesStay : Type 0
FullPiecesStay =
    (total len : ℕ) (own : List OwnEvent) (e : OwnEvent) (piece : ℕ)
    → LegalOwn total len (e ∷ own) → e ≢ Clears piece → IsFullIn total len own piece
    → IsFullIn total len (e ∷ own) piece

-- the event finds the piece wrong
abbrev pub FindsWrong : ℕ → OwnEvent → Type 0
FindsWrong piece (Settles other right giver) = (other ≡ piece) × (right ≡ false)
FindsWrong piece e = ⊥

-- a block that a save would list stays so until its piece is found wrong
abbrev pub ListedBlocksStay : Type 0
ListedBlocksStay =
    (total len : ℕ) (own : List OwnEvent) (e : OwnEvent) (b : ℕ)
    → IsPlan total len → LegalOwn total len (e ∷ own) → b < blocks_of total len → (FindsWrong (piece_of len b) e → ⊥)
    → is_block_listed len own b ≡ true → is_block_listed len (e ∷ own) b ≡ true

-- the last save lists no block of a sole piece that isn't full, so such a piece may be cleared once its claim is lost
abbrev pub SolePiecesAreUnlisted : Type 0
SolePiecesAreUnlisted =
    (total len : ℕ) (own : List OwnEvent) (piece b : ℕ)
    → IsPlan total len → LegalOwn total len own → is_sole_in own piece ≡ true
    → b < blocks_of total len → piece_of len b ≡ piece → is_landed_in len own b ≡ false
    → ListsNone total len (last_listing total len own) piece

-- a download whose length a probe tells isn't opened
abbrev pub SizedAreUnopened : Type 0
SizedAreUnopened =
    (total len : ℕ) (own : List OwnEvent) (id : ℕ) → LegalOwn total len own → MaySize own id → is_opened own ≡ false

-- once a probe told the length, none of its claims stands until the download is opened
abbrev pub ToldAreIdle : Type 0
ToldAreIdle =
    (total len : ℕ) (own : List OwnEvent) (told : ℕ)
    → LegalOwn total len own → is_opened own ≡ false → told_total own ≡ Some told → standing_claims own ≡ []

-- before the opening no length matters
abbrev pub UnopenedFitAnyLengths : Type 0
UnopenedFitAnyLengths =
    (total len other_total other_len : ℕ) (own : List OwnEvent)
    → LegalOwn total len own → is_opened own ≡ false → LegalOwn other_total other_len own

pub record HistoriesAreSound : Type 0 where
  pub open_blocks : OpenBlocksAreUnlanded
  pub verified : VerifiedAreFull
  pub cleared : ClearedAreUnverified
  pub apart : ClaimsAreApart
  pub landings : LandingsAreWithin
  pub givers : GiversAreGranted
  pub probes : ProbesComeFirst
  pub full : FullPiecesStay
  pub listed : ListedBlocksStay
  pub sole : SolePiecesAreUnlisted
  pub sized : SizedAreUnopened
  pub told : ToldAreIdle
  pub unopened : UnopenedFitAnyLengths
