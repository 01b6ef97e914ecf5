-- Which event of a download may come next, by its events before, and which histories of a download are legal.
use Rattle.std.specs.Prelude.{◌≡◌, ◌≢◌, ◌↔◌, ◌⊎◌, ℕ, ◌+◌, ◌<◌, ◌≤◌, Bool, true, false, Some, None, List, [], ◌∷◌, All, Contains, slice_index_or}
use Rattle.dl_kinds.specs.Plan.{piece_of, pieces_of, blocks_of}
use Rattle.dl_kinds.specs.declared.claims.Claim.{Claim}
use Rattle.dl_kinds.specs.declared.runs.Run.{Run}
use Rattle.piece_table.specs.Changes.{is_in, IsGiver}
use Rattle.piece_table.specs.Progress.{IsStart, piece_part}
use Rattle.piece_table.specs.declared.giver.Giver.{Giver}
use Rattle.dl_history.specs.OwnEvents.{OwnEvent, Opens, Grants, Lands, Settles, Clears, Loses, Sizes, Saves, Checks, Halts}
use Rattle.dl_history.specs.StandingClaims.{standing_claims, granted_claims, is_open_since, first_open_since, is_probe, piece_of_first}
use Rattle.dl_history.specs.PayloadParts.{is_opened, is_sole_in, is_landed_in, is_verified_in, is_settled_in, sources_in, is_ended, told_total, last_check}
use Rattle.dl_history.specs.Listings.{ListsNone, last_listing}

-- it isn't opened yet, and no claim of it stands
pub record MayOpen (total len : ℕ) (own : List OwnEvent) (verified blocks : List Bool) : Type 0 where
  pub start : IsStart total len verified blocks
  pub first : is_opened own ≡ false
  pub idle : standing_claims own ≡ []

-- the claim's number is above those before
abbrev pub IsNewClaim : List OwnEvent → Claim → Type 0
IsNewClaim own claim = All (λ earlier. earlier.id < claim.id) (granted_claims own)

-- a probe, while the length isn't known and no other stands
pub record MayProbe (own : List OwnEvent) (claim : Claim) : Type 0 where
  pub fresh : IsNewClaim own claim
  pub first : claim.run.first ≡ 0
  pub count : claim.run.count ≡ 0
  pub unopened : is_opened own ≡ false
  pub untold : told_total own ≡ None
  pub alone : standing_claims own ≡ []

-- the run is just the blocks of a sole piece, and none of them is open in a claim
pub record IsSoleRun (total len : ℕ) (own : List OwnEvent) (run : Run) : Type 0 where
  pub piece : ℕ
  pub sole : is_sole_in own piece ≡ true
  pub exact : (b : ℕ) → b < blocks_of total len → (is_in b run ≡ true) ↔ (piece_of len b ≡ piece)
  pub free : (b : ℕ) → is_in b run ≡ true → All (λ claim. is_open_since own claim b ≡ false) (standing_claims own)

-- a claim of unlanded blocks: of a whole sole piece, or of none that is sole
pub record MayClaim (total len : ℕ) (own : List OwnEvent) (claim : Claim) : Type 0 where
  pub fresh : IsNewClaim own claim
  pub opened : is_opened own ≡ true
  pub some : 1 ≤ claim.run.count
  pub within : claim.run.first + claim.run.count ≤ blocks_of total len
  pub unlanded : (b : ℕ) → is_in b claim.run ≡ true → is_landed_in len own b ≡ false
  pub pieces : ((b : ℕ) → is_in b claim.run ≡ true → is_sole_in own (piece_of len b) ≡ false)
      ⊎ IsSoleRun total len own claim.run

-- blocks of a claim that stands, all of them open in it
pub record MayLand (own : List OwnEvent) (id mirror : ℕ) (run : Run) : Type 0 where
  pub claim : Claim
  pub stands : Contains (standing_claims own) claim
  pub id_is : claim.id ≡ id
  pub mirror_is : claim.mirror ≡ mirror
  pub some : 1 ≤ run.count
  pub open_in : (b : ℕ) → is_in b run ≡ true → is_open_since own claim b ≡ true

-- a full piece that isn't verified and wasn't settled since its last landing, and those who gave it
pub record MaySettle (total len : ℕ) (own : List OwnEvent) (piece : ℕ) (giver : Giver) : Type 0 where
  pub opened : is_opened own ≡ true
  pub within : piece < pieces_of total len
  pub full : (b : ℕ) → b < blocks_of total len → piece_of len b ≡ piece → is_landed_in len own b ≡ true
  pub unverified : is_verified_in own piece ≡ false
  pub anew : is_settled_in len own piece ≡ false
  pub givers : IsGiver (piece_part total len (sources_in total len own) piece) giver

-- a claim that stands, and the piece of its first open block
pub record MayBeLost (len : ℕ) (own : List OwnEvent) (id mirror piece : ℕ) : Type 0 where
  pub claim : Claim
  pub stands : Contains (standing_claims own) claim
  pub id_is : claim.id ≡ id
  pub mirror_is : claim.mirror ≡ mirror
  pub piece_is : piece_of_first len (first_open_since own claim) ≡ piece

-- a probe that stands
pub record MaySize (own : List OwnEvent) (id : ℕ) : Type 0 where
  pub claim : Claim
  pub stands : Contains (standing_claims own) claim
  pub id_is : claim.id ≡ id
  pub probe : is_probe claim ≡ true

-- what came last is the loss of a sole piece
abbrev pub IsLossOf : ℕ → List OwnEvent → Type 0
IsLossOf piece [] = ⊥
IsLossOf piece (Loses id mirror other mark ∷ before) = (other ≡ piece) × (is_sole_in before piece ≡ true)
IsLossOf piece (e ∷ before) = ⊥

-- the piece was found wrong, and since then none of its blocks came and it wasn't cleared
abbrev pub IsWrongLast : ℕ → ℕ → List OwnEvent → Type 0
IsWrongLast len piece [] = ⊥
IsWrongLast len piece (Opens verified blocks now ∷ before) = ⊥
IsWrongLast len piece (Settles other right giver ∷ before) =
    ((other ≡ piece) × (right ≡ false)) ⊎ ((other ≢ piece) × IsWrongLast len piece before)
IsWrongLast len piece (Lands id mirror run ∷ before) =
    ((b : ℕ) → is_in b run ≡ true → piece_of len b ≢ piece) × IsWrongLast len piece before
IsWrongLast len piece (Clears other ∷ before) = (other ≢ piece) × IsWrongLast len piece before
IsWrongLast len piece (e ∷ before) = IsWrongLast len piece before

-- a piece whose loss or finding calls for it, once no save lists a block of it
pub record MayClear (total len : ℕ) (own : List OwnEvent) (piece : ℕ) : Type 0 where
  pub within : piece < pieces_of total len
  pub cause : IsLossOf piece own ⊎ IsWrongLast len piece own
  pub unlisted : ListsNone total len (last_listing total len own) piece

pub record MaySave (own : List OwnEvent) : Type 0 where
  pub opened : is_opened own ≡ true
  pub going : is_ended own ≡ false

-- every piece is verified
pub record MayCheck (total len : ℕ) (own : List OwnEvent) : Type 0 where
  pub opened : is_opened own ≡ true
  pub verified : (piece : ℕ) → piece < pieces_of total len → is_verified_in own piece ≡ true

-- an event may come next
abbrev pub MayHappen : ℕ → ℕ → List OwnEvent → OwnEvent → Type 0
MayHappen total len own (Opens verified blocks now) = MayOpen total len own verified blocks
MayHappen total len own (Grants claim) = MayProbe own claim ⊎ MayClaim total len own claim
MayHappen total len own (Lands id mirror run) = MayLand own id mirror run
MayHappen total len own (Settles piece right giver) = MaySettle total len own piece giver
MayHappen total len own (Clears piece) = MayClear total len own piece
MayHappen total len own (Loses id mirror piece mark) = MayBeLost len own id mirror piece
MayHappen total len own (Sizes id told) = MaySize own id
MayHappen total len own (Saves now) = MaySave own
MayHappen total len own (Checks right) = MayCheck total len own
MayHappen total len own (Halts ends) = ends ≡ true → is_ended own ≡ false

abbrev pub LegalOwn : ℕ → ℕ → List OwnEvent → Type 0
LegalOwn total len [] = Unit {0}
LegalOwn total len (e ∷ before) = LegalOwn total len before × MayHappen total len before e

-- ---- how a download ends

-- each wanted piece is verified and, where the payload has a checksum, the last check found it right
pub record IsCompleteIn (wanted : List Bool) (has_checksum : Bool) (own : List OwnEvent) : Type 0 where
  pub verified : (piece : ℕ) → slice_index_or wanted piece false ≡ true → is_verified_in own piece ≡ true
  pub checked : has_checksum ≡ true → last_check own ≡ Some true
