-- What contracts see of a download.
use Rattle.std.specs.Prelude.{◌≡◌, ◌==◌, ℕ, ◌+◌, ◌<◌, ◌≤◌, nat_lt, Bool, true, false, if◌then◌else◌, Option, Some, List, ◌∷◌, find, slice_get, slice_index_or}
use Rattle.std.specs.Option.{is_some, option_map_or}
use Rattle.dl_kinds.specs.Plan.{pieces_of, blocks_of, piece_of}
use Rattle.dl_kinds.specs.declared.claims.Claim.{Claim}
use Rattle.dl_kinds.specs.declared.plan.TheConstants.{MAX_PIECES}
use Rattle.mirror_blame.specs.Marks.{tries_of}
use Rattle.mirror_blame.specs.declared.blame.Blame.{Blame}
use Rattle.piece_table.specs.Progress.{Progress}
use Rattle.dl_history.specs.Accounts.{Account, first_still_open, is_still_open}
use Rattle.dl_history.specs.OwnEvents.{OwnEvent}
use Rattle.dl_history.specs.PayloadParts.{blame_in}

pub record DownloadView : Type 0 where
  pub account : Account  -- what is kept of it
  pub wanted : List Bool  -- the pieces that are to come: of none, until it is opened
  pub mirrors : ℕ  -- how many mirrors it has
  pub max_tries : ℕ  -- and the tries of each for a piece
  pub marks : List Blame  -- the marks that count, the newest first
  pub spare : ℕ  -- room for how many more claims
  pub mark_spare : ℕ  -- and for how many more marks

-- it is opened: from then on its progress was saved at some moment
abbrev pub is_opened_by : Account → Bool
is_opened_by k = is_some k.saved

-- the claim that stands under a number
abbrev pub standing_under : Account → ℕ → Option Claim
standing_under k id = find (λ claim. claim.id == id) k.standing

-- the block is open in it
abbrev pub is_open_by : Account → ℕ → ℕ → Bool
is_open_by k id block = option_map_or (λ claim. is_still_open k claim block) (standing_under k id) false

-- ---- pieces

abbrev pub IsPieceOf : Progress → ℕ → Type 0
IsPieceOf p piece = piece < pieces_of p.total p.piece_len

-- a piece of the plan that isn't verified
pub record IsUnverified (p : Progress) (piece : ℕ) : Type 0 where
  pub known : IsPieceOf p piece
  pub unverified : slice_get p.verified piece ≡ Some false

-- all blocks of the piece are landed
abbrev pub IsPieceLanded : Progress → ℕ → Type 0
IsPieceLanded p piece =
    (b : ℕ) → b < blocks_of p.total p.piece_len → piece_of p.piece_len b ≡ piece
    → slice_index_or p.landed b false ≡ true

-- a full piece that isn't verified
pub record IsFullUnverified (p : Progress) (piece : ℕ) : Type 0 where
  pub unverified : IsUnverified p piece
  pub full : IsPieceLanded p piece

-- .. and wasn't settled since its last landing
pub record IsToSettle (k : Account) (piece : ℕ) : Type 0 where
  pub full : IsFullUnverified k.progress piece
  pub anew : slice_index_or k.settled piece false ≡ false

-- the first such piece from `from` on
pub record IsNextToSettle (k : Account) (from piece : ℕ) : Type 0 where
  pub later : from ≤ piece
  pub is : IsToSettle k piece
  pub first : (other : ℕ) → from ≤ other → other < piece → ¬ IsToSettle k other

abbrev pub HasNoneToSettle : Account → ℕ → Type 0
HasNoneToSettle k from = (piece : ℕ) → from ≤ piece → ¬ IsToSettle k piece

-- ---- marks

-- a mark counts while its mirror has a try left for its piece
abbrev pub with_blame : ℕ → List Blame → Blame → List Blame
with_blame max_tries marks blame =
    if nat_lt (tries_of max_tries marks blame.mirror blame.piece) max_tries
    then blame ∷ marks
    else marks

-- the marks after an event of the download
abbrev pub marks_after : ℕ → List Blame → OwnEvent → List Blame
marks_after max_tries marks e = option_map_or (with_blame max_tries marks) (blame_in e) marks

-- a mirror of the download, and a number that a piece may have
pub record MayBlame (d : DownloadView) (mirror piece : ℕ) : Type 0 where
  pub mirror_is : mirror < d.mirrors
  pub piece_is : piece < MAX_PIECES

-- a mark less fits in, or none was put in
pub record UsesMarkRoom (old new : DownloadView) : Type 0 where
  pub room : old.mark_spare ≤ new.mark_spare + 1

-- ---- what stays

-- what no event but the opening changes; there is no less room for claims
pub record StaysSetUp (old new : DownloadView) : Type 0 where
  pub wanted : new.wanted ≡ old.wanted
  pub mirrors : new.mirrors ≡ old.mirrors
  pub max_tries : new.max_tries ≡ old.max_tries
  pub spare : old.spare ≤ new.spare

-- .. and the marks stay
pub record StaysUnmarked (old new : DownloadView) : Type 0 where
  pub set_up : StaysSetUp old new
  pub marks : new.marks ≡ old.marks
  pub mark_spare : new.mark_spare ≡ old.mark_spare

-- only the rooms differ, and they are no less
pub record IsRoomier (old new : DownloadView) : Type 0 where
  pub same : new ≡ record old { spare = new.spare; mark_spare = new.mark_spare }
  pub spare : old.spare ≤ new.spare
  pub mark_spare : old.mark_spare ≤ new.mark_spare

-- ---- claims

-- the claim is of some blocks of the payload, and of a mirror of the download
pub record IsClaimOf (d : DownloadView) (claim : Claim) : Type 0 where
  pub some : 1 ≤ claim.run.count
  pub within : claim.run.first + claim.run.count
      ≤ blocks_of d.account.progress.total d.account.progress.piece_len
  pub mirror : claim.mirror < d.mirrors

-- a probe of a mirror of the download
pub record IsProbeAt (mirrors : ℕ) (claim : Claim) : Type 0 where
  pub first : claim.run.first ≡ 0
  pub count : claim.run.count ≡ 0
  pub mirror : claim.mirror < mirrors

-- this is the piece of the first open block of the claim that stands under a number, where it has one
abbrev pub IsFirstPiece : Account → ℕ → ℕ → Type 0
IsFirstPiece k id piece =
    (claim : Claim) (block : ℕ) → standing_under k id ≡ Some claim → first_still_open k claim ≡ Some block
    → piece ≡ piece_of k.progress.piece_len block

-- the first open block of the claim that stands under a number is of this piece
pub record IsOpenAt (k : Account) (id piece : ℕ) : Type 0 where
  pub claim : Claim
  pub stands : standing_under k id ≡ Some claim
  pub block : ℕ
  pub first : first_still_open k claim ≡ Some block
  pub piece_is : piece_of k.progress.piece_len block ≡ piece
