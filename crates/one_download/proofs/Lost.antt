-- The piece at which a claim is lost.
use Rattle.std.proofs.Common.{◌≡◌, ℕ, All, Option, Some, None, ap, subst, ◌∙◌, arith}
use Rattle.std.specs.Option.{option_and_then}
use Rattle.std.specs.Prelude.{◌==◌, IfSome}
use Rattle.dl_kinds.specs.Plan.{IsPlan, blocks_of, piece_of}
use Rattle.dl_kinds.specs.PlanLaws.{BlocksAreOfPieces}
use Rattle.dl_kinds.specs.declared.claims.Claim.{Claim}
use Rattle.dl_history.specs.Accounts.{Account, first_still_open, is_still_open}
use Rattle.dl_history.specs.StandingClaims.{blocks_in}
use Rattle.piece_table.specs.Progress.{IsValid}
use Rattle.segment_claim.specs.Book.{ClaimBook}
use Rattle.segment_claim.specs.Sound.{IsWithinBlocks}
use Rattle.one_download.specs.DownloadViews.{IsFirstPiece, IsOpenAt, IsUnverified, standing_under}
use Rattle.one_download.proofs.Blocks.{unlanded_unverified}
use Rattle.one_download.proofs.Halting.{found_passes, open_block}
use Rattle.one_download.proofs.Unopened.{found_all}

-- it isn't verified
pub lost_unverified : (k : Account) (book : ClaimBook) (id piece : ℕ) → BlocksAreOfPieces
    → IsPlan k.progress.total k.progress.piece_len → IsValid k.progress
    → k.standing ≡ book.standing → book.total ≡ k.progress.total → book.piece_len ≡ k.progress.piece_len
    → All (IsWithinBlocks (blocks_of book.total book.piece_len)) book.standing
    → IsOpenAt k id piece → IsUnverified k.progress piece
lost_unverified k book id piece of_pieces plan v ks et el all at =
    let blocks = blocks_of k.progress.total k.progress.piece_len in
    let within : All (IsWithinBlocks blocks) k.standing = rw (← et, ← el, ks) all in
    let of : IsWithinBlocks blocks at.claim =
    subst (λ (o : Option Claim). IfSome o (IsWithinBlocks blocks)) at.stands
    (found_all (IsWithinBlocks blocks) (λ (claim : Claim). claim.id == id) k.standing within) in
    let open_ = open_block k.progress.piece_len k.progress.landed k.closed at.claim at.block
    (found_passes (is_still_open k at.claim) (blocks_in at.claim.run) at.block at.first) in
    let before = open_.before in
    let most = of.within in
    unlanded_unverified k.progress at.block piece of_pieces plan v (omega arith) at.piece_is open_.unlanded

-- ---- the piece of the first open block

pub first_piece_some : (k : Account) (id b piece : ℕ)
    → Some b ≡ option_and_then (first_still_open k) (standing_under k id) → piece ≡ piece_of k.progress.piece_len b
    → IsFirstPiece k id piece
first_piece_some k id b piece found is claim block stands first =
    let e : Some b ≡ Some block = found ∙ ap (option_and_then (first_still_open k)) stands ∙ first in
    let same : b ≡ block = cc in
    is ∙ ap (piece_of k.progress.piece_len) same

pub first_piece_none : (k : Account) (id piece : ℕ)
    → None ≡ option_and_then (first_still_open k) (standing_under k id) → IsFirstPiece k id piece
first_piece_none k id piece found claim block stands first =
    let e : None ≡ Some block = found ∙ ap (option_and_then (first_still_open k)) stands ∙ first in absurd cc
