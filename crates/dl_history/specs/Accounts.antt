-- What is kept of a download, and how each event changes it.
use Rattle.std.specs.Prelude.{ℕ, ◌+◌, ◌==◌, ◌&&◌, ◌||◌, nat_le, Bool, true, false, not, if◌then◌else◌, Option, Some, None, List, [], ◌∷◌, filter, find, length, map, replicate, slice_index_or, slice_set}
use Rattle.std.specs.Option.{is_some}
use Rattle.std.specs.List.{range_with_len}
use Rattle.dl_kinds.specs.Plan.{piece_of}
use Rattle.dl_kinds.specs.declared.claims.Claim.{Claim}
use Rattle.dl_kinds.specs.declared.runs.Moment.{Moment}
use Rattle.dl_kinds.specs.declared.runs.Run.{Run}
use Rattle.piece_table.specs.Changes.{is_in}
use Rattle.piece_table.specs.Progress.{Progress}
use Rattle.piece_table.specs.Steps.{started, landed_by, settled, cleared, made_sole}
use Rattle.piece_table.specs.declared.giver.Giver.{Giver}
use Rattle.dl_history.specs.OwnEvents.{OwnEvent, Opens, Grants, Lands, Settles, Clears, Loses, Sizes, Saves, Checks, Halts}
use Rattle.dl_history.specs.StandingClaims.{blocks_in, is_probe}
use Rattle.dl_history.specs.PayloadParts.{is_mixed, is_run_on}
use Rattle.dl_history.specs.Listings.{Listing, no_listing}

pub record Account : Type 0 where
  pub progress : Progress  -- of nothing, until the download is opened
  pub standing : List Claim  -- the claims that stand, the newest first
  pub closed : List ℕ  -- for each piece: in claims of lower numbers its blocks are closed, since it was cleared
  pub next : ℕ  -- the number after that of the newest claim of blocks
  pub settled : List Bool  -- the pieces settled since their last landing
  pub listing : Listing  -- what the last save lists, or the opening
  pub saved : Option Moment  -- and when that was
  pub told : Option ℕ  -- the length that a probe told
  pub checked : Option Bool  -- how the last check of the whole payload went
  pub ended : Bool

-- ---- open blocks

-- a block is open in a claim that stands
abbrev pub is_still_open : Account → Claim → ℕ → Bool
is_still_open k claim b =
    is_in b claim.run && not (slice_index_or k.progress.landed b false)
    && nat_le (slice_index_or k.closed (piece_of k.progress.piece_len b) 0) claim.id

-- a claim's first open block
abbrev pub first_still_open : Account → Claim → Option ℕ
first_still_open k claim = find (is_still_open k claim) (blocks_in claim.run)

abbrev pub is_busy : Account → Claim → Bool
is_busy k claim = is_probe claim || is_some (first_still_open k claim)

-- ---- each event

abbrev pub at_opening : ℕ → ℕ → Account → List Bool → List Bool → Moment → Account
at_opening total len k verified blocks now =
    record k {
      progress = started total len verified blocks;
      closed = replicate (length verified) 0;
      settled = replicate (length verified) false;
      listing = record { pieces = verified; blocks = blocks };
      saved = Some now;
    }

abbrev pub with_claim : Account → Claim → Account
with_claim k claim =
    record k { standing = claim ∷ k.standing; next = if is_probe claim then k.next else claim.id + 1 }

-- without the claims that have no open block
abbrev pub without_finished : Account → Account
without_finished k = record k { standing = filter (is_busy k) k.standing }

-- no piece with a block of the run was settled since
abbrev pub unsettled_by : ℕ → Run → List Bool → List Bool
unsettled_by len run row =
    map (λ p. slice_index_or row p false && not (is_run_on len run p)) (range_with_len 0 (length row))

abbrev pub after_landing : Account → ℕ → Run → Account
after_landing k mirror run =
    without_finished (record k {
      progress = landed_by k.progress run mirror;
      settled = unsettled_by k.progress.piece_len run k.settled;
    })

abbrev pub with_finding : Progress → ℕ → Bool → Giver → Progress
with_finding p piece right giver =
    let q = settled p piece right in if not right && is_mixed giver then made_sole q piece else q

abbrev pub after_finding : Account → ℕ → Bool → Giver → Account
after_finding k piece right giver =
    record k { progress = with_finding k.progress piece right giver; settled = slice_set k.settled piece true }

-- the blocks of the piece go, and are closed in each claim that stands
abbrev pub without_piece : Account → ℕ → Account
without_piece k piece = record k { progress = cleared k.progress piece; closed = slice_set k.closed piece k.next }

abbrev pub without_claim : ℕ → List Claim → List Claim
without_claim id standing = filter (λ claim. not (claim.id == id)) standing

-- a claim with an open block in this piece ends. What it gave of a sole piece goes
abbrev pub without_sole : Account → ℕ → Account
without_sole k piece = if slice_index_or k.progress.sole piece false then without_piece k piece else k

abbrev pub after_loss : Account → ℕ → ℕ → Account
after_loss k id piece = without_sole (record k { standing = without_claim id k.standing }) piece

abbrev pub after_sizing : Account → ℕ → ℕ → Account
after_sizing k id total = record k { standing = without_claim id k.standing; told = Some total }

-- what a save lists of it
abbrev pub listing_of : Progress → Listing
listing_of p =
    record {
      pieces = p.verified;
      blocks =
          map
          (λ b.
          let piece = piece_of p.piece_len b in
          slice_index_or p.landed b false
          && (slice_index_or p.verified piece false
          || not (slice_index_or p.sole piece false) && not (slice_index_or p.wrong piece false)))
          (range_with_len 0 (length p.landed));
    }

abbrev pub after_save : Account → Moment → Account
after_save k now = record k { listing = listing_of k.progress; saved = Some now }

abbrev pub without_sole_at : Account → Option ℕ → Account
without_sole_at k None = k
without_sole_at k (Some b) = without_sole k (piece_of k.progress.piece_len b)

-- the claims end. Which block is first is told of each before any ends
abbrev pub without_soles : Account → List Claim → Account
without_soles k [] = k
without_soles k (claim ∷ others) = without_sole_at (without_soles k others) (first_still_open k claim)

abbrev pub after_halt : Account → Bool → Account
after_halt k ends = record (without_soles k k.standing) { standing = []; ended = ends || k.ended }

-- ---- any event

abbrev pub after_own : ℕ → ℕ → Account → OwnEvent → Account
after_own total len k (Opens verified blocks now) = at_opening total len k verified blocks now
after_own total len k (Grants claim) = with_claim k claim
after_own total len k (Lands id mirror run) = after_landing k mirror run
after_own total len k (Settles piece right giver) = after_finding k piece right giver
after_own total len k (Clears piece) = without_piece k piece
after_own total len k (Loses id mirror piece mark) = after_loss k id piece
after_own total len k (Sizes id told) = after_sizing k id told
after_own total len k (Saves now) = after_save k now
after_own total len k (Checks right) = record k { checked = Some right }
after_own total len k (Halts ends) = after_halt k ends

-- the progress of nothing
abbrev pub no_progress : Progress
no_progress = started 0 0 [] []

abbrev pub new_account : Account
new_account =
    record {
      progress = no_progress;
      standing = [];
      closed = [];
      next = 0;
      settled = [];
      listing = no_listing;
      saved = None;
      told = None;
      checked = None;
      ended = false;
    }

-- what is kept of a download with a plan of these lengths
abbrev pub account_of : ℕ → ℕ → List OwnEvent → Account
account_of total len [] = new_account
account_of total len (e ∷ before) = after_own total len (account_of total len before) e
