-- What contracts see of the payload of a download that is opened.
use Rattle.std.specs.Prelude.{◌≡◌, ◌<◌, ◌≤◌, ◌+◌, ℕ, Bool, false, Some, List, length, slice_index_or}
use Rattle.dl_kinds.specs.Plan.{blocks_of, pieces_of, piece_of}
use Rattle.dl_kinds.specs.declared.plan.Plan.{Plan}
use Rattle.dl_kinds.specs.declared.runs.Run.{Run}
use Rattle.dl_history.specs.Accounts.{Account, new_account}
use Rattle.dl_history.specs.Listings.{Listing}
use Rattle.piece_table.specs.Progress.{Progress}
use Rattle.segment_claim.specs.Book.{ClaimBook}
use Rattle.one_download.specs.declared.payload.Before.{Before}
use Rattle.one_download.specs.declared.payload.Payload.TheInside.{Inside}

pub record PayloadView : Type 0 where
  pub account : Account  -- what is kept of the download
  pub wanted : List Bool  -- the pieces that are to come
  pub spare : ℕ  -- room for how many more claims

-- what is kept of a download before it is opened, but for its probe
abbrev pub account_before : Before → Account
account_before before = record new_account { told = before.told; ended = before.ended }

abbrev pub account_by : Inside → Account
account_by p =
    record {
      progress = p.table;
      standing = p.claims.standing;
      closed = p.claims.closed;
      next = p.claims.next;
      settled = p.settled;
      listing = record { pieces = p.listed_pieces; blocks = p.listed_blocks };
      saved = Some p.saved;
      told = p.told;
      checked = p.checked;
      ended = p.ended;
    }

abbrev pub payload_by : Inside → PayloadView
payload_by p = record { account = account_by p; wanted = p.wanted; spare = p.claims.spare }

-- the parts of what is kept that steps change
abbrev pub with_parts : Account → Progress → ClaimBook → List Bool → Account
with_parts k progress book row =
    record k {
      progress = progress;
      standing = book.standing;
      closed = book.closed;
      next = book.next;
      settled = row;
    }

-- the parts are of one plan, with one place for each of its pieces and of its blocks
pub record FitsOnePlan (plan : Plan) (table : Progress) (claims : ClaimBook) (settled wanted : List Bool)
    (listed : Listing) : Type 0 where
  pub total : table.total ≡ plan.total
  pub piece_len : table.piece_len ≡ plan.piece_len
  pub claims_total : claims.total ≡ plan.total
  pub claims_len : claims.piece_len ≡ plan.piece_len
  pub settled_len : length settled ≡ pieces_of plan.total plan.piece_len
  pub wanted_len : length wanted ≡ pieces_of plan.total plan.piece_len
  pub listed_pieces : length listed.pieces ≡ pieces_of plan.total plan.piece_len
  pub listed_blocks : length listed.blocks ≡ blocks_of plan.total plan.piece_len

abbrev pub IsSoundPayload : Inside → Type 0
IsSoundPayload p =
    FitsOnePlan p.plan p.table p.claims p.settled p.wanted
    (record { pieces = p.listed_pieces; blocks = p.listed_blocks })

-- some blocks of the payload
pub record IsRunOf (p : Progress) (run : Run) : Type 0 where
  pub some : 1 ≤ run.count
  pub within : run.first + run.count ≤ blocks_of p.total p.piece_len

-- the row has no block of the piece
abbrev pub HasNoBlock : ℕ → ℕ → List Bool → ℕ → Type 0
HasNoBlock total len row piece =
    (b : ℕ) → b < blocks_of total len → piece_of len b ≡ piece → slice_index_or row b false ≡ false
