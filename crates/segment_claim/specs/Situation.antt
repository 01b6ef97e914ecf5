-- What the choice of a claim goes by.
use Rattle.std.specs.Prelude.{◌≡◌, ℕ, ◌==◌, ◌≤◌, Bool, false, List, count_by, length, map, slice_get}
use Rattle.std.specs.Option.{option_map_or}
use Rattle.dl_kinds.specs.Plan.{pieces_of}
use Rattle.dl_kinds.specs.declared.claims.Claim.{Claim}
use Rattle.mirror_blame.specs.Book.{MarkBook}
use Rattle.mirror_blame.specs.declared.blame.Blame.{Blame}
use Rattle.piece_table.specs.Progress.{Progress}
use Rattle.segment_claim.specs.Book.{ClaimBook}
use Rattle.segment_claim.specs.Rules.{Rules}
use Rattle.dl_kinds.specs.declared.claims.TheConstants.{MAX_MIRRORS}
use Rattle.segment_claim.specs.declared.limits.TheConstants.{MAX_SPLIT}

pub record Situation : Type 0 where
  pub total : ℕ  -- the bytes of the payload
  pub piece_len : ℕ  -- and of a full piece
  pub landed : List Bool  -- the blocks that have come
  pub sole : List Bool  -- the pieces that one mirror has to give whole
  pub wanted : List Bool  -- the pieces that are to come
  pub standing : List Claim  -- the claims that stand, the newest first
  pub closed : List ℕ  -- for each piece the number below which all claims had been granted when it was last cleared
  pub max_tries : ℕ  -- the tries that a mirror has for a piece
  pub marks : List Blame  -- the marks of the mirrors, the newest first
  pub hosts : List ℕ  -- the number of each mirror's host
  pub per_host : ℕ  -- how many claims may stand on a host
  pub split : ℕ  -- how many claims the payload is split into
  pub min_blocks : ℕ  -- the least blocks of a claim where a stretch has so many

-- how many mirrors there are
abbrev pub mirror_count : Situation → ℕ
mirror_count s = length s.hosts

-- the claim's mirror is on this host
abbrev pub is_on : List ℕ → ℕ → Claim → Bool
is_on hosts host claim = option_map_or (λ number. number == host) (slice_get hosts claim.mirror) false

-- for each mirror, how many claims stand on its host
abbrev pub loads_of : List ℕ → List Claim → List ℕ
loads_of hosts standing = map (λ host. count_by (is_on hosts host) standing) hosts

abbrev pub host_loads : Situation → List ℕ
host_loads s = loads_of s.hosts s.standing

-- the situation that claims, a table, marks and limits make
abbrev pub situation_of : ClaimBook → Progress → MarkBook → Rules → Situation
situation_of book table marks rules =
    record {
      total = book.total;
      piece_len = book.piece_len;
      landed = table.landed;
      sole = table.sole;
      wanted = rules.wanted;
      standing = book.standing;
      closed = book.closed;
      max_tries = marks.max_tries;
      marks = marks.marks;
      hosts = rules.hosts;
      per_host = rules.per_host;
      split = rules.split;
      min_blocks = rules.min_blocks;
    }

-- the table is of the claims' plan, the limits are of it and of the marks' mirrors, and their numbers are within bounds
pub record FitTogether (book : ClaimBook) (table : Progress) (marks : MarkBook) (rules : Rules) : Type 0 where
  pub total : table.total ≡ book.total
  pub piece_len : table.piece_len ≡ book.piece_len
  pub hosts : length rules.hosts ≡ marks.mirrors
  pub few : length rules.hosts ≤ MAX_MIRRORS
  pub wanted : length rules.wanted ≡ pieces_of book.total book.piece_len
  pub some : 1 ≤ rules.split
  pub split : rules.split ≤ MAX_SPLIT

-- the table is of the claims' plan
pub record IsTableOfClaims (book : ClaimBook) (table : Progress) : Type 0 where
  pub total : table.total ≡ book.total
  pub piece_len : table.piece_len ≡ book.piece_len
