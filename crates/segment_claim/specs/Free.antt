-- The free claim.
use Rattle.std.specs.Prelude.{◌≡◌, ◌↔◌, ◌⊎◌, ℕ, ◌+◌, ◌-◌, ◌*◌, ◌<◌, ◌≤◌, ◌&&◌, min, max, not, Bool, true, false, if◌then◌else◌, None, slice_index_or}
use Rattle.std.specs.Int.{div_ceil}
use Rattle.std.specs.List.{list_any}
use Rattle.dl_kinds.specs.Plan.{blocks_of, blocks_of_piece, full_blocks, piece_of, pieces_of}
use Rattle.dl_kinds.specs.declared.claims.Claim.{Claim}
use Rattle.dl_kinds.specs.declared.runs.Run.{Run}
use Rattle.mirror_blame.specs.Choice.{IsChoice}
use Rattle.mirror_blame.specs.Marks.{IsEligible}
use Rattle.piece_table.specs.Changes.{is_in}
use Rattle.segment_claim.specs.Open.{is_open_in}
use Rattle.segment_claim.specs.Situation.{Situation, host_loads, mirror_count}

-- the piece of a block
abbrev pub piece_at : Situation → ℕ → ℕ
piece_at s block = piece_of s.piece_len block

abbrev pub is_open_at : Situation → ℕ → Claim → Bool
is_open_at s block claim = is_open_in s.piece_len s.landed s.closed claim block

-- a standing claim is to bring the block
abbrev pub is_claimed : Situation → ℕ → Bool
is_claimed s block = list_any (is_open_at s block) s.standing

-- a block is free: it is wanted, it isn't landed, and no standing claim is to bring it
abbrev pub is_free : Situation → ℕ → Bool
is_free s block =
    slice_index_or s.wanted (piece_at s block) false && not (slice_index_or s.landed block false) && not
    (is_claimed s block)

-- a free block that may stand in a stretch with others: its piece isn't sole
abbrev pub is_loose : Situation → ℕ → Bool
is_loose s block = is_free s block && not (slice_index_or s.sole (piece_at s block) false)

-- the same mirrors have a try left for both pieces
abbrev pub AreAlike : Situation → ℕ → ℕ → Type 0
AreAlike s piece other =
    (mirror : ℕ) → mirror < mirror_count s
    → IsEligible s.max_tries s.marks mirror piece ↔ IsEligible s.max_tries s.marks mirror other

-- the blocks' pieces are alike
abbrev pub AreAlikeAt : Situation → ℕ → ℕ → Type 0
AreAlikeAt s block other = AreAlike s (piece_at s block) (piece_at s other)

-- a free stretch: a longest run of loose blocks whose pieces are alike ..
pub record IsLooseStretch (s : Situation) (run : Run) : Type 0 where
  pub some : 1 ≤ run.count
  pub within : run.first + run.count ≤ blocks_of s.total s.piece_len
  pub loose : (block : ℕ) → is_in block run ≡ true → is_loose s block ≡ true
  pub alike : (block : ℕ) → is_in block run ≡ true → AreAlikeAt s run.first block
  pub before : (block : ℕ) → block + 1 ≡ run.first → is_loose s block ≡ true → ¬ AreAlikeAt s run.first block
  pub behind : run.first + run.count < blocks_of s.total s.piece_len → is_loose s (run.first + run.count) ≡ true
      → ¬ AreAlikeAt s run.first (run.first + run.count)

-- .. or a sole piece whose blocks are all free
pub record IsSoleStretch (s : Situation) (run : Run) : Type 0 where
  pub piece : ℕ
  pub known : piece < pieces_of s.total s.piece_len
  pub sole : slice_index_or s.sole piece false ≡ true
  pub first : run.first ≡ piece * full_blocks s.piece_len
  pub count : run.count ≡ blocks_of_piece s.total s.piece_len piece
  pub free : (block : ℕ) → is_in block run ≡ true → is_free s block ≡ true

abbrev pub IsFreeStretch : Situation → Run → Type 0
IsFreeStretch s run = IsLooseStretch s run ⊎ IsSoleStretch s run

-- the mirror that is chosen for the pieces of a run, by the claims that stand on each mirror's host
abbrev pub IsMirrorFor : Situation → Run → ℕ → Type 0
IsMirrorFor s run mirror =
    IsChoice (mirror_count s) s.max_tries s.marks (piece_at s run.first) (piece_at s (run.first + run.count - 1))
    (host_loads s) s.per_host mirror

-- a free stretch that a mirror is found for
pub record IsGrantable (s : Situation) (run : Run) (mirror : ℕ) : Type 0 where
  pub stretch : IsFreeStretch s run
  pub chosen : IsMirrorFor s run mirror

-- a run is chosen before another: the longer one, and of equally long ones the lower
abbrev pub IsPreferred : Run → Run → Type 0
IsPreferred run other = (other.count < run.count) ⊎ ((other.count ≡ run.count) × (run.first ≤ other.first))

-- the most blocks of a claim, but for a sole piece
abbrev pub claim_size : Situation → ℕ
claim_size s = max (div_ceil (blocks_of s.total s.piece_len) s.split) s.min_blocks

-- the first blocks of a stretch, no more than a claim has; a sole piece whole
abbrev pub claim_cut : Situation → Run → Run
claim_cut s run =
    record {
      first = run.first;
      count = if slice_index_or s.sole (piece_at s run.first) false then run.count else min run.count (claim_size s);
    }

-- the free claim: the first blocks of the longest stretch that a mirror is found for, and of equally long ones of the
-- lowest
pub record IsFreeClaim (s : Situation) (run : Run) (mirror : ℕ) : Type 0 where
  pub stretch : Run
  pub grantable : IsGrantable s stretch mirror
  pub preferred : (other : Run) (chosen : ℕ) → IsGrantable s other chosen → IsPreferred stretch other
  pub cut : run ≡ claim_cut s stretch

-- no mirror is found for any free stretch
abbrev pub HasNoFreeClaim : Situation → Type 0
HasNoFreeClaim s = (run : Run) (mirror : ℕ) → ¬ IsGrantable s run mirror

-- what is granted: the free claim, under this number, to this worker, at this moment
pub record IsFreeGrant (s : Situation) (id worker now : ℕ) (claim : Claim) : Type 0 where
  pub free : IsFreeClaim s claim.run claim.mirror
  pub number : claim.id ≡ id
  pub to : claim.worker ≡ worker
  pub at : claim.since.0 ≡ now
  pub stolen_of_none : claim.victim ≡ None
