-- Where work is left, a claim can be chosen. No choice is found here: it is shown that not all are refused.
use Rattle.std.specs.Prelude.{◌≡◌, ℕ, ◌<◌, ◌≤◌, true, false, [], slice_index_or}
use Rattle.dl_kinds.specs.Plan.{IsPlan, blocks_of}
use Rattle.dl_kinds.specs.declared.runs.Run.{Run}
use Rattle.mirror_blame.specs.Marks.{IsEligible}
use Rattle.segment_claim.specs.Free.{IsFreeClaim, piece_at}
use Rattle.segment_claim.specs.Situation.{Situation, mirror_count}
use Rattle.one_download.specs.Grants.{IsBlockChoice, IsProbeMirror}
use Rattle.one_download.specs.declared.choices.Choice.{Choice}

-- none of the blocks of the piece is landed
abbrev pub HasNoneLanded : Situation → ℕ → Type 0
HasNoneLanded s piece =
    (block : ℕ) → block < blocks_of s.total s.piece_len → piece_at s block ≡ piece
    → slice_index_or s.landed block false ≡ false

-- No claim stands, and a claim may stand on a host. The block of the payload is to come and isn't landed; where its
-- piece has to come whole from one mirror, none of its blocks is. This mirror has a try left for the piece
pub record HasFreeWork (s : Situation) (block : ℕ) : Type 0 where
  pub plan : IsPlan s.total s.piece_len
  pub none : s.standing ≡ []
  pub claims : 1 ≤ s.split
  pub hosts : 1 ≤ s.per_host
  pub within : block < blocks_of s.total s.piece_len
  pub wanted : slice_index_or s.wanted (piece_at s block) false ≡ true
  pub missing : slice_index_or s.landed block false ≡ false
  pub whole : slice_index_or s.sole (piece_at s block) false ≡ true
      → HasNoneLanded s (piece_at s block)
  pub mirror : ℕ
  pub known : mirror < mirror_count s
  pub eligible : IsEligible s.max_tries s.marks mirror (piece_at s block)

-- there is a free claim ..
abbrev pub FreeClaimsAreFound : Type 0
FreeClaimsAreFound =
    (s : Situation) (block : ℕ) → HasFreeWork s block
    → ¬ ((run : Run) (mirror : ℕ) → ¬ IsFreeClaim s run mirror)

-- .. and so blocks and a mirror are chosen, at each moment
abbrev pub BlockChoicesAreFound : Type 0
BlockChoicesAreFound =
    (s : Situation) (block now : ℕ) → HasFreeWork s block
    → ¬ ((choice : Choice) → ¬ IsBlockChoice s now choice)

-- no claim stands, a claim may stand on a host, and this mirror has a try left for a probe
pub record HasProbeLeft (s : Situation) (mirror : ℕ) : Type 0 where
  pub none : s.standing ≡ []
  pub hosts : 1 ≤ s.per_host
  pub known : mirror < mirror_count s
  pub eligible : IsEligible s.max_tries s.marks mirror 0

-- there is a mirror to probe
abbrev pub ProbeMirrorsAreFound : Type 0
ProbeMirrorsAreFound =
    (s : Situation) (mirror : ℕ) → HasProbeLeft s mirror
    → ¬ ((chosen : ℕ) → ¬ IsProbeMirror s chosen)
