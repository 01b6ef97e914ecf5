-- Blocks that are alike for a choice.
use Rattle.std.specs.Prelude.{◌≡◌, ℕ, ◌+◌, ◌<◌, ◌≤◌, ◌&&◌, not, nat_le, Bool, true, false, Option, find, slice_index_or}
use Rattle.std.specs.Option.{option_map, option_map_or}
use Rattle.dl_kinds.specs.Plan.{blocks_of}
use Rattle.dl_kinds.specs.declared.runs.Run.{Run}
use Rattle.piece_table.specs.Changes.{is_in}
use Rattle.segment_claim.specs.Free.{AreAlikeAt, is_loose, piece_at}
use Rattle.segment_claim.specs.Situation.{Situation}
use Rattle.segment_claim.specs.declared.scene.Cover.{Cover}
use Rattle.segment_claim.specs.declared.scene.Span.{Span}

-- the number of the newest standing claim whose run has the block
abbrev pub newest_over : Situation → ℕ → Option ℕ
newest_over s block = option_map (λ claim. claim.id) (find (λ claim. is_in block claim.run) s.standing)

-- the newest claim over a block of the piece, where there is one, is to bring it unless it is landed
abbrev pub is_brought_by : Situation → ℕ → Option ℕ → Bool
is_brought_by s piece newest = option_map_or (λ id. nat_le (slice_index_or s.closed piece 0) id) newest false

-- a block of the piece is loose unless it is landed
abbrev pub may_be_loose : Situation → ℕ → Option ℕ → Bool
may_be_loose s piece newest =
    slice_index_or s.wanted piece false && not (slice_index_or s.sole piece false) && not (is_brought_by s piece newest)

-- this is the newest claim over each of the blocks
abbrev pub IsCover : Situation → Cover → Type 0
IsCover s cover = (block : ℕ) → cover.from ≤ block → block < cover.until → newest_over s block ≡ cover.newest

-- the cover is of some blocks from `at` on
pub record IsCoverAt (s : Situation) (at : ℕ) (cover : Cover) : Type 0 where
  pub is : IsCover s cover
  pub from : cover.from ≤ at
  pub until : at < cover.until

-- some blocks of one piece from `at` on: all of them are loose, or none is
pub record IsSpanOfPiece (s : Situation) (at : ℕ) (span : Span) : Type 0 where
  pub some : at < span.end
  pub within : span.end ≤ blocks_of s.total s.piece_len
  pub piece : (block : ℕ) → at ≤ block → block < span.end → piece_at s block ≡ piece_at s at
  pub loose : (block : ℕ) → at ≤ block → block < span.end → is_loose s block ≡ span.loose

-- no block from `from` to before `to` is loose
abbrev pub NoneLoose : Situation → ℕ → ℕ → Type 0
NoneLoose s from to = (block : ℕ) → from ≤ block → block < to → is_loose s block ≡ false

-- the blocks of the run are loose and their pieces alike, and it goes on with none such
pub record EndsStretch (s : Situation) (run : Run) : Type 0 where
  pub some : 1 ≤ run.count
  pub within : run.first + run.count ≤ blocks_of s.total s.piece_len
  pub loose : (block : ℕ) → is_in block run ≡ true → is_loose s block ≡ true
  pub alike : (block : ℕ) → is_in block run ≡ true → AreAlikeAt s run.first block
  pub behind : run.first + run.count < blocks_of s.total s.piece_len → is_loose s (run.first + run.count) ≡ true
      → ¬ AreAlikeAt s run.first (run.first + run.count)

-- the first such run from `from` on
pub record IsNextStretch (s : Situation) (from : ℕ) (run : Run) : Type 0 where
  pub later : from ≤ run.first
  pub none : NoneLoose s from run.first
  pub ends : EndsStretch s run
