-- What is kept under changes, and what the list of the changes says.
use Rattle.std.specs.Prelude.{◌≡◌, ℕ, ◌+◌, ◌<◌, ◌≤◌, Bool, List, [], ◌∷◌, map, length, slice_index_or}
use Rattle.std.specs.List.{range_with_len}
use Rattle.dl_kinds.specs.Plan.{blocks_of, pieces_of}
use Rattle.piece_table.specs.declared.giver.Giver.TheVariants.{Nobody}
use Rattle.piece_table.specs.Changes.{Change, Land, Settle, Clear, MakeSole, IsGiver, is_present, is_sole, is_verified, sources_of, was_wrong}
use Rattle.piece_table.specs.Progress.{Progress, piece_part}
use Rattle.piece_table.specs.Steps.{landed_by, settled, cleared, made_sole}

-- the progress after a change, as a table keeps it
abbrev pub after_change : Progress → Change → Progress
after_change p (Land run mirror) = landed_by p run mirror
after_change p (Settle piece right) = settled p piece right
after_change p (Clear piece) = cleared p piece
after_change p (MakeSole piece) = made_sole p piece

-- after all of them, the newest first
abbrev pub after_changes : Progress → List Change → Progress
after_changes start [] = start
after_changes start (change ∷ before) = after_change (after_changes start before) change

-- the change is of blocks and pieces of the plan
abbrev pub IsWithin : ℕ → ℕ → Change → Type 0
IsWithin total piece_len (Land run mirror) = run.first + run.count ≤ blocks_of total piece_len
IsWithin total piece_len (Settle piece right) = piece < pieces_of total piece_len
IsWithin total piece_len (Clear piece) = piece < pieces_of total piece_len
IsWithin total piece_len (MakeSole piece) = piece < pieces_of total piece_len

-- the progress is what the list says, where these pieces were verified and these blocks landed at the start
pub record IsAfresh (total piece_len : ℕ) (verified landed : List Bool) (changes : List Change) (p : Progress) : Type 0 where
  pub total_is : p.total ≡ total
  pub piece_len_is : p.piece_len ≡ piece_len
  pub blocks : p.landed ≡ map is_present (sources_of total piece_len landed changes)
  pub pieces : p.verified ≡ map (is_verified verified changes) (range_with_len 0 (pieces_of total piece_len))
  pub sole : p.sole ≡ map (is_sole changes) (range_with_len 0 (pieces_of total piece_len))
  pub wrong : p.wrong ≡ map (was_wrong changes) (range_with_len 0 (pieces_of total piece_len))
  pub as_many : length p.givers ≡ pieces_of total piece_len
  pub givers : (piece : ℕ) → piece < pieces_of total piece_len
      → IsGiver (piece_part total piece_len (sources_of total piece_len landed changes) piece) (slice_index_or p.givers piece Nobody)
