-- What a list of changes leaves of a download's payload, read off the list. The newest change stands first.
use Rattle.std.specs.Prelude.{◌≡◌, ◌⊎◌, ℕ, ◌+◌, ◌==◌, nat_le, nat_lt, ◌&&◌, ◌||◌, Bool, true, false, not, if◌then◌else◌, Option, Some, None, List, [], ◌∷◌, map, All, Contains, slice_index_or}
use Rattle.std.specs.List.{filter_map, list_any, range_with_len}
use Rattle.dl_kinds.specs.Plan.{blocks_of, piece_of}
use Rattle.dl_kinds.specs.declared.runs.Run.{Run}
use Rattle.piece_table.specs.declared.giver.Giver.{Giver}
use Rattle.piece_table.specs.declared.giver.Giver.TheVariants.{Nobody, One, Mixed}

pub data Change : Type 0 where
  Land : (run : Run) (mirror : ℕ) → Change  -- a mirror gives the blocks of a run
  Settle : (piece : ℕ) (right : Bool) → Change  -- a piece is found right or wrong
  Clear : (piece : ℕ) → Change  -- the blocks of a piece go
  MakeSole : (piece : ℕ) → Change  -- one mirror has to give the piece whole from now on

-- ---- blocks

-- where a block is from
pub data Source : Type 0 where
  Absent : Source  -- it isn't there
  Unknown : Source  -- it was there at the start
  From : (mirror : ℕ) → Source  -- this mirror gave it

abbrev pub is_present : Source → Bool
is_present Absent = false
is_present Unknown = true
is_present (From mirror) = true

-- a mirror gives the block: that counts where it isn't there
abbrev pub given : Source → ℕ → Source
given Absent mirror = From mirror
given Unknown mirror = Unknown
given (From other) mirror = From other

abbrev pub is_in : ℕ → Run → Bool
is_in block run = nat_le run.first block && nat_lt block (run.first + run.count)

-- where a block is from: it's there since the first landing that holds it after the last clearing of its piece
abbrev pub source_of : ℕ → List Bool → List Change → ℕ → Source
source_of piece_len start [] block = if slice_index_or start block false then Unknown else Absent
source_of piece_len start (Land run mirror ∷ before) block =
    let source = source_of piece_len start before block in
    if is_in block run then given source mirror else source
source_of piece_len start (Settle piece right ∷ before) block = source_of piece_len start before block
source_of piece_len start (Clear piece ∷ before) block =
    if piece_of piece_len block == piece then Absent else source_of piece_len start before block
source_of piece_len start (MakeSole piece ∷ before) block = source_of piece_len start before block

-- where each block is from
abbrev pub sources_of : ℕ → ℕ → List Bool → List Change → List Source
sources_of total piece_len start changes = map (source_of piece_len start changes) (range_with_len 0 (blocks_of total piece_len))

-- the block isn't there, or the mirror gave it
abbrev pub MayBeFrom : ℕ → Source → Type 0
MayBeFrom mirror source = (source ≡ Absent) ⊎ (source ≡ From mirror)

-- who gave the blocks of a piece that are there: nobody, where none is; one mirror, where it gave them all
abbrev pub IsGiver : List Source → Giver → Type 0
IsGiver sources Nobody = All (λ source. source ≡ Absent) sources
IsGiver sources (One mirror) = Contains sources (From mirror) × All (MayBeFrom mirror) sources
IsGiver sources Mixed = (mirror : ℕ) → All (MayBeFrom mirror) sources → ⊥

-- ---- pieces

abbrev pub is_right : ℕ → Change → Bool
is_right piece (Land run mirror) = false
is_right piece (Settle other right) = other == piece && right
is_right piece (Clear other) = false
is_right piece (MakeSole other) = false

-- a piece is verified that was so at the start, or was found right
abbrev pub is_verified : List Bool → List Change → ℕ → Bool
is_verified start changes piece = slice_index_or start piece false || list_any (is_right piece) changes

abbrev pub makes_sole : ℕ → Change → Bool
makes_sole piece (Land run mirror) = false
makes_sole piece (Settle other right) = false
makes_sole piece (Clear other) = false
makes_sole piece (MakeSole other) = other == piece

abbrev pub is_sole : List Change → ℕ → Bool
is_sole changes piece = list_any (makes_sole piece) changes

-- what was found of the piece
abbrev pub verdict_on : ℕ → Change → Option Bool
verdict_on piece (Land run mirror) = None
verdict_on piece (Settle other right) = if other == piece then Some right else None
verdict_on piece (Clear other) = None
verdict_on piece (MakeSole other) = None

abbrev pub is_wrong_last : List Bool → Bool
is_wrong_last [] = false
is_wrong_last (last ∷ before) = not last

-- it was last found wrong
abbrev pub was_wrong : List Change → ℕ → Bool
was_wrong changes piece = is_wrong_last (filter_map (verdict_on piece) changes)
