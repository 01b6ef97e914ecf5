-- The lengths that the files of a payload have on the disk, and the bytes of the payload that stand with them.
use Rattle.std.specs.Prelude.{◌≡◌, ◌<◌, ◌≤◌, ℕ, ◌+◌, ◌-◌, Bool, false, nat_lt, if◌then◌else◌, List, [], ◌∷◌, length, map, Option, Some, None, option_map, unwrap_or, get_or, IsTrue}
use Rattle.dl_disk.specs.Files.{Files}
use Rattle.dl_kinds.specs.Plan.{piece_start, piece_end, block_start, block_end}
use Rattle.span_map.specs.declared.files.FileLen.{FileLen}
use Rattle.span_map.specs.declared.files.Part.{Part}
use Rattle.payload_files.specs.Names.{name_of}
use Rattle.control_file.specs.declared.want.Want.{Want}

-- the length of each file, and none of one that is missing
abbrev pub lens_of : List (Option (List ℕ)) → List (Option ℕ)
lens_of contents = map (λ content. option_map length content) contents

abbrev pub lens_of_files : List ℕ → List FileLen → Files → List (Option ℕ)
lens_of_files dir files image = lens_of (map (λ file. image (name_of dir file.path)) files)

abbrev pub lens_in : Want → Files → List (Option ℕ)
lens_in want image = lens_of_files want.dir want.layout image

-- the length of the first file that stands
abbrev pub first_len : List (Option ℕ) → Option ℕ
first_len [] = None
first_len (None ∷ lens) = first_len lens
first_len (Some len ∷ lens) = Some len

-- each file has its length
abbrev pub AreWhole : Want → List (Option ℕ) → Type 0
AreWhole want lens = lens ≡ map (λ file. Some file.len) want.layout

-- whether the files have a byte at this place of the payload
abbrev pub has_byte_at : List FileLen → List (Option ℕ) → ℕ → Bool
has_byte_at (file ∷ files) (len ∷ lens) i =
    if nat_lt i file.len then nat_lt i (unwrap_or len 0) else has_byte_at files lens (i - file.len)
has_byte_at files lens i = false

-- they have all the bytes from one place of the payload to another
abbrev pub SpanStands : Want → List (Option ℕ) → ℕ → ℕ → Type 0
SpanStands want lens start end = (i : ℕ) → start + i < end → IsTrue (has_byte_at want.layout lens (start + i))

abbrev pub PieceStands : Want → List (Option ℕ) → ℕ → Type 0
PieceStands want lens piece =
    SpanStands want lens (piece_start want.plan.piece_len piece) (piece_end want.plan.total want.plan.piece_len piece)

abbrev pub BlockStands : Want → List (Option ℕ) → ℕ → Type 0
BlockStands want lens block =
    SpanStands want lens (block_start want.plan.piece_len block) (block_end want.plan.total want.plan.piece_len block)

-- the file has all of the part
abbrev pub PartStands : List (Option ℕ) → Part → Type 0
PartStands lens part = part.at + part.len ≤ unwrap_or (get_or lens part.file None) 0
