-- What an image gives of a want, and when it does so soundly. An image is what a crash may leave of the files.
use Rattle.std.specs.Prelude.{◌≡◌, ◌↔◌, ◌⊎◌, ◌<◌, ℕ, ◌+◌, ◌-◌, nat_lt, if◌then◌else◌, List, ◌∷◌, map, slice_get, Option, Some, None, IsSome, unwrap_or}
use Rattle.std.specs.List.{range_with_len}
use Rattle.sha1.specs.Sha1.{sha1}
use Rattle.dl_disk.specs.Files.{Files, file_bytes}
use Rattle.dl_kinds.specs.Plan.{blocks_of, block_start, block_end, piece_start, piece_end, piece_of}
use Rattle.span_map.specs.declared.files.FileLen.{FileLen}
use Rattle.control_file.specs.declared.want.Want.{Want}
use Rattle.resume_core.specs.Found.{Found, Absent, Refused, Used, found_in, ListsPiece, ListsInFlight}
use Rattle.control_file.specs.Wants.{IsListedWant}
use Rattle.resume_core.specs.Wants.{files_in}

-- the byte at a place of the payload, where the files have one there
abbrev pub byte_at : List FileLen → List (Option (List ℕ)) → ℕ → Option ℕ
byte_at (file ∷ files) (content ∷ contents) i =
    if nat_lt i file.len then slice_get (file_bytes content) i else byte_at files contents (i - file.len)
byte_at files contents i = None

-- the files have all the bytes from one place of the payload to another
abbrev pub Reach : Want → List (Option (List ℕ)) → ℕ → ℕ → Type 0
Reach want contents start end = (i : ℕ) → start + i < end → IsSome (byte_at want.layout contents (start + i))

-- these bytes; 0 for one that the files don't have
abbrev pub payload_bytes : Want → List (Option (List ℕ)) → ℕ → ℕ → List ℕ
payload_bytes want contents start end =
    map (λ i. unwrap_or (byte_at want.layout contents (start + i)) 0) (range_with_len 0 (end - start))

abbrev pub ReachesPiece : Want → List (Option (List ℕ)) → ℕ → Type 0
ReachesPiece want contents piece =
    Reach want contents (piece_start want.plan.piece_len piece) (piece_end want.plan.total want.plan.piece_len piece)

abbrev pub ReachesBlock : Want → List (Option (List ℕ)) → ℕ → Type 0
ReachesBlock want contents block =
    Reach want contents (block_start want.plan.piece_len block) (block_end want.plan.total want.plan.piece_len block)

abbrev pub piece_payload : Want → List (Option (List ℕ)) → ℕ → List ℕ
piece_payload want contents piece =
    payload_bytes want contents (piece_start want.plan.piece_len piece) (piece_end want.plan.total want.plan.piece_len piece)

-- the piece has its listed digest (BEP 3, `pieces`)
abbrev pub HasDigest : Want → List (Option (List ℕ)) → ℕ → Type 0
HasDigest want contents piece = slice_get want.digests piece ≡ Some (sha1 (piece_payload want contents piece))

-- without a control file the pieces of a listed want are those whose bytes have their digests
abbrev pub IsHashed : Want → Found → List (Option (List ℕ)) → ℕ → Type 0
IsHashed want Absent contents piece = IsListedWant want × (piece < want.plan.pieces) × HasDigest want contents piece
IsHashed want Refused contents piece = ⊥
IsHashed want (Used control) contents piece = ⊥

-- the pieces and the blocks that a control file, or none, gives beside these files
abbrev pub PieceResumed : Want → Found → List (Option (List ℕ)) → ℕ → Type 0
PieceResumed want found contents piece =
    ReachesPiece want contents piece × (ListsPiece found piece ⊎ IsHashed want found contents piece)

abbrev pub BlockResumed : Want → Found → List (Option (List ℕ)) → ℕ → Type 0
BlockResumed want found contents block =
    ((block < blocks_of want.plan.total want.plan.piece_len) × PieceResumed want found contents (piece_of want.plan.piece_len block))
    ⊎ (ReachesBlock want contents block × ListsInFlight want.plan.piece_len found block)

-- Resume: the pieces and the blocks that an image gives
abbrev pub ResumesPiece : Want → Files → ℕ → Type 0
ResumesPiece want image piece = PieceResumed want (found_in want image) (files_in want image) piece

abbrev pub ResumesBlock : Want → Files → ℕ → Type 0
ResumesBlock want image block = BlockResumed want (found_in want image) (files_in want image) block

-- Each piece that a listed want is given has its digest, and the control file lists nothing past the end of a file.
pub record Sound (want : Want) (image : Files) : Type 0 where
  pub right : IsListedWant want → (piece : ℕ) → ResumesPiece want image piece → HasDigest want (files_in want image) piece
  pub pieces : (piece : ℕ) → ListsPiece (found_in want image) piece → ReachesPiece want (files_in want image) piece
  pub blocks : (block : ℕ) → ListsInFlight want.plan.piece_len (found_in want image) block → ReachesBlock want (files_in want image) block

-- the files have the same bytes from one place of the payload to another
abbrev pub HaveSame : Want → List (Option (List ℕ)) → List (Option (List ℕ)) → ℕ → ℕ → Type 0
HaveSame want old new start end =
    (i : ℕ) → start + i < end → byte_at want.layout new (start + i) ≡ byte_at want.layout old (start + i)

abbrev pub HaveSameBlock : Want → List (Option (List ℕ)) → List (Option (List ℕ)) → ℕ → Type 0
HaveSameBlock want old new block =
    HaveSame want old new (block_start want.plan.piece_len block) (block_end want.plan.total want.plan.piece_len block)

-- each block that the image gives has in it the bytes that the disk reads there
abbrev pub Agrees : Want → Files → Files → Type 0
Agrees want seen image =
    (block : ℕ) → ResumesBlock want image block → HaveSameBlock want (files_in want seen) (files_in want image) block

-- each image is sound, and agrees with what the disk reads
abbrev pub AreSound : Want → Files → (Files → Type 0) → Type 0
AreSound want seen images = (image : Files) → images image → Sound want image × Agrees want seen image

-- both give the same
pub record GiveSame (want : Want) (a b : Files) : Type 0 where
  pub pieces : (piece : ℕ) → ResumesPiece want b piece ↔ ResumesPiece want a piece
  pub blocks : (block : ℕ) → ResumesBlock want b block ↔ ResumesBlock want a block

-- one of the images before gave no more
pub record GivesAtLeast (want : Want) (images : Files → Type 0) (image : Files) : Type 0 where
  pub before : Files
  pub left : images before
  pub pieces : (piece : ℕ) → ResumesPiece want before piece → ResumesPiece want image piece
  pub blocks : (block : ℕ) → ResumesBlock want before block → ResumesBlock want image block
