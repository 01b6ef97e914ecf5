-- A file that is checked and repaired, and what stands of it.
use Rattle.std.specs.Prelude.{◌≡◌, ◌≢◌, ℕ, List, length, take, option_map, IfSome}
use Rattle.dl_disk.specs.Files.{Files, file_bytes}
use Rattle.merkle_trees.specs.Trees.{IsPieceLen}
use Rattle.payload_repair.specs.Pieces.{HashedFile}
use Rattle.payload_repair.specs.declared.job.RepairJob.{RepairJob}

-- the file as its pieces
abbrev pub hashed : RepairJob → HashedFile
hashed job = record { len = job.plan.total; piece_len = job.plan.piece_len; hashes = job.hashes.now }

-- the first bytes of a file, so many
abbrev pub first_bytes : List ℕ → ℕ → Files → List ℕ
first_bytes name len seen = take len (file_bytes (seen name))

-- the bytes of the file, as many as it had at the start
abbrev pub own_bytes : RepairJob → Files → List ℕ
own_bytes job seen = take job.len (file_bytes (seen job.name.now))

-- the bytes of the copy; none where there is no copy
abbrev pub copy_bytes : RepairJob → Files → List ℕ
copy_bytes job seen = file_bytes (option_map (λ name. take job.copy_len (file_bytes (seen name.now))) job.copy)

-- the pieces have a length of version 2, and each has a hash
pub record IsRepairJob (job : RepairJob) : Type 0 where
  pub piece_len : IsPieceLen job.plan.piece_len
  pub each : length job.hashes.now ≡ job.plan.pieces

-- the copy is another file
abbrev pub HasOtherCopy : RepairJob → Type 0
HasOtherCopy job = IfSome job.copy (λ name. name.now ≢ job.name.now)
