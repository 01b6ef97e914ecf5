-- What a disk tells of itself.
use Rattle.std.specs.Prelude.{◌≡◌, ◌↔◌, ◌≤◌, ℕ, List, [], None, refl}
use Rattle.dl_disk.specs.Files.{Files}

-- What a read gives now, and the images: what a crash now may leave. The moment is raised by one by each call that is
-- made, and of each moment up to now the disk tells what a read gave then, and what a crash might have left. The reads
-- of each file are counted, and the folders that were made stand with the newest first. A disk as it reads is one of its
-- own images, and what it tells of the present moment is how it is now.
pub record DiskState : Type 1 where
  pub seen : Files
  pub may_leave : Files → Type 0
  pub moment : ℕ
  pub seen_at : ℕ → Files
  pub left_at : ℕ → Files → Type 0
  pub reads : List ℕ → ℕ
  pub folders : List (List ℕ)
  pub own_image : may_leave seen
  pub now_seen : seen_at moment ≡ seen
  pub now_left : (image : Files) → left_at moment image ↔ may_leave image

-- a crash at some moment from t on might have left this
abbrev pub LeftSince : DiskState → ℕ → Files → Type 0
LeftSince disk t image = (k : ℕ) × (t ≤ k) × (k ≤ disk.moment) × disk.left_at k image

-- a reading of some moment from t on
abbrev pub ReadSince : DiskState → ℕ → Files → Type 0
ReadSince disk t files = (k : ℕ) × (t ≤ k) × (k ≤ disk.moment) × (files ≡ disk.seen_at k)

-- whatever a crash leaves, it has of this file what a read gives
abbrev pub IsDurable : List ℕ → DiskState → Type 0
IsDurable name disk = (image : Files) → disk.may_leave image → image name ≡ disk.seen name

-- what a disk of which nothing is told is taken for
abbrev pub no_disk : DiskState
no_disk = record {
  seen = λ name. None;
  may_leave = λ image. Unit {0};
  moment = 0;
  seen_at = λ t name. None;
  left_at = λ t image. Unit {0};
  reads = λ name. 0;
  folders = [];
  own_image = tt;
  now_seen = refl;
  now_left = λ image. (λ left. left, λ left. left);
}
