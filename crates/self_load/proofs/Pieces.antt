-- The pieces on the disk of a load whose run is done.
use Rattle.std.proofs.Common.{◌≡◌, ⊎_elim, ℕ, ◌+◌, ◌-◌, ◌*◌, ◌<◌, ◌≤◌, min, true, cond, List, [], ◌∷◌, ◌++◌, Option, Some, None, drop, get_or, length, map, refl, slice_get, sym, ap, ◌∙◌, subst, arith}
use Rattle.std.specs.Prelude.{IsSomeAnd, codes, slice_index_or, unwrap_or}
use Rattle.std.specs.List.{range_with_len}
use Rattle.std.proofs.lemmas.Bool.{lt-ltb}
use Rattle.std.proofs.lemmas.Grind.{same_number_lists}
use Rattle.std.proofs.lemmas.List.{get_or-drop, get_or-take, length-drop, length-take-le}
use Rattle.std.proofs.lemmas.List.Elements.{All-head}
use Rattle.std.proofs.lemmas.List.FromFn.{get_or-map-range_with_len, length-map-range_with_len}
use Rattle.std.proofs.lemmas.Option.{get_or_from_slice_get, slice_get-get_or}
use Rattle.std.proofs.lemmas.Slice.Eq.{bytes_eq-Decides}
use Rattle.control_file.specs.declared.want.Want.{Want}
use Rattle.dl_disk.specs.Contents.{files_listed}
use Rattle.dl_disk.specs.Files.{Files}
use Rattle.dl_disk.specs.MemDisk.{IsFresh, IsImage, reading}
use Rattle.dl_disk.specs.declared.memory.MemDisk.{MemDisk}
use Rattle.dl_kinds.specs.Plan.{piece_end, piece_start}
use Rattle.dl_kinds.specs.Lists.{part_at}
use Rattle.payload_files.specs.Names.{name_of}
use Rattle.payload_files.specs.Payload.{HasFiles}
use Rattle.resume_core.specs.Found.{Absent, Found, ListsInFlight, ListsPiece, found, found_in}
use Rattle.resume_core.specs.Resume.{Agrees, AreSound, HasDigest, IsHashed, Sound, byte_at, payload_bytes, piece_payload}
use Rattle.resume_core.specs.Wants.{control_name, files_in}
use Rattle.sha1.specs.Sha1.{sha1}
use Rattle.span_map.specs.declared.files.FileLen.{FileLen}
use Rattle.load_setup.specs.Disk.{payload_read}
use Rattle.load_setup.specs.Metainfo.{metainfo_by}
use Rattle.load_setup.specs.Payload.{is_right_piece, piece_in}
use Rattle.load_setup.specs.Said.{load_file}

-- the want is one of a load: its one file lies in the folder of the run
pub record IsLoadWant (digests : List (List ℕ)) (want : Want) : Type 0 where
  pub base : want.base ≡ codes "load.bin"
  pub folder : want.dir ≡ codes "."
  pub layout : want.layout ≡ load_file ∷ []
  pub total : want.plan.total ≡ 67108864
  pub piece_len : want.plan.piece_len ≡ 1048576
  pub digests_are : want.digests ≡ digests

-- ---- the disk before the run

same_files : (one other : Files) → ((name : List ℕ) → one name ≡ other name) → one ≡ other
same_files one other same i name = same name i

module _ (digests : List (List ℕ)) (disk : MemDisk)
    (is : IsFresh (files_listed ((codes "load.torrent", metainfo_by digests) ∷ [])) disk) (want : Want)
    (its : IsLoadWant digests want) where
  given : Files
  given = files_listed ((codes "load.torrent", metainfo_by digests) ∷ [])

  control_is : control_name want ≡ codes "load.bin.aria2"
  control_is = λ i. name_of (its.folder i) (its.base i ∷ []) ++ codes ".aria2"

  -- no control file stands in an image
  absent : (image : Files) → IsImage disk image → found_in want image ≡ Absent
  absent image left =
      ap (found want) (is.durable image left (control_name want)
      ∙ ap (files_listed ((codes "load.torrent", metainfo_by digests) ∷ [])) control_is)

  same : (image : Files) → IsImage disk image → image ≡ reading disk
  same image left = same_files image (reading disk) (λ name. is.durable image left name ∙ sym
      (is.seen name))

  no_piece : (f : Found) (piece : ℕ) → f ≡ Absent → ListsPiece f piece → ⊥
  no_piece Absent piece none lists = lists
  no_piece f piece none lists = absurd cc

  no_block : (f : Found) (block : ℕ) → f ≡ Absent → ListsInFlight want.plan.piece_len f block → ⊥
  no_block Absent block none lists = lists
  no_block f block none lists = absurd cc

  by_hash : (image : Files) (f : Found) (piece : ℕ) → f ≡ Absent → IsHashed want f (files_in want image) piece
      → HasDigest want (files_in want image) piece
  by_hash image Absent piece none hashed = hashed.2
  by_hash image f piece none hashed = absurd cc

  image_sound : (image : Files) → IsImage disk image → Sound want image
  image_sound image left =
      let none = absent image left in
      record {
        right = λ listed piece resumes. ⊎_elim
            (λ (lists : ListsPiece (found_in want image) piece). absurd (no_piece
            (found_in want image) piece none lists))
            (λ (hashed : IsHashed want (found_in want image) (files_in want image) piece).
            by_hash image (found_in want image) piece none hashed) resumes.1;
        pieces = λ piece lists. absurd (no_piece (found_in want image) piece none lists);
        blocks = λ block lists. absurd (no_block (found_in want image) block none lists);
      }

  pub starts_sound : AreSound want (reading disk) (IsImage disk)
  starts_sound image left = (
    image_sound image left,
    subst (λ (i : Files). Agrees want (reading disk) i) (sym (same image left)) (λ block resumes i below. refl),
  )

-- ---- a part of a list

-- so many values of a function from one place on, which is the list's there
cut_is : (f : ℕ → ℕ) (xs : List ℕ) (start len : ℕ) → start + len ≤ length xs
    → ((at : ℕ) → at < start + len → f at ≡ get_or xs at 0)
    → map (λ i. f (start + i)) (range_with_len 0 len) ≡ part_at xs start len
cut_is f xs start len within is =
    let dropped : length (drop start xs) ≡ length xs - start = length-drop start xs in
    let taken : length (part_at xs start len) ≡ len = length-take-le len (drop start xs) (omega
    (arith, within, dropped)) in
    let counted : length (map (λ i. f (start + i)) (range_with_len 0 len)) ≡ len =
    length-map-range_with_len (λ i. f (start + i)) 0 len in
    same_number_lists (map (λ i. f (start + i)) (range_with_len 0 len)) (part_at xs start len) (counted ∙ sym taken)
    (λ k below.
    let few : k < len = omega (arith, below, counted) in
    get_or-map-range_with_len (λ i. f (start + i)) 0 len k k 0 few (omega arith)
    ∙ (is (start + k) (omega (arith, few)) ∙ sym (get_or-take len (drop start xs) k 0 few ∙ get_or-drop start xs k 0)))

piece_within : (piece : ℕ) → piece < 64 → piece * 1048576 + 1048576 ≤ 67108864
piece_within piece low = omega (arith, low)

piece_many : (piece : ℕ) → piece < 64 → min ((piece + 1) * 1048576) 67108864 - piece * 1048576 ≡ 1048576
piece_many piece low = omega (arith, low)

bounded : (start len count : ℕ) → start + len ≤ 67108864 → count ≡ 67108864 → start + len ≤ count
bounded start len count within is = omega (arith, within, is)

-- ---- the disk behind it

module _ (digests : List (List ℕ)) (want : Want) (its : IsLoadWant digests want) (seen : Files)
    (have : HasFiles want.dir want.layout seen) where
  -- the payload's bytes
  abbrev bytes : List ℕ
  bytes = payload_read seen

  name_is : name_of want.dir (codes "load.bin" ∷ []) ≡ codes "load.bin"
  name_is = λ i. name_of (its.folder i) (codes "load.bin" ∷ [])

  stands : (file : Option (List ℕ)) → seen (codes "load.bin") ≡ file → (seen (codes "load.bin") ≡ Some bytes) ×
      (length bytes ≡ 67108864)
  stands file at =
      let one : IsSomeAnd (seen (name_of want.dir (codes "load.bin" ∷ []))) (λ b. length b ≡ 67108864) =
      All-head (λ (f : FileLen). IsSomeAnd (seen (name_of want.dir f.path)) (λ b. length b ≡ f.len)) load_file []
      (subst (λ (fs : List FileLen). HasFiles want.dir fs seen) its.layout have) in
      by file at (subst (λ (o : Option (List ℕ)). IsSomeAnd o (λ b. length b ≡ 67108864)) (ap seen name_is ∙ at) one)
    where
      by : (o : Option (List ℕ)) → seen (codes "load.bin") ≡ o → IsSomeAnd o (λ b. length b ≡ 67108864)
          → (seen (codes "load.bin") ≡ Some bytes) × (length bytes ≡ 67108864)
      by None is some = absurd some
      by (Some b) is some =
          let same : bytes ≡ b = ap (λ (o : Option (List ℕ)). unwrap_or o []) is in
          (is ∙ ap Some (sym same), ap length same ∙ some)

  abbrev contents : List (Option (List ℕ))
  contents = files_in want seen

  contents_are : contents ≡ Some bytes ∷ []
  contents_are =
      ap (λ (fs : List FileLen). map (λ (f : FileLen). seen (name_of want.dir f.path)) fs) its.layout
      ∙ ap (λ (o : Option (List ℕ)). o ∷ []) (ap seen name_is ∙ (stands (seen (codes "load.bin")) refl).0)

  pub byte_is : (at : ℕ) → at < 67108864 → unwrap_or (byte_at want.layout contents at) 0 ≡ get_or bytes at 0
  byte_is at within =
      let long = (stands (seen (codes "load.bin")) refl).1 in
      ap (λ (o : Option ℕ). unwrap_or o 0)
      ((λ i. byte_at (its.layout i) (contents_are i) at)
      ∙ (ap (λ b. cond b (slice_get bytes at) None) (lt-ltb at 67108864 within) ∙ slice_get-get_or bytes at 0
      (omega (arith, long, within))))

  byte_below : (start len at : ℕ) → start + len ≤ 67108864 → at < start + len
      → unwrap_or (byte_at want.layout contents at) 0 ≡ get_or bytes at 0
  byte_below start len at within below = byte_is at (omega (arith, within, below))

  -- the bytes from one place of the payload on
  read_is : (start len : ℕ) → start + len ≤ 67108864
      → map (λ i. unwrap_or (byte_at want.layout contents (start + i)) 0)
      (range_with_len 0 len) ≡ part_at bytes start len
  read_is start len within =
      let long = (stands (seen (codes "load.bin")) refl).1 in
      cut_is (λ at. unwrap_or (byte_at want.layout contents at) 0) bytes start len (bounded start len
      (length bytes) within long)
      (λ at below. byte_below start len at within below)

  -- a piece that has its digest is right
  pub piece_right : (piece : ℕ) → piece < 64 → HasDigest want contents piece → is_right_piece digests bytes piece ≡ true
  piece_right piece low has =
      let spelled : piece_payload want contents piece ≡ piece_in bytes piece =
      (λ i. payload_bytes want contents (piece_start (its.piece_len i) piece) (piece_end (its.total i)
      (its.piece_len i) piece))
      ∙ (ap (λ n. map (λ k. unwrap_or (byte_at want.layout contents (piece * 1048576 + k)) 0) (range_with_len 0 n))
      (piece_many piece low)
      ∙ read_is (piece * 1048576) 1048576 (piece_within piece low)) in
      let found : slice_get digests piece ≡ Some (sha1 (piece_in bytes piece)) =
      ap (λ ds. slice_get ds piece) (sym its.digests_are) ∙ (has ∙ ap (λ b. Some (sha1 b)) spelled) in
      let at : slice_index_or digests piece [] ≡ sha1 (piece_in bytes piece) =
      get_or_from_slice_get digests piece (sha1 (piece_in bytes piece)) [] found in
      (bytes_eq-Decides (sha1 (piece_in bytes piece)) (slice_index_or digests piece [])).1 (sym at)
