-- Parts of a slice are read, one after the other.
use Rattle.std.proofs.Common.{◌≡◌, ◌∙◌, ap, sym, subst, ℕ, ◌+◌, ◌-◌, ◌<◌, ◌≤◌, List, [], ◌∷◌, ◌++◌, length, take, get_or, refl, arith, append-nil}
use Rattle.std.specs.Prelude.{All}
use Rattle.std.proofs.lemmas.List.{take_all, take_more}
use Rattle.std.proofs.lemmas.List.Concat.{flat_map-append}
use Rattle.std.proofs.lemmas.List.Elements.{All-more}
use Rattle.std.proofs.lemmas.Slice.{take-put_mid}
use borrow.Rule.Slice.PartMut.{put_mid}
use Rattle.dl_kinds.specs.Lists.{part_at}
use Rattle.dl_disk.specs.Files.{Files, IsSame, file_bytes}
use Rattle.dl_disk.specs.Passes.{passes_none, passes_more}
use Rattle.dl_disk.specs.State.{DiskState}
use Rattle.span_map.specs.Slices.{slice_of, part_bytes, PartsHoldSlices}
use Rattle.span_map.specs.declared.files.FileLen.{FileLen}
use Rattle.span_map.specs.declared.files.Part.{Part}
use Rattle.payload_files.specs.Names.{name_of}
use Rattle.payload_files.specs.Payload.{HasFiles, contents_in, payload_in}
use Rattle.payload_files.specs.Reading.{ReadsOnly, HasPart, part_content, ReadsPart, ReadsParts}
use Rattle.payload_files.proofs.Contents.{files_fill}
use Rattle.payload_files.proofs.Keeping.{stays_none, stays_on}

module _ (dir : List ℕ) where
  pub contents_same : (files : List FileLen) (old new : Files) → IsSame old new
      → contents_in dir files new ≡ contents_in dir files old
  contents_same [] old new same = refl
  contents_same (file ∷ files) old new same =
      ap (λ (bytes : List ℕ). bytes ∷ contents_in dir files new)
      (ap file_bytes (same (name_of dir file.path)))
      ∙ ap (λ (rest : List (List ℕ)). file_bytes (old (name_of dir file.path)) ∷ rest)
      (contents_same files old new same)

  -- ---- the disk

  pub reads_none : (files : List FileLen) (a : DiskState) → ReadsOnly dir files a a
  reads_none files a = record {
    stays = stays_none a;
    passes = passes_none IsSame a (λ image name. refl);
    others = λ name other. refl;
    folders = refl;
  }

  pub reads_on : (files : List FileLen) (a b c : DiskState) → ReadsOnly dir files a b → ReadsOnly dir files b c
      → ReadsOnly dir files a c
  reads_on files a b c one two = record {
    stays = stays_on a b c one.stays two.stays;
    passes = passes_more IsSame a b c (λ x y z first second name. second name ∙ first name) one.passes two.passes;
    others = λ name other. two.others name other ∙ one.others name other;
    folders = two.folders ∙ one.folders;
  }

  -- what a part gives is what it gave before
  pub part_before : (files : List FileLen) (old new : Files) (part : Part) (read : List ℕ) → IsSame old new
      → ReadsPart (contents_in dir files new) part read → ReadsPart (contents_in dir files old) part read
  part_before files old new part read same =
      subst (λ (contents : List (List ℕ)). ReadsPart contents part read) (contents_same files old new same)

  pub slice_read : (files : List FileLen) (seen : Files) (at : ℕ) (read : List ℕ) → PartsHoldSlices
      → ReadsParts files (contents_in dir files seen) at read → HasFiles dir files seen
      → read ≡ part_at (payload_in dir files seen) at (length read)
  slice_read files seen at read law reads has =
      reads.bytes ∙ law files (contents_in dir files seen) at (length read) (files_fill dir files seen has).0

-- ---- the bytes

module _ (contents : List (List ℕ)) (parts : List Part) (k : ℕ) (d : Part) (inside : k < length parts) where
  bytes_more : part_bytes contents (take (k + 1) parts)
      ≡ part_bytes contents (take k parts)
      ++ part_at (part_content contents (get_or parts k d)) (get_or parts k d).at (get_or parts k d).len
  bytes_more =
      ap (part_bytes contents) (take_more parts k d inside)
      ∙ flat_map-append _ (take k parts) (get_or parts k d ∷ [])
      ∙ ap (λ (l : List ℕ). part_bytes contents (take k parts) ++ l) (append-nil _)

  pub next_within : (read : List ℕ) → All (HasPart contents) (take k parts) → ReadsPart contents (get_or parts k d) read
      → All (HasPart contents) (take (k + 1) parts)
  next_within read before reads = All-more (HasPart contents) parts k d inside before reads.within

  pub next_bytes : (into read : List ℕ) (done : ℕ) → done ≤ length into → length read ≡ (get_or parts k d).len
      → take done into ≡ part_bytes contents (take k parts) → ReadsPart contents (get_or parts k d) read
      → take (done + (get_or parts k d).len) (put_mid done (done + (get_or parts k d).len - done) into read)
      ≡ part_bytes contents (take (k + 1) parts)
  next_bytes into read done room size before reads =
      take-put_mid done (done + (get_or parts k d).len - done) into read (done + (get_or parts k d).len)
      (omega (arith, size)) room
      ∙ ap (λ (l : List ℕ). l ++ read) before
      ∙ ap (λ (l : List ℕ). part_bytes contents (take k parts) ++ l) reads.bytes
      ∙ sym bytes_more

-- all of them
pub all_read : (files : List FileLen) (contents : List (List ℕ)) (at : ℕ) (parts : List Part) (into : List ℕ)
    (k done : ℕ)
    → parts ≡ slice_of files at (length into) → length parts ≤ k → length into ≤ done
    → All (HasPart contents) (take k parts) → take done into ≡ part_bytes contents (take k parts)
    → ReadsParts files contents at into
all_read files contents at parts into k done slice last full within bytes =
    let all : take k parts ≡ slice_of files at (length into) = take_all k parts last ∙ slice in
    record {
      within = subst (All (HasPart contents)) all within;
      bytes = sym (take_all done into full) ∙ bytes ∙ ap (part_bytes contents) all;
    }
