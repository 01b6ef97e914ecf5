-- The files of a payload on a disk, and what they hold together.
use Rattle.std.proofs.Common.{◌≡◌, ◌≢◌, ◌∙◌, ap, sym, subst, ℕ, zero, suc, List, [], ◌∷◌, ◌++◌, length, take, get_or, Option, Some, None, refl, arith, append_assoc, length-append, ⊎_elim, slice_get, IsSomeAnd}
use Rattle.std.proofs.lemmas.Bool.{cases_eq}
use Rattle.std.proofs.lemmas.Option.{same_Some, none-some, slice_get-get_or}
use Rattle.std.proofs.lemmas.List.Elements.{All-head, All-tail}
use Rattle.std.proofs.lemmas.List.Sums.{sum_by-cons}
use Rattle.dl_disk.specs.Files.{Files, file_bytes}
use Rattle.span_map.specs.Layout.{total_of}
use Rattle.span_map.specs.Slices.{Fills}
use Rattle.span_map.specs.declared.files.FileLen.{FileLen}
use Rattle.payload_files.specs.Names.{name_of}
use Rattle.payload_files.specs.Payload.{HasFiles, contents_in, payload_in, AreSame, FilesFill, SameFilesHold}

module _ (dir : List ℕ) where
  abbrev standing : Files → FileLen → Option (List ℕ)
  standing seen file = seen (name_of dir file.path)

  abbrev HasLen : FileLen → Option (List ℕ) → Type 0
  HasLen file it = IsSomeAnd it (λ (bytes : List ℕ). length bytes ≡ file.len)

  -- ---- lengths

  pub has_len : (file : FileLen) (it : Option (List ℕ)) → HasLen file it → length (file_bytes it) ≡ file.len
  has_len file None has = absurd has
  has_len file (Some bytes) has = has

  fills : (files : List FileLen) (seen : Files) → HasFiles dir files seen → Fills files (contents_in dir files seen)
  fills [] seen has = tt
  fills (x ∷ files) seen has = (
    has_len x (standing seen x) (All-head (λ (file : FileLen). HasLen file (standing seen file)) x files has),
    fills files seen (All-tail (λ (file : FileLen). HasLen file (standing seen file)) x files has),
  )

  pub payload_len : (files : List FileLen) (seen : Files) → HasFiles dir files seen → length (payload_in dir files seen) ≡ total_of files
  payload_len [] seen has = refl
  payload_len (x ∷ files) seen has =
      let here = has_len x (standing seen x) (All-head (λ (file : FileLen). HasLen file (standing seen file)) x files has) in
      let rest = payload_len files seen (All-tail (λ (file : FileLen). HasLen file (standing seen file)) x files has) in
      omega (arith, here, rest, length-append (file_bytes (standing seen x)) (payload_in dir files seen), sum_by-cons (λ (file : FileLen). file.len) x files)

  pub files_fill_in : (files : List FileLen) (seen : Files) → HasFiles dir files seen → Fills files (contents_in dir files seen) × (length (payload_in dir files seen) ≡ total_of files)
  files_fill_in files seen has = (fills files seen has, payload_len files seen has)

  -- ---- the same files

  pub payload_same : (files : List FileLen) (old new : Files) → AreSame dir files new old → payload_in dir files new ≡ payload_in dir files old
  payload_same [] old new same = refl
  payload_same (x ∷ files) old new same =
      ap (λ (it : Option (List ℕ)). file_bytes it ++ payload_in dir files new) (All-head (λ (file : FileLen). standing new file ≡ standing old file) x files same)
      ∙ ap (λ (rest : List ℕ). file_bytes (standing old x) ++ rest) (payload_same files old new (All-tail (λ (file : FileLen). standing new file ≡ standing old file) x files same))

  pub same_files_in : (files : List FileLen) (old new : Files) → AreSame dir files new old → HasFiles dir files old → HasFiles dir files new × (payload_in dir files new ≡ payload_in dir files old)
  same_files_in files old new same has = (
    λ k d within. subst (HasLen (get_or files k d)) (sym (same k d within)) (has k d within),
    payload_same files old new same,
  )

  -- ---- one file changes

  -- no other file than the one of this number changes
  abbrev pub OneChanges : List FileLen → ℕ → Files → Files → Type 0
  OneChanges files i old new = (j : ℕ) (other : FileLen) → slice_get files j ≡ Some other → j ≢ i → standing new other ≡ standing old other

  -- the payload is what stands before the file, the file, and what stands behind it
  pub record Cut (files : List FileLen) (i : ℕ) (name : List ℕ) (old new : Files) : Type 0 where
    pub front : List ℕ
    pub back : List ℕ
    pub size : length front ≡ total_of (take i files)
    pub was : payload_in dir files old ≡ front ++ (file_bytes (old name) ++ back)
    pub now : payload_in dir files new ≡ front ++ (file_bytes (new name) ++ back)

  all_same : (files : List FileLen) (old new : Files) → ((j : ℕ) (other : FileLen) → slice_get files j ≡ Some other → standing new other ≡ standing old other) → AreSame dir files new old
  all_same files old new same k d within = same k (get_or files k d) (slice_get-get_or files k d within)

  pub cut_at : (files : List FileLen) (i : ℕ) (file : FileLen) (old new : Files) → slice_get files i ≡ Some file → OneChanges files i old new → HasFiles dir files old → Cut files i (name_of dir file.path) old new
  cut_at [] i file old new at_i others has = absurd (none-some file at_i)
  cut_at (x ∷ files) zero file old new at_i others has =
      let first : x ≡ file = same_Some x file at_i in
      record {
        front = [];
        back = payload_in dir files old;
        size = refl;
        was = ap (λ (f : FileLen). file_bytes (standing old f) ++ payload_in dir files old) first;
        now = ap (λ (f : FileLen). file_bytes (standing new f) ++ payload_in dir files new) first
            ∙ ap (λ (rest : List ℕ). file_bytes (standing new file) ++ rest)
            (payload_same files old new (all_same files old new (λ j other at_j. others (suc j) other at_j (λ is. absurd (omega (arith, is))))));
      }
  cut_at (x ∷ files) (suc i) file old new at_i others has =
      let rest = cut_at files i file old new at_i (λ j other at_j differ. others (suc j) other at_j (λ is. differ (omega (arith, is)))) (All-tail (λ (f : FileLen). HasLen f (standing old f)) x files has) in
      let here = has_len x (standing old x) (All-head (λ (f : FileLen). HasLen f (standing old f)) x files has) in
      let stays : standing new x ≡ standing old x = others 0 x refl (λ is. absurd (omega (arith, is))) in
      record {
        front = file_bytes (standing old x) ++ rest.front;
        back = rest.back;
        size = omega (arith, here, rest.size, length-append (file_bytes (standing old x)) rest.front, sum_by-cons (λ (f : FileLen). f.len) x (take i files));
        was = ap (λ (l : List ℕ). file_bytes (standing old x) ++ l) rest.was ∙ sym (append_assoc (file_bytes (standing old x)) rest.front (file_bytes (standing old file) ++ rest.back));
        now = ap (λ (it : Option (List ℕ)). file_bytes it ++ payload_in dir files new) stays
            ∙ ap (λ (l : List ℕ). file_bytes (standing old x) ++ l) rest.now ∙ sym (append_assoc (file_bytes (standing old x)) rest.front (file_bytes (standing new file) ++ rest.back));
      }

  -- the files have their lengths still
  pub one_stands : (files : List FileLen) (i : ℕ) (file : FileLen) (old new : Files) → slice_get files i ≡ Some file → OneChanges files i old new
      → HasFiles dir files old → HasLen file (standing new file) → HasFiles dir files new
  one_stands files i file old new at_i others has now k d within =
      let at_k : slice_get files k ≡ Some (get_or files k d) = slice_get-get_or files k d within in
      ⊎_elim
      (λ is. let same : file ≡ get_or files k d = same_Some file (get_or files k d) (sym at_i ∙ ap (slice_get files) (sym is) ∙ at_k) in
      subst (λ (f : FileLen). HasLen f (standing new f)) same now)
      (λ differ. subst (HasLen (get_or files k d)) (sym (others k (get_or files k d) at_k differ)) (has k d within))
      (cases_eq k i)

pub files_fill : FilesFill
files_fill dir = files_fill_in dir

pub same_files_hold : SameFilesHold
same_files_hold dir = same_files_in dir
