-- The files of a want with their lengths.
use Rattle.std.proofs.Common.{◌≡◌, ◌∙◌, ℕ, ◌-◌, ◌<◌, suc, List, [], ◌∷◌, ◌++◌, length, map, take, drop, get_or, replicate, Option, Some, None, sym, subst, refl, ap, arith}
use Rattle.std.specs.Prelude.{IsSomeAnd, option_map}
use Rattle.std.specs.List.{AllByRecursion}
use Rattle.std.proofs.lemmas.List.{append-nil, take_all}
use Rattle.std.proofs.lemmas.List.Elements.{recursion_from_All, All-from_recursion}
use Rattle.dl_disk.specs.Files.{Files, MayMake, Stretched, file_bytes, resized}
use Rattle.dl_kinds.specs.Plan.{piece_start, piece_end}
use Rattle.span_map.specs.declared.files.FileLen.{FileLen}
use Rattle.payload_files.specs.Changes.{Stretches}
use Rattle.payload_files.specs.Names.{name_of}
use Rattle.payload_files.specs.Payload.{AreResized, HasFiles}
use Rattle.payload_files.proofs.Lengths.{stretched_none}
use Rattle.control_file.specs.declared.want.Want.{Want}
use Rattle.resume_core.specs.Lens.{AreWhole, lens_in, lens_of_files}
use Rattle.resume_core.specs.Openings.{FitsPayload, StretchesPayload}
use Rattle.resume_core.specs.Resume.{ReachesPiece, piece_payload}
use Rattle.resume_core.specs.Wants.{files_in}
use Rattle.resume_core.proofs.Stretching.{reach_kept, bytes_kept}

module _ (dir : List ℕ) where
  abbrev at_name : Files → FileLen → Option (List ℕ)
  at_name files file = files (name_of dir file.path)

  head_same : (x y : Option (List ℕ)) (xs ys : List (Option (List ℕ))) → x ∷ xs ≡ y ∷ ys → x ≡ y
  head_same x y xs ys same = ap (λ (l : List (Option (List ℕ))). get_or l 0 x) same

  tail_same : (x y : Option (List ℕ)) (xs ys : List (Option (List ℕ))) → x ∷ xs ≡ y ∷ ys → xs ≡ ys
  tail_same x y xs ys same = ap (drop 1) same

  -- what holds of each file and what stands of it holds where the same stands
  each_as : (R : FileLen → Option (List ℕ) → Type 0) (a b : Files) (files : List FileLen)
      → map (at_name b) files ≡ map (at_name a) files
      → AllByRecursion (λ file. R file (at_name a file)) files → AllByRecursion (λ file. R file (at_name b file)) files
  each_as R a b [] same all = tt
  each_as R a b (file ∷ files) same (here, more) = (
    subst (R file) (sym (head_same (at_name b file) (at_name a file) (map (at_name b) files)
        (map (at_name a) files) same)) here,
    each_as R a b files (tail_same (at_name b file) (at_name a file) (map (at_name b) files)
        (map (at_name a) files) same) more,
  )

  -- the same of two states of each file
  each_from : (R : FileLen → Option (List ℕ) → Option (List ℕ) → Type 0) (a b c : Files) (files : List FileLen)
      → map (at_name b) files ≡ map (at_name a) files
      → AllByRecursion (λ file. R file (at_name b file) (at_name c file)) files
      → AllByRecursion (λ file. R file (at_name a file) (at_name c file)) files
  each_from R a b c [] same all = tt
  each_from R a b c (file ∷ files) same (here, more) = (
    subst (λ (it : Option (List ℕ)). R file it (at_name c file))
        (head_same (at_name b file) (at_name a file) (map (at_name b) files) (map (at_name a) files) same) here,
    each_from R a b c files (tail_same (at_name b file) (at_name a file) (map (at_name b) files)
        (map (at_name a) files) same) more,
  )

  each_to : (R : FileLen → Option (List ℕ) → Option (List ℕ) → Type 0) (a b c : Files) (files : List FileLen)
      → map (at_name c) files ≡ map (at_name b) files
      → AllByRecursion (λ file. R file (at_name a file) (at_name b file)) files
      → AllByRecursion (λ file. R file (at_name a file) (at_name c file)) files
  each_to R a b c [] same all = tt
  each_to R a b c (file ∷ files) same (here, more) = (
    subst (R file (at_name a file))
        (sym (head_same (at_name c file) (at_name b file) (map (at_name c) files) (map (at_name b) files) same)) here,
    each_to R a b c files (tail_same (at_name c file) (at_name b file) (map (at_name c) files)
        (map (at_name b) files) same) more,
  )

abbrev HasLen : FileLen → Option (List ℕ) → Type 0
HasLen file it = IsSomeAnd it (λ bytes. length bytes ≡ file.len)

abbrev IsFitted : FileLen → Option (List ℕ) → Option (List ℕ) → Type 0
IsFitted file was now = now ≡ Some (resized (file_bytes was) file.len)

abbrev MayStretch : FileLen → Option (List ℕ) → Option (List ℕ) → Type 0
MayStretch file was now = MayMake (Stretched file.len) was now

pub lens_whole : (files : List FileLen) (lens : List (Option ℕ)) → length lens ≡ length files
    → ((j : ℕ) (d : FileLen) → j < length lens → get_or lens j None ≡ Some (get_or files j d).len)
    → lens ≡ map (λ file. Some file.len) files
lens_whole [] [] same each = refl
lens_whole [] (len ∷ lens) same each = absurd (omega (arith, same))
lens_whole (file ∷ files) [] same each = absurd (omega (arith, same))
lens_whole (file ∷ files) (len ∷ lens) same each =
    rw (
      each 0 file (omega arith),
      lens_whole files lens (omega (arith, same))
          (λ j d within. each (suc j) d (omega (arith, within))),
    ) refl

module _ (want : Want) where
  pub has_same : (a b : Files) → files_in want b ≡ files_in want a → HasFiles want.dir want.layout a
      → HasFiles want.dir want.layout b
  has_same a b same has =
      All-from_recursion (λ file. HasLen file (b (name_of want.dir file.path))) want.layout
      (each_as want.dir HasLen a b want.layout same
      (recursion_from_All (λ file. HasLen file (a (name_of want.dir file.path))) want.layout has))

  resized_from : (a b c : Files) → files_in want b ≡ files_in want a → AreResized want.dir want.layout b c
      → AreResized want.dir want.layout a c
  resized_from a b c same sized =
      All-from_recursion (λ file. IsFitted file (a (name_of want.dir file.path)) (c (name_of want.dir file.path)))
      want.layout
      (each_from want.dir IsFitted a b c want.layout same
      (recursion_from_All (λ file. IsFitted file (b (name_of want.dir file.path)) (c (name_of want.dir file.path)))
      want.layout sized))

  resized_to : (a b c : Files) → files_in want c ≡ files_in want b → AreResized want.dir want.layout a b
      → AreResized want.dir want.layout a c
  resized_to a b c same sized =
      All-from_recursion (λ file. IsFitted file (a (name_of want.dir file.path)) (c (name_of want.dir file.path)))
      want.layout
      (each_to want.dir IsFitted a b c want.layout same
      (recursion_from_All (λ file. IsFitted file (a (name_of want.dir file.path)) (b (name_of want.dir file.path)))
      want.layout sized))

  pub stretches_from : (a b c : Files) → files_in want b ≡ files_in want a → StretchesPayload want b c
      → StretchesPayload want a c
  stretches_from a b c same stretches =
      All-from_recursion (λ file. MayStretch file (a (name_of want.dir file.path)) (c (name_of want.dir file.path)))
      want.layout
      (each_from want.dir MayStretch a b c want.layout same
      (recursion_from_All (λ file. MayStretch file (b (name_of want.dir file.path)) (c (name_of want.dir file.path)))
      want.layout stretches))

  pub stretches_to : (a b c : Files) → files_in want c ≡ files_in want b → StretchesPayload want a b
      → StretchesPayload want a c
  stretches_to a b c same stretches =
      All-from_recursion (λ file. MayStretch file (a (name_of want.dir file.path)) (c (name_of want.dir file.path)))
      want.layout
      (each_to want.dir MayStretch a b c want.layout same
      (recursion_from_All (λ file. MayStretch file (a (name_of want.dir file.path)) (b (name_of want.dir file.path)))
      want.layout stretches))

  -- nothing changed
  pub stretches_same : (a b : Files) → files_in want b ≡ files_in want a → StretchesPayload want a b
  stretches_same a b same = stretches_to a a b same
      (λ k d within. let file = get_or want.layout k d in stretched_none file.len (a (name_of want.dir file.path)))

  -- ---- what was read of a payload before and after its files get their lengths

  pub fits_stretched : (a b c : Files) → files_in want b ≡ files_in want a → AreResized want.dir want.layout b c
      → Stretches want.dir want.layout b c → FitsPayload want a c
  fits_stretched a b c same sized change = record {
    resized = resized_from a b c same sized;
    reaches = λ piece reach. reach_kept want b c change (piece_start want.plan.piece_len piece)
        (piece_end want.plan.total want.plan.piece_len piece)
        (subst (λ (files : List (Option (List ℕ))). ReachesPiece want files piece) (sym same) reach);
    bytes = λ piece reach. bytes_kept want b c change (piece_start want.plan.piece_len piece)
        (piece_end want.plan.total want.plan.piece_len piece)
        (subst (λ (files : List (Option (List ℕ))). ReachesPiece want files piece) (sym same) reach)
        ∙ ap (λ (files : List (Option (List ℕ))). piece_payload want files piece) same;
  }

  pub fits_from : (a b c : Files) → files_in want b ≡ files_in want a → FitsPayload want b c → FitsPayload want a c
  fits_from a b c same fits = record {
    resized = resized_from a b c same fits.resized;
    reaches = λ piece reach. fits.reaches piece
        (subst (λ (files : List (Option (List ℕ))). ReachesPiece want files piece) (sym same) reach);
    bytes = λ piece reach. fits.bytes piece
        (subst (λ (files : List (Option (List ℕ))). ReachesPiece want files piece) (sym same) reach)
        ∙ ap (λ (files : List (Option (List ℕ))). piece_payload want files piece) same;
  }

  pub fits_to : (a b c : Files) → files_in want c ≡ files_in want b → FitsPayload want a b → FitsPayload want a c
  fits_to a b c same fits = record {
    resized = resized_to a b c same fits.resized;
    reaches = λ piece reach. subst (λ (files : List (Option (List ℕ))). ReachesPiece want files piece) (sym same)
        (fits.reaches piece reach);
    bytes = λ piece reach. ap (λ (files : List (Option (List ℕ))). piece_payload want files piece) same
        ∙ fits.bytes piece reach;
  }

  -- ---- files that have their lengths

  whole_each : (seen : Files) (files : List FileLen) → lens_of_files want.dir files seen ≡ map
      (λ file. Some file.len) files
      → AllByRecursion (λ file. HasLen file (seen (name_of want.dir file.path))) files
  whole_each seen [] same = tt
  whole_each seen (file ∷ files) same = (
    has_len (seen (name_of want.dir file.path)) (ap (λ (l : List (Option ℕ)). get_or l 0 None) same),
    whole_each seen files (ap (drop 1) same),
  )
    where
      has_len : (it : Option (List ℕ)) → option_map length it ≡ Some file.len → HasLen file it
      has_len None len = absurd cc
      has_len (Some bytes) len = cc

  pub whole_files : (seen : Files) → AreWhole want (lens_in want seen) → HasFiles want.dir want.layout seen
  whole_files seen whole = All-from_recursion (λ file. HasLen file (seen (name_of want.dir file.path))) want.layout
      (whole_each seen want.layout whole)

  each_whole : (seen : Files) (files : List FileLen)
      → AllByRecursion (λ file. HasLen file (seen (name_of want.dir file.path))) files
      → lens_of_files want.dir files seen ≡ map (λ file. Some file.len) files
  each_whole seen [] all = refl
  each_whole seen (file ∷ files) (here, more) = rw (
    len_is (seen (name_of want.dir file.path)) here,
    each_whole seen
        files more,
  ) refl
    where
      len_is : (it : Option (List ℕ)) → HasLen file it → option_map length it ≡ Some file.len
      len_is None has = absurd has
      len_is (Some bytes) has = ap (λ (n : ℕ). Some n) has

  pub files_whole : (seen : Files) → HasFiles want.dir want.layout seen → AreWhole want (lens_in want seen)
  files_whole seen has = each_whole seen want.layout
      (recursion_from_All (λ file. HasLen file (seen (name_of want.dir file.path))) want.layout has)

  resized_as_is : (file : FileLen) (it : Option (List ℕ)) → HasLen file it → IsFitted file it it
  resized_as_is file None has = absurd has
  resized_as_is file (Some bytes) has =
      let none : file.len - length bytes ≡ 0 = omega (arith, has) in
      ap (λ (l : List ℕ). Some l)
      (sym (ap (λ (n : ℕ). take file.len (bytes ++ replicate n 0)) none
      ∙ ap (take file.len) (append-nil bytes)
      ∙ take_all file.len bytes (omega (arith, has))))

  fitted_each : (seen : Files) (files : List FileLen)
      → AllByRecursion (λ file. HasLen file (seen (name_of want.dir file.path))) files
      → AllByRecursion (λ file. IsFitted file (seen (name_of want.dir file.path))
      (seen (name_of want.dir file.path))) files
  fitted_each seen [] all = tt
  fitted_each seen (file ∷ files) (here, more) = (
    resized_as_is file (seen (name_of want.dir file.path)) here,
    fitted_each seen files more,
  )

  pub fits_as_is : (seen : Files) → HasFiles want.dir want.layout seen → FitsPayload want seen seen
  fits_as_is seen has = record {
    resized = All-from_recursion (λ file. IsFitted file (seen (name_of want.dir file.path))
        (seen (name_of want.dir file.path))) want.layout
        (fitted_each seen want.layout
        (recursion_from_All (λ file. HasLen file (seen (name_of want.dir file.path))) want.layout has));
    reaches = λ piece reach. reach;
    bytes = λ piece reach. refl;
  }
