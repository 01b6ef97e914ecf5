-- Files that a run is written to keep the bytes that they had outside of it.
use Rattle.std.proofs.Common.{◌≡◌, ℕ, suc, ◌+◌, ◌-◌, ◌<◌, ◌≤◌, ◌⊎◌, Bool, cond, List, [], ◌∷◌, length, map, take, slice_get, Option, Some, None, sym, subst, refl, inl, inr, ⊎_elim, arith}
use Rattle.std.specs.Prelude.{IsSome}
use Rattle.std.proofs.lemmas.Bool.{cases_lt, lt-ltb, le-ltb}
use Rattle.std.proofs.lemmas.List.Sums.{sum_by-cons}
use Rattle.std.proofs.lemmas.Option.{slice_get_past, slice_get-get_or}
use Rattle.dl_disk.specs.Files.{Files, file_bytes, MayMake}
use Rattle.span_map.specs.Layout.{total_of}
use Rattle.span_map.specs.declared.files.FileLen.{FileLen}
use Rattle.payload_files.specs.Names.{name_of}
use Rattle.payload_files.specs.Changes.{TornFile, AreTorn}
use Rattle.resume_core.specs.Resume.{byte_at}

none_is_some : {P : Type 0} → IsSome {T = ℕ} None → P
none_is_some some = absurd cc

within : (bytes : List ℕ) (i : ℕ) → IsSome (slice_get bytes i) → i < length bytes
within bytes i some = elim (cases_lt i (length bytes)) [
  | inl below ↦ below
  | inr past ↦ none_is_some (subst (λ (o : Option ℕ). IsSome o) (slice_get_past bytes i past) some)
]

there : (bytes : List ℕ) (i : ℕ) → i < length bytes → IsSome (slice_get bytes i)
there bytes i below = subst (λ (o : Option ℕ). IsSome o) (sym (slice_get-get_or bytes i 0 below)) refl

-- ---- one file

module _ (start len at n : ℕ) where
  file_byte : (was now : Option (List ℕ)) (i : ℕ) → MayMake (TornFile start len at n) was now
      → (start + i < at) ⊎ (at + n ≤ start + i)
      → IsSome (slice_get (file_bytes was) i) → slice_get (file_bytes now) i ≡ slice_get (file_bytes was) i
  file_byte None None i torn outside some = refl
  file_byte None (Some new) i torn outside some = absurd (omega (arith, within [] i some))
  file_byte (Some old) None i torn outside some = absurd torn
  file_byte (Some old) (Some new) i torn outside some = torn.same i (within old i some) outside

  file_there : (was now : Option (List ℕ)) (i : ℕ) → MayMake (TornFile start len at n) was now
      → IsSome (slice_get (file_bytes was) i) → IsSome (slice_get (file_bytes now) i)
  file_there None None i torn some = some
  file_there None (Some new) i torn some = absurd (omega (arith, within [] i some))
  file_there (Some old) None i torn some = absurd torn
  file_there (Some old) (Some new) i torn some =
      there new i (let below = within old i some in omega (arith, below, torn.no_shorter))

-- ---- all of them

module _ (dir : List ℕ) (old new : Files) (at n : ℕ) where
  -- a file that begins at this place of the payload
  abbrev Tears : ℕ → FileLen → Type 0
  Tears start file =
      MayMake (TornFile start file.len at n) (old (name_of dir file.path)) (new (name_of dir file.path))

  -- the files from one on, which begins there
  abbrev TornFrom : ℕ → List FileLen → Type 0
  TornFrom start files =
      (k : ℕ) (file : FileLen) → slice_get files k ≡ Some file → Tears (start + total_of (take k files)) file

  first_of : (start : ℕ) (file : FileLen) (files : List FileLen) → TornFrom start (file ∷ files) → Tears start file
  first_of start file files torn =
      let e : start + total_of (take 0 (file ∷ files)) ≡ start = omega arith in
      subst (λ (s : ℕ). Tears s file) e (torn 0 file refl)

  rest_of : (start : ℕ) (file : FileLen) (files : List FileLen) → TornFrom start (file ∷ files)
      → TornFrom (start + file.len) files
  rest_of start file files torn k other at_k =
      let e : start + total_of (take (suc k) (file ∷ files)) ≡ start + file.len + total_of (take k files) =
      omega (arith, sum_by-cons (λ (f : FileLen). f.len) file (take k files)) in
      subst (λ (s : ℕ). Tears s other) e (torn (suc k) other at_k)

  byte_from : (files : List FileLen) (start : ℕ) → TornFrom start files
      → (i : ℕ) → (start + i < at) ⊎ (at + n ≤ start + i)
      → IsSome (byte_at files (map (λ file. old (name_of dir file.path)) files) i)
      → byte_at files (map (λ file. new (name_of dir file.path)) files) i
      ≡ byte_at files (map (λ file. old (name_of dir file.path)) files) i
  byte_from [] start torn i outside some = refl
  byte_from (file ∷ files) start torn i outside some =
      let was = old (name_of dir file.path) in
      let now = new (name_of dir file.path) in
      let olds = byte_at files (map (λ f. old (name_of dir f.path)) files) (i - file.len) in
      let news = byte_at files (map (λ f. new (name_of dir f.path)) files) (i - file.len) in
      elim (cases_lt i file.len) [
        | inl inside ↦
            let test = lt-ltb i file.len inside in
            let has : IsSome (slice_get (file_bytes was) i) =
            subst (λ (b : Bool). IsSome (cond b (slice_get (file_bytes was) i) olds)) test some in
            subst
            (λ (b : Bool). cond b (slice_get (file_bytes now) i) news ≡ cond b (slice_get (file_bytes was) i) olds)
            (sym test)
            (file_byte start file.len at n was now i (first_of start file files torn) outside has)
        | inr past ↦
            let test = le-ltb i file.len past in
            let has : IsSome olds =
            subst (λ (b : Bool). IsSome (cond b (slice_get (file_bytes was) i) olds)) test some in
            subst
            (λ (b : Bool). cond b (slice_get (file_bytes now) i) news ≡ cond b (slice_get (file_bytes was) i) olds)
            (sym test)
            (byte_from files (start + file.len) (rest_of start file files torn) (i - file.len)
            (⊎_elim (λ before. inl (omega (arith, before, past))) (λ behind. inr (omega (arith, behind, past))) outside)
            has)
      ]

  there_from : (files : List FileLen) (start : ℕ) → TornFrom start files → (i : ℕ)
      → IsSome (byte_at files (map (λ file. old (name_of dir file.path)) files) i)
      → IsSome (byte_at files (map (λ file. new (name_of dir file.path)) files) i)
  there_from [] start torn i some = some
  there_from (file ∷ files) start torn i some =
      let was = old (name_of dir file.path) in
      let now = new (name_of dir file.path) in
      let olds = byte_at files (map (λ f. old (name_of dir f.path)) files) (i - file.len) in
      let news = byte_at files (map (λ f. new (name_of dir f.path)) files) (i - file.len) in
      elim (cases_lt i file.len) [
        | inl inside ↦
            let test = lt-ltb i file.len inside in
            subst (λ (b : Bool). IsSome (cond b (slice_get (file_bytes now) i) news)) (sym test)
            (file_there start file.len at n was now i (first_of start file files torn)
            (subst (λ (b : Bool). IsSome (cond b (slice_get (file_bytes was) i) olds)) test some))
        | inr past ↦
            let test = le-ltb i file.len past in
            subst (λ (b : Bool). IsSome (cond b (slice_get (file_bytes now) i) news)) (sym test)
            (there_from files (start + file.len) (rest_of start file files torn) (i - file.len)
            (subst (λ (b : Bool). IsSome (cond b (slice_get (file_bytes was) i) olds)) test some))
      ]

  module _ (files : List FileLen) (torn : AreTorn dir files at n old new) where
    from_start : TornFrom 0 files
    from_start k file at_k =
        let e : total_of (take k files) ≡ 0 + total_of (take k files) = omega arith in
        subst (λ (s : ℕ). Tears s file) e (torn k file at_k)

    -- the bytes outside of the range
    pub byte_same : (i : ℕ) → (i < at) ⊎ (at + n ≤ i)
        → IsSome (byte_at files (map (λ file. old (name_of dir file.path)) files) i)
        → byte_at files (map (λ file. new (name_of dir file.path)) files) i
        ≡ byte_at files (map (λ file. old (name_of dir file.path)) files) i
    byte_same i outside = byte_from files 0 from_start i
        (⊎_elim (λ before. inl (omega (arith, before))) (λ behind. inr (omega (arith, behind))) outside)

    -- and no byte goes
    pub byte_there : (i : ℕ)
        → IsSome (byte_at files (map (λ file. old (name_of dir file.path)) files) i)
        → IsSome (byte_at files (map (λ file. new (name_of dir file.path)) files) i)
    byte_there = there_from files 0 from_start
