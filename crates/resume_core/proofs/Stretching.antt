-- Files that get their lengths keep the bytes that they had within them.
use Rattle.std.proofs.Common.{◌≡◌, ℕ, ◌+◌, ◌-◌, ◌<◌, Bool, cond, List, [], ◌∷◌, length, map, slice_get, Option, Some, None, sym, subst, refl, ap, ◌∙◌, inl, inr, ⊎_elim, arith}
use Rattle.std.specs.Prelude.{IsSome, unwrap_or}
use Rattle.std.specs.List.{AllByRecursion, range_with_len}
use Rattle.std.proofs.lemmas.Bool.{cases_lt, lt-ltb, le-ltb}
use Rattle.std.proofs.lemmas.List.{same_lists}
use Rattle.std.proofs.lemmas.List.Elements.{recursion_from_All}
use Rattle.std.proofs.lemmas.List.FromFn.{get_or-map-range_with_len, length-map-range_with_len}
use Rattle.std.proofs.lemmas.Option.{slice_get_past}
use Rattle.dl_disk.specs.Files.{Files, file_bytes, MayMake, Stretched}
use Rattle.span_map.specs.declared.files.FileLen.{FileLen}
use Rattle.payload_files.specs.Names.{name_of}
use Rattle.payload_files.specs.Changes.{Stretches}
use Rattle.control_file.specs.declared.want.Want.{Want}
use Rattle.resume_core.specs.Resume.{byte_at, Reach, payload_bytes}
use Rattle.resume_core.specs.Wants.{files_in}

none_is_some : {P : Type 0} → IsSome {T = ℕ} None → P
none_is_some some = absurd cc

within : (bytes : List ℕ) (i : ℕ) → IsSome (slice_get bytes i) → i < length bytes
within bytes i some = elim (cases_lt i (length bytes)) [
  | inl below ↦ below
  | inr past ↦ none_is_some (subst (λ (o : Option ℕ). IsSome o) (slice_get_past bytes i past) some)
]

stretched_byte : (was now : Option (List ℕ)) (len i : ℕ) → MayMake (Stretched len) was now → i < len
    → IsSome (slice_get (file_bytes was) i) → slice_get (file_bytes now) i ≡ slice_get (file_bytes was) i
stretched_byte None None len i change below some = refl
stretched_byte None (Some new) len i change below some = absurd (omega (arith, within [] i some))
stretched_byte (Some old) None len i change below some = absurd change
stretched_byte (Some old) (Some new) len i change below some =
    let in_old = within old i some in
    change.same i in_old (⊎_elim (λ long. omega (arith, long, below))
    (λ long. omega (arith, long, in_old)) change.least)

module _ (dir : List ℕ) (old new : Files) where
  byte_kept : (files : List FileLen)
      → AllByRecursion (λ file. MayMake (Stretched file.len) (old (name_of dir file.path))
      (new (name_of dir file.path))) files
      → (i : ℕ) → IsSome (byte_at files (map (λ file. old (name_of dir file.path)) files) i)
      → byte_at files (map (λ file. new (name_of dir file.path)) files) i ≡ byte_at files
      (map (λ file. old (name_of dir file.path)) files) i
  byte_kept [] all i some = refl
  byte_kept (file ∷ files) (here, more) i some =
      let was = old (name_of dir file.path) in
      let now = new (name_of dir file.path) in
      let olds = byte_at files (map (λ f. old (name_of dir f.path)) files) (i - file.len) in
      let news = byte_at files (map (λ f. new (name_of dir f.path)) files) (i - file.len) in
      elim (cases_lt i file.len) [
        | inl inside ↦
            let test = lt-ltb i file.len inside in
            let there : IsSome (slice_get (file_bytes was) i) =
            subst (λ (b : Bool). IsSome (cond b (slice_get (file_bytes was) i) olds)) test some in
            subst (λ (b : Bool). cond b (slice_get (file_bytes now) i) news ≡ cond b
            (slice_get (file_bytes was) i) olds) (sym test)
            (stretched_byte was now file.len i here inside there)
        | inr past ↦
            let test = le-ltb i file.len past in
            let there : IsSome olds = subst
            (λ (b : Bool). IsSome (cond b (slice_get (file_bytes was) i) olds)) test some in
            subst (λ (b : Bool). cond b (slice_get (file_bytes now) i) news ≡ cond b
            (slice_get (file_bytes was) i) olds) (sym test)
            (byte_kept files more (i - file.len) there)
      ]

module _ (want : Want) (old new : Files) (stretches : Stretches want.dir want.layout old new) where
  each : AllByRecursion (λ file. MayMake (Stretched file.len) (old (name_of want.dir file.path))
      (new (name_of want.dir file.path))) want.layout
  each = recursion_from_All (λ file. MayMake (Stretched file.len) (old (name_of want.dir file.path))
      (new (name_of want.dir file.path))) want.layout stretches.each

  pub kept : (i : ℕ) → IsSome (byte_at want.layout (files_in want old) i)
      → byte_at want.layout (files_in want new) i ≡ byte_at want.layout (files_in want old) i
  kept i some = byte_kept want.dir old new want.layout each i some

  pub reach_kept : (start end : ℕ) → Reach want (files_in want old) start end → Reach want (files_in want new) start end
  reach_kept start end reach i below =
      subst (λ (o : Option ℕ). IsSome o)
      (sym (byte_kept want.dir old new want.layout each (start + i) (reach i below))) (reach i below)

  pub bytes_kept : (start end : ℕ) → Reach want (files_in want old) start end
      → payload_bytes want (files_in want new) start end ≡ payload_bytes want (files_in want old) start end
  bytes_kept start end reach =
      let count = end - start in
      let was = λ (i : ℕ). unwrap_or (byte_at want.layout (files_in want old) (start + i)) 0 in
      let now = λ (i : ℕ). unwrap_or (byte_at want.layout (files_in want new) (start + i)) 0 in
      let long_was = length-map-range_with_len was 0 count in
      let long_now = length-map-range_with_len now 0 count in
      same_lists (map now (range_with_len 0 count)) (map was (range_with_len 0 count)) (long_now ∙ sym long_was)
      (λ k d inside.
      let below : k < count = omega (arith, inside, long_now) in
      get_or-map-range_with_len now 0 count k k d below (omega arith)
      ∙ ap (λ (o : Option ℕ). unwrap_or o 0)
      (byte_kept want.dir old new want.layout each (start + k) (reach k (omega (arith, below))))
      ∙ sym (get_or-map-range_with_len was 0 count k k d below (omega arith)))
