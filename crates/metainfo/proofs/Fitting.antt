-- The first bad file by the tests is the one that the layout refuses.
use Rattle.std.proofs.Common.{◌≡◌, ℕ, zero, suc, ◌<◌, ◌+◌, Bool, true, false, ◌||◌, cond, List, [], ◌∷◌, ◌++◌, length, take, get_or, Some, None, Option, refl, sym, ap, subst, ◌∙◌, arith, inl, inr}
use Rattle.std.specs.Bool.{Decides}
use Rattle.std.specs.List.{list_any, Any, HoldsAt, slice_get}
use Rattle.std.specs.Option.{option_map, IsSomeAnd}
use Rattle.std.specs.Prelude.{◌⊎◌}
use Rattle.std.proofs.lemmas.Bool.{cond-true, cond-false, false_from_ne_true, false≢true, and_from, not_from_false}
use Rattle.std.proofs.lemmas.Bool.Decides.{Decides-and, Decides-not, Decides-or, Decides-like, Decides-by_or}
use Rattle.std.proofs.lemmas.List.{append-nil, append_assoc, get_or_append_left, get_or_at, get_or_default, length-append}
use Rattle.std.proofs.lemmas.List.Elements.{All-push}
use Rattle.std.proofs.lemmas.List.Quantifiers.{all_pairs_push}
use Rattle.std.proofs.lemmas.Option.{same_Some}
use Rattle.std.proofs.lemmas.Slice.Eq.{slice_eq-Decides, bytes_eq-Decides}
use Rattle.span_map.specs.Paths.{IsPath, Begins, Clash}
use Rattle.span_map.specs.Layout.{HavePaths, IsRefused}
use Rattle.span_map.specs.declared.files.FileLen.{FileLen}
use Rattle.span_map.specs.declared.files.LayoutErr.TheVariants.{BadPath, Repeated}
use Rattle.metainfo.specs.Tests.{begins_with, may_follow, bad_behind, bad_file, is_path}
use Rattle.metainfo.proofs.Parts.{path_decides}

begins_decides : (front list : List (List ℕ)) → Decides (begins_with front list) (Begins front list)
begins_decides front list =
    Decides-like (begins_with front list) (λ e. sym e) (λ e. sym e)
    (slice_eq-Decides bytes_eq-Decides front (take (length front) list) (begins_with front list) refl)

abbrev Clashing : FileLen → FileLen → Type 0
Clashing file other = Clash other.path file.path

abbrev is_clashing : FileLen → FileLen → Bool
is_clashing file other = begins_with other.path file.path || begins_with file.path other.path

clash_decides : (file other : FileLen) → Decides (is_clashing file other) (Clashing file other)
clash_decides file other = Decides-or _ _ (begins_decides other.path file.path) (begins_decides file.path other.path)

-- an earlier file clashes
abbrev SomeClash : List FileLen → FileLen → Type 0
SomeClash earlier file = (k : ℕ) × (k < length earlier) × HoldsAt (Clashing file) earlier k

follow_decides : (earlier : List FileLen) (file : FileLen) → Decides (may_follow earlier file) (IsPath file.path × (SomeClash earlier file → ⊥))
follow_decides earlier file =
    Decides-and _ _ (path_decides file.path)
    (Decides-not _ (Decides-by_or (is_clashing file) (Clashing file) (list_any (is_clashing file)) (clash_decides file) refl (λ _ _. refl) earlier))

-- in files with their paths, each may stand behind those before it
follows : (before : List FileLen) (file : FileLen) (rest : List FileLen) → HavePaths (before ++ file ∷ rest) → may_follow before file ≡ true
follows before file rest have =
    let here : get_or (before ++ file ∷ rest) (length before) file ≡ file = get_or_at before file rest file (length before) refl in
    let within : length before < length (before ++ file ∷ rest) = omega (arith, length-append before (file ∷ rest)) in
    (follow_decides before file).1 (
      subst (λ (f : FileLen). IsPath f.path) here (have.valid (length before) file within),
      λ some.
          let apart = have.apart some.0 (length before) file some.1 within in
          let there : get_or (before ++ file ∷ rest) some.0 file ≡ get_or before some.0 file = get_or_append_left before (file ∷ rest) file some.0 some.1 in
          apart (subst (λ (f : FileLen). Clash (get_or (before ++ file ∷ rest) some.0 file).path f.path) (sym here)
          (subst (λ (f : FileLen). Clash f.path file.path) (sym there) (some.2 file))),
    )

moved : (before : List FileLen) (file : FileLen) (rest : List FileLen) → HavePaths (before ++ file ∷ rest) → HavePaths ((before ++ file ∷ []) ++ rest)
moved before file rest have = subst HavePaths (sym (append_assoc before (file ∷ []) rest)) have

none_bad : (before files : List FileLen) → HavePaths (before ++ files) → bad_behind before files ≡ None
none_bad before [] have = refl
none_bad before (file ∷ rest) have =
    cond-true (may_follow before file) _ _ (follows before file rest have)
    ∙ ap (option_map (λ (n : ℕ). n + 1)) (none_bad (before ++ file ∷ []) rest (moved before file rest have))

bad_at : (before files : List FileLen) (i : ℕ) (file : FileLen) → HavePaths (before ++ take i files) → slice_get files i ≡ Some file
    → may_follow (before ++ take i files) file ≡ false → bad_behind before files ≡ Some i
bad_at before [] i file have there not_fit = cc
bad_at before (f ∷ rest) zero file have there not_fit =
    let same : f ≡ file = cc in
    cond-false (may_follow before f) _ _ (ap (may_follow before) same ∙ subst (λ (l : List FileLen). may_follow l file ≡ false) (append-nil before) not_fit)
bad_at before (f ∷ rest) (suc i) file have there not_fit =
    cond-true (may_follow before f) _ _ (follows before f (take i rest) have)
    ∙ ap (option_map (λ (n : ℕ). n + 1))
    (bad_at (before ++ f ∷ []) rest i file (moved before f (take i rest) have) there
    (subst (λ (l : List FileLen). may_follow l file ≡ false) (sym (append_assoc before (f ∷ []) (take i rest))) not_fit))
    ∙ ap Some (omega arith)

pub good : (files : List FileLen) → HavePaths files → bad_file files ≡ None
good files have = none_bad [] files have

no_path : (earlier : List FileLen) (file : FileLen) → (IsPath file.path → ⊥) → may_follow earlier file ≡ false
no_path earlier file not_path = false_from_ne_true _ (λ is. not_path ((follow_decides earlier file).0 is).0)

clashing : (earlier : List FileLen) (file : FileLen) → Any (λ other. Clash other.path file.path) earlier → may_follow earlier file ≡ false
clashing earlier file any =
    false_from_ne_true _ (λ is. ((follow_decides earlier file).0 is).1
    (any.0, any.2, λ d. subst (λ (other : FileLen). Clash other.path file.path) (sym (get_or_default earlier any.0 d any.1 any.2 ∙ any.3)) any.4))

bad_path_by : (files : List FileLen) (i : ℕ) (found : Option FileLen) → slice_get files i ≡ found → HavePaths (take i files)
    → IsSomeAnd found (λ file. IsPath file.path → ⊥) → bad_file files ≡ Some i
bad_path_by files i None is have not_path = absurd not_path
bad_path_by files i (Some file) is have not_path = bad_at [] files i file have is (no_path (take i files) file not_path)

pub bad_path : (files : List FileLen) (i : ℕ) → IsRefused files (BadPath i) → bad_file files ≡ Some i
bad_path files i refused = bad_path_by files i (slice_get files i) refl refused.0 refused.1

repeated_by : (files : List FileLen) (i : ℕ) (found : Option FileLen) → slice_get files i ≡ found → HavePaths (take i files)
    → IsSomeAnd found (λ file. IsPath file.path × Any (λ earlier. Clash earlier.path file.path) (take i files)) → bad_file files ≡ Some i
repeated_by files i None is have clash = absurd clash
repeated_by files i (Some file) is have clash = bad_at [] files i file have is (clashing (take i files) file clash.1)

pub repeated : (files : List FileLen) (i : ℕ) → IsRefused files (Repeated i) → bad_file files ≡ Some i
repeated files i refused = repeated_by files i (slice_get files i) refl refused.0 refused.1

-- ---- and the other way

one_more : (before : List FileLen) (file : FileLen) → HavePaths before → may_follow before file ≡ true → HavePaths (before ++ file ∷ [])
one_more before file have may =
    let fits = (follow_decides before file).0 may in
    record {
      valid = All-push (λ (f : FileLen). IsPath f.path) before file have.valid fits.0;
      apart = all_pairs_push (λ (a b : FileLen). Clash a.path b.path → ⊥) before file have.apart
          (λ k d below clash. fits.1 (k, below, λ e. subst (λ (other : FileLen). Clash other.path file.path) (get_or_default before k d e below) clash));
    }

none_mapped : (found : Option ℕ) → option_map (λ n. n + 1) found ≡ None → found ≡ None
none_mapped None is = refl
none_mapped (Some n) is = cc

have_by : (before : List FileLen) (file : FileLen) (rest : List FileLen) (test : Bool) → may_follow before file ≡ test
    → cond test (option_map (λ n. n + 1) (bad_behind (before ++ file ∷ []) rest)) (Some 0) ≡ None
    → (may_follow before file ≡ true) × (bad_behind (before ++ file ∷ []) rest ≡ None)
have_by before file rest true is none = (is, none_mapped _ none)
have_by before file rest false is none = cc

have_behind : (before files : List FileLen) → HavePaths before → bad_behind before files ≡ None → HavePaths (before ++ files)
have_behind before [] have none = subst HavePaths (sym (append-nil before)) have
have_behind before (file ∷ rest) have none =
    let next = have_by before file rest (may_follow before file) refl none in
    subst HavePaths (append_assoc before (file ∷ []) rest) (have_behind (before ++ file ∷ []) rest (one_more before file have next.0) next.1)

pub have_paths : (files : List FileLen) → bad_file files ≡ None → HavePaths files
have_paths files none =
    have_behind [] files (record { valid = λ k d below. absurd (omega (arith, below)); apart = λ i j d less below. absurd (omega (arith, below)) }) none

-- ---- which file is bad

found_mapped : (found : Option ℕ) (i : ℕ) → option_map (λ n. n + 1) found ≡ Some i → (n : ℕ) × (found ≡ Some n) × (n + 1 ≡ i)
found_mapped None i is = cc
found_mapped (Some n) i is = (n, refl, same_Some (n + 1) i is)

-- the file of this number is the first that may not stand behind those before it
record IsFirstBad (before files : List FileLen) (i : ℕ) : Type 0 where
  pub have : HavePaths (before ++ take i files)
  pub file : FileLen
  pub there : slice_get files i ≡ Some file
  pub bad : may_follow (before ++ take i files) file ≡ false

first_by : (before : List FileLen) (file : FileLen) (rest : List FileLen) (i : ℕ) (test : Bool) → HavePaths before → may_follow before file ≡ test
    → ((n : ℕ) → HavePaths (before ++ file ∷ []) → bad_behind (before ++ file ∷ []) rest ≡ Some n → IsFirstBad (before ++ file ∷ []) rest n)
    → cond test (option_map (λ n. n + 1) (bad_behind (before ++ file ∷ []) rest)) (Some 0) ≡ Some i → IsFirstBad before (file ∷ rest) i
first_by before file rest i true have may more found =
    let behind = found_mapped _ i found in
    let first = more behind.0 (one_more before file have may) behind.1 in
    subst (IsFirstBad before (file ∷ rest)) (let same : suc behind.0 ≡ i = omega (arith, behind.2) in same) (record {
      have = subst HavePaths (append_assoc before (file ∷ []) (take behind.0 rest)) first.have;
      file = first.file;
      there = first.there;
      bad = subst (λ (l : List FileLen). may_follow l first.file ≡ false) (append_assoc before (file ∷ []) (take behind.0 rest)) first.bad;
    })
first_by before file rest i false have may more found =
    subst (IsFirstBad before (file ∷ rest)) (same_Some 0 i found) (record {
      have = subst HavePaths (sym (append-nil before)) have;
      file = file;
      there = refl;
      bad = subst (λ (l : List FileLen). may_follow l file ≡ false) (sym (append-nil before)) may;
    })

first_bad : (before files : List FileLen) (i : ℕ) → HavePaths before → bad_behind before files ≡ Some i → IsFirstBad before files i
first_bad before [] i have found = cc
first_bad before (file ∷ rest) i have found =
    first_by before file rest i (may_follow before file) have refl (λ n more is. first_bad (before ++ file ∷ []) rest n more is) found

clash_among : (earlier : List FileLen) (file : FileLen) → SomeClash earlier file → Any (λ other. Clash other.path file.path) earlier
clash_among earlier file some = (some.0, get_or earlier some.0 file, some.1, get_or_default earlier some.0 _ file some.1, some.2 file)

found_at : {X : Type 0} (found : Option X) (x : X) (P : X → Type 0) → found ≡ Some x → P x → IsSomeAnd found P
found_at None x P is p = cc
found_at (Some y) x P is p = let same : y ≡ x = cc in subst P (sym same) p

why_by : (files : List FileLen) (i : ℕ) (first : IsFirstBad [] files i) (path clash : Bool) → is_path first.file.path ≡ path → list_any (is_clashing first.file) (take i files) ≡ clash
    → IsRefused files (BadPath i) ⊎ IsRefused files (Repeated i)
why_by files i first false clash is_not others =
    inl (first.have, found_at _ first.file (λ (file : FileLen). IsPath file.path → ⊥) first.there (λ is. false≢true (sym is_not ∙ (path_decides first.file.path).1 is)))
why_by files i first true true is others =
    inr (
      first.have,
      found_at _ first.file (λ (file : FileLen). IsPath file.path × Any (λ earlier. Clash earlier.path file.path) (take i files)) first.there (
        (path_decides first.file.path).0 is,
        clash_among (take i files) first.file
            ((Decides-by_or (is_clashing first.file) (Clashing first.file) (list_any (is_clashing first.file)) (clash_decides first.file) refl (λ _ _. refl) (take i files)).0 others),
      ),
    )
why_by files i first true false is others = absurd (false≢true (sym first.bad ∙ and_from _ _ is (not_from_false _ others)))

pub why_bad : (files : List FileLen) (i : ℕ) → bad_file files ≡ Some i → IsRefused files (BadPath i) ⊎ IsRefused files (Repeated i)
why_bad files i found =
    let first = first_bad [] files i (record { valid = λ k d below. absurd (omega (arith, below)); apart = λ a b d less below. absurd (omega (arith, below)) }) found in
    why_by files i first _ _ refl refl
