-- Files as they are kept are laid out as they are.
use Rattle.std.proofs.Common.{◌≡◌, ℕ, ◌≤◌, ◌+◌, Bool, true, false, ◌&&◌, cond, leb, List, [], ◌∷◌, ◌++◌, length, map, Some, None, Option, refl, sym, ap, ◌∙◌, arith}
use Rattle.std.specs.List.{list_all}
use Rattle.std.specs.Option.{option_map}
use Rattle.std.specs.Str.{is_utf8}
use Rattle.std.proofs.lemmas.Bool.{cond-true, false_from_ne_true, and_parts, and_left, false≢true}
use Rattle.std.proofs.lemmas.List.{length-map}
use Rattle.span_map.specs.declared.files.FileLen.{FileLen}
use Rattle.metainfo.specs.Kept.{kept_part, kept_path, kept_file}
use Rattle.metainfo.specs.Tests.{is_part, is_path, may_follow, bad_behind, bad_file}
use Rattle.metainfo.specs.Rules.{laid_out, paths_fit}
use Rattle.metainfo.proofs.Parts.{part_decides, part_is_text}

part_kept : (part : List ℕ) → is_part part ≡ true → kept_part part ≡ part
part_kept part is = cond-true (is_utf8 part) part [] (part_is_text part is)

empty_is_no_part : is_part [] ≡ false
empty_is_no_part = false_from_ne_true (is_part []) (λ is. let some : 1 ≤ 0 = ((part_decides []).0 is).some in omega arith)

test_by : (part : List ℕ) (text : Bool) → is_utf8 part ≡ text → is_part (cond text part []) ≡ is_part part
test_by part true is = refl
test_by part false is = empty_is_no_part ∙ sym (false_from_ne_true (is_part part) (λ valid. false≢true (sym is ∙ part_is_text part valid)))

part_test : (part : List ℕ) → is_part (kept_part part) ≡ is_part part
part_test part = test_by part (is_utf8 part) refl

parts_test : (parts : List (List ℕ)) → list_all is_part (map kept_part parts) ≡ list_all is_part parts
parts_test [] = refl
parts_test (part ∷ parts) = λ i. part_test part i && parts_test parts i

path_test : (path : List (List ℕ)) → is_path (map kept_part path) ≡ is_path path
path_test path = λ i. leb 1 (length-map path kept_part i) && leb (length-map path kept_part i) 64 && parts_test path i

parts_kept : (parts : List (List ℕ)) → list_all is_part parts ≡ true → map kept_part parts ≡ parts
parts_kept [] all = refl
parts_kept (part ∷ parts) all =
    let both = and_parts (is_part part) (list_all is_part parts) all in
    λ i. part_kept part both.0 i ∷ parts_kept parts both.1 i

path_kept : (path : List (List ℕ)) → is_path path ≡ true → kept_path path ≡ path
path_kept path is =
    let both = and_parts (leb 1 (length path) && leb (length path) 64) (list_all is_part path) is in
    let short = and_parts (leb 1 (length path)) (leb (length path) 64) both.0 in
    cond-true (leb (length path) 64) (map kept_part path) [] short.1 ∙ parts_kept path both.1

file_kept : (file : FileLen) → is_path file.path ≡ true → kept_file file ≡ file
file_kept file is = ap (λ (path : List (List ℕ)). record { path = path; len = file.len }) (path_kept file.path is)

-- what is no path isn't kept as one
none_by : (path : List (List ℕ)) (short : Bool) → is_path path ≡ false → is_path (cond short (map kept_part path) []) ≡ false
none_by path true is = path_test path ∙ is
none_by path false is = refl

follow_by : (before : List FileLen) (file : FileLen) (test : Bool) → is_path file.path ≡ test → may_follow before (kept_file file) ≡ may_follow before file
follow_by before file true is = ap (may_follow before) (file_kept file is)
follow_by before file false is =
    let kept_no : is_path (kept_path file.path) ≡ false = none_by file.path (leb (length file.path) 64) is in
    and_left _ _ kept_no ∙ sym (and_left _ _ is)

behind_by : (before : List FileLen) (file : FileLen) (files : List FileLen) (test : Bool) → may_follow before file ≡ test
    → ((earlier : List FileLen) → bad_behind earlier (map kept_file files) ≡ bad_behind earlier files)
    → cond test (option_map (λ n. n + 1) (bad_behind (before ++ kept_file file ∷ []) (map kept_file files))) (Some 0)
    ≡ cond test (option_map (λ n. n + 1) (bad_behind (before ++ file ∷ []) files)) (Some 0)
behind_by before file files true may rest =
    rw (file_kept file (and_parts _ _ may).0) (ap (option_map (λ (n : ℕ). n + 1)) (rest (before ++ file ∷ [])))
behind_by before file files false may rest = refl

behind_kept : (files before : List FileLen) → bad_behind before (map kept_file files) ≡ bad_behind before files
behind_kept [] before = refl
behind_kept (file ∷ files) before =
    ap (λ (test : Bool). cond test (option_map (λ n. n + 1) (bad_behind (before ++ kept_file file ∷ []) (map kept_file files))) (Some 0)) (follow_by before file (is_path file.path) refl)
    ∙ behind_by before file files (may_follow before file) refl (λ earlier. behind_kept files earlier)

none_mapped : (found : Option ℕ) → option_map (λ n. n + 1) found ≡ None → found ≡ None
none_mapped None is = refl
none_mapped (Some n) is = cc

same_by : (before : List FileLen) (file : FileLen) (files : List FileLen) (test : Bool) → may_follow before file ≡ test
    → cond test (option_map (λ n. n + 1) (bad_behind (before ++ file ∷ []) files)) (Some 0) ≡ None
    → (kept_file file ≡ file) × (bad_behind (before ++ file ∷ []) files ≡ None)
same_by before file files true may none = (file_kept file (and_parts _ _ may).0, none_mapped _ none)
same_by before file files false may none = cc

same : (files before : List FileLen) → bad_behind before files ≡ None → map kept_file files ≡ files
same [] before none = refl
same (file ∷ files) before none =
    let both = same_by before file files (may_follow before file) refl none in
    λ i. both.0 i ∷ same files (before ++ file ∷ []) both.1 i

kept_by : (files : List FileLen) (bad : Option ℕ) → bad_file files ≡ bad → laid_out (map kept_file files) ≡ laid_out files
unfolding laid_out paths_fit
kept_by files None is = ap laid_out (same files [] is)
kept_by files (Some i) is = rw (behind_kept files [], is) refl

pub kept_laid_out : (files : List FileLen) → laid_out (map kept_file files) ≡ laid_out files
kept_laid_out files = kept_by files (bad_file files) refl
