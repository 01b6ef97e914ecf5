-- Slices over files: the parts that files at the front and at the end have, and their bytes.
use Rattle.std.proofs.Common.{◌≡◌, ℕ, ◌+◌, ◌-◌, ◌<◌, ◌≤◌, min, max, List, [], ◌∷◌, ◌++◌, length, take, drop, get_or, arith, sym, subst, ap, ◌∙◌, refl, ⊎_elim, Some, append_assoc, append-nil, length-append, length-take, sum_by}
use Rattle.std.specs.Prelude.{nat_lt}
use Rattle.std.specs.List.{All, slice_get}
use Rattle.std.specs.Option.{IsSomeAnd}
use Rattle.std.proofs.lemmas.List.{drop_all, take_more, get_or_at, take-append-drop}
use Rattle.std.proofs.lemmas.List.Sums.{sum_by-cons, sum_by-append}
use Rattle.std.proofs.lemmas.List.Elements.{All-append, All-nil, All-cons}
use Rattle.std.proofs.lemmas.Option.{slice_get-get_or}
use Rattle.std.proofs.lemmas.Bool.{cases_lt, cond-true, cond-false, lt-ltb, le-ltb}
use Rattle.span_map.specs.Layout.{total_of}
use Rattle.span_map.specs.Slices.{part_of, parts_from, slice_of, IsPart}
use Rattle.span_map.specs.declared.files.FileLen.{FileLen}
use Rattle.span_map.specs.declared.files.Part.{Part}

-- ---- one file

-- a file that ends before the slice, or begins after it, has no part
pub part_none : (file start len low high : ℕ) → min (start + len) high ≤ max start low → part_of file start len low high ≡ []
part_none file start len low high apart = cond-false (nat_lt (max start low) (min (start + len) high)) _ _ (le-ltb (max start low) (min (start + len) high) apart)

pub part_some : (file start len low high : ℕ) → max start low < min (start + len) high
    → part_of file start len low high ≡ (record { file = file; at = max start low - start; len = min (start + len) high - max start low }) ∷ []
part_some file start len low high meet = cond-true (nat_lt (max start low) (min (start + len) high)) _ _ (lt-ltb (max start low) (min (start + len) high) meet)

-- ---- files at the front and at the end

pub parts_from-append : (n start low high : ℕ) (xs ys : List FileLen)
    → parts_from n start (xs ++ ys) low high ≡ parts_from n start xs low high ++ parts_from (n + length xs) (start + total_of xs) ys low high
parts_from-append n start low high [] ys = ap (λ k. parts_from k start ys low high) (let e : n ≡ n + 0 = omega arith in e) ∙ ap (λ s. parts_from (n + 0) s ys low high) (let e : start ≡ start + 0 = omega arith in e)
parts_from-append n start low high (x ∷ xs) ys =
    ap (λ l. part_of n start x.len low high ++ l) (parts_from-append (n + 1) (start + x.len) low high xs ys)
    ∙ sym (append_assoc (part_of n start x.len low high) (parts_from (n + 1) (start + x.len) xs low high) (parts_from (n + 1 + length xs) (start + x.len + total_of xs) ys low high))
    ∙ ap (λ k. (part_of n start x.len low high ++ parts_from (n + 1) (start + x.len) xs low high) ++ parts_from k (start + x.len + total_of xs) ys low high) (let e : n + 1 + length xs ≡ n + length (x ∷ xs) = omega arith in e)
    ∙ ap (λ s. (part_of n start x.len low high ++ parts_from (n + 1) (start + x.len) xs low high) ++ parts_from (n + length (x ∷ xs)) s ys low high) (let c = sum_by-cons (λ (file : FileLen). file.len) x xs in let e : start + x.len + total_of xs ≡ start + total_of (x ∷ xs) = omega (arith, c) in e)

-- files that end before the slice have no parts
pub none_before : (n start low high : ℕ) (xs : List FileLen) → start + total_of xs ≤ low → parts_from n start xs low high ≡ []
none_before n start low high [] before = refl
none_before n start low high (x ∷ xs) before =
    let c = sum_by-cons (λ (file : FileLen). file.len) x xs in
    ap (λ l. l ++ parts_from (n + 1) (start + x.len) xs low high) (part_none n start x.len low high (omega (arith, before, c)))
    ∙ none_before (n + 1) (start + x.len) low high xs (omega (arith, before, c))

-- files that begin after it have none either
pub none_after : (n start low high : ℕ) (xs : List FileLen) → high ≤ start → parts_from n start xs low high ≡ []
none_after n start low high [] after = refl
none_after n start low high (x ∷ xs) after =
    ap (λ l. l ++ parts_from (n + 1) (start + x.len) xs low high) (part_none n start x.len low high (omega arith))
    ∙ none_after (n + 1) (start + x.len) low high xs (omega arith)

-- one file more
pub parts_more : (low high i : ℕ) (files : List FileLen) (d : FileLen) → i < length files
    → parts_from 0 0 (take (i + 1) files) low high ≡ parts_from 0 0 (take i files) low high ++ part_of i (total_of (take i files)) (get_or files i d).len low high
parts_more low high i files d within =
    let front : length (take i files) ≡ i = omega (arith, within, length-take i files) in
    ap (λ l. parts_from 0 0 l low high) (take_more files i d within)
    ∙ parts_from-append 0 0 low high (take i files) (get_or files i d ∷ [])
    ∙ ap (λ l. parts_from 0 0 (take i files) low high ++ l) (append-nil (part_of (0 + length (take i files)) (0 + total_of (take i files)) (get_or files i d).len low high))
    ∙ ap (λ k. parts_from 0 0 (take i files) low high ++ part_of k (0 + total_of (take i files)) (get_or files i d).len low high) (let e : 0 + length (take i files) ≡ i = omega (arith, front) in e)
    ∙ ap (λ s. parts_from 0 0 (take i files) low high ++ part_of i s (get_or files i d).len low high) (let e : 0 + total_of (take i files) ≡ total_of (take i files) = omega arith in e)

-- the parts of the files at the front are all, where the slice ends before the next file
pub parts_whole : (low high n : ℕ) (files : List FileLen) → (n < length files → high ≤ total_of (take n files)) → parts_from 0 0 (take n files) low high ≡ parts_from 0 0 files low high
parts_whole low high n files end =
    sym (ap (λ l. parts_from 0 0 l low high) (sym (take-append-drop n files)) ∙ parts_from-append 0 0 low high (take n files) (drop n files)
    ∙ ap (λ l. parts_from 0 0 (take n files) low high ++ l)
    (⊎_elim (λ (more : n < length files). none_after (0 + length (take n files)) (0 + total_of (take n files)) low high (drop n files) (let e = end more in omega (arith, e)))
    (λ (over : length files ≤ n). ap (λ l. parts_from (0 + length (take n files)) (0 + total_of (take n files)) l low high) (drop_all n files over))
    (cases_lt n (length files)))
    ∙ append-nil (parts_from 0 0 (take n files) low high))

-- ---- what every part is

one_part : (files : List FileLen) (n start : ℕ) (x : FileLen) (low high : ℕ) → slice_get files n ≡ Some x → All (IsPart files) (part_of n start x.len low high)
one_part files n start x low high is =
    ⊎_elim
    (λ (meet : max start low < min (start + x.len) high).
    subst (All (IsPart files)) (sym (part_some n start x.len low high meet))
    (All-cons (IsPart files) _ [] (record {
      some = omega arith;
      within = subst (λ found. IsSomeAnd found (λ file. max start low - start + (min (start + x.len) high - max start low) ≤ file.len)) (sym is) (omega arith);
    }) (All-nil (IsPart files))))
    (λ (apart : min (start + x.len) high ≤ max start low). subst (All (IsPart files)) (sym (part_none n start x.len low high apart)) (All-nil (IsPart files)))
    (cases_lt (max start low) (min (start + x.len) high))

parts_are : (files before xs : List FileLen) (n start low high : ℕ) → files ≡ before ++ xs → length before ≡ n → All (IsPart files) (parts_from n start xs low high)
parts_are files before [] n start low high is count = All-nil (IsPart files)
parts_are files before (x ∷ xs) n start low high is count =
    All-append (IsPart files) (part_of n start x.len low high) (parts_from (n + 1) (start + x.len) xs low high)
    (one_part files n start x low high (ap (λ l. slice_get l n) is ∙ slice_get-get_or (before ++ x ∷ xs) n x (omega (arith, count, length-append before (x ∷ xs))) ∙ ap (λ y. Some y) (get_or_at before x xs x n count)))
    (parts_are files (before ++ x ∷ []) xs (n + 1) (start + x.len) low high (is ∙ sym (append_assoc before (x ∷ []) xs)) (omega (arith, count, length-append before (x ∷ []))))

-- each part is of its file, and not empty
pub slice_parts : (files : List FileLen) (at len : ℕ) → All (IsPart files) (slice_of files at len)
slice_parts files at len = parts_are files [] files 0 0 at (at + len) refl refl

-- ---- how long the parts are together

abbrev part_len : Part → ℕ
part_len part = part.len

one_len : (n start len low high : ℕ) → sum_by part_len (part_of n start len low high) ≡ min (start + len) high - max start low
one_len n start len low high =
    ⊎_elim
    (λ (meet : max start low < min (start + len) high). ap (sum_by part_len) (part_some n start len low high meet) ∙ (let e : 0 + (min (start + len) high - max start low) ≡ min (start + len) high - max start low = omega arith in e))
    (λ (apart : min (start + len) high ≤ max start low). ap (sum_by part_len) (part_none n start len low high apart) ∙ (let e : 0 ≡ min (start + len) high - max start low = omega arith in e))
    (cases_lt (max start low) (min (start + len) high))

meet_two : (start a b low high : ℕ) → low ≤ high → min (start + a) high - max start low + (min (start + a + b) high - max (start + a) low) ≡ min (start + (a + b)) high - max start low
meet_two start a b low high ordered = omega arith

parts_len : (n start low high : ℕ) (xs : List FileLen) → low ≤ high → sum_by part_len (parts_from n start xs low high) ≡ min (start + total_of xs) high - max start low
parts_len n start low high [] ordered = let e : 0 ≡ min (start + 0) high - max start low = omega arith in e
parts_len n start low high (x ∷ xs) ordered =
    sum_by-append part_len (part_of n start x.len low high) (parts_from (n + 1) (start + x.len) xs low high)
    ∙ ap (λ k. k + sum_by part_len (parts_from (n + 1) (start + x.len) xs low high)) (one_len n start x.len low high)
    ∙ ap (λ k. min (start + x.len) high - max start low + k) (parts_len (n + 1) (start + x.len) low high xs ordered)
    ∙ meet_two start x.len (total_of xs) low high ordered
    ∙ ap (λ k. min (start + k) high - max start low) (sym (sum_by-cons (λ (file : FileLen). file.len) x xs))

-- together they are as long as a slice within the payload
pub slice_len : (files : List FileLen) (at len : ℕ) → at + len ≤ total_of files → sum_by (λ (part : Part). part.len) (slice_of files at len) ≡ len
slice_len files at len within = parts_len 0 0 at (at + len) files (omega arith) ∙ (let e : min (0 + total_of files) (at + len) - max 0 at ≡ len = omega (arith, within) in e)
