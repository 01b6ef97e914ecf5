-- Steps of the loops over lists.
use Rattle.std.proofs.Common.{◌≡◌, ℕ, zero, suc, ◌<◌, ◌≤◌, ◌+◌, ◌-◌, ◌/◌, true, false, cond, leb, List, [], ◌∷◌, ◌++◌, length, take, drop, map, get_or, Some, None, Ok, Err, Result, Option, refl, sym, ap, ◌∙◌, arith}
use Rattle.std.specs.List.{filter, list_all}
use Rattle.std.specs.Prelude.{is_some}
use Rattle.std.specs.Str.{is_utf8}
use Rattle.std.proofs.lemmas.Bool.{and_parts, cond-true, le-leb, lt-leb}
use Rattle.std.specs.Option.{IfSome}
use Rattle.std.proofs.lemmas.List.{append-nil, append_assoc, take_more, map-append, length-take, drop_more}
use Rattle.std.proofs.lemmas.List.Elements.{filter_map-append, filter-append}
use Rattle.bencode_core.specs.Placed.{Placed, string_of}
use Rattle.span_map.specs.declared.files.FileLen.{FileLen}
use Rattle.metainfo.specs.declared.refusals.MetaErr.{MetaErr}
use Rattle.metainfo.specs.Refusals.{◌>>=◌}
use Rattle.metainfo.specs.Kept.{kept_part, kept_path, kept_file, kept, all_kept}
use Rattle.metainfo.specs.Rules.{first_digests, path_of, strings_among, seeds_among, file_in, files_from}
use Rattle.metainfo.specs.Tests.{is_seed, is_string}

-- ---- digests

count_more : (n : ℕ) → 20 ≤ n → n / 20 ≡ suc ((n - 20) / 20)
count_more n some = omega arith

pub digest_more : (front : List (List ℕ)) (rest digest behind : List ℕ) → digest ≡ take 20 rest → behind ≡ drop 20 rest → length behind + 20 ≡ length rest
    → (front ++ digest ∷ []) ++ first_digests (length behind / 20) behind ≡ front ++ first_digests (length rest / 20) rest
digest_more front rest digest behind is_first is_rest long =
    let more : length rest / 20 ≡ suc (length behind / 20) = omega (arith, count_more (length rest) (omega arith)) in
    rw (more, append_assoc front (digest ∷ []) (first_digests (length behind / 20) behind), is_first, is_rest) refl

-- ---- strings

string_more : (items : List Placed) (i : ℕ) (item : Placed) → i < length items → item ≡ get_or items i item
    → strings_among (take (i + 1) items) ≡ strings_among (take i items) ++ strings_among (item ∷ [])
string_more items i item within is =
    ap strings_among (take_more items i item within ∙ ap (λ (x : Placed). take i items ++ x ∷ []) (sym is))
    ∙ filter_map-append (λ (p : Placed). string_of p.value) (take i items) (item ∷ [])

pub string_found : (items : List Placed) (i : ℕ) (item : Placed) (bytes : List ℕ) → i < length items → item ≡ get_or items i item → string_of item.value ≡ Some bytes
    → strings_among (take (i + 1) items) ≡ strings_among (take i items) ++ bytes ∷ []
string_found items i item bytes within is found = string_more items i item within is ∙ rw found refl

pub no_string : (items : List Placed) (i : ℕ) (item : Placed) → i < length items → item ≡ get_or items i item → string_of item.value ≡ None
    → strings_among (take (i + 1) items) ≡ strings_among (take i items)
no_string items i item within is none = string_more items i item within is ∙ rw none (append-nil (strings_among (take i items)))

pub part_more : (name : List ℕ) (items : List Placed) (i : ℕ) (item : Placed) (bytes : List ℕ) → i < length items → item ≡ get_or items i item → string_of item.value ≡ Some bytes
    → (name ∷ map kept_part (strings_among (take i items))) ++ kept_part bytes ∷ [] ≡ name ∷ map kept_part (strings_among (take (i + 1) items))
part_more name items i item bytes within is found =
    ap (λ (l : List (List ℕ)). name ∷ l)
    (sym (map-append kept_part (strings_among (take i items)) (bytes ∷ [])) ∙ ap (map kept_part) (sym (string_found items i item bytes within is found)))

-- ---- paths

all_strings : (items : List Placed) → list_all is_string items ≡ true → length (strings_among items) ≡ length items
all_strings [] all = refl
all_strings (p ∷ ps) all =
    let both = and_parts (is_string p) (list_all is_string ps) all in
    by (string_of p.value) refl both.0 (all_strings ps both.1)
  where
    by : (text : Option (List ℕ)) → string_of p.value ≡ text → is_some (string_of p.value) ≡ true → length (strings_among ps) ≡ length ps → length (strings_among (p ∷ ps)) ≡ suc (length ps)
    by None is some rest = let bad : false ≡ true = sym (ap is_some is) ∙ some in absurd cc
    by (Some text) is some rest = rw is (ap suc rest)

pub short_path : (name : List ℕ) (items : List Placed) → is_utf8 name ≡ true → list_all is_string items ≡ true → 0 < length items → length items < 64
    → name ∷ map kept_part (strings_among items) ≡ kept_path (path_of name (strings_among items))
short_path name items text all some few = by (strings_among items) (all_strings items all)
  where
    by : (parts : List (List ℕ)) → length parts ≡ length items → name ∷ map kept_part parts ≡ kept_path (path_of name parts)
    by [] len = absurd (omega (arith, len))
    by (part ∷ parts) len =
        let short : leb (suc (suc (length parts))) 64 ≡ true = le-leb (suc (suc (length parts))) 64 (omega (arith, len)) in
        ap (λ (n : List ℕ). n ∷ map kept_part (part ∷ parts)) (sym (cond-true (is_utf8 name) name [] text))
        ∙ sym (cond-true (leb (suc (suc (length parts))) 64) (map kept_part (name ∷ part ∷ parts)) [] short)

pub no_short_path : (name : List ℕ) (items : List Placed) → list_all is_string items ≡ true → (0 < length items → 64 ≤ length items) → [] ≡ kept_path (path_of name (strings_among items))
no_short_path name items all many = by (strings_among items) (all_strings items all)
  where
    by : (parts : List (List ℕ)) → length parts ≡ length items → [] ≡ kept_path (path_of name parts)
    by [] len = refl
    by (part ∷ parts) len =
        let long : leb (suc (suc (length parts))) 64 ≡ false = lt-leb (suc (suc (length parts))) 64 (omega (arith, len, many (omega (arith, len)))) in
        sym (ap (λ test. cond test (map kept_part (name ∷ part ∷ parts)) []) long)

-- ---- seeds

take_below : (n m : ℕ) (xs ys : List (List ℕ)) → n ≤ m → take n (take m xs ++ ys) ≡ take n (xs ++ ys)
take_below zero m xs ys le = refl
take_below (suc n) zero xs ys le = absurd (omega arith)
take_below (suc n) (suc m) [] ys le = refl
take_below (suc n) (suc m) (x ∷ xs) ys le = ap (λ (l : List (List ℕ)). x ∷ l) (take_below n m xs ys (omega arith))

pub seeds_bound : (urls : List (List ℕ)) → length (seeds_among urls) ≤ 256
seeds_bound urls = omega (arith, length-take 256 (filter is_seed urls))

pub seed_more : (urls : List (List ℕ)) (bytes : List ℕ) → take 256 (seeds_among urls ++ filter is_seed (bytes ∷ [])) ≡ seeds_among (urls ++ bytes ∷ [])
seed_more urls bytes = take_below 256 256 (filter is_seed urls) (filter is_seed (bytes ∷ [])) (omega arith) ∙ ap (take 256) (sym (filter-append is_seed urls (bytes ∷ [])))

-- ---- files

-- what is read behind these files
abbrev pub with_front : List FileLen → Result (List FileLen) MetaErr → Result (List FileLen) MetaErr
with_front front (Ok files) = Ok (front ++ files)
with_front front (Err e) = Err e

-- one file and those behind it
abbrev one_and : Result FileLen MetaErr → Result (List FileLen) MetaErr → Result (List FileLen) MetaErr
one_and read rest = read >>= (λ file. rest >>= (λ files. Ok (file ∷ files)))

one_kept : (front : List FileLen) (file : FileLen) (read : Result FileLen MetaErr) (rest : Result (List FileLen) MetaErr) → kept read ≡ Ok file
    → with_front (front ++ file ∷ []) (all_kept rest) ≡ with_front front (all_kept (one_and read rest))
one_kept front file (Ok f) (Ok fs) is =
    let same : kept_file f ≡ file = cc in
    ap Ok (append_assoc front (file ∷ []) (map kept_file fs) ∙ ap (λ (x : FileLen). front ++ x ∷ map kept_file fs) (sym same))
one_kept front file (Ok f) (Err e) is = refl
one_kept front file (Err e) rest is = cc

one_failed : (front : List FileLen) (e : MetaErr) (read : Result FileLen MetaErr) (rest : Result (List FileLen) MetaErr) → kept read ≡ Err e
    → with_front front (all_kept (one_and read rest)) ≡ Err e
one_failed front e (Ok f) rest is = cc
one_failed front e (Err d) rest is = cc

next_dict : (dicts : List Placed) (i : ℕ) (dict : Placed) → i < length dicts → dict ≡ get_or dicts i dict → drop i dicts ≡ dict ∷ drop (i + 1) dicts
next_dict dicts i dict within is = drop_more dicts i dict within ∙ ap (λ (p : Placed). p ∷ drop (i + 1) dicts) (sym is)

pub file_more : (front : List FileLen) (name : List ℕ) (dicts : List Placed) (i : ℕ) (dict : Placed) (file : FileLen) → i < length dicts → dict ≡ get_or dicts i dict
    → kept (file_in name dict) ≡ Ok file
    → with_front (front ++ file ∷ []) (all_kept (files_from name (drop (i + 1) dicts))) ≡ with_front front (all_kept (files_from name (drop i dicts)))
file_more front name dicts i dict file within is read =
    one_kept front file (file_in name dict) (files_from name (drop (i + 1) dicts)) read
    ∙ ap (λ (ds : List Placed). with_front front (all_kept (files_from name ds))) (sym (next_dict dicts i dict within is))

pub file_failed : (front : List FileLen) (name : List ℕ) (dicts : List Placed) (i : ℕ) (dict : Placed) (fault : Option MetaErr) → i < length dicts → dict ≡ get_or dicts i dict
    → with_front front (all_kept (files_from name (drop i dicts))) ≡ all_kept (files_from name dicts)
    → IfSome fault (λ e. kept (file_in name dict) ≡ Err e) → IfSome fault (λ e. all_kept (files_from name dicts) ≡ Err e)
file_failed front name dicts i dict None within is so_far failed = failed
file_failed front name dicts i dict (Some e) within is so_far failed =
    sym so_far
    ∙ ap (λ (ds : List Placed). with_front front (all_kept (files_from name ds))) (next_dict dicts i dict within is)
    ∙ one_failed front e (file_in name dict) (files_from name (drop (i + 1) dicts)) failed
