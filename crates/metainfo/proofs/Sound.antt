-- What holds of whatever a metainfo file says.
use Rattle.std.proofs.Common.{◌≡◌, ℕ, zero, suc, ◌≤◌, ◌*◌, ◌/◌, ◌%◌, Bool, true, false, ◌&&◌, cond, eqb, leb, List, [], ◌∷◌, length, take, drop, get_or, Some, None, Ok, Err, Result, Option, refl, sym, ap, subst, ◌∙◌, arith, inl, inr}
use Rattle.std.specs.Prelude.{◌⊎◌, ◌==◌, IfOk}
use Rattle.dl_kinds.specs.Answers.{Gives}
use Rattle.std.specs.List.{All, filter, list_all}
use Rattle.std.proofs.lemmas.Bool.{leb-true, eqb-true, and_parts}
use Rattle.std.proofs.lemmas.Bool.Decides.{Decides-and, Decides-like}
use Rattle.std.specs.Bool.{Decides}
use Rattle.std.proofs.lemmas.List.{length-take, length-drop}
use Rattle.std.proofs.lemmas.List.Elements.{All-cons, All-nil, All-weaker, All-take, filter_passes}
use Rattle.dl_kinds.specs.Plan.{IsPlan, pieces_of, blocks_of}
use Rattle.bencode_core.specs.Placed.{Placed, items_of, string_of}
use Rattle.span_map.specs.Layout.{HavePaths, total_of}
use Rattle.span_map.specs.Paths.{IsPath}
use Rattle.span_map.specs.declared.files.FileLen.{FileLen}
use Rattle.metainfo.specs.declared.refusals.Key.TheVariants.{Length, Files, UrlList, Name, Pieces}
use Rattle.metainfo.specs.declared.refusals.MetaErr.{MetaErr}
use Rattle.metainfo.specs.declared.meta.Meta.{Meta}
use Rattle.metainfo.specs.Info.{Info, info_of, IsSeed, IsSingle, AreBehind, IsSound}
use Rattle.metainfo.specs.Refusals.{◌>>=◌, refusal_of, sought, string_in}
use Rattle.metainfo.specs.Rules.{file_of, info_in, name_in, piece_len_in, digests_in, first_digests, len_in, path_in, path_of, parts_in, file_in, files_from, is_dicts, several_of, single_in, files_by, files_in, paths_fit, no_bad, sum_fits, plan_fits, digests_fit, laid_out, layout_in, seeds_in, seeds_by, seeds_of, seeds_among, urls_by, metainfo_of}
use Rattle.metainfo.specs.Tests.{is_part, is_plan, is_seed, is_list, is_dict, bad_file}
use Rattle.metainfo.proofs.Parts.{part_decides, le_decides, utf8_decides}
use Rattle.metainfo.proofs.Usable.{usable_decides}
use Rattle.metainfo.proofs.Fitting.{have_paths}
use Rattle.metainfo.proofs.Steps.{seeds_bound}

-- ---- steps that gave something

bind_ok : {A B : Type 0} (r : Result A MetaErr) (f : A → Result B MetaErr) (y : B) → (r >>= f) ≡ Ok y → (x : A) × (r ≡ Ok x) × (f x ≡ Ok y)
bind_ok (Ok x) f y is = (x, refl, is)
bind_ok (Err e) f y is = cc

passed : {A : Type 0} (test : Bool) (x y : A) (e : MetaErr) → cond test (Ok x) (Err e) ≡ Ok y → (test ≡ true) × (x ≡ y)
passed true x y e is = (refl, cc)
passed false x y e is = cc

chosen : {A : Type 0} (test : Bool) (r : Result A MetaErr) (y : A) (e : MetaErr) → cond test r (Err e) ≡ Ok y → (test ≡ true) × (r ≡ Ok y)
chosen true r y e is = (refl, is)
chosen false r y e is = cc

same_Ok : {A : Type 0} {x y : A} → ◌≡◌ {A = Result A MetaErr} (Ok x) (Ok y) → x ≡ y
same_Ok is = cc

-- ---- tests

pub plan_decides : (total piece_len : ℕ) → Decides (is_plan total piece_len) (IsPlan total piece_len)
plan_decides total piece_len =
    Decides-like (is_plan total piece_len)
    (λ p. record { some = p.0.0.0; piece = p.0.0.1; pieces = p.0.1; blocks = p.1 })
    (λ plan. (((plan.some, plan.piece), plan.pieces), plan.blocks))
    (Decides-and _ _
    (Decides-and _ _
    (Decides-and _ _ (le_decides 1 piece_len) (le_decides piece_len 67108864))
    (le_decides (pieces_of total piece_len) 1048576))
    (le_decides (blocks_of total piece_len) 268435456))

pub seed_decides : (bytes : List ℕ) → Decides (is_seed bytes) (IsSeed bytes)
seed_decides bytes = Decides-and _ _ (utf8_decides bytes) (usable_decides bytes)

-- ---- the name and the digests

name_is : (dict : Placed) (name : List ℕ) → name_in dict ≡ Ok name → is_part name ≡ true
unfolding name_in
name_is dict name is =
    let read = bind_ok (string_in Name dict) _ name is in
    let test = passed (is_part read.0) read.0 name _ read.2 in
    ap is_part (sym test.1) ∙ test.0

each_whole : (count : ℕ) (bytes : List ℕ) → 20 * count ≤ length bytes → All (λ digest. length digest ≡ 20) (first_digests count bytes)
each_whole zero bytes enough = All-nil (λ (digest : List ℕ). length digest ≡ 20)
each_whole (suc count) bytes enough =
    All-cons (λ (digest : List ℕ). length digest ≡ 20) (take 20 bytes) (first_digests count (drop 20 bytes)) (omega (arith, length-take 20 bytes))
    (each_whole count (drop 20 bytes) (omega (arith, length-drop 20 bytes)))

digests_are : (dict : Placed) (digests : List (List ℕ)) → digests_in dict ≡ Ok digests → All (λ digest. length digest ≡ 20) digests
unfolding digests_in
digests_are dict digests is =
    let read = bind_ok (string_in Pieces dict) _ digests is in
    let test = passed (length read.0 % 20 == 0) (first_digests (length read.0 / 20) read.0) digests _ read.2 in
    subst (All (λ (digest : List ℕ). length digest ≡ 20)) test.1 (each_whole (length read.0 / 20) read.0 (omega arith))

-- ---- the files

-- the path is the name and parts behind it, or none
abbrev IsBehind : List ℕ → FileLen → Type 0
IsBehind name file = (parts : List (List ℕ)) × (file.path ≡ path_of name parts)

file_behind : (name : List ℕ) (dict : Placed) (file : FileLen) → file_in name dict ≡ Ok file → IsBehind name file
unfolding file_in path_in
file_behind name dict file is =
    let len = bind_ok (len_in dict) _ file is in
    let path = bind_ok (path_in name dict) _ file len.2 in
    let parts = bind_ok (parts_in dict) _ path.0 path.1 in
    let at_path : path.0 ≡ path_of name parts.0 = cc in
    let made : ◌≡◌ {A = FileLen} (record { path = path.0; len = len.0 }) file = cc in
    (parts.0, ap (λ (f : FileLen). f.path) (sym made) ∙ at_path)

files_behind : (name : List ℕ) (dicts : List Placed) (files : List FileLen) → files_from name dicts ≡ Ok files → All (IsBehind name) files
files_behind name [] files is =
    let none : [] ≡ files = cc in subst (All (IsBehind name)) none (All-nil (IsBehind name))
files_behind name (dict ∷ dicts) files is =
    let first = bind_ok (file_in name dict) _ files is in
    let rest = bind_ok (files_from name dicts) _ files first.2 in
    let made : first.0 ∷ rest.0 ≡ files = cc in
    subst (All (IsBehind name)) made (All-cons (IsBehind name) first.0 rest.0 (file_behind name dict first.0 first.1) (files_behind name dicts rest.0 rest.1))

some_part : (name : List ℕ) (file : FileLen) (parts : List (List ℕ)) → file.path ≡ path_of name parts → IsPath file.path
    → (part : List ℕ) × (rest : List (List ℕ)) × (file.path ≡ name ∷ part ∷ rest)
some_part name file [] is valid = absurd (let some : 1 ≤ length file.path = valid.some in omega (arith, ap length is))
some_part name file (part ∷ rest) is valid = (part, rest, is)

all_behind : (name : List ℕ) (files : List FileLen) → All (IsBehind name) files → All (λ file. IsPath file.path) files → AreBehind name files
all_behind name files behind valid = λ k d within. let at = behind k d within in some_part name (get_or files k d) at.0 at.1 (valid k d within)

paths_by : (name : List ℕ) (dict : Placed) (files : List FileLen) (len several : Option Placed) → files_by name dict len several ≡ Ok files
    → All (λ file. IsPath file.path) files → IsSingle name files ⊎ AreBehind name files
unfolding single_in several_of
paths_by name dict files None None is valid = cc
paths_by name dict files (Some len) (Some found) is valid = cc
paths_by name dict files (Some found) None is valid =
    let len = bind_ok (len_in dict) _ files is in
    let made : record { path = name ∷ []; len = len.0 } ∷ [] ≡ files = cc in
    inl (len.0, sym made)
paths_by name dict files None (Some found) is valid =
    inr (all_behind name files (files_behind name (items_of found) files (chosen (is_dicts found) (files_from name (items_of found)) files _ is).1) valid)

no_bad_by : (bad : Option ℕ) (u : Unit {0}) → no_bad bad ≡ Ok u → bad ≡ None
no_bad_by None u is = refl
no_bad_by (Some i) u is = cc

files_count : (name : List ℕ) (dicts : List Placed) (files : List FileLen) → files_from name dicts ≡ Ok files → length files ≡ length dicts
files_count name [] files is = let none : [] ≡ files = cc in sym (ap length none)
files_count name (dict ∷ dicts) files is =
    let first = bind_ok (file_in name dict) _ files is in
    let rest = bind_ok (files_from name dicts) _ files first.2 in
    let made : first.0 ∷ rest.0 ≡ files = cc in
    sym (ap length made) ∙ ap suc (files_count name dicts rest.0 rest.1)

some_by : (name : List ℕ) (dict : Placed) (files : List FileLen) (len several : Option Placed) → files_by name dict len several ≡ Ok files → 1 ≤ length files
unfolding single_in several_of
some_by name dict files None None is = cc
some_by name dict files (Some len) (Some found) is = cc
some_by name dict files (Some found) None is =
    let len = bind_ok (len_in dict) _ files is in
    let made : record { path = name ∷ []; len = len.0 } ∷ [] ≡ files = cc in
    omega (arith, ap length made)
some_by name dict files None (Some found) is =
    let test = chosen (is_dicts found) (files_from name (items_of found)) files _ is in
    let some : leb 1 (length (items_of found)) ≡ true = (and_parts (is_list found) (leb 1 (length (items_of found))) (and_parts (is_list found && leb 1 (length (items_of found))) (list_all is_dict (items_of found)) test.0).0).1 in
    omega (arith, files_count name (items_of found) files test.1, leb-true 1 (length (items_of found)) some)

-- what rules 6 to 8 leave
record AreFiles (name : List ℕ) (files : List FileLen) : Type 0 where
  pub some : 1 ≤ length files
  pub have : HavePaths files
  pub sum : total_of files ≤ 4398046511104
  pub paths : IsSingle name files ⊎ AreBehind name files

files_are : (name : List ℕ) (dict : Placed) (files : List FileLen) → layout_in name dict ≡ Ok files → AreFiles name files
unfolding layout_in laid_out paths_fit sum_fits files_in
files_are name dict files is =
    let read = bind_ok (files_in name dict) _ files is in
    let paths = bind_ok (paths_fit read.0) _ files read.2 in
    let sum = bind_ok (sum_fits read.0) _ files paths.2 in
    let made : read.0 ≡ files = cc in
    let have = have_paths read.0 (no_bad_by (bad_file read.0) paths.0 paths.1) in
    let limit = passed (leb (total_of read.0) 4398046511104) tt sum.0 _ sum.1 in
    subst (AreFiles name) made (record {
      some = some_by name dict read.0 (sought Length dict) (sought Files dict) read.1;
      have = have;
      sum = leb-true (total_of read.0) 4398046511104 limit.0;
      paths = paths_by name dict read.0 (sought Length dict) (sought Files dict) read.1 have.valid;
    })

-- ---- the seeds

are_seeds : (urls : List (List ℕ)) → All IsSeed (seeds_among urls)
are_seeds urls =
    All-take IsSeed 256 (filter is_seed urls)
    (All-weaker (λ (url : List ℕ). is_seed url ≡ true) IsSeed (λ url is. (seed_decides url).0 is) (filter is_seed urls) (filter_passes is_seed urls))

-- the seeds of some URLs
abbrev Among : List (List ℕ) → Type 0
Among seeds = (urls : List (List ℕ)) × (seeds_among urls ≡ seeds)

seeds_found : (found : Option Placed) (seeds : List (List ℕ)) → seeds_by found ≡ Ok seeds → Among seeds
unfolding seeds_of
seeds_found None seeds is = ([], cc)
seeds_found (Some found) seeds is =
    let urls = bind_ok (urls_by found (string_of found.value)) _ seeds is in
    (urls.0, cc)

seeds_are : (file : Placed) (seeds : List (List ℕ)) → seeds_in file ≡ Ok seeds → All IsSeed seeds × (length seeds ≤ 256)
unfolding seeds_in
seeds_are file seeds is =
    let among = seeds_found (sought UrlList file) seeds is in
    (subst (All IsSeed) among.1 (are_seeds among.0), omega (arith, seeds_bound among.0, ap length among.1))

-- ---- the whole

plan_is : (total piece_len : ℕ) (u : Unit {0}) → plan_fits total piece_len ≡ Ok u → IsPlan total piece_len
unfolding plan_fits
plan_is total piece_len u is = (plan_decides total piece_len).0 (passed (is_plan total piece_len) tt u _ is).0

count_is : (have want : ℕ) (u : Unit {0}) → digests_fit have want ≡ Ok u → have ≡ want
unfolding digests_fit
count_is have want u is = eqb-true have want (passed (eqb have want) tt u _ is).0

not_none : (files : List FileLen) → 1 ≤ length files → files ≡ [] → ⊥
not_none files some none = absurd (omega (arith, ap length none))

pub sound : (bytes : List ℕ) (said : Info) → metainfo_of bytes ≡ Ok said → IsSound said
unfolding metainfo_of
sound bytes said is =
    let file = bind_ok (file_of bytes) _ said is in
    let dict = bind_ok (info_in file.0) _ said file.2 in
    let name = bind_ok (name_in dict.0) _ said dict.2 in
    let piece_len = bind_ok (piece_len_in dict.0) _ said name.2 in
    let digests = bind_ok (digests_in dict.0) _ said piece_len.2 in
    let files = bind_ok (layout_in name.0 dict.0) _ said digests.2 in
    let plan = bind_ok (plan_fits (total_of files.0) piece_len.0) _ said files.2 in
    let count = bind_ok (digests_fit (length digests.0) (pieces_of (total_of files.0) piece_len.0)) _ said plan.2 in
    let seeds = bind_ok (seeds_in file.0) _ said count.2 in
    let are_files = files_are name.0 dict.0 files.0 files.1 in
    let have_name = (part_decides name.0).0 (name_is dict.0 name.0 name.1) in
    let some_seeds = seeds_are file.0 seeds.0 seeds.1 in
    subst IsSound (same_Ok seeds.2) (record {
      name = have_name;
      layout = record { some = not_none files.0 are_files.some; paths = are_files.have; bounded = are_files.sum };
      paths = are_files.paths;
      total = refl;
      plan = plan_is (total_of files.0) piece_len.0 plan.0 plan.1;
      count = count_is (length digests.0) (pieces_of (total_of files.0) piece_len.0) count.0 count.1;
      digests = digests_are dict.0 digests.0 digests.1;
      seeds = some_seeds.0;
      few_seeds = some_seeds.1;
    })

pub given_sound : (bytes : List ℕ) (result : Result Meta MetaErr) → Gives info_of refusal_of result (metainfo_of bytes) → IfOk result (λ meta. IsSound (info_of meta))
given_sound bytes (Ok meta) given = sound bytes (info_of meta) given
given_sound bytes (Err e) given = tt
