-- The walk through a file tree gives its files.
use Rattle.std.proofs.Common.{◌≡◌, ℕ, suc, ◌≤◌, ◌<◌, ◌+◌, ◌-◌, Bool, true, false, List, [], ◌∷◌, ◌++◌, length, map, take, Some, None, Option, refl, sym, ap, ◌∙◌, arith}
use Rattle.std.specs.Prelude.{sum_by}
use Rattle.std.specs.Option.{option_map}
use Rattle.std.proofs.lemmas.List.{append-nil, append_assoc, map-append, length-append, length-map}
use Rattle.std.proofs.lemmas.List.Sums.{sum_by-cons, sum_by_push}
use Rattle.bencode_core.specs.Placed.{Placed, member_of, members_of, placed_members}
use Rattle.bencode_core.specs.Value.{Value, Members, integer, string, list, dict, no_members, member, spelling, string_spelling, member_spellings}
use Rattle.std.specs.Prelude.{codes}
use Rattle.metainfo.specs.Tests.{is_dict}
use Rattle.metainfo.proofs.Lengths.{spelling_some}
use Rattle.meta_v2.specs.Trees.{TreeFile, in_folder, with_both, file_or, files_at, files_among, files_of_tree}
use Rattle.meta_v2.specs.declared.tree.Branch.{Branch}
use Rattle.meta_v2.specs.Walks.{sizes_of, size_of, seen, children_of, files_back, files_of_all, files_under, under}

-- ---- lists that may be missing

both_assoc : (a b c : Option (List TreeFile)) → with_both (with_both a b) c ≡ with_both a (with_both b c)
both_assoc None b c = refl
both_assoc (Some xs) None c = refl
both_assoc (Some xs) (Some ys) None = refl
both_assoc (Some xs) (Some ys) (Some zs) = ap Some (append_assoc xs ys zs)

none_behind : (a : Option (List TreeFile)) → with_both (Some []) a ≡ a
none_behind None = refl
none_behind (Some xs) = refl

none_before : (a : Option (List TreeFile)) → with_both a (Some []) ≡ a
none_before None = refl
none_before (Some xs) = ap Some (append-nil xs)

map_both : (f : TreeFile → TreeFile) (a b : Option (List TreeFile))
    → option_map (map f) (with_both a b) ≡ with_both (option_map (map f) a) (option_map (map f) b)
map_both f None b = refl
map_both f (Some xs) None = refl
map_both f (Some xs) (Some ys) = ap Some (map-append f xs ys)

-- ---- one branch more

pub back_more : (leaves : List TreeFile) (leaf : TreeFile)
    → files_back (leaves ++ leaf ∷ []) ≡ with_both (files_under leaf) (files_back leaves)
back_more [] leaf = none_behind (files_under leaf) ∙ sym (none_before (files_under leaf))
back_more (first ∷ leaves) leaf =
    ap (λ (a : Option (List TreeFile)). with_both a (files_under first)) (back_more leaves leaf)
    ∙ both_assoc (files_under leaf) (files_back leaves) (files_under first)

pub all_more : (leaves : List TreeFile) (leaf : TreeFile)
    → files_of_all (leaves ++ leaf ∷ []) ≡ with_both (files_of_all leaves) (files_under leaf)
all_more [] leaf = none_before (files_under leaf) ∙ sym (none_behind (files_under leaf))
all_more (first ∷ leaves) leaf =
    ap (with_both (files_under first)) (all_more leaves leaf)
    ∙ sym (both_assoc (files_under first) (files_of_all leaves) (files_under leaf))

-- the last child of a folder is moved to what is to be walked
pub child_moved : (front : List TreeFile) (child : TreeFile) (rest : List TreeFile)
    → with_both (files_of_all front) (files_back (rest ++ child ∷ []))
    ≡ with_both (files_of_all (front ++ child ∷ [])) (files_back rest)
child_moved front child rest =
    ap (with_both (files_of_all front)) (back_more rest child)
    ∙ sym (both_assoc (files_of_all front) (files_under child) (files_back rest))
    ∙ ap (λ (a : Option (List TreeFile)). with_both a (files_back rest)) (sym (all_more front child))

-- ---- folders

-- what stands in a folder of this path
abbrev pub child : List (List ℕ) → List ℕ × Placed → TreeFile
child path m = record { path = path ++ m.0 ∷ []; found = m.1 }

map_below : (path : List (List ℕ)) (key : List ℕ) (leaves : List TreeFile)
    → map (under path) (map (in_folder key) leaves) ≡ map (under (path ++ key ∷ [])) leaves
map_below path key [] = refl
map_below path key (leaf ∷ leaves) = λ i.
    record { path = sym (append_assoc path (key ∷ []) leaf.path) i; found = leaf.found } ∷ map_below path key leaves i

under_below : (path : List (List ℕ)) (key : List ℕ) (leaves : Option (List TreeFile))
    → option_map (map (under path)) (option_map (map (in_folder key)) leaves)
    ≡ option_map (map (under (path ++ key ∷ []))) leaves
under_below path key None = refl
under_below path key (Some leaves) = ap Some (map_below path key leaves)

among_children : (path : List (List ℕ)) (place : ℕ) (ms : Members)
    → option_map (map (under path)) (files_among place ms) ≡ files_of_all (map (child path) (placed_members place ms))
among_children path place no_members = refl
among_children path place (member key v ms) =
    let behind_key = place + length (string_spelling key) in
    let behind = behind_key + length (spelling v) in
    map_both (under path) (option_map (map (in_folder key)) (files_at behind_key v)) (files_among behind ms)
    ∙ ap (λ (a : Option (List TreeFile)). with_both a (option_map (map (under path)) (files_among behind ms)))
    (under_below path key (files_at behind_key v))
    ∙ ap (with_both (option_map (map (under (path ++ key ∷ []))) (files_at behind_key v)))
    (among_children path behind ms)

folder_at : (path : List (List ℕ)) (place : ℕ) (v : Value) → is_dict (record { place = place; value = v }) ≡ true
    → member_of [] (record { place = place; value = v }) ≡ None
    → files_under (record { path = path; found = record { place = place; value = v } })
    ≡ files_of_all (children_of (record { path = path; found = record { place = place; value = v } }))
folder_at path place (integer z) is none = cc
folder_at path place (string bytes) is none = cc
folder_at path place (list vs) is none = cc
folder_at path place (dict ms) is none =
    ap (λ (found : Option Placed). option_map (map (under path)) (file_or (files_among (place + 1) ms) found)) none
    ∙ among_children path (place + 1) ms

-- a dictionary without the key of length 0 is a folder
pub folder_walked : (leaf : TreeFile) → is_dict leaf.found ≡ true → member_of [] leaf.found ≡ None
    → files_under leaf ≡ files_of_all (children_of leaf)
folder_walked leaf is none = folder_at leaf.path leaf.found.place leaf.found.value is none

-- ---- files

described_at : (place : ℕ) (v : Value) (found : Placed) → is_dict (record { place = place; value = v }) ≡ true
    → member_of [] (record { place = place; value = v }) ≡ Some found
    → files_at place v ≡ file_or None (Some found)
described_at place (integer z) found is some = cc
described_at place (string bytes) found is some = cc
described_at place (list vs) found is some = cc
described_at place (dict ms) found is some = ap (file_or (files_among (place + 1) ms)) some

pub file_walked : (leaf : TreeFile) (found : Placed) → is_dict leaf.found ≡ true → member_of [] leaf.found ≡ Some found
    → is_dict found ≡ true → files_under leaf ≡ Some (record { path = leaf.path; found = found } ∷ [])
file_walked leaf found is some is_file =
    ap (option_map (map (under leaf.path))) (described_at leaf.found.place leaf.found.value found is some)
    ∙ rw is_file (ap (λ (path : List (List ℕ)). Some (record { path = path; found = found } ∷ [])) (append-nil leaf.path))

pub bad_walked : (leaf : TreeFile) (found : Placed) → is_dict leaf.found ≡ true → member_of [] leaf.found ≡ Some found
    → is_dict found ≡ false → files_under leaf ≡ None
bad_walked leaf found is some other =
    ap (option_map (map (under leaf.path))) (described_at leaf.found.place leaf.found.value found is some) ∙ rw other refl

other_at : (place : ℕ) (v : Value) → is_dict (record { place = place; value = v }) ≡ false → files_at place v ≡ None
other_at place (integer z) is = refl
other_at place (string bytes) is = refl
other_at place (list vs) is = refl
other_at place (dict ms) is = cc

pub other_walked : (leaf : TreeFile) → is_dict leaf.found ≡ false → files_under leaf ≡ None
other_walked leaf is =
    ap (option_map (map (under leaf.path))) (other_at leaf.found.place leaf.found.value is)

-- a file is moved from what is to be walked to the files
pub file_moved : (files : List TreeFile) (leaf : TreeFile) (rest : Option (List TreeFile))
    → with_both (Some (files ++ leaf ∷ [])) rest ≡ with_both (Some files) (with_both (Some (leaf ∷ [])) rest)
file_moved files leaf rest = both_assoc (Some files) (Some (leaf ∷ [])) rest

-- ---- the whole

map_under_none : (leaves : List TreeFile) → map (under []) leaves ≡ leaves
map_under_none [] = refl
map_under_none (leaf ∷ leaves) = ap (λ (rest : List TreeFile). leaf ∷ rest) (map_under_none leaves)

under_none : (leaves : Option (List TreeFile)) → option_map (map (under [])) leaves ≡ leaves
under_none None = refl
under_none (Some leaves) = ap Some (map_under_none leaves)

-- at the start the tree is to be walked
pub walk_starts : (tree : Placed)
    → with_both (Some []) (files_back (record { path = []; found = tree } ∷ [])) ≡ files_of_tree tree
walk_starts tree =
    none_behind (files_back (record { path = []; found = tree } ∷ []))
    ∙ none_behind (files_under (record { path = []; found = tree }))
    ∙ under_none (files_of_tree tree)

pub starts_walking : (files rest : List TreeFile) (tree : Placed) → files ≡ []
    → rest ≡ record { path = []; found = tree } ∷ [] → with_both (Some files) (files_back rest) ≡ files_of_tree tree
starts_walking files rest tree no_files one =
    ap (λ (l : List TreeFile). with_both (Some l) (files_back rest)) no_files
    ∙ ap (λ (l : List TreeFile). with_both (Some []) (files_back l)) one ∙ walk_starts tree

-- at the end nothing is
pub walk_ends : (files : List TreeFile) → with_both (Some files) (files_back []) ≡ Some files
walk_ends files = none_before (Some files)

-- one branch of it is walked
pub next_walked : (files : List TreeFile) (rest : List TreeFile) (leaf : TreeFile)
    → with_both (Some files) (files_back (rest ++ leaf ∷ []))
    ≡ with_both (Some files) (with_both (files_under leaf) (files_back rest))
next_walked files rest leaf = ap (with_both (Some files)) (back_more rest leaf)

none_walked : (files : List TreeFile) (a b : Option (List TreeFile)) → a ≡ None → with_both (Some files) (with_both a b) ≡ None
none_walked files a b none = rw none refl

pub bad_rest : (files : List TreeFile) (rest : List TreeFile) (leaf : TreeFile) → files_under leaf ≡ None
    → with_both (Some files) (files_back (rest ++ leaf ∷ [])) ≡ None
bad_rest files rest leaf none =
    next_walked files rest leaf ∙ none_walked files (files_under leaf) (files_back rest) none

-- ---- sizes

-- how many bytes spell the values of members
abbrev pub member_sizes : List (List ℕ × Placed) → ℕ
member_sizes ms = sum_by (λ m. length (spelling m.1.value)) ms

spelled_len : (key : List ℕ) (v : Value) (ms : Members) → length (member_spellings (member key v ms))
    ≡ length (string_spelling key) + length (spelling v) + length (member_spellings ms)
spelled_len key v ms =
    length-append (string_spelling key ++ spelling v) (member_spellings ms)
    ∙ ap (λ (n : ℕ). n + length (member_spellings ms)) (length-append (string_spelling key) (spelling v))

members_fit : (place : ℕ) (ms : Members) → member_sizes (placed_members place ms) ≤ length (member_spellings ms)
members_fit place no_members = omega arith
members_fit place (member key v ms) =
    let behind = place + length (string_spelling key) + length (spelling v) in
    let one : member_sizes (placed_members place (member key v ms))
    ≡ length (spelling v) + member_sizes (placed_members behind ms)
    = sum_by-cons (λ (n : List ℕ × Placed). length (spelling n.1.value))
    (key, record { place = place + length (string_spelling key); value = v }) (placed_members behind ms) in
    omega (arith, one, members_fit behind ms, spelled_len key v ms)

sizes_at : (place : ℕ) (v : Value)
    → member_sizes (members_of (record { place = place; value = v })) < length (spelling v)
sizes_at place (integer z) = omega (arith, spelling_some (integer z))
sizes_at place (string bytes) = omega (arith, spelling_some (string bytes))
sizes_at place (list vs) = omega (arith, spelling_some (list vs))
sizes_at place (dict ms) =
    omega (
      arith,
      members_fit (place + 1) ms,
      length-append (codes "d" ++ member_spellings ms) (codes "e"),
      length-append (codes "d") (member_spellings ms),
    )

-- the values of members are shorter together than the dictionary
pub members_shorter : (folder : Placed) → member_sizes (members_of folder) < length (spelling folder.value)
members_shorter folder = sizes_at folder.place folder.value

-- the last member of a folder is moved to what is to be walked
pub child_step : (path : List (List ℕ)) (front all : List (List ℕ × Placed)) (m : List ℕ × Placed)
    (rest more : List TreeFile) (last : TreeFile) → all ≡ front ++ m ∷ [] → more ≡ rest ++ last ∷ [] → last ≡ child path m
    → with_both (files_of_all (map (child path) front)) (files_back more)
    ≡ with_both (files_of_all (map (child path) all)) (files_back rest)
child_step path front all m rest more last all_is more_is last_is =
    ap (λ (l : List TreeFile). with_both (files_of_all (map (child path) front)) (files_back l))
    (more_is ∙ ap (λ (leaf : TreeFile). rest ++ leaf ∷ []) last_is)
    ∙ child_moved (map (child path) front) (child path m) rest
    ∙ ap (λ (l : List TreeFile). with_both (files_of_all l) (files_back rest)) (sym (map-append (child path) front (m ∷ [])))
    ∙ ap (λ (ms : List (List ℕ × Placed)). with_both (files_of_all (map (child path) ms)) (files_back rest)) (sym all_is)

pub size_step : (front all : List (List ℕ × Placed)) (m : List ℕ × Placed) (rest more : List Branch) (last : Branch)
    → all ≡ front ++ m ∷ [] → more ≡ rest ++ last ∷ [] → last.found ≡ m.1
    → member_sizes front + sizes_of more ≡ member_sizes all + sizes_of rest
size_step front all m rest more last all_is more_is found_is =
    let sums : member_sizes all ≡ member_sizes front + length (spelling m.1.value) =
    ap member_sizes all_is ∙ sum_by_push (λ (n : List ℕ × Placed). length (spelling n.1.value)) front m in
    let sizes : sizes_of more ≡ sizes_of rest + length (spelling last.found.value) =
    ap sizes_of more_is ∙ sum_by_push size_of rest last in
    omega (arith, sums, sizes, ap (λ (p : Placed). length (spelling p.value)) found_is)

-- ---- how many files there are

length_map : (f : TreeFile → TreeFile) (leaves : List TreeFile) → length (map f leaves) ≡ length leaves
length_map f [] = refl
length_map f (leaf ∷ leaves) = ap suc (length_map f leaves)

-- there are at most so many
abbrev AtMost : ℕ → Option (List TreeFile) → Type 0
AtMost most None = Unit {0}
AtMost most (Some leaves) = length leaves ≤ most

at_most_below : (key : List ℕ) (most : ℕ) (leaves : Option (List TreeFile)) → AtMost most leaves
    → AtMost most (option_map (map (in_folder key)) leaves)
at_most_below key most None few = tt
at_most_below key most (Some leaves) few = omega (arith, few, length_map (in_folder key) leaves)

at_most_both : (first second : ℕ) (these those : Option (List TreeFile)) → AtMost first these → AtMost second those
    → AtMost (first + second) (with_both these those)
at_most_both first second None those few more = tt
at_most_both first second (Some xs) None few more = tt
at_most_both first second (Some xs) (Some ys) few more = omega (arith, few, more, length-append xs ys)

at_most_more : (low high : ℕ) (leaves : Option (List TreeFile)) → low ≤ high → AtMost low leaves → AtMost high leaves
at_most_more low high None le few = tt
at_most_more low high (Some leaves) le few = omega (arith, le, few)

at_most_file : (most : ℕ) (folder : Option (List TreeFile)) (found : Option Placed) → 1 ≤ most → AtMost most folder
    → AtMost most (file_or folder found)
at_most_file most folder None some few = few
at_most_file most folder (Some found) some few = by (is_dict found) refl
  where
    by : (test : Bool) → is_dict found ≡ test → AtMost most (file_or folder (Some found))
    by true is = rw is some
    by false is = rw is tt

mutual
  few_at : (place : ℕ) (v : Value) → AtMost (length (spelling v)) (files_at place v)
  few_at place (integer z) = tt
  few_at place (string bytes) = tt
  few_at place (list vs) = tt
  few_at place (dict ms) =
      at_most_file (length (spelling (dict ms))) (files_among (place + 1) ms) _ (spelling_some (dict ms))
      (at_most_more (length (member_spellings ms)) (length (spelling (dict ms))) (files_among (place + 1) ms)
      (omega (arith, length-append (codes "d" ++ member_spellings ms) (codes "e"), length-append (codes "d") (member_spellings ms)))
      (few_among (place + 1) ms))

  few_among : (place : ℕ) (ms : Members) → AtMost (length (member_spellings ms)) (files_among place ms)
  few_among place no_members = omega arith
  few_among place (member key v ms) =
      let behind_key = place + length (string_spelling key) in
      let behind = behind_key + length (spelling v) in
      at_most_more (length (spelling v) + length (member_spellings ms)) (length (member_spellings (member key v ms)))
      (files_among place (member key v ms))
      (omega (arith, spelled_len key v ms))
      (at_most_both (length (spelling v)) (length (member_spellings ms)) (option_map (map (in_folder key)) (files_at behind_key v))
      (files_among behind ms)
      (at_most_below key (length (spelling v)) (files_at behind_key v) (few_at behind_key v)) (few_among behind ms))

few_by : (tree : Placed) (leaves : Option (List TreeFile)) (files : List TreeFile) → AtMost (length (spelling tree.value)) leaves
    → leaves ≡ Some files → length files ≤ length (spelling tree.value)
few_by tree None files few is = cc
few_by tree (Some leaves) files few is =
    let same : leaves ≡ files = cc in omega (arith, few, ap length same)

-- files are no more than the bytes of the tree
pub leaves_few : (tree : Placed) (files : List TreeFile) → files_of_tree tree ≡ Some files
    → length files ≤ length (spelling tree.value)
leaves_few tree files is = few_by tree (files_of_tree tree) files (few_at tree.place tree.value) is

pub walked_few : (tree : Placed) (files : List Branch) → with_both (Some (map seen files)) (files_back []) ≡ files_of_tree tree
    → length files ≤ length (spelling tree.value)
walked_few tree files is =
    omega (arith, leaves_few tree (map seen files) (sym is ∙ walk_ends (map seen files)), length-map files seen)

-- where nothing is popped there was nothing
pub nothing_left : (before after : List Branch) (len : ℕ) → before ≡ after ++ [] → after ≡ take (len - 1) before
    → len ≡ 0 → before ≡ []
nothing_left before after len is cut none =
    is ∙ append-nil after ∙ cut ∙ ap (λ (n : ℕ). take (n - 1) before) none
