-- In a tree no path is that of another file, or a folder on the way to one.
use Rattle.std.proofs.Common.{◌≡◌, ℕ, ◌+◌, Bool, true, false, List, [], ◌∷◌, ◌++◌, map, Some, None, Option, refl, sym, ap, subst, ◌∙◌, inl, inr}
use Rattle.std.specs.Ordering.{nat_cmp, ordering_reverse}
use Rattle.std.specs.Option.{option_map}
use Rattle.std.specs.Cmp.Lexicographic.{slice_cmp, nat_list_cmp_total}
use Rattle.std.specs.declared.cmp.Ordering.{Ordering}
use Rattle.std.specs.declared.cmp.Ordering.TheVariants.{Less, Greater}
use Rattle.std.proofs.lemmas.List.{map-append}
use Rattle.bencode_core.specs.Placed.{Placed}
use Rattle.bencode_core.specs.Value.{AreMembers, IsSound, Members, Value, dict, integer, list, member, no_members, string}
use Rattle.metainfo.specs.Tests.{is_dict}
use Rattle.span_map.specs.Paths.{Begins, Clash}
use Rattle.meta_v2.specs.Trees.{TreeFile, file_or, files_among, files_at, files_of_tree, in_folder, with_both}
use Rattle.meta_v2.proofs.Keys.{is_less}

abbrev Path : Type 0
Path = List (List ℕ)

abbrev Apart : Path → Path → Type 0
Apart a b = Clash a b → ⊥

-- a path is apart from each of these
abbrev pub ApartFrom : Path → List Path → Type 0
ApartFrom p [] = Unit {0}
ApartFrom p (q ∷ qs) = Apart p q × ApartFrom p qs

-- each is apart from those behind it
abbrev pub AllApart : List Path → Type 0
AllApart [] = Unit {0}
AllApart (p ∷ ps) = ApartFrom p ps × AllApart ps

-- ---- one part more in front

begins_shorter : (key : List ℕ) (a b : Path) → Begins (key ∷ a) (key ∷ b) → Begins a b
begins_shorter key a b begins = cc

pub apart_behind : (key : List ℕ) (a b : Path) → Apart a b → Apart (key ∷ a) (key ∷ b)
apart_behind key a b apart (inl begins) = apart (inl (begins_shorter key a b begins))
apart_behind key a b apart (inr begins) = apart (inr (begins_shorter key b a begins))

begins_same : (key other : List ℕ) (a b : Path) → Begins (key ∷ a) (other ∷ b) → other ≡ key
begins_same key other a b begins = cc

apart_keys : (key other : List ℕ) (a b : Path) → (key ≡ other → ⊥) → Apart (key ∷ a) (other ∷ b)
apart_keys key other a b differ (inl begins) = differ (sym (begins_same key other a b begins))
apart_keys key other a b differ (inr begins) = differ (begins_same other key b a begins)

apart_from_behind : (key : List ℕ) (p : Path) (ps : List Path) → ApartFrom p ps
    → ApartFrom (key ∷ p) (map (λ (q : Path). key ∷ q) ps)
apart_from_behind key p [] apart = tt
apart_from_behind key p (q ∷ qs) apart = (apart_behind key p q apart.0, apart_from_behind key p qs apart.1)

pub all_behind : (key : List ℕ) (ps : List Path) → AllApart ps → AllApart (map (λ (q : Path). key ∷ q) ps)
all_behind key [] apart = tt
all_behind key (p ∷ ps) apart = (apart_from_behind key p ps apart.0, all_behind key ps apart.1)

-- ---- one list behind another

apart_from_append : (p : Path) (ps qs : List Path) → ApartFrom p ps → ApartFrom p qs → ApartFrom p (ps ++ qs)
apart_from_append p [] qs first second = second
apart_from_append p (q ∷ ps) qs first second = (first.0, apart_from_append p ps qs first.1 second)

-- each of these is apart from each of those
abbrev Across : List Path → List Path → Type 0
Across [] qs = Unit {0}
Across (p ∷ ps) qs = ApartFrom p qs × Across ps qs

all_append : (ps qs : List Path) → AllApart ps → AllApart qs → Across ps qs → AllApart (ps ++ qs)
all_append [] qs first second across = second
all_append (p ∷ ps) qs first second across =
    (apart_from_append p ps qs first.0 across.0, all_append ps qs first.1 second across.1)

-- ---- keys ascend

abbrev order : List ℕ → List ℕ → Ordering
order = slice_cmp nat_cmp

-- the path begins with a key behind this one
abbrev IsBehind : List ℕ → Path → Type 0
IsBehind before path = (key : List ℕ) × (rest : Path) × (path ≡ key ∷ rest) × (order before key ≡ Less)

abbrev AllBehind : List ℕ → List Path → Type 0
AllBehind before [] = Unit {0}
AllBehind before (p ∷ ps) = IsBehind before p × AllBehind before ps

behind_append : (before : List ℕ) (ps qs : List Path) → AllBehind before ps → AllBehind before qs
    → AllBehind before (ps ++ qs)
behind_append before [] qs first second = second
behind_append before (p ∷ ps) qs first second = (first.0, behind_append before ps qs first.1 second)

behind_key : (before key : List ℕ) (ps : List Path) → order before key ≡ Less
    → AllBehind before (map (λ (q : Path). key ∷ q) ps)
behind_key before key [] less = tt
behind_key before key (p ∷ ps) less = ((key, p, refl, less), behind_key before key ps less)

behind_more : (before key : List ℕ) (ps : List Path) → order before key ≡ Less → AllBehind key ps → AllBehind before ps
behind_more before key [] less behind = tt
behind_more before key (p ∷ ps) less behind = (
  (behind.0.0, behind.0.1, behind.0.2, nat_list_cmp_total.trans before key behind.0.0 less behind.0.3),
  behind_more before key ps less behind.1,
)

not_itself : (key other : List ℕ) → order key other ≡ Less → key ≡ other → ⊥
not_itself key other less same =
    let itself : order key key ≡ Less = ap (order key) same ∙ less in
    let turned : Less ≡ Greater = sym itself ∙ nat_list_cmp_total.antisymm key key ∙ ap ordering_reverse itself in
    absurd cc

apart_from_later : (key : List ℕ) (a : Path) (qs : List Path) → AllBehind key qs → ApartFrom (key ∷ a) qs
apart_from_later key a [] behind = tt
apart_from_later key a (q ∷ qs) behind = (
  subst (Apart (key ∷ a)) (sym behind.0.2) (apart_keys key behind.0.0 a behind.0.1 (not_itself key behind.0.0 behind.0.3)),
  apart_from_later key a qs behind.1,
)

across_later : (key : List ℕ) (ps qs : List Path) → AllBehind key qs → Across (map (λ (q : Path). key ∷ q) ps) qs
across_later key [] qs behind = tt
across_later key (p ∷ ps) qs behind = (apart_from_later key p qs behind, across_later key ps qs behind)

-- ---- trees

abbrev pub ways : List TreeFile → List Path
ways files = map (λ (f : TreeFile). f.path) files

ways_below : (key : List ℕ) (files : List TreeFile)
    → ways (map (in_folder key) files) ≡ map (λ (q : Path). key ∷ q) (ways files)
ways_below key [] = refl
ways_below key (f ∷ files) = ap (λ (l : List Path). (key ∷ f.path) ∷ l) (ways_below key files)

-- the parts of what was found in both
abbrev Parts : List ℕ → Option (List TreeFile) → Option (List TreeFile) → List TreeFile → Type 0
Parts key these those files =
    (xs ys : List TreeFile) × (these ≡ Some xs) × (those ≡ Some ys) × (map (in_folder key) xs ++ ys ≡ files)

parts_of : (key : List ℕ) (these those : Option (List TreeFile)) (files : List TreeFile)
    → with_both (option_map (map (in_folder key)) these) those ≡ Some files → Parts key these those files
parts_of key None those files is = cc
parts_of key (Some xs) None files is = cc
parts_of key (Some xs) (Some ys) files is = (xs, ys, refl, refl, cc)

ways_of : (key : List ℕ) (xs ys files : List TreeFile) → map (in_folder key) xs ++ ys ≡ files
    → map (λ (q : Path). key ∷ q) (ways xs) ++ ways ys ≡ ways files
ways_of key xs ys files is =
    ap (λ (l : List Path). l ++ ways ys) (sym (ways_below key xs))
    ∙ sym (map-append (λ (f : TreeFile). f.path) (map (in_folder key) xs) ys) ∙ ap ways is

later_behind : (before : List ℕ) (place : ℕ) (ms : Members) (files : List TreeFile) → AreMembers (Some before) ms
    → files_among place ms ≡ Some files → AllBehind before (ways files)
later_behind before place no_members files are is =
    let none : [] ≡ files = cc in subst (λ (l : List TreeFile). AllBehind before (ways l)) none tt
later_behind before place (member key v ms) files are is =
    let parts = parts_of key (files_at _ v) (files_among _ ms) files is in
    let less = is_less (order before key) are.0 in
    subst (AllBehind before) (ways_of key parts.0 parts.1 files parts.4)
    (behind_append before (map (λ (q : Path). key ∷ q) (ways parts.0)) (ways parts.1)
    (behind_key before key (ways parts.0) less)
    (behind_more before key (ways parts.1) less (later_behind key _ ms parts.1 are.2 parts.3)))

apart_file : (folder : Option (List TreeFile)) (found : Option Placed) (files : List TreeFile)
    → ((inner : List TreeFile) → folder ≡ Some inner → AllApart (ways inner)) → file_or folder found ≡ Some files
    → AllApart (ways files)
apart_file folder None files apart is = apart files is
apart_file folder (Some found) files apart is = by (is_dict found) refl
  where
    by : (test : Bool) → is_dict found ≡ test → AllApart (ways files)
    by true dict_is =
        let here : Some (record { path = []; found = found } ∷ []) ≡ Some files = sym (rw dict_is refl) ∙ is in
        let one : record { path = []; found = found } ∷ [] ≡ files = cc in
        subst (λ (l : List TreeFile). AllApart (ways l)) one (tt, tt)
    by false dict_is =
        let here : None ≡ Some files = sym (rw dict_is refl) ∙ is in absurd cc

mutual
  apart_at : (place : ℕ) (v : Value) (files : List TreeFile) → IsSound v → files_at place v ≡ Some files
      → AllApart (ways files)
  apart_at place (integer z) files sound is = cc
  apart_at place (string bytes) files sound is = cc
  apart_at place (list vs) files sound is = cc
  apart_at place (dict ms) files sound is =
      apart_file (files_among (place + 1) ms) _ files (apart_among None (place + 1) ms sound) is

  apart_among : (before : Option (List ℕ)) (place : ℕ) (ms : Members) → AreMembers before ms → (files : List TreeFile)
      → files_among place ms ≡ Some files → AllApart (ways files)
  apart_among before place no_members are files is =
      let none : [] ≡ files = cc in subst (λ (l : List TreeFile). AllApart (ways l)) none tt
  apart_among before place (member key v ms) are files is =
      let parts = parts_of key (files_at _ v) (files_among _ ms) files is in
      subst AllApart (ways_of key parts.0 parts.1 files parts.4)
      (all_append (map (λ (q : Path). key ∷ q) (ways parts.0)) (ways parts.1)
      (all_behind key (ways parts.0) (apart_at _ v parts.0 are.1 parts.2))
      (apart_among (Some key) _ ms are.2 parts.1 parts.3)
      (across_later key (ways parts.0) (ways parts.1) (later_behind key _ ms parts.1 are.2 parts.3)))

pub tree_apart : (tree : Placed) (files : List TreeFile) → IsSound tree.value → files_of_tree tree ≡ Some files
    → AllApart (ways files)
tree_apart tree files sound is = apart_at tree.place tree.value files sound is
