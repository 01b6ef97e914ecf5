-- What holds of whatever a metainfo file says as version 2.
use Rattle.std.proofs.Common.{◌≡◌, ℕ, zero, suc, ◌≤◌, ◌<◌, ◌+◌, ◌*◌, Bool, true, false, ◌&&◌, cond, eqb, leb, List, [], ◌∷◌, length, map, Some, None, Ok, Err, Result, Option, refl, sym, ap, subst, ◌∙◌, arith, inl, inr}
use Rattle.std.specs.Prelude.{◌⊎◌, ◌^◌, IfOk, ℤ, pos, negsuc}
use Rattle.std.specs.List.{All}
use Rattle.std.specs.Option.{unwrap_or}
use Rattle.std.specs.Str.{bytes_eq}
use Rattle.std.proofs.lemmas.Bool.{cond-false, ne_eqb, leb-true, eqb-true, lt-ltb, le-ltb, and_parts, cases_lt}
use Rattle.std.proofs.lemmas.Grind.{div_ceil_times}
use Rattle.std.proofs.Math.Nat.{mul-le-mul_right}
use Rattle.std.proofs.lemmas.List.Elements.{All-cons, All-nil}
use Rattle.std.proofs.lemmas.List.Kept.{AllPairs-cons}
use Rattle.std.proofs.lemmas.List.Sums.{sum_by-cons}
use Rattle.std.proofs.lemmas.Slice.Eq.{bytes_eq-Decides}
use Rattle.sha2.proofs.Facts256.{length-sha256}
use Rattle.dl_kinds.specs.Answers.{Gives}
use Rattle.dl_kinds.specs.Plan.{pieces_of}
use Rattle.bencode_core.specs.Placed.{Placed}
use Rattle.bencode_core.specs.Value.{IsSound, Value}
use Rattle.bencode_core.specs.Reading.{reading}
use Rattle.bencode_core.specs.declared.fault.BenErr.{BenErr}
use Rattle.bencode_core.proofs.Whole.{reading_takes}
use Rattle.merkle_trees.specs.Trees.{IsPieceLen, layer_root, zero_leaf}
use Rattle.metainfo.specs.Tests.{is_part, is_path, is_dict}
use Rattle.metainfo.proofs.Parts.{part_decides, path_decides}
use Rattle.span_map.specs.Paths.{IsPath, Clash}
use Rattle.meta_v2.specs.Refusals.{◌>>=◌, key_text, or_refusal, refusal_of, sought, string_in, integer_in, value_in}
use Rattle.meta_v2.specs.Rules.{entries_from, entries_of, entry_bytes, entry_in, entry_pieces, file_in, file_of, file_read, files_from, hashes_in, info_in, is_alone, is_length_of_pieces, is_lone_file, is_longer, layer_in, layer_text, layers_in, len_in, limits_fit, long_layer, meta_v2_of, name_in, path_in, payload_path, piece_len_in, piece_len_of, root_fits, root_in, short_layer, some_root_in, tree_in, version_in}
use Rattle.meta_v2.specs.Sound.{IsHash, IsFileV2, IsSoundV2, PathsAreApart, IsNamedFile, AreInFolder, all_bytes, all_pieces}
use Rattle.meta_v2.specs.Trees.{TreeFile, files_of_tree}
use Rattle.meta_v2.specs.declared.entries.TreeEntry.{TreeEntry}
use Rattle.meta_v2.specs.declared.files.FileV2.{FileV2}
use Rattle.meta_v2.specs.declared.meta.MetaV2.{MetaV2}
use Rattle.meta_v2.specs.declared.refusals.KeyV2.TheVariants.{Name, PieceLength, PiecesRoot, FileTree, Info}
use Rattle.meta_v2.specs.declared.refusals.V2Err.{V2Err}
use Rattle.meta_v2.proofs.Apart.{AllApart, ApartFrom, apart_behind, tree_apart, ways}
use Rattle.meta_v2.proofs.Hashing.{hashes_are, hashes_count}
use Rattle.meta_v2.proofs.Keys.{member_sound}
use Rattle.meta_v2.proofs.PieceLengths.{length_sound}

-- ---- steps that gave something

bind_ok : {A B : Type 0} (r : Result A V2Err) (f : A → Result B V2Err) (y : B) → (r >>= f) ≡ Ok y
    → (x : A) × (r ≡ Ok x) × (f x ≡ Ok y)
bind_ok (Ok x) f y is = (x, refl, is)
bind_ok (Err e) f y is = cc

passed : {A : Type 0} (test : Bool) (x y : A) (e : V2Err) → cond test (Ok x) (Err e) ≡ Ok y → (test ≡ true) × (x ≡ y)
passed true x y e is = (refl, cc)
passed false x y e is = cc

chosen : {A : Type 0} (test : Bool) (r : Result A V2Err) (y : A) (e : V2Err) → cond test r (Err e) ≡ Ok y
    → (test ≡ true) × (r ≡ Ok y)
chosen true r y e is = (refl, is)
chosen false r y e is = cc

given : {A : Type 0} (refusal : V2Err) (found : Option A) (y : A) → or_refusal refusal found ≡ Ok y → found ≡ Some y
given refusal None y is = cc
given refusal (Some x) y is = let same : x ≡ y = cc in ap Some same

same_Ok : {A : Type 0} {x y : A} → ◌≡◌ {A = Result A V2Err} (Ok x) (Ok y) → x ≡ y
same_Ok is = cc

-- ---- the name and the length of pieces

name_is : (info : Placed) (name : List ℕ) → name_in info ≡ Ok name → is_part name ≡ true
unfolding name_in
name_is info name is =
    let read = bind_ok (string_in Name info) _ name is in
    let test = passed (is_part read.0) read.0 name _ read.2 in
    ap is_part (sym test.1) ∙ test.0

len_by : (test : Bool) (n len : ℕ) → cond test (Some n) None ≡ Some len → (test ≡ true) × (n ≡ len)
len_by true n len is = (refl, cc)
len_by false n len is = cc

piece_len_by : (z : ℤ) (len : ℕ) → piece_len_of z ≡ Some len → is_length_of_pieces len ≡ true
piece_len_by (pos n) len is =
    let test = len_by (is_length_of_pieces n) n len is in ap is_length_of_pieces (sym test.1) ∙ test.0
piece_len_by (negsuc n) len is = cc

piece_len_is : (info : Placed) (len : ℕ) → piece_len_in info ≡ Ok len → IsPieceLen len
unfolding piece_len_in
piece_len_is info len is =
    let read = bind_ok (integer_in PieceLength info) _ len is in
    length_sound len (piece_len_by read.0 len (given _ (piece_len_of read.0) len read.2))

-- ---- the files of the tree

-- what rule 3 leaves of a file that stands in the tree at this way
record IsEntry (name : List ℕ) (named : Bool) (way : List (List ℕ)) (entry : TreeEntry) : Type 0 where
  pub at : entry.path ≡ payload_path name named way
  pub path : IsPath entry.path
  pub root : IsHash entry.root

zeros_are : length zero_leaf ≡ 32
zeros_are = refl

root_by : (test : Bool) (dict : Placed) (root : List ℕ) → cond test (Ok zero_leaf) (some_root_in dict) ≡ Ok root
    → IsHash root
unfolding some_root_in
root_by true dict root is = let same : zero_leaf ≡ root = cc in sym (ap length same) ∙ zeros_are
root_by false dict root is =
    let read = bind_ok (string_in PiecesRoot dict) _ root is in
    let test = passed (eqb (length read.0) 32) read.0 root _ read.2 in
    sym (ap length test.1) ∙ eqb-true (length read.0) 32 test.0

root_is : (len : ℕ) (dict : Placed) (root : List ℕ) → root_in len dict ≡ Ok root → IsHash root
unfolding root_in
root_is len dict root is = root_by (eqb len 0) dict root is

entry_is : (number : ℕ) (name : List ℕ) (named : Bool) (file : TreeFile) (entry : TreeEntry)
    → entry_in number name named file ≡ Ok entry → IsEntry name named file.path entry
unfolding entry_in path_in
entry_is number name named file entry is =
    let path = bind_ok (path_in number name named file.path) _ entry is in
    let len = bind_ok (len_in file.found) _ entry path.2 in
    let root = bind_ok (root_in len.0 file.found) _ entry len.2 in
    let test = passed (is_path (payload_path name named file.path)) (payload_path name named file.path) path.0 _ path.1 in
    let made : ◌≡◌ {A = TreeEntry} (record { path = path.0; len = len.0; root = root.0 }) entry = cc in
    subst (IsEntry name named file.path) made (record {
      at = sym test.1;
      path = (path_decides path.0).0 (ap is_path (sym test.1) ∙ test.0);
      root = root_is len.0 file.found root.0 root.1;
    })

-- the entries of these ways
abbrev AreEntries : List ℕ → Bool → List (List (List ℕ)) → List TreeEntry → Type 0
AreEntries name named [] [] = Unit {0}
AreEntries name named [] (entry ∷ entries) = ⊥
AreEntries name named (way ∷ rest) [] = ⊥
AreEntries name named (way ∷ rest) (entry ∷ entries) = IsEntry name named way entry × AreEntries name named rest entries

entries_are : (number : ℕ) (name : List ℕ) (named : Bool) (files : List TreeFile) (entries : List TreeEntry)
    → entries_from number name named files ≡ Ok entries → AreEntries name named (ways files) entries
entries_are number name named [] entries is =
    let none : [] ≡ entries = cc in subst (AreEntries name named []) none tt
entries_are number name named (file ∷ files) entries is =
    let first = bind_ok (entry_in number name named file) _ entries is in
    let rest = bind_ok (entries_from (number + 1) name named files) _ entries first.2 in
    let made : first.0 ∷ rest.0 ≡ entries = cc in
    subst (AreEntries name named (ways (file ∷ files))) made
    (entry_is number name named file first.0 first.1, entries_are (number + 1) name named files rest.0 rest.1)

-- ---- the files with their layers

none_of_none : (piece_len : ℕ) → 1 ≤ piece_len → pieces_of 0 piece_len ≡ 0
none_of_none piece_len some = elim (cases_lt 0 (pieces_of 0 piece_len)) [
  | inl more ↦
      absurd (
      let step : 1 * piece_len ≤ pieces_of 0 piece_len * piece_len = mul-le-mul_right piece_len more in
      let top = (div_ceil_times 0 piece_len some).1 in
      omega (arith, step, top))
  | inr none ↦ omega (arith, none)
]

one_of_short : (len piece_len : ℕ) → 1 ≤ piece_len → 0 < len → len ≤ piece_len → pieces_of len piece_len ≡ 1
one_of_short len piece_len some more short =
    let covers = (div_ceil_times len piece_len some).0 in
    let top = (div_ceil_times len piece_len some).1 in
    let low : 1 ≤ pieces_of len piece_len = elim (cases_lt 0 (pieces_of len piece_len)) [
      | inl above ↦ above
      | inr under ↦
          absurd (
          let none : pieces_of len piece_len ≡ 0 = omega (arith, under) in
          let empty : pieces_of len piece_len * piece_len ≡ 0 * piece_len = ap (λ (n : ℕ). n * piece_len) none in
          omega (arith, covers, empty, more))
    ] in
    let high : pieces_of len piece_len ≤ 1 = elim (cases_lt 1 (pieces_of len piece_len)) [
      | inl above ↦
          absurd (
          let step : 2 * piece_len ≤ pieces_of len piece_len * piece_len = mul-le-mul_right piece_len above in
          omega (arith, step, top, short))
      | inr under ↦ under
    ] in
    omega (arith, low, high)

-- what rule 6 leaves of an entry
record IsLayered (piece_len : ℕ) (entry : TreeEntry) (layer : List (List ℕ)) : Type 0 where
  pub count : length layer ≡ pieces_of entry.len piece_len
  pub hashes : All IsHash layer
  pub short : 0 < entry.len → entry.len ≤ piece_len → layer ≡ entry.root ∷ []
  pub long : piece_len < entry.len → layer_root layer piece_len ≡ entry.root

long_is : (number piece_len : ℕ) (entry : TreeEntry) (text : List ℕ) (layer : List (List ℕ)) → piece_len < entry.len
    → long_layer number piece_len entry text ≡ Ok layer → IsLayered piece_len entry layer
unfolding long_layer root_fits
long_is number piece_len entry text layer longer is =
    let test = chosen (eqb (length text) (32 * pieces_of entry.len piece_len)) _ layer _ is in
    let has = passed (bytes_eq (layer_root (hashes_in text) piece_len) entry.root) (hashes_in text) layer _ test.1 in
    let long = eqb-true (length text) (32 * pieces_of entry.len piece_len) test.0 in
    subst (IsLayered piece_len entry) has.1 (record {
      count = hashes_count text (pieces_of entry.len piece_len) long;
      hashes = hashes_are text (pieces_of entry.len piece_len) long;
      short = λ some few. absurd (omega (arith, few, longer));
      long = λ _. (bytes_eq-Decides (layer_root (hashes_in text) piece_len) entry.root).0 has.0;
    })

short_is : (piece_len : ℕ) (entry : TreeEntry) → 1 ≤ piece_len → IsHash entry.root → entry.len ≤ piece_len
    → IsLayered piece_len entry (short_layer entry)
short_is piece_len entry some root few = by entry.len refl
  where
    by : (len : ℕ) → entry.len ≡ len → IsLayered piece_len entry (short_layer entry)
    by zero is =
        let none : short_layer entry ≡ [] = ap (λ (n : ℕ). cond (eqb n 0) [] (entry.root ∷ [])) is in
        subst (IsLayered piece_len entry) (sym none) (record {
          count = sym (ap (λ (n : ℕ). pieces_of n piece_len) is ∙ none_of_none piece_len some);
          hashes = All-nil IsHash;
          short = λ more _. absurd (omega (arith, more, is));
          long = λ longer. absurd (omega (arith, longer, few));
        })
    by (suc n) is =
        let one : short_layer entry ≡ entry.root ∷ [] =
        cond-false (eqb entry.len 0) [] (entry.root ∷ []) (ne_eqb entry.len 0 (λ e. omega (arith, is, e))) in
        subst (IsLayered piece_len entry) (sym one) (record {
          count = sym (one_of_short entry.len piece_len some (omega (arith, is)) few);
          hashes = All-cons IsHash entry.root [] root (All-nil IsHash);
          short = λ _ _. refl;
          long = λ longer. absurd (omega (arith, longer, few));
        })

layer_is : (number piece_len : ℕ) (layers : List (List ℕ × Placed)) (entry : TreeEntry) (layer : List (List ℕ))
    → 1 ≤ piece_len → IsHash entry.root → layer_in number piece_len layers entry ≡ Ok layer
    → IsLayered piece_len entry layer
unfolding layer_in
layer_is number piece_len layers entry layer some root is = elim (cases_lt piece_len entry.len) [
  | inl longer ↦
      let test : is_longer piece_len entry ≡ true = lt-ltb piece_len entry.len longer in
      let text = unwrap_or (layer_text layers entry.root) [] in
      long_is number piece_len entry text layer longer
      (sym (ap (λ (b : Bool). cond b (long_layer number piece_len entry text) (Ok (short_layer entry))) test) ∙ is)
  | inr few ↦
      let test : is_longer piece_len entry ≡ false = le-ltb piece_len entry.len few in
      let text = unwrap_or (layer_text layers entry.root) [] in
      let short : ◌≡◌ {A = Result (List (List ℕ)) V2Err} (Ok (short_layer entry)) (Ok layer)
      = sym (ap (λ (b : Bool). cond b (long_layer number piece_len entry text) (Ok (short_layer entry))) test) ∙ is in
      subst (IsLayered piece_len entry) (same_Ok short) (short_is piece_len entry some root few)
]

-- a file of an entry
record IsFileOf (piece_len : ℕ) (entry : TreeEntry) (file : FileV2) : Type 0 where
  pub path : file.path ≡ entry.path
  pub len : file.len ≡ entry.len
  pub sound : IsPath entry.path → IsFileV2 piece_len file

file_is : (number piece_len : ℕ) (layers : List (List ℕ × Placed)) (entry : TreeEntry) (file : FileV2) → 1 ≤ piece_len
    → IsHash entry.root → file_in number piece_len layers entry ≡ Ok file → IsFileOf piece_len entry file
unfolding file_in
file_is number piece_len layers entry file some root is =
    let layer = bind_ok (layer_in number piece_len layers entry) _ file is in
    let made : ◌≡◌ {A = FileV2} (record { path = entry.path; len = entry.len; root = entry.root; layer = layer.0 }) file
    = cc in
    let has = layer_is number piece_len layers entry layer.0 some root layer.1 in
    subst (IsFileOf piece_len entry) made (record {
      path = refl;
      len = refl;
      sound = λ path. record {
        path = path;
        root = root;
        count = has.count;
        hashes = has.hashes;
        short = has.short;
        long = has.long;
      };
    })

-- what is left of the ways
record AreFiles (piece_len : ℕ) (paths : List (List (List ℕ))) (entries : List TreeEntry) (files : List FileV2) : Type 0 where
  pub at : map (λ (file : FileV2). file.path) files ≡ paths
  pub sound : All (IsFileV2 piece_len) files
  pub pieces : all_pieces piece_len files ≡ entry_pieces piece_len entries
  pub bytes : all_bytes files ≡ entry_bytes entries

files_are : (number piece_len : ℕ) (layers : List (List ℕ × Placed)) (name : List ℕ) (named : Bool)
    (tree : List (List (List ℕ))) (entries : List TreeEntry) (files : List FileV2) → 1 ≤ piece_len
    → AreEntries name named tree entries → files_from number piece_len layers entries ≡ Ok files
    → AreFiles piece_len (map (payload_path name named) tree) entries files
files_are number piece_len layers name named [] [] files some are is =
    let none : [] ≡ files = cc in
    subst (AreFiles piece_len [] []) none
    (record { at = refl; sound = All-nil (IsFileV2 piece_len); pieces = refl; bytes = refl })
files_are number piece_len layers name named [] (entry ∷ entries) files some are is = absurd are
files_are number piece_len layers name named (way ∷ tree) [] files some are is = absurd are
files_are number piece_len layers name named (way ∷ tree) (entry ∷ entries) files some are is =
    let first = bind_ok (file_in number piece_len layers entry) _ files is in
    let rest = bind_ok (files_from (number + 1) piece_len layers entries) _ files first.2 in
    let made : first.0 ∷ rest.0 ≡ files = cc in
    let file = file_is number piece_len layers entry first.0 some are.0.root first.1 in
    let more = files_are (number + 1) piece_len layers name named tree entries rest.0 some are.1 rest.1 in
    let pieces_from = λ (f : FileV2). pieces_of f.len piece_len in
    let pieces_in = λ (e : TreeEntry). pieces_of e.len piece_len in
    subst (AreFiles piece_len (map (payload_path name named) (way ∷ tree)) (entry ∷ entries)) made (record {
      at = λ i. (file.path ∙ are.0.at) i ∷ more.at i;
      sound = All-cons (IsFileV2 piece_len) first.0 rest.0 (file.sound are.0.path) more.sound;
      pieces =
          sum_by-cons pieces_from first.0 rest.0
          ∙ (λ i. pieces_of (file.len i) piece_len + more.pieces i)
          ∙ sym (sum_by-cons pieces_in entry entries);
      bytes =
          sum_by-cons (λ (f : FileV2). f.len) first.0 rest.0
          ∙ (λ i. file.len i + more.bytes i)
          ∙ sym (sum_by-cons (λ (e : TreeEntry). e.len) entry entries);
    })

-- ---- paths

abbrev Path : Type 0
Path = List (List ℕ)

abbrev AllPaths : List Path → Type 0
AllPaths [] = Unit {0}
AllPaths (p ∷ ps) = IsPath p × AllPaths ps

all_head : (piece_len : ℕ) (file : FileV2) (files : List FileV2) → All (IsFileV2 piece_len) (file ∷ files)
    → IsFileV2 piece_len file
all_head piece_len file files all = all 0 file (omega arith)

all_tail : (piece_len : ℕ) (file : FileV2) (files : List FileV2) → All (IsFileV2 piece_len) (file ∷ files)
    → All (IsFileV2 piece_len) files
all_tail piece_len file files all = λ k d within. all (suc k) d (omega (arith, within))

abbrev file_paths : List FileV2 → List Path
file_paths files = map (λ (file : FileV2). file.path) files

paths_are : (piece_len : ℕ) (files : List FileV2) → All (IsFileV2 piece_len) files → AllPaths (file_paths files)
paths_are piece_len [] all = tt
paths_are piece_len (file ∷ files) all =
    ((all_head piece_len file files all).path, paths_are piece_len files (all_tail piece_len file files all))

-- the path has parts behind the name
abbrev InFolder : List ℕ → Path → Type 0
InFolder name path = (part : List ℕ) × (parts : Path) × (path ≡ name ∷ part ∷ parts)

behind_name : (name : List ℕ) (way : Path) → IsPath (payload_path name false way)
    → InFolder name (payload_path name false way)
behind_name name [] path = absurd (let some = path.some in omega (arith, some))
behind_name name (part ∷ parts) path = (part, parts, refl)

files_in_folder : (name : List ℕ) (tree : List Path) (files : List FileV2)
    → file_paths files ≡ map (payload_path name false) tree → AllPaths (map (payload_path name false) tree)
    → AreInFolder name files
files_in_folder name [] [] at paths = All-nil (λ (file : FileV2). InFolder name file.path)
files_in_folder name [] (file ∷ files) at paths = cc
files_in_folder name (way ∷ tree) [] at paths = cc
files_in_folder name (way ∷ tree) (file ∷ files) at paths =
    let first : file.path ≡ payload_path name false way = cc in
    let rest : file_paths files ≡ map (payload_path name false) tree = cc in
    All-cons (λ (f : FileV2). InFolder name f.path) file files
    (subst (InFolder name) (sym first) (behind_name name way paths.0)) (files_in_folder name tree files rest paths.1)

payload_apart_one : (name : List ℕ) (a b : Path) → IsPath (payload_path name false a) → IsPath (payload_path name false b)
    → (Clash a b → ⊥) → Clash (payload_path name false a) (payload_path name false b) → ⊥
payload_apart_one name [] b first second apart = absurd (let some = first.some in omega (arith, some))
payload_apart_one name (x ∷ a) [] first second apart = absurd (let some = second.some in omega (arith, some))
payload_apart_one name (x ∷ a) (y ∷ b) first second apart = apart_behind name (x ∷ a) (y ∷ b) apart

payload_apart_from : (name : List ℕ) (a : Path) (tree : List Path) → IsPath (payload_path name false a)
    → AllPaths (map (payload_path name false) tree) → ApartFrom a tree
    → ApartFrom (payload_path name false a) (map (payload_path name false) tree)
payload_apart_from name a [] first paths apart = tt
payload_apart_from name a (b ∷ tree) first paths apart =
    (payload_apart_one name a b first paths.0 apart.0, payload_apart_from name a tree first paths.1 apart.1)

payload_apart : (name : List ℕ) (tree : List Path) → AllPaths (map (payload_path name false) tree) → AllApart tree
    → AllApart (map (payload_path name false) tree)
payload_apart name [] paths apart = tt
payload_apart name (a ∷ tree) paths apart =
    (payload_apart_from name a tree paths.0 paths.1 apart.0, payload_apart name tree paths.1 apart.1)

all_from : (file : FileV2) (files : List FileV2) → ApartFrom file.path (file_paths files)
    → All (λ (other : FileV2). Clash file.path other.path → ⊥) files
all_from file [] apart = All-nil (λ (other : FileV2). Clash file.path other.path → ⊥)
all_from file (other ∷ files) apart =
    All-cons (λ (f : FileV2). Clash file.path f.path → ⊥) other files apart.0 (all_from file files apart.1)

none_pairs : PathsAreApart []
none_pairs = λ i j d less below. absurd (omega (arith, below))

files_apart : (files : List FileV2) → AllApart (file_paths files) → PathsAreApart files
files_apart [] apart = none_pairs
files_apart (file ∷ files) apart =
    AllPairs-cons (λ (a b : FileV2). Clash a.path b.path → ⊥) file files (all_from file files apart.0)
    (files_apart files apart.1)

-- the one way is the name
alone_is : (name : List ℕ) (way : Path) → is_alone name way ≡ true → way ≡ name ∷ []
alone_is name [] is = cc
alone_is name (part ∷ []) is = ap (λ (p : List ℕ). p ∷ []) ((bytes_eq-Decides part name).0 is)
alone_is name (part ∷ other ∷ parts) is = cc

lone_is : (name : List ℕ) (tree : List TreeFile) → is_lone_file name tree ≡ true → ways tree ≡ (name ∷ []) ∷ []
lone_is name [] is = cc
lone_is name (file ∷ []) is = ap (λ (p : Path). p ∷ []) (alone_is name file.path is)
lone_is name (file ∷ other ∷ files) is = cc

-- what holds of the paths
record HavePlaces (name : List ℕ) (files : List FileV2) : Type 0 where
  pub paths : IsNamedFile name files ⊎ AreInFolder name files
  pub apart : PathsAreApart files

one_named : (name : List ℕ) (files : List FileV2) → file_paths files ≡ (name ∷ []) ∷ [] → HavePlaces name files
one_named name [] is = cc
one_named name (file ∷ []) is =
    let at : file.path ≡ name ∷ [] = cc in
    record { paths = inl (file, refl, at); apart = files_apart (file ∷ []) (tt, tt) }
one_named name (file ∷ other ∷ files) is = cc

places_by : (name : List ℕ) (named : Bool) (tree : List TreeFile) (piece_len : ℕ) (files : List FileV2)
    → is_lone_file name tree ≡ named → AllApart (ways tree) → All (IsFileV2 piece_len) files
    → file_paths files ≡ map (payload_path name named) (ways tree) → HavePlaces name files
places_by name true tree piece_len files is apart all at =
    one_named name files (at ∙ ap (map (payload_path name true)) (lone_is name tree is))
places_by name false tree piece_len files is apart all at =
    let paths = subst AllPaths at (paths_are piece_len files all) in
    record {
      paths = inr (files_in_folder name (ways tree) files at paths);
      apart = files_apart files (subst AllApart (sym at) (payload_apart name (ways tree) paths apart));
    }

-- ---- the whole

file_sound : (bytes : List ℕ) (file : Placed) → length bytes < 2 ^ 32 → file_of bytes ≡ Ok file → IsSound file.value
unfolding file_of
file_sound bytes file fits is = by (reading bytes) refl is
  where
    by : (read : Result Value BenErr) → reading bytes ≡ read → file_read read ≡ Ok file → IsSound file.value
    by (Ok v) read made =
        let same : ◌≡◌ {A = Placed} (record { place = 0; value = v }) file = cc in
        subst (λ (p : Placed). IsSound p.value) same (reading_takes bytes v fits read).is_value.sound
    by (Err e) read made = cc

info_sound : (file info : Placed) → info_in file ≡ Ok info → IsSound file.value → IsSound info.value
unfolding info_in
info_sound file info is sound =
    let found = bind_ok (value_in Info file) _ info is in
    let test = passed (is_dict found.0) found.0 info _ found.2 in
    subst (λ (p : Placed). IsSound p.value) test.1
    (member_sound (key_text Info) file found.0 (given _ (sought Info file) found.0 found.1) sound)

tree_sound : (info : Placed) (tree : List TreeFile) → tree_in info ≡ Ok tree → IsSound info.value → AllApart (ways tree)
unfolding tree_in
tree_sound info tree is sound =
    let found = bind_ok (value_in FileTree info) _ tree is in
    tree_apart found.0 tree (member_sound (key_text FileTree) info found.0 (given _ (sought FileTree info) found.0 found.1) sound)
    (given _ (files_of_tree found.0) tree found.2)

-- both limits
limits_are : (piece_len : ℕ) (entries : List TreeEntry) (u : Unit {0}) → limits_fit piece_len entries ≡ Ok u
    → (entry_pieces piece_len entries ≤ 1048576) × (entry_bytes entries ≤ 4398046511104)
unfolding limits_fit
limits_are piece_len entries u is =
    let test = passed (leb (entry_pieces piece_len entries) 1048576 && leb (entry_bytes entries) 4398046511104) tt u _ is in
    let parts = and_parts (leb (entry_pieces piece_len entries) 1048576) (leb (entry_bytes entries) 4398046511104) test.0 in
    (leb-true (entry_pieces piece_len entries) 1048576 parts.0, leb-true (entry_bytes entries) 4398046511104 parts.1)

some_len : (piece_len : ℕ) → IsPieceLen piece_len → 1 ≤ piece_len
some_len piece_len len = let least = len.least in omega (arith, least)

pub sound : (bytes : List ℕ) (meta : MetaV2) → length bytes < 2 ^ 32 → meta_v2_of bytes ≡ Ok meta → IsSoundV2 meta
unfolding meta_v2_of
sound bytes meta fits is =
    let file = bind_ok (file_of bytes) _ meta is in
    let info = bind_ok (info_in file.0) _ meta file.2 in
    let version = bind_ok (version_in info.0) _ meta info.2 in
    let name = bind_ok (name_in info.0) _ meta version.2 in
    let piece_len = bind_ok (piece_len_in info.0) _ meta name.2 in
    let tree = bind_ok (tree_in info.0) _ meta piece_len.2 in
    let entries = bind_ok (entries_of name.0 tree.0) _ meta tree.2 in
    let fit = bind_ok (limits_fit piece_len.0 entries.0) _ meta entries.2 in
    let layers = bind_ok (layers_in piece_len.0 entries.0 file.0) _ meta fit.2 in
    let files = bind_ok (files_from 0 piece_len.0 layers.0 entries.0) _ meta layers.2 in
    let len = piece_len_is info.0 piece_len.0 piece_len.1 in
    let some = some_len piece_len.0 len in
    let are = entries_are 0 name.0 (is_lone_file name.0 tree.0) tree.0 entries.0 entries.1 in
    let have = files_are 0 piece_len.0 layers.0 name.0 (is_lone_file name.0 tree.0) (ways tree.0) entries.0 files.0 some are files.1 in
    let limits = limits_are piece_len.0 entries.0 fit.0 fit.1 in
    let apart = tree_sound info.0 tree.0 tree.1 (info_sound file.0 info.0 info.1 (file_sound bytes file.0 fits file.1)) in
    let places = places_by name.0 (is_lone_file name.0 tree.0) tree.0 piece_len.0 files.0 refl apart have.sound have.at in
    subst IsSoundV2 (same_Ok files.2) (record {
      name = (part_decides name.0).0 (name_is info.0 name.0 name.1);
      piece_len = len;
      files = have.sound;
      paths = places.paths;
      apart = places.apart;
      few = subst (λ (n : ℕ). n ≤ 1048576) (sym have.pieces) limits.0;
      bounded = subst (λ (n : ℕ). n ≤ 4398046511104) (sym have.bytes) limits.1;
      info_hash = length-sha256 _;
    })

pub given_sound : (bytes : List ℕ) (result : Result MetaV2 V2Err) → length bytes < 2 ^ 32
    → Gives (λ (meta : MetaV2). meta) refusal_of result (meta_v2_of bytes) → IfOk result IsSoundV2
given_sound bytes (Ok meta) fits given = sound bytes meta fits given
given_sound bytes (Err e) fits given = tt
