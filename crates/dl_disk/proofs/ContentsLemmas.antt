-- The files of a list, one more at a time, and what a changed entry of the map is to the files that it holds.
use Rattle.std.proofs.Common.{◌≡◌, ◌∙◌, ap, sym, subst, ℕ, ◌+◌, ◌<◌, List, [], ◌∷◌, ◌++◌, take, length, get_or, Vec, Bool, true, false, cond, Option, None, Some, nat_cmp, option_map, refl}
use Rattle.std.proofs.lemmas.List.{take_more}
use Rattle.std.proofs.lemmas.Map.Text.{btree_map_updates_text}
use Rattle.std.specs.BTreeMap.{UpdatesBy, get_by_text, is_at, IsClone}
use Rattle.std.specs.List.{AllZip, each_same}
use Rattle.std.specs.Map.{lookup}
use Rattle.std.specs.Vec.{vec_len}
use Rattle.std.specs.Cmp.Lexicographic.{slice_cmp}
use Rattle.std.specs.Option.{option_or}
use Rattle.std.specs.Str.{bytes_eq}
use Rattle.std.specs.Prelude.{String}
use Rattle.std.specs.String.{string_bytes, string_cmp}
use Rattle.std.specs.declared.alloc.Global.{Global}
use Rattle.dl_disk.specs.Contents.{files_listed, files_of}
use Rattle.dl_disk.specs.Edit.{edited}
use Rattle.dl_disk.specs.Files.{Files, IsSame, Puts, file_bytes}
use Rattle.dl_disk.specs.declared.contents.Contents.{Contents}
use Rattle.dl_disk.specs.declared.edits.Edit.{Edit}
use Rattle.dl_disk.proofs.Names.{bytes_eq-same, bytes_eq-other, by_name}

abbrev File : Type 0
File = List ℕ × List ℕ

-- the last file is what its name holds
pub files_listed-push : (files : List File) (file : File) (name : List ℕ) → files_listed (files ++ file ∷ []) name ≡ cond (bytes_eq file.0 name) (Some file.1) (files_listed files name)
files_listed-push [] file name = refl
files_listed-push (first ∷ files) file name =
    ap (λ (later : Option (List ℕ)). option_or later (cond (bytes_eq first.0 name) (Some first.1) None)) (files_listed-push files file name)
    ∙ by_case (bytes_eq file.0 name)
  where
    by_case : (same : Bool) → option_or (cond same (Some file.1) (files_listed files name)) (cond (bytes_eq first.0 name) (Some first.1) None)
        ≡ cond same (Some file.1) (option_or (files_listed files name) (cond (bytes_eq first.0 name) (Some first.1) None))
    by_case true = refl
    by_case false = refl

-- one file more was put
pub contents_more : (files : List File) (i : ℕ) (file : File) (old new : Files) → i < length files → file ≡ get_or files i file → Puts file.0 (Some file.1) old new
    → ((name : List ℕ) → old name ≡ files_listed (take i files) name) → (name : List ℕ) → new name ≡ files_listed (take (i + 1) files) name
contents_more files i file old new within is puts same name =
    rw (take_more files i file within, ← is, files_listed-push (take i files) file name)
    (by_name file.0 name
    (λ equal. rw (equal, bytes_eq-same file.0) puts.here)
    (λ differs. rw (bytes_eq-other file.0 name differs) (puts.others name differs ∙ same name)))

-- the entry of one name has these bytes, and so has the file
pub puts_updated : (old new : Contents) (name : List ℕ) (bytes : Vec ℕ Global) → UpdatesBy string_cmp (λ key. slice_cmp nat_cmp name (string_bytes key)) old.files new.files (Some bytes)
    → Puts name (Some bytes.items) (files_of old) (files_of new)
puts_updated old new name bytes updates = record {
  here = ap (option_map (λ (bytes : Vec ℕ Global). bytes.items)) updates.1;
  others = λ other differs.
      ap (option_map (λ (bytes : Vec ℕ Global). bytes.items)) (btree_map_updates_text name old.files new.files (Some bytes) updates other ∙ rw (bytes_eq-other name other differs));
}

-- the entry is gone, and so is the file
pub puts_removed : (old new : Contents) (name : List ℕ) → UpdatesBy string_cmp (λ key. slice_cmp nat_cmp name (string_bytes key)) old.files new.files None
    → Puts name None (files_of old) (files_of new)
puts_removed old new name updates = record {
  here = ap (option_map (λ (bytes : Vec ℕ Global). bytes.items)) updates.1;
  others = λ other differs.
      ap (option_map (λ (bytes : Vec ℕ Global). bytes.items)) (btree_map_updates_text name old.files new.files None updates other ∙ rw (bytes_eq-other name other differs));
}

-- where the file had these bytes, no file changed
pub puts_same : (name : List ℕ) (file : Option (List ℕ)) (old new : Files) → Puts name file old new → file ≡ old name → (other : List ℕ) → new other ≡ old other
puts_same name file old new puts was other = by_name name other
    (λ same. subst (λ (n : List ℕ). new n ≡ old n) (sym same) (puts.here ∙ was))
    (λ differs. puts.others other differs)

module _ (old new : Contents) (name : List ℕ) (was now : Vec ℕ Global) (found : Some was ≡ get_by_text old.files name)
    (updates : UpdatesBy string_cmp (λ key. slice_cmp nat_cmp name (string_bytes key)) old.files new.files (Some now)) where
  -- the bytes found were edited
  pub puts_edited : (edit : Edit) → now.items ≡ edited edit was.items → Puts name (Some (edited edit (file_bytes (files_of old name)))) (files_of old) (files_of new)
  puts_edited edit after =
      let puts = puts_updated old new name now updates in
      record {
        here = puts.here ∙ ap (λ (bytes : List ℕ). Some bytes) after ∙ ap (λ (file : Option (Vec ℕ Global)). Some (edited edit (file_bytes (option_map (λ bytes. bytes.items) file)))) found;
        others = puts.others;
      }

  -- they stayed as they were
  pub same_kept : now.items ≡ was.items → (other : List ℕ) → files_of new other ≡ files_of old other
  same_kept stays = puts_same name (Some now.items) (files_of old) (files_of new) (puts_updated old new name now updates)
      (ap (λ (bytes : List ℕ). Some bytes) stays ∙ ap (option_map (λ (bytes : Vec ℕ Global). bytes.items)) found)

-- ---- copies

abbrev Entry : Type 0
Entry = String Global × Vec ℕ Global

-- what stands at a name among entries whose names and bytes are the same
same_entries : (name : List ℕ) (xs ys : List Entry) → AllZip (λ (x y : Entry). (string_bytes y.0 ≡ string_bytes x.0) × (AllZip (λ (a b : ℕ). b ≡ a) x.1.items y.1.items × (vec_len y.1 ≡ vec_len x.1))) xs ys
    → option_map (λ (bytes : Vec ℕ Global). bytes.items) (lookup (is_at (λ (key : String Global). slice_cmp nat_cmp name (string_bytes key))) ys)
    ≡ option_map (λ (bytes : Vec ℕ Global). bytes.items) (lookup (is_at (λ (key : String Global). slice_cmp nat_cmp name (string_bytes key))) xs)
same_entries name [] [] zipped = refl
same_entries name [] (y ∷ ys) zipped = absurd zipped
same_entries name (x ∷ xs) [] zipped = absurd zipped
same_entries name (x ∷ xs) (y ∷ ys) zipped =
    let rest = same_entries name xs ys zipped.1 in
    let bytes = each_same x.1.items y.1.items zipped.0.1.0 in
    rw zipped.0.0 (by_case (is_at (λ (key : String Global). slice_cmp nat_cmp name (string_bytes key)) x.0) rest bytes)
  where
    by_case : (here : Bool) → option_map (λ (bytes : Vec ℕ Global). bytes.items) (lookup (is_at (λ (key : String Global). slice_cmp nat_cmp name (string_bytes key))) ys)
        ≡ option_map (λ (bytes : Vec ℕ Global). bytes.items) (lookup (is_at (λ (key : String Global). slice_cmp nat_cmp name (string_bytes key))) xs)
        → y.1.items ≡ x.1.items
        → option_map (λ (bytes : Vec ℕ Global). bytes.items) (cond here (Some y.1) (lookup (is_at (λ (key : String Global). slice_cmp nat_cmp name (string_bytes key))) ys))
        ≡ option_map (λ (bytes : Vec ℕ Global). bytes.items) (cond here (Some x.1) (lookup (is_at (λ (key : String Global). slice_cmp nat_cmp name (string_bytes key))) xs))
    by_case true rest bytes = ap (λ (l : List ℕ). Some l) bytes
    by_case false rest bytes = rest

pub copied : (old new : Contents) → IsClone (λ (s t : String Global). string_bytes t ≡ string_bytes s) (λ (v w : Vec ℕ Global). AllZip (λ (a b : ℕ). b ≡ a) v.items w.items × (vec_len w ≡ vec_len v)) old.files new.files
    → IsSame (files_of old) (files_of new)
copied old new clone name = same_entries name old.files.entries new.files.entries clone
