-- File trees (BEP 52, `file tree`): dictionaries by the parts of paths. A file is a dictionary whose key of length 0 holds
-- a dictionary, and its other keys are passed over.
use Rattle.std.specs.Prelude.{ℕ, ◌+◌, if◌then◌else◌, List, [], ◌∷◌, ◌++◌, length, map, Option, Some, None, option_map, option_and_then}
use Rattle.bencode_core.specs.Placed.{Placed, member_of}
use Rattle.bencode_core.specs.Value.{Value, Members, integer, string, list, dict, no_members, member, spelling, string_spelling}
use Rattle.metainfo.specs.Tests.{is_dict}

-- what stands in a tree behind these parts
pub record TreeFile : Type 0 where
  pub path : List (List ℕ)
  pub found : Placed

-- the same from the folder that has it by this key
abbrev pub in_folder : List ℕ → TreeFile → TreeFile
in_folder key leaf = record { path = key ∷ leaf.path; found = leaf.found }

-- the one and the other, where both are there
abbrev pub with_both : Option (List TreeFile) → Option (List TreeFile) → Option (List TreeFile)
with_both these those = option_and_then (λ front. option_map (λ rest. front ++ rest) those) these

-- the file that the key of length 0 describes, or else those of the folder
abbrev pub file_or : Option (List TreeFile) → Option Placed → Option (List TreeFile)
file_or folder None = folder
file_or folder (Some found) = if is_dict found then Some (record { path = []; found = found } ∷ []) else None

-- The files of a tree in its order, each with the dictionary that describes it, or none where it is no tree.
abbrev mutual
  pub files_at : ℕ → Value → Option (List TreeFile)
  files_at place (integer z) = None
  files_at place (string bytes) = None
  files_at place (list vs) = None
  files_at place (dict ms) =
      file_or (files_among (place + 1) ms) (member_of [] (record { place = place; value = dict ms }))

  pub files_among : ℕ → Members → Option (List TreeFile)
  files_among place no_members = Some []
  files_among place (member key v ms) =
      let behind_key = place + length (string_spelling key) in
      with_both (option_map (map (in_folder key)) (files_at behind_key v)) (files_among (behind_key + length (spelling v)) ms)

-- the files of the tree that stands here
abbrev pub files_of_tree : Placed → Option (List TreeFile)
files_of_tree tree = files_at tree.place tree.value
