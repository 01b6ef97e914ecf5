-- Names on a disk of the files of a payload, and of their folders. A name is a path with `/` between its parts, behind
-- the folder that the payload lies in.
use Rattle.std.specs.Prelude.{◌≡◌, ◌≢◌, ◌⊎◌, ℕ, ◌-◌, List, [], ◌∷◌, ◌++◌, length, map, take, Option, Some, None, Bool, nat_lt, if◌then◌else◌, slice_get, IfSome, IsSomeAnd, All, Contains}
use Rattle.std.specs.List.{join_with_byte}
use Rattle.std.specs.Str.{bytes_eq}
use Rattle.span_map.specs.Layout.{IsLayout}
use Rattle.span_map.specs.declared.files.FileLen.{FileLen}
use Rattle.payload_files.specs.declared.names.TheConstants.{DOT, SLASH}

-- whether this is the folder in which the program runs: `.`
abbrev pub is_here : List ℕ → Bool
is_here dir = bytes_eq dir (DOT ∷ [])

-- what stands before each name of a file in this folder
abbrev pub root_of : List ℕ → List ℕ
root_of dir = if is_here dir then [] else (dir ++ SLASH ∷ [])

-- the parts of a path with `/` between them
abbrev pub path_text : List (List ℕ) → List ℕ
path_text path = join_with_byte SLASH path

-- the name of a path in a folder
abbrev pub name_of : List ℕ → List (List ℕ) → List ℕ
name_of dir path = root_of dir ++ path_text path

-- The folder of a path: the name of all its parts but the last, where there are more than one, and otherwise the
-- folder itself, unless it is the one in which the program runs.
abbrev pub folder_of : List ℕ → List (List ℕ) → Option (List ℕ)
folder_of dir path =
    if nat_lt 1 (length path) then Some (name_of dir (take (length path - 1) path)) else if is_here dir then None else Some dir

-- no file has this name
abbrev pub IsOther : List ℕ → List FileLen → List ℕ → Type 0
IsOther dir files name = All (λ file. name_of dir file.path ≢ name) files

-- each file's folder is among these
abbrev pub HasFolders : List ℕ → List FileLen → List (List ℕ) → Type 0
HasFolders dir files folders = All (λ file. IfSome (folder_of dir file.path) (Contains folders)) files

-- it is the folder of one of the files
abbrev pub IsFolderOf : List ℕ → List FileLen → List ℕ → Type 0
IsFolderOf dir files folder = Contains (map (λ file. folder_of dir file.path) files) (Some folder)

-- this folder came to those before, or none
abbrev pub MakesAtMost : Option (List ℕ) → (old new : List (List ℕ)) → Type 0
MakesAtMost folder old new = (new ≡ old) ⊎ IsSomeAnd folder (λ name. new ≡ name ∷ old)

-- folders of these files came to those before, and no other
pub record MakesFoldersOf (dir : List ℕ) (files : List FileLen) (old new : List (List ℕ)) : Type 0 where
  pub made : List (List ℕ)
  pub is : new ≡ made ++ old
  pub named : All (IsFolderOf dir files) made

-- what was among them before is among them still
abbrev pub KeepsFolders : List (List ℕ) → List (List ℕ) → Type 0
KeepsFolders old new = (folder : List ℕ) → Contains old folder → Contains new folder

-- two files of a layout have different names
abbrev pub NamesDiffer : Type 0
NamesDiffer =
    (dir : List ℕ) (files : List FileLen) (i j : ℕ) (a b : FileLen) → IsLayout files → i ≢ j
    → slice_get files i ≡ Some a → slice_get files j ≡ Some b → name_of dir a.path ≢ name_of dir b.path
