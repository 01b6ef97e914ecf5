-- Paths of files (BEP 3, `path`): the names of the folders on the way and of the file, in UTF-8.
use Rattle.std.specs.Prelude.{◌≡◌, ◌≢◌, ◌≤◌, ℕ, List, length, take, codes, All, Contains, IsUtf8, ◌⊎◌}
use Rattle.span_map.specs.declared.paths.TheConstants.{MAX_PARTS, MAX_PART_LEN, NUL, SLASH}

-- a name of a folder or a file
pub record IsValidPart (part : List ℕ) : Type 0 where
  pub text : IsUtf8 part
  pub some : 1 ≤ length part
  pub short : length part ≤ MAX_PART_LEN
  pub not_the_folder : part ≢ codes "."
  pub not_the_folder_above : part ≢ codes ".."
  pub no_slash : ¬ Contains part SLASH
  pub no_nul : ¬ Contains part NUL

-- a path of a file
pub record IsPath (path : List (List ℕ)) : Type 0 where
  pub some : 1 ≤ length path
  pub short : length path ≤ MAX_PARTS
  pub parts : All IsValidPart path

-- these are the first elements of the list
abbrev pub Begins : {A : Type 0} → List A → List A → Type 0
Begins front list = take (length front) list ≡ front

-- Not both can be paths of files: they are the same, or one is a folder on the way to the other.
abbrev pub Clash : {A : Type 0} → List A → List A → Type 0
Clash a b = Begins a b ⊎ Begins b a
