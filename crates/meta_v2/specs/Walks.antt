-- What is left of a walk through a file tree.
use Rattle.std.specs.Prelude.{◌≡◌, ◌<◌, ◌+◌, ℕ, List, [], ◌∷◌, ◌++◌, length, map, sum_by, Option, Some, option_map}
use Rattle.bencode_core.specs.Placed.{members_of}
use Rattle.bencode_core.specs.Value.{spelling}
use Rattle.meta_v2.specs.declared.tree.Branch.{Branch}
use Rattle.meta_v2.specs.Trees.{TreeFile, with_both, files_of_tree}

abbrev pub seen : Branch → TreeFile
seen branch = record { path = map (λ part. part.now) branch.path.items; found = branch.found }

-- a file in_folder a folder that has this path
abbrev pub under : List (List ℕ) → TreeFile → TreeFile
under path leaf = record { path = path ++ leaf.path; found = leaf.found }

-- the files of what stands here, with their whole paths
abbrev pub files_under : TreeFile → Option (List TreeFile)
files_under leaf = option_map (map (under leaf.path)) (files_of_tree leaf.found)

abbrev pub branch_files : Branch → Option (List TreeFile)
branch_files branch = files_under (seen branch)

-- those of one after the other
abbrev pub files_of_all : List TreeFile → Option (List TreeFile)
files_of_all [] = Some []
files_of_all (leaf ∷ leaves) = with_both (files_under leaf) (files_of_all leaves)

-- what stands in a folder
abbrev pub children_of : TreeFile → List TreeFile
children_of folder =
    map (λ m. record { path = folder.path ++ m.0 ∷ []; found = m.1 }) (members_of folder.found)

abbrev pub folder_files : Branch → Option (List TreeFile)
folder_files folder = files_of_all (children_of (seen folder))

-- those of one after the other, the last one first
abbrev pub files_back : List TreeFile → Option (List TreeFile)
files_back [] = Some []
files_back (leaf ∷ leaves) = with_both (files_back leaves) (files_under leaf)

abbrev pub files_left : List Branch → Option (List TreeFile)
files_left rest = files_back (map seen rest)

-- how many bytes spell what is to be walked
abbrev pub size_of : Branch → ℕ
size_of branch = length (spelling branch.found.value)

abbrev pub sizes_of : List Branch → ℕ
sizes_of branches = sum_by size_of branches

-- fewer bytes are to be walked than were before this was opened
abbrev pub IsShortened : Branch → List Branch → List Branch → Type 0
IsShortened opened old new = sizes_of new < size_of opened + sizes_of old

-- the files that were found, and those of what is left, are what they were with those of the branch between them
abbrev pub WalksBranch : Branch → (files rest files' rest' : List Branch) → Type 0
WalksBranch branch files rest files' rest' =
    with_both (Some (map seen files')) (files_left rest')
    ≡ with_both (Some (map seen files)) (with_both (branch_files branch) (files_left rest))
