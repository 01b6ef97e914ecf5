-- Steps of the loops over the files.
use Rattle.std.proofs.Common.{◌≡◌, ℕ, ◌<◌, ◌+◌, Bool, List, [], ◌∷◌, ◌++◌, length, drop, map, get_or, Some, None, Ok, Err, Result, Option, refl, sym, ap, ◌∙◌}
use Rattle.std.specs.Option.{IfSome}
use Rattle.std.proofs.lemmas.List.{append-nil, append_assoc, drop_more}
use Rattle.bencode_core.specs.Placed.{Placed}
use Rattle.meta_v2.specs.Refusals.{◌>>=◌}
use Rattle.meta_v2.specs.Rules.{entries_from, entry_in, file_in, files_from}
use Rattle.meta_v2.specs.Walks.{seen}
use Rattle.meta_v2.specs.declared.entries.TreeEntry.{TreeEntry}
use Rattle.meta_v2.specs.declared.files.FileV2.{FileV2}
use Rattle.meta_v2.specs.declared.refusals.V2Err.{V2Err}
use Rattle.meta_v2.specs.declared.tree.Branch.{Branch}

-- what is read behind these
abbrev pub with_front : {A : Type 0} → List A → Result (List A) V2Err → Result (List A) V2Err
with_front front (Ok xs) = Ok (front ++ xs)
with_front front (Err e) = Err e

-- one and those behind it
abbrev one_and : {A : Type 0} → Result A V2Err → Result (List A) V2Err → Result (List A) V2Err
one_and read rest = read >>= (λ x. rest >>= (λ xs. Ok (x ∷ xs)))

one_more : {A : Type 0} (front : List A) (x : A) (read : Result A V2Err) (rest : Result (List A) V2Err) → read ≡ Ok x
    → with_front (front ++ x ∷ []) rest ≡ with_front front (one_and read rest)
one_more front x (Ok y) (Ok xs) is =
    let same : y ≡ x = cc in
    ap Ok (append_assoc front (x ∷ []) xs) ∙ ap (λ first. Ok (front ++ first ∷ xs)) (sym same)
one_more front x (Ok y) (Err e) is = refl
one_more front x (Err e) rest is = cc

one_failed : {A : Type 0} (front : List A) (e : V2Err) (read : Result A V2Err) (rest : Result (List A) V2Err)
    → read ≡ Err e → with_front front (one_and read rest) ≡ Err e
one_failed front e (Ok x) rest is = cc
one_failed front e (Err d) rest is = cc

-- at the end
pub all_read : {A : Type 0} (front : List A) → with_front front (Ok []) ≡ Ok front
all_read front = ap Ok (append-nil front)

-- ---- the files of the tree

abbrev pub entries_left : ℕ → List ℕ → Bool → List Branch → Result (List TreeEntry) V2Err
entries_left number name named files = entries_from number name named (map seen files)

next_branch : (number : ℕ) (name : List ℕ) (named : Bool) (files : List Branch) (file : Branch) → number < length files
    → file ≡ get_or files number file
    → entries_left number name named (drop number files)
    ≡ one_and (entry_in number name named (seen file)) (entries_left (number + 1) name named (drop (number + 1) files))
next_branch number name named files file within is =
    ap (entries_left number name named)
    (drop_more files number file within ∙ ap (λ (b : Branch). b ∷ drop (number + 1) files) (sym is))

pub entry_more : (front : List TreeEntry) (number : ℕ) (name : List ℕ) (named : Bool) (files : List Branch) (file : Branch)
    (entry : TreeEntry) → number < length files → file ≡ get_or files number file
    → entry_in number name named (seen file) ≡ Ok entry
    → with_front (front ++ entry ∷ []) (entries_left (number + 1) name named (drop (number + 1) files))
    ≡ with_front front (entries_left number name named (drop number files))
entry_more front number name named files file entry within is read =
    one_more front entry (entry_in number name named (seen file))
    (entries_left (number + 1) name named (drop (number + 1) files)) read
    ∙ ap (with_front front) (sym (next_branch number name named files file within is))

pub entry_failed : (front : List TreeEntry) (number : ℕ) (name : List ℕ) (named : Bool) (files : List Branch) (file : Branch)
    (fault : Option V2Err) (all : Result (List TreeEntry) V2Err) → number < length files
    → file ≡ get_or files number file
    → with_front front (entries_left number name named (drop number files)) ≡ all
    → IfSome fault (λ e. entry_in number name named (seen file) ≡ Err e) → IfSome fault (λ e. all ≡ Err e)
entry_failed front number name named files file None all within is so_far failed = failed
entry_failed front number name named files file (Some e) all within is so_far failed =
    sym so_far ∙ ap (with_front front) (next_branch number name named files file within is)
    ∙ one_failed front e (entry_in number name named (seen file))
    (entries_left (number + 1) name named (drop (number + 1) files)) failed

-- ---- the files with their layers

next_entry : (number piece_len : ℕ) (layers : List (List ℕ × Placed)) (entries : List TreeEntry) (entry : TreeEntry)
    → number < length entries → entry ≡ get_or entries number entry
    → files_from number piece_len layers (drop number entries)
    ≡ one_and (file_in number piece_len layers entry) (files_from (number + 1) piece_len layers (drop (number + 1) entries))
next_entry number piece_len layers entries entry within is =
    ap (files_from number piece_len layers)
    (drop_more entries number entry within ∙ ap (λ (x : TreeEntry). x ∷ drop (number + 1) entries) (sym is))

pub file_more : (front : List FileV2) (number piece_len : ℕ) (layers : List (List ℕ × Placed)) (entries : List TreeEntry)
    (entry : TreeEntry) (file : FileV2) → number < length entries → entry ≡ get_or entries number entry
    → file_in number piece_len layers entry ≡ Ok file
    → with_front (front ++ file ∷ []) (files_from (number + 1) piece_len layers (drop (number + 1) entries))
    ≡ with_front front (files_from number piece_len layers (drop number entries))
file_more front number piece_len layers entries entry file within is read =
    one_more front file (file_in number piece_len layers entry)
    (files_from (number + 1) piece_len layers (drop (number + 1) entries)) read
    ∙ ap (with_front front) (sym (next_entry number piece_len layers entries entry within is))

pub file_failed : (front : List FileV2) (number piece_len : ℕ) (layers : List (List ℕ × Placed)) (entries : List TreeEntry)
    (entry : TreeEntry) (fault : Option V2Err) (all : Result (List FileV2) V2Err) → number < length entries
    → entry ≡ get_or entries number entry
    → with_front front (files_from number piece_len layers (drop number entries)) ≡ all
    → IfSome fault (λ e. file_in number piece_len layers entry ≡ Err e) → IfSome fault (λ e. all ≡ Err e)
file_failed front number piece_len layers entries entry None all within is so_far failed = failed
file_failed front number piece_len layers entries entry (Some e) all within is so_far failed =
    sym so_far ∙ ap (with_front front) (next_entry number piece_len layers entries entry within is)
    ∙ one_failed front e (file_in number piece_len layers entry)
    (files_from (number + 1) piece_len layers (drop (number + 1) entries)) failed
