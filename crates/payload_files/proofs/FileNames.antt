-- Names of paths: how they grow, and that they tell their paths.
use Rattle.std.proofs.Common.{◌≡◌, ◌≢◌, ◌∙◌, ap, sym, subst, ℕ, ◌+◌, ◌<◌, false, List, [], ◌∷◌, ◌++◌, length, take, get_or, refl, arith, append_assoc, length-take, ⊎_elim, inl, Some, slice_get}
use Rattle.std.specs.Prelude.{All, Contains, nat_eq}
use Rattle.std.specs.List.{slice_split}
use Rattle.std.proofs.lemmas.Bool.{false_from_ne_true, eqb-true, cases_lt}
use Rattle.std.proofs.lemmas.List.{get_or_default, take_all, take_more, append_cancel_left}
use Rattle.std.proofs.lemmas.List.Elements.{All-head, All-tail}
use Rattle.std.proofs.lemmas.List.Splits.{slice_split_none, slice_split_at}
use Rattle.std.proofs.lemmas.Option.{slice_get_within, get_or_from_slice_get}
use Rattle.span_map.specs.Paths.{IsValidPart, IsPath}
use Rattle.span_map.specs.Layout.{IsLayout}
use Rattle.span_map.specs.declared.files.FileLen.{FileLen}
use Rattle.payload_files.specs.Names.{path_text, root_of, NamesDiffer}

-- ---- one part more

path_text-push : (first : List ℕ) (path : List (List ℕ)) (part : List ℕ) → path_text ((first ∷ path) ++ part ∷ []) ≡ path_text (first ∷ path) ++ 47 ∷ part
path_text-push first [] part = refl
path_text-push first (second ∷ path) part =
    ap (λ (rest : List ℕ). first ++ (47 ∷ rest)) (path_text-push second path part)
    ∙ sym (append_assoc first (47 ∷ path_text (second ∷ path)) (47 ∷ part))

push_part : (path : List (List ℕ)) (part : List ℕ) → 0 < length path → path_text (path ++ part ∷ []) ≡ path_text path ++ 47 ∷ part
push_part [] part some = absurd (omega (arith, some))
push_part (first ∷ path) part some = path_text-push first path part

-- a part behind those before it
pub part_added : (path : List (List ℕ)) (place : ℕ) (part name : List ℕ) → slice_get path place ≡ Some part → 0 < place → name ≡ path_text (take place path)
    → (name ++ 47 ∷ []) ++ part ≡ path_text (take (place + 1) path)
part_added path place part name at_place some is =
    let within = slice_get_within path place part at_place in
    append_assoc name (47 ∷ []) part
    ∙ ap (λ (l : List ℕ). l ++ 47 ∷ part) is
    ∙ sym (push_part (take place path) part (omega (arith, some, within, length-take place path)))
    ∙ ap (λ (last : List ℕ). path_text (take place path ++ last ∷ [])) (sym (get_or_from_slice_get path place part part at_place))
    ∙ ap path_text (sym (take_more path place part within))

-- ---- the path of a name

all_apart : (part : List ℕ) → ¬ Contains part 47 → All (λ byte. nat_eq byte 47 ≡ false) part
all_apart part none k d within =
    false_from_ne_true (nat_eq (get_or part k d) 47) (λ is. none (k, within, get_or_default part k 47 d within ∙ eqb-true (get_or part k d) 47 is))

-- cut at each `/`, the name is the parts of the path
parts_of_name : (first : List ℕ) (path : List (List ℕ)) → All IsValidPart (first ∷ path) → slice_split (λ byte. nat_eq byte 47) (path_text (first ∷ path)) ≡ first ∷ path
parts_of_name first [] valid = slice_split_none (λ byte. nat_eq byte 47) first (all_apart first (All-head IsValidPart first [] valid).no_slash)
parts_of_name first (second ∷ path) valid =
    slice_split_at (λ byte. nat_eq byte 47) first 47 (path_text (second ∷ path)) (all_apart first (All-head IsValidPart first (second ∷ path) valid).no_slash) refl
    ∙ ap (λ (parts : List (List ℕ)). first ∷ parts) (parts_of_name second path (All-tail IsValidPart first (second ∷ path) valid))

name_parts : (path : List (List ℕ)) → IsPath path → slice_split (λ byte. nat_eq byte 47) (path_text path) ≡ path
name_parts [] is = absurd (omega (arith, is.some))
name_parts (first ∷ path) is = parts_of_name first path is.parts

same_path : (a b : List (List ℕ)) → IsPath a → IsPath b → path_text a ≡ path_text b → a ≡ b
same_path a b path_a path_b same = sym (name_parts a path_a) ∙ ap (slice_split (λ byte. nat_eq byte 47)) same ∙ name_parts b path_b

-- ---- the names of a layout's files

path_at : (files : List FileLen) → IsLayout files → (i : ℕ) (file : FileLen) → slice_get files i ≡ Some file → IsPath file.path
path_at files layout i file is = subst (λ (f : FileLen). IsPath f.path) (get_or_from_slice_get files i file file is) (layout.paths.valid i file (slice_get_within files i file is))

apart_at : (files : List FileLen) → IsLayout files → (i j : ℕ) (a b : FileLen) → i < j → slice_get files i ≡ Some a → slice_get files j ≡ Some b → a.path ≢ b.path
apart_at files layout i j a b before at_i at_j same =
    let x = get_or_from_slice_get files i a a at_i in
    let y = get_or_from_slice_get files j b a at_j in
    layout.paths.apart i j a before (slice_get_within files j b at_j)
    (inl (rw (x, y, same) (take_all (length b.path) b.path (omega arith))))

pub names_differ : NamesDiffer
names_differ dir files i j a b layout differ at_i at_j same =
    let paths : a.path ≡ b.path = same_path a.path b.path (path_at files layout i a at_i) (path_at files layout j b at_j) (append_cancel_left (root_of dir) (path_text a.path) (path_text b.path) same) in
    ⊎_elim
    (λ before. apart_at files layout i j a b before at_i at_j paths)
    (λ after. apart_at files layout j i b a (omega (arith, after, differ)) at_j at_i (sym paths))
    (cases_lt i j)
