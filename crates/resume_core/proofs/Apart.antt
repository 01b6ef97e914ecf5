-- The control file and the temporary one are no files of the payload.
use Rattle.std.proofs.Common.{◌≡◌, ◌≢◌, ℕ, List, [], ◌∷◌, ◌++◌, length, get_or, drop, refl, sym, ap, ◌∙◌, append_assoc, arith, codes}
use Rattle.std.proofs.lemmas.List.{length-append, drop_at}
use Rattle.payload_files.specs.Names.{root_of, path_text, IsOther}
use Rattle.control_file.specs.declared.want.Want.{Want}
use Rattle.control_file.specs.Wants.{IsWant}
use Rattle.resume_core.specs.Wants.{payload_name, control_name, temporary_name}

cut : (front a b : List ℕ) → front ++ a ≡ front ++ b → a ≡ b
cut front a b same = sym (drop_at front a (length front) refl) ∙ ap (drop (length front)) same
    ∙ drop_at front b (length front) refl

slash_is_no_dot : (a b : List ℕ) → 47 ∷ a ≡ 46 ∷ b → ⊥
slash_is_no_dot a b same = absurd (omega (arith, ap (λ (bytes : List ℕ). get_or bytes 0 0) same))

-- behind the base stands nothing, or a `/`
path_is : (base : List ℕ) (rest : List (List ℕ)) (suffix : List ℕ) → path_text (base ∷ rest) ≢ base ++ 46 ∷ suffix
path_is base [] suffix same = absurd (omega (arith, ap length same, length-append base (46 ∷ suffix)))
path_is base (part ∷ parts) suffix same = slash_is_no_dot _ _ (cut base _ _ same)

-- a name that is the payload's with a suffix that begins with a dot
suffixed : (want : Want) (suffix : List ℕ) → IsWant want
    → IsOther want.dir want.layout ((root_of want.dir ++ want.base) ++ 46 ∷ suffix)
suffixed want suffix is k d within same =
    let behind = is.behind k d within in
    let root = root_of want.dir in
    let path = ap (λ (p : List (List ℕ)). root ++ path_text p) behind.1 in
    path_is want.base behind.0 suffix (cut root _ _ (sym path ∙ same ∙ append_assoc root want.base (46 ∷ suffix)))

pub control_other : (want : Want) → IsWant want → IsOther want.dir want.layout (control_name want)
control_other want is = suffixed want _ is

pub temporary_other : (want : Want) → IsWant want → IsOther want.dir want.layout (temporary_name want)
temporary_other want is = suffixed want _ is

suffixes_differ : (name : List ℕ) → name ++ codes ".aria2__temp" ≢ name ++ codes ".aria2"
suffixes_differ name same = absurd (omega (arith, ap length (cut name (codes ".aria2__temp") (codes ".aria2") same)))

pub temporary_apart : (want : Want) → temporary_name want ≢ control_name want
temporary_apart want = suffixes_differ (payload_name want)
