-- What was looked up of a want stands still where nothing changes.
use Rattle.std.proofs.Common.{◌≡◌, ◌∙◌, ℕ, List, [], ◌∷◌, ◌++◌, length, take, arith, Option, Some, None, sym, subst, refl, ap}
use Rattle.std.specs.Prelude.{option_map, IfErr, Result, Ok, Err}
use Rattle.std.proofs.lemmas.List.{take-append-le, take_all}
use Rattle.std.proofs.lemmas.Option.{same_Some}
use Rattle.dl_disk.specs.Files.{Files, IsSame, ReadsAt}
use Rattle.span_map.specs.declared.files.FileLen.{FileLen}
use Rattle.payload_files.specs.Names.{name_of}
use Rattle.control_file.specs.declared.control.Control.{Control}
use Rattle.control_file.specs.declared.want.Want.{Want}
use Rattle.resume_core.specs.Refusals.{in_the_way, refused_over, control_refusal}
use Rattle.resume_core.specs.declared.refusing.OpenErr.{OpenErr}
use Rattle.resume_core.specs.Lens.{lens_of_files}
use Rattle.resume_core.specs.Rows.{IsSurvey, IsOurControl}
use Rattle.resume_core.specs.Wants.{control_name}
use Rattle.resume_core.specs.declared.surveying.Survey.{Survey}

pub lens_same : (dir : List ℕ) (files : List FileLen) (a b : Files) → IsSame a b
    → lens_of_files dir files a ≡ lens_of_files dir files b
lens_same dir [] a b same = refl
lens_same dir (file ∷ files) a b same = rw (sym (same (name_of dir file.path)), lens_same dir files a b same) refl

pub usable_same : (want : Want) (control : Option Control) (a b : Option (List ℕ)) → b ≡ a → IsOurControl want control a
    → IsOurControl want control b
usable_same want control a b same usable = subst (IsOurControl want control) (sym same) usable

pub survey_same : (want : Want) (survey : Survey) (a b : Files) → IsSame a b → IsSurvey want survey a
    → IsSurvey want survey b
survey_same want survey a b same surveyed = record {
  control = usable_same want survey.control (a (control_name want)) (b (control_name want))
      (same (control_name want)) surveyed.control;
  lens = surveyed.lens ∙ lens_same want.dir want.layout a b same;
}

-- ---- what is refused

module _ (want : Want) (file : Option (List ℕ)) (standing : Option ℕ) where
  pub refused_none : (control : Option Control) → IsOurControl want control file
      → (control ≡ None → in_the_way want standing ≡ None) → refused_over want file standing ≡ None
  refused_none None usable free = ap (λ (f : Option (List ℕ)). refused_over want f standing) usable ∙ free refl
  refused_none (Some control) usable free =
      ap (λ (f : Option (List ℕ)). refused_over want f standing) usable.1 ∙ ap (control_refusal want) usable.2
      ∙ usable.3

  pub refused_some : (control : Option Control) (err : OpenErr) → IsOurControl want control file → control ≡ None
      → in_the_way want standing ≡ Some err → refused_over want file standing ≡ Some err
  refused_some None err usable none refused = ap (λ (f : Option (List ℕ)). refused_over want f standing) usable
      ∙ refused
  refused_some (Some control) err usable none refused = absurd cc

-- ---- a file that is read whole

pub whole_read : (file : Option (List ℕ)) (into rest : List ℕ) (n m : ℕ) → Some m ≡ option_map length file
    → length into ≡ m → n ≡ m → ReadsAt file 0 into → Some (take n (into ++ rest)) ≡ file
whole_read None into rest n m len size all reads = absurd cc
whole_read (Some bytes) into rest n m len size all reads =
    let many : m ≡ length bytes = same_Some m (length bytes) len in
    let is : into ≡ bytes = reads.bytes ∙ take_all (length into) bytes (omega (arith, size, many)) in
    ap (λ (l : List ℕ). Some l) (take-append-le n into rest (omega (arith, size, all)) ∙ take_all n into
    (omega (arith, size, all)) ∙ is)

-- what an error says by two facts
pub err_both : {T E : Type 0} (result : Result T E) (A B C : E → Type 0) → ((e : E) → A e → B e → C e)
    → IfErr result A → IfErr result B → IfErr result C
err_both (Ok x) A B C both a b = a
err_both (Err e) A B C both a b = both e a b
