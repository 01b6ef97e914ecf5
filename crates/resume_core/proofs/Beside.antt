-- A control file is put beside those files of the payload that stand.
use Rattle.std.proofs.Common.{◌≡◌, ◌≢◌, ◌+◌, ◌<◌, ◌∙◌, ℕ, inl, inr, ⊎_elim, List, length, get_or, slice_get, Option, None, Some, sym, subst, refl, arith}
use Rattle.std.specs.Prelude.{IsSome}
use Rattle.std.proofs.lemmas.Bool.{cases_lt}
use Rattle.std.proofs.lemmas.List.{get_or_past}
use Rattle.std.proofs.lemmas.Option.{get_or_from_slice_get, slice_get_within}
use Rattle.dl_disk.specs.Files.{Files, IsSame}
use Rattle.dl_disk.specs.Passes.{Performs, image_before, passes_on, performs_none, performs_wider}
use Rattle.dl_disk.specs.State.{DiskState}
use Rattle.payload_files.specs.Names.{IsOther, name_of}
use Rattle.span_map.specs.declared.files.FileLen.{FileLen}
use Rattle.control_file.specs.Wants.{IsWant}
use Rattle.control_file.specs.declared.want.Want.{Want}
use Rattle.resume_core.specs.States.{LastsWhereStood}
use Rattle.resume_core.specs.Steps.{HasStanding, PutsBeside, PutsOrKeeps}
use Rattle.resume_core.specs.Wants.{control_name, temporary_name}
use Rattle.resume_core.proofs.Apart.{control_other, temporary_other}

none_stands : {P : Type 0} → IsSome {T = ℕ} None → P
none_stands some = absurd cc

module _ (want : Want) (lens : List (Option ℕ)) where
  -- what lasts lasts behind a call that changes nothing
  lasts_on : (k : ℕ) (a b : DiskState) → Performs IsSame a b → LastsWhereStood want lens k a → LastsWhereStood want lens k b
  lasts_on k a b same lasts file at stood image left =
      let name = name_of want.dir file.path in
      let from = image_before IsSame a b same.passes image left in
      from.2 name ∙ lasts file at stood from.0 from.1 ∙ sym (same.seen name)

  -- one file more
  pub lasts_more : (n : ℕ) (a b : DiskState) → Performs IsSame a b
      → ((k : ℕ) → k < n → LastsWhereStood want lens k a) → LastsWhereStood want lens n b
      → (k : ℕ) → k < n + 1 → LastsWhereStood want lens k b
  lasts_more n a b same before here k below = ⊎_elim
      (λ (early : k < n). lasts_on k a b same (before k early))
      (λ late. let is : n ≡ k = omega (arith, below, late) in
      subst (λ (i : ℕ). LastsWhereStood want lens i b) is here)
      (cases_lt k n)

  -- nothing changed
  pub beside_same : (a b : DiskState) → Performs IsSame a b → Performs (PutsBeside want lens a.seen) a b
  beside_same a b = performs_wider IsSame (PutsBeside want lens a.seen) a b (λ x y same. inl (same (control_name want)))

  pub beside_none : (a : DiskState) → Performs (PutsBeside want lens a.seen) a a
  beside_none a = performs_none (PutsBeside want lens a.seen) a (λ files. inl refl)

  at_other : (name : List ℕ) → IsOther want.dir want.layout name → (k : ℕ) (file : FileLen)
      → slice_get want.layout k ≡ Some file → name_of want.dir file.path ≢ name
  at_other name other k file at =
      subst (λ (f : FileLen). name_of want.dir f.path ≢ name) (get_or_from_slice_get want.layout k file file at)
      (other k file (slice_get_within want.layout k file at))

  -- the control file is put beside files that last
  module _ (is : IsWant want) (bytes : List ℕ) (a b c : DiskState) (synced : Performs IsSame a b)
      (lasts : (k : ℕ) → k < length lens → LastsWhereStood want lens k b)
      (puts : Performs (PutsOrKeeps (temporary_name want) (control_name want) bytes) b c) where
    stood_within : (k : ℕ) → IsSome (get_or lens k None) → k < length lens
    stood_within k stood = elim (cases_lt k (length lens)) [
      | inl below ↦ below
      | inr past ↦ none_stands (subst (λ (o : Option ℕ). IsSome o) (get_or_past lens k None past) stood)
    ]

    puts_step : (seen x y z : Files) → HasStanding want lens seen y → IsSame x y
        → PutsOrKeeps (temporary_name want) (control_name want) bytes y z → PutsBeside want lens seen x z
    puts_step seen x y z standing same put = ⊎_elim
        (λ keeps. inl (keeps ∙ same (control_name want)))
        (λ there. inr (λ k file at stood.
        put.others (name_of want.dir file.path) (at_other (temporary_name want) (temporary_other want is) k file at)
        (at_other (control_name want) (control_other want is) k file at)
        ∙ standing k file at stood))
        put.file

    standing : (image : Files) → b.may_leave image → HasStanding want lens a.seen image
    standing image left k file at stood =
        lasts k (stood_within k stood) file at stood image left ∙ synced.seen (name_of want.dir file.path)

    pub performs_beside : Performs (PutsBeside want lens a.seen) a c
    performs_beside = record {
      seen = puts_step a.seen a.seen b.seen c.seen (λ k file at stood. synced.seen (name_of want.dir file.path)) synced.seen
          puts.seen;
      passes = passes_on IsSame (PutsOrKeeps (temporary_name want) (control_name want) bytes) (PutsBeside want lens a.seen)
          a b c
          (λ x y same. inl (same (control_name want)))
          (λ x y z left one two. puts_step a.seen x y z (standing y left) one two)
          synced.passes puts.passes;
      reads = λ name. puts.reads name ∙ synced.reads name;
    }
