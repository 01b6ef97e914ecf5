-- Causes of errors that are handed on.
use Rattle.std.proofs.Common.{◌≡◌, ◌∙◌, ℕ, Some, subst, refl, arith}
use Rattle.std.specs.Prelude.{Result, Ok, Err, IsErrAnd, IfErr}
use Rattle.dl_kinds.specs.Counts.{Rose}
use Rattle.dl_kinds.specs.Causes.{HasCause}
use Rattle.dl_kinds.specs.declared.outside.IoErr.{IoErr}
use Rattle.dl_kinds.specs.declared.outside.IoErr.TheVariants.{Fault, NoMemory as OutOfMemory}
use Rattle.dl_disk.specs.Files.{Files}
use Rattle.control_file.specs.declared.want.Want.{Want}
use Rattle.resume_core.specs.Causes.{HasStoreCause, IsUnopenedBy, IsUnopenedFor, open_err_of, store_err_of}
use Rattle.resume_core.specs.Openings.{HasOpenCause}
use Rattle.resume_core.specs.Refusals.{IsRefusal, RefusesJust, open_refusal}
use Rattle.resume_core.specs.declared.fault.StoreErr.{StoreErr}
use Rattle.resume_core.specs.declared.fault.StoreErr.TheVariants.{Disk, NoMemory}
use Rattle.resume_core.specs.declared.refusing.OpenErr.{OpenErr}

pub store_cause_moved : {T U : Type 0} (start before now : ℕ) (e : StoreErr) (result : Result T StoreErr)
    → HasStoreCause {T = U} before now (Err e) → before ≡ start → IsErrAnd result (λ f. f ≡ e)
    → HasStoreCause {T = T} start now result
store_cause_moved start before now e (Ok x) cause same is = absurd is
store_cause_moved start before now Disk (Err f) cause same is = record {
  later = omega (arith, cause.later, same);
  done = tt;
  disk = λ err. subst (λ (n : ℕ). Rose n now) same (cause.disk refl);
  none = λ err. absurd cc;
}
store_cause_moved start before now NoMemory (Err f) cause same is = record {
  later = omega (arith, cause.later, same);
  done = tt;
  disk = λ err. absurd cc;
  none = λ err. cause.none refl ∙ same;
}

pub disk_cause_moved : {T U : Type 0} (start before now : ℕ) (e : IoErr) (result : Result T OpenErr)
    → HasCause {T = U} before now (Err e) → before ≡ start → IsErrAnd result (IsUnopenedBy e)
    → HasOpenCause {T = T} start now result
disk_cause_moved start before now e (Ok x) cause same is = absurd is
disk_cause_moved start before now Fault (Err f) cause same is = record {
  later = omega (arith, cause.later, same);
  done = tt;
  disk = λ err. subst (λ (n : ℕ). Rose n now) same (cause.fault refl);
  other = λ differs. absurd (differs is);
}
disk_cause_moved start before now OutOfMemory (Err f) cause same is = record {
  later = omega (arith, cause.later, same);
  done = tt;
  disk = λ err. absurd cc;
  other = λ differs. cause.none refl ∙ same;
}

-- errors of the disk and want of memory are no refusals
store_plain : (e : StoreErr) → IsRefusal (open_err_of e) → ⊥
store_plain Disk refusal = refusal.0 refl
store_plain NoMemory refusal = refusal.1 refl

pub plain_store : {T : Type 0} (result : Result T OpenErr) (e : StoreErr) (Q : OpenErr → Type 0)
    → IsErrAnd result (IsUnopenedFor e) → IfErr result (λ err. IsRefusal err → Q err)
plain_store (Ok x) e Q is = absurd is
plain_store (Err f) e Q is = λ refusal. absurd (store_plain e (subst IsRefusal is refusal))

pub plain_disk : {T : Type 0} (result : Result T OpenErr) (e : IoErr) (Q : OpenErr → Type 0)
    → IsErrAnd result (IsUnopenedBy e) → IfErr result (λ err. IsRefusal err → Q err)
plain_disk (Ok x) e Q is = absurd is
plain_disk (Err f) e Q is = λ refusal. absurd (store_plain (store_err_of e) (subst IsRefusal is refusal))

-- the premise comes first
pub told_plain : {T E : Type 0} {Told : Type 0} (result : Result T E) (P Q : E → Type 0)
    → (Told → IfErr result (λ err. P err → Q err)) → IfErr result (λ err. Told → P err → Q err)
told_plain (Ok x) P Q says = tt
told_plain (Err e) P Q says = says

pub refuses_store : {T : Type 0} (want : Want) (seen : Files) (result : Result T OpenErr) (e : StoreErr)
    → IsErrAnd result (IsUnopenedFor e) → RefusesJust want seen result
refuses_store {T = T} want seen (Ok x) e is = absurd is
refuses_store {T = T} want seen (Err f) e is = record {
  opened = tt;
  refused = plain_store {T = T} (Err f) e (λ err. open_refusal want seen ≡ Some err) is;
}

pub refuses_disk : {T : Type 0} (want : Want) (seen : Files) (result : Result T OpenErr) (e : IoErr)
    → IsErrAnd result (IsUnopenedBy e) → RefusesJust want seen result
refuses_disk want seen result e is = refuses_store want seen result (store_err_of e) is
