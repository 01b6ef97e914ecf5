-- The record of calls, with one call more.
use Rattle.std.proofs.Common.{◌≡◌, ◌∙◌, ap, sym, ℕ, ◌+◌, ◌<◌, Bool, true, false, cond, List, [], ◌∷◌, ◌++◌, length, Some, refl, arith, length-append, ⊎_elim, slice_get, count_by, zero-add, IsTrue}
use Rattle.std.proofs.lemmas.List.Sums.{sum_by-append}
use Rattle.std.proofs.lemmas.List.{take-append-le, get_or_append_left, get_or_push, reverse-append, take_all}
use Rattle.std.proofs.lemmas.Option.{slice_get_within, slice_get-get_or}
use Rattle.std.proofs.lemmas.Bool.{cases_lt}
use Rattle.dl_disk.specs.Files.{Files}
use Rattle.dl_disk.specs.Record.{can_do, changed, reading_after, WerePossible}
use Rattle.dl_disk.specs.declared.record.Action.{Action}
use Rattle.dl_disk.specs.declared.record.Action.TheVariants.{Look, Read, Change, Sync, MakeDir, Replace, Remove}
use Rattle.dl_disk.specs.declared.record.Call.{Call}

-- the calls before the last, and the last
slice_get_before : (calls : List Call) (last : Call) (number : ℕ) → number < length calls → slice_get (calls ++ last ∷ []) number ≡ slice_get calls number
slice_get_before calls last number before =
    slice_get-get_or (calls ++ last ∷ []) number last (omega (arith, length-append calls (last ∷ [])))
    ∙ ap (λ (call : Call). Some call) (get_or_append_left calls (last ∷ []) last number before)
    ∙ sym (slice_get-get_or calls number last before)

slice_get_last : (calls : List Call) (last : Call) → slice_get (calls ++ last ∷ []) (length calls) ≡ Some last
slice_get_last calls last =
    slice_get-get_or (calls ++ last ∷ []) (length calls) last (omega (arith, length-append calls (last ∷ [])))
    ∙ ap (λ (call : Call). Some call) (get_or_push calls last last (length calls) refl)

-- a call that was done could be done
pub possible_more : (start : Files) (calls : List Call) (call : Call) → WerePossible start calls
    → (IsTrue call.done → IsTrue (can_do (reading_after start calls) call.name call.action)) → WerePossible start (calls ++ call ∷ [])
possible_more start calls call were possible place other found done =
    let within = slice_get_within (calls ++ call ∷ []) place other found in
    let size = length-append calls (call ∷ []) in
    rw (take-append-le place calls (call ∷ []) (omega (arith, size)))
    (⊎_elim
    (λ before. were place other (sym (slice_get_before calls call place before) ∙ found) done)
    (λ past.
    let last : place ≡ length calls = omega (arith, size) in
    let same : call ≡ other = cc (slice_get_last calls call, ap (slice_get (calls ++ call ∷ [])) last) in
    rw (last, take_all (length calls) calls (omega arith), ← same) (possible (rw same done)))
    (cases_lt place (length calls)))

-- what can be done depends on the files alone
pub can_do_same : (old new : Files) (name : List ℕ) (action : Action) → ((other : List ℕ) → new other ≡ old other) → can_do new name action ≡ can_do old name action
can_do_same old new name Look same = refl
can_do_same old new name (Read at len) same = rw (same name) refl
can_do_same old new name Sync same = refl
can_do_same old new name MakeDir same = refl
can_do_same old new name (Replace to) same = rw (same name) refl
can_do_same old new name Remove same = rw (same name) refl
can_do_same old new name (Change edit) same = refl

-- a call makes the same of the same files
pub changed_same : (old new : Files) (name : List ℕ) (action : Action) → ((other : List ℕ) → new other ≡ old other) → (other : List ℕ) → changed new name action other ≡ changed old name action other
changed_same old new name Look same other = same other
changed_same old new name (Read at len) same other = same other
changed_same old new name Sync same other = same other
changed_same old new name MakeDir same other = same other
changed_same old new name (Replace to) same other = rw (same name, same other) refl
changed_same old new name Remove same other = rw (same other) refl
changed_same old new name (Change edit) same other = rw (same name, same other) refl

-- the files after a call
pub reading_more : (start : Files) (calls : List Call) (call : Call) (other : List ℕ)
    → reading_after start (calls ++ call ∷ []) other ≡ (cond call.done (changed (reading_after start calls) call.name call.action) (reading_after start calls)) other
reading_more start calls call other = rw reverse-append refl

module _ (start : Files) (calls : List Call) (old new : Files) (current : (other : List ℕ) → old other ≡ reading_after start calls other) (name : List ℕ) (action : Action) where
  -- the files that a call changed are those that are read after it
  pub current_done : ((other : List ℕ) → new other ≡ changed old name action other) → (other : List ℕ) → new other ≡ reading_after start (calls ++ record { name = name; action = action; done = true } ∷ []) other
  current_done performed other = performed other ∙ changed_same (reading_after start calls) old name action current other ∙ sym (reading_more start calls (record { name = name; action = action; done = true }) other)

  -- a call that failed leaves them as they were
  pub current_failed : ((other : List ℕ) → new other ≡ old other) → (other : List ℕ) → new other ≡ reading_after start (calls ++ record { name = name; action = action; done = false } ∷ []) other
  current_failed stayed other = stayed other ∙ current other ∙ sym (reading_more start calls (record { name = name; action = action; done = false }) other)

-- a count counts the last where it passes
pub count_by-push : {X : Type 0} (p : X → Bool) (xs : List X) (x : X) → count_by p (xs ++ x ∷ []) ≡ count_by p xs + cond (p x) 1 0
count_by-push {X} p xs x = sum_by-append (λ (x : X). cond (p x) 1 0) xs (x ∷ []) ∙ ap (λ (n : ℕ). count_by p xs + n) (zero-add (cond (p x) 1 0))
