-- What a crash leaves is one of the images.
use Rattle.std.proofs.Common.{◌≡◌, ◌≢◌, ◌∙◌, ◌⊎◌, ⊎_elim, ap, sym, subst, ℕ, ◌-◌, length-append, Bool, true, false, cond, ◌&&◌, ◌||◌, not, ◌==◌, IsTrue, List, [], ◌∷◌, ◌++◌, length, take, Option, None, Some, is_some, get_or, refl, inl, inr, arith, slice_get}
use Rattle.std.proofs.Math.Seq.{take-append_seam}
use Rattle.std.proofs.lemmas.List.{append-nil, append_assoc, reverse-append, get_or-append_right}
use Rattle.std.proofs.lemmas.Option.{slice_get-get_or}
use Rattle.std.proofs.Math.Bool.{or-true, and-false}
use Rattle.std.specs.Str.{bytes_eq}
use Rattle.dl_disk.specs.Crash.{lasts_by, flooded, chosen, remains_by, read_after, choice_of, choices_after, crashed}
use Rattle.dl_disk.specs.Edit.{fits, edited, MayEdit}
use Rattle.dl_disk.specs.Files.{Files, file_bytes, IsSame, MayMake, Changes, Moved, Removes, MayBe}
use Rattle.dl_disk.specs.Record.{can_do, changed, moved, reading_after, LeavesTried, Leaves, IsImageAfter, WerePossible}
use Rattle.dl_disk.specs.Tears.{may_edit, may_leave}
use Rattle.dl_disk.specs.declared.edits.Edit.{Edit}
use Rattle.dl_disk.specs.declared.record.Action.{Action}
use Rattle.dl_disk.specs.declared.record.Action.TheVariants.{Look, Read, Change, Sync, MakeDir, Replace, Remove}
use Rattle.dl_disk.specs.declared.record.Call.{Call}
use Rattle.dl_disk.proofs.Names.{bytes_eq-same, bytes_eq-other, by_name}
use Rattle.dl_disk.proofs.NotedCalls.{is_moved}
use Rattle.dl_disk.proofs.RecordLemmas.{changed_same, can_do_same, reading_more}
use Rattle.dl_disk.proofs.Floods.{may_flood}

by_bool : {A : Type 0} (P : A → Type 0) (b : Bool) (x y : A) → P x → P y → P (cond b x y)
by_bool P true x y p q = p
by_bool P false x y p q = q

-- ---- each choice of an edit is one of those that a crash may cut it to

may_choose : (choice : ℕ) (edit : Edit) (file : Option (List ℕ)) → MayMake (MayEdit edit) file (chosen choice edit file)
may_choose choice edit file =
    by_bool (MayMake (MayEdit edit) file) (choice == 0 || not (fits edit)) file (cond (choice == 1) (Some (edited edit (file_bytes file))) (Some (flooded choice edit (file_bytes file))))
    (may_leave edit file)
    (by_bool (MayMake (MayEdit edit) file) (choice == 1) (Some (edited edit (file_bytes file))) (Some (flooded choice edit (file_bytes file)))
    (may_edit edit file) (may_flood choice edit file))

changes_chosen : (choice : ℕ) (name : List ℕ) (edit : Edit) (left : Files) → Changes name (MayMake (MayEdit edit)) left (remains_by choice name (Change edit) left)
changes_chosen choice name edit left = record {
  here = rw (bytes_eq-same name) (may_choose choice edit (left name));
  others = λ other differs. rw (bytes_eq-other name other differs) refl;
}

-- ---- a move or a removal by its choice

may_move_chosen : (choice : ℕ) (name to : List ℕ) (left : Files) → MayBe (Moved name to) left (remains_by choice name (Replace to) left)
may_move_chosen choice name to left = by_case (choice == 0) refl
  where
    by_case : (is : Bool) → (choice == 0) ≡ is → MayBe (Moved name to) left (remains_by choice name (Replace to) left)
    by_case true is = inl (λ other. rw is refl)
    by_case false is = inr (is_moved name to left (remains_by choice name (Replace to) left) (λ other. rw is refl))

removes_file : (name : List ℕ) (left : Files) → Removes name left (remains_by 1 name Remove left)
removes_file name left = record {
  here = rw (bytes_eq-same name) refl;
  others = λ other differs. rw (bytes_eq-other name other differs) refl;
}

may_remove_chosen : (choice : ℕ) (name : List ℕ) (left : Files) → MayBe (Removes name) left (remains_by choice name Remove left)
may_remove_chosen choice name left = by_case (choice == 0) refl
  where
    by_case : (is : Bool) → (choice == 0) ≡ is → MayBe (Removes name) left (remains_by choice name Remove left)
    by_case true is = inl (λ other. rw is refl)
    by_case false is = inr (record {
      here = rw (is, bytes_eq-same name) refl;
      others = λ other differs. rw (is, bytes_eq-other name other differs) refl;
    })

-- a try of a step whose file isn't there is never chosen
tried_chosen : (file : Option (List ℕ)) (step : Files → Files → Type 0) (before : Files → Type 0) (left : Files) (lost : Bool) (choice : ℕ) (by : ℕ → Files)
    → before left → by 0 ≡ left → ((c : ℕ) → MayBe step left (by c)) → LeavesTried file step before (by (cond (is_some file && lost) choice 0))
tried_chosen None step before left lost choice by was none may = subst before (sym none) was
tried_chosen (Some file) step before left lost choice by was none may = (left, was, may (cond lost choice 0))

-- ---- what a crash leaves after one call

-- what lasts by these calls is left as it is read
abbrev pub Keeps : Files → Files → List Call → Type 0
Keeps files left later = (name : List ℕ) → IsTrue (lasts_by name later) → left name ≡ files name

module _ (reading files left : Files) (before : Files → Type 0) (choices : List ℕ) (name : List ℕ) (later : List Call)
    (same : IsSame reading files) (was : before left) where
  abbrev call_of : Action → Bool → Call
  call_of action done = record { name = name; action = action; done = done }

  abbrev left_by : Action → Bool → Files
  left_by action done = remains_by (choice_of files choices (call_of action done) later) name action left

  leaves_chosen : (action : Action) (done : Bool) → Keeps files left (call_of action done ∷ later) → Leaves reading before name action done (left_by action done)
  leaves_chosen Look true keeps = was
  leaves_chosen Look false keeps = was
  leaves_chosen (Read at len) true keeps = was
  leaves_chosen (Read at len) false keeps = was
  leaves_chosen MakeDir true keeps = was
  leaves_chosen MakeDir false keeps = was
  leaves_chosen Sync true keeps = (was, keeps name (rw (bytes_eq-same name) refl) ∙ same name)
  leaves_chosen Sync false keeps = was
  leaves_chosen (Change edit) true keeps = (left, was, changes_chosen (choice_of files choices (call_of (Change edit) true) later) name edit left)
  leaves_chosen (Change edit) false keeps = (left, was, changes_chosen (choice_of files choices (call_of (Change edit) false) later) name edit left)
  leaves_chosen (Replace to) true keeps = (left, was, is_moved name to left (left_by (Replace to) true) (λ other. refl))
  leaves_chosen (Replace to) false keeps = subst (λ (file : Option (List ℕ)). LeavesTried file (Moved name to) before (left_by (Replace to) false)) (same name)
      (tried_chosen (files name) (Moved name to) before left (not (lasts_by name later || lasts_by to later)) (get_or choices 0 0) (λ c. remains_by c name (Replace to) left) was refl (λ c. may_move_chosen c name to left))
  leaves_chosen Remove true keeps = (left, was, removes_file name left)
  leaves_chosen Remove false keeps = subst (λ (file : Option (List ℕ)). LeavesTried file (Removes name) before (left_by Remove false)) (same name)
      (tried_chosen (files name) (Removes name) before left (not (lasts_by name later)) (get_or choices 0 0) (λ c. remains_by c name Remove left) was refl (λ c. may_remove_chosen c name left))

-- ---- what lasts is still left as it is read

agree : (choice : ℕ) (name : List ℕ) (action : Action) (x y : Files) (n : List ℕ) → x name ≡ y name → x n ≡ y n → remains_by choice name action x n ≡ remains_by choice name action y n
agree choice name Look x y n same_name same = same
agree choice name (Read at len) x y n same_name same = same
agree choice name Sync x y n same_name same = same
agree choice name MakeDir x y n same_name same = same
agree choice name (Change edit) x y n same_name same = rw (same_name, same) refl
agree choice name (Replace to) x y n same_name same = rw (same_name, same) refl
agree choice name Remove x y n same_name same = rw same refl

module _ (files left : Files) (choices : List ℕ) (name : List ℕ) (later : List Call) where
  abbrev call_by : Action → Bool → Call
  call_by action done = record { name = name; action = action; done = done }

  abbrev KeepsOn : Action → Bool → Type 0
  KeepsOn action done =
      (n : List ℕ) → IsTrue (lasts_by n later)
      → remains_by (choice_of files choices (call_by action done) later) name action left n ≡ read_after files (call_by action done) n

  abbrev IsKept : Action → Bool → List ℕ → Type 0
  IsKept action done n = remains_by (choice_of files choices (call_by action done) later) name action left n ≡ read_after files (call_by action done) n

  -- a name that is this one, where this one lasts
  here : (at n : List ℕ) (P : List ℕ → Type 0) → at ≡ n → (IsTrue (lasts_by at later) → P at) → IsTrue (lasts_by n later) → P n
  here at n P is kept lasts = subst P is (kept (subst (λ (m : List ℕ). IsTrue (lasts_by m later)) (sym is) lasts))

  edit_kept : (edit : Edit) (done : Bool) → IsTrue (lasts_by name later) → choice_of files choices (call_by (Change edit) done) later ≡ cond done 1 0
  edit_kept edit done lasts = rw lasts refl

  move_kept : (to : List ℕ) → IsTrue (lasts_by name later || lasts_by to later) → choice_of files choices (call_by (Replace to) false) later ≡ 0
  move_kept to lasts = rw (lasts, and-false (is_some (files name))) refl

  removal_kept : IsTrue (lasts_by name later) → choice_of files choices (call_by Remove false) later ≡ 0
  removal_kept lasts = rw (lasts, and-false (is_some (files name))) refl

  edit_here : (edit : Edit) (done : Bool) → left name ≡ files name → IsTrue (lasts_by name later) → IsKept (Change edit) done name
  edit_here edit done same lasts = rw (edit_kept edit done lasts) (agree (cond done 1 0) name (Change edit) left files name same same)

  move_to : (to : List ℕ) → Keeps files left (call_by (Replace to) true ∷ later) → IsTrue (lasts_by to later) → IsKept (Replace to) true to
  move_to to keeps lasts = rw (bytes_eq-same to) (keeps name (rw (bytes_eq-same name) lasts))

  move_from : (to n : List ℕ) → n ≢ to → name ≡ n → IsKept (Replace to) true n
  move_from to n differs is = rw (bytes_eq-other to n differs, is, bytes_eq-same n) refl

  move_beside : (to n : List ℕ) → n ≢ to → n ≢ name → left n ≡ files n → IsKept (Replace to) true n
  move_beside to n not_to not_from same = rw (bytes_eq-other to n not_to, bytes_eq-other name n not_from) same

  undone_beside : (c : ℕ) (to n : List ℕ) → n ≢ to → n ≢ name → remains_by c name (Replace to) left n ≡ left n
  undone_beside c to n not_to not_from = by_bool (λ (file : Option (List ℕ)). file ≡ left n) (c == 0) (left n) (moved left name to n) refl (rw (bytes_eq-other to n not_to, bytes_eq-other name n not_from) refl)

  undone_move : (to n : List ℕ) → (n ≡ name) ⊎ (n ≡ to) → left n ≡ files n → IsTrue (lasts_by n later) → IsKept (Replace to) false n
  undone_move to n is same lasts = rw (move_kept to (⊎_elim (λ at. rw (← at, lasts) refl) (λ at. rw (← at, lasts, or-true (lasts_by name later)) refl) is)) same

  undone_removal : (n : List ℕ) → name ≢ n → left n ≡ files n → (c : ℕ) → remains_by c name Remove left n ≡ files n
  undone_removal n differs same c = by_bool (λ (file : Option (List ℕ)). file ≡ files n) (c == 0) (left n) (cond (bytes_eq name n) None (left n)) same (rw (bytes_eq-other name n (λ is. differs (sym is))) same)

  keeps_on : (action : Action) (done : Bool) → Keeps files left (call_by action done ∷ later) → (n : List ℕ) → IsTrue (lasts_by n later) → IsKept action done n
  keeps_on Look true keeps n lasts = keeps n lasts
  keeps_on Look false keeps n lasts = keeps n lasts
  keeps_on (Read at len) true keeps n lasts = keeps n lasts
  keeps_on (Read at len) false keeps n lasts = keeps n lasts
  keeps_on MakeDir true keeps n lasts = keeps n lasts
  keeps_on MakeDir false keeps n lasts = keeps n lasts
  keeps_on Sync true keeps n lasts = keeps n (rw (lasts, or-true (bytes_eq name n)) refl)
  keeps_on Sync false keeps n lasts = keeps n lasts
  keeps_on (Change edit) true keeps n lasts = by_name name n
      (λ is. here name n (IsKept (Change edit) true) (sym is) (λ here_lasts. edit_here edit true (keeps name here_lasts) here_lasts) lasts)
      (λ differs. rw (bytes_eq-other name n differs) (keeps n lasts))
  keeps_on (Change edit) false keeps n lasts = by_name name n
      (λ is. here name n (IsKept (Change edit) false) (sym is) (λ here_lasts. edit_here edit false (keeps name here_lasts) here_lasts) lasts)
      (λ differs. rw (bytes_eq-other name n differs) (keeps n lasts))
  keeps_on (Replace to) true keeps n lasts = by_name to n
      (λ is. here to n (IsKept (Replace to) true) (sym is) (move_to to keeps) lasts)
      (λ not_to. by_name name n
      (λ is. move_from to n not_to (sym is))
      (λ not_from. move_beside to n not_to not_from (keeps n (rw (bytes_eq-other name n not_from, bytes_eq-other to n not_to) lasts))))
  keeps_on (Replace to) false keeps n lasts = by_name to n
      (λ is. undone_move to n (inr is) (keeps n lasts) lasts)
      (λ not_to. by_name name n
      (λ is. undone_move to n (inl is) (keeps n lasts) lasts)
      (λ not_from. undone_beside (choice_of files choices (call_by (Replace to) false) later) to n not_to not_from ∙ keeps n lasts))
  keeps_on Remove true keeps n lasts = by_name name n
      (λ is. rw (is, bytes_eq-same name) refl)
      (λ differs. rw (bytes_eq-other name n differs) (keeps n (rw (bytes_eq-other name n differs) lasts)))
  keeps_on Remove false keeps n lasts = by_name name n
      (λ is. here name n (IsKept Remove false) (sym is) (λ here_lasts. rw (removal_kept here_lasts) (keeps name here_lasts)) lasts)
      (λ differs. undone_removal n (λ is. differs (sym is)) (keeps n lasts) (choice_of files choices (call_by Remove false) later))

-- ---- what is read after a call that could be done

read_is_changed : (files : Files) (name : List ℕ) (action : Action) → IsTrue (can_do files name action) → IsSame (changed files name action) (remains_by 1 name action files)
read_is_changed files name Look possible other = refl
read_is_changed files name (Read at len) possible other = refl
read_is_changed files name Sync possible other = refl
read_is_changed files name MakeDir possible other = refl
read_is_changed files name (Change edit) possible other = rw possible refl
read_is_changed files name (Replace to) possible other = refl
read_is_changed files name Remove possible other = refl

-- and after one that is dropped
none_remains : (files : Files) (name : List ℕ) (action : Action) → IsSame files (remains_by 0 name action files)
none_remains files name Look other = refl
none_remains files name (Read at len) other = refl
none_remains files name Sync other = refl
none_remains files name MakeDir other = refl
none_remains files name (Change edit) other = by_name name other
    (λ is. rw (is, bytes_eq-same name) refl)
    (λ differs. rw (bytes_eq-other name other differs) refl)
none_remains files name (Replace to) other = refl
none_remains files name Remove other = refl

-- the call between these
slice_get_middle : (before later : List Call) (call : Call) → slice_get (before ++ call ∷ later) (length before) ≡ Some call
slice_get_middle before later call =
    let none : length before - length before ≡ 0 = omega arith in
    slice_get-get_or (before ++ call ∷ later) (length before) call (omega (arith, length-append before (call ∷ later)))
    ∙ ap (λ (found : Call). Some found)
    (get_or-append_right before (call ∷ later) (length before) (length before) call refl (omega arith) ∙ ap (λ (k : ℕ). get_or (call ∷ later) k call) none)

-- ---- all the calls

module _ (start : Files) (calls : List Call) (were : WerePossible start calls) where
  abbrev Splits : List Call → List Call → Type 0
  Splits before later = calls ≡ before ++ later

  next_possible : (before later : List Call) (call : Call) → Splits before (call ∷ later) → IsTrue call.done → IsTrue (can_do (reading_after start before) call.name call.action)
  next_possible before later call split done =
      rw front at (were (length before) call found done)
    where
      front : take (length before) calls ≡ before
      front = rw split (take-append_seam before (call ∷ later))

      found : slice_get calls (length before) ≡ Some call
      found = rw split (slice_get_middle before later call)

  read_on : (before later : List Call) (call : Call) (files : Files) → Splits before (call ∷ later) → IsSame (reading_after start before) files
      → IsSame (reading_after start (before ++ call ∷ [])) (read_after files call)
  read_on before later call files split same other = by_case call.done refl
    where
      by_case : (done : Bool) → call.done ≡ done → read_after files call other ≡ reading_after start (before ++ call ∷ []) other
      by_case true is =
          let possible = can_do_same (reading_after start before) files call.name call.action same ∙ next_possible before later call split is in
          ap (λ (done : Bool). remains_by (cond done 1 0) call.name call.action files other) is
          ∙ read_is_changed files call.name call.action possible other ∙ changed_same (reading_after start before) files call.name call.action same other
          ∙ ap (λ (done : Bool). cond done (changed (reading_after start before) call.name call.action) (reading_after start before) other) (sym is)
          ∙ sym (reading_more start before call other)
      by_case false is =
          ap (λ (done : Bool). remains_by (cond done 1 0) call.name call.action files other) is
          ∙ none_remains files call.name call.action other ∙ same other
          ∙ ap (λ (done : Bool). cond done (changed (reading_after start before) call.name call.action) (reading_after start before) other) (sym is)
          ∙ sym (reading_more start before call other)

  crashed_is_left : (before later : List Call) (files left : Files) (choices : List ℕ) → Splits before later → IsSame (reading_after start before) files
      → IsImageAfter start before left → Keeps files left later → IsImageAfter start calls (crashed files left choices later)
  crashed_is_left before [] files left choices split same is keeps = rw (split, append-nil before) is
  crashed_is_left before (call ∷ later) files left choices split same is keeps =
      crashed_is_left (before ++ call ∷ []) later (read_after files call) (remains_by (choice_of files choices call later) call.name call.action left) (choices_after files choices call later)
      (split ∙ sym (append_assoc before (call ∷ []) later))
      (read_on before later call files split same)
      (rw (reverse-append before (call ∷ [])) (leaves_chosen (reading_after start before) files left (IsImageAfter start before) choices call.name later same is call.action call.done keeps))
      (keeps_on files left choices call.name later call.action call.done keeps)

-- what a crash leaves is one of the images
pub crash_is_image : (start : Files) (calls : List Call) (choices : List ℕ) → WerePossible start calls → IsImageAfter start calls (crashed start start choices calls)
crash_is_image start calls choices were = crashed_is_left start calls were [] calls start start choices refl (λ name. refl) (λ name. refl) (λ name lasts. refl)
