-- What a crash leaves, call by call.
use Rattle.std.proofs.Common.{◌≡◌, ◌∙◌, ap, sym, ℕ, ◌+◌, ◌<◌, Bool, List, [], ◌∷◌, drop, length, get_or, refl}
use Rattle.std.proofs.lemmas.List.{drop_more}
use Rattle.dl_disk.specs.Crash.{chosen, may_lose, remains_by, as_it_was, read_after, choice_of, choices_after, crashed}
use Rattle.dl_disk.specs.Files.{Files, IsSame, Puts}
use Rattle.dl_disk.specs.declared.edits.Edit.{Edit}
use Rattle.dl_disk.specs.declared.record.Action.{Action}
use Rattle.dl_disk.specs.declared.record.Action.TheVariants.{Look, Read, Change, Sync, MakeDir, Replace, Remove}
use Rattle.dl_disk.specs.declared.record.Call.{Call}
use Rattle.dl_disk.proofs.Names.{bytes_eq-same, bytes_eq-other, by_name}

-- a file that was put stands under its name
pub put_is_left : (choice : ℕ) (name : List ℕ) (edit : Edit) (old new : Files) → Puts name (chosen choice edit (old name)) old new → IsSame (remains_by choice name (Change edit) old) new
put_is_left choice name edit old new puts other = by_name name other
    (λ same. rw (same, bytes_eq-same name) puts.here)
    (λ differs. rw (bytes_eq-other name other differs) (puts.others other differs))

-- ---- the same files leave the same

left_same : (choice : ℕ) (name : List ℕ) (action : Action) (x y : Files) → IsSame x y → IsSame (remains_by choice name action x) (remains_by choice name action y)
left_same choice name Look x y same other = same other
left_same choice name (Read at len) x y same other = same other
left_same choice name Sync x y same other = same other
left_same choice name MakeDir x y same other = same other
left_same choice name (Change edit) x y same other = rw (same name, same other) refl
left_same choice name (Replace to) x y same other = rw (same name, same other) refl
left_same choice name Remove x y same other = rw (same other) refl

pending_same : (f g : Files) (name : List ℕ) (action : Action) (done : Bool) (later : List Call) → IsSame f g → may_lose g name action done later ≡ may_lose f name action done later
pending_same f g name Look done later same = refl
pending_same f g name (Read at len) done later same = refl
pending_same f g name Sync done later same = refl
pending_same f g name MakeDir done later same = refl
pending_same f g name (Change edit) done later same = refl
pending_same f g name (Replace to) done later same = rw (same name) refl
pending_same f g name Remove done later same = rw (same name) refl

pub crashed_same : (f g x y : Files) (choices : List ℕ) (calls : List Call) → IsSame f g → IsSame x y → IsSame (crashed f x choices calls) (crashed g y choices calls)
crashed_same f g x y choices [] same_files same other = same other
crashed_same f g x y choices (call ∷ later) same_files same other =
    rw (pending_same f g call.name call.action call.done later same_files)
    (crashed_same (read_after f call) (read_after g call) (remains_by (choice_of f choices call later) call.name call.action x) (remains_by (choice_of f choices call later) call.name call.action y) (choices_after f choices call later) later
    (left_same (as_it_was call) call.name call.action f g same_files)
    (left_same (choice_of f choices call later) call.name call.action x y same) other)

-- one call more
pub crash_more : (start files new_files left new : Files) (given choices rest : List ℕ) (calls : List Call) (index : ℕ) (call d : Call) (choice : ℕ) → index < length calls → call ≡ get_or calls index d
    → IsSame (crashed start start given calls) (crashed files left choices (drop index calls))
    → choice ≡ choice_of files choices call (drop (index + 1) calls) → rest ≡ choices_after files choices call (drop (index + 1) calls)
    → IsSame (remains_by choice call.name call.action left) new
    → IsSame (read_after files call) new_files
    → IsSame (crashed start start given calls) (crashed new_files new rest (drop (index + 1) calls))
crash_more start files new_files left new given choices rest calls index call d choice within is before chosen after leaves reads other =
    let later = drop (index + 1) calls in
    let split : drop index calls ≡ call ∷ later = drop_more calls index d within ∙ ap (λ (c : Call). c ∷ later) (sym is) in
    rw after (at_end split)
  where
    at_end : drop index calls ≡ call ∷ drop (index + 1) calls → crashed new_files new (choices_after files choices call (drop (index + 1) calls)) (drop (index + 1) calls) other ≡ crashed start start given calls other
    at_end split =
        crashed_same (read_after files call) new_files (remains_by (choice_of files choices call (drop (index + 1) calls)) call.name call.action left) new (choices_after files choices call (drop (index + 1) calls)) (drop (index + 1) calls)
        reads (rw chosen at leaves) other
        ∙ ap (λ (l : List Call). crashed files left choices l other) (sym split)
        ∙ before other
