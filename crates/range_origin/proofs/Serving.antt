-- A turn of the folder.
use Rattle.std.proofs.Common.{◌≡◌, ℕ, ◌≤◌, List, [], ◌∷◌, ◌++◌, refl, sym, ◌∙◌, subst}
use Rattle.std.specs.Prelude.{IsTrue}
use Rattle.std.specs.List.{AllByRecursion}
use Rattle.dl_disk.specs.Files.{IsSame}
use Rattle.dl_disk.specs.declared.disk.Disk.{Ghosts as DiskSays}
use Rattle.turn_desk.specs.Turns.{last_mark, turn_of}
use Rattle.turn_desk.specs.declared.turn.Stamp.{Stamp}
use Rattle.turn_desk.specs.declared.turn.Turn.{Turn}
use Rattle.range_origin.specs.declared.shelf.Ask.{Ask}
use Rattle.range_origin.specs.declared.shelf.Folder.{Folder}
use Rattle.range_origin.specs.declared.shelf.Told.{Told}
use Rattle.range_origin.specs.Shelves.{CausesFault, HasTold, HasToldOf, IsAsked, IsShelfAfter, IsToldOf, folder_at, mark_of, place_asked}

all_behind : {A : Type 0} (P : A → Type 0) (xs : List A) (x : A) → AllByRecursion P xs → P x → AllByRecursion P (xs ++ x ∷ [])
all_behind P [] x all is = (is, tt)
all_behind P (y ∷ xs) x all is = (all.0, all_behind P xs x all.1 is)

last_behind : {O A E : Type 0} (m : Stamp) (ts : List (Turn O A E)) (t : Turn O A E) → last_mark m (ts ++ t ∷ []) ≡ t.after
last_behind m [] t = refl
last_behind m (u ∷ ts) t = last_behind u.after ts t

some_behind : {A : Type 0} (xs : List A) (x : A) → xs ++ x ∷ [] ≡ [] → ⊥
some_behind [] x e = cc
some_behind (y ∷ xs) x e = cc

module _ {D : Type 0} (says : DiskSays D) where
  -- behind a call that changed nothing and had no fault
  pub after_look : (ask : Ask) (place : List ℕ) (old mid new : D) (told : Told)
      → (IsTrue says.tells → IsSame (says.state old).seen (says.state mid).seen) → says.faults mid ≡ says.faults old
      → HasToldOf says ask place mid new told → HasToldOf says ask place old new told
  after_look ask place old mid new told same calm has = record {
    fits = has.fits;
    told_is = λ t. subst (λ file. IsToldOf file ask told) (same t place) (has.told_is t);
    same = λ t name. has.same t name ∙ same t name;
    later = subst (λ n. n ≤ says.faults new) calm has.later;
    cause = subst (λ n. CausesFault told n (says.faults new)) calm has.cause;
  }

  pub has_told : (dir place : List ℕ) (op ask : Ask) (old new : D) (told : Told) → op ≡ ask → place ≡ place_asked dir ask
      → HasToldOf says ask place old new told → HasTold says dir op old new told
  has_told dir place op ask old new told is at has =
      subst (λ op. HasTold says dir op old new told) (sym is)
      (subst (λ place. HasToldOf says ask place old new told) at has)

  -- one turn more
  pub served : (first old new : D) (dir : List ℕ) (op : Ask) (told : Told) (turns : List (Turn Ask Told (Folder D))) (pass : ℕ)
      → HasTold says dir op old new told → IsShelfAfter says first dir old turns
      → let es = folder_at says first dir ∷ [] in
      let t = turn_of pass turns op told es (mark_of says old) es (mark_of says new) in
      IsAsked says (folder_at says first dir) t × IsShelfAfter says first dir new (turns ++ t ∷ [])
  served first old new dir op told turns pass has after =
      let es : List (Folder D) = folder_at says first dir ∷ [] in
      let t : Turn Ask Told (Folder D) = turn_of pass turns op told es (mark_of says old) es (mark_of says new) in
      let asked : IsAsked says (folder_at says first dir) t = record {
        none = refl;
        fits = has.fits;
        told = λ tells. subst (λ file. IsToldOf file op told) (after.same tells (place_asked dir op)) (has.told_is tells);
        cause = has.cause;
      } in (
        asked,
        record {
          same = λ tells name. has.same tells name ∙ after.same tells name;
          each = all_behind (IsAsked says (folder_at says first dir)) turns t after.each asked;
          mark = sym (last_behind (mark_of says new) turns t);
          still = λ none. absurd (some_behind turns t none);
        },
      )
