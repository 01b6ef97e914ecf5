-- Lists of those downloads of which something holds.
use Rattle.std.proofs.Common.{◌≡◌, ◌+◌, ◌⊎◌, inl, inr, ⊎_elim, ℕ, zero, suc, take, Some, None, List, [], ◌∷◌, ◌++◌, length, map, slice_get, refl, sym, ap, ◌∙◌, subst, arith}
use Rattle.std.specs.Prelude.{Err, Ok, OnErr, Result}
use Rattle.std.proofs.lemmas.Option.{same_Some}
use Rattle.dl_kinds.specs.declared.gid.Gid.{Gid}
use Rattle.machine_core.specs.MachineParts.{HaveOwnGids}
use Rattle.machine_core.specs.Starts.{Download}
use Rattle.engine_turns.specs.CallRows.{AreThose}
use Rattle.stored_run.specs.Saves.{StandOnce}

pub no_some : {A P : Type 0} (x : A) → None ≡ Some x → P
no_some x is = absurd cc

module _ (P : Gid → Type 0) where
  -- where none of them is one, there is none
  pub those_none : (all : List Gid) (n : ℕ) (g : Gid) → AreThose P all [] → slice_get all n ≡ Some g → P g → ⊥
  those_none [] n g those at holds = no_some g at
  those_none (x ∷ all) zero g those at holds =
      ⊎_elim
      (λ (here : P x × (rest : List Gid) × ([] ≡ x ∷ rest) × AreThose P all rest). absurd (let e = here.2 in cc))
      (λ (beside : (P x → ⊥) × AreThose P all []).
      beside.0 (subst P (sym (same_Some x g at)) holds))
      those
  those_none (x ∷ all) (suc n) g those at holds =
      ⊎_elim
      (λ (here : P x × (rest : List Gid) × ([] ≡ x ∷ rest) × AreThose P all rest). absurd (let e = here.2 in cc))
      (λ (beside : (P x → ⊥) × AreThose P all []). those_none all n g beside.1 at holds)
      those

  -- one more, which is one of them or not
  pub those_yes : (all those : List Gid) (g : Gid) → AreThose P all those → P g
      → AreThose P (all ++ g ∷ []) (those ++ g ∷ [])
  those_yes [] those g are holds = inl (holds, [], ap (λ (l : List Gid). l ++ g ∷ []) are, refl)
  those_yes (x ∷ all) those g are holds =
      ⊎_elim
      (λ (here : P x × (rest : List Gid) × (those ≡ x ∷ rest) × AreThose P all rest).
      inl (here.0, here.1 ++ g ∷ [], ap (λ (l : List Gid). l ++ g ∷ []) here.2, those_yes all here.1 g here.3 holds))
      (λ (beside : (P x → ⊥) × AreThose P all those). inr (beside.0, those_yes all those g beside.1 holds))
      are

  pub those_no : (all those : List Gid) (g : Gid) → AreThose P all those → (P g → ⊥) → AreThose P (all ++ g ∷ []) those
  those_no [] those g are not_so = inr (not_so, are)
  those_no (x ∷ all) those g are not_so =
      ⊎_elim
      (λ (here : P x × (rest : List Gid) × (those ≡ x ∷ rest) × AreThose P all rest).
      inl (here.0, here.1, here.2, those_no all here.1 g here.3 not_so))
      (λ (beside : (P x → ⊥) × AreThose P all those). inr (beside.0, those_no all those g beside.1 not_so))
      are

  -- each of them is one of all
  pub those_from : (all those : List Gid) → AreThose P all those → (n : ℕ) (g : Gid) → slice_get those n ≡ Some g
      → (m : ℕ) × (slice_get all m ≡ Some g) × P g
  those_from [] those are n g at =
      no_some g (sym (ap (λ (l : List Gid). slice_get l n) are) ∙ at)
  those_from (x ∷ all) those are zero g at =
      ⊎_elim
      (λ (here : P x × (rest : List Gid) × (those ≡ x ∷ rest) × AreThose P all rest).
      let same : Some x ≡ Some g = sym (ap (λ (l : List Gid). slice_get l 0) here.2) ∙ at in
      (0, same, subst P (same_Some x g same) here.0))
      (λ (beside : (P x → ⊥) × AreThose P all those).
      let r = those_from all those beside.1 0 g at in (suc r.0, r.1, r.2))
      are
  those_from (x ∷ all) those are (suc n) g at =
      ⊎_elim
      (λ (here : P x × (rest : List Gid) × (those ≡ x ∷ rest) × AreThose P all rest).
      let r = those_from all here.1 here.3 n g (sym (ap (λ (l : List Gid). slice_get l (suc n)) here.2) ∙ at) in
      (suc r.0, r.1, r.2))
      (λ (beside : (P x → ⊥) × AreThose P all those).
      let r = those_from all those beside.1 (suc n) g at in (suc r.0, r.1, r.2))
      are

  once_less : (x : Gid) (all : List Gid) → StandOnce (x ∷ all) → StandOnce all
  once_less x all once i j g a b = let e = once (suc i) (suc j) g a b in omega arith

  -- none of them stands there twice
  once_more : (x : Gid) (all rest : List Gid) → StandOnce (x ∷ all) → AreThose P all rest → StandOnce rest
      → StandOnce (x ∷ rest)
  once_more x all rest once are rest_once zero zero g a b = refl
  once_more x all rest once are rest_once zero (suc j) g a b =
      let r = those_from all rest are j g b in
      let e = once 0 (suc r.0) g a r.1 in absurd (omega arith)
  once_more x all rest once are rest_once (suc i) zero g a b =
      let r = those_from all rest are i g a in
      let e = once 0 (suc r.0) g b r.1 in absurd (omega arith)
  once_more x all rest once are rest_once (suc i) (suc j) g a b = ap suc (rest_once i j g a b)

  pub those_once : (all those : List Gid) → StandOnce all → AreThose P all those → StandOnce those
  those_once [] those once are = λ i j g a b. no_some g (sym (ap (λ (l : List Gid). slice_get l i) are) ∙ a)
  those_once (x ∷ all) those once are =
      ⊎_elim
      (λ (here : P x × (rest : List Gid) × (those ≡ x ∷ rest) × AreThose P all rest).
      subst StandOnce (sym here.2)
      (once_more x all here.1 once here.3 (those_once all here.1 (once_less x all once) here.3)))
      (λ (beside : (P x → ⊥) × AreThose P all those).
      those_once all those (once_less x all once) beside.1)
      are

  -- such a list exists, where of each it holds or doesn't
  pub those_exist : ((g : Gid) → P g ⊎ (P g → ⊥)) → (all : List Gid) → (those : List Gid) × AreThose P all those
  those_exist decide [] = ([], refl)
  those_exist decide (x ∷ all) =
      let rest = those_exist decide all in
      ⊎_elim (λ (yes : P x). (x ∷ rest.0, inl (yes, rest.0, refl, rest.1)))
      (λ (no : P x → ⊥). (rest.0, inr (no, rest.1))) (decide x)

-- what is as good
pub those_alike : (P Q : Gid → Type 0) (all those : List Gid)
    → ((n : ℕ) (g : Gid) → slice_get all n ≡ Some g → (P g → Q g) × (Q g → P g)) → AreThose P all those
    → AreThose Q all those
those_alike P Q [] those same are = are
those_alike P Q (x ∷ all) those same are =
    ⊎_elim
    (λ (here : P x × (rest : List Gid) × (those ≡ x ∷ rest) × AreThose P all rest).
    inl (
      (same 0 x refl).0 here.0,
      here.1,
      here.2,
      those_alike P Q all here.1 (λ n g at. same (suc n) g at) here.3,
    ))
    (λ (beside : (P x → ⊥) × AreThose P all those).
    inr (λ q. beside.0 ((same 0 x refl).1 q), those_alike P Q all those (λ n g at. same (suc n) g at) beside.1))
    are

-- ---- gids of downloads

pub gid_there : (ds : List Download) (n : ℕ) (g : Gid) → slice_get (map (λ (d : Download). d.gid) ds) n ≡ Some g
    → (d : Download) × (slice_get ds n ≡ Some d) × (d.gid ≡ g)
gid_there [] n g at = no_some g at
gid_there (x ∷ ds) zero g at = (x, refl, same_Some x.gid g at)
gid_there (x ∷ ds) (suc n) g at = gid_there ds n g at

pub gids_once : (ds : List Download) → HaveOwnGids ds → StandOnce (map (λ (d : Download). d.gid) ds)
gids_once ds apart i j g a b =
    let one = gid_there ds i g a in
    let other = gid_there ds j g b in
    apart i j one.0 other.0 one.1 other.1 (one.2 ∙ sym other.2)

-- ---- the first ones

take_at_suc : (all : List Gid) (n : ℕ) (g : Gid) → slice_get all n ≡ Some g → take (suc n) all ≡ take n all ++ g ∷ []
take_at_suc [] n g at = no_some g at
take_at_suc (x ∷ all) zero g at = ap (λ (y : Gid). y ∷ []) (same_Some x g at)
take_at_suc (x ∷ all) (suc n) g at = ap (λ (ys : List Gid). x ∷ ys) (take_at_suc all n g at)

pub take_at : (all : List Gid) (n : ℕ) (g : Gid) → slice_get all n ≡ Some g → take (n + 1) all ≡ take n all ++ g ∷ []
take_at all n g at = let next : n + 1 ≡ suc n = omega arith in rw next (take_at_suc all n g at)

pub take_all : (all : List Gid) (n : ℕ) → n ≡ length all → take n all ≡ all
take_all all n is = ap (λ (m : ℕ). take m all) is ∙ whole all
  where
    whole : (all : List Gid) → take (length all) all ≡ all
    whole [] = refl
    whole (x ∷ all) = ap (λ (ys : List Gid). x ∷ ys) (whole all)

-- the next one comes to the list, or doesn't
pub those_add : (P : Gid → Type 0) (all those items : List Gid) (n : ℕ) (g : Gid) → AreThose P (take n all) those
    → slice_get all n ≡ Some g → P g → items ≡ those ++ g ∷ [] → AreThose P (take (n + 1) all) items
those_add P all those items n g are at holds is =
    subst (λ (l : List Gid). AreThose P (take (n + 1) all) l) (sym is)
    (subst (λ (l : List Gid). AreThose P l (those ++ g ∷ [])) (sym (take_at all n g at))
    (those_yes P (take n all) those g are holds))

pub those_pass : (P : Gid → Type 0) (all those items : List Gid) (n : ℕ) (g : Gid) → AreThose P (take n all) those
    → slice_get all n ≡ Some g → (P g → ⊥) → items ≡ those → AreThose P (take (n + 1) all) items
those_pass P all those items n g are at not_so is =
    subst (λ (l : List Gid). AreThose P (take (n + 1) all) l) (sym is)
    (subst (λ (l : List Gid). AreThose P l those) (sym (take_at all n g at))
    (those_no P (take n all) those g are not_so))

pub on_err_so : {T E : Type 0} (r : Result T E) (X : Type 0) → X → OnErr r X
on_err_so (Ok x) X is = tt
on_err_so (Err e) X is = is
