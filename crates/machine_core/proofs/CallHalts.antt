-- The downloads whose claims end by a call.
use Rattle.std.proofs.Common.{◌≡◌, ◌≢◌, ℕ, Bool, true, false, Some, None, ◌<◌, List, [], length, get_or, set, slice_get, refl, sym, ap, ◌∙◌, subst, ⊎_elim, arith}
use Rattle.std.specs.Prelude.{◌==◌, ◌&&◌, ◌||◌, not}
use Rattle.std.specs.List.{list_any}
use Rattle.std.proofs.lemmas.Bool.{cases_eq, eq-eqb}
use Rattle.std.proofs.lemmas.Bool.Decides.{nat_tests}
use Rattle.std.proofs.lemmas.List.{length-set}
use Rattle.std.proofs.lemmas.List.Folds.{find_at}
use Rattle.std.proofs.lemmas.Option.{cond_some, same_Some, slice_get_read, slice_get_within}
use Rattle.dl_kinds.specs.declared.gid.Gid.{Gid}
use Rattle.dl_queue.specs.Calls.{added_place, adding_place}
use Rattle.dl_queue.specs.Lists.{QueueLists}
use Rattle.dl_queue.specs.declared.kinds.Added.{Added}
use Rattle.dl_history.specs.Accounts.{after_halt}
use Rattle.one_download.specs.DownloadViews.{DownloadView, StaysUnmarked}
use Rattle.machine_core.specs.CallParts.{AreHaltedTo, AreHaltedWhere, IsHaltedIf, StandInOrder, leaves_active}
use Rattle.machine_core.specs.MachineParts.{IsHalted}
use Rattle.machine_core.specs.Replays.{has_active, is_same_gid}
use Rattle.machine_core.specs.declared.entries.Entry.{Entry}
use Rattle.machine_core.proofs.Leaving.{StayActive}
use Rattle.machine_core.proofs.Lists.{element_at, found, slice_get-set_other, slice_get-set_same}
use Rattle.machine_core.proofs.Parts.{gid_is}

-- ---- entries

halted_if_false : (t : Bool) (x : Entry) → t ≡ false → IsHaltedIf t x x
halted_if_false true x is = absurd cc
halted_if_false false x is = refl

halted_if_true : (t : Bool) (x y : Entry) → t ≡ true → IsHalted x y → IsHaltedIf t x y
halted_if_true true x y is h = h
halted_if_true false x y is h = absurd cc

pub none_halts : (n : ℕ) (test : Gid → Bool) (xs : List Entry) → ((i : ℕ) (x : Entry) → i < n → slice_get xs i ≡ Some x → test x.gid ≡ false)
    → AreHaltedTo n test xs xs
none_halts n test xs none =
    record {
      many = refl;
      each = λ i was is below there here.
          subst (λ (y : Entry). IsHaltedIf (test was.gid) was y) (same_Some was is (sym there ∙ here))
          (halted_if_false (test was.gid) was (none i was below there));
      others = λ i past. refl;
    }

pub halts_same : (p q : Gid → Bool) (xs ys : List Entry) → ((gid : Gid) → p gid ≡ q gid) → AreHaltedWhere p xs ys
    → AreHaltedWhere q xs ys
halts_same p q xs ys same h =
    record {
      many = h.many;
      each = λ i was is below there here.
          subst (λ (t : Bool). IsHaltedIf t was is) (same was.gid) (h.each i was is below there here);
      others = h.others;
    }

-- ---- one by its gid

and_false : (a : Bool) → (a && false) ≡ false
and_false true = refl
and_false false = refl

same_by : (added : List Added) (xs : List Entry) (gid : Gid) (at i : ℕ) (x : Entry) → StandInOrder added xs
    → adding_place added gid ≡ Some at → slice_get xs i ≡ Some x → i ≢ at → (t : Bool) → is_same_gid gid x.gid ≡ t
    → t ≡ false
same_by added xs gid at i x order place there other false same = refl
same_by added xs gid at i x order place there other true same =
    absurd (other (same_Some i at
    (sym (order.each i x there) ∙ (ap (adding_place added) (gid_is gid x.gid same) ∙ place))))

none_by : (added : List Added) (xs : List Entry) (gid : Gid) (i : ℕ) (x : Entry) → StandInOrder added xs
    → adding_place added gid ≡ None → slice_get xs i ≡ Some x → (t : Bool) → is_same_gid gid x.gid ≡ t → t ≡ false
none_by added xs gid i x order place there false same = refl
none_by added xs gid i x order place there true same =
    absurd (let p : Some i ≡ None = sym (order.each i x there) ∙ (ap (adding_place added) (gid_is gid x.gid same) ∙ place) in cc)

and_left_false : (a b : Bool) → a ≡ false → (a && b) ≡ false
and_left_false true b is = absurd cc
and_left_false false b is = refl

both_on : (a b : Bool) → a ≡ true → b ≡ true → (a && b) ≡ true
both_on a b p q = rw (p, q) refl

gid_at : (added : List Added) (gid : Gid) (n : ℕ) → adding_place added gid ≡ Some n
    → (a : Added) × (slice_get added n ≡ Some a) × (a.gid ≡ gid)
gid_at added gid n place =
    let parts = cond_some _ _ n place in
    let at : added_place gid added ≡ n = parts.1 in
    let inside = parts.0 in
    let within : n < length added = grind (arith, nat_tests) in
    let e = element_at added n within in
    let f = found (λ (a : Added). a.gid.0 == gid.0) added e.0
    (find_at (λ (a : Added). a.gid.0 == gid.0) added ∙ (ap (slice_get added) at ∙ e.1)) in
    (e.0, e.1, gid_is gid e.0.gid f.passes)

-- two downloads at one place are the same
pub same_gid_at : (added : List Added) (gid other : Gid) (n : ℕ) → adding_place added gid ≡ Some n
    → adding_place added other ≡ Some n → is_same_gid gid other ≡ true
same_gid_at added gid other n one two =
    let a = gid_at added gid n one in
    let b = gid_at added other n two in
    let same : a.0 ≡ b.0 = same_Some a.0 b.0 (sym a.1 ∙ b.1) in
    eq-eqb other.0 gid.0 (ap (λ (g : Gid). g.0) (sym b.2 ∙ (ap (λ (x : Added). x.gid) (sym same) ∙ a.2)))

-- nothing changes where it didn't leave ..
pub stays_by : (gid : Gid) (left : Bool) (xs : List Entry) → left ≡ false
    → AreHaltedWhere (λ other. is_same_gid gid other && left) xs xs
stays_by gid left xs un =
    none_halts (length xs) (λ other. is_same_gid gid other && left) xs
    (λ i x below there. ap (λ (t : Bool). is_same_gid gid x.gid && t) un ∙ and_false (is_same_gid gid x.gid))

-- .. nor where it wasn't added
pub none_by_gid : (added : List Added) (gid : Gid) (left : Bool) (xs : List Entry) → StandInOrder added xs
    → adding_place added gid ≡ None → AreHaltedWhere (λ other. is_same_gid gid other && left) xs xs
none_by_gid added gid left xs order place =
    none_halts (length xs) (λ other. is_same_gid gid other && left) xs
    (λ i x below there. and_left_false (is_same_gid gid x.gid) left (none_by added xs gid i x order place there _ refl))

-- the claims of one end
pub one_by_gid : (added : List Added) (gid : Gid) (left : Bool) (xs : List Entry) (at : ℕ) (x : Entry)
    (state : DownloadView) → StandInOrder added xs → adding_place added gid ≡ Some at → slice_get xs at ≡ Some x
    → left ≡ true → state.account ≡ after_halt x.state.account false → StaysUnmarked x.state state
    → AreHaltedWhere (λ other. is_same_gid gid other && left) xs (set xs at (record x { state = state }))
one_by_gid added gid left xs at x state order place there on account rest =
    let new : Entry = record x { state = state } in
    record {
      many = length-set xs at new;
      each = λ i was is below before here.
          ⊎_elim
          (λ (same : i ≡ at).
          let was_is : x ≡ was = same_Some x was (sym there ∙ (ap (slice_get xs) (sym same) ∙ before)) in
          let is_is : new ≡ is =
          same_Some new is
          (sym (slice_get-set_same xs at new (slice_get_within xs at x there))
          ∙ (ap (slice_get (set xs at new)) (sym same) ∙ here)) in
          halted_if_true (is_same_gid gid was.gid && left) was is
          (both_on (is_same_gid gid was.gid) left
          (same_gid_at added gid was.gid at place (order.each at was (ap (slice_get xs) (sym same) ∙ before))) on)
          (subst (λ (z : Entry). IsHalted z is) was_is
          (subst (λ (z : Entry). IsHalted x z) is_is
          (record { state = state; is = refl; account = account; rest = rest }))))
          (λ (other : i ≢ at).
          let is_is : was ≡ is =
          same_Some was is (sym before ∙ (sym (slice_get-set_other xs at i new other) ∙ here)) in
          subst (λ (z : Entry). IsHaltedIf (is_same_gid gid was.gid && left) was z) is_is
          (halted_if_false (is_same_gid gid was.gid && left) was
          (and_left_false (is_same_gid gid was.gid) left (same_by added xs gid at i was order place before other _ refl))))
          (cases_eq i at);
      others = λ i past.
          slice_get-set_other xs at i new (λ is. let w = slice_get_within xs at x there in omega arith);
    }

-- ---- the active list

leaves_where : (old new : Bool) → (old ≡ true → new ≡ true) → (old && not new) ≡ false
leaves_where true new on = rw (on refl) refl
leaves_where false new on = refl

-- one that stays active doesn't leave
pub stays_in : (old new : QueueLists) (gid : Gid) → (has_active old gid ≡ true → has_active new gid ≡ true)
    → leaves_active old new gid ≡ false
stays_in old new gid on = leaves_where (has_active old gid) (has_active new gid) on

pub none_leaves : (old new : QueueLists) (xs : List Entry) → StayActive old new
    → AreHaltedWhere (λ gid. false || leaves_active old new gid) xs xs
none_leaves old new xs stay =
    none_halts (length xs) (λ gid. false || leaves_active old new gid) xs
    (λ i x below there. stays_in old new x.gid (stay x.gid))

one_leaves : (old new : QueueLists) (gid other : Gid) → (other ≢ gid → has_active old other ≡ true → has_active new other ≡ true)
    → (t : Bool) → is_same_gid gid other ≡ t
    → (t && (has_active old gid && not (has_active new gid))) ≡ leaves_active old new other
one_leaves old new gid other keeps true same =
    sym (ap (leaves_active old new) (gid_is gid other same))
one_leaves old new gid other keeps false same =
    sym (stays_in old new other (keeps (λ is.
    absurd (let s : is_same_gid gid other ≡ true = eq-eqb other.0 gid.0 (ap (λ (g : Gid). g.0) is) in cc))))

-- only the download of the call leaves
pub one_left : (old new : QueueLists) (gid : Gid) (xs ys : List Entry)
    → ((other : Gid) → other ≢ gid → has_active old other ≡ true → has_active new other ≡ true)
    → AreHaltedWhere (λ other. is_same_gid gid other && (has_active old gid && not (has_active new gid))) xs ys
    → AreHaltedWhere (leaves_active old new) xs ys
one_left old new gid xs ys keeps h =
    halts_same (λ other. is_same_gid gid other && (has_active old gid && not (has_active new gid)))
    (leaves_active old new) xs ys
    (λ other. one_leaves old new gid other (keeps other) (is_same_gid gid other) refl) h

and_true : (a : Bool) → a ≡ (a && true)
and_true true = refl
and_true false = refl

-- all leave
pub all_left : (old new : QueueLists) (xs ys : List Entry) → new.active ≡ [] → AreHaltedWhere (has_active old) xs ys
    → AreHaltedWhere (leaves_active old new) xs ys
all_left old new xs ys none h =
    halts_same (has_active old) (leaves_active old new) xs ys
    (λ gid. and_true (has_active old gid)
    ∙ ap (λ (active : List Gid). has_active old gid && not (list_any (is_same_gid gid) active)) (sym none)) h

-- ---- what a step of one needs

pub place_below : (added : List Added) (gid : Gid) (n : ℕ) → adding_place added gid ≡ Some n → n < length added
place_below added gid n place =
    let parts = cond_some _ _ n place in
    let at : added_place gid added ≡ n = parts.1 in
    let inside = parts.0 in
    grind (arith, nat_tests)

pub entry_at_place : (added : List Added) (xs : List Entry) (gid : Gid) (n : ℕ) (x : Entry) → StandInOrder added xs
    → adding_place added gid ≡ Some n → x ≡ get_or xs n x → slice_get xs n ≡ Some x
entry_at_place added xs gid n x order place is =
    let w = place_below added gid n place in
    let m = order.many in
    let within : n < length xs = omega arith in
    slice_get_read xs (length xs) n x refl within is

pub left_by : (was now : Bool) → not was ≡ false → now ≡ false → (was && not now) ≡ true
left_by true now on off = rw off refl
left_by false now on off = absurd cc
