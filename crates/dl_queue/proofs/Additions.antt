-- What it leaves that a download is added.
use Rattle.std.proofs.Common.{◌≡◌, ◌≢◌, ◌<◌, ◌≤◌, ◌+◌, ◌-◌, ◌==◌, ℕ, cond, get_or, zero, suc, nat_lt, nat_eq, Bool, true, false, not, List, [], ◌∷◌, ◌++◌, length, map, filter, Option, None, Some, is_some, refl, sym, ◌∙◌, ap, subst, arith, eq-eqb, true≢false, length-append}
use borrow.Author.Tests.{eqb-true, ltb-true, ltb-false}
use Rattle.std.proofs.lemmas.Bool.{eqb-false, ne_eqb, lt-ltb, le-ltb}
use Rattle.std.proofs.lemmas.Grind.{common_steps}
use Rattle.std.proofs.lemmas.List.{map-append, length-map}
use Rattle.std.proofs.lemmas.List.Folds.{position_or_len_push}
use Rattle.std.specs.List.{position_or_len}
use Rattle.dl_kinds.specs.declared.gid.Gid.{Gid}
use Rattle.dl_kinds.specs.declared.status.Status.{Status}
use Rattle.number_list.specs.Order.{lists_number, NoneTwice}
use Rattle.dl_queue.specs.declared.kinds.TheConstants.{MAX_DOWNLOADS}
use Rattle.dl_queue.specs.declared.kinds.Added.{Added}
use Rattle.dl_queue.specs.declared.kinds.Queued.{Queued}
use Rattle.dl_queue.specs.declared.kinds.Stopped.{Stopped}
use Rattle.dl_queue.specs.Lists.{QueueLists}
use Rattle.dl_queue.specs.Endings.{ending_by_standing}
use Rattle.dl_queue.specs.Places.{status_of}
use Rattle.dl_queue.specs.Calls.{added_place, was_added}
use Rattle.dl_queue.specs.Held.{number_in, gid_numbered, standing_at, stands_active, stands_queued, stands_ready, stands_stopped, queued_download, stopped_download, QueueParts, lists_of, AreParts, AreNumbersOf}
use Rattle.dl_queue.proofs.Standing.{IsNumber, number_is, status_is, active_numbers, waiting_numbers, stopped_numbers, of_added}
use Rattle.dl_queue.proofs.Moves.{map_same, filter_same}
use Rattle.dl_queue.proofs.Steps.{same_lists}

got_push : {X : Type 0} (xs : List X) (x d : X) (k : ℕ) → k < length xs → get_or (xs ++ x ∷ []) k d ≡ get_or xs k d
got_push [] x d k within = let none : ⊥ = omega (arith, within) in absurd none
got_push (y ∷ xs) x d zero within = refl
got_push (y ∷ xs) x d (suc k) within = got_push xs x d k (omega (arith, within))

got_last : {X : Type 0} (xs : List X) (x d : X) → get_or (xs ++ x ∷ []) (length xs) d ≡ x
got_last [] x d = refl
got_last (y ∷ xs) x d = got_last xs x d

got_none : (xs : List (Option Status)) (k : ℕ) → get_or (xs ++ None ∷ []) k None ≡ get_or xs k None
got_none [] zero = refl
got_none [] (suc k) = refl
got_none (y ∷ xs) zero = refl
got_none (y ∷ xs) (suc k) = got_none xs k

place_tested : (b : Bool) (p l q : ℕ) → q ≡ cond (nat_eq p l) (l + cond b 0 1) p → p < l → q ≡ p
place_tested b p l q is within = is ∙ other (nat_eq p l) (ne_eqb p l (λ same. let none : ⊥ = omega (arith, same, within) in none)) where
  other : (t : Bool) → t ≡ false → cond t (l + cond b 0 1) p ≡ p
  other true is = cc
  other false is = refl

-- the place of a download that was added before, and of the new one
place_kept : (added : List Added) (new : Added) (gid : Gid) → added_place gid added < length added
    → added_place gid (added ++ new ∷ []) ≡ added_place gid added
place_kept added new gid within =
    place_tested (new.gid.0 == gid.0) (added_place gid added) (length added) (added_place gid (added ++ new ∷ []))
    (position_or_len_push (λ (a : Added). a.gid.0 == gid.0) added new) within

place_new : (added : List Added) (new : Added) → was_added added new.gid ≡ false → added_place new.gid (added ++ new ∷ []) ≡ length added
place_new [] new fresh = ap (λ t. cond (not t) (1 + 0) 0) (eq-eqb new.gid.0 new.gid.0 refl)
place_new (d ∷ added) new fresh = step (d.gid.0 == new.gid.0) refl fresh (place_new added new) where
  step : (b : Bool) → (d.gid.0 == new.gid.0) ≡ b → nat_lt (cond (not b) (1 + added_place new.gid added) 0) (suc (length added)) ≡ false
      → (was_added added new.gid ≡ false → added_place new.gid (added ++ new ∷ []) ≡ length added)
      → added_place new.gid (d ∷ added ++ new ∷ []) ≡ suc (length added)
  step true is past rest = let most = ltb-false 0 (suc (length added)) past in let none : ⊥ = omega (arith, most) in absurd none
  step false is past rest =
      let most = ltb-false (1 + added_place new.gid added) (suc (length added)) past in
      let here = ap (λ t. cond (not t) (1 + added_place new.gid (added ++ new ∷ [])) 0) is in
      let more = rest (le-ltb (added_place new.gid added) (length added) (omega (arith, most))) in
      omega (arith, here, more)

gid_kept : (added : List Added) (new : Added) (n : ℕ) → 0 < n → n ≤ length added → gid_numbered (added ++ new ∷ []) n ≡ gid_numbered added n
gid_kept added new n counts within =
    ap (λ l. get_or l (n - 1) record { 0 = 0 }) (map-append (λ (d : Added). d.gid) added (new ∷ []))
    ∙ got_push (map (λ (d : Added). d.gid) added) new.gid record { 0 = 0 } (n - 1)
    (omega (arith, counts, within, length-map added (λ (d : Added). d.gid)))

gid_new : (added : List Added) (new : Added) → gid_numbered (added ++ new ∷ []) (length added + 1) ≡ new.gid
gid_new added new =
    let one : length added + 1 - 1 ≡ length (map (λ (d : Added). d.gid) added) = omega (arith, length-map added (λ (d : Added). d.gid)) in
    ap (λ l. get_or l (length added + 1 - 1) record { 0 = 0 }) (map-append (λ (d : Added). d.gid) added (new ∷ []))
    ∙ ap (λ k. get_or (map (λ (d : Added). d.gid) added ++ new.gid ∷ []) k record { 0 = 0 }) one
    ∙ got_last (map (λ (d : Added). d.gid) added) new.gid record { 0 = 0 }

numbered : (e : Bool) (p q l m : ℕ) → p ≤ l → m ≡ l + 1 → q ≡ cond (nat_eq p l) (l + cond e 0 1) p
    → (e ≡ true → nat_lt p l ≡ false)
    → cond (nat_lt q m) (Some (q + 1)) None ≡ cond e (Some (l + 1)) (cond (nat_lt p l) (Some (p + 1)) None)
numbered true p q l m most len push fresh =
    let none = fresh refl in
    grind (arith, common_steps)
numbered false p q l m most len push fresh = grind (arith, common_steps)

at_most : (p : Added → Bool) (xs : List Added) → position_or_len p xs ≤ length xs
at_most p [] = omega arith
at_most p (x ∷ xs) = step (p x) (position_or_len p xs) (length xs) (at_most p xs) where
  step : (b : Bool) (m k : ℕ) → m ≤ k → cond (not b) (1 + m) 0 ≤ suc k
  step true m k rest = omega arith
  step false m k rest = omega (arith, rest)

-- a new download has the next number, and all others keep theirs
pub number_push : (added : List Added) (new : Added) (gid : Gid) → was_added added new.gid ≡ false
    → number_in (added ++ new ∷ []) gid ≡ cond (new.gid.0 == gid.0) (Some (length added + 1)) (number_in added gid)
number_push added new gid fresh =
    numbered (new.gid.0 == gid.0) (added_place gid added) (added_place gid (added ++ new ∷ [])) (length added)
    (length (added ++ new ∷ [])) (at_most (λ (a : Added). a.gid.0 == gid.0) added) (length-append added (new ∷ []))
    (position_or_len_push (λ (a : Added). a.gid.0 == gid.0) added new)
    (λ same. subst (λ (n : ℕ). nat_lt (position_or_len (λ (a : Added). a.gid.0 == n) added) (length added) ≡ false)
    (eqb-true new.gid.0 gid.0 same) fresh)

-- the parts after a download was added
pub record Registered (limit : ℕ) (new : QueueParts) (lists : QueueLists) (gid : Gid) : Type 0 where
  pub parts_are : AreParts new
  pub lists_are : lists_of limit new ≡ lists
  pub known : was_added new.added gid ≡ true
  pub status : status_of (lists_of limit new) gid ≡ None

apart_tested : (b : Bool) (added : List Added) (new : Added) (n : ℕ) → was_added added new.gid ≡ false
    → ((m : ℕ) → 0 < m → m ≤ length added → added_place (gid_numbered added m) added + 1 ≡ m)
    → 0 < n → n ≤ length (added ++ new ∷ []) → nat_lt (length added) n ≡ b
    → added_place (gid_numbered (added ++ new ∷ []) n) (added ++ new ∷ []) + 1 ≡ n
apart_tested true added new n fresh apart counts within is =
    let past = ltb-true (length added) n is in
    let one : n ≡ length added + 1 = omega (arith, past, within, length-append added (new ∷ [])) in
    let gid = ap (gid_numbered (added ++ new ∷ [])) one ∙ gid_new added new in
    let place = ap (λ g. added_place g (added ++ new ∷ [])) gid ∙ place_new added new fresh in
    omega (arith, place, one)
apart_tested false added new n fresh apart counts within is =
    let most = ltb-false (length added) n is in
    let old = apart n counts most in
    let there : added_place (gid_numbered added n) added < length added = omega (arith, old, most) in
    let place = ap (λ g. added_place g (added ++ new ∷ [])) (gid_kept added new n counts most) ∙ place_kept added new (gid_numbered added n) there in
    omega (arith, place, old)

pub registered : (limit : ℕ) (parts : QueueParts) (new : Added) → AreParts parts → was_added parts.added new.gid ≡ false
    → length parts.added < MAX_DOWNLOADS
    → Registered limit record parts { added = parts.added ++ new ∷ []; standings = parts.standings ++ None ∷ [] }
    record (lists_of limit parts) { added = parts.added ++ new ∷ [] } new.gid
registered limit parts new are fresh room =
    let added = parts.added ++ new ∷ [] in
    let standings = parts.standings ++ None ∷ [] in
    let len = length-append parts.added (new ∷ []) in
    let same : (m : ℕ) → standing_at standings m ≡ standing_at parts.standings m = λ m. got_none parts.standings (m - 1) in
    let gid_same : (numbers : List ℕ) → AreNumbersOf parts.standings numbers → (m : ℕ) → lists_number numbers m ≡ true
    → gid_numbered added m ≡ gid_numbered parts.added m = λ numbers their m listed.
    let it = of_added parts are numbers their m listed in gid_kept parts.added new m it.0 it.1 in
    let now : QueueParts = record parts { added = added; standings = standings } in
    let parts_are : AreParts now = record {
      many = omega (arith, are.many, len, length-append parts.standings (None ∷ []));
      few = omega (arith, len, room);
      apart = λ n counts within. apart_tested (nat_lt (length parts.added) n) parts.added new n fresh are.apart counts within refl;
      active_apart = are.active_apart;
      waiting_apart = are.waiting_apart;
      stopped_apart = are.stopped_apart;
      active_are = λ m counts. are.active_are m counts ∙ ap stands_active (sym (same m));
      waiting_are = λ m counts. are.waiting_are m counts ∙ ap stands_queued (sym (same m));
      ready_are = are.ready_are ∙ sym (filter_same (λ m. stands_ready (standing_at standings m)) (λ m. stands_ready (standing_at parts.standings m))
          parts.waiting (λ m listed. ap stands_ready (same m)));
      stopped_are = λ m counts. are.stopped_are m counts ∙ ap stands_stopped (sym (same m));
    } in
    let place = place_new parts.added new fresh in
    let known : was_added added new.gid ≡ true = lt-ltb (added_place new.gid added) (length added) (omega (arith, place, len)) in
    let number : number_in added new.gid ≡ Some (length parts.added + 1) =
    number_push parts.added new new.gid fresh
    ∙ ap (λ b. cond b (Some (length parts.added + 1)) (number_in parts.added new.gid)) (eq-eqb new.gid.0 new.gid.0 refl) in
    record {
      parts_are = parts_are;
      lists_are = same_lists limit added _ _ _ _ _ _
          (map_same (gid_numbered added) (gid_numbered parts.added) parts.active (gid_same parts.active (active_numbers parts are)))
          (map_same (queued_download added standings) (queued_download parts.added parts.standings) parts.waiting (λ m listed.
          ap (λ (g : Gid). let q : Queued = record { gid = g; paused = not (stands_ready (standing_at standings m)) } in q)
          (gid_same parts.waiting (waiting_numbers parts are) m listed)
          ∙ ap (λ s. let q : Queued = record { gid = gid_numbered parts.added m; paused = not (stands_ready s) } in q) (same m)))
          (map_same (stopped_download added standings) (stopped_download parts.added parts.standings) parts.stopped (λ m listed.
          ap (λ (g : Gid). let d : Stopped = record { gid = g; ending = ending_by_standing (standing_at standings m) } in d)
          (gid_same parts.stopped (stopped_numbers parts are) m listed)
          ∙ ap (λ s. let d : Stopped = record { gid = gid_numbered parts.added m; ending = ending_by_standing s } in d) (same m)));
      known = known;
      status = status_is limit now parts_are new.gid (length parts.added + 1) (number_is added new.gid (length parts.added + 1) number)
          ∙ same (length parts.added + 1) ∙ past parts.standings (length parts.added + 1 - 1) (omega (arith, are.many));
    } where
      past : (xs : List (Option Status)) (k : ℕ) → length xs ≤ k → get_or xs k None ≡ None
      past [] k most = refl
      past (x ∷ xs) zero most = let none : ⊥ = omega (arith, most) in absurd none
      past (x ∷ xs) (suc k) most = past xs k (omega (arith, most))
