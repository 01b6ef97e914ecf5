-- What a download's coming into a list and its leaving it do to the parts of a queue.
use Rattle.std.proofs.Common.{◌≡◌, ◌≢◌, ◌<◌, ◌≤◌, ◌+◌, ◌-◌, ◌==◌, ◌||◌, ◌&&◌, ℕ, cond, get_or, take, drop, zero, suc, Bool, true, false, not, List, [], ◌∷◌, ◌++◌, length, map, filter, find, unwrap_or, Option, None, Some, refl, sym, ◌∙◌, ap, subst, arith, eq-eqb, true≢false}
use Rattle.std.proofs.Math.ListN.{set, length-set}
use Rattle.std.proofs.lemmas.List.{map-append}
use borrow.Author.Tests.{eqb-true}
use Rattle.std.proofs.lemmas.Bool.{eqb-false, ne_eqb}
use Rattle.std.specs.Prelude.{insert, remove, slice_get, slice_set}
use Rattle.dl_kinds.specs.declared.gid.Gid.{Gid}
use Rattle.dl_kinds.specs.declared.status.Status.{Status}
use Rattle.dl_kinds.specs.declared.status.Status.TheVariants.{Active, Waiting, Paused}
use Rattle.number_list.specs.Order.{lists_number, number_place, is_listed_or_end, NoneTwice}
use Rattle.dl_queue.specs.declared.kinds.Added.{Added}
use Rattle.dl_queue.specs.declared.kinds.Queued.{Queued}
use Rattle.dl_queue.specs.declared.kinds.Stopped.{Stopped}
use Rattle.dl_queue.specs.declared.kinds.Ending.{Ending}
use Rattle.dl_queue.specs.declared.kinds.Ending.TheVariants as ending
use Rattle.dl_queue.specs.Lists.{QueueLists}
use Rattle.dl_queue.specs.Endings.{ending_by_standing, ended_status}
use Rattle.dl_queue.specs.Places.{active_place, queued_place, stopped_place, status_of}
use Rattle.dl_queue.specs.Calls.{with_pause}
use Rattle.dl_queue.specs.Held.{gid_numbered, standing_at, stands_active, stands_queued, stands_ready, stands_stopped, queued_download, stopped_download, QueueParts, lists_of, AreParts, AreNumbersOf}
use Rattle.dl_queue.proofs.Numbers.{first_listed, rest_listed, neither, either_left, either_right, marked_there}
use Rattle.dl_queue.proofs.Standing.{IsNumber, active_numbers, waiting_numbers, stopped_numbers, active_place_is, queued_place_is, stopped_place_is, status_is}
use Rattle.dl_queue.proofs.Moves.{map_same, filter_same, map_removed, map_inserted, stays, other_number, others_stay, are_kept, are_less, are_more, queued_same, stopped_same, ready_same}
use Rattle.dl_queue.proofs.Readies.{ready_gone, other_gone, ready_paused, other_comes, ready_comes, listed_passing, ready_place, ready_is_listed, first_place, first_is_listed}

pub same_lists : (limit : ℕ) (added : List Added) (a b : List Gid) (w x : List Queued) (t u : List Stopped) → a ≡ b → w ≡ x → t ≡ u
    → (let l : QueueLists = record { limit = limit; active = a; waiting = w; stopped = t; added = added } in l)
    ≡ (let l : QueueLists = record { limit = limit; active = b; waiting = x; stopped = u; added = added } in l)
same_lists limit added a b w x t u active waiting stopped =
    ap (λ (l : List Gid). let q : QueueLists = record { limit = limit; active = l; waiting = w; stopped = t; added = added } in q) active
    ∙ ap (λ (l : List Queued). let q : QueueLists = record { limit = limit; active = b; waiting = l; stopped = t; added = added } in q) waiting
    ∙ ap (λ (l : List Stopped). let q : QueueLists = record { limit = limit; active = b; waiting = x; stopped = l; added = added } in q) stopped

-- what the parts are after a step
pub record Became (limit : ℕ) (new : QueueParts) (lists : QueueLists) (gid : Gid) (standing : Option Status) : Type 0 where
  pub parts_are : AreParts new
  pub lists_are : lists_of limit new ≡ lists
  pub status : status_of (lists_of limit new) gid ≡ standing

-- the parts of a queue, a download of it and its number
pub record Place (limit : ℕ) (parts : QueueParts) (gid : Gid) (n : ℕ) : Type 0 where
  pub are : AreParts parts
  pub its : IsNumber parts.added gid n

pub within : (limit : ℕ) (parts : QueueParts) (gid : Gid) (n : ℕ) → Place limit parts gid n → n ≤ length parts.standings
within limit parts gid n at = omega (arith, at.its.within, at.are.many)

pub stood : (limit : ℕ) (parts : QueueParts) (gid : Gid) (n : ℕ) (standing : Option Status) → Place limit parts gid n
    → status_of (lists_of limit parts) gid ≡ standing → standing_at parts.standings n ≡ standing
stood limit parts gid n standing at is = sym (status_is limit parts at.are gid n at.its) ∙ is

pub stands_now : (limit : ℕ) (parts new : QueueParts) (gid : Gid) (n : ℕ) (standing : Option Status) → Place limit parts gid n
    → AreParts new → new.added ≡ parts.added → new.standings ≡ set parts.standings (n - 1) standing
    → status_of (lists_of limit new) gid ≡ standing
stands_now limit parts new gid n standing at are added standings =
    status_is limit new are gid n (subst (λ (l : List Added). IsNumber l gid n) (sym added) at.its)
    ∙ ap (λ (l : List (Option Status)). standing_at l n) standings
    ∙ marked_there parts.standings n standing at.its.counts (within limit parts gid n at)

-- an active download leaves its list
pub left_active : (limit : ℕ) (parts : QueueParts) (gid : Gid) (n : ℕ) (active : List ℕ) → Place limit parts gid n
    → status_of (lists_of limit parts) gid ≡ Some Active → active ≡ remove parts.active (number_place parts.active n)
    → NoneTwice (0 ∷ active) → ((m : ℕ) → lists_number active m ≡ (not (m == n) && lists_number parts.active m))
    → Became limit record parts { active = active; standings = set parts.standings (n - 1) None }
    record (lists_of limit parts) {
      active = remove (lists_of limit parts).active (active_place gid (lists_of limit parts).active);
    } gid None
left_active limit parts gid n active at status is apart listed =
    let are = at.are in
    let counts = at.its.counts in
    let in_all = within limit parts gid n at in
    let stood_so = stood limit parts gid n (Some Active) at status in
    let not_waiting : lists_number parts.waiting n ≡ false = are.waiting_are n counts ∙ ap stands_queued stood_so in
    let not_stopped : lists_number parts.stopped n ≡ false = are.stopped_are n counts ∙ ap stands_stopped stood_so in
    let new : AreParts record parts { active = active; standings = set parts.standings (n - 1) None } = record {
      many = length-set parts.standings (n - 1) None ∙ are.many;
      few = are.few;
      apart = are.apart;
      active_apart = apart;
      waiting_apart = are.waiting_apart;
      stopped_apart = are.stopped_apart;
      active_are = are_less stands_active parts.standings parts.active active n None counts in_all are.active_are listed refl;
      waiting_are = are_kept stands_queued parts.standings parts.waiting n None counts in_all are.waiting_are (ap stands_queued stood_so);
      ready_are = are.ready_are ∙ sym (ready_same parts.standings n None parts.waiting counts (waiting_numbers parts are) not_waiting);
      stopped_are = are_kept stands_stopped parts.standings parts.stopped n None counts in_all are.stopped_are (ap stands_stopped stood_so);
    } in
    record {
      parts_are = new;
      lists_are = same_lists limit parts.added _ _ _ _ _ _
          (ap (map (gid_numbered parts.added)) is ∙ map_removed (gid_numbered parts.added) parts.active (number_place parts.active n)
          ∙ ap (remove (map (gid_numbered parts.added) parts.active)) (sym (active_place_is parts are gid n at.its)))
          (queued_same parts.added parts.standings n None parts.waiting counts (waiting_numbers parts are) not_waiting)
          (stopped_same parts.added parts.standings n None parts.stopped counts (stopped_numbers parts are) not_stopped);
      status = stands_now limit parts record parts { active = active; standings = set parts.standings (n - 1) None } gid n None at new refl refl;
    }

-- a stopped download leaves its list
pub left_stopped : (limit : ℕ) (parts : QueueParts) (gid : Gid) (n : ℕ) (stopped : List ℕ) → Place limit parts gid n
    → stands_stopped (status_of (lists_of limit parts) gid) ≡ true → stopped ≡ remove parts.stopped (number_place parts.stopped n)
    → NoneTwice (0 ∷ stopped) → ((m : ℕ) → lists_number stopped m ≡ (not (m == n) && lists_number parts.stopped m))
    → Became limit record parts { stopped = stopped; standings = set parts.standings (n - 1) None }
    record (lists_of limit parts) {
      stopped = remove (lists_of limit parts).stopped (stopped_place gid (lists_of limit parts).stopped);
    } gid None
left_stopped limit parts gid n stopped at status is apart listed =
    let are = at.are in
    let counts = at.its.counts in
    let in_all = within limit parts gid n at in
    let s = standing_at parts.standings n in
    let stood_so : stands_stopped s ≡ true = ap stands_stopped (sym (status_is limit parts are gid n at.its)) ∙ status in
    let not_active_s = stopped_only s stood_so in
    let not_active : lists_number parts.active n ≡ false = are.active_are n counts ∙ not_active_s.0 in
    let not_waiting : lists_number parts.waiting n ≡ false = are.waiting_are n counts ∙ not_active_s.1 in
    let gone : lists_number stopped n ≡ false = listed n ∙ ap (λ b. not b && lists_number parts.stopped n) (eq-eqb n n refl) in
    let new : AreParts record parts { stopped = stopped; standings = set parts.standings (n - 1) None } = record {
      many = length-set parts.standings (n - 1) None ∙ are.many;
      few = are.few;
      apart = are.apart;
      active_apart = are.active_apart;
      waiting_apart = are.waiting_apart;
      stopped_apart = apart;
      active_are = are_kept stands_active parts.standings parts.active n None counts in_all are.active_are not_active_s.0;
      waiting_are = are_kept stands_queued parts.standings parts.waiting n None counts in_all are.waiting_are not_active_s.1;
      ready_are = are.ready_are ∙ sym (ready_same parts.standings n None parts.waiting counts (waiting_numbers parts are) not_waiting);
      stopped_are = are_less stands_stopped parts.standings parts.stopped stopped n None counts in_all are.stopped_are listed refl;
    } in
    let less_numbers : AreNumbersOf parts.standings stopped = λ m there.
    stopped_numbers parts are m (and_right (not (m == n)) (lists_number parts.stopped m) (sym (listed m) ∙ there)) in
    record {
      parts_are = new;
      lists_are = same_lists limit parts.added _ _ _ _ _ _ refl
          (queued_same parts.added parts.standings n None parts.waiting counts (waiting_numbers parts are) not_waiting)
          (stopped_same parts.added parts.standings n None stopped counts less_numbers gone
          ∙ ap (map (stopped_download parts.added parts.standings)) is
          ∙ map_removed (stopped_download parts.added parts.standings) parts.stopped (number_place parts.stopped n)
          ∙ ap (remove (map (stopped_download parts.added parts.standings) parts.stopped)) (sym (stopped_place_is parts are gid n at.its)));
      status = stands_now limit parts record parts { stopped = stopped; standings = set parts.standings (n - 1) None } gid n None at new refl refl;
    } where
      and_right : (a b : Bool) → (a && b) ≡ true → b ≡ true
      and_right true b any = any
      and_right false b any = cc

      stopped_only : (s : Option Status) → stands_stopped s ≡ true → (stands_active s ≡ false) × (stands_queued s ≡ false)
      stopped_only None any = cc
      stopped_only (Some Active) any = cc
      stopped_only (Some Waiting) any = cc
      stopped_only (Some Paused) any = cc
      stopped_only (Some other) any = (refl, refl)

-- a waiting or paused download leaves its list
pub left_waiting : (limit : ℕ) (parts : QueueParts) (gid : Gid) (n : ℕ) (waiting ready : List ℕ) → Place limit parts gid n
    → stands_queued (status_of (lists_of limit parts) gid) ≡ true → waiting ≡ remove parts.waiting (number_place parts.waiting n)
    → NoneTwice (0 ∷ waiting) → ((m : ℕ) → lists_number waiting m ≡ (not (m == n) && lists_number parts.waiting m))
    → ready ≡ cond (stands_ready (standing_at parts.standings n)) (remove parts.ready (number_place parts.ready n)) parts.ready
    → Became limit record parts { waiting = waiting; ready = ready; standings = set parts.standings (n - 1) None }
    record (lists_of limit parts) {
      waiting = remove (lists_of limit parts).waiting (queued_place gid (lists_of limit parts).waiting);
    } gid None
left_waiting limit parts gid n waiting ready at status is apart listed ready_is =
    let are = at.are in
    let counts = at.its.counts in
    let in_all = within limit parts gid n at in
    let s = standing_at parts.standings n in
    let stood_so : stands_queued s ≡ true = ap stands_queued (sym (status_is limit parts are gid n at.its)) ∙ status in
    let only = queued_only s stood_so in
    let not_active : lists_number parts.active n ≡ false = are.active_are n counts ∙ only.0 in
    let not_stopped : lists_number parts.stopped n ≡ false = are.stopped_are n counts ∙ only.1 in
    let there : lists_number parts.waiting n ≡ true = are.waiting_are n counts ∙ stood_so in
    let gone : lists_number waiting n ≡ false = listed n ∙ ap (λ b. not b && lists_number parts.waiting n) (eq-eqb n n refl) in
    let old = λ (m : ℕ). stands_ready (standing_at parts.standings m) in
    let now = λ (m : ℕ). stands_ready (standing_at (set parts.standings (n - 1) None) m) in
    let others : (m : ℕ) → lists_number parts.waiting m ≡ true → (m == n) ≡ false → now m ≡ old m =
    λ m here other. ap stands_ready (stays parts.standings n m None counts (waiting_numbers parts are m here).0 other) in
    let ready_now : ready ≡ filter now waiting = ready_is
    ∙ ap (λ l. cond (stands_ready s) (remove l (number_place l n)) l) are.ready_are
    ∙ left_ready (stands_ready s) old now refl there others ∙ ap (filter now) (sym is) in
    let new : AreParts record parts { waiting = waiting; ready = ready; standings = set parts.standings (n - 1) None } = record {
      many = length-set parts.standings (n - 1) None ∙ are.many;
      few = are.few;
      apart = are.apart;
      active_apart = are.active_apart;
      waiting_apart = apart;
      stopped_apart = are.stopped_apart;
      active_are = are_kept stands_active parts.standings parts.active n None counts in_all are.active_are only.0;
      waiting_are = are_less stands_queued parts.standings parts.waiting waiting n None counts in_all are.waiting_are listed refl;
      ready_are = ready_now;
      stopped_are = are_kept stands_stopped parts.standings parts.stopped n None counts in_all are.stopped_are only.1;
    } in
    let less_numbers : AreNumbersOf parts.standings waiting = λ m here.
    waiting_numbers parts are m (and_right (not (m == n)) (lists_number parts.waiting m) (sym (listed m) ∙ here)) in
    record {
      parts_are = new;
      lists_are = same_lists limit parts.added _ _ _ _ _ _ refl
          (queued_same parts.added parts.standings n None waiting counts less_numbers gone
          ∙ ap (map (queued_download parts.added parts.standings)) is
          ∙ map_removed (queued_download parts.added parts.standings) parts.waiting (number_place parts.waiting n)
          ∙ ap (remove (map (queued_download parts.added parts.standings) parts.waiting)) (sym (queued_place_is parts are gid n at.its)))
          (stopped_same parts.added parts.standings n None parts.stopped counts (stopped_numbers parts are) not_stopped);
      status = stands_now limit parts record parts { waiting = waiting; ready = ready; standings = set parts.standings (n - 1) None }
          gid n None at new refl refl;
    } where
      and_right : (a b : Bool) → (a && b) ≡ true → b ≡ true
      and_right true b any = any
      and_right false b any = cc

      queued_only : (s : Option Status) → stands_queued s ≡ true → (stands_active s ≡ false) × (stands_stopped s ≡ false)
      queued_only None any = cc
      queued_only (Some Waiting) any = (refl, refl)
      queued_only (Some Paused) any = (refl, refl)
      queued_only (Some other) any = cc

      left_ready : (b : Bool) (p q : ℕ → Bool) → p n ≡ b → lists_number parts.waiting n ≡ true
          → ((m : ℕ) → lists_number parts.waiting m ≡ true → (m == n) ≡ false → q m ≡ p m)
          → cond b (remove (filter p parts.waiting) (number_place (filter p parts.waiting) n)) (filter p parts.waiting)
          ≡ filter q (remove parts.waiting (number_place parts.waiting n))
      left_ready true p q is there others = sym (ready_gone p q parts.waiting n at.are.waiting_apart.1 there is others)
      left_ready false p q is there others = sym (other_gone p q parts.waiting n at.are.waiting_apart.1 there is others)

-- a download comes to the end of the active ones
pub came_active : (limit : ℕ) (parts : QueueParts) (gid : Gid) (n : ℕ) (active : List ℕ) → Place limit parts gid n
    → status_of (lists_of limit parts) gid ≡ None → active ≡ parts.active ++ n ∷ []
    → NoneTwice (0 ∷ active) → ((m : ℕ) → lists_number active m ≡ ((m == n) || lists_number parts.active m))
    → Became limit record parts { active = active; standings = set parts.standings (n - 1) (Some Active) }
    record (lists_of limit parts) { active = (lists_of limit parts).active ++ gid ∷ [] } gid (Some Active)
came_active limit parts gid n active at status is apart listed =
    let are = at.are in
    let counts = at.its.counts in
    let in_all = within limit parts gid n at in
    let stood_so = stood limit parts gid n None at status in
    let not_waiting : lists_number parts.waiting n ≡ false = are.waiting_are n counts ∙ ap stands_queued stood_so in
    let not_stopped : lists_number parts.stopped n ≡ false = are.stopped_are n counts ∙ ap stands_stopped stood_so in
    let new : AreParts record parts { active = active; standings = set parts.standings (n - 1) (Some Active) } = record {
      many = length-set parts.standings (n - 1) (Some Active) ∙ are.many;
      few = are.few;
      apart = are.apart;
      active_apart = apart;
      waiting_apart = are.waiting_apart;
      stopped_apart = are.stopped_apart;
      active_are = are_more stands_active parts.standings parts.active active n (Some Active) counts in_all are.active_are listed refl;
      waiting_are = are_kept stands_queued parts.standings parts.waiting n (Some Active) counts in_all are.waiting_are (ap stands_queued stood_so);
      ready_are = are.ready_are ∙ sym (ready_same parts.standings n (Some Active) parts.waiting counts (waiting_numbers parts are) not_waiting);
      stopped_are = are_kept stands_stopped parts.standings parts.stopped n (Some Active) counts in_all are.stopped_are (ap stands_stopped stood_so);
    } in
    record {
      parts_are = new;
      lists_are = same_lists limit parts.added _ _ _ _ _ _
          (ap (map (gid_numbered parts.added)) is ∙ map-append (gid_numbered parts.added) parts.active (n ∷ [])
          ∙ ap (λ g. map (gid_numbered parts.added) parts.active ++ g ∷ []) at.its.gid_is)
          (queued_same parts.added parts.standings n (Some Active) parts.waiting counts (waiting_numbers parts are) not_waiting)
          (stopped_same parts.added parts.standings n (Some Active) parts.stopped counts (stopped_numbers parts are) not_stopped);
      status = stands_now limit parts record parts { active = active; standings = set parts.standings (n - 1) (Some Active) }
          gid n (Some Active) at new refl refl;
    }

-- a download comes to the end of the stopped ones
pub came_stopped : (limit : ℕ) (parts : QueueParts) (gid : Gid) (n : ℕ) (stopped : List ℕ) (end : Ending) → Place limit parts gid n
    → status_of (lists_of limit parts) gid ≡ None → stopped ≡ parts.stopped ++ n ∷ []
    → NoneTwice (0 ∷ stopped) → ((m : ℕ) → lists_number stopped m ≡ ((m == n) || lists_number parts.stopped m))
    → Became limit record parts { stopped = stopped; standings = set parts.standings (n - 1) (Some (ended_status end)) }
    record (lists_of limit parts) { stopped = (lists_of limit parts).stopped ++ record { gid = gid; ending = end } ∷ [] }
    gid (Some (ended_status end))
came_stopped limit parts gid n stopped end at status is apart listed =
    let are = at.are in
    let counts = at.its.counts in
    let in_all = within limit parts gid n at in
    let standing : Option Status = Some (ended_status end) in
    let only = ended_only end in
    let stood_so = stood limit parts gid n None at status in
    let not_waiting : lists_number parts.waiting n ≡ false = are.waiting_are n counts ∙ ap stands_queued stood_so in
    let not_stopped : lists_number parts.stopped n ≡ false = are.stopped_are n counts ∙ ap stands_stopped stood_so in
    let new : AreParts record parts { stopped = stopped; standings = set parts.standings (n - 1) standing } = record {
      many = length-set parts.standings (n - 1) standing ∙ are.many;
      few = are.few;
      apart = are.apart;
      active_apart = are.active_apart;
      waiting_apart = are.waiting_apart;
      stopped_apart = apart;
      active_are = are_kept stands_active parts.standings parts.active n standing counts in_all are.active_are (ap stands_active stood_so ∙ sym only.0);
      waiting_are = are_kept stands_queued parts.standings parts.waiting n standing counts in_all are.waiting_are (ap stands_queued stood_so ∙ sym only.1);
      ready_are = are.ready_are ∙ sym (ready_same parts.standings n standing parts.waiting counts (waiting_numbers parts are) not_waiting);
      stopped_are = are_more stands_stopped parts.standings parts.stopped stopped n standing counts in_all are.stopped_are listed only.2;
    } in
    let there = marked_there parts.standings n standing counts in_all in
    let stopped_at_n : stopped_download parts.added (set parts.standings (n - 1) standing) n ≡ record { gid = gid; ending = end } =
    ap (λ (g : Gid). let d : Stopped = record { gid = g; ending = ending_by_standing (standing_at (set parts.standings (n - 1) standing) n) } in d) at.its.gid_is
    ∙ ap (λ s. let d : Stopped = record { gid = gid; ending = ending_by_standing s } in d) there
    ∙ ap (λ (e : Ending). let d : Stopped = record { gid = gid; ending = e } in d) only.3 in
    record {
      parts_are = new;
      lists_are = same_lists limit parts.added _ _ _ _ _ _ refl
          (queued_same parts.added parts.standings n standing parts.waiting counts (waiting_numbers parts are) not_waiting)
          (ap (map (stopped_download parts.added (set parts.standings (n - 1) standing))) is
          ∙ map-append (stopped_download parts.added (set parts.standings (n - 1) standing)) parts.stopped (n ∷ [])
          ∙ ap (λ l. l ++ stopped_download parts.added (set parts.standings (n - 1) standing) n ∷ [])
          (stopped_same parts.added parts.standings n standing parts.stopped counts (stopped_numbers parts are) not_stopped)
          ∙ ap (λ d. map (stopped_download parts.added parts.standings) parts.stopped ++ d ∷ []) stopped_at_n);
      status = stands_now limit parts record parts { stopped = stopped; standings = set parts.standings (n - 1) standing }
          gid n standing at new refl refl;
    } where
      ended_only : (end : Ending) → (stands_active (Some (ended_status end)) ≡ false) × (stands_queued (Some (ended_status end)) ≡ false)
          × (stands_stopped (Some (ended_status end)) ≡ true) × (ending_by_standing (Some (ended_status end)) ≡ end)
      ended_only ending.Failed = (refl, refl, refl, refl)
      ended_only ending.Complete = (refl, refl, refl, refl)
      ended_only ending.Removed = (refl, refl, refl, refl)

-- a download comes among the waiting ones, to stand as it says
came_queued : (limit : ℕ) (parts : QueueParts) (gid : Gid) (n : ℕ) (waiting ready : List ℕ) (i : ℕ) (status : Status)
    → Place limit parts gid n → status_of (lists_of limit parts) gid ≡ None → waiting ≡ insert parts.waiting i n
    → NoneTwice (0 ∷ waiting) → ((m : ℕ) → lists_number waiting m ≡ ((m == n) || lists_number parts.waiting m))
    → stands_queued (Some status) ≡ true → stands_active (Some status) ≡ false → stands_stopped (Some status) ≡ false
    → ready ≡ filter (λ m. stands_ready (standing_at (set parts.standings (n - 1) (Some status)) m)) waiting
    → Became limit record parts { waiting = waiting; ready = ready; standings = set parts.standings (n - 1) (Some status) }
    record (lists_of limit parts) {
      waiting = insert (lists_of limit parts).waiting i record { gid = gid; paused = not (stands_ready (Some status)) };
    } gid (Some status)
came_queued limit parts gid n waiting ready i status at absent is apart listed queued active stopped ready_is =
    let are = at.are in
    let counts = at.its.counts in
    let in_all = within limit parts gid n at in
    let standing : Option Status = Some status in
    let stood_so = stood limit parts gid n None at absent in
    let not_waiting : lists_number parts.waiting n ≡ false = are.waiting_are n counts ∙ ap stands_queued stood_so in
    let not_stopped : lists_number parts.stopped n ≡ false = are.stopped_are n counts ∙ ap stands_stopped stood_so in
    let new : AreParts record parts { waiting = waiting; ready = ready; standings = set parts.standings (n - 1) standing } = record {
      many = length-set parts.standings (n - 1) standing ∙ are.many;
      few = are.few;
      apart = are.apart;
      active_apart = are.active_apart;
      waiting_apart = apart;
      stopped_apart = are.stopped_apart;
      active_are = are_kept stands_active parts.standings parts.active n standing counts in_all are.active_are (ap stands_active stood_so ∙ sym active);
      waiting_are = are_more stands_queued parts.standings parts.waiting waiting n standing counts in_all are.waiting_are listed queued;
      ready_are = ready_is;
      stopped_are = are_kept stands_stopped parts.standings parts.stopped n standing counts in_all are.stopped_are (ap stands_stopped stood_so ∙ sym stopped);
    } in
    let now = queued_download parts.added (set parts.standings (n - 1) standing) in
    let there = marked_there parts.standings n standing counts in_all in
    let queued_n : now n ≡ record { gid = gid; paused = not (stands_ready standing) } =
    ap (λ (g : Gid). let d : Queued = record { gid = g; paused = not (stands_ready (standing_at (set parts.standings (n - 1) standing) n)) } in d) at.its.gid_is
    ∙ ap (λ s. let d : Queued = record { gid = gid; paused = not (stands_ready s) } in d) there in
    record {
      parts_are = new;
      lists_are = same_lists limit parts.added _ _ _ _ _ _ refl
          (ap (map now) is ∙ map_inserted now parts.waiting i n
          ∙ ap (λ l. insert l i (now n)) (queued_same parts.added parts.standings n standing parts.waiting counts (waiting_numbers parts are) not_waiting)
          ∙ ap (λ d. insert (map (queued_download parts.added parts.standings) parts.waiting) i d) queued_n)
          (stopped_same parts.added parts.standings n standing parts.stopped counts (stopped_numbers parts are) not_stopped);
      status = stands_now limit parts record parts { waiting = waiting; ready = ready; standings = set parts.standings (n - 1) standing }
          gid n standing at new refl refl;
    }

others_same : (limit : ℕ) (parts : QueueParts) (gid : Gid) (n : ℕ) (standing : Option Status) → Place limit parts gid n
    → status_of (lists_of limit parts) gid ≡ None → (m : ℕ) → lists_number parts.waiting m ≡ true
    → stands_ready (standing_at (set parts.standings (n - 1) standing) m) ≡ stands_ready (standing_at parts.standings m)
others_same limit parts gid n standing at absent m there =
    ap stands_ready (others_stay parts.standings n standing parts.waiting at.its.counts (waiting_numbers parts at.are)
    (at.are.waiting_are n at.its.counts ∙ ap stands_queued (stood limit parts gid n None at absent)) m there)

pub came_paused : (limit : ℕ) (parts : QueueParts) (gid : Gid) (n : ℕ) (waiting : List ℕ) (i : ℕ)
    → Place limit parts gid n → status_of (lists_of limit parts) gid ≡ None → waiting ≡ insert parts.waiting i n
    → NoneTwice (0 ∷ waiting) → ((m : ℕ) → lists_number waiting m ≡ ((m == n) || lists_number parts.waiting m))
    → Became limit record parts { waiting = waiting; standings = set parts.standings (n - 1) (Some Paused) }
    record (lists_of limit parts) {
      waiting = insert (lists_of limit parts).waiting i record { gid = gid; paused = true };
    } gid (Some Paused)
came_paused limit parts gid n waiting i at absent is apart listed =
    let there = marked_there parts.standings n (Some Paused) at.its.counts (within limit parts gid n at) in
    came_queued limit parts gid n waiting parts.ready i Paused at absent is apart listed refl refl refl
    (at.are.ready_are ∙ sym (ap (filter (λ m. stands_ready (standing_at (set parts.standings (n - 1) (Some Paused)) m))) is
    ∙ other_comes (λ m. stands_ready (standing_at parts.standings m))
    (λ m. stands_ready (standing_at (set parts.standings (n - 1) (Some Paused)) m)) parts.waiting i n (ap stands_ready there)
    (others_same limit parts gid n (Some Paused) at absent)))

pub came_ready : (limit : ℕ) (parts : QueueParts) (gid : Gid) (n : ℕ) (waiting ready : List ℕ) (i other : ℕ)
    → Place limit parts gid n → status_of (lists_of limit parts) gid ≡ None → waiting ≡ insert parts.waiting i n
    → i ≤ length parts.waiting
    → NoneTwice (0 ∷ waiting) → ((m : ℕ) → lists_number waiting m ≡ ((m == n) || lists_number parts.waiting m))
    → ready ≡ insert parts.ready (number_place parts.ready other) n
    → number_place parts.ready other ≡ length (filter (λ m. stands_ready (standing_at parts.standings m)) (take i parts.waiting))
    → Became limit record parts { waiting = waiting; ready = ready; standings = set parts.standings (n - 1) (Some Waiting) }
    record (lists_of limit parts) {
      waiting = insert (lists_of limit parts).waiting i record { gid = gid; paused = false };
    } gid (Some Waiting)
came_ready limit parts gid n waiting ready i other at absent is most apart listed ready_is place =
    let there = marked_there parts.standings n (Some Waiting) at.its.counts (within limit parts gid n at) in
    let old = λ (m : ℕ). stands_ready (standing_at parts.standings m) in
    let now = λ (m : ℕ). stands_ready (standing_at (set parts.standings (n - 1) (Some Waiting)) m) in
    came_queued limit parts gid n waiting ready i Waiting at absent is apart listed refl refl refl
    (ready_is ∙ ap (λ k. insert parts.ready k n) place
    ∙ ap (λ l. insert l (length (filter old (take i parts.waiting))) n) at.are.ready_are
    ∙ sym (ap (filter now) is ∙ ready_comes old now parts.waiting i n (ap stands_ready there) most
    (others_same limit parts gid n (Some Waiting) at absent)))

-- a waiting download is paused in its place
set_tested : {X : Type 0} (b : Bool) (f g : ℕ → X) (y : ℕ) (numbers : List ℕ) (n : ℕ) → (n == y) ≡ b → lists_number numbers y ≡ false
    → ((m : ℕ) → lists_number (y ∷ numbers) m ≡ true → (m == n) ≡ false → f m ≡ g m)
    → (lists_number numbers n ≡ true → map f numbers ≡ set (map g numbers) (number_place numbers n) (f n))
    → (b || lists_number numbers n) ≡ true
    → map f (y ∷ numbers) ≡ set (map g (y ∷ numbers)) (cond (not b) (1 + number_place numbers n) 0) (f n)
set_tested true f g y numbers n is apart others rest listed =
    ap (λ k. f k ∷ map f numbers) (sym (eqb-true n y is))
    ∙ ap (λ l. f n ∷ l) (map_same f g numbers (λ m there. others m (rest_listed y numbers m there)
    (other_number numbers n m (ap (lists_number numbers) (eqb-true n y is) ∙ apart) there)))
set_tested false f g y numbers n is apart others rest listed =
    let one : 1 + number_place numbers n ≡ suc (number_place numbers n) = omega arith in
    let kept = others y (first_listed y numbers) (ne_eqb y n (λ same. eqb-false n y is (sym same))) in
    ap (λ h. h ∷ map f numbers) kept ∙ ap (λ l. g y ∷ l) (rest listed)
    ∙ ap (λ k. set (map g (y ∷ numbers)) k (f n)) (sym one)

map_set : {X : Type 0} (f g : ℕ → X) (numbers : List ℕ) (n : ℕ) → NoneTwice numbers → lists_number numbers n ≡ true
    → ((m : ℕ) → lists_number numbers m ≡ true → (m == n) ≡ false → f m ≡ g m)
    → map f numbers ≡ set (map g numbers) (number_place numbers n) (f n)
map_set f g [] n apart listed others = cc
map_set f g (y ∷ numbers) n apart listed others =
    set_tested (n == y) f g y numbers n refl apart.0 others
    (λ there. map_set f g numbers n apart.1 there (λ m here. others m (rest_listed y numbers m here))) listed

pub paused_there : (limit : ℕ) (parts : QueueParts) (gid : Gid) (n : ℕ) (ready : List ℕ) → Place limit parts gid n
    → status_of (lists_of limit parts) gid ≡ Some Waiting → ready ≡ remove parts.ready (number_place parts.ready n)
    → Became limit record parts { ready = ready; standings = set parts.standings (n - 1) (Some Paused) }
    record (lists_of limit parts) { waiting = with_pause true gid (lists_of limit parts).waiting } gid (Some Paused)
paused_there limit parts gid n ready at status is =
    let are = at.are in
    let counts = at.its.counts in
    let in_all = within limit parts gid n at in
    let standing : Option Status = Some Paused in
    let stood_so = stood limit parts gid n (Some Waiting) at status in
    let there : lists_number parts.waiting n ≡ true = are.waiting_are n counts ∙ ap stands_queued stood_so in
    let not_stopped : lists_number parts.stopped n ≡ false = are.stopped_are n counts ∙ ap stands_stopped stood_so in
    let old = λ (m : ℕ). stands_ready (standing_at parts.standings m) in
    let now = λ (m : ℕ). stands_ready (standing_at (set parts.standings (n - 1) standing) m) in
    let marked = marked_there parts.standings n standing counts in_all in
    let others : (m : ℕ) → lists_number parts.waiting m ≡ true → (m == n) ≡ false
    → standing_at (set parts.standings (n - 1) standing) m ≡ standing_at parts.standings m =
    λ m here other. stays parts.standings n m standing counts (waiting_numbers parts are m here).0 other in
    let new : AreParts record parts { ready = ready; standings = set parts.standings (n - 1) standing } = record {
      many = length-set parts.standings (n - 1) standing ∙ are.many;
      few = are.few;
      apart = are.apart;
      active_apart = are.active_apart;
      waiting_apart = are.waiting_apart;
      stopped_apart = are.stopped_apart;
      active_are = are_kept stands_active parts.standings parts.active n standing counts in_all are.active_are (ap stands_active stood_so);
      waiting_are = are_kept stands_queued parts.standings parts.waiting n standing counts in_all are.waiting_are (ap stands_queued stood_so);
      ready_are = is ∙ ap (λ l. remove l (number_place l n)) are.ready_are
          ∙ sym (ready_paused old now parts.waiting n are.waiting_apart.1 there (ap stands_ready stood_so) (ap stands_ready marked)
          (λ m here other. ap stands_ready (others m here other)));
      stopped_are = are_kept stands_stopped parts.standings parts.stopped n standing counts in_all are.stopped_are (ap stands_stopped stood_so);
    } in
    let f = queued_download parts.added (set parts.standings (n - 1) standing) in
    let g = queued_download parts.added parts.standings in
    let paused_n : f n ≡ record { gid = gid; paused = true } =
    ap (λ (h : Gid). let d : Queued = record { gid = h; paused = not (stands_ready (standing_at (set parts.standings (n - 1) standing) n)) } in d) at.its.gid_is
    ∙ ap (λ s. let d : Queued = record { gid = gid; paused = not (stands_ready s) } in d) marked in
    record {
      parts_are = new;
      lists_are = same_lists limit parts.added _ _ _ _ _ _ refl
          (map_set f g parts.waiting n are.waiting_apart.1 there
          (λ m here other. ap (λ s. let q : Queued = record { gid = gid_numbered parts.added m; paused = not (stands_ready s) } in q) (others m here other))
          ∙ ap (λ k. set (map g parts.waiting) k (f n)) (sym (queued_place_is parts are gid n at.its))
          ∙ ap (λ d. set (map g parts.waiting) (queued_place gid (map g parts.waiting)) d) paused_n)
          (stopped_same parts.added parts.standings n standing parts.stopped counts (stopped_numbers parts are) not_stopped);
      status = stands_now limit parts record parts { ready = ready; standings = set parts.standings (n - 1) standing }
          gid n standing at new refl refl;
    }

-- a waiting download that isn't paused is among the ready ones
pub ready_there : (limit : ℕ) (parts : QueueParts) (gid : Gid) (n : ℕ) → Place limit parts gid n
    → standing_at parts.standings n ≡ Some Waiting → lists_number parts.ready n ≡ true
ready_there limit parts gid n at is =
    ap (λ l. lists_number l n) at.are.ready_are
    ∙ listed_passing (λ m. stands_ready (standing_at parts.standings m)) parts.waiting n
    (at.are.waiting_are n at.its.counts ∙ ap stands_queued is) (ap stands_ready is)

-- before which of the ready ones a download comes that comes to a place
pub record OtherAt (parts : QueueParts) (i other : ℕ) : Type 0 where
  pub listed : is_listed_or_end parts.ready other ≡ true
  pub place : number_place parts.ready other ≡ length (filter (λ m. stands_ready (standing_at parts.standings m)) (take i parts.waiting))

pub other_first : (parts : QueueParts) (other i : ℕ) → other ≡ unwrap_or (slice_get parts.ready 0) 0 → i ≡ 0 → OtherAt parts i other
other_first parts other i is at =
    subst (λ (k : ℕ). OtherAt parts k other) (sym at) record {
      listed = ap (is_listed_or_end parts.ready) is ∙ first_is_listed parts.ready;
      place = ap (number_place parts.ready) is ∙ first_place parts.ready;
    }

pub other_behind : (parts : QueueParts) → AreParts parts → (other i : ℕ)
    → other ≡ unwrap_or (find (λ m. stands_ready (standing_at parts.standings m)) (drop i parts.waiting)) 0 → OtherAt parts i other
other_behind parts are other i is =
    let q = λ (m : ℕ). stands_ready (standing_at parts.standings m) in
    let x = unwrap_or (find q (drop i parts.waiting)) 0 in
    record {
      listed = ap (is_listed_or_end parts.ready) is ∙ ap (λ l. is_listed_or_end l x) are.ready_are ∙ ready_is_listed q parts.waiting i;
      place = ap (number_place parts.ready) is ∙ ap (λ l. number_place l x) are.ready_are
          ∙ ready_place q parts.waiting i are.waiting_apart.0 are.waiting_apart.1;
    }
