-- What the calls do with whole lists.
use Rattle.std.proofs.Common.{◌≡◌, ◌<◌, ◌≤◌, ◌+◌, ◌-◌, ◌==◌, ℕ, cond, get_or, take, drop, zero, suc, Bool, true, false, not, List, [], ◌∷◌, ◌++◌, length, map, Option, None, Some, refl, sym, ◌∙◌, ap, subst, arith, append_assoc, append-nil, length-append}
use Rattle.std.proofs.Math.ListN.{set, length-set}
use borrow.Author.Tests.{eqb-true}
use Rattle.std.proofs.lemmas.List.{map-append}
use Rattle.std.proofs.lemmas.List.Edits.{length-remove}
use Rattle.std.specs.List.{position_or_len}
use Rattle.std.specs.Prelude.{insert, remove}
use Rattle.dl_kinds.specs.declared.gid.Gid.{Gid}
use Rattle.dl_queue.specs.declared.kinds.Queued.{Queued}
use Rattle.dl_queue.specs.Lists.{QueueLists}
use Rattle.dl_queue.specs.Places.{is_ready, queued_place, active_place}
use Rattle.dl_queue.specs.Rising.{risen, left_waiting, moved_up}
use Rattle.dl_queue.specs.Calls.{aside, with_pause}
use Rattle.dl_queue.specs.NextUp.{MovesUp, StandsLast}
use Rattle.dl_queue.proofs.Standing.{same_gid}
use Rattle.dl_queue.proofs.Ups.{none_moves, moves_one}

there_tested : (b : Bool) (q : Queued) (waiting : List Queued) (gid : Gid) (d : Queued) → (q.gid.0 == gid.0) ≡ b
    → (queued_place gid waiting < length waiting → (get_or waiting (queued_place gid waiting) d).gid ≡ gid)
    → cond (not b) (1 + queued_place gid waiting) 0 < suc (length waiting)
    → (get_or (q ∷ waiting) (cond (not b) (1 + queued_place gid waiting) 0) d).gid ≡ gid
there_tested true q waiting gid d is rest within = same_gid q.gid gid (eqb-true q.gid.0 gid.0 is)
there_tested false q waiting gid d is rest within =
    let one : 1 + queued_place gid waiting ≡ suc (queued_place gid waiting) = omega arith in
    ap (λ k. (get_or (q ∷ waiting) k d).gid) one ∙ rest (omega (arith, within))

-- the download at a gid's place has the gid
pub queued_there : (waiting : List Queued) (gid : Gid) (d : Queued) → queued_place gid waiting < length waiting
    → (get_or waiting (queued_place gid waiting) d).gid ≡ gid
queued_there [] gid d within = let none : ⊥ = omega (arith, within) in absurd none
queued_there (q ∷ waiting) gid d within = there_tested (q.gid.0 == gid.0) q waiting gid d refl (queued_there waiting gid d) within

with_lists : (queue : QueueLists) (a b : List Gid) (w x : List Queued) → a ≡ b → w ≡ x
    → (let l : QueueLists = record queue { active = a; waiting = w } in l) ≡ (let l : QueueLists = record queue { active = b; waiting = x } in l)
with_lists queue a b w x active waiting =
    ap (λ (l : List Gid). let q : QueueLists = record queue { active = l; waiting = w } in q) active
    ∙ ap (λ (l : List Queued). let q : QueueLists = record queue { active = b; waiting = l } in q) waiting

-- one download moves up
pub moved_one : (queue : QueueLists) (gid : Gid) → MovesUp queue gid → length queue.active < queue.limit
    → moved_up record queue {
      active = queue.active ++ gid ∷ [];
      waiting = remove queue.waiting (queued_place gid queue.waiting);
    } ≡ moved_up queue
moved_one queue gid moves free =
    let any : Queued = record { gid = gid; paused = false } in
    let is = sym (queued_there queue.waiting gid any (omega (arith, moves.place, moves.within)))
    ∙ ap (λ k. (get_or queue.waiting k any).gid) moves.place in
    let one = moves_one queue.limit queue.active queue.waiting gid any free moves.within is in
    ap (λ k. moved_up record queue { active = queue.active ++ gid ∷ []; waiting = remove queue.waiting k }) moves.place
    ∙ with_lists queue _ _ _ _ one.active_is one.waiting_is

-- where none may move up or none can, all stays
pub full : (queue : QueueLists) → queue.limit ≤ length queue.active → queue ≡ moved_up queue
full queue most =
    let free : queue.limit - length queue.active ≡ 0 = omega (arith, most) in
    sym (ap (λ k. let q : QueueLists = record queue { active = queue.active ++ risen k queue.waiting; waiting = left_waiting k queue.waiting } in q) free
    ∙ with_lists queue _ _ _ _ (append-nil queue.active) refl)

pub none_left : (queue : QueueLists) → length queue.waiting ≤ position_or_len is_ready queue.waiting → queue ≡ moved_up queue
none_left queue none =
    let them = none_moves (queue.limit - length queue.active) queue.waiting none in
    sym (with_lists queue _ _ _ _ (ap (λ g. queue.active ++ g) them.up ∙ append-nil queue.active) them.left)

pub fewer : (waiting : List Queued) (i : ℕ) → i < length waiting → length (remove waiting i) < length waiting
fewer waiting i within = omega (arith, length-remove waiting i within)

-- one active download is set aside
abbrev pub all_aside : QueueLists → QueueLists
all_aside queue = record queue { active = []; waiting = map aside queue.active ++ queue.waiting }

pub one_aside : (queue : QueueLists) (gid : Gid) → StandsLast queue gid
    → all_aside record queue {
      active = remove queue.active (active_place gid queue.active);
      waiting = insert queue.waiting 0 record { gid = gid; paused = true };
    } ≡ all_aside queue
one_aside queue gid stands =
    let left = remove queue.active (active_place gid queue.active) in
    let whole = sym (append_assoc (map aside left) (aside gid ∷ []) queue.waiting)
    ∙ ap (λ l. l ++ queue.waiting) (sym (map-append aside left (gid ∷ [])) ∙ ap (map aside) stands.last) in
    ap (λ (l : List Queued). let q : QueueLists = record queue { active = []; waiting = l } in q) whole

pub last_is_fewer : (queue : QueueLists) (gid : Gid) → StandsLast queue gid
    → length (remove queue.active (active_place gid queue.active)) < length queue.active
last_is_fewer queue gid stands =
    omega (arith, ap length stands.last, length-append (remove queue.active (active_place gid queue.active)) (gid ∷ []))

-- a download that comes back to its place
pub back_in_place : {X : Type 0} (xs : List X) (i : ℕ) (x : X) → i < length xs → insert (remove xs i) i x ≡ set xs i x
back_in_place [] i x within = let none : ⊥ = omega (arith, within) in absurd none
back_in_place (y ∷ xs) zero x within = refl
back_in_place (y ∷ xs) (suc i) x within = ap (λ l. y ∷ l) (back_in_place xs i x (omega (arith, within)))
