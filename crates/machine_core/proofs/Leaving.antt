-- Which downloads leave the active list by a call.
use Rattle.std.proofs.Common.{◌≡◌, ◌≢◌, ℕ, zero, suc, Bool, true, false, Option, Some, None, ◌-◌, List, [], ◌∷◌, ◌++◌, length, slice_get, refl, sym, ap, ◌∙◌}
use Rattle.std.specs.Prelude.{◌||◌, All, map, remove}
use Rattle.std.specs.List.{list_any}
use Rattle.std.proofs.lemmas.List.Elements.{All-nil, All-cons, All-head, All-tail, All-append}
use Rattle.std.proofs.lemmas.List.Folds.{find_at}
use Rattle.dl_kinds.specs.declared.gid.Gid.{Gid}
use Rattle.dl_kinds.specs.declared.status.Status.{Status}
use Rattle.dl_kinds.specs.declared.status.Status.TheVariants as status
use Rattle.dl_queue.specs.Calls.{QueueCall, after, effect, paused_from, refusal, stopped_from, unless_refused, as_paused, aside}
use Rattle.dl_queue.specs.Calls.{Pause, PauseAll, Remove, Stop}
use Rattle.dl_queue.specs.Endings.{ending_by_status}
use Rattle.dl_queue.specs.Lists.{QueueLists}
use Rattle.dl_queue.specs.Places.{active_place, is_gid, status_of}
use Rattle.dl_queue.specs.Rising.{moved_up, risen}
use Rattle.dl_queue.specs.declared.kinds.Ending.{Ending}
use Rattle.dl_queue.specs.declared.kinds.QueueErr.{QueueErr}
use Rattle.dl_queue.specs.declared.kinds.Queued.{Queued}
use Rattle.machine_core.specs.Replays.{has_active, is_same_gid}
use Rattle.machine_core.proofs.Lists.{found}
use Rattle.machine_core.proofs.Parts.{gid_is}

abbrev pub StayActive : QueueLists → QueueLists → Type 0
StayActive old new = (gid : Gid) → has_active old gid ≡ true → has_active new gid ≡ true

or_step : (t a b : Bool) → (a ≡ true → b ≡ true) → (t || a) ≡ true → (t || b) ≡ true
or_step true a b on h = refl
or_step false a b on h = on h

any_front : {A : Type 0} (p : A → Bool) (xs ys : List A) → list_any p xs ≡ true → list_any p (xs ++ ys) ≡ true
any_front p [] ys h = absurd cc
any_front p (x ∷ xs) ys h = or_step (p x) (list_any p xs) (list_any p (xs ++ ys)) (any_front p xs ys) h

-- those that are active stay so while others move up
pub rising_stays : (old new : QueueLists) → new.active ≡ old.active → StayActive old (moved_up new)
rising_stays old new same gid h =
    any_front (is_same_gid gid) new.active (risen (new.limit - length new.active) new.waiting)
    (ap (list_any (is_same_gid gid)) same ∙ h)

-- a call that leaves the active ones active, refused or not
unless_stays : (o : Option QueueErr) (old changed : QueueLists) → StayActive old changed
    → StayActive old (unless_refused o changed old)
unless_stays None old changed on gid h = on gid h
unless_stays (Some e) old changed on gid h = h

pub call_stays : (queue : QueueLists) (queue_call : QueueCall) → (effect queue queue_call).active ≡ queue.active
    → StayActive queue (after queue queue_call)
call_stays queue queue_call same =
    unless_stays (refusal queue queue_call) queue (moved_up (effect queue queue_call))
    (rising_stays queue (effect queue queue_call) same)

-- ---- one leaves

false_or : (t a : Bool) → t ≡ false → a ≡ (t || a)
false_or true a is = absurd cc
false_or false a is = refl

-- an element that doesn't pass goes
remove_any : {A : Type 0} (p : A → Bool) (xs : List A) (i : ℕ) → ((x : A) → slice_get xs i ≡ Some x → p x ≡ false)
    → list_any p (remove xs i) ≡ list_any p xs
remove_any p [] zero fails = refl
remove_any p [] (suc i) fails = refl
remove_any p (x ∷ xs) zero fails = false_or (p x) (list_any p xs) (fails x refl)
remove_any p (x ∷ xs) (suc i) fails = ap (λ (t : Bool). p x || t) (remove_any p xs i fails)

differs : (gid other x : Gid) → other ≢ gid → x ≡ gid → (t : Bool) → is_same_gid other x ≡ t → t ≡ false
differs gid other x apart is true same = absurd (apart (sym (gid_is other x same) ∙ is))
differs gid other x apart is false same = refl

-- all but the one that goes stay
pub others_stay : (gid other : Gid) (active : List Gid) → other ≢ gid
    → list_any (is_same_gid other) (remove active (active_place gid active)) ≡ list_any (is_same_gid other) active
others_stay gid other active apart =
    remove_any (is_same_gid other) active (active_place gid active)
    (λ x at.
    let f = found (is_gid gid) active x (find_at (is_gid gid) active ∙ at) in
    differs gid other x apart (gid_is gid x f.passes) (is_same_gid other x) refl)

-- what a pause or a removal does to the active list
paused_active : (st : Option Status) (gid other : Gid) (queue : QueueLists) → other ≢ gid
    → has_active (paused_from st gid queue) other ≡ has_active queue other
paused_active None gid other queue apart = refl
paused_active (Some status.Active) gid other queue apart = others_stay gid other queue.active apart
paused_active (Some status.Waiting) gid other queue apart = refl
paused_active (Some status.Paused) gid other queue apart = refl
paused_active (Some status.Failed) gid other queue apart = refl
paused_active (Some status.Complete) gid other queue apart = refl
paused_active (Some status.Removed) gid other queue apart = refl

stopped_active : (st : Option Status) (gid other : Gid) (how : Ending) (queue : QueueLists) → other ≢ gid
    → has_active (stopped_from st gid how queue) other ≡ has_active queue other
stopped_active None gid other how queue apart = refl
stopped_active (Some status.Active) gid other how queue apart = others_stay gid other queue.active apart
stopped_active (Some status.Waiting) gid other how queue apart = refl
stopped_active (Some status.Paused) gid other how queue apart = refl
stopped_active (Some status.Failed) gid other how queue apart = refl
stopped_active (Some status.Complete) gid other how queue apart = refl
stopped_active (Some status.Removed) gid other how queue apart = refl

-- .. all others stay active
rising_keeps : (old new : QueueLists) (gid : Gid) → has_active new gid ≡ has_active old gid
    → has_active old gid ≡ true → has_active (moved_up new) gid ≡ true
rising_keeps old new gid same h =
    any_front (is_same_gid gid) new.active (risen (new.limit - length new.active) new.waiting) (same ∙ h)

unless_keeps : (o : Option QueueErr) (old changed : QueueLists) (gid : Gid)
    → (has_active old gid ≡ true → has_active changed gid ≡ true)
    → has_active old gid ≡ true → has_active (unless_refused o changed old) gid ≡ true
unless_keeps None old changed gid on h = on h
unless_keeps (Some e) old changed gid on h = h

pub pause_keeps : (queue : QueueLists) (gid other : Gid) → other ≢ gid → has_active queue other ≡ true
    → has_active (after queue (Pause gid)) other ≡ true
pause_keeps queue gid other apart =
    unless_keeps (refusal queue (Pause gid)) queue (moved_up (effect queue (Pause gid))) other
    (rising_keeps queue (effect queue (Pause gid)) other
    (paused_active (status_of queue gid) gid other queue apart))

pub remove_keeps : (queue : QueueLists) (gid other : Gid) → other ≢ gid → has_active queue other ≡ true
    → has_active (after queue (Remove gid)) other ≡ true
remove_keeps queue gid other apart =
    unless_keeps (refusal queue (Remove gid)) queue (moved_up (effect queue (Remove gid))) other
    (rising_keeps queue (effect queue (Remove gid)) other
    (stopped_active (status_of queue gid) gid other (ending_by_status status.Removed) queue apart))

-- ---- all leave

none_risen : (n : ℕ) (waiting : List Queued) → All (λ (q : Queued). q.paused ≡ true) waiting → risen n waiting ≡ []
none_risen zero waiting paused = refl
none_risen (suc n) [] paused = refl
none_risen (suc n) (q ∷ waiting) paused =
    rw (All-head (λ (x : Queued). x.paused ≡ true) q waiting paused)
    (none_risen (suc n) waiting (All-tail (λ (x : Queued). x.paused ≡ true) q waiting paused))

all_paused : (waiting : List Queued) → All (λ (q : Queued). q.paused ≡ true) (map (as_paused true) waiting)
all_paused [] = All-nil (λ (q : Queued). q.paused ≡ true)
all_paused (q ∷ waiting) =
    All-cons (λ (x : Queued). x.paused ≡ true) (as_paused true q) (map (as_paused true) waiting) refl
    (all_paused waiting)

all_aside : (active : List Gid) → All (λ (q : Queued). q.paused ≡ true) (map aside active)
all_aside [] = All-nil (λ (q : Queued). q.paused ≡ true)
all_aside (gid ∷ active) =
    All-cons (λ (x : Queued). x.paused ≡ true) (aside gid) (map aside active) refl (all_aside active)

pub none_active : (queue : QueueLists) → (after queue PauseAll).active ≡ []
none_active queue =
    none_risen (queue.limit - 0) (map aside queue.active ++ map (as_paused true) queue.waiting)
    (All-append (λ (q : Queued). q.paused ≡ true) (map aside queue.active) (map (as_paused true) queue.waiting)
    (all_aside queue.active) (all_paused queue.waiting))

-- ---- what was added

-- an end adds none
pub stopped_added : (st : Option Status) (gid : Gid) (how : Ending) (queue : QueueLists)
    → (stopped_from st gid how queue).added ≡ queue.added
stopped_added None gid how queue = refl
stopped_added (Some status.Active) gid how queue = refl
stopped_added (Some status.Waiting) gid how queue = refl
stopped_added (Some status.Paused) gid how queue = refl
stopped_added (Some status.Failed) gid how queue = refl
stopped_added (Some status.Complete) gid how queue = refl
stopped_added (Some status.Removed) gid how queue = refl

unless_added : (o : Option QueueErr) (old changed : QueueLists) → changed.added ≡ old.added
    → (unless_refused o changed old).added ≡ old.added
unless_added None old changed same = same
unless_added (Some e) old changed same = refl

pub call_adds_none : (queue : QueueLists) (queue_call : QueueCall)
    → (effect queue queue_call).added ≡ queue.added → (after queue queue_call).added ≡ queue.added
call_adds_none queue queue_call same =
    unless_added (refusal queue queue_call) queue (moved_up (effect queue queue_call)) same

pub stop_adds_none : (queue : QueueLists) (gid : Gid) (st : Status) → (after queue (Stop gid st)).added ≡ queue.added
stop_adds_none queue gid st =
    call_adds_none queue (Stop gid st) (stopped_added (status_of queue gid) gid (ending_by_status st) queue)
