-- The parts of a queue, and a download in it.
use Rattle.std.proofs.Common.{◌≡◌, ◌<◌, ◌≤◌, ◌-◌, ℕ, Bool, true, Option, Some, List, length, sym, ◌∙◌, ap, arith}
use Rattle.dl_kinds.specs.declared.gid.Gid.{Gid}
use Rattle.dl_kinds.specs.declared.status.Status.{Status}
use Rattle.dl_queue.specs.declared.queue.Queue.TheInside.{Inside}
use Rattle.dl_queue.specs.declared.kinds.Added.{Added}
use Rattle.dl_queue.specs.Lists.{QueueLists}
use Rattle.dl_queue.specs.Places.{status_of}
use Rattle.dl_queue.specs.Held.{number_in, standing_at, QueueParts, lists_of, AreParts}
use Rattle.dl_queue.proofs.Standing.{IsNumber, number_is, status_is}
use Rattle.dl_queue.proofs.Steps.{Place}

abbrev pub parts_of : Inside → QueueParts
parts_of q = record {
  added = q.added.items;
  standings = q.standings.items;
  active = q.active.order;
  waiting = q.waiting.order;
  ready = q.ready.order;
  stopped = q.stopped.order;
}

pub placed : (q : Inside) (now : QueueLists) (gid : Gid) (n : ℕ) → lists_of q.limit (parts_of q) ≡ now → AreParts (parts_of q)
    → number_in now.added gid ≡ Some n → Place q.limit (parts_of q) gid n
placed q now gid n view are is = record {
  are = are;
  its = number_is q.added.items gid n (ap (λ (v : QueueLists). number_in v.added gid) view ∙ is);
}

pub seen : (q : Inside) (now : QueueLists) (gid : Gid) (s : Option Status) → lists_of q.limit (parts_of q) ≡ now
    → status_of now gid ≡ s → status_of (lists_of q.limit (parts_of q)) gid ≡ s
seen q now gid s view is = ap (λ (v : QueueLists). status_of v gid) view ∙ is

pub seen_so : (test : Option Status → Bool) (q : Inside) (now : QueueLists) (gid : Gid) → lists_of q.limit (parts_of q) ≡ now
    → test (status_of now gid) ≡ true → test (status_of (lists_of q.limit (parts_of q)) gid) ≡ true
seen_so test q now gid view is = ap (λ (v : QueueLists). test (status_of v gid)) view ∙ is

pub same_parts : (a b : List Added) (s t : List (Option Status)) (i j w x r q e f : List ℕ) → a ≡ b → s ≡ t → i ≡ j → w ≡ x → r ≡ q → e ≡ f
    → (let p : QueueParts = record { added = a; standings = s; active = i; waiting = w; ready = r; stopped = e } in p)
    ≡ (let p : QueueParts = record { added = b; standings = t; active = j; waiting = x; ready = q; stopped = f } in p)
same_parts a b s t i j w x r q e f added standings active waiting ready stopped =
    ap (λ (l : List Added). let p : QueueParts = record { added = l; standings = s; active = i; waiting = w; ready = r; stopped = e } in p) added
    ∙ ap (λ (l : List (Option Status)). let p : QueueParts = record { added = b; standings = l; active = i; waiting = w; ready = r; stopped = e } in p) standings
    ∙ ap (λ (l : List ℕ). let p : QueueParts = record { added = b; standings = t; active = l; waiting = w; ready = r; stopped = e } in p) active
    ∙ ap (λ (l : List ℕ). let p : QueueParts = record { added = b; standings = t; active = j; waiting = l; ready = r; stopped = e } in p) waiting
    ∙ ap (λ (l : List ℕ). let p : QueueParts = record { added = b; standings = t; active = j; waiting = x; ready = l; stopped = e } in p) ready
    ∙ ap (λ (l : List ℕ). let p : QueueParts = record { added = b; standings = t; active = j; waiting = x; ready = q; stopped = l } in p) stopped
