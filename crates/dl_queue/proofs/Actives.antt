-- Each active download was added.
use Rattle.std.proofs.Common.{◌≡◌, ◌<◌, ◌≤◌, ℕ, true, List, [], ◌∷◌, length, map, arith}
use Rattle.std.specs.Prelude.{All}
use Rattle.std.proofs.lemmas.Bool.Decides.{nat_tests}
use Rattle.std.proofs.lemmas.List.Elements.{All-cons, All-map, All-nil}
use Rattle.dl_kinds.specs.declared.gid.Gid.{Gid}
use Rattle.number_list.specs.Order.{lists_number}
use Rattle.dl_queue.specs.Calls.{added_place, was_added}
use Rattle.dl_queue.specs.Held.{AreParts, QueueParts, gid_numbered}
use Rattle.dl_queue.proofs.Numbers.{first_listed, rest_listed}
use Rattle.dl_queue.proofs.Standing.{active_numbers, of_added}

-- what holds of each number of a list
each_number : (P : ℕ → Type 0) (numbers : List ℕ) → ((n : ℕ) → lists_number numbers n ≡ true → P n) → All P numbers
each_number P [] each = All-nil P
each_number P (x ∷ rest) each =
    All-cons P x rest (each x (first_listed x rest))
    (each_number P rest (λ n h. each n (rest_listed x rest n h)))

numbered_added : (parts : QueueParts) → AreParts parts → (number : ℕ) → 0 < number → number ≤ length parts.added
    → was_added parts.added (gid_numbered parts.added number) ≡ true
numbered_added parts are number some within =
    let e = are.apart number some within in
    let below : added_place (gid_numbered parts.added number) parts.added < length parts.added = omega arith in
    grind (arith, nat_tests)

pub active_added : (parts : QueueParts) → AreParts parts
    → All (λ (gid : Gid). was_added parts.added gid ≡ true) (map (gid_numbered parts.added) parts.active)
active_added parts are =
    let numbers = of_added parts are parts.active (active_numbers parts are) in
    All-map (λ (gid : Gid). was_added parts.added gid ≡ true) (gid_numbered parts.added) parts.active
    (each_number (λ (n : ℕ). was_added parts.added (gid_numbered parts.added n) ≡ true) parts.active
    (λ n there. let h = numbers n there in numbered_added parts are n h.0 h.1))
