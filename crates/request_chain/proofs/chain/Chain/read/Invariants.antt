use Rattle.std.proofs.Common.{◌≡◌, ◌+◌, ◌-◌, ◌*◌, ◌≤◌, ◌++◌, ℕ, List, IsTrue, length, vec_len, vec_capacity}
use Rattle.link_source.specs.Endpoint.{IsHttp}
use Rattle.link_source.specs.Exchanges.{Exchange}
use Rattle.span_map.specs.declared.jobs.JobPart.{JobPart}
use Rattle.request_chain.specs.Chains.{IsChain, Gains}
use Rattle.request_chain.specs.Answered.{KeepsAnswers}
use Rattle.request_chain.specs.Rests.{RestsWhole}
use Rattle.request_chain.specs.Turns.{AsksFor, Steps, MayGoOn, weight_of}
use Rattle.request_chain.proofs.chain.Chain.read.Given as goal

abbrev pub invariant-turns : goal.invariant-turns
invariant-turns g l = record {
  few : l.self.taken ≤ l.allow;
  gained_is : l.gained ≡ vec_len l.out - vec_len l.initial.out;
  within : vec_len l.out ≤ vec_len l.initial.out + l.room;
  capacity : vec_capacity l.initial.out ≤ vec_capacity l.out;
  faults : g.L.Links.faults l.initial.link ≤ g.L.Links.faults l.link;
  steps : IsTrue g.L.Links.tells → (parts : List JobPart) (before used : List Exchange) (bytes : List ℕ)
      → IsChain parts used bytes l.fn.self → Gains before (g.L.Links.state l.initial.link).exchanges used
      → (added : List ℕ) × (l.out.items ≡ l.initial.out.items ++ added) × Steps parts before used bytes (g.L.Links.state l.link).exchanges added 0 l.self;
  answered : IsTrue g.L.Links.tells → (parts : List JobPart) (before used : List Exchange) (bytes : List ℕ)
      → IsChain parts used bytes l.fn.self → Gains before (g.L.Links.state l.initial.link).exchanges used
      → (since : List Exchange) → length since ≤ length before → KeepsAnswers since (g.L.Links.state l.initial.link) (g.L.Links.state l.link);
  whole : IsTrue g.L.Links.tells → (parts : List JobPart) (before used : List Exchange) (bytes : List ℕ)
      → IsChain parts used bytes l.fn.self → Gains before (g.L.Links.state l.initial.link).exchanges used
      → RestsWhole l.fn.self.room (g.L.Links.state l.initial.link).exchanges → RestsWhole l.self.room (g.L.Links.state l.link).exchanges;
  untouched : (url : List ℕ) → AsksFor l.fn.self url → (IsHttp url → ⊥)
      → (l.link ≡ l.initial.link) × (l.out ≡ l.initial.out) × AsksFor l.self url × (l.gained ≡ 0) × (l.self.taken ≡ 0);
  may : IsTrue g.L.Links.tells → MayGoOn l.self (g.L.Links.state l.link);
}

abbrev pub decreases-turns : goal.decreases-turns
decreases-turns g l = weight_of l.self + 6 * (l.allow - l.self.taken)
