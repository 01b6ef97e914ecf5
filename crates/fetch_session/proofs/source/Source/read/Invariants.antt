use Rattle.std.proofs.Common.{◌≡◌, ◌-◌, ◌+◌, ◌≤◌, ◌++◌, ℕ, List, IsTrue, true, vec_len, vec_capacity}
use Rattle.link_source.specs.Endpoint.{IsUsable}
use Rattle.link_source.specs.Exchanges.{Exchange}
use Rattle.span_map.specs.declared.jobs.JobPart.{JobPart}
use Rattle.request_chain.specs.Answered.{KeepsAnswers}
use Rattle.request_chain.specs.Chains.{Gains}
use Rattle.fetch_session.specs.Sources.{IsSource, MayReadAt, RestsWholeAt, SourceAsks}
use Rattle.fetch_session.proofs.PartSteps.{ReadSoFar, turns_left}
use Rattle.fetch_session.proofs.source.Source.read.Given as goal

abbrev pub invariant-turns : goal.invariant-turns
invariant-turns g l = record {
  few : l.self.taken ≤ l.allow;
  gained_is : l.gained ≡ vec_len l.out - vec_len l.initial.out;
  within : vec_len l.out ≤ vec_len l.initial.out + l.room;
  capacity : vec_capacity l.initial.out ≤ vec_capacity l.out;
  faults : g.L.Links.faults l.initial.link ≤ g.L.Links.faults l.link;
  steps : IsTrue g.L.Links.tells → (parts : List JobPart) (before used : List Exchange) (bytes : List ℕ)
      → IsSource parts used bytes l.fn.self → Gains before (g.L.Links.state l.initial.link).exchanges used
      → (added : List ℕ) × (l.out.items ≡ l.initial.out.items ++ added)
      × ReadSoFar parts before used bytes (g.L.Links.state l.link).exchanges added l.room l.allow l.self l.came;
  answered : IsTrue g.L.Links.tells → (parts : List JobPart) (before used : List Exchange) (bytes : List ℕ)
      → IsSource parts used bytes l.fn.self → Gains before (g.L.Links.state l.initial.link).exchanges used
      → KeepsAnswers before (g.L.Links.state l.initial.link) (g.L.Links.state l.link);
  whole : IsTrue g.L.Links.tells → (parts : List JobPart) (before used : List Exchange) (bytes : List ℕ)
      → IsSource parts used bytes l.fn.self → Gains before (g.L.Links.state l.initial.link).exchanges used
      → RestsWholeAt l.fn.self.reader (g.L.Links.state l.initial.link).exchanges → RestsWholeAt l.self.reader (g.L.Links.state l.link).exchanges;
  untouched : (url : List ℕ) → SourceAsks l.fn.self url → (IsUsable url → ⊥)
      → (l.link ≡ l.initial.link) × (l.out ≡ l.initial.out) × SourceAsks l.self url × (l.gained ≡ 0) × (l.self.taken ≡ 0) × (l.came ≡ true);
  may : IsTrue g.L.Links.tells → MayReadAt l.self.reader (g.L.Links.state l.link);
}

abbrev pub decreases-turns : goal.decreases-turns
decreases-turns g l = turns_left l.self.parts l.self.place l.came
