use Rattle.std.proofs.Common.{◌≡◌, ◌≤◌, ◌-◌, false, List, IsTrue}
use Rattle.link_source.specs.Endpoint.{IsHttp}
use Rattle.link_source.specs.Exchanges.{Exchange}
use Rattle.request_chain.specs.Answered.{KeepsAnswers}
use Rattle.request_chain.specs.Chains.{Gains}
use Rattle.request_chain.specs.Probes.{At}
use Rattle.request_chain.specs.Searches.{SearchLeads}
use Rattle.request_chain.proofs.probing.probe.Given as goal

abbrev pub invariant-turns : goal.invariant-turns
invariant-turns g l = record {
  few : l.redirects ≤ 20;
  tired : l.room.rests ≡ false;
  faults : g.L.Links.faults l.initial.link ≤ g.L.Links.faults l.link;
  searched : IsTrue g.L.Links.tells → (used : List Exchange) × Gains (g.L.Links.state l.initial.link).exchanges (g.L.Links.state l.link).exchanges used
      × SearchLeads (At l.fn.url 0 0) used (At l.hop.url l.redirects l.hop.status);
  untouched : (IsHttp l.fn.url → ⊥) → (l.link ≡ l.initial.link) × (l.hop.url ≡ l.fn.url);
  answered : IsTrue g.L.Links.tells → (before : List Exchange) → KeepsAnswers before (g.L.Links.state l.initial.link) (g.L.Links.state l.link);
}

abbrev pub decreases-turns : goal.decreases-turns
decreases-turns g l = 20 - l.redirects
