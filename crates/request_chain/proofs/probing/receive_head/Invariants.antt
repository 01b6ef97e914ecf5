use Rattle.std.proofs.Common.{◌≡◌, ◌≤◌, ℕ, true, List, [], length, IsTrue}
use Rattle.link_source.specs.Exchanges.{Exchange}
use Rattle.request_chain.specs.Answered.{KeepsAnswers}
use Rattle.request_chain.specs.Probes.{probe_asked}
use Rattle.request_chain.specs.Searches.{Awaits}
use Rattle.request_chain.specs.Sending.{IsOpened}
use Rattle.request_chain.proofs.probing.receive_head.Given as goal

abbrev pub invariant-turns : goal.invariant-turns
invariant-turns g l = record {
  faults : g.L.Links.faults l.initial.link ≤ g.L.Links.faults l.link;
  awaits : IsTrue g.L.Links.tells → (url : List ℕ) (before : List Exchange) → IsOpened url probe_asked true before (g.L.Links.state l.initial.link).exchanges
      → Awaits url before (g.L.Links.state l.link).exchanges l.left [] l.reader;
  at : IsTrue g.L.Links.tells → (g.L.Links.state l.link).peer ≡ (g.L.Links.state l.initial.link).peer;
  listens : IsTrue g.L.Links.tells → (g.L.Links.state l.link).listens ≡ true;
  answered : IsTrue g.L.Links.tells → (url : List ℕ) (others before : List Exchange) → IsOpened url probe_asked true others (g.L.Links.state l.initial.link).exchanges
      → length before ≤ length others → KeepsAnswers before (g.L.Links.state l.initial.link) (g.L.Links.state l.link);
}

abbrev pub decreases-turns : goal.decreases-turns
decreases-turns g l = l.left
