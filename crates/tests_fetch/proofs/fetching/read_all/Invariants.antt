use Rattle.std.proofs.Common.{◌≡◌, IsTrue}
use Rattle.fetch_session.specs.Fetches.{ready_of, MayStep}
use Rattle.tests_fetch.proofs.fetching.read_all.Given as goal

abbrev pub invariant-steps : goal.invariant-steps
invariant-steps g l = record {
  none_ready : (ready_of l.fetch).count ≡ 0;
  may : IsTrue g.L.Links.tells → MayStep l.fetch (g.L.Links.state l.link);
}
