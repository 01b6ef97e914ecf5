use Rattle.std.proofs.Common.{◌≡◌, ◌≤◌, ◌∷◌, List, [], IsTrue}
use Rattle.link_source.specs.Exchanges.{Exchange}
use Rattle.request_chain.specs.Answered.{KeepsAnswers}
use Rattle.request_chain.specs.Chains.{Gains}
use Rattle.ftp_fetches.specs.SizeDialogues.{At}
use Rattle.ftp_link.specs.Heard.{TalksTo, hearing}
use Rattle.ftp_link.specs.Probing.{LeadsToSize}
use Rattle.ftp_steps.specs.StepFacts.{steps_behind}
use Rattle.ftp_link.proofs.probing.ask_size.Given as goal

abbrev pub invariant-steps : goal.invariant-steps
invariant-steps g l = record {
  clear : l.room.heard.items ≡ [];
  talks : IsTrue g.L.Links.tells → TalksTo l.place (g.L.Links.state l.link);
  faults : g.L.Links.faults l.fn.link ≤ g.L.Links.faults l.link;
  asks : IsTrue g.L.Links.tells → (older others : List Exchange)
      × Gains (g.L.Links.state l.fn.link).exchanges others older
      × ((g.L.Links.state l.link).exchanges ≡ hearing l.place 0 l.step [] ∷ others)
      × LeadsToSize l.place older (At l.step);
  answered : IsTrue g.L.Links.tells → (before : List Exchange)
      → KeepsAnswers before (g.L.Links.state l.fn.link) (g.L.Links.state l.link);
}

abbrev pub decreases-steps : goal.decreases-steps
decreases-steps g l = steps_behind l.step
