use Rattle.std.proofs.Common.{◌≡◌, ◌-◌, ◌<◌, ◌≤◌, ◌∷◌, List, [], true, false, length, IsTrue, vec_len}
use Rattle.link_source.specs.Exchanges.{Exchange}
use Rattle.request_chain.specs.Answered.{KeepsAnswers}
use Rattle.ftp_places.specs.declared.place.FtpPlace.{FtpPlace}
use Rattle.ftp_steps.specs.Answers.{StepAnswers}
use Rattle.ftp_steps.specs.declared.turn.FtpTurn.TheVariants.{Due}
use Rattle.ftp_link.specs.Heard.{hearing}
use Rattle.ftp_link.specs.declared.room.TheConstants.{MAX_REPLY_BYTES}
use Rattle.ftp_link.proofs.probing.hear_reply.Given as goal

abbrev pub invariant-pieces : goal.invariant-pieces
invariant-pieces g l = record {
  due : StepAnswers l.step l.room.heard.items false Due;
  short : vec_len l.room.heard < MAX_REPLY_BYTES;
  at : IsTrue g.L.Links.tells → (g.L.Links.state l.link).peer ≡ (g.L.Links.state l.initial.link).peer;
  listens : IsTrue g.L.Links.tells → (g.L.Links.state l.link).listens ≡ true;
  faults : g.L.Links.faults l.initial.link ≤ g.L.Links.faults l.link;
  heard : IsTrue g.L.Links.tells → (place : FtpPlace) (others : List Exchange)
      → (g.L.Links.state l.initial.link).exchanges ≡ hearing place 0 l.step [] ∷ others
      → (g.L.Links.state l.link).exchanges ≡ hearing place 0 l.step l.room.heard.items ∷ others;
  answered : IsTrue g.L.Links.tells → (place : FtpPlace) (before others : List Exchange)
      → (g.L.Links.state l.initial.link).exchanges ≡ hearing place 0 l.step [] ∷ others
      → length before ≤ length others
      → KeepsAnswers before (g.L.Links.state l.initial.link) (g.L.Links.state l.link);
}

abbrev pub decreases-pieces : goal.decreases-pieces
decreases-pieces g l = MAX_REPLY_BYTES - vec_len l.room.heard
