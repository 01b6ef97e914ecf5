use Rattle.std.proofs.Common.{◌≡◌, ◌+◌, ◌-◌, ◌*◌, ◌≤◌, ◌++◌, ℕ, List, IsTrue, length, vec_len, vec_capacity}
use Rattle.link_source.specs.Exchanges.{Exchange}
use Rattle.request_chain.specs.Answered.{KeepsAnswers}
use Rattle.request_chain.specs.Chains.{Gains}
use Rattle.ftp_link.specs.Stages.{steps_before}
use Rattle.ftp_link.specs.Talks.{HasTalked, TalkSteps, MayTalk}
use Rattle.ftp_link.proofs.talk.FtpTalk.take_turns.Given as goal

abbrev pub invariant-turns : goal.invariant-turns
invariant-turns g l = record {
  few : l.self.taken ≤ l.allow;
  gained_is : l.gained ≡ vec_len l.out - vec_len l.initial.out;
  within : vec_len l.out ≤ vec_len l.initial.out + l.room;
  capacity : vec_capacity l.initial.out ≤ vec_capacity l.out;
  faults : g.L.Links.faults l.initial.link ≤ g.L.Links.faults l.link;
  place : l.self.place ≡ l.initial.self.place;
  part : l.self.part ≡ l.initial.self.part;
  steps : IsTrue g.L.Links.tells → (before used : List Exchange) (bytes : List ℕ)
      → HasTalked l.initial.self used bytes → Gains before (g.L.Links.state l.initial.link).exchanges used
      → (added : List ℕ) × (l.out.items ≡ l.initial.out.items ++ added)
      × TalkSteps before used bytes (g.L.Links.state l.link).exchanges added 0 l.self;
  answered : IsTrue g.L.Links.tells → (before used : List Exchange) (bytes : List ℕ)
      → HasTalked l.initial.self used bytes → Gains before (g.L.Links.state l.initial.link).exchanges used
      → (since : List Exchange) → length since ≤ length before → KeepsAnswers since (g.L.Links.state l.initial.link) (g.L.Links.state l.link);
  may : IsTrue g.L.Links.tells → MayTalk l.self (g.L.Links.state l.link);
}

abbrev pub decreases-turns : goal.decreases-turns
decreases-turns g l = steps_before l.self.stage + 2 * (l.allow - l.self.taken)
