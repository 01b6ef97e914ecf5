use Rattle.std.proofs.Common.{refl, subst}
use Rattle.turn_desk.specs.States.{IsSolo}
use Rattle.turn_desk.specs.Sights.{Took}
use Rattle.turn_desk.proofs.Grows.{solo_turn, one_longer}
use Rattle.turn_desk.proofs.solo.SoloDeskDesk.turn.Goals as goal

one_more : (g : _) (c : goal.After-drop-turn g) → IsSolo g.S.Served c.record.new.self c.serve-answer.new.self
    × Took g.S.Served.relates c.self.inside.log c.args.op c.serve-answer.result c.record.new.self
one_more g c = solo_turn g.S.Served
    c.self.inside.served c.serve-answer.new.self c.of-before.result.value c.of-2.result.value c.args.op
    c.of-asked.result.value c.serve-answer.result c.of.result.value c.self.inside.log c.record.new.self
    c.of-before.ensures c.of-2.ensures c.of-asked.ensures c.of.ensures c.record.ensures c.self.invariant.0
    (record {
      start_is = c.serve-answer.ensures.start;
      entries_are = c.serve-answer.ensures.entries;
      later = c.serve-answer.ensures.mark;
      turn = c.serve-answer.ensures.turn;
    })

pub invariant_of-self : goal.invariant_of-self
invariant_of-self g c = (
  (one_more g c).0,
  one_longer c.self.inside.log c.record.new.self _ c.self.inside.taken _ c.record.ensures
      c.self.invariant.1 refl,
)

pub returns-clause-took : goal.returns-clause-took
returns-clause-took g c = subst
    (λ z. Took g.S.Served.relates z c.args.op c.serve-answer.result c.record.new.self) c.self.view_is (one_more g c).1
