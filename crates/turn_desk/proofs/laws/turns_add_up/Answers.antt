use Rattle.turn_desk.proofs.Goes.{went_none, went_one, went_more}
use Rattle.turn_desk.proofs.laws.turns_add_up.Goals as goal

pub returns-clause-none : goal.returns-clause-none
returns-clause-none g c = went_none g.S.Served.relates

pub returns-clause-one : goal.returns-clause-one
returns-clause-one g c = went_one g.S.Served.relates

pub returns-clause-more : goal.returns-clause-more
returns-clause-more g c = went_more g.S.Served.relates
