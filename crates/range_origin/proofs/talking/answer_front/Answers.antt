use Rattle.std.proofs.Common.{◌∙◌, subst, sym}
use Rattle.origin_replies.specs.Askings.{asked}
use Rattle.range_origin.specs.Answers.{AnswersHead}
use Rattle.range_origin.specs.Talking.{origin_at}
use Rattle.range_origin.proofs.Talks.{answers_on, breaks_on, hangs_up_on}
use Rattle.range_origin.proofs.talking.answer_front.Goals as goal

pub returns-in-Some-clause-goes_on : goal.returns-in-Some-clause-goes_on
returns-in-Some-clause-goes_on g c =
    breaks_on g.T.Desk.sight g.D.Disk g.A.Doors c.turns_add_up.ensures.more c.args.desk.now c.answer.new.desk c.args.door.now
    c.answer.new.door c.args.intake.now c.args.intake.now (asked c.args.head.now) c.args.used c.in-Some.end c.requires.front
    c.in-Some.ensures.answers

pub returns-then-is_last-clause-goes_on : goal.returns-then-is_last-clause-goes_on
returns-then-is_last-clause-goes_on g c =
    let a = origin_at c.args.desk.now c.args.door.now in
    let b = origin_at c.answer.new.desk c.answer.new.door in
    hangs_up_on g.T.Desk.sight g.D.Disk g.A.Doors c.askings_are_one_and_stay.ensures.end_with_last c.turns_add_up.ensures.more
    c.args.desk.now c.answer.new.desk c.args.door.now c.answer.new.door c.args.intake.now c.take_off.new.self
    (asked c.args.head.now) c.args.used c.requires.front (sym c.is_last.ensures ∙ c.if-is_last.true)
    (subst (λ end. AnswersHead g.T.Desk.sight g.D.Disk g.A.Doors c.args.head.now end a b) c.in_default.is c.answer.ensures.answers)

pub returns-else-is_last-clause-goes_on : goal.returns-else-is_last-clause-goes_on
returns-else-is_last-clause-goes_on g c =
    let a = origin_at c.args.desk.now c.args.door.now in
    let b = origin_at c.answer.new.desk c.answer.new.door in
    answers_on g.T.Desk.sight g.D.Disk g.A.Doors c.askings_are_one_and_stay.ensures.go_on c.turns_add_up.ensures.more
    c.args.desk.now c.answer.new.desk c.args.door.now c.answer.new.door c.args.intake.now c.take_off.new.self
    (asked c.args.head.now) c.args.used c.requires.front (sym c.is_last.ensures ∙ c.if-is_last.false) c.take_off.ensures
    (subst (λ end. AnswersHead g.T.Desk.sight g.D.Disk g.A.Doors c.args.head.now end a b) c.in_default.is c.answer.ensures.answers)
