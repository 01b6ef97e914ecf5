use Rattle.console_session.proofs.Stepping.{text_answered}
use Rattle.console_session.proofs.attendant.Attendant.answer_text.Goals as goal

pub returns : goal.returns
returns g c =
    text_answered g.T.Desk.sight g.T.Desk.desk_id g.K.Clock.reads (λ s. s.session) c.turns_add_up.ensures.none
    c.args.self.now c.answer_body-answer.new.caller c.args.desk.now c.answer_body-answer.new.desk c.args.text.now
    c.answer_body-answer.result (rw c.as_bytes.ensures.value at c.answer_body-answer.ensures)
