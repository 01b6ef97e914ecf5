use Rattle.std.proofs.Common.{Some, None, refl}
use Rattle.console_socket.specs.Sessions.{seen_inward}
use Rattle.console_session.proofs.Stepping.{all_made, cut_behind, cut_short, none_of_err, step_of, stepped}
use Rattle.console_session.specs.Sessions.{session_at}
use Rattle.console_session.proofs.attendant.AttendantSession.step.Goals as goal

pub returns-in_err-answer : goal.returns-in_err-answer
returns-in_err-answer g c =
    let inward = seen_inward c.args.inward.now in
    let did = c.answer.ensures in
    record {
      stepped = stepped g.T.Desk.sight g.T.Desk.desk_id g.K.Clock.reads (λ s. s.session) c.turns_add_up.ensures.more
          c.args.self.now c.answer.new.self c.args.desk.now c.answer.new.desk c.args.inward.now c.from_residual.result
          (step_of inward did.invoked None) refl
          (none_of_err c.from_residual.result c.from_residual.ensures.0)
          (cut_short g.T.Desk.sight g.T.Desk.desk_id g.K.Clock.reads inward
          (session_at c.args.self.now.session c.args.desk.now) (session_at c.answer.new.self.session c.answer.new.desk)
          c.answer.result did);
    }

pub returns-in_err-notices : goal.returns-in_err-notices
returns-in_err-notices g c =
    let inward = seen_inward c.args.inward.now in
    let did = c.answer.ensures in
    record {
      stepped = stepped g.T.Desk.sight g.T.Desk.desk_id g.K.Clock.reads (λ s. s.session) c.turns_add_up.ensures.more
          c.args.self.now _ c.args.desk.now c.notices.new.desk c.args.inward.now c.from_residual-in_err-notices.result
          (step_of inward did.invoked None) refl
          (none_of_err c.from_residual-in_err-notices.result c.from_residual-in_err-notices.ensures.0)
          (cut_behind g.T.Desk.sight g.T.Desk.desk_id g.K.Clock.reads c.turns_add_up.ensures.more inward
          (session_at c.args.self.now.session c.args.desk.now) (session_at c.answer.new.self.session c.answer.new.desk)
          (session_at c.notices.new.self c.notices.new.desk) c.answer.result c.notices.result c.asked_from-from.result
          c.asked_from-from.ensures did c.notices.ensures);
    }

pub returns-in_err-texts : goal.returns-in_err-texts
returns-in_err-texts g c =
    let inward = seen_inward c.args.inward.now in
    let did = c.answer.ensures in
    record {
      stepped = stepped g.T.Desk.sight g.T.Desk.desk_id g.K.Clock.reads (λ s. s.session) c.turns_add_up.ensures.more
          c.args.self.now _ c.args.desk.now c.notices.new.desk c.args.inward.now c.from_residual-in_err-texts.result
          (step_of inward did.invoked None) refl
          (none_of_err c.from_residual-in_err-texts.result c.from_residual-in_err-texts.ensures.0)
          (cut_behind g.T.Desk.sight g.T.Desk.desk_id g.K.Clock.reads c.turns_add_up.ensures.more inward
          (session_at c.args.self.now.session c.args.desk.now) (session_at c.answer.new.self.session c.answer.new.desk)
          (session_at c.notices.new.self c.notices.new.desk) c.answer.result c.notices.result c.asked_from-from.result
          c.asked_from-from.ensures did c.notices.ensures);
    }

pub returns : goal.returns
returns g c =
    let inward = seen_inward c.args.inward.now in
    let did = c.in_ok-answer.ensures in
    record {
      stepped = stepped g.T.Desk.sight g.T.Desk.desk_id g.K.Clock.reads (λ s. s.session) c.turns_add_up.ensures.more
          c.args.self.now _ c.args.desk.now c.notices.new.desk c.args.inward.now _
          (step_of inward did.invoked (Some c.in_ok-texts.texts)) refl refl
          (all_made g.T.Desk.sight g.T.Desk.desk_id g.K.Clock.reads c.turns_add_up.ensures.more inward
          (session_at c.args.self.now.session c.args.desk.now) (session_at c.answer.new.self.session c.answer.new.desk)
          (session_at c.notices.new.self c.notices.new.desk) c.in_ok-answer.answer c.in_ok-notices.notices
          c.in_ok-notices.upto c.in_ok-texts.texts c.asked_from-from.result c.asked_from-from.ensures did
          c.in_ok-notices.ensures c.in_ok-texts.ensures);
    }
