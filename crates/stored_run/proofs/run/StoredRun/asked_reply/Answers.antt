use Rattle.std.proofs.Common.{subst}
use Rattle.run_report.specs.Replies.{IsReplyAt}
use Rattle.stored_run.specs.declared.run.StoredView.{StoredView}
use Rattle.stored_run.proofs.run.StoredRun.asked_reply.Goals as goal

pub returns-in_ok-reply_to-clause-told : goal.returns-in_ok-reply_to-clause-told
returns-in_ok-reply_to-clause-told g c =
    subst
    (λ (r : StoredView _). IsReplyAt r.machine.start r.machine.past c.args.call.now r.now c.in_ok-reply_to.field-0)
    c.self.view_is c.in_ok-reply_to.ensures
