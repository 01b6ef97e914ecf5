use Rattle.std.proofs.Common.{◌∙◌, Bool, ap, subst}
use Rattle.std.specs.Prelude.{MatchBool}
use Rattle.dl_kinds.specs.declared.gid.Gid.{Gid}
use Rattle.stored_run.specs.Saves.{IsDueOff, gids_of}
use Rattle.stored_run.proofs.Those.{on_err_so, those_add, those_none, those_pass}
use Rattle.stored_run.proofs.run.StoredRun.due_off.Goals.{then-is_due_off+in_ok-push, else-is_due_off}
use Rattle.stored_run.proofs.run.StoredRun.due_off.Goals as goal

pub returns-in_err-push-clause-some : goal.returns-in_err-push-clause-some
returns-in_err-push-clause-some g c =
    let P : Gid → Type 0 = (IsDueOff c.args.was.now c.args.self.now) in
    on_err_so c.from_residual.result _
    (λ none. those_none P (gids_of c.args.self.now) c.loop-n.n c.gid_at-gid.result none c.gid_at-gid.ensures
    (subst (λ (b : Bool). MatchBool b (P c.gid_at-gid.result) (¬ P c.gid_at-gid.result)) c.if-is_due_off.true
    c.is_due_off.ensures))

pub loop-n-preserved : goal.loop-n-preserved
loop-n-preserved g c =
    let P : Gid → Type 0 = (IsDueOff c.args.was.now c.args.self.now) in
    let gids = gids_of c.args.self.now in
    let gid = c.gid_at-gid.result in
    elim c.if-is_due_off.branch [
      | then-is_due_off+in_ok-push w ↦
          those_add P gids c.loop-n.due.items c.if-is_due_off.due.items c.loop-n.n gid c.loop-n.invariant
          c.gid_at-gid.ensures
          (subst (λ (b : Bool). MatchBool b (P gid) (¬ P gid)) w.if-is_due_off.true c.is_due_off.ensures)
          (ap (λ due. due.items) w.due-is ∙ w.in_ok-push.ensures.items)
      | else-is_due_off w ↦
          those_pass P gids c.loop-n.due.items c.if-is_due_off.due.items c.loop-n.n gid c.loop-n.invariant
          c.gid_at-gid.ensures
          (subst (λ (b : Bool). MatchBool b (P gid) (¬ P gid)) w.if-is_due_off.false c.is_due_off.ensures)
          (ap (λ due. due.items) w.due-is)
    ]
