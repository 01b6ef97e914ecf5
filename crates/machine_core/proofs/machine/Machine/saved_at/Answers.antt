use Rattle.std.proofs.Common.{◌∙◌, ap}
use Rattle.dl_history.specs.Accounts.{Account}
use Rattle.machine_core.proofs.Here.{account_here, here, sees, unadded}
use Rattle.machine_core.proofs.machine.Machine.saved_at.Goals as goal

pub returns-in_err-place : goal.returns-in_err-place
returns-in_err-place c added = unadded c.args.self.now c.args.gid c.in_err-place.ensures.none added

pub returns : goal.returns
returns c added =
    let seen = sees _ c.args.self.now c.self.invariant c.self.view_is in
    let h = here _ c.args.self.now c.args.gid c.place.result c.in_ok-place.place c.index.result.now seen
    c.place.ensures.found c.in_ok-place.was c.index.ensures in
    c.saved_at.ensures
    ∙ ap (λ (k : Account). k.saved)
    (account_here _ c.args.self.now c.args.gid c.in_ok-place.place c.index.result.now seen h)
