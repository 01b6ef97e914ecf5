use Rattle.std.proofs.Common.{ap, ◌∙◌}
use Rattle.dl_history.specs.Accounts.{after_halt}
use Rattle.one_download.specs.PayloadViews.{PayloadView, account_by}
use Rattle.one_download.proofs.Halting.{halted_is}
use Rattle.one_download.proofs.payload.Payload.halted.Goals as goal

pub returns-clause-account : goal.returns-clause-account
returns-clause-account c =
    halted_is (account_by c.self.inside) c.end_soles.new.table c.end_soles.new.claims c.end_all.new.self c.args.ends
    c.either-ended.result c.end_all.new.self.spare
    (c.end_soles.ensures.account (account_by c.self.inside) c.self.inside.settled) c.end_all.ensures.none c.either-ended.ensures
    ∙ ap (λ (v : PayloadView). after_halt v.account c.args.ends) c.self.view_is
