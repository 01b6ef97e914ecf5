use Rattle.std.proofs.Common.{◌∙◌}
use Rattle.std.proofs.lemmas.Result.{on_ok_weaker}
use Rattle.resume_core.proofs.Savings.{saved_as}
use Rattle.resume_core.proofs.control_files.put_listing.Goals as goal

pub returns-clause-saved : goal.returns-clause-saved
returns-clause-saved g c =
    on_ok_weaker c.sync_and_put.result
    (λ saved told. saved_as c.args.want.now _ _ _ _ (c.deref.ensures.value
    ∙ c.in_ok-bytes.ensures.spelled) (saved told)) c.sync_and_put.ensures.saved
