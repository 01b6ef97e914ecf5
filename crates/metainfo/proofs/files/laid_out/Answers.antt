use Rattle.metainfo.proofs.Fitting.{bad_path, repeated}
use Rattle.metainfo.proofs.Laid.{is_laid_out, bad_laid_out, long_laid_out}
use Rattle.metainfo.proofs.files.laid_out.Goals as goal

pub returns-in-Ok : goal.returns-in-Ok
returns-in-Ok c = rw c.in-Ok.ensures.layout (is_laid_out c.args.files.items c.in-Ok.ensures.ok)

pub returns-in-Err-BadPath : goal.returns-in-Err-BadPath
returns-in-Err-BadPath c =
    let refused = rw c.in-Err-BadPath.field-0-is at c.in-Err-BadPath.ensures.refused in
    bad_laid_out _ _ (bad_path _ _ (refused (λ e. cc)))

pub returns-in-Err-Repeated : goal.returns-in-Err-Repeated
returns-in-Err-Repeated c =
    let refused = rw c.in-Err-Repeated.field-0-is at c.in-Err-Repeated.ensures.refused in
    bad_laid_out _ _ (repeated _ _ (refused (λ e. cc)))

pub returns-in-Err-TooLong : goal.returns-in-Err-TooLong
returns-in-Err-TooLong c =
    let refused = rw c.in-Err-TooLong.field-0-is at c.in-Err-TooLong.ensures.refused in
    long_laid_out _ (refused (λ e. cc))
