use Rattle.std.proofs.lemmas.Result.{err_from_is_err_and}
use Rattle.metainfo.specs.Refusals.{refusal_of}
use Rattle.metainfo.proofs.Steps.{file_failed}
use Rattle.metainfo.proofs.files.files_from.Goals as goal

pub returns-in_err-file_in-clause-exact : goal.returns-in_err-file_in-clause-exact
returns-in_err-file_in-clause-exact c =
    let p = err_from_is_err_and c.from_residual.result c.from_residual.ensures.1 in
    rw (p.1, p.2)
    (file_failed c.loop-dict.files.items c.args.name.now c.args.dicts.now c.loop-dict.dict-index c.dict-item.result (refusal_of c.in_err-file_in.field-0.0)
    c.loop-dict-test.true c.dict-item.is c.loop-dict.invariant.read c.in_err-file_in.ensures)
