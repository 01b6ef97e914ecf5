use Rattle.span_map.proofs.Clashes.{repeated}
use Rattle.span_map.proofs.paths.check_paths.Goals as goal

pub returns-in-Some-clause-refused : goal.returns-in-Some-clause-refused
returns-in-Some-clause-refused c _ =
    let found = rw c.in-Some.is at c.in_ok-place.ensures in
    repeated c.args.files.now c.valid_len-valid.result c.in-Some.place c.valid_len-valid.ensures.valid found.0 found.1 found.2
