use Rattle.std.proofs.Common.{◌<◌, arith}
use Rattle.std.proofs.lemmas.List.Elements.{All-from_get_or}
use Rattle.control_file.proofs.Found.{found, only}
use Rattle.control_file.proofs.control.Control.read.Goals as goal

pub returns-clause-found : goal.returns-clause-found
returns-clause-found c =
    let small = All-from_get_or (λ byte. byte < 256) c.args.bytes.now 0
    (λ i within. omega (arith, c.type_inv.bytes i)) in
    found c.control_files_are_read.ensures.exactly c.args.bytes.now small c.read_all.result c.read_all.ensures

pub returns-clause-only : goal.returns-clause-only
returns-clause-only c = λ control file.
    let small = All-from_get_or (λ byte. byte < 256) c.args.bytes.now 0
    (λ i within. omega (arith, c.type_inv.bytes i)) in
    only c.control_files_are_read.ensures.exactly c.args.bytes.now small c.read_all.result control file
    c.read_all.ensures
