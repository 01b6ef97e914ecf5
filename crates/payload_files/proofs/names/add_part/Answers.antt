use Rattle.std.proofs.Common.{arith, sym}
use Rattle.std.proofs.lemmas.Grind.{common_steps}
use Rattle.payload_files.proofs.FileNames.{part_added}
use Rattle.payload_files.proofs.names.add_part.Goals as goal

pub returns : goal.returns
returns c =
    let added = part_added c.args.path.now c.args.place c.as_str-2.result.now _ (rw (sym c.as_str-2.ensures) at c.at-2.ensures) (omega arith) c.requires.front in
    grind (arith, common_steps, added)
