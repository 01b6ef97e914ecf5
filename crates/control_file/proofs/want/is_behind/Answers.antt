use Rattle.std.proofs.Common.{◌∙◌, sym}
use Rattle.control_file.proofs.Behind.{behind_is}
use Rattle.control_file.proofs.want.is_behind.Goals as goal

pub returns-in-Some : goal.returns-in-Some
returns-in-Some c =
    rw (c.eq.ensures, c.as_str.ensures, c.as_str-in-Some.ensures)
    (behind_is c.args.path.now c.args.base.now c.in-Some.part.now (sym c.in-Some.ensures))
