use Rattle.std.proofs.Common.{arith, sym, ◌∙◌, ◌+◌, ◌≤◌, length}
use Rattle.std.proofs.lemmas.Result.{IfOk-weaker}
use Rattle.link_source.proofs.Loads.{length-load_bytes, part_of-load_bytes}
use Rattle.link_source.specs.Load.{load_bytes}
use Rattle.link_source.proofs.resources.Resource.part.Goals as goal

pub returns-in-Load : goal.returns-in-Load
returns-in-Load c =
    let n = c.in-Load.n in
    let len = c.in-Load.len in
    let within : c.args.first + c.args.count ≤ length (load_bytes n len) = rw c.in-Load.is at c.requires.within in
    let all = length-load_bytes n len in
    rw c.in-Load.is
    (IfOk-weaker c.load_part.result _ _
    (λ part is. is ∙ sym (part_of-load_bytes n len c.args.first c.args.count (omega arith))) c.load_part.ensures)
