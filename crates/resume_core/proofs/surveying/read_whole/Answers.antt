use Rattle.std.proofs.Common.{◌∙◌, List, Option, ℕ, sym, subst, arith}
use Rattle.dl_disk.specs.Files.{ReadsAt}
use Rattle.resume_core.proofs.Surveys.{whole_read}
use Rattle.resume_core.proofs.surveying.read_whole.Goals as goal

pub returns-clause-bytes : goal.returns-clause-bytes
returns-clause-bytes g c told =
    let d = g.D.Disk in
    let name = c.args.name.now in
    whole_read ((d.state c.args.disk.now).seen name) c.read_at.new.into _ _ c.in-Some.len
    (sym c.in-Some.is ∙ c.in_ok-len.ensures.len told)
    (omega (arith, c.read_at.auto.into, c.deref_mut.ensures.len, c.in_ok-resize.ensures.len))
    (omega (arith, c.in_ok-resize.ensures.len))
    (subst (λ (file : Option (List ℕ)). ReadsAt file 0 c.read_at.new.into) ((c.len.ensures.looks told).stays.seen name)
    (c.in_ok-read_at.ensures.read told))
