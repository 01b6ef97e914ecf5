use Rattle.std.proofs.Common.{rules}
use Rattle.range_origin.specs.declared.shelf.Ask.TheVariants.{Read}
use Rattle.range_origin.proofs.Serving.{after_look}
use Rattle.range_origin.proofs.shelf.slice_at.Goals as goal

pub returns-then-holds : goal.returns-then-holds
returns-then-holds g c name =
    after_look g.D.Disk (Read name c.args.at c.args.room) c.args.place.now c.args.disk.now c.len.new.self c.bytes_at.new.disk
    c.bytes_at.result (λ tells. (c.len.ensures.looks tells).stays.seen) (search rules) (c.bytes_at.ensures name)
