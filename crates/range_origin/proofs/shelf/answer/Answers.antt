use Rattle.std.proofs.Common.{◌∙◌, ap}
use Rattle.range_origin.specs.Shelves.{shelf_name}
use Rattle.range_origin.specs.declared.shelf.Ask.TheVariants.{Length, Read}
use Rattle.range_origin.proofs.Serving.{has_told}
use Rattle.range_origin.proofs.shelf.answer.Goals as goal

pub returns-in-Ok : goal.returns-in-Ok
returns-in-Ok g c =
    has_told g.D.Disk c.args.dir.now c.deref.result.now c.args.op (Length c.in-Length.name) c.args.disk.now
    c.length_at.new.disk c.length_at.result c.in-Length.is
    (c.deref.ensures ∙ c.in-Ok.ensures ∙ ap (shelf_name c.args.dir.now) c.as_str.ensures) (c.length_at.ensures c.in-Length.name)

pub returns-in-Ok-shelf_name : goal.returns-in-Ok-shelf_name
returns-in-Ok-shelf_name g c =
    has_told g.D.Disk c.args.dir.now c.deref-in-Ok-shelf_name.result.now c.args.op
    (Read c.in-Read.name c.in-Read.at c.in-Read.room) c.args.disk.now
    c.slice_at.new.disk c.slice_at.result c.in-Read.is
    (c.deref-in-Ok-shelf_name.ensures ∙ c.in-Ok-shelf_name.ensures ∙ ap (shelf_name c.args.dir.now) c.as_str-in-Read.ensures) (c.slice_at.ensures c.in-Read.name)
