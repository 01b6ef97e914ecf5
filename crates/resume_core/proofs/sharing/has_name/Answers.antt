use Rattle.std.proofs.Common.{◌∙◌, ap, sym}
use Rattle.std.specs.Str.{bytes_eq}
use Rattle.resume_core.proofs.Shares.{any_at, none_next}
use Rattle.resume_core.proofs.sharing.has_name.Goals as goal

pub returns-then-eq : goal.returns-then-eq
returns-then-eq c =
    any_at (bytes_eq c.args.name.now) c.args.names.now c.loop-place.place c.at.result.now c.at.ensures
    (ap (bytes_eq c.args.name.now) (sym c.bytes-in-loop-place.ensures) ∙ rw (sym c.bytes.ensures) (sym c.if-eq.ensures))

pub loop-place-preserved : goal.loop-place-preserved
loop-place-preserved c =
    none_next (bytes_eq c.args.name.now) c.args.names.now c.loop-place.place c.at.result.now c.at.ensures c.loop-place.invariant
    (ap (bytes_eq c.args.name.now) (sym c.bytes-in-loop-place.ensures) ∙ rw (sym c.bytes.ensures) (sym c.if-eq.ensures))
