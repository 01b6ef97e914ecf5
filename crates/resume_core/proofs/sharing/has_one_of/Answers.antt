use Rattle.std.proofs.Common.{List, ℕ, sym}
use Rattle.std.specs.List.{list_any}
use Rattle.std.specs.Str.{bytes_eq}
use Rattle.resume_core.proofs.Shares.{any_at, none_next}
use Rattle.resume_core.proofs.sharing.has_one_of.Goals as goal

pub returns-then-has_name : goal.returns-then-has_name
returns-then-has_name c =
    any_at (λ (name : List ℕ). list_any (bytes_eq name) c.args.other.now) c.args.one.now c.loop-place.place c.at.result.now
    c.at.ensures (sym c.if-has_name.ensures)

pub loop-place-preserved : goal.loop-place-preserved
loop-place-preserved c =
    none_next (λ (name : List ℕ). list_any (bytes_eq name) c.args.other.now) c.args.one.now c.loop-place.place c.at.result.now
    c.at.ensures c.loop-place.invariant (sym c.if-has_name.ensures)
