use Rattle.span_map.proofs.Bytes.{parts_hold_slices}
use Rattle.span_map.proofs.laws.parts_hold_slices.Goals as goal

pub returns : goal.returns
returns c = parts_hold_slices
