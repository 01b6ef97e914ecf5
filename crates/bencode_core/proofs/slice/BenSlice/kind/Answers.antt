use Rattle.std.proofs.Common.{◌≡◌, Some, None, ◌∙◌}
use Rattle.bencode_core.specs.Placed.{kind_of}
use Rattle.bencode_core.proofs.Numbers.{some_is}
use Rattle.bencode_core.proofs.Sliced.{sliced, slice_kind}
use Rattle.bencode_core.proofs.slice.BenSlice.kind.Goals as goal

pub returns : goal.returns
returns c = some_is _ _ (c.in-Some.ensures ∙ slice_kind c.args.self.now.value c.self.inside.bytes.now (sliced c.self.inside.place c.self.inside.bytes.now c.args.self.now c.self.invariant c.self.view_is))

pub unreachable-requires : goal.unreachable-requires
unreachable-requires c =
    let bad : None ≡ Some (kind_of c.args.self.now.value) = c.in-None.ensures ∙ slice_kind c.args.self.now.value c.self.inside.bytes.now (sliced c.self.inside.place c.self.inside.bytes.now c.args.self.now c.self.invariant c.self.view_is) in
    absurd cc
