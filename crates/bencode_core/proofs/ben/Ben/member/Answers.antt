use Rattle.bencode_core.specs.Placed.{StandsIn}
use Rattle.bencode_core.proofs.Slices.{found_member_stands, some_now}
use Rattle.bencode_core.proofs.ben.Ben.member.Goals as goal

pub returns-in-Dict-clause-slice : goal.returns-in-Dict-clause-slice
returns-in-Dict-clause-slice c = some_now c.value_of_key.result (StandsIn c.args.self.now) (rw (c.value_of_key.ensures, c.as_slice.ensures.value) (found_member_stands c.self.inside.start c.self.inside.end c.in-Dict.members c.args.key.now c.self.inside.node c.args.self.now c.in-Dict.is c.self.invariant c.self.view_is))
