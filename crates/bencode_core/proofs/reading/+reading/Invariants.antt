use Rattle.std.proofs.Common.{◌+◌, ◌*◌, length}
use Rattle.bencode_core.specs.Reading.{value_at}
use Rattle.bencode_core.proofs.Items.{ReadsItems}
use Rattle.bencode_core.proofs.Pairs.{ReadsMembers}
use Rattle.bencode_core.proofs.reading.+reading.Given as goal

abbrev pub decreases-value_at : goal.decreases-value_at
decreases-value_at l = 3 * l.levels

abbrev pub decreases-member_at : goal.decreases-member_at
decreases-member_at l = 3 * l.levels + 1

abbrev pub decreases-list_value : goal.decreases-list_value
decreases-list_value l = 3 * l.levels + 2

abbrev pub decreases-dict_value : goal.decreases-dict_value
decreases-dict_value l = 3 * l.levels + 2

abbrev pub invariant-list_value-loop-rest : goal.invariant-list_value-loop-rest
invariant-list_value-loop-rest l = ReadsItems (value_at l.levels) l.place l.bytes l.items.items l.next l.rest

abbrev pub decreases-list_value-loop-rest : goal.decreases-list_value-loop-rest
decreases-list_value-loop-rest l = length l.rest

abbrev pub invariant-dict_value-loop-rest : goal.invariant-dict_value-loop-rest
invariant-dict_value-loop-rest l = ReadsMembers (value_at l.levels) l.place l.bytes l.members.items l.next l.rest

abbrev pub decreases-dict_value-loop-rest : goal.decreases-dict_value-loop-rest
decreases-dict_value-loop-rest l = length l.rest
