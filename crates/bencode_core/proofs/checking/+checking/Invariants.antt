use Rattle.std.proofs.Common.{◌+◌, ◌*◌, length}
use Rattle.std.specs.Prelude.{option_map}
use Rattle.bencode_core.specs.Reading.{value_at}
use Rattle.bencode_core.proofs.Passed.{PassesItems, PassesMembers}
use Rattle.bencode_core.proofs.checking.+checking.Given as goal

abbrev pub decreases-value_len : goal.decreases-value_len
decreases-value_len l = 3 * l.levels

abbrev pub decreases-member_len : goal.decreases-member_len
decreases-member_len l = 3 * l.levels + 1

abbrev pub decreases-list_len : goal.decreases-list_len
decreases-list_len l = 3 * l.levels + 2

abbrev pub decreases-dict_len : goal.decreases-dict_len
decreases-dict_len l = 3 * l.levels + 2

abbrev pub invariant-list_len-loop-rest : goal.invariant-list_len-loop-rest
invariant-list_len-loop-rest l = PassesItems (value_at l.levels) l.place l.bytes l.next l.rest

abbrev pub decreases-list_len-loop-rest : goal.decreases-list_len-loop-rest
decreases-list_len-loop-rest l = length l.rest

abbrev pub invariant-dict_len-loop-before : goal.invariant-dict_len-loop-before
invariant-dict_len-loop-before l = PassesMembers (value_at l.levels) l.place l.bytes (option_map (λ k. k.now) l.before) l.next l.rest

abbrev pub decreases-dict_len-loop-before : goal.decreases-dict_len-loop-before
decreases-dict_len-loop-before l = length l.rest
