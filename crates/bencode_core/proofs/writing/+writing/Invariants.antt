use Rattle.std.proofs.Common.{◌≡◌, ◌+◌, ◌*◌, ◌++◌, take}
use Rattle.bencode_core.specs.Value.{spellings, member_spellings, depth, depths, member_depths}
use Rattle.bencode_core.specs.Node.{values_in, members_in}
use Rattle.bencode_core.proofs.writing.+writing.Given as goal

abbrev pub decreases-push_value : goal.decreases-push_value
decreases-push_value l = 2 * depth l.value.now.value

abbrev pub decreases-push_items : goal.decreases-push_items
decreases-push_items l = 2 * depths (values_in l.items.now) + 1

abbrev pub decreases-push_members : goal.decreases-push_members
decreases-push_members l = 2 * member_depths (members_in l.members.now) + 1

abbrev pub invariant-push_items-loop-item : goal.invariant-push_items-loop-item
invariant-push_items-loop-item l = l.out.items ≡ l.fn.out.items ++ spellings (values_in (take l.item-index l.items))

abbrev pub invariant-push_members-loop-member : goal.invariant-push_members-loop-member
invariant-push_members-loop-member l = l.out.items ≡ l.fn.out.items ++ member_spellings (members_in (take l.member-index l.members))
