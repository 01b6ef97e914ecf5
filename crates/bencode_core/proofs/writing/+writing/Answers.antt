use Rattle.std.proofs.Common.{arith}
use Rattle.bencode_core.proofs.Pushed.{item_depth, member_depth, items_more, members_more}
use Rattle.bencode_core.proofs.writing.+writing.Goals as goal

pub push_items-push_value-requires : goal.push_items-push_value-requires
push_items-push_value-requires t c = (omega (arith, c.decreases, item_depth c.args.items.now c.loop-item.item-index c.item-item.result c.loop-item-test.true c.item-item.is), tt)

pub push_items-loop-item-preserved : goal.push_items-loop-item-preserved
push_items-loop-item-preserved t c = items_more c.args.items.now c.loop-item.item-index c.item-item.result c.args.out.now.items c.loop-item.out.items _ c.loop-item-test.true c.item-item.is c.loop-item.invariant c.in_ok-push_value.ensures

pub push_members-push_value-requires : goal.push_members-push_value-requires
push_members-push_value-requires t c = (omega (arith, c.decreases, member_depth c.args.members.now c.loop-member.member-index c.member-item.result c.loop-member-test.true c.member-item.is), tt)

pub push_members-loop-member-preserved : goal.push_members-loop-member-preserved
push_members-loop-member-preserved t c = members_more c.args.members.now c.loop-member.member-index c.member-item.result c.args.out.now.items c.loop-member.out.items c.push_string.new.out.items _ c.loop-member-test.true c.member-item.is c.loop-member.invariant (rw (← c.deref.ensures.value) c.in_ok-push_string.ensures) c.in_ok-push_value.ensures
