use Rattle.std.proofs.Common.{rules, None, sym}
use Rattle.std.specs.Ordering.{nat_cmp}
use Rattle.std.specs.Cmp.Lexicographic.{slice_cmp}
use Rattle.std.proofs.lemmas.Fn.{always_returns_same}
use Rattle.bencode_core.proofs.Keys.{found_there, not_found}
use Rattle.bencode_core.proofs.search.value_of_key.Goals as goal

pub returns-in-Ok : goal.returns-in-Ok
returns-in-Ok c = sym (found_there None c.args.members.now c.args.key.now c.in-Ok.place _ c.requires c.in-Ok.ensures.bound (c.in-Ok.ensures.position (λ m. slice_cmp nat_cmp m.key.items c.args.key.now) (always_returns_same _ _ _ (λ a r g called. search rules)) c.index-members-place.result))

pub returns-in-Err : goal.returns-in-Err
returns-in-Err c = sym (not_found None c.args.members.now c.args.key.now c.in-Err.field-0 c.requires (c.in-Err.ensures.position (λ m. slice_cmp nat_cmp m.key.items c.args.key.now) (always_returns_same _ _ _ (λ a r g called. search rules))))
