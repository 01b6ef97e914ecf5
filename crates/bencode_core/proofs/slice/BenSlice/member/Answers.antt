use Rattle.std.proofs.Common.{sym, refl, ◌∙◌, ◌+◌, ◌-◌, ap, length, arith}
use Rattle.std.proofs.lemmas.List.{length-drop}
use Rattle.bencode_core.specs.Value.{spelling}
use Rattle.bencode_core.proofs.Sliced.{members_start, next_member, found_member, members_end, member_slice}
use Rattle.bencode_core.proofs.slice.BenSlice.member.Goals as goal

pub loop-found-init : goal.loop-found-init
loop-found-init c = rw c.behind-rest.ensures (members_start c.args.key.now c.self.inside.place c.self.inside.bytes.now c.args.self.now c.self.invariant c.self.view_is (sym c.begins.ensures ∙ c.if-not-begins.false))

pub overflow_sub-at : goal.overflow_sub-at
overflow_sub-at c =
    let n = next_member c.args.self.now c.args.key.now c.loop-found.next c.loop-found.rest.now c.in-Some.found.now c.in-Some.behind_key.now (sym c.in-Some.ensures) c.loop-found.invariant in
    omega (arith, n.len)

pub front-value-requires-clause-fits : goal.front-value-requires-clause-fits
front-value-requires-clause-fits c =
    let n = next_member c.args.self.now c.args.key.now c.loop-found.next c.loop-found.rest.now c.in-Some.found.now c.in-Some.behind_key.now (sym c.in-Some.ensures) c.loop-found.invariant in
    omega (arith, n.len, c.loop-found.invariant.ends)

pub front-value-requires-clause-stands : goal.front-value-requires-clause-stands
front-value-requires-clause-stands c =
    let n = next_member c.args.self.now c.args.key.now c.loop-found.next c.loop-found.rest.now c.in-Some.found.now c.in-Some.behind_key.now (sym c.in-Some.ensures) c.loop-found.invariant in
    (n.v, n.behind, n.at)

pub returns-then-eq-clause-member : goal.returns-then-eq-clause-member
returns-then-eq-clause-member c =
    let n = next_member c.args.self.now c.args.key.now c.loop-found.next c.loop-found.rest.now c.in-Some.found.now c.in-Some.behind_key.now (sym c.in-Some.ensures) c.loop-found.invariant in
    let at = c.loop-found.next + (length c.loop-found.rest.now - length c.in-Some.behind_key.now) in
    let found = found_member c.args.self.now c.args.key.now c.loop-found.next c.loop-found.rest.now c.in-Some.found.now c.in-Some.behind_key.now c.front-value.result at (c.front-value.result.place, c.front-value.result.place + length (spelling c.front-value.result.value)) n refl (c.front-value.ensures n.v n.behind n.at) refl in
    found.here (sym c.eq.ensures ∙ c.if-eq.true)

pub returns-then-eq-clause-slice : goal.returns-then-eq-clause-slice
returns-then-eq-clause-slice c =
    let n = next_member c.args.self.now c.args.key.now c.loop-found.next c.loop-found.rest.now c.in-Some.found.now c.in-Some.behind_key.now (sym c.in-Some.ensures) c.loop-found.invariant in
    let at = c.loop-found.next + (length c.loop-found.rest.now - length c.in-Some.behind_key.now) in
    let found = found_member c.args.self.now c.args.key.now c.loop-found.next c.loop-found.rest.now c.in-Some.found.now c.in-Some.behind_key.now c.front-value.result at (c.front-value.result.place, c.front-value.result.place + length (spelling c.front-value.result.value)) n refl (c.front-value.ensures n.v n.behind n.at) refl in
    member_slice c.args.self.now c.args.key.now c.front-value.result (found.here (sym c.eq.ensures ∙ c.if-eq.true))

pub overflow_sub-end : goal.overflow_sub-end
overflow_sub-end c =
    let n = next_member c.args.self.now c.args.key.now c.loop-found.next c.loop-found.rest.now c.in-Some.found.now c.in-Some.behind_key.now (sym c.in-Some.ensures) c.loop-found.invariant in
    let at = c.loop-found.next + (length c.loop-found.rest.now - length c.in-Some.behind_key.now) in
    let found = found_member c.args.self.now c.args.key.now c.loop-found.next c.loop-found.rest.now c.in-Some.found.now c.in-Some.behind_key.now c.front-value.result at c.span-end.result n refl (c.front-value.ensures n.v n.behind n.at) c.span-end.ensures in
    omega (arith, found.behind)

pub behind-rest-requires-in-Some : goal.behind-rest-requires-in-Some
behind-rest-requires-in-Some c =
    let n = next_member c.args.self.now c.args.key.now c.loop-found.next c.loop-found.rest.now c.in-Some.found.now c.in-Some.behind_key.now (sym c.in-Some.ensures) c.loop-found.invariant in
    let at = c.loop-found.next + (length c.loop-found.rest.now - length c.in-Some.behind_key.now) in
    let found = found_member c.args.self.now c.args.key.now c.loop-found.next c.loop-found.rest.now c.in-Some.found.now c.in-Some.behind_key.now c.front-value.result at c.span-end.result n refl (c.front-value.ensures n.v n.behind n.at) c.span-end.ensures in
    omega (arith, found.behind, found.fits)

pub loop-found-smaller : goal.loop-found-smaller
loop-found-smaller c =
    let n = next_member c.args.self.now c.args.key.now c.loop-found.next c.loop-found.rest.now c.in-Some.found.now c.in-Some.behind_key.now (sym c.in-Some.ensures) c.loop-found.invariant in
    let at = c.loop-found.next + (length c.loop-found.rest.now - length c.in-Some.behind_key.now) in
    let found = found_member c.args.self.now c.args.key.now c.loop-found.next c.loop-found.rest.now c.in-Some.found.now c.in-Some.behind_key.now c.front-value.result at c.span-end.result n refl (c.front-value.ensures n.v n.behind n.at) c.span-end.ensures in
    omega (arith, n.len, found.behind, found.fits, ap length c.behind-rest-in-Some.ensures, length-drop (c.span-end.result.1 - at) c.in-Some.behind_key.now)

pub loop-found-preserved : goal.loop-found-preserved
loop-found-preserved c =
    let n = next_member c.args.self.now c.args.key.now c.loop-found.next c.loop-found.rest.now c.in-Some.found.now c.in-Some.behind_key.now (sym c.in-Some.ensures) c.loop-found.invariant in
    let at = c.loop-found.next + (length c.loop-found.rest.now - length c.in-Some.behind_key.now) in
    let found = found_member c.args.self.now c.args.key.now c.loop-found.next c.loop-found.rest.now c.in-Some.found.now c.in-Some.behind_key.now c.front-value.result at c.span-end.result n refl (c.front-value.ensures n.v n.behind n.at) c.span-end.ensures in
    rw c.behind-rest-in-Some.ensures (found.more (sym c.eq.ensures ∙ c.if-eq.false))

pub returns-clause-member : goal.returns-clause-member
returns-clause-member c = members_end c.args.self.now c.args.key.now c.loop-found.next c.loop-found.rest.now (sym c.in_default.ensures) c.loop-found.invariant
