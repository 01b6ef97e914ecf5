use Rattle.std.proofs.Common.{sym, refl, ◌∙◌, ◌+◌, ◌-◌, ◌∷◌, [], ap, map, length, drop, arith, subst}
use Rattle.std.proofs.lemmas.List.{length-drop, map-append}
use Rattle.bencode_core.proofs.Listed.{ListedLeft, listed_start, next_listed, found_listed, listed_end}
use Rattle.bencode_core.proofs.slice.BenSlice.members.Goals as goal

pub loop-key-init : goal.loop-key-init
loop-key-init c = rw (c.new-members.ensures.items, c.behind-rest.ensures) (listed_start c.self.inside.place c.self.inside.bytes.now c.args.self.now c.self.invariant c.self.view_is (sym c.begins.ensures ∙ c.if-not-begins.false))

pub overflow_sub-at : goal.overflow_sub-at
overflow_sub-at c =
    let n = next_listed c.args.self.now (map (λ m. (m.0.now, m.1)) c.loop-key.members.items) c.loop-key.next c.loop-key.rest.now c.in-Some.key.now c.in-Some.behind_key.now (sym c.in-Some.ensures) c.loop-key.invariant in
    omega (arith, n.len)

pub front-value-requires-clause-fits : goal.front-value-requires-clause-fits
front-value-requires-clause-fits c =
    let n = next_listed c.args.self.now (map (λ m. (m.0.now, m.1)) c.loop-key.members.items) c.loop-key.next c.loop-key.rest.now c.in-Some.key.now c.in-Some.behind_key.now (sym c.in-Some.ensures) c.loop-key.invariant in
    omega (arith, n.len, c.loop-key.invariant.ends)

pub front-value-requires-clause-stands : goal.front-value-requires-clause-stands
front-value-requires-clause-stands c =
    let n = next_listed c.args.self.now (map (λ m. (m.0.now, m.1)) c.loop-key.members.items) c.loop-key.next c.loop-key.rest.now c.in-Some.key.now c.in-Some.behind_key.now (sym c.in-Some.ensures) c.loop-key.invariant in
    (n.v, n.behind, n.at)

pub overflow_sub-end : goal.overflow_sub-end
overflow_sub-end c =
    let listed = map (λ m. (m.0.now, m.1)) c.loop-key.members.items in
    let n = next_listed c.args.self.now listed c.loop-key.next c.loop-key.rest.now c.in-Some.key.now c.in-Some.behind_key.now (sym c.in-Some.ensures) c.loop-key.invariant in
    let at = c.loop-key.next + (length c.loop-key.rest.now - length c.in-Some.behind_key.now) in
    let found = found_listed c.args.self.now listed c.loop-key.next c.loop-key.rest.now c.in-Some.key.now c.in-Some.behind_key.now c.front-value.result at c.span-end.result n refl (c.front-value.ensures n.v n.behind n.at) c.span-end.ensures in
    omega (arith, found.behind)

pub behind-rest-requires-in-Some : goal.behind-rest-requires-in-Some
behind-rest-requires-in-Some c =
    let listed = map (λ m. (m.0.now, m.1)) c.loop-key.members.items in
    let n = next_listed c.args.self.now listed c.loop-key.next c.loop-key.rest.now c.in-Some.key.now c.in-Some.behind_key.now (sym c.in-Some.ensures) c.loop-key.invariant in
    let at = c.loop-key.next + (length c.loop-key.rest.now - length c.in-Some.behind_key.now) in
    let found = found_listed c.args.self.now listed c.loop-key.next c.loop-key.rest.now c.in-Some.key.now c.in-Some.behind_key.now c.front-value.result at c.span-end.result n refl (c.front-value.ensures n.v n.behind n.at) c.span-end.ensures in
    omega (arith, found.behind, found.fits)

pub loop-key-smaller : goal.loop-key-smaller
loop-key-smaller c =
    let listed = map (λ m. (m.0.now, m.1)) c.loop-key.members.items in
    let n = next_listed c.args.self.now listed c.loop-key.next c.loop-key.rest.now c.in-Some.key.now c.in-Some.behind_key.now (sym c.in-Some.ensures) c.loop-key.invariant in
    let at = c.loop-key.next + (length c.loop-key.rest.now - length c.in-Some.behind_key.now) in
    let found = found_listed c.args.self.now listed c.loop-key.next c.loop-key.rest.now c.in-Some.key.now c.in-Some.behind_key.now c.front-value.result at c.span-end.result n refl (c.front-value.ensures n.v n.behind n.at) c.span-end.ensures in
    omega (arith, n.len, found.behind, found.fits, ap length c.behind-rest-in-Some.ensures, length-drop (c.span-end.result.1 - at) c.in-Some.behind_key.now)

pub loop-key-preserved : goal.loop-key-preserved
loop-key-preserved c =
    let listed = map (λ m. (m.0.now, m.1)) c.loop-key.members.items in
    let n = next_listed c.args.self.now listed c.loop-key.next c.loop-key.rest.now c.in-Some.key.now c.in-Some.behind_key.now (sym c.in-Some.ensures) c.loop-key.invariant in
    let at = c.loop-key.next + (length c.loop-key.rest.now - length c.in-Some.behind_key.now) in
    let found = found_listed c.args.self.now listed c.loop-key.next c.loop-key.rest.now c.in-Some.key.now c.in-Some.behind_key.now c.front-value.result at c.span-end.result n refl (c.front-value.ensures n.v n.behind n.at) c.span-end.ensures in
    rw (c.in_ok-push.ensures.items, c.behind-rest-in-Some.ensures) (subst (λ ms. ListedLeft c.args.self.now ms c.span-end.result.1 (drop (c.span-end.result.1 - at) c.in-Some.behind_key.now)) (sym (map-append (λ m. (m.0.now, m.1)) c.loop-key.members.items ((c.in-Some.key, c.front-value.result) ∷ []))) found.more)

pub returns : goal.returns
returns c = listed_end c.args.self.now (map (λ m. (m.0.now, m.1)) c.loop-key.members.items) c.loop-key.next c.loop-key.rest.now (sym c.in_default.ensures) c.loop-key.invariant
