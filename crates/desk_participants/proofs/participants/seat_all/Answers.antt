use Rattle.std.proofs.Common.{◌≡◌, ◌∙◌, ◌≤◌, ◌-◌, ◌++◌, ◌∷◌, [], ℕ, ap, arith, drop, length, rules, sym, take}
use Rattle.std.proofs.lemmas.List.{drop-append-le, length-drop, take-append-le}
use Rattle.desk_participants.specs.Seats.{participant_of}
use Rattle.desk_participants.proofs.Seating.{seated_more}
use Rattle.desk_participants.proofs.participants.seat_all.Goals as goal

pub loop-edge-preserved : goal.loop-edge-preserved
loop-edge-preserved g c =
    let was = c.loop-edge.invariant in
    let same = was.0 in
    let count = was.3 in
    let edges = c.in-Some.ensures.len in
    let passes = c.in-Some-pop.ensures.len in
    let more = c.push_reserved.ensures.len in
    let rest : ℕ = length c.args.passes.now.items - length c.args.edges.now.items in
    let left = c.pop-in-Some.new.self.items in
    let pass = c.in-Some-pop.pass in
    let low : rest ≤ length left = omega (arith, same, edges, passes) in
    let were = length-drop rest c.loop-edge.passes.items in
    let number : c.len.result ≡ length c.pop.new.self.items = search (c, rules) in (
      omega (arith, same, edges, passes),
      sym (ap (take rest) c.in-Some-pop.ensures.items ∙ take-append-le rest left (pass ∷ []) low) ∙ was.1,
      seated_more _ (drop rest left) _ c.pop.new.self.items _ _ pass (c.in-Some.edge, c.in-Some.clock)
          (ap (drop rest) c.in-Some-pop.ensures.items ∙ drop-append-le rest left (pass ∷ []) low)
          c.in-Some.ensures.items
          (c.push_reserved.ensures.items
          ∙ ap
          (λ (n : ℕ). c.loop-edge.seats.items ++ participant_of n pass (c.in-Some.edge, c.in-Some.clock) ∷ [])
          number) (omega (arith, same, were))
          ∙ was.2,
      omega (arith, count, edges, more),
      c.pop-in-Some.ensures.capacity ∙ was.4,
      c.pop.ensures.capacity ∙ was.5,
      c.push_reserved.ensures.capacity ∙ was.6,
    )
