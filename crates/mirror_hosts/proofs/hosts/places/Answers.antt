use Rattle.std.proofs.Common.{◌≡◌, ◌∙◌, ◌++◌, ◌∷◌, [], List, ℕ, ap, map, take, arith}
use Rattle.mirror_hosts.specs.Hosts.{host_place}
use Rattle.mirror_hosts.proofs.Places.{map_more, place_most}
use Rattle.mirror_hosts.proofs.hosts.places.Goals as goal

pub overflow_cast-number : goal.overflow_cast-number
overflow_cast-number c =
    omega (arith, c.place_of-number.ensures, place_most c.args.known.now c.at.result.now, c.requires)

pub loop-place-preserved : goal.loop-place-preserved
loop-place-preserved c =
    let place = host_place c.args.known.now in
    let front = take c.loop-place.place c.args.hosts.now in
    let pushed : c.push.new.self.items ≡ c.loop-place.places.items ++ c.place_of-number.result ∷ [] =
    c.in_ok-push.ensures.items in
    pushed
    ∙ ap (λ (xs : List ℕ). xs ++ c.place_of-number.result ∷ []) c.loop-place.invariant
    ∙ ap (λ (n : ℕ). map place front ++ n ∷ []) c.place_of-number.ensures
    ∙ map_more place c.args.hosts.now c.at.result.now c.loop-place.place c.at.ensures
