use Rattle.std.proofs.Common.{◌∙◌, ◌+◌, ◌<◌, ◌++◌, ◌∷◌, [], List, ap, sym, ℕ, arith, length}
use Rattle.load_setup.proofs.Groups.{part_more}
use Rattle.load_setup.proofs.Texts.{none_within}
use Rattle.load_setup.proofs.counting.group_of.Goals as goal
use Rattle.load_setup.proofs.counting.group_of.Goals.{in-Some+in_ok-push, in_default}

pub loop-place-preserved : goal.loop-place-preserved
loop-place-preserved c =
    let digests = c.args.digests.now in
    let first = c.args.first in
    let place = c.loop-place.place in
    let within : first + place < length digests = omega (arith, c.requires.within, c.requires.all, c.loop-place-test.true) in
    elim c.match-get.branch [
      | in-Some+in_ok-push w ↦ w.group-is ∙ w.in_ok-push.ensures.ok
          ∙ ap (λ (ds : List (List ℕ)). ds ++ w.in-Some.digest.now ∷ []) c.loop-place.invariant
          ∙ sym (part_more digests first place w.in-Some.digest.now (sym w.in-Some.ensures))
      | in_default w ↦ absurd (none_within digests (first + place) within (sym w.in_default.ensures))
    ]
