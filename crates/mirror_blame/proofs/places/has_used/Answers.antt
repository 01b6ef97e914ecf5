use Rattle.std.proofs.Common.{ℕ, ◌+◌, get_or, refl, arith}
use Rattle.std.proofs.lemmas.Bool.{false≢true}
use Rattle.mirror_blame.specs.declared.places.Place.{Place}
use Rattle.mirror_blame.proofs.Uses.{IsNext, used_skip, used_now, used_step, used_part, next_within, none_used}
use Rattle.mirror_blame.proofs.places.has_used.Goals as goal
use Rattle.mirror_blame.proofs.places.has_used.Goals.{then-place-mirror+else-used-tries, then-place-piece, else-place-piece, else-place-mirror}

-- what a read past the end would give
abbrev blank : Place
blank = record { piece = 0; mirror = 0; at = 0 }

pub returns-then-used-tries : goal.returns-then-used-tries
returns-then-used-tries c =
    let i = c.loop-place.place-index in
    let places = c.args.places.now in
    let next : IsNext (get_or places i blank).piece c.loop-place.piece c.loop-place.used c.if-place-piece.used = elim c.if-place-piece.branch [
      | then-place-piece w ↦ record { same = λ _. w.used-is; new = λ differs. absurd (differs w.if-place-piece.true) }
      | else-place-piece w ↦ record { same = λ same. absurd (w.if-place-piece.false same); new = λ _. w.used-is }
    ] in
    let now = used_now places i c.args.mirror c.args.tries c.loop-place.piece c.loop-place.used c.if-place-piece.used blank c.loop-place.invariant c.loop-place-test.true c.if-place-mirror.true next in
    let piece : ℕ = (get_or places i blank).piece in
    (λ _. (piece, omega (arith, now, c.if-used-tries.true, used_part c.args.mirror piece (i + 1) places)), λ _. refl)

pub loop-place-preserved : goal.loop-place-preserved
loop-place-preserved c =
    let i = c.loop-place.place-index in
    let places = c.args.places.now in
    elim c.if-place-mirror.branch [
      | then-place-mirror+else-used-tries w ↦
          let next : IsNext (get_or places i blank).piece c.loop-place.piece c.loop-place.used w.if-place-piece.used = elim w.if-place-piece.branch [
            | then-place-piece v ↦ record { same = λ _. v.used-is; new = λ differs. absurd (differs v.if-place-piece.true) }
            | else-place-piece v ↦ record { same = λ same. absurd (v.if-place-piece.false same); new = λ _. v.used-is }
          ] in
          let within = next_within places i c.args.mirror c.args.tries c.loop-place.piece c.loop-place.used (get_or places i blank).piece w.if-place-piece.used c.loop-place.invariant c.requires.some next w.if-used-tries.false in
          rw (w.piece-is, w.used-is) (used_step places i c.args.mirror c.args.tries c.loop-place.piece c.loop-place.used w.if-place-piece.used blank c.requires.sorted c.loop-place.invariant c.loop-place-test.true w.if-place-mirror.true next within)
      | else-place-mirror w ↦
          rw (w.piece-is, w.used-is) (used_skip places i c.args.mirror c.args.tries c.loop-place.piece c.loop-place.used blank c.loop-place.invariant c.loop-place-test.true w.if-place-mirror.false)
    ]

pub returns : goal.returns
returns c = (
  λ no. absurd (false≢true no),
  λ some. absurd (none_used c.args.places.now c.loop-place.place-index c.args.mirror c.args.tries c.loop-place.piece c.loop-place.used c.loop-place.invariant c.loop-place-test.false some.0 some.1),
)
