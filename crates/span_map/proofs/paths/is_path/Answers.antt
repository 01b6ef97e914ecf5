use Rattle.std.proofs.Common.{arith, refl, subst}
use Rattle.std.proofs.lemmas.Bool.Decides.{nat_tests}
use Rattle.span_map.specs.Paths.{IsValidPart}
use Rattle.span_map.proofs.Clashes.{All-more_at, All-whole}
use Rattle.span_map.proofs.paths.is_path.Goals as goal

pub loop-place-preserved : goal.loop-place-preserved
loop-place-preserved c =
    All-more_at IsValidPart c.args.path.now c.loop-place.place c.at.result.now c.loop-place.invariant c.at.ensures
    (subst IsValidPart c.bytes.ensures (c.is_valid_part.ensures.0 c.if-not-is_valid_part.false))

pub returns : goal.returns
returns c = (
  λ _. record {
    some = grind (arith, nat_tests);
    short = omega arith;
    parts = All-whole IsValidPart c.args.path.now c.loop-place.place c.loop-place.invariant (omega arith);
  },
  λ _. refl,
)
