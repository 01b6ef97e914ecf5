use Rattle.std.proofs.Common.{sym}
use Rattle.meta_v2.proofs.Paths.{bad_place, place_pushed, place_valid}
use Rattle.meta_v2.proofs.entries.push_parts.Goals as goal

pub returns-in-None : goal.returns-in-None
returns-in-None c = bad_place c.args.parts.now c.loop-place.place _ c.loop-place-test.true (sym c.in-None.ensures)

pub loop-place-preserved : goal.loop-place-preserved
loop-place-preserved c =
    record {
      valid =
          place_valid c.args.parts.now c.loop-place.place _ c.in-Some.text.now c.loop-place-test.true
          c.loop-place.invariant.valid (sym c.in-Some.ensures);
      path =
          place_pushed c.args.path.now c.loop-place.path c.push.new.self c.args.parts.now c.loop-place.place _ c.in-Some.text.now
          c.in_ok-of-in-Some.field-0 c.loop-place-test.true c.loop-place.invariant.path c.in_ok-push-in-Some.ensures.ok
          c.in_ok-of-in-Some.ensures (sym c.in-Some.ensures);
    }
