use Rattle.std.proofs.Common.{false, length, take, get_or, ◌<◌}
use Rattle.std.proofs.lemmas.Bool.{both_ways}
use Rattle.std.proofs.lemmas.List.{take_more}
use Rattle.dl_kinds.specs.declared.claims.ClaimView.{ClaimView}
use Rattle.slow_steal.proofs.Slowest.{found_skip, found_stays, found_takes}
use Rattle.slow_steal.proofs.choice.victim.Goals as goal
use Rattle.slow_steal.proofs.choice.victim.Goals.{then-may_lose+then-goes_before, else-may_lose, else-may_lose-via-then-may_lose+else-goes_before, else-may_lose-via-else-may_lose}

-- what a read past the end would give
abbrev blank : ClaimView
blank = record {
  id = 0;
  since = record { 0 = 0 };
  landed = 0;
  unlanded = 0;
  own = record { first = 0; count = 0 };
  able = false;
}

pub loop-claim-preserved : goal.loop-claim-preserved
loop-claim-preserved c =
    let i = c.loop-claim.claim-index in
    let claims = c.args.claims.now in
    let now = c.args.now.0 in
    let found = c.loop-claim.found in
    let here : i < length claims = c.loop-claim-test.true in
    let claim : ClaimView = get_or claims i blank in
    rw (take_more claims i blank here) (elim c.if-may_lose.branch [
      | then-may_lose+then-goes_before w ↦ rw w.found-is (
          found_takes now (take i claims) claim found c.loop-claim.invariant
          (c.may_lose.ensures.0 w.if-may_lose.true) (w.goes_before.ensures.0 w.if-goes_before.true))
      | else-may_lose w ↦ rw w.found-is (elim w.else-may_lose.branch [
        | else-may_lose-via-then-may_lose+else-goes_before v ↦
            found_stays now (take i claims) claim found c.loop-claim.invariant
            (λ before. both_ways v.goes_before.result v.if-goes_before.false (v.goes_before.ensures.1 before))
        | else-may_lose-via-else-may_lose v ↦ found_skip now (take i claims) claim found c.loop-claim.invariant
            (λ may. both_ways c.may_lose.result v.if-may_lose.false (c.may_lose.ensures.1 may))
      ])
    ])
