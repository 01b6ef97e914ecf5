-- When a download rests after a halt, and how often it went on.
use Rattle.std.proofs.Common.{◌≡◌, ℕ, suc, ◌+◌, ◌≤◌, Bool, true, false, cond, List, [], ◌∷◌, refl, arith}
use Rattle.dl_kinds.specs.declared.claims.Claim.{Claim}
use Rattle.dl_history.proofs.Members.{Has}
use Rattle.dl_history.specs.OwnEvents.{Checks, Clears, Grants, Halts, Lands, Loses, Opens, OwnEvent, Saves, Settles, Sizes}
use Rattle.dl_history.specs.StandingClaims.{standing_claims}
use Rattle.work_bounds.proofs.Ordered.{none_halted, stood_lands, stood_loses, stood_sizes}
use Rattle.work_bounds.proofs.Tallies.{counted_so, tally}
use Rattle.work_bounds.specs.WorkLimits.{is_halt, pauses_in}

abbrev pub halts : List OwnEvent → ℕ
halts own = tally is_halt own

-- it was halted, and no claim came since
abbrev pub rests : List OwnEvent → Bool
rests [] = false
rests (Opens verified blocks now ∷ before) = rests before
rests (Grants claim ∷ before) = false
rests (Lands id mirror run ∷ before) = rests before
rests (Settles piece right giver ∷ before) = rests before
rests (Clears piece ∷ before) = rests before
rests (Loses id mirror piece mark ∷ before) = rests before
rests (Sizes id total ∷ before) = rests before
rests (Saves now ∷ before) = rests before
rests (Checks right ∷ before) = rests before
rests (Halts ends ∷ before) = true

-- the halts before the newest claim
abbrev pub pauses : List OwnEvent → ℕ
pauses [] = 0
pauses (Opens verified blocks now ∷ before) = pauses before
pauses (Grants claim ∷ before) = halts before
pauses (Lands id mirror run ∷ before) = pauses before
pauses (Settles piece right giver ∷ before) = pauses before
pauses (Clears piece ∷ before) = pauses before
pauses (Loses id mirror piece mark ∷ before) = pauses before
pauses (Sizes id total ∷ before) = pauses before
pauses (Saves now ∷ before) = pauses before
pauses (Checks right ∷ before) = pauses before
pauses (Halts ends ∷ before) = pauses before

pub pauses_so : (own : List OwnEvent) → pauses_in own ≡ pauses own
pauses_so [] = refl
pauses_so (Opens verified blocks now ∷ before) = pauses_so before
pauses_so (Grants claim ∷ before) = counted_so is_halt before
pauses_so (Lands id mirror run ∷ before) = pauses_so before
pauses_so (Settles piece right giver ∷ before) = pauses_so before
pauses_so (Clears piece ∷ before) = pauses_so before
pauses_so (Loses id mirror piece mark ∷ before) = pauses_so before
pauses_so (Sizes id total ∷ before) = pauses_so before
pauses_so (Saves now ∷ before) = pauses_so before
pauses_so (Checks right ∷ before) = pauses_so before
pauses_so (Halts ends ∷ before) = pauses_so before

weaker : (t : Bool) (k n : ℕ) → k + cond t 1 0 ≤ n → k + 1 ≤ suc n
weaker true k n le = omega arith
weaker false k n le = omega arith

-- a halt since the newest claim isn't a pause
pub pauses_few : (own : List OwnEvent) → pauses own + cond (rests own) 1 0 ≤ halts own
pauses_few [] = omega arith
pauses_few (Opens verified blocks now ∷ before) = pauses_few before
pauses_few (Grants claim ∷ before) = omega arith
pauses_few (Lands id mirror run ∷ before) = pauses_few before
pauses_few (Settles piece right giver ∷ before) = pauses_few before
pauses_few (Clears piece ∷ before) = pauses_few before
pauses_few (Loses id mirror piece mark ∷ before) = pauses_few before
pauses_few (Sizes id total ∷ before) = pauses_few before
pauses_few (Saves now ∷ before) = pauses_few before
pauses_few (Checks right ∷ before) = pauses_few before
pauses_few (Halts ends ∷ before) = weaker (rests before) (pauses before) (halts before) (pauses_few before)

-- no claim stands while it rests
pub none_rests : (own : List OwnEvent) → rests own ≡ true → (g : Claim) → Has (standing_claims own) g → ⊥
none_rests [] is g has = has
none_rests (Opens verified blocks now ∷ before) is g has = none_rests before is g has
none_rests (Grants claim ∷ before) is g has = absurd (let e = is in cc)
none_rests (Lands id mirror run ∷ before) is g has = none_rests before is g (stood_lands before id mirror run g has)
none_rests (Settles piece right giver ∷ before) is g has = none_rests before is g has
none_rests (Clears piece ∷ before) is g has = none_rests before is g has
none_rests (Loses id mirror piece mark ∷ before) is g has =
    none_rests before is g (stood_loses before id mirror piece mark g has)
none_rests (Sizes id total ∷ before) is g has = none_rests before is g (stood_sizes before id total g has)
none_rests (Saves now ∷ before) is g has = none_rests before is g has
none_rests (Checks right ∷ before) is g has = none_rests before is g has
none_rests (Halts ends ∷ before) is g has = none_halted before ends g has
