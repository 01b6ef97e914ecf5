-- What is ready before anything came, and behind what was taken.
use Rattle.std.proofs.Common.{◌≡◌, ℕ, ◌-◌, ◌+◌, ◌<◌, ◌≤◌, min, sym, arith, ⊎_elim, add-zero, subst, ap}
use Rattle.std.proofs.lemmas.Bool.{cases_lt}
use Rattle.dl_kinds.specs.Plan.{blocks_of}
use Rattle.dl_kinds.specs.PlanLaws.{BlocksFollow}
use Rattle.dl_kinds.specs.declared.plan.Plan.{Plan}
use Rattle.dl_kinds.specs.declared.runs.Run.{Run}
use Rattle.fetch_session.specs.Blocks.{cut, AreReady}
use Rattle.fetch_session.proofs.Cuts.{cut_grows, cuts_ordered}

-- no block is ready by fewer bytes than the first one has
pub few_ready : (plan : Plan) (end first len : ℕ) → BlocksFollow → first ≤ end → end ≤ blocks_of plan.total plan.piece_len
    → cut plan first + len ≤ cut plan (min (first + 64) end) → (first < end → cut plan first + len < cut plan (first + 1))
    → AreReady plan end (record { first = first; count = 0 }) len
few_ready plan end first len follow le within bounded few = record {
  within = omega arith;
  few = omega arith;
  whole = (let P : ℕ → Type 0 = λ b. cut plan b ≤ cut plan first + len in subst P (sym (add-zero first)) (omega arith));
  most = λ more. (let P : ℕ → Type 0 = λ b. cut plan first + len < cut plan (b + 1) in subst P (sym (add-zero first)) (few (omega arith)));
  bounded = bounded;
}

pub none_ready : (plan : Plan) (end first : ℕ) → BlocksFollow → first < end → end ≤ blocks_of plan.total plan.piece_len
    → AreReady plan end (record { first = first; count = 0 }) 0
none_ready plan end first follow less within =
    let far = (cuts_ordered plan first (min (first + 64) end) follow (omega arith) (omega arith)).0 in
    let here = (cut_grows plan first follow (omega arith)).0 in
    few_ready plan end first 0 follow (omega arith) within (omega (arith, far)) (λ _. omega (arith, here))

-- behind the blocks that were ready fewer bytes are left than the next one has
pub taken_ready : (plan : Plan) (end len rest : ℕ) (ready : Run) → BlocksFollow → end ≤ blocks_of plan.total plan.piece_len → AreReady plan end ready len
    → cut plan ready.first + len ≡ cut plan (ready.first + ready.count) + rest
    → AreReady plan end (record { first = ready.first + ready.count; count = 0 }) rest
taken_ready plan end len rest ready follow within are is =
    let next : ℕ = ready.first + ready.count in
    let le : next ≤ end = are.within in
    let far = (cuts_ordered plan (min (ready.first + 64) end) (min (next + 64) end) follow (omega arith) (omega arith)).0 in
    let reach : cut plan ready.first + len ≤ cut plan (min (ready.first + 64) end) = are.bounded in
    few_ready plan end next rest follow le within (omega (arith, far, reach, is))
    (λ less. ⊎_elim
    (λ (more : ready.count < min 64 (end - ready.first)). let m = are.most more in omega (arith, m, is))
    (λ (all : min 64 (end - ready.first) ≤ ready.count).
    let few : ready.count ≤ 64 = are.few in
    let at : min (ready.first + 64) end ≡ next = omega arith in
    let same : cut plan (min (ready.first + 64) end) ≡ cut plan next = ap (cut plan) at in
    let here = (cut_grows plan next follow (omega arith)).0 in
    omega (arith, reach, same, here, is))
    (cases_lt ready.count (min 64 (end - ready.first))))
