-- The places of consecutive blocks in a payload.
use Rattle.std.proofs.Common.{◌≡◌, ℕ, zero, suc, ◌<◌, ◌≤◌, ◌+◌, ◌-◌, subst, ⊎_elim, arith}
use Rattle.std.proofs.lemmas.Bool.{cases_eq}
use Rattle.dl_kinds.specs.Plan.{IsPlan, block_end, block_start, blocks_of}
use Rattle.dl_kinds.specs.PlanLaws.{BlocksFollow}

module _ (follow : BlocksFollow) (total len : ℕ) (plan : IsPlan total len) where
  rise_by : (b n : ℕ) → b + n < blocks_of total len → block_start len b ≤ block_start len (b + n)
  rise_by b zero within =
      subst (λ (c : ℕ). block_start len b ≤ block_start len c) (let e : b ≡ b + 0 = omega arith in e) (omega arith)
  rise_by b (suc n) within =
      let before = rise_by b n (omega (arith, within)) in
      let at = follow total len (b + n) plan (omega (arith, within)) in
      let next = at.next (omega (arith, within)) in
      let some = at.some in
      let here : block_start len b ≤ block_start len (b + n + 1) = omega (arith, before, next, some) in
      subst (λ (c : ℕ). block_start len b ≤ block_start len c) (let e : b + n + 1 ≡ b + suc n = omega arith in e) here

  pub starts_rise : (b c : ℕ) → b ≤ c → c < blocks_of total len → block_start len b ≤ block_start len c
  starts_rise b c less within =
      let e : b + (c - b) ≡ c = omega (arith, less) in
      subst (λ (k : ℕ). block_start len b ≤ block_start len k) e (rise_by b (c - b) (omega (arith, less, within)))

  pub starts_before : (b c : ℕ) → b ≤ c → c < blocks_of total len → block_start len b < block_end total len c
  starts_before b c less within =
      let rise = starts_rise b c less within in
      let some = (follow total len c plan within).some in
      omega (arith, rise, some)

  pub ends_rise : (b c : ℕ) → b ≤ c → c < blocks_of total len → block_end total len b ≤ block_end total len c
  ends_rise b c less within = ⊎_elim
      (λ same. subst (λ (k : ℕ). block_end total len b ≤ block_end total len k) same (omega arith))
      (λ other.
      let at = follow total len b plan (omega (arith, less, within)) in
      let next = at.next (omega (arith, less, other, within)) in
      let before = starts_before (b + 1) c (omega (arith, less, other)) within in
      omega (arith, next, before))
      (cases_eq b c)

  -- the end of one block comes before the start of a later one
  pub end_before : (b c : ℕ) → b < c → c < blocks_of total len → block_end total len b ≤ block_start len c
  end_before b c less within =
      let at = follow total len b plan (omega (arith, less, within)) in
      let next = at.next (omega (arith, less, within)) in
      let rise = starts_rise (b + 1) c (omega (arith, less)) within in
      omega (arith, next, rise)
