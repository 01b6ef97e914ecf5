-- The bytes of the blocks of a run, each of which is of one block alone.
use Rattle.std.proofs.Common.{◌≡◌, ◌∙◌, ap, sym, subst, ℕ, zero, suc, ◌+◌, ◌-◌, ◌*◌, ◌/◌, ◌%◌, ◌<◌, ◌≤◌, ⊎_elim, arith}
use Rattle.std.proofs.Math.Nat.{mul-le-mul_right}
use Rattle.std.proofs.lemmas.Bool.{cases_lt}
use Rattle.std.proofs.lemmas.Nat.{div-add-mod'}
use Rattle.dl_kinds.specs.Plan.{IsPlan, blocks_of, full_blocks, piece_of, place_of, piece_start, piece_end, block_start, block_end}
use Rattle.dl_kinds.specs.PlanLaws.{BlocksFollow}
use Rattle.dl_kinds.specs.declared.runs.Run.{Run}
use Rattle.control_file.specs.declared.want.Want.{Want}
use Rattle.span_map.specs.Jobs.{IsRun, run_start, run_end}
use Rattle.resume_core.specs.Runs.{IsBlockOf}

-- the byte at this place of the payload is one of the block's, or of the piece's
pub record IsInBlock (total len block i : ℕ) : Type 0 where
  pub from : block_start len block ≤ i
  pub before : i < block_end total len block

pub record IsInPiece (total len piece i : ℕ) : Type 0 where
  pub from : piece_start len piece ≤ i
  pub before : i < piece_end total len piece

-- ---- one piece, and one block

lower_piece : (len p q i : ℕ) → p < q → i < (p + 1) * len → q * len ≤ i → ⊥
lower_piece len p q i less before from =
    let more : p + 1 ≤ q = omega (arith, less) in
    let step : (p + 1) * len ≤ q * len = mul-le-mul_right len more in
    absurd (omega (arith, step, before, from))

same_number : (p q : ℕ) → (p < q → ⊥) → (q < p → ⊥) → p ≡ q
same_number p q below above = ⊎_elim
    (λ less. absurd (below less))
    (λ le. ⊎_elim (λ less. absurd (above less)) (λ ge. let e : p ≡ q = omega (arith, le, ge) in e) (cases_lt q p))
    (cases_lt p q)

pub one_piece : (total len p q i : ℕ) → IsInPiece total len p i → IsInPiece total len q i → p ≡ q
one_piece total len p q i in_p in_q = same_number p q
    (λ less. lower_piece len p q i less (omega (arith, in_p.before)) (omega (arith, in_q.from)))
    (λ less. lower_piece len q p i less (omega (arith, in_q.before)) (omega (arith, in_p.from)))

pub piece_of_block : (total len b i : ℕ) → IsInBlock total len b i → IsInPiece total len (piece_of len b) i
piece_of_block total len b i inside = record {
  from = omega (arith, inside.from);
  before = omega (arith, inside.before);
}

pub one_block : (total len b c i : ℕ) → IsInBlock total len b i → IsInBlock total len c i → b ≡ c
one_block total len b c i in_b in_c =
    let piece : piece_of len b ≡ piece_of len c =
    one_piece total len (piece_of len b) (piece_of len c) i (piece_of_block total len b i in_b)
    (piece_of_block total len c i in_c) in
    let start : piece_of len b * len ≡ piece_of len c * len = ap (λ (p : ℕ). p * len) piece in
    let place : place_of len b ≡ place_of len c =
    omega (arith, start, in_b.from, in_b.before, in_c.from, in_c.before) in
    sym (div-add-mod' b (full_blocks len))
    ∙ ap (λ (p : ℕ). p * full_blocks len + b % full_blocks len) piece
    ∙ ap (λ (k : ℕ). c / full_blocks len * full_blocks len + k) place
    ∙ div-add-mod' c (full_blocks len)

-- ---- consecutive blocks

module _ (follow : BlocksFollow) (total len : ℕ) (plan : IsPlan total len) (first : ℕ) where
  next_start : (n : ℕ) → first + suc n < blocks_of total len
      → block_end total len (first + n) ≡ block_start len (first + suc n)
  next_start n within =
      let here : first + n < blocks_of total len = omega (arith, within) in
      let more : first + n + 1 < blocks_of total len = omega (arith, within) in
      (follow total len (first + n) plan here).next more
      ∙ ap (block_start len) (let e : first + n + 1 ≡ first + suc n = omega arith in e)

  some_bytes : (n : ℕ) → first + n < blocks_of total len → block_start len first < block_end total len (first + n)
  some_bytes zero within =
      let e : first + 0 ≡ first = omega arith in
      subst (λ (b : ℕ). block_start len first < block_end total len b) (sym e)
      (follow total len first plan (omega (arith, within))).some
  some_bytes (suc n) within =
      let before = some_bytes n (omega (arith, within)) in
      let next = next_start n within in
      let here = (follow total len (first + suc n) plan within).some in
      omega (arith, before, next, here)

  -- which of them has the byte
  which_block : (n i : ℕ) → first + n < blocks_of total len → block_start len first ≤ i
      → i < block_end total len (first + n)
      → (b : ℕ) × (first ≤ b) × (b ≤ first + n) × IsInBlock total len b i
  which_block zero i within from before =
      let e : first + 0 ≡ first = omega arith in (
        first,
        omega arith,
        omega arith,
        record {
          from = from;
          before = subst (λ (b : ℕ). i < block_end total len b) e before;
        },
      )
  which_block (suc n) i within from before = ⊎_elim
      (λ early.
      let found = which_block n i (omega (arith, within)) from early in
      (found.0, found.1, omega (arith, found.2), found.3))
      (λ late.
      let next = next_start n within in
      (first + suc n, omega arith, omega arith, record { from = omega (arith, next, late); before = before }))
      (cases_lt i (block_end total len (first + n)))

-- ---- a run

module _ (follow : BlocksFollow) (want : Want) (run : Run) (plan : IsPlan want.plan.total want.plan.piece_len)
    (is : IsRun want.plan run) where
  last_is : run.first + (run.count - 1) ≡ run.first + run.count - 1
  last_is = omega (arith, is.some)

  last_within : run.first + (run.count - 1) < blocks_of want.plan.total want.plan.piece_len
  last_within = omega (arith, is.some, is.within)

  pub run_has_bytes : run_start want.plan run < run_end want.plan run
  run_has_bytes =
      subst (λ (b : ℕ). run_start want.plan run < block_end want.plan.total want.plan.piece_len b) last_is
      (some_bytes follow want.plan.total want.plan.piece_len plan run.first (run.count - 1) last_within)

  pub block_in_run : (i : ℕ) → run_start want.plan run ≤ i → i < run_end want.plan run
      → (b : ℕ) × IsBlockOf run b × IsInBlock want.plan.total want.plan.piece_len b i
  block_in_run i from before =
      let found =
      which_block follow want.plan.total want.plan.piece_len plan run.first (run.count - 1) i last_within from
      (subst (λ (b : ℕ). i < block_end want.plan.total want.plan.piece_len b) (sym last_is) before) in
      (found.0, record { from = found.1; before = omega (arith, found.2, is.some) }, found.3)
