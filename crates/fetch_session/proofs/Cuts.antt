-- Where blocks begin and end, in order.
use Rattle.std.proofs.Common.{◌≡◌, ℕ, zero, suc, ◌-◌, ◌+◌, ◌*◌, ◌<◌, ◌≤◌, sym, ◌∙◌, arith, ⊎_elim, add-zero, subst}
use Rattle.std.proofs.lemmas.Bool.{cases_lt}
use Rattle.std.proofs.lemmas.Bool.Decides.{nat_tests}
use Rattle.dl_kinds.specs.Plan.{blocks_of, block_start, block_end}
use Rattle.dl_kinds.specs.PlanLaws.{BlocksFollow, BlockFollows}
use Rattle.dl_kinds.specs.declared.plan.Plan.{Plan}
use Rattle.fetch_session.specs.Blocks.{cut}

-- a block of the payload begins at its cut
pub cut_inside : (plan : Plan) (block : ℕ) → block < blocks_of plan.total plan.piece_len → cut plan block ≡ block_start plan.piece_len block
cut_inside plan block below = grind (arith, nat_tests)

-- behind the last block the payload ends
pub cut_behind : (plan : Plan) (block : ℕ) → blocks_of plan.total plan.piece_len ≤ block → cut plan block ≡ plan.total
cut_behind plan block le = grind (arith, nat_tests)

-- a block ends where the next one is cut
pub cut_next : (plan : Plan) (block : ℕ) → BlocksFollow → block < blocks_of plan.total plan.piece_len → block_end plan.total plan.piece_len block ≡ cut plan (block + 1)
cut_next plan block follow below =
    let f : BlockFollows plan.total plan.piece_len block = follow plan.total plan.piece_len block plan.is_plan below in
    ⊎_elim
    (λ (less : block + 1 < blocks_of plan.total plan.piece_len). f.next less ∙ sym (cut_inside plan (block + 1) less))
    (λ (le : blocks_of plan.total plan.piece_len ≤ block + 1). f.last (omega arith) ∙ sym (cut_behind plan (block + 1) le))
    (cases_lt (block + 1) (blocks_of plan.total plan.piece_len))

-- each block has bytes, 16,384 at most
pub cut_grows : (plan : Plan) (block : ℕ) → BlocksFollow → block < blocks_of plan.total plan.piece_len → (cut plan block < cut plan (block + 1)) × (cut plan (block + 1) ≤ cut plan block + 16384)
cut_grows plan block follow below =
    let f : BlockFollows plan.total plan.piece_len block = follow plan.total plan.piece_len block plan.is_plan below in
    let start : cut plan block ≡ block_start plan.piece_len block = cut_inside plan block below in
    let end : block_end plan.total plan.piece_len block ≡ cut plan (block + 1) = cut_next plan block follow below in
    let some : block_start plan.piece_len block < block_end plan.total plan.piece_len block = f.some in
    let few : block_end plan.total plan.piece_len block ≤ block_start plan.piece_len block + 16384 = omega arith in
    (omega (arith, start, end, some), omega (arith, start, end, few))

-- so many blocks have so many bytes at least, and at most 16,384 each
pub cuts_apart : (plan : Plan) (block n : ℕ) → BlocksFollow → block + n ≤ blocks_of plan.total plan.piece_len → (cut plan block + n ≤ cut plan (block + n)) × (cut plan (block + n) ≤ cut plan block + n * 16384)
cuts_apart plan block zero follow le =
    subst (λ (b : ℕ). (cut plan block + 0 ≤ cut plan b) × (cut plan b ≤ cut plan block + 0 * 16384)) (sym (add-zero block)) (omega arith, omega arith)
cuts_apart plan block (suc n) follow le =
    let before = cuts_apart plan block n follow (omega arith) in
    let here = cut_grows plan (block + n) follow (omega arith) in
    let same : block + n + 1 ≡ block + suc n = omega arith in
    subst (λ (b : ℕ). (cut plan block + suc n ≤ cut plan b) × (cut plan b ≤ cut plan block + suc n * 16384)) same
    (omega (arith, before.0, here.0), omega (arith, before.1, here.1))

pub cuts_ordered : (plan : Plan) (a b : ℕ) → BlocksFollow → a ≤ b → b ≤ blocks_of plan.total plan.piece_len → (cut plan a ≤ cut plan b) × (cut plan b ≤ cut plan a + (b - a) * 16384)
cuts_ordered plan a b follow le within =
    let far = cuts_apart plan a (b - a) follow (omega arith) in
    let same : a + (b - a) ≡ b = omega arith in
    subst (λ (e : ℕ). (cut plan a ≤ cut plan e) × (cut plan e ≤ cut plan a + (b - a) * 16384)) same (omega (arith, far.0), far.1)
