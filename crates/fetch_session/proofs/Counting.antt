-- How many blocks are whole.
use Rattle.std.proofs.Common.{◌≡◌, ℕ, zero, suc, ◌-◌, ◌+◌, ◌<◌, ◌≤◌, min, Bool, true, false, cond, count_by, refl, ap, ap₂, arith, ⊎_elim, ◌⊎◌, zero-le}
use Rattle.std.proofs.lemmas.Bool.{cases_lt, le-leb, lt-leb}
use Rattle.std.proofs.lemmas.List.FromFn.{length-range_with_len}
use Rattle.std.proofs.lemmas.List.Sums.{sum_by-cons, count_by-le-length}
use Rattle.std.specs.List.{range_with_len}
use Rattle.std.specs.Prelude.{nat_le}
use Rattle.dl_kinds.specs.Plan.{blocks_of, block_end}
use Rattle.dl_kinds.specs.PlanLaws.{BlocksFollow}
use Rattle.dl_kinds.specs.declared.plan.Plan.{Plan}
use Rattle.dl_kinds.specs.declared.runs.Run.{Run}
use Rattle.fetch_session.specs.Blocks.{cut, whole_blocks, ready_blocks, AreReady}
use Rattle.span_map.specs.Jobs.{run_start}
use Rattle.fetch_session.proofs.Cuts.{cut_next, cut_grows, cuts_ordered}

-- ---- tests that pass up to a place

count_first : (p : ℕ → Bool) (a n : ℕ) → count_by p (range_with_len a (suc n)) ≡ cond (p a) 1 0 + count_by p (range_with_len (a + 1) n)
count_first p a n = sum_by-cons (λ x. cond (p x) 1 0) a (range_with_len (a + 1) n)

none_pass : (p : ℕ → Bool) (a n : ℕ) → ((k : ℕ) → a ≤ k → k < a + n → p k ≡ false) → count_by p (range_with_len a n) ≡ 0
none_pass p a zero not = refl
none_pass p a (suc n) not =
    let rest = none_pass p (a + 1) n (λ k ge less. not k (omega arith) (omega arith)) in
    let here = ap {B = ℕ} (λ b. cond b 1 0) (not a (omega arith) (omega arith)) in
    omega (arith, count_first p a n, rest, here)

pub some_pass : (p : ℕ → Bool) (a n m : ℕ) → m ≤ n → ((k : ℕ) → a ≤ k → k < a + m → p k ≡ true) → m ≤ count_by p (range_with_len a n)
some_pass p a n zero le pass = zero-le
some_pass p a zero (suc m) le pass = absurd (omega arith)
some_pass p a (suc n) (suc m) le pass =
    let rest = some_pass p (a + 1) n m (omega arith) (λ k ge less. pass k (omega arith) (omega arith)) in
    let here = ap {B = ℕ} (λ b. cond b 1 0) (pass a (omega arith) (omega arith)) in
    omega (arith, count_first p a n, rest, here)

pub first_pass : (p : ℕ → Bool) (a n m : ℕ) → m ≤ n → ((k : ℕ) → a ≤ k → k < a + m → p k ≡ true) → ((k : ℕ) → a + m ≤ k → k < a + n → p k ≡ false)
    → count_by p (range_with_len a n) ≡ m
first_pass p a n zero le pass not = none_pass p a n (λ k ge less. not k (omega arith) less)
first_pass p a zero (suc m) le pass not = absurd (omega arith)
first_pass p a (suc n) (suc m) le pass not =
    let rest = first_pass p (a + 1) n m (omega arith) (λ k ge less. pass k (omega arith) (omega arith)) (λ k ge less. not k (omega arith) (omega arith)) in
    let here = ap {B = ℕ} (λ b. cond b 1 0) (pass a (omega arith) (omega arith)) in
    omega (arith, count_first p a n, rest, here)

-- ---- whole blocks

module _ (plan : Plan) (run : Run) (follow : BlocksFollow) (within : run.first + run.count ≤ blocks_of plan.total plan.piece_len) where
  is_whole : (bytes k m : ℕ) → k < run.first + m → m ≤ run.count → cut plan (run.first + m) ≤ run_start plan run + bytes
      → nat_le (block_end plan.total plan.piece_len k) (run_start plan run + bytes) ≡ true
  is_whole bytes k m less le reach =
      let end = cut_next plan k follow (omega arith) in
      let far = (cuts_ordered plan (k + 1) (run.first + m) follow (omega arith) (omega arith)).0 in
      le-leb (block_end plan.total plan.piece_len k) (run_start plan run + bytes) (omega (arith, end, far, reach))

  isnt_whole : (bytes k m : ℕ) → run.first + m ≤ k → k < run.first + run.count → run_start plan run + bytes < cut plan (run.first + m + 1)
      → nat_le (block_end plan.total plan.piece_len k) (run_start plan run + bytes) ≡ false
  isnt_whole bytes k m ge less short =
      let end = cut_next plan k follow (omega arith) in
      let far = (cuts_ordered plan (run.first + m + 1) (k + 1) follow (omega arith) (omega arith)).0 in
      lt-leb (block_end plan.total plan.piece_len k) (run_start plan run + bytes) (omega (arith, end, far, short))

  whole_least : (bytes m : ℕ) → m ≤ run.count → cut plan (run.first + m) ≤ run_start plan run + bytes → m ≤ whole_blocks plan run bytes
  whole_least bytes m le reach =
      some_pass (λ block. nat_le (block_end plan.total plan.piece_len block) (run_start plan run + bytes)) run.first run.count m le
      (λ k ge less. is_whole bytes k m less le reach)

  whole_most : (bytes : ℕ) → whole_blocks plan run bytes ≤ run.count
  whole_most bytes =
      let p : ℕ → Bool = λ block. nat_le (block_end plan.total plan.piece_len block) (run_start plan run + bytes) in
      omega (arith, count_by-le-length p (range_with_len run.first run.count), length-range_with_len run.first run.count)

  whole_is : (bytes m : ℕ) → m ≤ run.count → cut plan (run.first + m) ≤ run_start plan run + bytes
      → (m < run.count → run_start plan run + bytes < cut plan (run.first + m + 1)) → whole_blocks plan run bytes ≡ m
  whole_is bytes m le reach short =
      first_pass (λ block. nat_le (block_end plan.total plan.piece_len block) (run_start plan run + bytes)) run.first run.count m le
      (λ k ge less. is_whole bytes k m less le reach)
      (λ k ge less. isnt_whole bytes k m ge less (short (omega arith)))

  -- where so many bytes were handed out, up to a block's beginning
  handed_whole : (handed next : ℕ) → run.first ≤ next → next ≤ run.first + run.count → run_start plan run + handed ≡ cut plan next
      → whole_blocks plan run handed ≡ next - run.first
  handed_whole handed next begun le is =
      let at : run.first + (next - run.first) ≡ next = omega arith in
      let here : cut plan (run.first + (next - run.first)) ≡ cut plan next = ap (cut plan) at in
      let behind : cut plan (run.first + (next - run.first) + 1) ≡ cut plan (next + 1) = ap (λ b. cut plan (b + 1)) at in
      whole_is handed (next - run.first) (omega arith) (omega (arith, here, is))
      (λ less. let g = (cut_grows plan next follow (omega arith)).0 in omega (arith, behind, g, is))

-- The ready blocks are those by the bytes that are held, where no other byte came, or what is held reaches the end of
-- what there is room for.
pub ready_is : (plan : Plan) (run : Run) (end handed came len : ℕ) (ready : Run) → BlocksFollow → run.first + run.count ≤ blocks_of plan.total plan.piece_len
    → end ≡ run.first + run.count → run.first ≤ ready.first → run_start plan run + handed ≡ cut plan ready.first → AreReady plan end ready len
    → len ≤ came → (came ≡ len) ⊎ (cut plan ready.first + len ≡ cut plan (min (ready.first + 64) end))
    → ready ≡ ready_blocks plan run handed (handed + came)
ready_is plan run end handed came len ready follow within end_is begun is are le waits =
    let ends : ready.first + ready.count ≤ end = are.within in
    let few : ready.count ≤ 64 = are.few in
    let out = handed_whole plan run follow within handed ready.first begun (omega arith) is in
    let m : ℕ = ready.first - run.first + ready.count in
    let at : run.first + (ready.first - run.first + ready.count) ≡ ready.first + ready.count = omega arith in
    let here : cut plan (run.first + (ready.first - run.first + ready.count)) ≡ cut plan (ready.first + ready.count) = ap (cut plan) at in
    let behind : cut plan (run.first + (ready.first - run.first + ready.count) + 1) ≡ cut plan (ready.first + ready.count + 1) = ap (λ b. cut plan (b + 1)) at in
    let whole : cut plan (ready.first + ready.count) ≤ cut plan ready.first + len = are.whole in
    let least = whole_least plan run follow within (handed + came) (ready.first - run.first + ready.count) (omega arith) (omega (arith, here, whole, is)) in
    let top = whole_most plan run follow within (handed + came) in
    let count : ready.count ≡ min 64 (whole_blocks plan run (handed + came) - whole_blocks plan run handed) =
    ⊎_elim
    (λ (more : ready.count < min 64 (end - ready.first)).
    let short : cut plan ready.first + len < cut plan (ready.first + ready.count + 1) = are.most more in
    let far = (cuts_ordered plan (ready.first + ready.count + 1) (min (ready.first + 64) end) follow (omega arith) (omega arith)).0 in
    let same : came ≡ len = ⊎_elim (λ (e : came ≡ len). e) (λ (e : cut plan ready.first + len ≡ cut plan (min (ready.first + 64) end)). absurd (omega (arith, e, far, short))) waits in
    let w = whole_is plan run follow within (handed + came) (ready.first - run.first + ready.count) (omega arith) (omega (arith, here, whole, is)) (λ _. omega (arith, behind, short, is, same)) in
    omega (arith, w, out))
    (λ (all : min 64 (end - ready.first) ≤ ready.count). omega (arith, least, top, out))
    (cases_lt ready.count (min 64 (end - ready.first))) in
    let first : ready.first ≡ run.first + whole_blocks plan run handed = omega (arith, out) in
    ap₂ (λ (f c : ℕ). let r : Run = record { first = f; count = c } in r) first count
