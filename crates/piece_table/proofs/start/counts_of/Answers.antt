use Rattle.std.proofs.Common.{◌≡◌, ℕ, ◌+◌, ◌*◌, ◌<◌, ◌≤◌, List, [], ◌∷◌, ◌++◌, length, get_or, ap, ◌∙◌, arith, ⊎_elim}
use Rattle.std.proofs.lemmas.Bool.{cases_lt}
use Rattle.std.proofs.lemmas.List.{length_push, get_or_append_left, get_or_push}
use Rattle.dl_kinds.specs.Plan.{full_blocks}
use Rattle.dl_kinds.specs.Lists.{part_at}
use Rattle.piece_table.specs.Progress.{landed_count}
use Rattle.piece_table.proofs.Counts.{count_of}
use Rattle.piece_table.proofs.start.counts_of.Goals as goal

-- one more number is pushed
pushed : (f : ℕ → ℕ) (xs ys : List ℕ) (n x : ℕ) → length xs ≡ n → ((k : ℕ) → k < n → get_or xs k 0 ≡ f k) → x ≡ f n → ys ≡ xs ++ x ∷ []
    → (length ys ≡ n + 1) × ((k : ℕ) → k < n + 1 → get_or ys k 0 ≡ f k)
pushed f xs ys n x long each is all = (
  ap length all ∙ length_push xs x ∙ ap (λ m. m + 1) long,
  λ k below.
      ⊎_elim
      (λ (less : k < n). ap (λ zs. get_or zs k 0) all ∙ get_or_append_left xs (x ∷ []) 0 k (omega arith) ∙ each k less)
      (λ (more : n ≤ k).
      let end : n ≡ k = omega arith in
      ap (λ zs. get_or zs k 0) all ∙ get_or_push xs x 0 k (long ∙ end) ∙ is ∙ ap f end)
      (cases_lt k n),
)

pub loop-piece-preserved : goal.loop-piece-preserved
loop-piece-preserved c =
    let plan = c.args.plan.now in
    let landed = c.args.landed.now in
    let piece = c.loop-piece.piece in
    let run = c.piece_run.ensures in
    let count : c.count_landed.result ≡ landed_count plan.total plan.piece_len landed piece =
    c.count_landed.ensures ∙ ap (λ n. count_of (part_at landed n c.piece_run.result.count)) run.first
    ∙ ap (λ n. count_of (part_at landed (piece * full_blocks plan.piece_len) n)) run.count in
    let left = pushed (landed_count plan.total plan.piece_len landed) c.loop-piece.held.items c.push.new.self.items piece c.count_landed.result c.loop-piece.invariant.many c.loop-piece.invariant.each count c.in_ok-push.ensures.items in
    record { many = left.0; each = left.1 }
