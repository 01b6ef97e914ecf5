-- How many bad answers of some mirrors are used and left: as many as there were.
use Rattle.std.proofs.Common.{◌≡◌, ⊎_elim, inl, inr, ℕ, ◌+◌, ◌≤◌, Bool, cond, List, [], ◌∷◌, ap, ◌∙◌, arith}
use Rattle.std.specs.Prelude.{count_by}
use Rattle.std.proofs.lemmas.List.Sums.{sum_by-append, sum_by-cons}
use Rattle.link_source.specs.BadAnswers.{IsUsed}
use Rattle.link_source.specs.Exchanges.{Exchange}
use Rattle.link_source.specs.Link.{LinkState}
use Rattle.link_source.specs.Mirrors.{Content, UsesBadAnswer}
use Rattle.link_source.specs.declared.bad_answers.Bad.{Bad}
use Rattle.memory_serving_laws.specs.Serving.{used_among}
use Rattle.request_chain.specs.Answered.{Gave, GaveAll}
use Rattle.served_runs.specs.Answering.{HasAnswered}
use Rattle.mark_costs.specs.Holding.{bad_among}

module _ (among : ℕ → Bool) where
  abbrev counts : Bad → ℕ
  counts bad = cond (among bad.mirror) 1 0

  -- used and left
  abbrev pub all_bad : Content → ℕ
  all_bad content = used_among among content + bad_among among content

  one_used : (old new : Content) (bad : Bad) → IsUsed old.bad old.used bad new.bad new.used → all_bad new ≡ all_bad old
  one_used old new bad is =
      let used = ap (count_by (λ (b : Bad). among b.mirror)) is.added in
      let used_sum = sum_by-append counts old.used (bad ∷ []) in
      let used_one = sum_by-cons counts bad [] in
      let left = ap (count_by (λ (b : Bad). among b.mirror)) is.others in
      let left_sum = sum_by-append counts is.front is.rest in
      let was = ap (count_by (λ (b : Bad). among b.mirror)) is.stood in
      let was_sum = sum_by-append counts is.front (bad ∷ is.rest) in
      let was_one = sum_by-cons counts bad is.rest in
      omega (arith, used, used_sum, used_one, left, left_sum, was, was_sum, was_one)

  gave_same : (old : Content) (stream : Exchange) (due : List ℕ) (new : Content) → Gave old stream due new
      → all_bad new ≡ all_bad old
  gave_same old stream due new (inl none) = ap all_bad none.same
  gave_same old stream due new (inr one) = ⊎_elim (λ (same : new ≡ old). ap all_bad same)
      (λ (uses : UsesBadAnswer old stream.host stream.port new). one_used old new uses.bad uses.used) one.answers.effect

  all_same : (old : Content) (streams : List Exchange) (new : Content) → GaveAll old streams new → all_bad new ≡ all_bad old
  all_same old [] new same = ap all_bad same
  all_same old (stream ∷ older) new (between, due, past, gave) =
      gave_same between stream due new gave ∙ all_same old older between past

  pub used_at_most : (old new : LinkState) → HasAnswered old new → used_among among new.content ≤ all_bad old.content
  used_at_most old new has = let same = all_same old.content has.top new.content has.gave in omega (arith, same)
