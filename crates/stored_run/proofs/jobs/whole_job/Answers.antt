use Rattle.std.proofs.Common.{◌≡◌, ◌≤◌, ◌<◌, ◌+◌, ◌-◌, ◌∷◌, ◌++◌, [], ℕ, List, ap, subst, sym, ◌∙◌, arith}
use Rattle.std.proofs.lemmas.List.Elements.{All-cons, All-nil}
use Rattle.std.proofs.lemmas.List.Sums.{sum_by-cons}
use Rattle.std.specs.Prelude.{All}
use Rattle.dl_kinds.specs.Plan.{block_end, block_start}
use Rattle.dl_kinds.specs.declared.plan.Plan.{Plan}
use Rattle.dl_kinds.specs.declared.runs.Run.{Run}
use Rattle.metainfo.proofs.Asked.{run_has_bytes}
use Rattle.span_map.specs.Jobs.{IsJob, IsJobPart, IsRun, parts_len, run_end, run_start}
use Rattle.span_map.specs.declared.jobs.JobPart.{JobPart}
use Rattle.stored_run.proofs.jobs.whole_job.Goals as goal

one_part : (plan : Plan) (run : Run) (part : JobPart) (parts : List JobPart) → parts ≡ part ∷ [] → IsRun plan run
    → 0 < part.len → part.at + part.len ≤ part.total → run_start plan run + part.len ≡ run_end plan run
    → IsJob (record { plan = plan; run = run; parts = parts })
one_part plan run part parts are is some within len = record {
  some = is.some;
  within = is.within;
  parts = subst (λ (ps : List JobPart). All IsJobPart ps) (sym are)
      (All-cons IsJobPart part [] (record { some = some; within = within }) (All-nil IsJobPart));
  len = subst (λ (ps : List JobPart). run_start plan run + parts_len ps ≡ run_end plan run) (sym are)
      (let one = sum_by-cons (λ (p : JobPart). p.len) part [] in omega (arith, len, one));
}

pub overflow_sub-last : goal.overflow_sub-last
overflow_sub-last c =
    let plan = c.args.plan in
    let run = c.args.run in
    let some = c.requires.run.some in
    let within = c.requires.run.within in
    let low = run_has_bytes c.plan_laws.ensures.follow plan.total plan.piece_len run.first (run.count - 1) plan.is_plan (omega (arith, some, within)) in
    omega (arith, low, c.block_span-start.ensures.start, c.block_span-last.ensures.end)

pub returns-clause-sound : goal.returns-clause-sound
returns-clause-sound c =
    let plan = c.args.plan in
    let run = c.args.run in
    let some = c.requires.run.some in
    let within = c.requires.run.within in
    let low : block_start plan.piece_len run.first < block_end plan.total plan.piece_len (run.first + (run.count - 1)) =
    run_has_bytes c.plan_laws.ensures.follow plan.total plan.piece_len run.first (run.count - 1) plan.is_plan
    (omega (arith, some, within)) in
    let start : c.block_span-start.result.0 ≡ block_start plan.piece_len run.first = c.block_span-start.ensures.start in
    let end : c.block_span-last.result.0 + c.block_span-last.result.1
    ≡ block_end plan.total plan.piece_len (run.first + (run.count - 1)) = c.block_span-last.ensures.end in
    let high : c.block_span-last.result.0 + c.block_span-last.result.1 ≤ plan.total = c.block_span-last.ensures.within in
    let last : run.first + (run.count - 1) ≡ run.first + run.count - 1 = omega (arith, some) in
    let ends : c.block_span-last.result.0 + c.block_span-last.result.1 ≡ run_end plan run =
    end ∙ ap (λ (n : ℕ). block_end plan.total plan.piece_len n) last in
    let part : JobPart = record {
      url = c.in_ok-of.field-0;
      at = c.block_span-start.result.0;
      len = c.block_span-last.result.0 + c.block_span-last.result.1 - c.block_span-start.result.0;
      total = plan.total;
    } in
    one_part plan run part c.push.new.self
    (c.in_ok-push.ensures.ok ∙ ap (λ (ps : List JobPart). ps ++ part ∷ []) c.new-parts.ensures) c.requires.run
    (omega (arith, low, start, end)) (omega (arith, low, start, end, high)) (omega (arith, low, start, end, ends))
