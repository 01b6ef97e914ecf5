use Rattle.std.proofs.Common.{◌≡◌, ◌<◌, ◌+◌, true, false, sym, ◌∙◌, inl, inr, arith}
use Rattle.std.proofs.lemmas.Bool.{cases_lt}
use Rattle.dl_kinds.specs.Plan.{blocks_of}
use Rattle.dl_kinds.specs.declared.runs.Run.{Run}
use Rattle.segment_claim.specs.Free.{IsLooseStretch}
use Rattle.segment_claim.specs.Spans.{IsNextStretch, NoneLoose}
use Rattle.segment_claim.proofs.BestStretch.{at_none, best_less, best_with}
use Rattle.segment_claim.proofs.Covers.{inside}
use Rattle.segment_claim.proofs.LooseRuns.{end_is_cut, is_stretch, next_is_only}
use Rattle.segment_claim.proofs.scene.Scene.best_loose.Goals as goal

pub loop-run-preserved : goal.loop-run-preserved
loop-run-preserved c =
    let s = c.args.self.now in
    let kept = c.loop-run.invariant in
    let run : Run = c.in-Some.run' in
    let next : IsNextStretch s c.loop-run.at run = c.in-Some.ensures.stretch in
    let within = next.ends.within in
    let some = next.ends.some in
    record {
      within = within;
      cover = c.in-Some.ensures.cover;
      cut = end_is_cut s run next.ends;
      best = best_with s (λ other. IsLooseStretch s other × (other.first < c.loop-run.at))
          (λ other. IsLooseStretch s other × (other.first < run.first + run.count))
          c.loop-run.found c.better-found.result run (record { some = some; within = within })
          (inl (is_stretch s c.loop-run.at run kept.cut next))
          (λ other looked. elim (cases_lt other.first c.loop-run.at) [
            | inl early ↦ inl (looked.0, early)
            | inr late ↦ inr (next_is_only s c.loop-run.at run other next looked.0 late looked.1)
          ]) kept.best c.better-found.ensures;
    }

pub returns : goal.returns
returns c =
    let s = c.args.self.now in
    let none : NoneLoose s c.loop-run.at (blocks_of s.total s.piece_len) =
    at_none c.next_stretch.result (NoneLoose s c.loop-run.at (blocks_of s.total s.piece_len))
    (IsNextStretch s c.loop-run.at) c.in_default.not-Some c.next_stretch.ensures.stretch in
    best_less s (λ other. IsLooseStretch s other × (other.first < c.loop-run.at)) (IsLooseStretch s) c.loop-run.found
    (λ other stretch. (
      stretch,
      (elim (cases_lt other.first c.loop-run.at) [
        | inl early ↦ early
        | inr late ↦
            let some = stretch.some in
            let within = stretch.within in
            let e : true ≡ false = sym (stretch.loose other.first
            (inside other.first other (omega arith) (omega arith))) ∙ none other.first late (omega arith) in
            absurd (cc)
      ]),
    )) c.loop-run.invariant.best
