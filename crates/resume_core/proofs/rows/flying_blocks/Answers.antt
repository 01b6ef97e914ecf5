use Rattle.std.proofs.Common.{◌≡◌, ◌∙◌, inl, inr, ⊎_elim, ℕ, ◌≤◌, List, take, true, sym, subst, arith}
use Rattle.std.specs.Prelude.{Contains}
use Rattle.std.proofs.lemmas.List.{take_all}
use Rattle.std.proofs.lemmas.List.Elements.{Contains-get_or}
use Rattle.std.proofs.lemmas.Option.{slice_get_within}
use Rattle.dl_kinds.specs.Plan.{place_of}
use Rattle.control_file.specs.declared.control.InFlight.{InFlight}
use Rattle.resume_core.specs.Rows.{IsBlockOfOne}
use Rattle.resume_core.proofs.OpenedRows.{flight_rules, flying_of_one, one_of_flying, in_piece_below, one_more}
use Rattle.resume_core.proofs.rows.flying_blocks.Goals as goal

pub loop-piece-preserved : goal.loop-piece-preserved
loop-piece-preserved c =
    let plan = c.args.plan.now in
    let control = c.args.control.now in
    let items = c.items-piece-items.result.now in
    let k = c.loop-piece.piece-index in
    let piece = c.piece-item.result in
    let some : 1 ≤ plan.piece_len = omega (arith, c.requires.control.fields.plan.some, c.requires.piece_len) in
    let contains : Contains control.flight piece =
    subst (λ (l : List InFlight). Contains l piece) c.items-piece-items.ensures
    (subst (λ (p : InFlight). Contains items p) (sym c.piece-item.is)
    (Contains-get_or items k piece c.loop-piece-test.true)) in
    let rules = flight_rules control plan.total plan.piece_len some c.requires.control c.requires.total
    c.requires.piece_len piece contains in
    let more = λ (block : ℕ). one_more items k piece plan.piece_len block c.loop-piece-test.true c.piece-item.is in
    record {
      len = c.set_blocks.ensures.len ∙ c.loop-piece.invariant.len;
      exact = λ block. (
        λ now. ⊎_elim
            (λ before. let was = (c.loop-piece.invariant.exact block).0 before in (was.0, (more block).1 (inl was.1)))
            (λ of. (
              in_piece_below plan.total plan.piece_len some block piece.index of.0 rules.0
                  (omega (arith, slice_get_within piece.blocks (place_of plan.piece_len block) true of.1, rules.1)),
              (more block).1 (inr of),
            ))
            ((c.set_blocks.ensures.exact block).0 now),
        λ lower. (c.set_blocks.ensures.exact block).1 (⊎_elim
            (λ before. inl ((c.loop-piece.invariant.exact block).1 (lower.0, before)))
            (λ of. inr of)
            ((more block).0 lower.1)),
      );
    }

pub returns : goal.returns
returns c =
    let plan = c.args.plan.now in
    let control = c.args.control.now in
    let some : 1 ≤ plan.piece_len = omega (arith, c.requires.control.fields.plan.some, c.requires.piece_len) in
    let all : take c.loop-piece.piece-index c.items-piece-items.result.now ≡ control.flight =
    take_all c.loop-piece.piece-index c.items-piece-items.result.now c.loop-piece-test.false
    ∙ c.items-piece-items.ensures in
    record {
      len = c.loop-piece.invariant.len;
      exact = λ block. (
        λ set. let was = (c.loop-piece.invariant.exact block).0 set in (
          was.0,
          flying_of_one control plan.total plan.piece_len some c.requires.control c.requires.total c.requires.piece_len
              block
              (subst (λ (l : List InFlight). IsBlockOfOne l plan.piece_len block) all was.1),
        ),
        λ lower. (c.loop-piece.invariant.exact block).1 (
          lower.0,
          subst (λ (l : List InFlight). IsBlockOfOne l plan.piece_len block) (sym all)
              (one_of_flying control plan.total plan.piece_len some c.requires.control c.requires.total
              c.requires.piece_len block lower.1),
        ),
      );
    }
