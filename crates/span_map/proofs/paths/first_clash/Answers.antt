use Rattle.std.proofs.Common.{◌≡◌, length, true, false, arith, subst, sym, ⊎_elim, ◌∙◌}
use Rattle.std.proofs.lemmas.List.{take_all}
use Rattle.std.proofs.lemmas.Bool.{cases_lt}
use Rattle.span_map.specs.Layout.{AreApart}
use Rattle.span_map.proofs.paths.first_clash.Goals as goal

pub loop-apart-init : goal.loop-apart-init
loop-apart-init c =
    let files = c.args.files.now in
    let clash : AreApart files → ⊥ = λ apart. let e : false ≡ true = sym c.if-branch.false ∙ c.in_ok-are_apart.ensures.1 apart in cc in
    record {
      ordered = ⊎_elim (λ some. some) (λ none. absurd (clash (λ i j d below within. absurd (omega (arith, below, within, none))))) (cases_lt 0 (length files));
      within = omega arith;
      are_apart = λ i j d below within. absurd (omega (arith, below, within));
      clash = λ apart. clash (subst AreApart (take_all (length files) files (omega arith)) apart);
    }
