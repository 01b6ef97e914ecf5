use Rattle.std.proofs.Common.{◌≡◌, ◌∙◌, All, true, false, refl, sym, subst, arith}
use Rattle.std.proofs.lemmas.List.{take_all}
use Rattle.link_source.specs.Endpoint.{IsUsable}
use Rattle.rpc_console.proofs.UsableUris.{usable_at, usable_more}
use Rattle.rpc_console.proofs.uris.are_usable.Goals as goal

pub returns-then-not-branch : goal.returns-then-not-branch
returns-then-not-branch c = (
  (λ yes. cc),
  (λ all. let e : false ≡ true = sym c.if-not-branch.true ∙ c.in_ok-is_usable.ensures.1
      (subst IsUsable (sym c.as_str.ensures) (usable_at c.args.uris.now c.loop-place.place c.at.result.now all c.at.ensures)) in cc),
)

pub loop-place-preserved : goal.loop-place-preserved
loop-place-preserved c =
    usable_more c.args.uris.now c.loop-place.place c.at.result.now c.loop-place.invariant c.at.ensures
    (subst IsUsable c.as_str.ensures (c.in_ok-is_usable.ensures.0 c.if-not-branch.false))

pub returns : goal.returns
returns c =
    let all = take_all c.loop-place.place c.args.uris.now (omega (arith, c.loop-place-test.false, c.len-place-end.ensures)) in
    (λ yes. subst (All IsUsable) all c.loop-place.invariant, λ usable. refl)
