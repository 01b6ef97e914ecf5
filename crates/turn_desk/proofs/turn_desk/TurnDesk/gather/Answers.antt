use Rattle.std.proofs.Common.{[], ◌∷◌, ◌++◌, map, sym, ap, ◌∙◌, append_assoc}
use Rattle.std.proofs.lemmas.List.Elements.{All-pop}
use Rattle.std.specs.Option.{option_to_list}
use Rattle.turn_desk.specs.Passes.{IsPassOf}
use Rattle.turn_desk.specs.Rule.{share_of}
use Rattle.turn_desk.proofs.turn_desk.TurnDesk.gather.Goals as goal

pub loop-pass-preserved : goal.loop-pass-preserved
loop-pass-preserved g c =
    let inv = c.loop-pass.invariant in
    let pass = c.in-Some-pop.pass in
    let new = c.pop-in-loop-pass.new.self.items in
    let e = c.pop-in-loop-pass.ensures.items in
    let it = e ∙ ap (λ r. new ++ option_to_list r) c.in-Some-pop.is in
    let rest = inv.2.0 in (
      c.take_in-all.ensures.table,
      (All-pop (IsPassOf c.args.self.now) c.loop-pass.passes.items new c.pop-in-loop-pass.result e inv.1).0,
      (
        pass ∷ rest,
        sym (append_assoc new (pass ∷ []) rest)
            ∙ (ap (λ l. l ++ rest) (sym it) ∙ inv.2.1),
        c.take_in-all.ensures.gathered (map share_of rest) inv.2.2,
      ),
    )
