use Rattle.std.proofs.Common.{ap, sym, ◌∙◌, subst}
use Rattle.std.specs.Prelude.{IfSome, Some}
use Rattle.std.specs.Option.{option_map}
use Rattle.machine_core.proofs.Begun.{copied_is, copied_some}
use Rattle.machine_core.specs.Choices.{options_now}
use Rattle.machine_core.specs.Reads.{IsAdding}
use Rattle.engine_core.proofs.NewRates.{added_there, rate_there}
use Rattle.engine_core.proofs.following.rate_at.Goals as goal

pub unwrap-requires-2 : goal.unwrap-requires-2
unwrap-requires-2 c =
    let m = c.args.machine.now in
    let told = c.unwrap.result in
    let adding = subst (λ o. IfSome o (λ a. IsAdding m c.args.place a.0 a.1)) c.unwrap.ensures c.added.ensures.found in
    copied_some c.options.result (options_now m.start m.past adding.download)
    (c.options.ensures ∙ ap (option_map (options_now m.start m.past)) (added_there m c.args.place told.0 told.1 adding))

pub returns-clause-rate : goal.returns-clause-rate
returns-clause-rate c =
    let m = c.args.machine.now in
    let told = c.unwrap.result in
    let adding = subst (λ o. IfSome o (λ a. IsAdding m c.args.place a.0 a.1)) c.unwrap.ensures c.added.ensures.found in
    let options = copied_is c.options.result c.unwrap-2.result (options_now m.start m.past adding.download) c.unwrap-2.ensures
    (c.options.ensures ∙ ap (option_map (options_now m.start m.past)) (added_there m c.args.place told.0 told.1 adding)) in
    rate_there m c.args.place told.0 told.1 adding c.unwrap-2.result.now options
    ∙ ap (λ n. Some n) (sym c.number.ensures.value)
