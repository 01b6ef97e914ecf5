use Rattle.std.proofs.Common.{◌≡◌, inr, ℕ, Some, true, refl, sym, ◌∙◌, ap, subst, arith, ◌∷◌}
use Rattle.dl_history.specs.OwnEvents.{Halts}
use Rattle.dl_history.specs.PayloadParts.{told_total}
use Rattle.dl_kinds.specs.Plan.{IsPlan}
use Rattle.engine_turns.specs.ClaimRows.{IsTooLongFor}
use Rattle.engine_turns.specs.declared.outcome.Outcome.TheVariants.{Over, Went}
use Rattle.machine_core.specs.RunLegal.{MayFollow, download_in}
use Rattle.machine_core.specs.Starts.{Download}
use Rattle.machine_core.specs.declared.ends.End.TheVariants as end
use Rattle.machine_core.specs.declared.events.Event.{Event}
use Rattle.machine_core.specs.declared.events.Event.TheVariants.{Ended}
use Rattle.machine_core.proofs.Begun.{copied_is}
use Rattle.option_set.specs.Values.{OptionValues, number_value}
use Rattle.option_set.specs.declared.kinds.Num.TheVariants.{PieceLength}
use Rattle.std.specs.Option.{option_map}
use Rattle.stored_run.specs.Telling.{ClaimGoes, too_long_phase}
use Rattle.stored_run.specs.Views.{own_in}
use Rattle.stored_run.proofs.Doing.{part_event, part_none}
use Rattle.stored_run.proofs.Kept.{halts}
use Rattle.stored_run.proofs.Losses.{long_may, too_long_over}
use Rattle.stored_run.proofs.PlainEvents.{back_to, gid_added, plain_after}
use Rattle.stored_run.proofs.run.StoredRun.end_where_too_long.Goals as goal

pub ended-requires-clause-legal : goal.ended-requires-clause-legal
ended-requires-clause-legal g c =
    let a = c.args in
    let m = c.self.inside.machine in
    let goes = back_to (λ w. ClaimGoes w.machine.start w.machine.past a.gid) _ _ c.self.view_is c.requires.goes in
    let told = back_to (λ w. told_total (own_in w a.gid) ≡ Some a.total) _ _ c.self.view_is c.requires.told in
    let begun = copied_is c.begun.result c.unwrap.result goes.download.options c.unwrap.ensures
    (c.begun.ensures ∙ ap (option_map (λ (d : Download). d.options)) goes.added) in
    let number = c.number-piece_len.ensures.value ∙ ap (λ (o : OptionValues). number_value o PieceLength) begun in
    long_may m a.gid a.total goes told
    (λ plan. let is = c.in-None.ensures.found.1 (subst (λ (n : ℕ). IsPlan a.total n) (sym number) plan) in absurd cc)

pub invariant_of-self : goal.invariant_of-self
invariant_of-self g c =
    let a = c.args in
    let came = c.ended.ensures.event in
    let e = Ended a.gid (end.TooLarge a.total) in
    plain_after c.runs_follow.ensures _ _ _ c.self.inside.machine c.ended.new.self _ _ a.gid (Halts true) e
    c.self.invariant (halts true) (λ g. refl)
    (subst (λ (x : Event). MayFollow c.self.inside.machine.start c.self.inside.machine.past x) came.is came.may) tt refl
    (came.past_is ∙ ap (λ (x : Event). x ∷ c.self.inside.machine.past) came.is) came.start_is

pub returns-in-Some-clause-did : goal.returns-in-Some-clause-did
returns-in-Some-clause-did g c download added =
    let a = c.args in
    let inside = back_to (λ w. download_in w.machine.start w.machine.past a.gid ≡ Some download) _ _ c.self.view_is added in
    let begun = copied_is c.begun.result c.unwrap.result download.options c.unwrap.ensures
    (c.begun.ensures ∙ ap (option_map (λ (d : Download). d.options)) inside) in
    let number = c.number-piece_len.ensures.value ∙ ap (λ (o : OptionValues). number_value o PieceLength) begun in
    let plan : IsPlan a.total (number_value download.options PieceLength) =
    subst (λ (n : ℕ). IsPlan a.total n) number (c.in-Some.ensures.found.0 refl) in
    part_none (λ at. too_long_phase download a.total) a.self.now a.self.now _ _ Went refl refl
    (λ n below. inr ((λ long. long plan), refl))

pub returns-in-None-clause-did : goal.returns-in-None-clause-did
returns-in-None-clause-did g c download added =
    let a = c.args in
    let came = c.ended.ensures.event in
    let same = ap (λ w. g.D.Disk.faults w.disk) c.self.view_is in
    let inside = back_to (λ w. download_in w.machine.start w.machine.past a.gid ≡ Some download) _ _ c.self.view_is added in
    let begun = copied_is c.begun.result c.unwrap.result download.options c.unwrap.ensures
    (c.begun.ensures ∙ ap (option_map (λ (d : Download). d.options)) inside) in
    let number = c.number-piece_len.ensures.value ∙ ap (λ (o : OptionValues). number_value o PieceLength) begun in
    let long : IsTooLongFor download a.total = λ plan.
    let is = c.in-None.ensures.found.1 (subst (λ (n : ℕ). IsPlan a.total n) (sym number) plan) in absurd cc in
    let e = Ended a.gid (end.TooLarge a.total) in
    part_event (λ at. too_long_phase download a.total) e a.self.now (record a.self.now { machine = c.ended.new.self }) _ _
    Over
    (came.past_is ∙ (ap (λ (x : Event). x ∷ c.self.inside.machine.past) came.is
    ∙ ap (λ w. e ∷ w.machine.past) c.self.view_is))
    (tt, same)
    (λ n below. too_long_over a.gid download a.total a.self.now.machine.past
    (gid_added a.self.now.machine.start a.self.now.machine.past a.gid download added) long)
