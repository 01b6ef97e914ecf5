use Rattle.std.proofs.Common.{◌≡◌, ◌∙◌, Some, None, ap, arith, subst, sym}
use Rattle.std.specs.Option.{is_some, option_map}
use Rattle.dl_history.specs.Listings.{last_saved}
use Rattle.dl_kinds.specs.declared.gid.Gid.{Gid}
use Rattle.engine_turns.specs.ClaimRows.{IsSaveDue}
use Rattle.machine_core.proofs.Begun.{copied_is, copied_some}
use Rattle.machine_core.specs.Choices.{options_now}
use Rattle.machine_core.specs.RunLegal.{download_in}
use Rattle.option_set.specs.Values.{OptionValues, number_value}
use Rattle.option_set.specs.declared.kinds.Num.TheVariants.{AutoSaveInterval}
use Rattle.stored_run.specs.Steps.{turn_from}
use Rattle.stored_run.specs.Views.{IsGoing, own_in}
use Rattle.stored_run.proofs.Delivered.{match_map}
use Rattle.stored_run.proofs.DueSaves.{early_yet, is_due, saved_in, unsaved_yet}
use Rattle.stored_run.proofs.Endings.{going_facts}
use Rattle.stored_run.proofs.Findings.{gid_found}
use Rattle.stored_run.proofs.PlainEvents.{back_to}
use Rattle.stored_run.proofs.run.StoredRun.is_save_due.Goals as goal

pub unwrap-requires : goal.unwrap-requires
unwrap-requires g c =
    let m = c.self.inside.machine in
    let going = back_to (λ w. IsGoing w c.args.gid) _ _ c.self.view_is c.requires in
    let facts = going_facts m.start m.past c.self.inside.wants.items c.args.gid c.self.invariant.wants_are going in
    copied_some c.options.result (options_now m.start m.past facts.has.download)
    (c.options.ensures ∙ ap (option_map (options_now m.start m.past)) facts.has.added)

pub returns-in-Some : goal.returns-in-Some
returns-in-Some g c download added from =
    let v = c.args.self.now in
    let m = c.self.inside.machine in
    let gid = c.args.gid in
    let going = back_to (λ w. IsGoing w gid) _ _ c.self.view_is c.requires in
    let here = back_to (λ w. download_in w.machine.start w.machine.past gid ≡ Some download) _ _ c.self.view_is added in
    let options = copied_is c.options.result c.unwrap.result (options_now m.start m.past download) c.unwrap.ensures
    (c.options.ensures ∙ ap (option_map (options_now m.start m.past)) here) in
    let is = c.number-interval.ensures.value ∙ (ap (λ (o : OptionValues). number_value o AutoSaveInterval) options
    ∙ ap (λ w. number_value (options_now w.machine.start w.machine.past download) AutoSaveInterval) c.self.view_is) in
    let kept = saved_in c.runs_follow.ensures m.start m.past c.self.inside.wants.items gid c.self.invariant.wants_are
    c.self.invariant.legal going in
    let last = subst (λ (h : Gid). last_saved (own_in v h) ≡ Some c.in-Some.saved)
    (sym (gid_found v.machine.start v.machine.past gid download added))
    (subst (λ w. last_saved (own_in w gid) ≡ Some c.in-Some.saved) c.self.view_is
    (sym kept ∙ sym (c.in-Some.ensures (ap is_some here)))) in
    let now = ap (λ w. w.now.0) c.self.view_is in
    match_map c.has_passed.result _ _ (IsSaveDue (turn_from v from) v.machine.past download)
    (IsSaveDue (turn_from v from) v.machine.past download → ⊥)
    (λ later. is_due v download from c.number-interval.result is c.in-Some.saved last c.if-interval-eq0.false
    (omega (arith, later, now)))
    (λ early. early_yet v download from c.number-interval.result is c.in-Some.saved last (omega (arith, early, now)))
    c.has_passed.ensures

pub returns-in-None : goal.returns-in-None
returns-in-None g c download added from =
    let v = c.args.self.now in
    let m = c.self.inside.machine in
    let gid = c.args.gid in
    let going = back_to (λ w. IsGoing w gid) _ _ c.self.view_is c.requires in
    let here = back_to (λ w. download_in w.machine.start w.machine.past gid ≡ Some download) _ _ c.self.view_is added in
    let options = copied_is c.options.result c.unwrap.result (options_now m.start m.past download) c.unwrap.ensures
    (c.options.ensures ∙ ap (option_map (options_now m.start m.past)) here) in
    let is = c.number-interval.ensures.value ∙ (ap (λ (o : OptionValues). number_value o AutoSaveInterval) options
    ∙ ap (λ w. number_value (options_now w.machine.start w.machine.past download) AutoSaveInterval) c.self.view_is) in
    let kept = saved_in c.runs_follow.ensures m.start m.past c.self.inside.wants.items gid c.self.invariant.wants_are
    c.self.invariant.legal going in
    let last = subst (λ (h : Gid). last_saved (own_in v h) ≡ None)
    (sym (gid_found v.machine.start v.machine.past gid download added))
    (subst (λ w. last_saved (own_in w gid) ≡ None) c.self.view_is
    (sym kept ∙ sym (c.in-None.ensures (ap is_some here)))) in
    unsaved_yet v download from c.number-interval.result is last
