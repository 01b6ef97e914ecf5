use Rattle.std.proofs.Common.{◌∙◌, ◌≤◌, ℕ, length, refl, subst, sym, arith}
use Rattle.std.proofs.lemmas.Option.{slice_get_read}
use Rattle.machine_core.specs.MachineViews.{place_in}
use Rattle.machine_core.specs.declared.events.Event.TheVariants.{Left}
use Rattle.stored_run.proofs.Kept.{kept_at, none_behind, same_place}
use Rattle.stored_run.proofs.run.want_of.Goals as goal

pub returns-in_default : goal.returns-in_default
returns-in_default c =
    let m = c.args.machine.now in
    let none = c.in_default.ensures.none in
    let behind = c.runs_follow.ensures.behind m.start m.past Left c.args.gid none in
    sym (none_behind c.args.wants.now (place_in m.start m.past c.args.gid) (omega (arith, c.requires, behind)))

pub returns-then-place-wants : goal.returns-then-place-wants
returns-then-place-wants c =
    let m = c.args.machine.now in
    c.as_ref.ensures.value
    ∙ (sym (kept_at c.args.wants.now c.in-Some.place c.index-wants-place.result
    (slice_get_read c.args.wants.now (length c.args.wants.now) c.in-Some.place c.index-wants-place.result refl
    (omega (arith, c.if-place-wants.true)) c.index-wants-place.is))
    ∙ same_place c.args.wants.now c.in-Some.place (place_in m.start m.past c.args.gid) c.in-Some.ensures.first)

pub returns-else-place-wants : goal.returns-else-place-wants
returns-else-place-wants c =
    let m = c.args.machine.now in
    sym (none_behind c.args.wants.now (place_in m.start m.past c.args.gid)
    (subst (λ (n : ℕ). length c.args.wants.now ≤ n) c.in-Some.ensures.first (omega (arith, c.if-place-wants.false))))
