use Rattle.std.proofs.Common.{◌≡◌, ◌∙◌, List, Option, Some, None, Bor, ap, subst, sym}
use Rattle.std.specs.Prelude.{IfSome, option_copied}
use Rattle.control_file.specs.Wants.{IsWant}
use Rattle.control_file.specs.declared.want.Want.{Want}
use Rattle.stored_run.specs.Views.{kept_want, kept_want_of}
use Rattle.stored_run.specs.declared.run.StoredView.{StoredView}
use Rattle.stored_run.proofs.run.StoredRun.want.Goals as goal

sound_of : (o : Option (Bor Want)) (kept : Option Want) → option_copied o ≡ kept
    → ((want : Want) → kept ≡ Some want → IsWant want) → IfSome o (λ (want : Bor Want). IsWant want.now)
sound_of None kept is sound = tt
sound_of (Some want) kept is sound = sound want.now (sym is)

pub returns-clause-value : goal.returns-clause-value
returns-clause-value g c =
    let u = c.self.inside in
    let there = c.want_of.ensures
    ∙ ap (λ (ws : List (Option Want)). kept_want ws u.machine.start u.machine.past c.args.gid) c.deref.ensures.value in
    subst (λ (w : StoredView _). option_copied c.want_of.result ≡ kept_want_of w c.args.gid) c.self.view_is there

pub returns-clause-sound : goal.returns-clause-sound
returns-clause-sound g c =
    let u = c.self.inside in
    let there = c.want_of.ensures
    ∙ ap (λ (ws : List (Option Want)). kept_want ws u.machine.start u.machine.past c.args.gid) c.deref.ensures.value in
    sound_of c.want_of.result (kept_want u.wants.items u.machine.start u.machine.past c.args.gid) there
    (c.self.invariant.wants_are.sound c.args.gid)
