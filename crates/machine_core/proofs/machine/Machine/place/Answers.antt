use Rattle.std.proofs.Common.{subst}
use Rattle.std.specs.Prelude.{IfNone, IfSome, None}
use Rattle.std.proofs.Common.{◌≡◌, []}
use Rattle.machine_core.specs.MachineViews.{IsPlaceOf, MachineView, place_in}
use Rattle.machine_core.specs.RunLegal.{download_in}
use Rattle.machine_core.proofs.Told.{told_first, told_found, told_none}
use Rattle.machine_core.proofs.machine.Machine.place.Goals as goal

pub returns-clause-found : goal.returns-clause-found
returns-clause-found c =
    subst (λ (v : MachineView). IfSome c.adding_place.result (IsPlaceOf v c.args.gid)) c.self.view_is
    (told_found _ _ _ _ c.args.gid c.adding_place.result c.self.invariant c.adding_place.ensures)

pub returns-clause-none : goal.returns-clause-none
returns-clause-none c =
    subst (λ (v : MachineView). IfNone c.adding_place.result (download_in v.start v.past c.args.gid ≡ None)) c.self.view_is
    (told_none _ _ c.args.gid c.adding_place.result c.self.invariant c.adding_place.ensures)

pub returns-clause-first : goal.returns-clause-first
returns-clause-first c =
    subst (λ (v : MachineView). IfSome c.adding_place.result (λ n. n ≡ place_in v.start v.past c.args.gid)) c.self.view_is
    (told_first _ _ 0 [] c.args.gid c.adding_place.result c.self.invariant c.adding_place.ensures)
