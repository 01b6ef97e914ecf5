-- A download is found under its own gid.
use Rattle.std.proofs.Common.{◌≡◌, ℕ, Bool, true, false, cond, Option, Some, List, [], ◌∷◌, refl, sym, ap, ◌∙◌}
use Rattle.std.specs.Prelude.{◌==◌}
use Rattle.std.proofs.lemmas.Bool.{eqb-true}
use Rattle.dl_kinds.specs.declared.gid.Gid.{Gid}
use Rattle.machine_core.specs.Replays.{download_of, replay_of}
use Rattle.machine_core.specs.RunLegal.{download_in}
use Rattle.machine_core.specs.Starts.{Download, RunStart}
use Rattle.machine_core.specs.declared.events.Event.{Event}

found_by : (gid : Gid) (x d : Download) (found : Option Download) (t : Bool) → (x.gid.0 == gid.0) ≡ t
    → (found ≡ Some d → d.gid ≡ gid) → cond t (Some x) found ≡ Some d → d.gid ≡ gid
found_by gid x d found true is rest added =
    let same : x ≡ d = cc in
    ap (λ (y : Download). y.gid) (sym same) ∙ ap (λ (n : ℕ). record { 0 = n }) (eqb-true x.gid.0 gid.0 is)
found_by gid x d found false is rest added = rest added

found_gid : (gid : Gid) (ds : List Download) (d : Download) → download_of ds gid ≡ Some d → d.gid ≡ gid
found_gid gid [] d added = absurd cc
found_gid gid (x ∷ ds) d added =
    found_by gid x d (download_of ds gid) (x.gid.0 == gid.0) refl (found_gid gid ds d) added

pub added_gid : (start : RunStart) (past : List Event) (gid : Gid) (d : Download) → download_in start past gid ≡ Some d
    → d.gid ≡ gid
added_gid start past gid d added = found_gid gid (replay_of start past).downloads d added
