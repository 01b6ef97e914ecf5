-- The claims of a download that stand, as contracts see them.
use Rattle.std.proofs.Common.{◌≡◌, ◌∙◌, ℕ, Bool, true, false, Option, Some, None, List, [], ◌∷◌, length, slice_get, reverse, refl, sym, ap, subst, arith}
use Rattle.std.specs.Prelude.{Contains}
use Rattle.std.specs.Option.{is_some}
use Rattle.dl_history.specs.StandingClaims.{standing_claims}
use Rattle.dl_kinds.specs.declared.claims.Claim.{Claim}
use Rattle.dl_kinds.specs.declared.gid.Gid.{Gid}
use Rattle.one_download.specs.DownloadLaws.{AccountsTellOpening}
use Rattle.machine_core.specs.MachineParts.{MachineState}
use Rattle.machine_core.specs.MachineViews.{MachineView, is_added_in, standing_in}
use Rattle.machine_core.specs.OwnParts.{own_of}
use Rattle.machine_core.specs.RunLegal.{download_in}
use Rattle.machine_core.specs.declared.entries.Entry.{Entry}
use Rattle.machine_core.proofs.Here.{Here, Seen, known_here, unadded, view_of}
use Rattle.machine_core.proofs.Homes.{standing_granted}
use Rattle.machine_core.proofs.Legal.{Laws}

pub standing_here : Laws → AccountsTellOpening → (s : MachineState) (v : MachineView) (gid : Gid) (at : ℕ) (x : Entry)
    → Seen s v → Here s gid at x → x.state.account.standing ≡ standing_in v gid
standing_here laws tells s v gid at x seen h =
    subst (λ (w : MachineView). x.state.account.standing ≡ standing_in w gid) seen.view_is
    (known_here laws tells s v gid at x seen h).matches.claims.standing

none_of : (s : MachineState) (gid : Gid) (claims : List Claim) → Seen s (view_of s)
    → standing_claims (own_of s.start (reverse s.events) gid) ≡ claims
    → download_in s.start (reverse s.events) gid ≡ None → claims ≡ []
none_of s gid [] seen is none = refl
none_of s gid (claim ∷ claims) seen is none =
    let there : Contains (standing_claims (own_of s.start (reverse s.events) gid)) claim =
    subst (λ (cs : List Claim). Contains cs claim) (sym is) (0, omega arith, refl) in
    let home = seen.keeps.homes.own gid claim
    (standing_granted (own_of s.start (reverse s.events) gid) claim there) in
    unadded (view_of s) gid none (seen.keeps.homes.added claim.id gid home)

-- of one that wasn't added none does
pub standing_unadded : (s : MachineState) (v : MachineView) (gid : Gid) → Seen s v
    → download_in v.start v.past gid ≡ None → standing_in v gid ≡ []
standing_unadded s v gid seen none =
    subst (λ (w : MachineView). standing_in w gid ≡ []) seen.view_is
    (none_of s gid (standing_claims (own_of s.start (reverse s.events) gid))
    (record { keeps = seen.keeps; view_is = refl }) refl
    (subst (λ (w : MachineView). download_in w.start w.past gid ≡ None) (sym seen.view_is) none))
