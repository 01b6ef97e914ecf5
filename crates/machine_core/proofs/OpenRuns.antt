-- The blocks that are open in a claim.
use Rattle.std.proofs.Common.{◌≡◌, ℕ, Bool, true, false, Option, Some, None, List, reverse, refl, sym, ap, ◌∙◌, subst}
use Rattle.std.specs.Prelude.{◌↔◌, Contains, IfNone, IsSome}
use Rattle.std.specs.Option.{option_map_or}
use Rattle.std.proofs.lemmas.List.Elements.{All-contains}
use Rattle.dl_kinds.specs.declared.claims.Claim.{Claim}
use Rattle.dl_kinds.specs.declared.gid.Gid.{Gid}
use Rattle.dl_kinds.specs.declared.runs.Run.{Run}
use Rattle.dl_history.specs.Accounts.{Account, is_still_open}
use Rattle.dl_history.specs.OwnEvents.{OwnEvent}
use Rattle.dl_history.specs.StandingClaims.{is_open_since, standing_claims}
use Rattle.one_download.specs.DownloadLaws.{AccountsTellOpening}
use Rattle.one_download.specs.DownloadViews.{is_open_by}
use Rattle.piece_table.specs.NewRuns.{AreRunsOf}
use Rattle.machine_core.specs.Claiming.{AreOpenRuns}
use Rattle.machine_core.specs.MachineParts.{MachineState}
use Rattle.machine_core.specs.MachineViews.{MachineView, StandsUnder, standing_in}
use Rattle.machine_core.specs.OwnParts.{own_of}
use Rattle.machine_core.specs.RunLegal.{download_in}
use Rattle.machine_core.specs.declared.entries.Entry.{Entry}
use Rattle.machine_core.proofs.Fitting.{IsKnown, under_number}
use Rattle.machine_core.proofs.Here.{Here, Seen, known_here, not_nowhere, stands_added}
use Rattle.machine_core.proofs.Legal.{Laws}

-- the download of a claim that stands has a place
pub stands_placed : (s : MachineState) (v : MachineView) (id : ℕ) (gid : Gid) (claim : Claim) (o : Option ℕ) → Seen s v
    → StandsUnder v id gid claim → IfNone o (download_in v.start v.past gid ≡ None) → IsSome o
stands_placed s v id gid claim None seen stands none = stands_added s v id gid claim seen stands none
stands_placed s v id gid claim (Some at) seen stands none = refl

runs_same : (P Q : ℕ → Type 0) (run : Run) (runs : List Run) → ((b : ℕ) → P b ↔ Q b) → AreRunsOf P run runs
    → AreRunsOf Q run runs
runs_same P Q run runs same are =
    record {
      exact = λ b. (
        λ any. let h = (are.exact b).0 any in (h.0, (same b).0 h.1),
        λ h. (are.exact b).1 (h.0, (same b).1 h.1),
      );
      some = are.some;
      apart = are.apart;
    }

open_same : Laws → (total len : ℕ) (own : List OwnEvent) (k : Account) (id : ℕ) (claim : Claim) (b : ℕ)
    → IsKnown total len own k → Contains (standing_claims own) claim → claim.id ≡ id
    → is_open_by k id b ≡ is_open_since own claim b
open_same laws total len own k id claim b kn there id_is =
    ap (λ (o : Option Claim). option_map_or (λ (c : Claim). is_still_open k c b) o false)
    (under_number laws total len own k id claim kn there id_is)
    ∙ All-contains (λ (c : Claim). (n : ℕ) → is_still_open k c n ≡ is_open_since own c n) (standing_claims own) claim
    kn.matches.claims.open_blocks there b

told_same : (a b : Bool) → a ≡ b → (a ≡ true) ↔ (b ≡ true)
told_same a b same = (λ is. sym same ∙ is, λ is. same ∙ is)

pub open_runs_here : Laws → AccountsTellOpening → (s : MachineState) (v : MachineView) (id : ℕ) (gid : Gid)
    (claim : Claim) (at : ℕ) (x : Entry) (run : Run) (runs : List Run) → Seen s v → Here s gid at x
    → StandsUnder v id gid claim → AreRunsOf (λ b. is_open_by x.state.account id b ≡ true) run runs
    → AreOpenRuns v id run runs
open_runs_here laws tells s v id gid claim at x run runs seen h stands are =
    let own = own_of s.start (reverse s.events) gid in
    let kn = known_here laws tells s v gid at x seen h in
    let there : Contains (standing_claims own) claim =
    subst (λ (w : MachineView). Contains (standing_in w gid) claim) (sym seen.view_is) stands.stands in
    let mine : AreRunsOf (λ b. is_open_since own claim b ≡ true) run runs =
    runs_same (λ b. is_open_by x.state.account id b ≡ true) (λ b. is_open_since own claim b ≡ true) run runs
    (λ b. told_same (is_open_by x.state.account id b) (is_open_since own claim b)
    (open_same laws _ _ own x.state.account id claim b kn there stands.id_is)) are in
    let told : AreRunsOf (λ b. is_open_since (own_of v.start v.past gid) claim b ≡ true) run runs =
    subst (λ (w : MachineView). AreRunsOf (λ b. is_open_since (own_of w.start w.past gid) claim b ≡ true) run runs)
    seen.view_is mine in
    record {
      stands = λ other twin here.
          let one = stands.one other twin here.stands here.id_is in
          subst (λ (g : Gid). AreRunsOf (λ b. is_open_since (own_of v.start v.past g) twin b ≡ true) run runs) (sym one.0)
          (subst (λ (c : Claim). AreRunsOf (λ b. is_open_since (own_of v.start v.past gid) c b ≡ true) run runs)
          (sym one.1) told);
      none = λ n. not_nowhere v id gid claim stands n;
    }
