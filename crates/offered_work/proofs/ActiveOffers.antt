-- Behind turns of a worker an active download has an offer.
use Rattle.std.proofs.Common.{◌≡◌, true, false, Option, Some, List, refl, sym, ap, ◌∙◌, subst, eq-eqb}
use Rattle.std.specs.Prelude.{Contains}
use Rattle.std.specs.Option.{is_some}
use Rattle.dl_kinds.specs.declared.gid.Gid.{Gid}
use Rattle.dl_history.proofs.Members.{has_all, has_any, has_from}
use Rattle.dl_history.specs.HistoryLaws.{ProbesComeFirst}
use Rattle.dl_history.specs.PayloadParts.{is_ended}
use Rattle.engine_turns.specs.RunLaws.{ActiveAreGoing}
use Rattle.engine_turns.specs.Told.{history_of}
use Rattle.machine_core.proofs.QueuedGids.{IsAdded, queued_are_added}
use Rattle.machine_core.specs.OwnParts.{own_of}
use Rattle.machine_core.specs.Replays.{is_active_in, is_same_gid, queue_in, replay_of}
use Rattle.machine_core.specs.RunLegal.{DownloadsAreLegal, IsLegal, download_in}
use Rattle.machine_core.specs.Starts.{Download, RunStart}
use Rattle.machine_core.specs.declared.events.Event.{Event}
use Rattle.mirror_blame.specs.Laws.{CountedAreTries}
use Rattle.offered_work.specs.Offering.{HasOffer}
use Rattle.offered_work.specs.WorkedTurns.{ActiveHaveOffers}
use Rattle.offered_work.proofs.Added.{added_gid}
use Rattle.offered_work.proofs.Boundaries.{sound_between}
use Rattle.offered_work.proofs.Offers.{OfferLaws, active_offers}

some_of : (o : Option Download) → is_some o ≡ true → (d : Download) × (o ≡ Some d)
some_of (Some d) is = (d, refl)
some_of other is = absurd cc

-- an active download was added
active_added : (start : RunStart) (past : List Event) (gid : Gid) → IsLegal start past
    → Contains (queue_in start past).active gid → (d : Download) × (download_in start past gid ≡ Some d)
active_added start past gid legal active =
    let there = has_from (queue_in start past).active gid active.0 active.1 active.2 in
    some_of (download_in start past gid)
    (has_all (IsAdded (replay_of start past).downloads) (queue_in start past).active gid
    (queued_are_added start past legal).active there)

is_active : (start : RunStart) (past : List Event) (gid : Gid) → Contains (queue_in start past).active gid
    → is_active_in start past gid ≡ true
is_active start past gid active =
    has_any (is_same_gid gid) (queue_in start past).active gid
    (has_from (queue_in start past).active gid active.0 active.1 active.2) (eq-eqb gid.0 gid.0 refl)

pub active_have_offers : OfferLaws → CountedAreTries → DownloadsAreLegal → ProbesComeFirst → ActiveAreGoing
    → ActiveHaveOffers
active_have_offers laws counts legals probes goings start told run rest fetched gid active now =
    let past = history_of told in
    let some = active_added start past gid run.legal active in
    let d : Download = some.0 in
    let its : d.gid ≡ gid = added_gid start past gid d some.1 in
    let added : download_in start past d.gid ≡ Some d = ap (λ (g : Gid). download_in start past g) its ∙ some.1 in
    let its_active : Contains (queue_in start past).active d.gid =
    subst (λ (g : Gid). Contains (queue_in start past).active g) (sym its) active in
    let going : is_ended (own_of start past d.gid) ≡ false =
    goings start past d.gid run.legal (is_active start past d.gid its_active) in
    subst (λ (g : Gid). HasOffer start past now g) its
    (active_offers laws start past run.legal rest d added (fetched d.gid d added)
    (sound_between counts legals probes start told run.legal run.ties run.worked d.gid d added going) now its_active
    (legals start past d.gid run.legal))
