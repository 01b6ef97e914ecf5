-- The only download of a run over one link, each piece of which is served, ends by being complete alone.
use Rattle.std.proofs.Common.{◌≡◌, ℕ, refl, subst}
use Rattle.std.specs.Prelude.{Contains}
use Rattle.dl_disk.specs.State.{DiskState}
use Rattle.dl_kinds.specs.PlanLaws.{PlacesAreNumbered}
use Rattle.dl_kinds.specs.declared.gid.Gid.{Gid}
use Rattle.dl_kinds.specs.declared.marks.Mark.{Mark}
use Rattle.engine_core.proofs.Turned.{same_download}
use Rattle.engine_turns.specs.Told.{history_of}
use Rattle.machine_core.specs.RunLegal.{KnownAreIdle}
use Rattle.machine_core.specs.RunSteps.{OpenedHavePlans}
use Rattle.machine_core.specs.declared.ends.End.{End}
use Rattle.machine_core.specs.declared.ends.End.TheVariants as end
use Rattle.machine_core.specs.declared.events.Event.TheVariants.{Ended}
use Rattle.stored_run.specs.Refused.{IsRefusalEnd}
use Rattle.stored_run.specs.RunFollows.{RunFollows}
use Rattle.blameless_mirrors.specs.Lone.{FreshAreNeverRefused, IsLoneEnd, IsLoneListed, LoneDownloadsEndWell}
use Rattle.mark_costs.specs.Served.{ServedNeverDie, ServedOnlyComplete}
use Rattle.mark_costs.proofs.Dying.{dead_wanted}

only_complete : (how : End) → IsLoneEnd how → ((piece : ℕ) (mark : Mark) → how ≡ end.Dead piece mark → ⊥)
    → ((count : ℕ) → how ≡ end.Disk count → ⊥) → (IsRefusalEnd how → ⊥) → how ≡ end.Complete
only_complete end.Complete lone dead fault refused = refl
only_complete (end.Dead piece mark) lone dead fault refused = absurd (dead piece mark refl)
only_complete (end.Disk count) lone dead fault refused = absurd (fault count refl)
only_complete (end.Exists length) lone dead fault refused = absurd lone
only_complete (end.PieceLength have want) lone dead fault refused = absurd (refused tt)
only_complete (end.Length have want) lone dead fault refused = absurd (refused tt)
only_complete end.InfoHash lone dead fault refused = absurd (refused tt)
only_complete (end.Unreadable at) lone dead fault refused = absurd (refused tt)
only_complete (end.TooLarge total) lone dead fault refused = absurd lone
only_complete (end.SameFile other) lone dead fault refused = absurd lone
only_complete (end.SameHash other) lone dead fault refused = absurd lone
only_complete end.Checksum lone dead fault refused = absurd lone

module _ (laws : RunFollows) (plans : OpenedHavePlans) (idle : KnownAreIdle) (numbered : PlacesAreNumbered) {D : Type 0}
    (state : D → DiskState) (never : ServedNeverDie state) (ends : LoneDownloadsEndWell) (refused : FreshAreNeverRefused state) where
  pub served_only_complete : ServedOnlyComplete state
  served_only_complete tells start told disk gid meta want old true_is is over served links only lacks other how there =
      let l = is.listed in
      let lone : IsLoneListed start (history_of told) gid meta =
      record { download = l.download; added = l.added; uris = l.uris; subject = l.subject; only = only } in
      let so = ends start (history_of told) gid meta is.run.legal lone other how there in (
        so.0,
        only_complete how so.1
            (λ piece mark dead.
            let here = subst (λ (g : Gid). Contains (history_of told) (Ended g (end.Dead piece mark))) so.0
            (subst (λ (h : End). Contains (history_of told) (Ended other h)) dead there) in
            let wanted = dead_wanted laws plans idle numbered start gid meta l.uris l.download l.subject (history_of told) piece mark
            is.run.legal (λ d added. same_download start (history_of told) gid d l.download added l.added) here in
            let by = served piece wanted in
            never tells start told disk gid meta want old true_is is over piece by (links by.mirror) mark here)
            (λ count fault. is.well other count (subst (λ (h : End). Contains (history_of told) (Ended other h)) fault there))
            (refused start told disk gid meta want is.run lone l.has is.memory lacks other how there),
      )
