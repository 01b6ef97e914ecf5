-- How the only download of a run ends, where a mirror brings its payload.
use Rattle.std.proofs.Common.{◌≡◌, ℕ, Some, refl, ap, ◌∙◌, subst}
use Rattle.std.specs.Prelude.{Contains}
use Rattle.dl_disk.specs.State.{DiskState}
use Rattle.dl_kinds.specs.PlanLaws.{BlocksFollow, PlacesAreNumbered}
use Rattle.dl_kinds.specs.declared.gid.Gid.{Gid}
use Rattle.dl_kinds.specs.declared.marks.Mark.{Mark}
use Rattle.engine_core.proofs.Turned.{same_download}
use Rattle.engine_turns.specs.Told.{history_of}
use Rattle.machine_core.specs.FileNames.{IsPayloadName, folder_in}
use Rattle.machine_core.specs.RunLegal.{KnownAreIdle, download_in}
use Rattle.machine_core.specs.Starts.{Download, Listed, Subject}
use Rattle.machine_core.specs.declared.ends.End.{End}
use Rattle.machine_core.specs.declared.ends.End.TheVariants as end
use Rattle.machine_core.specs.declared.events.Event.TheVariants.{Ended}
use Rattle.machine_core.specs.RunSteps.{OpenedHavePlans}
use Rattle.stored_run.specs.Refused.{IsRefusalEnd}
use Rattle.stored_run.specs.RunFollows.{RunFollows}
use Rattle.blameless_mirrors.specs.Lone.{BroughtOnlyComplete, FreshAreNeverRefused, IsLoneEnd, IsLoneListed, first_time}
use Rattle.blameless_mirrors.proofs.Blame.{never_end_dead}
use Rattle.blameless_mirrors.proofs.LoneEnds.{lone_ends}
use Rattle.blameless_mirrors.proofs.Refusals.{listed_free, never_refused}

module _ (laws : RunFollows) {D : Type 0} (state : D → DiskState) where
  pub fresh_unrefused : FreshAreNeverRefused state
  fresh_unrefused start told disk gid meta want run lone has memory lacks =
      let d = lone.download in
      let same : has.download ≡ d = same_download start (history_of told) gid has.download d has.added lone.added in
      let of : has.download.subject ≡ Listed meta lone.uris = ap (λ (x : Download). x.subject) same ∙ lone.subject in
      let base : want.base ≡ meta.name = subst (λ (s : Subject). IsPayloadName has.download s want.base) of has.is.base in
      let dir : want.dir ≡ folder_in d = has.is.dir ∙ ap folder_in same in
      let one = (λ (x : Download) (added : download_in start (history_of told) gid ≡ Some x).
      same_download start (history_of told) gid x d added lone.added) in
      never_refused laws start (state disk) gid d told
      (record {
        legal = run.legal;
        marks = run.marks;
        fits = run.fits;
        memory = memory;
        only = lone.only;
        same = one;
      })
      (listed_free start (history_of told) gid meta d lone.uris lone.subject want base dir one
      ((state disk).seen_at (first_time told)) lacks.absent)

  only_complete : (how : End) → IsLoneEnd how → ((piece : ℕ) (mark : Mark) → how ≡ end.Dead piece mark → ⊥)
      → ((count : ℕ) → how ≡ end.Disk count → ⊥) → (IsRefusalEnd how → ⊥) → how ≡ end.Complete
  only_complete end.Complete lone dead fault refused = refl
  only_complete (end.Dead piece mark) lone dead fault refused = absurd (dead piece mark refl)
  only_complete (end.Disk count) lone dead fault refused = absurd (fault count refl)
  only_complete (end.Exists length) lone dead fault refused = absurd lone
  only_complete (end.PieceLength have want) lone dead fault refused = absurd (refused tt)
  only_complete (end.Length have want) lone dead fault refused = absurd (refused tt)
  only_complete end.InfoHash lone dead fault refused = absurd (refused tt)
  only_complete (end.Unreadable at) lone dead fault refused = absurd (refused tt)
  only_complete (end.TooLarge total) lone dead fault refused = absurd lone
  only_complete (end.SameFile other) lone dead fault refused = absurd lone
  only_complete (end.SameHash other) lone dead fault refused = absurd lone
  only_complete end.Checksum lone dead fault refused = absurd lone

  pub brought_complete : OpenedHavePlans → BlocksFollow → PlacesAreNumbered → KnownAreIdle → BroughtOnlyComplete state
  brought_complete plans follow numbered idle start told disk gid mirror meta want payload is of links known some only memory lacks
      faultless other how there =
      let l = is.listed in
      let lone : IsLoneListed start (history_of told) gid meta =
      record { download = l.download; added = l.added; uris = l.uris; subject = l.subject; only = only } in
      let so = lone_ends laws idle start (history_of told) gid meta is.run.legal lone other how there in (
        so.0,
        only_complete how so.1
            (λ piece mark dead.
            never_end_dead laws plans follow numbered state start told disk gid mirror meta want payload is of links known some piece mark
            (subst (λ (g : Gid). Contains (history_of told) (Ended g (end.Dead piece mark))) so.0
            (subst (λ (h : End). Contains (history_of told) (Ended other h)) dead there)))
            (λ count fault. faultless other count (subst (λ (h : End). Contains (history_of told) (Ended other h)) fault there))
            (fresh_unrefused start told disk gid meta want is.run lone l.has memory lacks other how there),
      )
