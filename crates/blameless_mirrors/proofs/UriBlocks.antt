-- Blocks of the only download of a run, where it has no metainfo file, from a mirror that brings a payload's own bytes.
use Rattle.std.proofs.Common.{◌≡◌, Some, ◌∷◌, sym, ◌∙◌, subst}
use Rattle.dl_disk.specs.State.{DiskState}
use Rattle.dl_kinds.specs.PlanLaws.{BlocksFollow}
use Rattle.dl_kinds.specs.declared.gid.Gid.{Gid}
use Rattle.engine_core.proofs.Turned.{same_download}
use Rattle.engine_turns.specs.Told.{history_of}
use Rattle.machine_core.specs.DownloadWants.{HasWant}
use Rattle.machine_core.specs.RunSteps.{OpenedHavePlans}
use Rattle.stored_run.specs.RunFollows.{RunFollows}
use Rattle.blameless_mirrors.specs.LoneUris.{UnlistedDeliveredAreRead}
use Rattle.blameless_mirrors.proofs.Delivered.{blocks_read}
use Rattle.blameless_mirrors.proofs.OneWant.{wants_one}

pub unlisted_read : RunFollows → OpenedHavePlans → BlocksFollow → {D : Type 0} (state : D → DiskState)
    → UnlistedDeliveredAreRead state
unlisted_read laws plans follow state start t before disk gid mirror uris want payload run lone has faithful block given =
    let past = history_of (t ∷ before) in
    blocks_read laws plans follow start (state disk) gid mirror has.lengths want payload has.download has.is t before
    (record {
      legal = run.legal;
      ties = run.ties;
      marks = run.marks;
      fits = run.fits;
      faithful = faithful;
      alone = λ g other asked other_has shared.
          let its = lone.only g other_has.download other_has.added in
          wants_one start past gid other want (subst (λ (h : Gid). HasWant start past h other) its other_has) has;
      only = λ other other_has. lone.only other other_has.download other_has.added;
      same = λ d added. same_download start past gid d has.download added has.added;
      known = λ l known. let both : Some l ≡ Some has.lengths = sym known ∙ has.known in cc;
    }) block given
