-- The one download of a run has one want, of which no other writes a file.
use Rattle.std.proofs.Common.{◌≡◌, Bool, true, Some, List, [], ◌∷◌, refl, subst, ⊎_elim, arith}
use Rattle.std.specs.Prelude.{Contains}
use Rattle.blameless_mirrors.proofs.Findings.{come_of}
use Rattle.blameless_mirrors.proofs.OneWant.{wants_one}
use Rattle.blameless_mirrors.proofs.OwnThere.{OpensIt, opening_event}
use Rattle.blameless_mirrors.specs.Blameless.{IsToldRun}
use Rattle.blameless_mirrors.proofs.Marks.{behind}
use Rattle.control_file.specs.declared.want.Want.{Want}
use Rattle.dl_disk.specs.State.{DiskState}
use Rattle.dl_history.specs.PayloadParts.{is_opened}
use Rattle.dl_kinds.specs.declared.gid.Gid.{Gid}
use Rattle.dl_kinds.specs.declared.runs.Moment.{Moment}
use Rattle.engine_core.proofs.Promising.{legal_front, want_on}
use Rattle.engine_core.specs.Askings.{IsWrittenAlone}
use Rattle.engine_core.specs.TurnReads.{TurnsFitDisk}
use Rattle.engine_turns.specs.Told.{RunTurn, history_of}
use Rattle.machine_core.specs.DownloadWants.{HasWant}
use Rattle.machine_core.specs.OwnParts.{own_of}
use Rattle.machine_core.specs.RunLegal.{IsLegal, download_in}
use Rattle.machine_core.specs.Starts.{Download, RunStart}
use Rattle.machine_core.specs.declared.events.Event.{Event}
use Rattle.machine_core.specs.declared.events.Event.TheVariants.{Opened}
use Rattle.stored_run.specs.RunFollows.{RunFollows}
use Rattle.worker_turns.specs.Reads.{WantsAreOwn}
use Rattle.solo_run.proofs.OneDownload.{IsSole}

-- ---- openings

-- a download that is opened was opened by an event
pub record HasOpening (past : List Event) (gid : Gid) : Type 0 where
  pub verified : List Bool
  pub blocks : List Bool
  pub now : Moment
  pub there : Contains past (Opened gid verified blocks now)

opening_there : (start : RunStart) (past : List Event) (gid : Gid) → is_opened (own_of start past gid) ≡ true
    → HasOpening past gid
opening_there start [] gid opened = absurd cc
opening_there start (e ∷ past) gid opened =
    ⊎_elim
    (λ (opens : OpensIt gid e). record {
      verified = opens.verified;
      blocks = opens.blocks;
      now = opens.now;
      there = subst (λ (x : Event). Contains (e ∷ past) x) opens.is (0, omega arith, refl);
    })
    (λ (was : is_opened (own_of start past gid) ≡ true).
    let more = opening_there start past gid was in
    record {
      verified = more.verified;
      blocks = more.blocks;
      now = more.now;
      there = behind e (Opened gid more.verified more.blocks more.now) past more.there;
    })
    (opening_event start past gid e opened)

module _ (laws : RunFollows) (start : RunStart) (disk : DiskState) where
  -- with a want
  want_there : (told : List RunTurn) (gid : Gid) → IsLegal start (history_of told) → TurnsFitDisk start told disk
      → HasOpening (history_of told) gid → (want : Want) × HasWant start (history_of told) gid want
  want_there [] gid legal fits opening = absurd (let within = opening.there.1 in omega (arith, within))
  want_there (t ∷ before) gid legal fits opening =
      let past = history_of before in
      let e = Opened gid opening.verified opening.blocks opening.now in
      ⊎_elim
      (λ (here : Contains t.events e).
      let so = fits.0.fits.opened gid opening.verified opening.blocks opening.now here in
      (so.want, want_on laws start past t.events gid so.want legal so.has))
      (λ (was : Contains past e).
      let so = want_there before gid (legal_front start past t.events legal) fits.1 (record {
        verified = opening.verified;
        blocks = opening.blocks;
        now = opening.now;
        there = was;
      }) in
      (so.0, want_on laws start past t.events gid so.0 legal so.1))
      (come_of past t.events e opening.there)

  alone : (told : List RunTurn) (gid : Gid) (want : Want) → IsSole start (history_of told) gid
      → HasWant start (history_of told) gid want → IsWrittenAlone start told want
  alone told gid want sole has other_gid other asked other_has shared =
      let its = sole other_gid other_has.download other_has.added in
      wants_one start (history_of told) gid other want
      (subst (λ (g : Gid). HasWant start (history_of told) g other) its other_has) has

  -- each download that is opened writes its own files, where it is the only one
  pub wants_own : (told : List RunTurn) → IsToldRun start told disk
      → ((gid : Gid) (d : Download) → download_in start (history_of told) gid ≡ Some d
      → IsSole start (history_of told) gid) → WantsAreOwn start told
  wants_own told run soles gid opened =
      let so = want_there told gid run.legal run.fits (opening_there start (history_of told) gid opened) in
      record {
        want = so.0;
        has = so.1;
        alone = alone told gid so.0 (soles gid so.1.download so.1.added) so.1;
      }
