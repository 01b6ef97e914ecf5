-- What a crash at any moment of a write of a run leaves.
use Rattle.dl_disk.specs.Files.{Files}
use Rattle.dl_disk.specs.Passes.{Performs}
use Rattle.dl_disk.specs.State.{DiskState, LeftSince}
use Rattle.dl_kinds.specs.declared.runs.Run.{Run}
use Rattle.span_map.specs.Jobs.{IsRun}
use Rattle.control_file.specs.declared.want.Want.{Want}
use Rattle.resume_core.specs.Resume.{AreSound}
use Rattle.resume_core.specs.RunLaws.{TornUnder, TornKeepPieces, TornKeepBlocks, TornGiveTheSame, TornAreSound, TornAgree}
use Rattle.resume_core.specs.Runs.{LackRun, TornRun, ListWithin, AllAgree, GiveAsBefore, GiveAtLeast}
use Rattle.control_file.specs.Wants.{IsWant}
use Rattle.resume_core.proofs.Torn.{sound_within}

module _ (want : Want) (run : Run) (a b : DiskState) (want_is : IsWant want) (run_is : IsRun want.plan run)
    (lack : LackRun want run a.may_leave) (performs : Performs (TornRun want run) a b) where
  -- an image since comes of one before by the write
  from_before : (image : Files) → LeftSince b a.moment image
      → (before : Files) × a.may_leave before × TornUnder want run before image
  from_before image left =
      let from = performs.passes.images left.0 image left.1 left.2 left.3 in (
        from.0,
        from.1,
        record { want_is = want_is; run_is = run_is; lacks = lack from.0 from.1; tears = from.2 },
      )

  pub written_keeps : TornKeepPieces → TornKeepBlocks
      → GiveAtLeast want a.may_leave (LeftSince b a.moment)
  written_keeps pieces blocks image left =
      let from = from_before image left in
      record {
        before = from.0;
        left = from.1;
        pieces = pieces want run from.0 image from.2;
        blocks = blocks want run from.0 image from.2;
      }

  pub written_gives : TornGiveTheSame → ListWithin want a.may_leave
      → GiveAsBefore want a.may_leave (LeftSince b a.moment)
  written_gives law within image left =
      let from = from_before image left in
      record { before = from.0; left = from.1; same = law want run from.0 image from.2 (within from.0 from.1) }

  pub written_agrees : TornAgree → ListWithin want a.may_leave → AllAgree want a.seen a.may_leave
      → AllAgree want b.seen (LeftSince b a.moment)
  written_agrees law within agree image left =
      let from = from_before image left in
      law want run a.seen b.seen from.0 image from.2 performs.seen (within from.0 from.1) (agree from.0 from.1)

  pub written_sound : TornAreSound → TornAgree → AreSound want a.seen a.may_leave
      → AreSound want b.seen (LeftSince b a.moment)
  written_sound sound agree were image left =
      let from = from_before image left in
      let was = were from.0 from.1 in (
        sound want run from.0 image from.2 was.0,
        agree want run a.seen b.seen from.0 image from.2 performs.seen (sound_within want from.0 was.0) was.1,
      )
