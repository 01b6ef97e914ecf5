-- What a run promises of its disk follows from what it did.
use Rattle.std.proofs.Common.{◌≡◌, ◌≢◌, ⊎_elim, ◌<◌, ◌≤◌, ℕ, IsTrue, List, [], ◌∷◌, ◌++◌, sym, subst, arith}
use Rattle.std.proofs.lemmas.List.{length-append, length-reverse}
use Rattle.std.proofs.lemmas.Bool.{cases_lt}
use Rattle.control_file.specs.declared.want.Want.{Want}
use Rattle.dl_disk.specs.Files.{Files, IsSame}
use Rattle.dl_disk.specs.State.{LeftSince}
use Rattle.dl_disk.specs.declared.disk.Disk.{Ghosts as DiskSays}
use Rattle.dl_kinds.specs.declared.outside.Sink.{Ghosts as SinkSays}
use Rattle.resume_core.specs.Resume.{Agrees, AreSound, Sound}
use Rattle.run_lifecycle.specs.Promises.{CompletedAreRight, CrashesKeepRuns, IsRun, WasSound}
use Rattle.run_lifecycle.specs.Finishes.{Ran}
use Rattle.run_lifecycle.specs.Survivals.{LeavesKept}
use Rattle.run_lifecycle.specs.TurnsOf.{AreFed}
use Rattle.run_lifecycle.specs.declared.ended.Ended.{Ended}
use Rattle.run_report.specs.declared.endings.RunEnding.TheVariants.{NoMemory}
use Rattle.run_lifecycle.proofs.Ran as ran_facts

-- files that are the same under each name are the same
pub same_files : (old new : Files) → IsSame old new → new ≡ old
same_files old new same = λ i name. same name i

module _ {D O : Type 0} {says : DiskSays D} {sinks : SinkSays O} {words : List (List ℕ)}
    {gids doors : ℕ}
    {disk : D} {out : O} {ended : Ended D} {out' : O}
    (ran : Ran says sinks words gids doors disk out ended out') (tells : IsTrue says.tells) where
  -- the disk reads as it did when it was given
  pub seen_same : (says.state ran.begins.read).seen ≡ (says.state disk).seen
  seen_same = same_files (says.state disk).seen (says.state ran.begins.read).seen (ran.begins.is_read.stays tells).seen

  -- so what was sound then is so once the words were read
  sound_read : (want : Want) → AreSound want (says.state disk).seen (says.state disk).may_leave
      → AreSound want (says.state ran.begins.read).seen (says.state ran.begins.read).may_leave
  sound_read want sound image left =
      let was = sound image ((ran.begins.is_read.stays tells).images image left) in
      (was.0, subst (λ (seen : Files). Agrees want seen image) (sym seen_same) was.1)

  pub was_read : (want : Want) → WasSound (ran_facts.start ran) (ran_facts.told ran) (says.state disk) want
      → WasSound (ran_facts.start ran) (ran_facts.told ran) (says.state ran.begins.read) want
  was_read want was = record { alone = was.alone; sound = sound_read want was.sound }

  pub run_is : IsRun says.state (ran_facts.start ran) (ran_facts.told ran) ran.begins.read ended.disk
  run_is = record {
    legal = ran_facts.legal_told ran;
    keeps = ran_facts.keeps ran tells;
    goes_on = ran_facts.goes_on ran tells;
    some =
        let told = length-reverse (ran_facts.turns ran) in
        let turns = length-append (ran.begun.desk.own ++ ran.stops.middle) (ran.stops.last ∷ []) in
        omega (arith, told, turns);
  }

  -- what a crash might have left before the words were read was an image of the disk that was given
  sound_since : (want : Want) → AreSound want (says.state disk).seen (says.state disk).may_leave
      → ((image : Files) → LeftSince (says.state ended.disk) (says.state ran.begins.read).moment image
      → Sound want image)
      → (image : Files) → LeftSince (says.state ended.disk) (says.state disk).moment image → Sound want image
  sound_since want sound later image left =
      let passes = ran.begins.is_read.passes tells in
      let on = ran_facts.goes_on ran tells in
      ⊎_elim
      (λ (late : (says.state ran.begins.read).moment < left.0). later image
      (left.0, omega (arith, late), left.2, left.3))
      (λ (early : left.0 ≤ (says.state ran.begins.read).moment).
      let from = passes.images left.0 image left.1 early ((on.passes.left left.0 image early).0 left.3) in
      subst (λ (i : Files). Sound want i) (sym (same_files from.0 image from.2)) (sound from.0 from.1).0)
      (cases_lt (says.state ran.begins.read).moment left.0)

  pub kept : CompletedAreRight says.state → CrashesKeepRuns says.state → (ended.ending ≢ NoMemory → AreFed (ran_facts.told ran))
      → LeavesKept says words gids doors disk ended
  kept complete crash fed = record {
    line = ran.begins.line;
    means = ran.begins.means;
    told = ran_facts.told ran;
    turns = ran_facts.are_turns ran fed;
    complete = λ gid want is was.
        complete (ran_facts.start ran) (ran_facts.told ran) ran.begins.read ended.disk run_is gid want is (was_read want was);
    crash = λ want was.
        let is = crash (ran_facts.start ran) (ran_facts.told ran) ran.begins.read ended.disk run_is want (was_read want was) in
        record {
          sound = sound_since want was.sound is.sound;
          agrees = is.agrees;
          holds = is.holds;
        };
  }
