-- How many turns a worker takes that works alone.
use Rattle.std.proofs.Common.{List, ◌++◌, subst}
use Rattle.dl_disk.specs.State.{DiskState}
use Rattle.engine_turns.specs.RunTurns.{MayComeAfter}
use Rattle.engine_turns.specs.Told.{RunTurn, history_of}
use Rattle.machine_core.specs.RunLegal.{IsLegal}
use Rattle.worker_turns.specs.Alone.{LoneTurnsAreBounded, LoneWorkersClaimOnce, LoneWorkersHoldOnce}
use Rattle.worker_turns.specs.Reads.{SoloSealsAreTaken, SoloTurnsAreBounded}
use Rattle.worker_turns.specs.TurnBounds.{TurnsAreBounded}
use Rattle.worker_turns.proofs.Lone.{legal_behind}
use Rattle.worker_turns.proofs.Solo.{all_behind, behind_append, come_behind, first_early, first_none}

pub lone_turns_bounded : TurnsAreBounded → LoneWorkersClaimOnce → LoneWorkersHoldOnce → LoneTurnsAreBounded
lone_turns_bounded bounded claims holds start earlier worker turns link now behind alone early vain =
    bounded start earlier worker turns link now behind (record {
      count = (claims start earlier worker turns link now behind alone).counts;
      taken = vain.taken;
      busy = vain.busy;
      once = holds start earlier worker turns link now behind alone early;
    })

pub solo_turns_bounded : {D : Type 0} (state : D → DiskState) → SoloSealsAreTaken state → LoneTurnsAreBounded
    → SoloTurnsAreBounded state
solo_turns_bounded state seals bounded start earlier worker turns later link now disk solo busy =
    bounded start earlier worker turns link now
    (record { come = come_behind start turns later earlier solo.run.ties; over = solo.over })
    (record {
      legal = legal_behind start later _
          (subst (λ (told : List RunTurn). IsLegal start (history_of told)) (behind_append turns later earlier)
          solo.run.legal);
      none = first_none start earlier (all_behind (MayComeAfter start) (turns ++ later) earlier solo.run.ties)
          solo.first;
    })
    (record { early = first_early earlier solo.first; few = solo.few })
    (record { taken = seals start earlier worker turns later link now disk solo; busy = busy })
