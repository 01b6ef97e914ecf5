-- Between the turns of a worker each download that hasn't ended is sound.
use Rattle.std.proofs.Common.{List, [], ◌∷◌, inl, inr, ap}
use Rattle.dl_history.specs.HistoryLaws.{ProbesComeFirst}
use Rattle.mirror_blame.specs.Laws.{CountedAreTries}
use Rattle.machine_core.specs.RunLegal.{DownloadsAreLegal, IsLegal}
use Rattle.machine_core.specs.Starts.{RunStart}
use Rattle.engine_turns.specs.RunTurns.{MayComeAfter, answer_before, turn_start}
use Rattle.engine_turns.specs.Standings.{standing_after}
use Rattle.engine_turns.specs.Told.{AllTurns, RunTurn, history_of}
use Rattle.offered_work.specs.WorkedTurns.{IsWorkedBehind}
use Rattle.offered_work.proofs.FirstCall.{first_keeps, sound_begun}
use Rattle.offered_work.proofs.Histories.{legal_before}
use Rattle.offered_work.proofs.Rows.{AreSound, worked_keeps}

module _ (counts : CountedAreTries) (legals : DownloadsAreLegal) (probes : ProbesComeFirst) (start : RunStart) where
  sound_behind : (t : RunTurn) (before : List RunTurn) → MayComeAfter start before t
      → IsLegal start (history_of before) → AreSound start (history_of before) → IsWorkedBehind before t
      → AreSound start (history_of (t ∷ before))
  sound_behind t before may legal sound (inl worked) =
      worked_keeps counts (turn_start start before t) (standing_after start before) sound legal legals probes t.op
      t.events t.answer.said (answer_before start (history_of before) t.op) worked.fed worked.op may.answered
  sound_behind t before may legal sound (inr first) =
      first_keeps (turn_start start before t) (standing_after start before) (ap history_of first.0) t.op t.events
      t.answer.said (answer_before start (history_of before) t.op) first.1 may.answered

  pub sound_between : (told : List RunTurn) → IsLegal start (history_of told) → AllTurns (MayComeAfter start) told
      → AllTurns IsWorkedBehind told → AreSound start (history_of told)
  sound_between [] legal ties worked = sound_begun start
  sound_between (t ∷ before) legal ties worked =
      let earlier = legal_before start (history_of before) t.events legal in
      sound_behind t before ties.0 earlier (sound_between before earlier ties.1 worked.1) worked.0
