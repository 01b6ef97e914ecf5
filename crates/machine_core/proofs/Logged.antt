-- What is kept of notices stays while events come.
use Rattle.std.proofs.Common.{◌≡◌, ℕ, ◌+◌, ◌≤◌, List, [], ◌∷◌, ◌++◌, length, reverse, take, sym, ap, subst, arith}
use Rattle.std.proofs.lemmas.List.{length-append, take-append-le}
use Rattle.machine_core.specs.NoticeLogs.{KeepsLog, KeepsLogged}
use Rattle.machine_core.specs.Starts.{RunStart}
use Rattle.machine_core.specs.declared.events.Event.{Event}
use Rattle.machine_core.specs.declared.notice_log.NoticeLog.{NoticeLog}

-- the log is of the first events also once one more came
pub logged_on : (start : RunStart) (events : List Event) (e : Event) (log : NoticeLog) → KeepsLogged start events log
    → KeepsLogged start (events ++ e ∷ []) log
logged_on start events e log k =
    record {
      within = let w = k.within in let n = length-append events (e ∷ []) in omega arith;
      log_is = subst (λ (es : List Event). KeepsLog start (reverse es) log)
          (sym (take-append-le log.covered events (e ∷ []) k.within)) k.log_is;
    }
