-- The worked turns.
use Rattle.std.proofs.Common.{◌≡◌, ◌≢◌, ◌∙◌, ◌∷◌, ℕ, List, None, Some, [], refl, ap, inl, inr, arith}
use Rattle.std.proofs.lemmas.List.Elements.{All-nil}
use Rattle.dl_kinds.specs.declared.claims.Claim.{Claim}
use Rattle.dl_kinds.specs.declared.gid.Gid.{Gid}
use Rattle.dl_queue.specs.declared.kinds.QueueErr.TheVariants.{NotFound}
use Rattle.machine_core.specs.WorkedRuns.{key_of_first, one_at_once}
use Rattle.machine_core.specs.declared.calls.Call.{Call}
use Rattle.machine_core.specs.declared.calls.Call.TheVariants.{GetVersion, Pause}
use Rattle.run_report.specs.Replies.{reply_of}
use Rattle.run_report.specs.Subjects.{AreNames}
use Rattle.run_report.specs.declared.kinds.Reply.{Reply}
use Rattle.run_report.specs.declared.kinds.Reply.TheVariants.{Fine, Refused, Version}
use Rattle.engine_turns.specs.ClaimRows.{MoreRow}
use Rattle.engine_turns.specs.declared.outcome.Outcome.TheVariants.{Went}
use Rattle.engine_turns.specs.RunTurns.{IsTurnAnswered, turn_start}
use Rattle.engine_turns.specs.Standings.{OfClaim, standing_after}
use Rattle.engine_turns.specs.WorkedTurns.{WorkedRows, WorkedTurns, adding_turn, behind, moment_at, more_granted, replied_turn, started_first, telling_turn}
use Rattle.engine_turns.specs.declared.operations.Said.{Said}
use Rattle.engine_turns.specs.declared.operations.Said.TheVariants.{Allow, Notices, Replied}

pub worked_turns : WorkedTurns
worked_turns =
    record { out = refl; paused = refl; again = refl; sealed = refl; void = refl; starved = refl; latest = refl }

-- what is answered on no claim
no_grant : OfClaim (turn_start one_at_once [] more_granted) (standing_after one_at_once []) 7
    (MoreRow (turn_start one_at_once [] more_granted) (standing_after one_at_once []) 100) [] (Allow 100) → ⊥
no_grant (inl void) = absurd (let said = void.1.1 in cc)
no_grant (inr row) = let there = row.2.stands.1 in absurd (omega arith)

more_refused : IsTurnAnswered one_at_once [] more_granted None → ⊥
more_refused (inl starved) = absurd (let no = starved.0 in cc)
more_refused (inr row) = no_grant row

-- ---- the first call of a run has one reply

abbrev unnamed : Gid → List ℕ
unnamed gid = []

-- the run has no download yet
none_named : AreNames one_at_once [] unnamed
none_named gid download added = absurd (let is : None ≡ Some download = added in cc)

abbrev reply_in : Said → Reply
reply_in (Replied place reply starved) = reply
reply_in other = Fine

replied_as : (call : Call) (reply : Reply) → IsTurnAnswered one_at_once [] (replied_turn call reply) None
    → reply ≡ reply_of one_at_once [] unnamed call (moment_at 6)
replied_as call reply (inl starved) = absurd (let said = starved.1.1 in cc)
replied_as call reply (inr row) = ap reply_in row.answer ∙ row.is_reply unnamed none_named

-- the download's start is due
told_nothing : IsTurnAnswered one_at_once (adding_turn ∷ []) (telling_turn (Some (behind 0)) [] 1) None → ⊥
told_nothing (inl starved) = absurd (let said = starved.1.1 in cc)
told_nothing (inr row) =
    absurd (let is : Notices [] (behind 1) ≡ Notices (started_first ∷ []) (behind 1) = row.1 in cc)

pub worked_rows : WorkedRows
worked_rows =
    record {
      rests = record { back = refl; answered = (refl, refl); counts = refl };
      no_work = record { back = refl; answered = (refl, refl); counts = refl };
      goes_on = record {
        back = refl;
        answered = inr (refl, refl);
        counts = refl;
      };
      no_claim = record {
        back = refl;
        answered = inr (inl ((λ gid. All-nil (λ (claim : Claim). claim.id ≢ 7)), (refl, refl)));
        counts = refl;
      };
      no_door = record {
        back = refl;
        answered = inr (refl, refl);
        counts = refl;
      };
      refused = record {
        back = refl;
        answered = inr (record {
          saves = [];
          cut = refl;
          those = [];
          those_are = refl;
          outcome = Went;
          saved = (refl, refl);
          reply = Refused NotFound;
          is_reply = λ names are. refl;
          answer = refl;
        });
        counts = (tt, refl);
      };
      told = record {
        back = refl;
        answered = inr (record {
          saves = [];
          cut = refl;
          those = [];
          those_are = refl;
          outcome = Went;
          saved = (refl, refl);
          reply = Version;
          is_reply = λ names are. refl;
          answer = refl;
        });
        counts = (tt, refl);
      };
      stops = record {
        back = refl;
        answered = inr (record {
          saves = [];
          cut = refl;
          those = [];
          those_are = refl;
          outcome = Went;
          saved = (refl, refl);
          answer = refl;
        });
        counts = (tt, refl);
      };
      is_over = record { back = refl; answered = (refl, refl); counts = refl };
      joins = record { back = refl; answered = inr (refl, refl); counts = refl };
      joins_later = record { back = refl; answered = inr (refl, refl); counts = refl };
      starts = record { back = refl; answered = inr (refl, refl); counts = refl };
      not_idle = λ m. absurd (let said = m.answered.1 in cc);
      not_granted = λ m. more_refused m.answered;
      not_carried_out = λ m. absurd (let is = replied_as (Pause key_of_first) Fine m.answered in cc);
      not_told = λ m. absurd (let is = replied_as GetVersion Fine m.answered in cc);
      not_untold = λ m. told_nothing m.answered;
      not_passed_over = λ m. absurd (let is : 5 ≡ 0 = m.counts in cc);
    }
