-- What a worker is answered that asks what it is to do.
use Rattle.std.proofs.Common.{◌≡◌, inl, inr, ⊎_elim, ℕ, Some, None, List, ◌++◌, refl, sym, ap, ◌∙◌, subst, arith}
use Rattle.dl_kinds.specs.declared.gid.Gid.{Gid}
use Rattle.machine_core.specs.Claiming.{next_to_open}
use Rattle.machine_core.specs.RunLegal.{download_in}
use Rattle.machine_core.specs.Starts.{Download, RunStart}
use Rattle.machine_core.specs.declared.events.Event.{Event}
use Rattle.machine_core.specs.declared.handed.Handed.{Handed}
use Rattle.engine_turns.specs.NextRows.{IsClashed, IsOpeningTurn, OpenRow}
use Rattle.engine_turns.specs.Phases.{TurnStart}
use Rattle.engine_turns.specs.RunTurns.{IsAnswered}
use Rattle.engine_turns.specs.Standings.{AnswersOnly, RunStanding}
use Rattle.engine_turns.specs.declared.operations.Operation.{Operation}
use Rattle.engine_turns.specs.declared.operations.Operation.TheVariants.{Next}
use Rattle.engine_turns.specs.declared.operations.Said.{Said}
use Rattle.engine_turns.specs.Levels.{spent_by}
use Rattle.engine_turns.specs.declared.operations.Grant.TheVariants.{Fetch, Hash, Probe}
use Rattle.engine_turns.specs.declared.operations.Said.TheVariants.{Allow, Done, Finished, Grant, Hold, Idle, JournalFull, Kept, NoMemory, Notices, Replied, Void}
use Rattle.dl_kinds.specs.declared.runs.Moment.{Moment}
use Rattle.stored_run.specs.Opening.{OpenNextRow}
use Rattle.stored_run.specs.Steps.{DoesRow, turn_from}
use Rattle.stored_run.proofs.PlainEvents.{gid_added}
use Rattle.engine_core.specs.Engines.{KeepsRates, past_of, standing_of, start_of}
use Rattle.engine_core.specs.Beginning.{Begins}
use Rattle.engine_core.specs.Buckets.{HasRates, LevelsGoOn}
use Rattle.engine_core.specs.Handing.{IsUnsettled}
use Rattle.engine_core.specs.Giving.{MakesRow, UnopenedRow}
use Rattle.engine_core.specs.declared.state.EngineState.{EngineState}
use Rattle.engine_core.proofs.Calm.{AreCalm, calm_of}
use Rattle.engine_core.proofs.CalmRows.{IsCalmRow, calm_only, unless_starved}
use Rattle.engine_core.proofs.Owned.{of_open}
use Rattle.engine_core.proofs.Given.{calm_unopened, gives_unspent}
use Rattle.engine_core.proofs.Letting.{lets_go, none_out, nothing_handed, nothing_spent}

-- ---- no download is to be opened

abbrev pub RestRow : ℕ → TurnStart → RunStanding → List Event → Said → Type 0
RestRow worker at s events said = (next_to_open at.start s.past ≡ None) × UnopenedRow worker at s events said

pub rest_given : {D : Type 0} (op : Operation) (worker : ℕ) (old : EngineState D) (f : ℕ) (new : EngineState D) (f' : ℕ)
    (said : Said) → next_to_open (start_of old) (past_of old) ≡ None → MakesRow op (UnopenedRow worker) old f new f' said
    → MakesRow op (RestRow worker) old f new f' said
rest_given op worker old f new f' said none gives = record {
  start = gives.start;
  now = gives.now;
  events = gives.events;
  grown = gives.grown;
  is = λ from below. (none, gives.is from below);
  later = gives.later;
  counts = gives.counts;
  handed = gives.handed;
  out = gives.out;
  levels = gives.levels;
}

pub rest_answers : (worker : ℕ) (now : Moment) (at : TurnStart) (s : RunStanding) (events : List Event) (said : Said)
    → RestRow worker at s events said → IsAnswered at s (Next worker now) events said None
rest_answers worker now at s events said is = ⊎_elim (λ (starved : AnswersOnly NoMemory events said). inl (refl, starved))
    (λ given. inr (inr (is.0, given))) is.1

pub rest_calm : (worker : ℕ) (at : TurnStart) (s : RunStanding) (events : List Event) (said : Said)
    → RestRow worker at s events said → AreCalm events
rest_calm worker at s events said is = calm_unopened worker at s events said is.1

-- ---- a download is opened

pub calm_open : (at : TurnStart) (s : RunStanding) (download : Download) → IsCalmRow (OpenRow at s download)
calm_open at s download events said is = (
  calm_of download.gid events (of_open at s download events said is),
  ⊎_elim (λ (clashed : IsClashed at s download events said). ap lets_go clashed.3)
      (λ (opening : _ × IsOpeningTurn at s download events said).
      unless_starved Done opening.1.0 said refl opening.1.2) is,
)

pub calm_opens : (gid : Gid) (at : TurnStart) (s : RunStanding) → IsCalmRow (OpenNextRow gid at s)
calm_opens gid at s events said is = ⊎_elim
    (λ (starved : AnswersOnly NoMemory events said). calm_only NoMemory refl events said starved)
    (λ (one : (download : Download) × (download_in at.start s.past gid ≡ Some download) × OpenRow at s download events said).
    calm_open at s one.0 events said one.2) is

-- .. of the download that is to be opened next
abbrev pub FirstRow : Gid → TurnStart → RunStanding → List Event → Said → Type 0
FirstRow gid at s events said = (next_to_open at.start s.past ≡ Some gid) × OpenNextRow gid at s events said

pub first_calm : (gid : Gid) (at : TurnStart) (s : RunStanding) (events : List Event) (said : Said)
    → FirstRow gid at s events said → AreCalm events
first_calm gid at s events said is = (calm_opens gid at s events said is.1).0

pub first_answers : (gid : Gid) (worker : ℕ) (now : Moment) (at : TurnStart) (s : RunStanding) (events : List Event)
    (said : Said) → FirstRow gid at s events said → IsAnswered at s (Next worker now) events said None
first_answers gid worker now at s events said is = ⊎_elim
    (λ (starved : AnswersOnly NoMemory events said). inl (refl, starved))
    (λ (one : (download : Download) × (download_in at.start s.past gid ≡ Some download) × OpenRow at s download events said).
    let same = gid_added at.start s.past gid one.0 one.1 in
    inr (inl (record {
      download = one.0;
      added = subst (λ (g : Gid). download_in at.start s.past g ≡ Some one.0) (sym same) one.1;
      is = is.0 ∙ ap (λ (g : Gid). Some g) (sym same);
      row = one.2;
    }))) is.1

pub first_given : {D : Type 0} (op : Operation) (gid : Gid) (old new : EngineState D) (f f' : ℕ) (said : Said)
    → next_to_open (start_of old) (past_of old) ≡ Some gid → DoesRow (OpenNextRow gid) old.run f new.run f' said
    → start_of new ≡ start_of old → new.run.now ≡ old.run.now → new.handed ≡ old.handed → new.limits ≡ old.limits
    → KeepsRates old → MakesRow op (FirstRow gid) old f new f' said
first_given op gid old new f f' said is row start now handed limits rates =
    let here = row.is f (standing_of old) (omega arith) refl in
    let quiet = calm_opens gid (turn_from old.run f) (standing_of old) row.events said here in
    gives_unspent op (FirstRow gid) old new f f' said row.events quiet.0 rates start now row.grown
    (λ from below. (is, row.is from (standing_of old) below refl)) row.counts
    (ap (λ h. h.pieces) handed ∙ ap (λ (hs : List Handed). hs ++ old.handed.pieces) (sym (nothing_handed said quiet.1)))
    (none_out (IsUnsettled (start_of old) (past_of old)) said quiet.1) limits (nothing_spent (start_of old) (past_of old) op said quiet.1)

-- ---- the moment that an operation brings isn't looked at by what is let go

spent_next : (start : RunStart) (past : List Event) (worker : ℕ) (m n : Moment) (said : Said)
    → spent_by start past (Next worker m) said ≡ spent_by start past (Next worker n) said
spent_next start past worker m n (Grant (Fetch grant)) = refl
spent_next start past worker m n (Grant (Hash gid piece bytes)) = refl
spent_next start past worker m n (Grant (Probe claim gid url)) = refl
spent_next start past worker m n (Allow bytes) = refl
spent_next start past worker m n (Replied place reply starved) = refl
spent_next start past worker m n (Kept counted repeated) = refl
spent_next start past worker m n Void = refl
spent_next start past worker m n (Hold ms) = refl
spent_next start past worker m n Idle = refl
spent_next start past worker m n Done = refl
spent_next start past worker m n Finished = refl
spent_next start past worker m n (JournalFull count) = refl
spent_next start past worker m n (Notices list upto) = refl
spent_next start past worker m n NoMemory = refl

pub next_at : {D : Type 0} (worker : ℕ) (m n : Moment) (Row : TurnStart → RunStanding → List Event → Said → Type 0)
    (old : EngineState D) (f : ℕ) (new : EngineState D) (f' : ℕ) (said : Said)
    → MakesRow (Next worker m) Row old f new f' said → MakesRow (Next worker n) Row old f new f' said
next_at worker m n Row old f new f' said gives = record {
  start = gives.start;
  now = gives.now;
  events = gives.events;
  grown = gives.grown;
  is = gives.is;
  later = gives.later;
  counts = gives.counts;
  handed = gives.handed;
  out = gives.out;
  levels = subst (λ spent. LevelsGoOn (start_of old) (past_of old) (past_of new) spent new.run.now.0 old.limits new.limits)
      (spent_next (start_of old) (past_of old) worker m n said) gives.levels;
}

-- what begins has the rates still
pub rates_begun : {D : Type 0} (now : Moment) (old mid : EngineState D) → Begins now old mid → KeepsRates old → KeepsRates mid
rates_begun now old mid begins rates =
    subst (λ l. HasRates (start_of mid) (past_of mid) l) (sym begins.limits)
    (subst (λ (s : RunStart). HasRates s (past_of mid) old.limits) (sym begins.machine.start_is)
    (subst (λ (p : List Event). HasRates (start_of old) p old.limits) (sym begins.machine.past_is) rates))
