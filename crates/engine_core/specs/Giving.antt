-- What a worker is given.
use Rattle.std.specs.Prelude.{◌≡◌, ◌≤◌, ◌⊎◌, ℕ, Bool, IsTrue, true, All, List, Some, ◌++◌}
use Rattle.dl_disk.specs.State.{DiskState}
use Rattle.dl_kinds.specs.declared.gid.Gid.{Gid}
use Rattle.engine_turns.specs.Faults.{CountsFaults}
use Rattle.engine_turns.specs.Levels.{spent_by}
use Rattle.engine_turns.specs.NextRows.{IsHolding, IsIdling, IsOfferGiven, OfferRow}
use Rattle.engine_turns.specs.Phases.{TurnStart}
use Rattle.engine_turns.specs.Standings.{AnswersOnly, RunStanding}
use Rattle.engine_turns.specs.Told.{handed_by, history_after}
use Rattle.engine_turns.specs.declared.operations.Operation.{Operation}
use Rattle.engine_turns.specs.declared.operations.Said.{Said}
use Rattle.engine_turns.specs.declared.operations.Said.TheVariants.{NoMemory}
use Rattle.machine_core.specs.MachineViews.{is_added_in}
use Rattle.machine_core.specs.Offers.{Credit, affords, gid_credit}
use Rattle.machine_core.specs.Replays.{queue_in}
use Rattle.machine_core.specs.RunLegal.{download_in}
use Rattle.machine_core.specs.Starts.{Download}
use Rattle.machine_core.specs.declared.events.Event.{Event}
use Rattle.machine_core.specs.declared.offers.Offer.{Offer}
use Rattle.machine_core.specs.declared.offers.Offered.TheVariants.{Next}
use Rattle.stored_run.specs.Granting.{MayBeGiven}
use Rattle.stored_run.specs.Steps.{turn_from}
use Rattle.engine_core.specs.Buckets.{LevelsGoOn}
use Rattle.engine_core.specs.Disks.{LeavesRun}
use Rattle.engine_core.specs.Findings.{ChecksRead}
use Rattle.engine_core.specs.Handing.{IsUnsettled}
use Rattle.engine_core.specs.Readings.{GivesRead}
use Rattle.engine_core.specs.Engines.{KeepsRates, past_of, standing_of, start_of}
use Rattle.engine_core.specs.declared.state.EngineState.{EngineState}

-- ---- rows

-- what was offered of the download is given, or memory ran out
abbrev pub GivenRow : Gid → ℕ → Offer → TurnStart → RunStanding → List Event → Said → Type 0
GivenRow gid worker offer at s events said =
    AnswersOnly NoMemory events said
    ⊎ ((download : Download) × (download_in at.start s.past gid ≡ Some download)
    × OfferRow at s worker download offer events said)

-- what a worker is answered where no download is to be opened, or memory ran out
abbrev pub UnopenedRow : ℕ → TurnStart → RunStanding → List Event → Said → Type 0
UnopenedRow worker at s events said =
    AnswersOnly NoMemory events said
    ⊎ (IsOfferGiven at s worker events said ⊎ IsHolding at s events said ⊎ IsIdling at s events said)

module _ {D : Type 0} where
  -- ---- before it

  -- what a download has to its credit
  abbrev pub credit_now : EngineState D → Gid → Credit
  credit_now e gid = gid_credit (queue_in (start_of e) (past_of e)).added e.limits e.run.now.0 gid

  -- the offer may be given, and there is room for what comes of it
  pub record MayGive (e : EngineState D) (gid : Gid) (offer : Offer) : Type 0 where
    pub added : is_added_in e.run.machine gid ≡ true
    pub may : MayBeGiven e.run (Next gid offer)
    pub afforded : affords (credit_now e gid).bytes offer ≡ true
    pub room : 6 ≤ e.run.machine.spare
    pub hands : 1 ≤ e.handed.room
    pub rates : KeepsRates e

  -- ---- and what it does

  -- The events of a row and its answer, by the counts of the disk's faults before and after it. Of the buckets it takes the
  -- bytes that it lets go.
  pub record MakesRow (op : Operation) (Row : TurnStart → RunStanding → List Event → Said → Type 0) (old : EngineState D)
      (faults : ℕ) (new : EngineState D) (faults_after : ℕ) (said : Said) : Type 0 where
    pub start : start_of new ≡ start_of old
    pub now : new.run.now ≡ old.run.now
    pub events : List Event
    pub grown : past_of new ≡ history_after (past_of old) events
    pub is : (from : ℕ) → from ≤ faults → Row (turn_from old.run from) (standing_of old) events said
    pub later : faults ≤ faults_after
    pub counts : CountsFaults faults events faults_after
    pub handed : new.handed.pieces ≡ handed_by said ++ old.handed.pieces
    pub out : All (IsUnsettled (start_of old) (past_of old)) (handed_by said)
    pub levels : LevelsGoOn (start_of old) (past_of old) (past_of new)
        (spent_by (start_of old) (past_of old) op said) new.run.now.0 old.limits new.limits

  -- .. and, where that is told, to the disk, what it hands out of it, and what whole checks found there
  pub record MakesTurn (tells : Bool) (state : D → DiskState) (faults : D → ℕ) (op : Operation)
      (Row : TurnStart → RunStanding → List Event → Said → Type 0) (old new : EngineState D) (said : Said) : Type 0 where
    pub makes : MakesRow op Row old (faults old.run.disk) new (faults new.run.disk) said
    pub disk : IsTrue tells → LeavesRun state old.run new.run
    pub reads : IsTrue tells → GivesRead old.run said (state old.run.disk).seen
    pub finds : IsTrue tells → ChecksRead state old.run new.run
