-- What is answered for a piece that is read, and one that counts as right.
use Rattle.std.proofs.Common.{◌≡◌, ◌≢◌, inl, inr, ℕ, true, Option, Some, None, List, [], refl, sym, subst}
use Rattle.std.specs.Prelude.{IsSome}
use Rattle.dl_kinds.specs.declared.gid.Gid.{Gid}
use Rattle.engine_turns.specs.Phases.{AfterDisk, AndThen, EndingOr, NoEvent, SettlingPhase, TurnStart}
use Rattle.engine_turns.specs.Standings.{AnswersUnlessStarved, RunStanding}
use Rattle.engine_turns.specs.declared.operations.Said.{Said}
use Rattle.engine_turns.specs.declared.operations.Said.TheVariants.{Done}
use Rattle.engine_turns.specs.declared.outcome.Outcome.{Outcome}
use Rattle.engine_turns.specs.declared.outcome.Outcome.TheVariants.{Over, Starved, Went}
use Rattle.machine_core.specs.RunLegal.{download_in}
use Rattle.machine_core.specs.Starts.{Download}
use Rattle.machine_core.specs.declared.events.Event.{Event}
use Rattle.stored_run.specs.Settlings.{CountedRow, UnreadRow}
use Rattle.stored_run.specs.Steps.{DoesPart, DoesRow, turn_from}
use Rattle.stored_run.specs.declared.run.StoredView.{StoredView}
use Rattle.stored_run.proofs.Doing.{row_of}

module _ {D : Type 0} (old new : StoredView D) (gid : Gid) (f f' : ℕ) (o : Outcome) (said : Said)
    (answer : AnswersUnlessStarved Done o said) where
  pub counted_row : (piece : ℕ) (download : Download)
      → download_in old.machine.start old.machine.past gid ≡ Some download
      → DoesPart (λ at. AndThen (SettlingPhase at download piece true) (EndingOr at download NoEvent)) old f new f' o
      → DoesRow (CountedRow gid piece) old f new f' said
  counted_row piece download added did =
      row_of (λ at. AndThen (SettlingPhase at download piece true) (EndingOr at download NoEvent)) (CountedRow gid piece)
      old new f f' o said did
      (λ from s events standing is. (
        download,
        subst (λ (past : List Event). download_in old.machine.start past gid ≡ Some download) (sym standing) added,
        (
          o,
          subst (λ (past : List Event). AndThen (SettlingPhase (turn_from old from) download piece true)
              (EndingOr (turn_from old from) download NoEvent) past events o) (sym standing) is,
          answer,
        ),
      ))

unread_by : (gid : Gid) (o : Outcome) (said : Said) (at : TurnStart) (s : RunStanding) (past events : List Event)
    → o ≢ Went → AnswersUnlessStarved Done o said → AfterDisk at gid [] past events o → UnreadRow gid at s events said
unread_by gid Went said at s past events not_went answer is = absurd (not_went refl)
unread_by gid Over said at s past events not_went answer is = inl (is, answer)
unread_by gid Starved said at s past events not_went answer is = inr (is, answer)

pub unread_row : {D : Type 0} (old new : StoredView D) (gid : Gid) (f f' : ℕ) (o : Outcome) (said : Said)
    → o ≢ Went → AnswersUnlessStarved Done o said → DoesPart (λ at. AfterDisk at gid []) old f new f' o
    → DoesRow (UnreadRow gid) old f new f' said
unread_row old new gid f f' o said not_went answer did =
    row_of (λ at. AfterDisk at gid []) (UnreadRow gid) old new f f' o said did
    (λ from s events standing is.
    unread_by gid o said (turn_from old from) s old.machine.past events not_went answer is)

pub none_some : {A P : Type 0} (o : Option A) → o ≡ None → IsSome o → P
none_some None is some = absurd cc
none_some (Some x) is some = absurd cc
