-- The rows of a worker's turns bring orderly events.
use Rattle.std.proofs.Common.{◌≡◌, ◌≢◌, ◌⊎◌, ℕ, ◌≤◌, Bool, true, false, List, [], ◌∷◌, Some, None, refl, ap, subst, inl, inr, ⊎_elim, arith, if◌then◌else◌}
use Rattle.std.specs.Prelude.{◌&&◌}
use Rattle.std.specs.List.{list_any}
use Rattle.dl_kinds.specs.declared.claims.Claim.{Claim}
use Rattle.dl_kinds.specs.declared.gid.Gid.{Gid}
use Rattle.dl_kinds.specs.declared.marks.Mark.{Mark}
use Rattle.dl_kinds.specs.declared.runs.Run.{Run}
use Rattle.dl_history.proofs.Members.{Has}
use Rattle.dl_history.specs.PayloadParts.{is_sole_in}
use Rattle.engine_turns.specs.ClaimRows.{DeliverRow, DueSavePhase, LoseRow, LossPhase, SizedRow, TellingPhase, lost_piece, sole_phase}
use Rattle.engine_turns.specs.NextRows.{NextRow, OfferRow, OpenRow, whole_row}
use Rattle.engine_turns.specs.Phases.{JustEnd, LandingsPhase, NoEvent, Phase, TurnStart}
use Rattle.engine_turns.specs.RunTurns.{IsAnswered, OperationRow}
use Rattle.engine_turns.specs.SealRows.{SealRow, has_listed_digest}
use Rattle.engine_turns.specs.Standings.{AnswersUnlessStarved, RunStanding}
use Rattle.engine_turns.specs.Told.{history_after}
use Rattle.engine_turns.specs.declared.operations.Operation.{Operation}
use Rattle.engine_turns.specs.declared.operations.Said.{Said}
use Rattle.engine_turns.specs.declared.operations.Said.TheVariants as said
use Rattle.engine_turns.specs.declared.outcome.Outcome.{Outcome}
use Rattle.engine_turns.specs.declared.outcome.Outcome.TheVariants.{Went, Over, Starved}
use Rattle.machine_core.specs.Claiming.{AreOpenIn}
use Rattle.machine_core.specs.OwnParts.{own_of}
use Rattle.machine_core.specs.RunLegal.{is_listed, is_stop}
use Rattle.machine_core.specs.Starts.{Download}
use Rattle.machine_core.specs.declared.ends.End.TheVariants as end
use Rattle.machine_core.specs.declared.events.Event.{Event}
use Rattle.machine_core.specs.declared.events.Event.TheVariants.{Claimed, Cleared, Ended, Lost, Sized}
use Rattle.machine_core.specs.declared.offers.Offer.{Offer}
use Rattle.machine_core.specs.declared.offers.Offer.TheVariants as offer
use Rattle.verify_piece.specs.Seals.{PieceBytes}
use Rattle.worker_turns.specs.Alone.{NoClaimStands}
use Rattle.solo_run.proofs.Parts.{IsFine, IsFineBehind, fine_dead, fine_due_save, fine_end, fine_ending, fine_event, fine_fault, fine_filled, fine_if, fine_landings, fine_none, fine_nothing, fine_one, fine_opening, fine_read, fine_settling, fine_then, filled_news, landed_some, loose_checks}

-- a turn that was answered for want of memory may have a check without an end
abbrev pub loose_said : Said → ℕ
loose_said said.NoMemory = 1
loose_said other = 0

-- the first run of some
some_first : (runs : List Run) (r : Run) → Has runs r → (first : Run) × (rest : List Run) × (runs ≡ first ∷ rest)
some_first [] r there = absurd there
some_first (first ∷ rest) r there = (first, rest, refl)

module _ (at : TurnStart) (s : RunStanding) (events : List Event) where
  abbrev pub Fine : Said → Type 0
  Fine answer = IsFine at.start s.past events (loose_said answer)

  looser : (n m : ℕ) → n ≤ m → IsFine at.start s.past events n → IsFine at.start s.past events m
  looser n m more fine = record { steps = fine.steps; checks = let c = fine.checks in omega (arith, more, c) }

  went_well : (usual answer : Said) (outcome : Outcome) → AnswersUnlessStarved usual outcome answer
      → IsFine at.start s.past events (loose_checks outcome) → Fine answer
  went_well usual answer Went is fine = looser 0 (loose_said answer) (omega arith) fine
  went_well usual answer Over is fine = looser 0 (loose_said answer) (omega arith) fine
  went_well usual answer Starved is fine = looser 1 (loose_said answer) (let n = ap loose_said is in omega (arith, n)) fine

  -- a part that never runs out of memory
  never_short : (answer : Said) (outcome : Outcome) → outcome ≢ Starved
      → IsFine at.start s.past events (loose_checks outcome) → Fine answer
  never_short answer Went fed fine = looser 0 (loose_said answer) (omega arith) fine
  never_short answer Over fed fine = looser 0 (loose_said answer) (omega arith) fine
  never_short answer Starved fed fine = absurd (fed refl)

  pub no_events : (answer : Said) → events ≡ [] → Fine answer
  no_events answer none = fine_none at.start s.past events (loose_said answer) none

  -- ---- deliveries

  pub deliver_fine : (run : Run) (bytes : List ℕ) (download : Download) (claim : Claim) (answer : Said)
      → ((runs : List Run) → AreOpenIn (own_of at.start s.past download.gid) claim run runs → (r : Run) × Has runs r)
      → DeliverRow at s run bytes download claim events answer → Fine answer
  deliver_fine run bytes download claim answer some (inr void) = no_events answer void.1.0
  deliver_fine run bytes download claim answer some (inl kept) =
      let k = kept.1 in
      let r = some k.runs k.open_runs in
      let first = some_first k.runs r.0 r.1 in
      went_well _ answer k.outcome k.answer
      (fine_then at.start s.past _ _
      (fine_landings at.start s.past at download.gid claim.id claim.mirror k.runs)
      (λ front landed.
      fine_then at.start (history_after s.past front) _ _
      (fine_filled at.start (history_after s.past front) s.past at download (is_listed download.subject))
      (λ rest filled.
      fine_ending at.start (history_after (history_after s.past front) rest) at download (DueSavePhase at download)
      (fine_due_save at.start (history_after (history_after s.past front) rest) at download
      (filled_news at.start (history_after s.past front) s.past at download (is_listed download.subject) rest
      (landed_some at.start s.past at download.gid claim.id claim.mirror first.0 first.1 front
      (subst (λ (runs : List Run). LandingsPhase at download.gid claim.id claim.mirror runs s.past front Went)
      first.2 landed)) filled)))) events k.outcome k.is)

  -- ---- losses and lengths

  fine_sole : (past : List Event) (gid : Gid) (piece : ℕ) (sole : Bool)
      → IsFineBehind at.start past (sole_phase gid piece sole)
  fine_sole past gid piece true = fine_event at.start past (Cleared gid piece) tt refl
  fine_sole past gid piece false = fine_nothing at.start past

  sole_fed : (past es : List Event) (gid : Gid) (piece : ℕ) (sole : Bool)
      → sole_phase gid piece sole past es Starved → ⊥
  sole_fed past es gid piece true h = h
  sole_fed past es gid piece false h = h

  loss_fed : (download : Download) (claim : Claim) (mark : Mark) (piece : ℕ)
      → LossPhase at s.past download claim mark piece s.past events Starved → ⊥
  loss_fed download claim mark piece came =
      ⊎_elim (λ broken. broken.0)
      (λ whole. ⊎_elim
      (λ off. sole_fed _ whole.rest download.gid piece (is_sole_in (own_of at.start s.past download.gid) piece) off.0)
      (λ on. on.second) whole.second) came

  telling_fed : (download : Download) (claim : Claim) (total : ℕ)
      → TellingPhase download claim total s.past events Starved → ⊥
  telling_fed download claim total came =
      ⊎_elim (λ broken. broken.0) (λ whole. ⊎_elim (λ long. long.1) (λ short. short.1) whole.second) came

  fed : (P : Phase) (outcome : Outcome) → (P s.past events Starved → ⊥) → P s.past events outcome → outcome ≢ Starved
  fed P outcome never came = λ starved. never (subst (λ (o : Outcome). P s.past events o) starved came)

  pub lose_fine : (mark : Mark) (download : Download) (claim : Claim) (answer : Said)
      → LoseRow at s mark download claim events answer → Fine answer
  lose_fine mark download claim answer row =
      let piece = lost_piece at.start s.past download.gid claim in
      never_short answer row.0
      (fed (LossPhase at s.past download claim mark piece) row.0 (loss_fed download claim mark piece) row.1)
      (fine_then at.start s.past _ _ (fine_event at.start s.past (Lost download.gid claim.id claim.mirror piece mark) tt refl)
      (λ front lost. fine_then at.start (history_after s.past front) _ _
      (fine_sole (history_after s.past front) download.gid piece
      (is_sole_in (own_of at.start s.past download.gid) piece))
      (λ rest cleared. fine_dead at.start (history_after (history_after s.past front) rest) at download piece))
      events row.0 row.1)

  pub sized_fine : (total : ℕ) (download : Download) (claim : Claim) (answer : Said)
      → SizedRow at s total download claim events answer → Fine answer
  sized_fine total download claim answer (inr other) = no_events answer other.1.0
  sized_fine total download claim answer (inl told) =
      never_short answer told.1.0
      (fed (TellingPhase download claim total) told.1.0 (telling_fed download claim total) told.1.1)
      (fine_then at.start s.past _ _ (fine_event at.start s.past (Sized download.gid claim.id total) tt refl)
      (λ front sized. fine_if at.start (history_after s.past front) _ (JustEnd (Ended download.gid (end.TooLarge total))) NoEvent
      (fine_end at.start (history_after s.past front) download.gid (end.TooLarge total))
      (fine_nothing at.start (history_after s.past front))) events told.1.0 told.1.1)

  -- ---- seals

  pub seal_fine : (gid : Gid) (sealed : PieceBytes) (answer : Said) → SealRow at s gid sealed events answer
      → Fine answer
  seal_fine gid sealed answer (inl void) = no_events answer void.0
  seal_fine gid sealed answer (inr settled) =
      let its = settled.1 in
      let download = its.download in
      went_well _ answer its.outcome its.answer
      (fine_then at.start s.past _ _ (fine_read at.start s.past at download.gid)
      (λ front read. fine_then at.start (history_after s.past front) _ _
      (fine_settling at.start (history_after s.past front) at download sealed.piece
      (has_listed_digest download.subject sealed))
      (λ rest found. fine_ending at.start (history_after (history_after s.past front) rest) at download NoEvent
      (fine_nothing at.start (history_after (history_after s.past front) rest)))) events its.outcome its.is)

  -- ---- work that is asked for

  open_fine : (download : Download) (answer : Said) → OpenRow at s download events answer → Fine answer
  open_fine download answer (inl clashed) =
      fine_one at.start s.past events (Ended download.gid clashed.0) (loose_said answer) clashed.2 tt refl
  open_fine download answer (inr opened) =
      went_well _ answer opened.1.0 opened.1.2
      (fine_then at.start s.past _ _ (fine_opening at.start s.past at download.gid)
      (λ front opens. fine_ending at.start (history_after s.past front) at download NoEvent
      (fine_nothing at.start (history_after s.past front))) events opened.1.0 opened.1.1)

  whole_fine : (download : Download) (piece : ℕ) (listed : Bool) (answer : Said)
      → whole_row at s download piece listed events answer → Fine answer
  whole_fine download piece true answer (inl hash) = no_events answer hash.is.0
  whole_fine download piece true answer (inr (inl faulted)) =
      fine_fault at.start s.past at download.gid events (loose_said answer) faulted.0
  whole_fine download piece true answer (inr (inr starved)) = no_events answer starved.0
  whole_fine download piece false answer right =
      went_well _ answer right.0 right.2
      (fine_then at.start s.past _ _ (fine_settling at.start s.past at download piece true)
      (λ front found. fine_ending at.start (history_after s.past front) at download NoEvent
      (fine_nothing at.start (history_after s.past front))) events right.0 right.1)

  offer_fine : (worker : ℕ) (download : Download) (its : Offer) (answer : Said) → NoClaimStands at.start s.past
      → list_any is_stop s.past ≡ false → OfferRow at s worker download its events answer → Fine answer
  offer_fine worker download (offer.Whole piece) answer none going row =
      whole_fine download piece (is_listed download.subject) answer row
  offer_fine worker download (offer.Blocks mirror run victim) answer none going row =
      fine_one at.start s.past events (Claimed download.gid _) (loose_said answer) row.claimed (none, going) refl
  offer_fine worker download (offer.Probe mirror) answer none going row =
      fine_one at.start s.past events (Claimed download.gid _) (loose_said answer) row.claimed (none, going) refl

  pub next_fine : (worker : ℕ) (answer : Said) → NoClaimStands at.start s.past → list_any is_stop s.past ≡ false
      → NextRow at s worker events answer → Fine answer
  next_fine worker answer none going (inl opens) = open_fine opens.download answer opens.row
  next_fine worker answer none going (inr (unopened, inl given)) =
      offer_fine worker given.download given.offer answer none going given.row
  next_fine worker answer none going (inr (unopened, inr (inl holds))) = no_events answer holds.2.0
  next_fine worker answer none going (inr (unopened, inr (inr idles))) = no_events answer idles.1.0

-- ---- answers

-- nothing came, or the row of the operation did, where the run wasn't finished when work was asked for
pub answered_so : (at : TurnStart) (s : RunStanding) (op : Operation) (events : List Event) (answer : Said)
    (asks finished full : Bool) (n : ℕ) → IsAnswered at s op events answer (if asks && finished then Some said.Finished
    else (if full then Some (said.JournalFull n) else None))
    → (events ≡ []) ⊎ ((asks ≡ true → finished ≡ false) × OperationRow at s op events answer)
answered_so at s op events answer true true full n is = inl is.0
answered_so at s op events answer true false true n is = inl is.0
answered_so at s op events answer true false false n is =
    ⊎_elim (λ starved. inl starved.1.0) (λ row. inr ((λ asks. refl), row)) is
answered_so at s op events answer false finished true n is = inl is.0
answered_so at s op events answer false finished false n is =
    ⊎_elim (λ starved. inl starved.1.0) (λ row. inr ((λ asks. absurd (let e : false ≡ true = asks in cc)), row)) is
