-- What the loss of a claim comes to.
use Rattle.std.proofs.Common.{◌≡◌, inl, inr, ℕ, Bool, true, false, Some, List, [], ◌∷◌, refl, sym, ap, ◌∙◌, subst}
use Rattle.std.specs.Prelude.{◌||◌, Contains}
use Rattle.dl_history.specs.PayloadParts.{is_ended, is_ending, is_sole_in, told_total}
use Rattle.dl_history.specs.StandingClaims.{is_probe, standing_claims}
use Rattle.dl_history.specs.OwnEvents.{OwnEvent, Sizes}
use Rattle.dl_kinds.specs.declared.claims.Claim.{Claim}
use Rattle.dl_kinds.specs.declared.gid.Gid.{Gid}
use Rattle.dl_kinds.specs.declared.marks.Mark.{Mark}
use Rattle.engine_turns.specs.ClaimRows.{IsTooLongFor, LoseRow, SizedRow, TellingPhase, lost_piece, sole_phase}
use Rattle.engine_turns.specs.Phases.{AndThen, DeadPhase, JustEvent, TurnStart}
use Rattle.engine_turns.specs.Standings.{HasNoHome, IsHomeOf, OfClaim, RunStanding}
use Rattle.engine_turns.specs.declared.operations.Said.{Said}
use Rattle.engine_turns.specs.declared.operations.Said.TheVariants.{Done, Void}
use Rattle.engine_turns.specs.declared.outcome.Outcome.{Outcome}
use Rattle.engine_turns.specs.declared.outcome.Outcome.TheVariants.{Over, Went}
use Rattle.machine_core.specs.OwnParts.{own_of, with_own}
use Rattle.machine_core.specs.Reads.{HasNoDeadMark, IsDeadPiece}
use Rattle.machine_core.specs.MachineViews.{IsSizingBy, MachineView, StandsNowhere, StandsUnder}
use Rattle.machine_core.specs.Replays.{is_active_in}
use Rattle.machine_core.specs.RunLegal.{IsDeadIn, IsLegal, MayFollow, MayOwn, download_in}
use Rattle.machine_core.specs.Starts.{Download, RunStart}
use Rattle.machine_core.specs.declared.ends.End.TheVariants as end
use Rattle.machine_core.specs.declared.events.Event.{Event}
use Rattle.machine_core.specs.declared.events.Event.TheVariants.{Ended, Lost, Sized}
use Rattle.stored_run.specs.RunFollows.{RunFollows}
use Rattle.stored_run.specs.Steps.{DoesRow}
use Rattle.stored_run.specs.Telling.{ClaimGoes, loss_phase_of, too_long_phase}
use Rattle.stored_run.specs.declared.run.StoredView.{StoredView}
use Rattle.stored_run.proofs.Claimed.{claim_goes}
use Rattle.stored_run.proofs.Doing.{row_of_none}
use Rattle.stored_run.proofs.Kept.{own_at}
use Rattle.stored_run.proofs.PlainEvents.{gid_added}

pub same_download : (d e : Download) → Some d ≡ Some e → d ≡ e
same_download d e is = cc

-- ---- the end of a piece that is dead

pub dead_may : (m : MachineView) (gid : Gid) (piece : ℕ) (mark : Mark) → is_ended (own_of m.start m.past gid) ≡ false
    → IsDeadPiece m gid piece mark → MayFollow m.start m.past (Ended gid (end.Dead piece mark))
dead_may m gid piece mark going dead = record {
  own = record { download = dead.download; added = dead.added; may = λ ends. going };
  cause = dead.dead;
}

pub dead_over : (at : TurnStart) (m : MachineView) (gid : Gid) (piece : ℕ) (mark : Mark) (download : Download)
    → at.start ≡ m.start → download_in m.start m.past gid ≡ Some download → IsDeadPiece m gid piece mark
    → DeadPhase at download piece m.past (Ended gid (end.Dead piece mark) ∷ []) Over
dead_over at m gid piece mark download start added dead =
    let same = same_download dead.download download (sym dead.added ∙ added) in
    let is : IsDeadIn at.start m.past download piece mark =
    subst (λ (s : RunStart). IsDeadIn s m.past download piece mark) (sym start)
    (subst (λ (d : Download). IsDeadIn m.start m.past d piece mark) same dead.dead) in
    (mark, is, ap (λ (g : Gid). Ended g (end.Dead piece mark) ∷ []) (sym (gid_added m.start m.past gid download added)))

pub dead_none : (at : TurnStart) (m : MachineView) (gid : Gid) (piece : ℕ) (download : Download) → at.start ≡ m.start
    → download_in m.start m.past gid ≡ Some download → HasNoDeadMark m gid piece
    → DeadPhase at download piece m.past [] Went
dead_none at m gid piece download start added none = (
  refl,
  λ mark dead. none mark (record {
    download = download;
    added = added;
    dead = subst (λ (s : RunStart). IsDeadIn s m.past download piece mark) start dead;
  }),
)

-- ---- the loss

-- what came of it, told by the piece and the gid that the code goes by
pub loss_so : (at : TurnStart) (past events : List Event) (outcome : Outcome) (download : Download) (claim : Claim)
    (mark : Mark) (gid : Gid) (piece : ℕ) (sole : Bool) → download.gid ≡ gid → piece ≡ lost_piece at.start past gid claim
    → sole ≡ is_sole_in (own_of at.start past gid) piece
    → AndThen (JustEvent (Lost gid claim.id claim.mirror piece mark)) (AndThen (sole_phase gid piece sole)
    (DeadPhase at download piece)) past events outcome
    → loss_phase_of at past download claim mark past events outcome
loss_so at past events outcome download claim mark gid piece sole same piece_is sole_is came =
    let loss : Gid → ℕ → Bool → Type 0 = λ g p b.
    AndThen (JustEvent (Lost g claim.id claim.mirror p mark)) (AndThen (sole_phase g p b) (DeadPhase at download p))
    past events outcome in
    let own = own_of at.start past gid in
    subst (λ (g : Gid). loss g (lost_piece at.start past g claim)
    (is_sole_in (own_of at.start past g) (lost_piece at.start past g claim))) (sym same)
    (subst (λ (p : ℕ). loss gid p (is_sole_in own p)) piece_is (subst (λ (b : Bool). loss gid piece b) sole_is came))

-- ---- the row

pub home_of_claim : (start : RunStart) (past : List Event) (gid : Gid) (claim : Claim) (download : Download)
    → download_in start past gid ≡ Some download → Contains (standing_claims (own_of start past gid)) claim
    → IsHomeOf start past claim.id download claim
home_of_claim start past gid claim download added there =
    let same = sym (gid_added start past gid download added) in
    record {
      added = subst (λ (g : Gid). download_in start past g ≡ Some download) same added;
      stands = subst (λ (g : Gid). Contains (standing_claims (own_of start past g)) claim) same there;
      id_is = refl;
    }

pub lose_row : (at : TurnStart) (s : RunStanding) (past events : List Event) (outcome : Outcome) (id : ℕ) (mark : Mark)
    (download : Download) (claim : Claim) → s.past ≡ past → IsHomeOf at.start past id download claim
    → loss_phase_of at past download claim mark past events outcome → OfClaim at s id (LoseRow at s mark) events Done
lose_row at s past events outcome id mark download claim same home phase = inr (
  download,
  claim,
  subst (λ (p : List Event). IsHomeOf at.start p id download claim) (sym same) home,
  (
    outcome,
    subst (λ (p : List Event). loss_phase_of at p download claim mark p events outcome) (sym same) phase,
    refl,
  ),
)

-- ---- nothing stands under the number

pub no_home_row : {D : Type 0} (Row : TurnStart → RunStanding → Download → Claim → List Event → Said → Type 0)
    (r : StoredView D) (f id : ℕ) → StandsNowhere r.machine id
    → DoesRow (λ at s. OfClaim at s id (Row at s)) r f r f Void
no_home_row Row r f id none = row_of_none (λ at s. OfClaim at s id (Row at s)) r f Void
    (λ from s standing.
    inl (subst (λ (p : List Event). HasNoHome r.machine.start p id) (sym standing) none, (refl, refl)))

-- ---- a length

pub size_may : RunFollows → (m : MachineView) (gid : Gid) (claim : Claim) (total : ℕ) → IsLegal m.start m.past
    → StandsUnder m claim.id gid claim → is_probe claim ≡ true → MayFollow m.start m.past (Sized gid claim.id total)
size_may laws m gid claim total legal stands probe =
    let goes = claim_goes laws m.start m.past gid claim legal stands.stands in
    record {
      download = goes.download;
      added = goes.added;
      may = record { claim = claim; stands = stands.stands; id_is = refl; probe = probe };
    }

pub size_is : (m : MachineView) (gid : Gid) (claim : Claim) (total : ℕ) (e : Event) → StandsUnder m claim.id gid claim
    → IsSizingBy claim.id total e → MayFollow m.start m.past e → e ≡ Sized gid claim.id total
size_is m gid claim total e stands is may =
    let own : MayOwn m.start m.past is.0 (Sizes claim.id total) =
    subst (λ (x : Event). MayFollow m.start m.past x) is.1 may in
    let one = stands.one is.0 own.may.claim own.may.stands own.may.id_is in
    is.1 ∙ ap (λ (g : Gid). Sized g claim.id total) one.0

-- a download goes on after an event of its own that doesn't end it
pub goes_after : RunFollows → (start : RunStart) (past : List Event) (e : Event) (gid : Gid) (x : OwnEvent)
    → own_of start (e ∷ past) gid ≡ with_own gid gid x (own_of start past gid) → is_ending x ≡ false
    → is_active_in start (e ∷ past) gid ≡ is_active_in start past gid → ClaimGoes start past gid
    → ClaimGoes start (e ∷ past) gid
goes_after laws start past e gid x own ends active goes =
    let own_is = own ∙ own_at gid x (own_of start past gid) in
    record {
      download = goes.download;
      added = laws.downloads start past e gid goes.download goes.added;
      active = active ∙ goes.active;
      going = ap is_ended own_is ∙ (ap (λ (b : Bool). b || is_ended (own_of start past gid)) ends ∙ goes.going);
    }

pub long_may : (m : MachineView) (gid : Gid) (total : ℕ) → (goes : ClaimGoes m.start m.past gid)
    → told_total (own_of m.start m.past gid) ≡ Some total → IsTooLongFor goes.download total
    → MayFollow m.start m.past (Ended gid (end.TooLarge total))
long_may m gid total goes told long =
    let same = gid_added m.start m.past gid goes.download goes.added in
    record {
      own = record { download = goes.download; added = goes.added; may = λ ends. goes.going };
      cause = record {
        told = ap (λ (g : Gid). told_total (own_of m.start m.past g)) same ∙ told;
        none = long;
      };
    }

pub too_long_over : (gid : Gid) (download : Download) (total : ℕ) (past : List Event) → download.gid ≡ gid
    → IsTooLongFor download total → too_long_phase download total past (Ended gid (end.TooLarge total) ∷ []) Over
too_long_over gid download total past same long =
    inl (long, ap (λ (g : Gid). Ended g (end.TooLarge total) ∷ []) (sym same))

pub size_row : (at : TurnStart) (s : RunStanding) (past events : List Event) (outcome : Outcome) (id total : ℕ)
    (download : Download) (claim : Claim) → s.past ≡ past → IsHomeOf at.start past id download claim
    → is_probe claim ≡ true → TellingPhase download claim total past events outcome
    → OfClaim at s id (SizedRow at s total) events Done
size_row at s past events outcome id total download claim same home probe phase = inr (
  download,
  claim,
  subst (λ (p : List Event). IsHomeOf at.start p id download claim) (sym same) home,
  inl (
    probe,
    (
      outcome,
      subst (λ (p : List Event). TellingPhase download claim total p events outcome) (sym same) phase,
      refl,
    ),
  ),
)

pub blocks_row : (at : TurnStart) (s : RunStanding) (past : List Event) (id total : ℕ) (download : Download)
    (claim : Claim) → s.past ≡ past → IsHomeOf at.start past id download claim → is_probe claim ≡ false
    → OfClaim at s id (SizedRow at s total) [] Void
blocks_row at s past id total download claim same home blocks = inr (
  download,
  claim,
  subst (λ (p : List Event). IsHomeOf at.start p id download claim) (sym same) home,
  inr (blocks, (refl, refl)),
)
