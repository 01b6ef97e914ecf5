-- The seal of a piece that was handed out.
use Rattle.std.proofs.Common.{◌≡◌, inl, inr, ⊎_elim, ℕ, Bool, true, false, List, [], ◌∷◌, ◌++◌, refl, sym, ap, ◌∙◌, subst}
use Rattle.std.specs.Prelude.{◌==◌, ◌&&◌, All, filter, not, slice_index_or}
use Rattle.std.specs.List.{list_any}
use Rattle.std.proofs.lemmas.Bool.{and_parts, eq-eqb, eqb-true, ne_eqb, or_parts}
use Rattle.std.proofs.lemmas.List.Elements.{All-head, All-tail, filter_agree}
use Rattle.dl_history.specs.Accounts.{account_of}
use Rattle.dl_kinds.specs.declared.gid.Gid.{Gid}
use Rattle.dl_kinds.specs.declared.runs.Moment.{Moment}
use Rattle.piece_table.specs.declared.giver.Giver.TheVariants.{Nobody}
use Rattle.machine_core.specs.Offers.{is_handed, is_handed_out}
use Rattle.machine_core.specs.OwnParts.{own_of}
use Rattle.machine_core.specs.RunLegal.{IsLegal, known_lengths}
use Rattle.machine_core.specs.RunSteps.{AccountsMatchRuns}
use Rattle.machine_core.specs.Starts.{RunStart}
use Rattle.machine_core.specs.declared.events.Event.{Event}
use Rattle.machine_core.specs.declared.handed.Handed.{Handed}
use Rattle.verify_piece.specs.Seals.{PieceBytes}
use Rattle.engine_turns.specs.Phases.{TurnStart}
use Rattle.engine_turns.specs.RunTurns.{answer_to}
use Rattle.engine_turns.specs.SealRows.{IsSettled, SealRow}
use Rattle.engine_turns.specs.Standings.{AnswersOnly, RunStanding}
use Rattle.engine_turns.specs.Told.{is_taken, seals_handed}
use Rattle.engine_turns.specs.declared.operations.Operation.TheVariants.{Seal}
use Rattle.engine_turns.specs.declared.operations.Said.{Said}
use Rattle.engine_turns.specs.declared.operations.Said.TheVariants.{Done, Void}
use Rattle.stored_run.specs.Settlings.{IsToBeSettled, SealedRow}
use Rattle.stored_run.specs.Views.{GoesOpened, IsGoing}
use Rattle.stored_run.specs.declared.run.StoredView.{StoredView}
use Rattle.stored_run.proofs.Claimed.{active_goes_on}
use Rattle.engine_core.specs.Beginning.{IsBrokenOff}
use Rattle.engine_core.specs.Handing.{IsOut, handed_but}
use Rattle.engine_core.specs.Performing.{handed_after}
use Rattle.engine_core.proofs.Calm.{calm_owned}
use Rattle.engine_core.proofs.CalmRows.{IsCalmRow, calm_only, unless_starved}
use Rattle.engine_core.proofs.Owned.{owned_settled}
use Rattle.engine_core.proofs.Letting.{front_none, lets_go, nothing_handed}

-- ---- the piece among those that are out

pub one_out : (P : Handed → Type 0) (p : Handed → Bool) (hs : List Handed) → list_any p hs ≡ true → All P hs
    → (h : Handed) × P h × (p h ≡ true)
one_out P p [] is all = absurd cc
one_out P p (h ∷ hs) is all = by (p h) refl (one_out P p hs)
  where
    by : (b : Bool) → p h ≡ b → (list_any p hs ≡ true → All P hs → (x : Handed) × P x × (p x ≡ true))
        → (x : Handed) × P x × (p x ≡ true)
    by true here rest = (h, All-head P h hs all, here)
    by false here rest = rest (rw here at is) (All-tail P h hs all)

pub handed_is : (gid : Gid) (piece : ℕ) (h : Handed) → is_handed gid piece h ≡ true → h ≡ record { gid = gid; piece = piece }
handed_is gid piece h is =
    let both = and_parts (h.gid.0 == gid.0) (h.piece == piece) is in
    let same : h.gid ≡ gid = ap (λ (n : ℕ). record { 0 = n }) (eqb-true h.gid.0 gid.0 both.0) in
    λ i. record { gid = same i; piece = eqb-true h.piece piece both.1 i }

pub is_out : (start : RunStart) (past : List Event) (gid : Gid) (piece : ℕ) (hs : List Handed)
    → is_handed_out hs gid piece ≡ true → All (IsOut start past) hs
    → IsOut start past (record { gid = gid; piece = piece })
is_out start past gid piece hs is all =
    let one = one_out (IsOut start past) (is_handed gid piece) hs is all in
    subst (IsOut start past) (handed_is gid piece one.0 one.2) one.1

module _ {D : Type 0} (start : RunStart) (past : List Event) (gid : Gid) (piece : ℕ)
    (out : IsOut start past (record { gid = gid; piece = piece })) (r : StoredView D)
    (start_is : r.machine.start ≡ start) (past_is : r.machine.past ≡ past) where
  pub out_going : IsGoing r gid
  out_going =
      subst (λ (s : RunStart). GoesOpened s r.machine.past gid) (sym start_is)
      (subst (λ (p : List Event). GoesOpened start p gid) (sym past_is)
      (record { opened = out.unsettled.opened; goes = active_goes_on start past gid out.active }))

  pub out_settled : AccountsMatchRuns → IsLegal start past → IsToBeSettled r gid piece
  out_settled match legal =
      let l = known_lengths start past gid in
      let own = own_of start past gid in
      let account = account_of l.total l.piece_len own in
      let is = out.unsettled in
      subst (λ (s : RunStart). IsToBeSettled (record r { machine = record r.machine { start = s } }) gid piece) (sym start_is)
      (subst (λ (p : List Event). IsToBeSettled (record r { machine = record r.machine { start = start; past = p } }) gid piece)
      (sym past_is)
      (record {
        download = is.download;
        added = is.added;
        giver = slice_index_or account.progress.givers piece Nobody;
        may = record {
          opened = is.opened;
          within = is.awaits.within;
          full = is.awaits.full;
          unverified = is.awaits.unverified;
          anew = is.awaits.anew;
          givers = ((match start past gid legal).pieces piece is.awaits.within).giver;
        };
      }))

-- ---- the pieces that stay

swap : (a b : ℕ) → (a == b) ≡ (b == a)
swap a b = by (a == b) refl
  where
    by : (t : Bool) → (a == b) ≡ t → (a == b) ≡ (b == a)
    by true is = is ∙ sym (eq-eqb b a (sym (eqb-true a b is)))
    by false is =
        is ∙ sym (ne_eqb b a (λ same. let yes : true ≡ false = sym (eq-eqb a b (sym same)) ∙ is in absurd cc))

module _ (gid : Gid) (sealed : PieceBytes) (now : Moment) where
  seals_is : (h : Handed) → seals_handed h (Seal gid sealed now) ≡ is_handed gid sealed.piece h
  seals_is h = ap (λ (b : Bool). (h.gid.0 == gid.0) && b) (swap sealed.piece h.piece)
      ∙ ap (λ (b : Bool). b && (h.piece == sealed.piece)) (same_gid h)
    where
      same_gid : (x : Handed) → (x.gid.0 == gid.0) ≡ (x.gid.0 == gid.0)
      same_gid x = refl

  pub sealed_after : (said : Said) (old new : List Handed) → lets_go said ≡ false
      → new ≡ handed_but gid sealed.piece (is_taken said) old → new ≡ handed_after (Seal gid sealed now) said old
  sealed_after said old new none is =
      is
      ∙ (filter_agree (λ h. not (is_handed gid sealed.piece h && is_taken said))
      (λ h. not (seals_handed h (Seal gid sealed now) && is_taken said))
      (λ h. ap (λ (b : Bool). not (b && is_taken said)) (sym (seals_is h))) old
      ∙ ap (λ (more : List Handed). filter (λ h. not (seals_handed h (Seal gid sealed now) && is_taken said)) (more ++ old))
      (sym (nothing_handed said none)))

-- a seal that wasn't taken leaves all
pub but_untaken : (gid : Gid) (piece : ℕ) (taken : Bool) (hs : List Handed) → taken ≡ false → hs ≡ handed_but gid piece taken hs
but_untaken gid piece taken [] none = refl
but_untaken gid piece taken (h ∷ hs) none =
    let rest = but_untaken gid piece taken hs none in
    let no = no_and (is_handed gid piece h) taken none in
    rw no (ap (λ (more : List Handed). h ∷ more) rest)
  where
    no_and : (a b : Bool) → b ≡ false → (a && b) ≡ false
    no_and true b is = is
    no_and false b is = refl

-- .. and so does one of a piece that isn't among them
pub but_none : (gid : Gid) (piece : ℕ) (taken : Bool) (hs : List Handed) → is_handed_out hs gid piece ≡ false
    → hs ≡ handed_but gid piece taken hs
but_none gid piece taken [] none = refl
but_none gid piece taken (h ∷ hs) none =
    let both = or_parts (is_handed gid piece h) (list_any (is_handed gid piece) hs) none in
    let rest = but_none gid piece taken hs both.1 in
    let first = both.0 in
    rw first (ap (λ (more : List Handed). h ∷ more) rest)

-- ---- the row

pub calm_sealed : (at : TurnStart) (gid : Gid) (sealed : PieceBytes) (s : RunStanding)
    → IsCalmRow (SealedRow gid sealed at s)
calm_sealed at gid sealed s events said is = ⊎_elim
    (λ (void : AnswersOnly Void events said). calm_only Void refl events said void)
    (λ (settled : IsSettled at s gid sealed events said). (
      calm_owned settled.download.gid events (owned_settled at s gid sealed events said settled),
      unless_starved Done settled.outcome said refl settled.answer,
    )) is

pub sealed_row : (at : TurnStart) (s : RunStanding) (gid : Gid) (sealed : PieceBytes) (events : List Event) (said : Said)
    → is_handed_out s.handed gid sealed.piece ≡ true → SealedRow gid sealed at s events said
    → SealRow at s gid sealed events said
sealed_row at s gid sealed events said out is = ⊎_elim
    (λ (void : AnswersOnly Void events said). inl void)
    (λ (settled : IsSettled at s gid sealed events said). inr (out, settled)) is

pub but_taken : (gid : Gid) (piece : ℕ) (taken : Bool) (hs : List Handed) → taken ≡ true
    → filter (λ h. not (is_handed gid piece h)) hs ≡ handed_but gid piece taken hs
but_taken gid piece taken hs is =
    filter_agree (λ h. not (is_handed gid piece h)) (λ h. not (is_handed gid piece h && taken))
    (λ h. rw is (ap not (sym (and_yes (is_handed gid piece h))))) hs
  where
    and_yes : (a : Bool) → (a && true) ≡ a
    and_yes true = refl
    and_yes false = refl

-- ---- what is answered before it takes no seal

pub front_takes_none : (asks needs : Bool) (start : RunStart) (past : List Event) (said : Said)
    → IsBrokenOff (answer_to asks needs start past) said → is_taken said ≡ false
front_takes_none = front_none is_taken refl (λ count. refl) refl
