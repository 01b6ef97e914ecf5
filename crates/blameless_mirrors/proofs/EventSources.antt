-- Where a block of a download is from, before and behind events of a run.
use Rattle.std.proofs.Common.{◌≡◌, ◌⊎◌, ⊎_elim, inl, inr, ℕ, suc, Bool, true, false, cond, List, [], ◌∷◌, ◌++◌, refl, sym, ap, ◌∙◌, subst, arith}
use Rattle.std.specs.Prelude.{Contains}
use Rattle.std.proofs.lemmas.Bool.{eq-eqb}
use Rattle.dl_kinds.specs.declared.gid.Gid.{Gid}
use Rattle.dl_kinds.specs.declared.runs.Moment.{Moment}
use Rattle.dl_kinds.specs.declared.runs.Run.{Run}
use Rattle.piece_table.specs.Changes.{From, is_in}
use Rattle.dl_history.proofs.Bools.{true_not_false}
use Rattle.dl_history.specs.OwnEvents.{Checks, Clears, Grants, Halts, Lands, Loses, Opens, OwnEvent, Saves, Settles, Sizes}
use Rattle.dl_history.specs.OwnLegal.{LegalOwn}
use Rattle.dl_history.specs.PayloadParts.{source_in}
use Rattle.dl_history.specs.StandingClaims.{lands_block}
use Rattle.engine_turns.specs.Told.{history_after}
use Rattle.machine_core.proofs.Parts.{gid_is}
use Rattle.machine_core.specs.OwnParts.{halted_where, halts_by, own_of, with_own}
use Rattle.machine_core.specs.Replays.{is_same_gid}
use Rattle.machine_core.specs.Starts.{RunStart}
use Rattle.machine_core.specs.declared.events.Event.{Event}
use Rattle.machine_core.specs.declared.events.Event.TheVariants.{Called, Opened, Sized, Claimed, Landed, Settled, Cleared, Lost, Checked, Saved, Ended, Left, Stopped}
use Rattle.stored_run.proofs.Doing.{own_grows_on}
use Rattle.stored_run.proofs.Left.{one_of}
use Rattle.blameless_mirrors.proofs.Sources.{LandsFrom, WasFrom, source_step}

-- ---- legal histories

legal_rest : (total len : ℕ) (more own : List OwnEvent) → LegalOwn total len (more ++ own) → LegalOwn total len own
legal_rest total len [] own legal = legal
legal_rest total len (x ∷ more) own legal = legal_rest total len more own legal.0

-- what a download's part of a history was is legal
pub legal_before : (start : RunStart) (events past : List Event) (gid : Gid) (total len : ℕ)
    → LegalOwn total len (own_of start (history_after past events) gid) → LegalOwn total len (own_of start past gid)
legal_before start events past gid total len legal =
    let grown = own_grows_on start events past gid in
    legal_rest total len grown.0 (own_of start past gid)
    (subst (λ (own : List OwnEvent). LegalOwn total len own) grown.1 legal)

-- ---- an event

-- it lands the block for the download, by the mirror
pub record LandsBlock (gid : Gid) (b m : ℕ) (e : Event) : Type 0 where
  pub id : ℕ
  pub run : Run
  pub now : Moment
  pub is : e ≡ Landed gid id m run now
  pub inside : is_in b run ≡ true

-- .. or doesn't
abbrev pub LandsOthers : Gid → ℕ → Event → Type 0
LandsOthers gid b e = (id mirror : ℕ) (run : Run) (now : Moment) → e ≡ Landed gid id mirror run now → is_in b run ≡ false

module _ (total len b m : ℕ) where
  abbrev IsFrom : List OwnEvent → Type 0
  IsFrom own = source_in len own b ≡ From m

  quiet_step : (x : OwnEvent) (own : List OwnEvent) → lands_block b x ≡ false → LegalOwn total len (x ∷ own)
      → IsFrom (x ∷ own) → IsFrom own
  quiet_step x own quiet legal is = ⊎_elim
      (λ (lands : LandsFrom b m x). true_not_false (lands_block b x) (ap (lands_block b) lands.is ∙ lands.inside) quiet)
      (λ (was : WasFrom len b m x own). was.0) (source_step total len own x b m legal is)

  quiet_with : (gid other : Gid) (x : OwnEvent) (own : List OwnEvent) → lands_block b x ≡ false
      → LegalOwn total len (with_own other gid x own) → IsFrom (with_own other gid x own) → IsFrom own
  quiet_with gid other x own quiet = by (is_same_gid gid other)
    where
      by : (t : Bool) → LegalOwn total len (cond t (x ∷ own) own)
          → IsFrom (cond t (x ∷ own) own) → IsFrom own
      by true legal is = quiet_step x own quiet legal is
      by false legal is = is

  halted_from : (t : Bool) (own : List OwnEvent) → LegalOwn total len (halted_where t own) → IsFrom (halted_where t own)
      → IsFrom own
  halted_from true own legal is = quiet_step (Halts false) own refl legal is
  halted_from false own legal is = is

  module _ (start : RunStart) (past : List Event) (gid : Gid) where
    abbrev own : List OwnEvent
    own = own_of start past gid

    -- it was from the mirror, and the event doesn't land it
    abbrev pub WasSo : Event → Type 0
    WasSo e = IsFrom own × LandsOthers gid b e

    lands_with : (other : Gid) (id n : ℕ) (run : Run) (now : Moment) (t : Bool) → is_same_gid gid other ≡ t
        → LegalOwn total len (cond t (Lands id n run ∷ own) own)
        → IsFrom (cond t (Lands id n run ∷ own) own)
        → LandsBlock gid b m (Landed other id n run now) ⊎ WasSo (Landed other id n run now)
    lands_with other id n run now true same legal is =
        let gid_same : other ≡ gid = gid_is gid other same in
        ⊎_elim
        (λ (lands : LandsFrom b m (Lands id n run)).
        let mirror : n ≡ m = let e = lands.is in cc in
        let its : run ≡ lands.run = let e = lands.is in cc in
        inl (record {
          id = id;
          run = run;
          now = now;
          is = cc;
          inside = ap (is_in b) its ∙ lands.inside;
        }))
        (λ (was : WasFrom len b m (Lands id n run) own).
        inr (was.0, λ id' mirror run' now' e. let its : run ≡ run' = cc in ap (is_in b) (sym its) ∙ was.1))
        (source_step total len own (Lands id n run) b m legal is)
    lands_with other id n run now false same legal is =
        inr (
          is,
          λ id' mirror run' now' e.
              let its : other ≡ gid = cc in
              true_not_false (is_same_gid gid other)
              (subst (λ (g : Gid). is_same_gid gid g ≡ true) (sym its) (eq-eqb gid.0 gid.0 refl)) same,
        )

    pub event_source : (e : Event) → LegalOwn total len (own_of start (e ∷ past) gid)
        → IsFrom (own_of start (e ∷ past) gid) → LandsBlock gid b m e ⊎ WasSo e
    event_source (Called session asked now) legal is =
        inr (
          halted_from (halts_by start past (Called session asked now) asked gid) own legal is,
          λ id mirror run at e. absurd cc,
        )
    event_source (Opened other verified blocks now) legal is =
        inr (quiet_with gid other (Opens verified blocks now) own refl legal is, λ id mirror run at e. absurd cc)
    event_source (Sized other id told) legal is =
        inr (quiet_with gid other (Sizes id told) own refl legal is, λ i mirror run at e. absurd cc)
    event_source (Claimed other claim) legal is =
        inr (quiet_with gid other (Grants claim) own refl legal is, λ id mirror run at e. absurd cc)
    event_source (Landed other id n run now) legal is =
        lands_with other id n run now (is_same_gid gid other) refl legal is
    event_source (Settled other piece right giver) legal is =
        inr (quiet_with gid other (Settles piece right giver) own refl legal is, λ id mirror run at e. absurd cc)
    event_source (Cleared other piece) legal is =
        inr (quiet_with gid other (Clears piece) own refl legal is, λ id mirror run at e. absurd cc)
    event_source (Lost other id n piece mark) legal is =
        inr (quiet_with gid other (Loses id n piece mark) own refl legal is, λ i mirror run at e. absurd cc)
    event_source (Checked other right) legal is =
        inr (quiet_with gid other (Checks right) own refl legal is, λ id mirror run at e. absurd cc)
    event_source (Saved other now) legal is =
        inr (quiet_with gid other (Saves now) own refl legal is, λ id mirror run at e. absurd cc)
    event_source (Ended other how) legal is =
        inr (quiet_with gid other (Halts true) own refl legal is, λ id mirror run at e. absurd cc)
    event_source Left legal is = inr (is, λ id mirror run at e. absurd cc)
    event_source Stopped legal is =
        inr (quiet_step (Halts false) own refl legal is, λ id mirror run at e. absurd cc)

-- ---- events in order

-- one of them lands the block for the download, by the mirror
pub record LandsAmong (gid : Gid) (b m : ℕ) (events : List Event) : Type 0 where
  pub id : ℕ
  pub run : Run
  pub now : Moment
  pub there : Contains events (Landed gid id m run now)
  pub inside : is_in b run ≡ true

-- .. or none does
abbrev pub NoneLands : Gid → ℕ → List Event → Type 0
NoneLands gid b events =
    (id mirror : ℕ) (run : Run) (now : Moment) → Contains events (Landed gid id mirror run now) → is_in b run ≡ false

module _ (start : RunStart) (gid : Gid) (total len b m : ℕ) where
  -- it was from the mirror before them, and none lands it
  abbrev pub WasUntouched : List Event → List Event → Type 0
  WasUntouched past events = (source_in len (own_of start past gid) b ≡ From m) × NoneLands gid b events

  pub source_among : (events past : List Event) → LegalOwn total len (own_of start (history_after past events) gid)
      → source_in len (own_of start (history_after past events) gid) b ≡ From m
      → LandsAmong gid b m events ⊎ WasUntouched past events
  source_among [] past legal is =
      inr (is, λ id mirror run now there. absurd (let within = there.1 in omega (arith, within)))
  source_among (e ∷ events) past legal is = ⊎_elim
      (λ (lands : LandsAmong gid b m events). inl (record {
        id = lands.id;
        run = lands.run;
        now = lands.now;
        there = (suc lands.there.0, (let within = lands.there.1 in omega (arith, within)), lands.there.2);
        inside = lands.inside;
      }))
      (λ (was : WasUntouched (e ∷ past) events).
      ⊎_elim
      (λ (lands : LandsBlock gid b m e). inl (record {
        id = lands.id;
        run = lands.run;
        now = lands.now;
        there = subst (λ (x : Event). Contains (e ∷ events) x) lands.is (0, omega arith, refl);
        inside = lands.inside;
      }))
      (λ (so : WasSo total len b m start past gid e).
      inr (
        so.0,
        λ id mirror run now there. ⊎_elim
            (λ (here : e ≡ Landed gid id mirror run now). so.1 id mirror run now here)
            (λ (later : Contains events (Landed gid id mirror run now)). was.1 id mirror run now later)
            (one_of e (Landed gid id mirror run now) events there),
      ))
      (event_source total len b m start past gid e (legal_before start events (e ∷ past) gid total len legal) was.0))
      (source_among events (e ∷ past) legal is)
