-- What a delivery leaves of the claim that it is of.
use Rattle.std.proofs.Common.{◌≡◌, ◌≢◌, ◌⊎◌, inl, inr, ◌≤◌, ◌∷◌, ◌++◌, ℕ, Bool, true, false, List, [], length, refl, sym, ap, subst, ◌∙◌, ⊎_elim, arith}
use Rattle.std.specs.Prelude.{◌&&◌, ◌||◌, not, Any}
use Rattle.std.specs.List.{list_any}
use Rattle.std.proofs.lemmas.List.Folds.{Any-from_list_any}
use Rattle.dl_kinds.specs.declared.claims.Claim.{Claim}
use Rattle.dl_kinds.specs.declared.gid.Gid.{Gid}
use Rattle.dl_kinds.specs.declared.runs.Run.{Run}
use Rattle.piece_table.specs.Changes.{is_in}
use Rattle.piece_table.specs.NewRuns.{IsIn}
use Rattle.dl_history.specs.OwnEvents.{OwnEvent, Halts, Lands}
use Rattle.dl_history.specs.StandingClaims.{grants_claim, is_open_since, lands_block, since}
use Rattle.dl_history.proofs.Bools.{no_more, not_true, true_not_false}
use Rattle.dl_history.proofs.Ends.{open_before}
use Rattle.dl_history.proofs.Members.{Has, has_any, has_from}
use Rattle.machine_core.proofs.Tests.{before_end, from_first, is_inside}
use Rattle.machine_core.specs.OwnParts.{own_of}
use Rattle.machine_core.specs.Starts.{RunStart}
use Rattle.machine_core.specs.declared.ends.End.TheVariants as end
use Rattle.machine_core.specs.declared.events.Event.{Event}
use Rattle.machine_core.specs.declared.events.Event.TheVariants.{Ended, Landed}
use Rattle.engine_turns.specs.Phases.{AfterDisk, LandingsPhase, TurnStart}
use Rattle.engine_turns.specs.Told.{history_after}
use Rattle.engine_turns.specs.declared.outcome.Outcome.{Outcome}
use Rattle.engine_turns.specs.declared.outcome.Outcome.TheVariants.{Went, Over, Starved}
use Rattle.worker_turns.proofs.PlainPhases.{plain_fault}
use Rattle.worker_turns.proofs.Standing.{EachEvent, NothingStands, OnlyStands, Unclaiming, each_unclaiming, nothing_behind, only_since, own_lost}

-- ---- runs

pub any_in : (b : ℕ) (runs : List Run) (r : Run) → Has runs r → is_in b r ≡ true → Any (IsIn b) runs
any_in b runs r there inside =
    let any = Any-from_list_any (is_in b) runs (has_any (is_in b) runs r there inside) in
    (any.0, any.1, any.2, any.3, record { from = from_first b any.1 any.4; before = before_end b any.1 any.4 })

pub has_in : (b : ℕ) (runs : List Run) → Any (IsIn b) runs → (r : Run) × Has runs r × (is_in b r ≡ true)
has_in b runs any =
    (any.1, has_from runs any.1 any.0 any.2 any.3, is_inside b any.1 any.4.from any.4.before)

-- ---- one landing

landed_shut : (own : List OwnEvent) (id mirror : ℕ) (r : Run) (c : Claim) (b : ℕ) → is_in b r ≡ true
    → is_open_since (Lands id mirror r ∷ own) c b ≡ false
landed_shut own id mirror r c b inside =
    ap (λ (t : Bool). is_in b c.run && not (t || list_any (lands_block b) (since (grants_claim c.id) own))) inside
    ∙ no_more (is_in b c.run)

landed_keeps : (own : List OwnEvent) (id mirror : ℕ) (r : Run) (c : Claim) (b : ℕ) → is_in b r ≡ false
    → is_open_since (Lands id mirror r ∷ own) c b ≡ is_open_since own c b
landed_keeps own id mirror r c b outside =
    ap (λ (t : Bool). is_in b c.run && not (t || list_any (lands_block b) (since (grants_claim c.id) own))) outside

still_shut : (own : List OwnEvent) (id mirror : ℕ) (r : Run) (c : Claim) (b : ℕ) → is_open_since own c b ≡ false
    → is_open_since (Lands id mirror r ∷ own) c b ≡ false
still_shut own id mirror r c b shut =
    not_true (is_open_since (Lands id mirror r ∷ own) c b)
    (λ opened. true_not_false (is_open_since own c b) (open_before own id mirror r c b opened) shut)

-- ---- landings

-- the disk was called, and nothing came of the first run; or it landed, and the others come
landing_step : (at : TurnStart) (gid : Gid) (claim mirror : ℕ) (r : Run) (runs : List Run) (past events : List Event)
    (outcome : Outcome) → LandingsPhase at gid claim mirror (r ∷ runs) past events outcome
    → ((outcome ≢ Went) × AfterDisk at gid (Landed gid claim mirror r at.now ∷ []) past events outcome)
    ⊎ ((rest : List Event) × (events ≡ Landed gid claim mirror r at.now ∷ rest)
    × LandingsPhase at gid claim mirror runs (Landed gid claim mirror r at.now ∷ past) rest outcome)
landing_step at gid claim mirror r runs past events outcome came =
    ⊎_elim (λ broken. inl (broken.1, broken.0))
    (λ whole. inr (
      whole.rest,
      whole.cut ∙ ap (λ (front : List Event). front ++ whole.rest) whole.first,
      subst (λ (front : List Event). LandingsPhase at gid claim mirror runs (history_after past front) whole.rest
          outcome)
          whole.first whole.second,
    )) came

-- the first run lands, or the disk fails
pub landings_some : (at : TurnStart) (gid : Gid) (claim mirror : ℕ) (r : Run) (runs : List Run) (past events : List
    Event)
    (outcome : Outcome) → outcome ≢ Starved → LandingsPhase at gid claim mirror (r ∷ runs) past events outcome
    → 1 ≤ length events
landings_some at gid claim mirror r runs past events outcome fed came =
    ⊎_elim (λ broken. fault_some outcome fed broken.0 broken.1)
    (λ landed. let n : length events ≡ length (Landed gid claim mirror r at.now ∷ landed.0) = ap length landed.1 in
    omega (arith, n)) (landing_step at gid claim mirror r runs past events outcome came)
  where
    fault_some : (o : Outcome) → o ≢ Starved → o ≢ Went
        → AfterDisk at gid (Landed gid claim mirror r at.now ∷ []) past events o → 1 ≤ length events
    fault_some Went full broken is = absurd (broken refl)
    fault_some Over full broken is = (let n : length events ≡ 1 = ap length is.2 in omega (arith, n))
    fault_some Starved full broken is = absurd (full refl)

landing_unclaiming : (at : TurnStart) (gid : Gid) (claim mirror : ℕ) (r : Run) (past events : List Event) (outcome :
    Outcome)
    → AfterDisk at gid (Landed gid claim mirror r at.now ∷ []) past events outcome → EachEvent Unclaiming events
landing_unclaiming at gid claim mirror r past events Went is =
    subst (λ (es : List Event). EachEvent Unclaiming es) (sym is) (refl, tt)
landing_unclaiming at gid claim mirror r past events Over is = each_unclaiming events (plain_fault at gid events is)
landing_unclaiming at gid claim mirror r past events Starved is =
    subst (λ (es : List Event). EachEvent Unclaiming es) (sym is) tt

landings_end : (past events : List Event) (outcome : Outcome) → (outcome ≡ Went) × (events ≡ []) → EachEvent Unclaiming
    events
landings_end past events outcome is = subst (λ (es : List Event). EachEvent Unclaiming es) (sym is.1) tt

none_left : (at : TurnStart) (gid : Gid) (claim mirror : ℕ) (past events : List Event) (outcome : Outcome)
    → LandingsPhase at gid claim mirror [] past events outcome → (outcome ≡ Went) × (events ≡ [])
none_left at gid claim mirror past events Went is = (refl, is)
none_left at gid claim mirror past events Over is = absurd is
none_left at gid claim mirror past events Starved is = absurd is

pub landings_unclaiming : (at : TurnStart) (gid : Gid) (claim mirror : ℕ) (runs : List Run) (past events : List Event)
    (outcome : Outcome) → LandingsPhase at gid claim mirror runs past events outcome → EachEvent Unclaiming events
landings_unclaiming at gid claim mirror [] past events outcome came =
    landings_end past events outcome (none_left at gid claim mirror past events outcome came)
landings_unclaiming at gid claim mirror (r ∷ runs) past events outcome came =
    ⊎_elim (λ broken. landing_unclaiming at gid claim mirror r past events outcome broken.1)
    (λ landed. subst (λ (es : List Event). EachEvent Unclaiming es) (sym landed.1) (
      refl,
      landings_unclaiming at gid claim mirror runs (Landed gid claim mirror r at.now ∷ past) landed.0 outcome
          landed.2,
    )) (landing_step at gid claim mirror r runs past events outcome came)

-- ---- the claim of the landings

module _ (at : TurnStart) (start : RunStart) (gid : Gid) (claim : Claim) where
  abbrev pub open_at : List Event → ℕ → Bool
  open_at past b = is_open_since (own_of start past gid) claim b

  abbrev Lands_all : List Run → List Event → List Event → Outcome → Type 0
  Lands_all runs past events outcome = LandingsPhase at gid claim.id claim.mirror runs past events outcome

  abbrev landing_of : Run → Event
  landing_of r = Landed gid claim.id claim.mirror r at.now

  own_landed : (past : List Event) (r : Run)
      → own_of start (landing_of r ∷ past) gid ≡ Lands claim.id claim.mirror r ∷ own_of start past gid
  own_landed past r = own_lost start past gid (landing_of r) (Lands claim.id claim.mirror r) refl

  stepped : (P : List Event → Type 0) (r : Run) (runs : List Run) (past events : List Event)
      → ((rest : List Event) → Lands_all runs (landing_of r ∷ past) rest Went → P (landing_of r ∷ rest))
      → ((Went ≢ Went) × AfterDisk at gid (landing_of r ∷ []) past events Went)
      ⊎ ((rest : List Event) × (events ≡ landing_of r ∷ rest) × Lands_all runs (landing_of r ∷ past) rest Went)
      → P events
  stepped P r runs past events then (inl broken) = absurd (broken.0 refl)
  stepped P r runs past events then (inr landed) = subst P (sym landed.1) (then landed.0 landed.2)

  -- what holds where the first run landed, and then the others
  by_step : (P : List Event → Type 0) (r : Run) (runs : List Run) (past events : List Event)
      → ((rest : List Event) → Lands_all runs (landing_of r ∷ past) rest Went → P (landing_of r ∷ rest))
      → Lands_all (r ∷ runs) past events Went → P events
  by_step P r runs past events then came =
      stepped P r runs past events then (landing_step at gid claim.id claim.mirror r runs past events Went came)

  open_now : (past : List Event) (r : Run) (b : ℕ)
      → open_at (landing_of r ∷ past) b
      ≡ is_open_since (Lands claim.id claim.mirror r ∷ own_of start past gid) claim b
  open_now past r b = ap (λ (own : List OwnEvent). is_open_since own claim b) (own_landed past r)

  -- a block that isn't open is so still
  pub shut_on : (runs : List Run) (past events : List Event) (b : ℕ) → Lands_all runs past events Went
      → open_at past b ≡ false → open_at (history_after past events) b ≡ false
  shut_on [] past events b came shut =
      subst (λ (es : List Event). open_at (history_after past es) b ≡ false)
      (sym (none_left at gid claim.id claim.mirror past events Went came).1) shut
  shut_on (r ∷ runs) past events b came shut =
      by_step (λ es. open_at (history_after past es) b ≡ false) r runs past events
      (λ rest landed. shut_on runs (landing_of r ∷ past) rest b landed
      (open_now past r b ∙ still_shut (own_of start past gid) claim.id claim.mirror r claim b shut)) came

  -- a block of the runs isn't open any more
  pub shut_by : (runs : List Run) (past events : List Event) (b : ℕ) (x : Run) → Lands_all runs past events Went
      → Has runs x → is_in b x ≡ true → open_at (history_after past events) b ≡ false
  shut_by [] past events b x came there inside = absurd there
  shut_by (r ∷ runs) past events b x came (inl same) inside =
      by_step (λ es. open_at (history_after past es) b ≡ false) r runs past events
      (λ rest landed. shut_on runs (landing_of r ∷ past) rest b landed
      (open_now past r b ∙ landed_shut (own_of start past gid) claim.id claim.mirror r claim b
      (subst (λ (y : Run). is_in b y ≡ true) (sym same) inside))) came
  shut_by (r ∷ runs) past events b x came (inr later) inside =
      by_step (λ es. open_at (history_after past es) b ≡ false) r runs past events
      (λ rest landed. shut_by runs (landing_of r ∷ past) rest b x landed later inside) came

  -- .. and another is as it was
  pub kept_by : (runs : List Run) (past events : List Event) (b : ℕ) → Lands_all runs past events Went
      → ((x : Run) → Has runs x → is_in b x ≡ false) → open_at (history_after past events) b ≡ open_at past b
  kept_by [] past events b came outside =
      ap (λ (es : List Event). open_at (history_after past es) b)
      (none_left at gid claim.id claim.mirror past events Went came).1
  kept_by (r ∷ runs) past events b came outside =
      by_step (λ es. open_at (history_after past es) b ≡ open_at past b) r runs past events
      (λ rest landed. kept_by runs (landing_of r ∷ past) rest b landed (λ x there. outside x (inr there))
      ∙ (open_now past r b
      ∙ landed_keeps (own_of start past gid) claim.id claim.mirror r claim b (outside r (inl refl)))) came

  -- where the disk fails no claim stands any more
  pub nothing_over : (runs : List Run) (past events : List Event) → Lands_all runs past events Over
      → OnlyStands start past gid claim → NothingStands start (history_after past events)
  nothing_over [] past events came only =
      absurd (let no_way = (none_left at gid claim.id claim.mirror past events Over came).0 in cc)
  nothing_over (r ∷ runs) past events came only =
      ⊎_elim
      (λ broken. subst (λ (es : List Event). NothingStands start (history_after past es)) (sym broken.1.2)
      (nothing_behind start past gid claim (Ended gid (end.Disk broken.1.0)) (Halts true) only refl refl
      (own_lost start past gid (Ended gid (end.Disk broken.1.0)) (Halts true) refl) refl))
      (λ landed. subst (λ (es : List Event). NothingStands start (history_after past es)) (sym landed.1)
      (nothing_over runs (landing_of r ∷ past) landed.0 landed.2
      (only_since start past gid claim (landing_of r ∷ []) (refl, tt) only)))
      (landing_step at gid claim.id claim.mirror r runs past events Over came)
