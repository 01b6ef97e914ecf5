-- The claim that a worker has in hand is the only one that stands, and of its blocks just those are open that weren't
-- delivered.
use Rattle.std.proofs.Common.{◌≡◌, ◌≢◌, ◌⊎◌, inl, inr, ◌≤◌, ◌<◌, ◌+◌, ◌-◌, ◌∷◌, ℕ, Bool, true, false, List, [], length, Option, Some, refl, sym, ap, subst, ◌∙◌, ⊎_elim, arith, length-append}
use Rattle.std.proofs.lemmas.Bool.{cases_lt}
use Rattle.dl_kinds.specs.Plan.{block_end, block_start}
use Rattle.dl_kinds.specs.declared.claims.Claim.{Claim}
use Rattle.dl_kinds.specs.declared.gid.Gid.{Gid}
use Rattle.dl_kinds.specs.declared.runs.Run.{Run}
use Rattle.piece_table.specs.Changes.{is_in}
use Rattle.dl_history.specs.StandingClaims.{granted_claims, is_open_since, is_probe, is_standing, standing_claims}
use Rattle.dl_history.proofs.Bools.{and_left, not_true, true_not_false}
use Rattle.dl_history.proofs.Members.{Has, has_all, has_filter}
use Rattle.dl_history.proofs.Sole.{open_block}
use Rattle.dl_history.proofs.Sound.{has_of}
use Rattle.machine_core.proofs.Tests.{before_end}
use Rattle.machine_core.specs.Claiming.{AreOpenIn}
use Rattle.machine_core.specs.OwnParts.{PayloadLengths, no_lengths, own_of, payload_lengths_of}
use Rattle.machine_core.specs.RunLegal.{IsLegal, LengthsStay, is_listed, known_lengths}
use Rattle.machine_core.specs.Starts.{Download, RunStart}
use Rattle.machine_core.specs.declared.events.Event.{Event}
use Rattle.std.specs.Option.{unwrap_or}
use Rattle.engine_turns.specs.ClaimRows.{DueSavePhase, IsDelivery, filled_phase}
use Rattle.engine_turns.specs.Phases.{AndThen, EndingOr, LandingsPhase, TurnStart}
use Rattle.engine_turns.specs.Standings.{HasNoHome, IsHomeOf}
use Rattle.engine_turns.specs.Told.{history_after}
use Rattle.engine_turns.specs.declared.outcome.Outcome.{Outcome}
use Rattle.engine_turns.specs.declared.outcome.Outcome.TheVariants.{Went, Over, Starved}
use Rattle.conn_worker.specs.Facts.{IsReady}
use Rattle.conn_worker.specs.Hands.{Fetching, Probing, delivered}
use Rattle.offered_work.proofs.Histories.{history_append, legal_before}
use Rattle.worker_turns.proofs.Landings.{any_in, has_in, kept_by, landings_some, landings_unclaiming, nothing_over, shut_by, shut_on}
use Rattle.worker_turns.proofs.PlainPhases.{plain_due_save, plain_ending, plain_filled, plain_then}
use Rattle.worker_turns.proofs.Standing.{EachEvent, NothingStands, OnlyStands, Plain, each_unclaiming, only_since, opened_since}

-- ---- what stands

-- The fetch in hand is of this claim, the only one that stands, whose open blocks are those that weren't delivered.
pub record IsFetchOf (start : RunStart) (past : List Event) (f : Fetching) (gid : Gid) (claim : Claim) : Type 0 where
  pub only : OnlyStands start past gid claim
  pub id_is : claim.id ≡ f.claim
  pub real : is_probe claim ≡ false
  pub first : claim.run.first ≤ f.rest.first
  pub last : claim.run.first + claim.run.count ≡ f.rest.first + f.rest.count
  pub opens : (b : ℕ) → f.rest.first ≤ b → b < f.rest.first + f.rest.count
      → is_open_since (own_of start past gid) claim b ≡ true
  pub shut : (b : ℕ) → b < f.rest.first → is_open_since (own_of start past gid) claim b ≡ false
  pub lengths : PayloadLengths
  pub known : payload_lengths_of start past gid ≡ Some lengths
  pub total : f.job.plan.total ≡ lengths.total
  pub piece_len : f.job.plan.piece_len ≡ lengths.piece_len

pub record FetchStands (start : RunStart) (past : List Event) (f : Fetching) : Type 0 where
  pub gid : Gid
  pub claim : Claim
  pub is : IsFetchOf start past f gid claim

-- the probe in hand is of the only claim that stands
pub record ProbeStands (start : RunStart) (past : List Event) (p : Probing) : Type 0 where
  pub gid : Gid
  pub claim : Claim
  pub only : OnlyStands start past gid claim
  pub id_is : claim.id ≡ p.claim
  pub probe : is_probe claim ≡ true

-- ---- histories

lengths_since : LengthsStay → (start : RunStart) (past : List Event) (es : List Event) (gid : Gid) (l : PayloadLengths)
    → IsLegal start (history_after past es) → payload_lengths_of start past gid ≡ Some l
    → payload_lengths_of start (history_after past es) gid ≡ Some l
lengths_since stay start past [] gid l legal known = known
lengths_since stay start past (e ∷ es) gid l legal known =
    lengths_since stay start (e ∷ past) es gid l legal
    (stay start past e gid l (legal_before start (e ∷ past) es legal) known)

pub known_are : (start : RunStart) (past : List Event) (gid : Gid) (l : PayloadLengths)
    → payload_lengths_of start past gid ≡ Some l → known_lengths start past gid ≡ l
known_are start past gid l known = ap (λ (o : Option PayloadLengths). unwrap_or o no_lengths) known

-- no claim is known by the number, and so none stands
pub nothing_home : (start : RunStart) (past : List Event) (gid : Gid) (claim : Claim) (id : ℕ) → claim.id ≡ id
    → OnlyStands start past gid claim → HasNoHome start past id → NothingStands start past
nothing_home start past gid claim id is only none = λ g c h.
    has_all (λ (x : Claim). x.id ≢ id) (standing_claims (own_of start past g)) c (none g) h
    (ap (λ (x : Claim). x.id) (only g c h).1 ∙ is)

-- where something stands under the number it is that claim
pub home_is : (start : RunStart) (past : List Event) (gid : Gid) (claim : Claim) (id : ℕ) (download : Download)
    (other : Claim) → OnlyStands start past gid claim → IsHomeOf start past id download other
    → (download.gid ≡ gid) × (other ≡ claim)
home_is start past gid claim id download other only home =
    only download.gid other (has_of (standing_claims (own_of start past download.gid)) other home.stands)

pub no_home : (start : RunStart) (past : List Event) (id : ℕ) (download : Download) (other : Claim)
    → NothingStands start past → IsHomeOf start past id download other → ⊥
no_home start past id download other nothing home =
    nothing download.gid other (has_of (standing_claims (own_of start past download.gid)) other home.stands)

-- .. it is the claim in hand
pub at_home : (start : RunStart) (past : List Event) (f : Fetching) (gid : Gid) (claim : Claim) (download : Download)
    (other : Claim) → IsFetchOf start past f gid claim → IsHomeOf start past f.claim download other
    → IsFetchOf start past f download.gid other
at_home start past f gid claim download other is home =
    let same = home_is start past gid claim f.claim download other is.only home in
    subst (λ (c : Claim). IsFetchOf start past f download.gid c) (sym same.1)
    (subst (λ (g : Gid). IsFetchOf start past f g claim) (sym same.0) is)

-- ---- a delivery

-- a claim all of whose blocks were delivered stands no more
pub all_delivered : (start : RunStart) (past : List Event) (f : Fetching) (gid : Gid) (claim : Claim)
    → IsFetchOf start past f gid claim → f.rest.count ≡ 0 → NothingStands start past
all_delivered start past f gid claim fs none = λ g c h.
    let is = fs.only g c h in
    let own = own_of start past gid in
    let there : Has (standing_claims own) claim =
    subst (λ (x : Claim). Has (standing_claims own) x) is.1
    (subst (λ (o : Gid). Has (standing_claims (own_of start past o)) c) is.0 h) in
    let stands = (has_filter (is_standing own) (granted_claims own) claim there).1 in
    let o = open_block own claim fs.real stands in
    let inside = before_end o.0 claim.run (and_left (is_in o.0 claim.run) _ o.1) in
    let last = fs.last in
    true_not_false (is_open_since own claim o.0) o.1 (fs.shut o.0 (omega (arith, inside, last, none)))

module _ (at : TurnStart) (start : RunStart) (past : List Event) (f : Fetching) (run : Run) (bytes : List ℕ)
    (last : Bool) (ready : IsReady f run bytes last) (gid : Gid) (claim : Claim) (fs : IsFetchOf start past f gid
    claim) where
  -- it is one of the claim's blocks
  pub is_delivery : IsDelivery (known_lengths start past gid) claim run bytes
  is_delivery =
      let first = ready.first in let within = ready.within in let from = fs.first in let to = fs.last in
      let P : ℕ → ℕ → Type 0 = λ total len.
      block_start len run.first + length bytes ≡ block_end total len (run.first + run.count - 1) in
      subst (λ (l : PayloadLengths). IsDelivery l claim run bytes) (sym (known_are start past gid fs.lengths fs.known))
      (record {
        some = ready.some;
        few = ready.few;
        first = omega (arith, first, from);
        last = omega (arith, first, within, to);
        len = subst (λ n. P fs.lengths.total n) fs.piece_len (subst (λ n. P n f.job.plan.piece_len) fs.total ready.len);
      })

  -- its first block is open, and so some run of it is
  first_run : (runs : List Run) → AreOpenIn (own_of start past gid) claim run runs → (r : Run) × Has runs r
  first_run runs those =
      let first = ready.first in let within = ready.within in let some = ready.some in
      let opened = fs.opens run.first (omega (arith, first)) (omega (arith, first, within, some)) in
      let any = (those.exact run.first).1 (record { from = omega arith; before = omega (arith, some) }, opened) in
      let has = has_in run.first runs any in (has.0, has.1)

  landings_come : (runs : List Run) (r : Run) (events : List Event) (outcome : Outcome) → Has runs r → outcome ≢ Starved
      → LandingsPhase at gid claim.id claim.mirror runs past events outcome → 1 ≤ length events
  landings_come [] r events outcome has fed came = absurd has
  landings_come (x ∷ runs) r events outcome has fed came =
      landings_some at gid claim.id claim.mirror x runs past events outcome fed came

  -- an event comes
  pub delivery_counts : (download : Download) → download.gid ≡ gid → (runs : List Run) (events : List Event)
      (outcome : Outcome) → outcome ≢ Starved → AreOpenIn (own_of start past gid) claim run runs
      → AndThen (LandingsPhase at gid claim.id claim.mirror runs)
      (AndThen (filled_phase at past download (is_listed download.subject))
      (EndingOr at download (DueSavePhase at download))) past events outcome
      → 1 ≤ length events
  delivery_counts download same runs events outcome fed those came =
      let r = first_run runs those in
      ⊎_elim (λ broken. landings_come runs r.0 events outcome r.1 fed broken.0)
      (λ whole. let some = landings_come runs r.0 whole.front Went r.1 (λ e. let no_way : Went ≡ Starved = e in cc)
      whole.first in
      let n : length events ≡ length whole.front + length whole.rest =
      ap length whole.cut ∙ length-append whole.front whole.rest in omega (arith, n, some)) came

  module _ (stay : LengthsStay) (runs : List Run) (those : AreOpenIn (own_of start past gid) claim run runs)
      (front rest : List Event) (landed : LandingsPhase at gid claim.id claim.mirror runs past front Went)
      (plain : EachEvent Plain rest) (legal : IsLegal start (history_after (history_after past front) rest)) where
    abbrev Now : List Event
    Now = history_after (history_after past front) rest

    now_as : (b : ℕ)
        → is_open_since (own_of start Now gid) claim b
        ≡ is_open_since (own_of start (history_after past front) gid) claim b
    now_as b = opened_since start (history_after past front) gid claim b rest plain

    outside : (b : ℕ) → run.first + run.count ≤ b → (x : Run) → Has runs x → is_in b x ≡ false
    outside b behind x there =
        not_true (is_in b x) (λ inside.
        let within = ((those.exact b).0 (any_in b runs x there inside)).0.before in omega (arith, within, behind))

    opens_now : (b : ℕ) → f.rest.first + run.count ≤ b → b < (f.rest.first + run.count) + (f.rest.count - run.count)
        → is_open_since (own_of start Now gid) claim b ≡ true
    opens_now b from before =
        let first = ready.first in let within = ready.within in
        now_as b ∙ (kept_by at start gid claim runs past front b landed (outside b (omega (arith, first, from)))
        ∙ fs.opens b (omega (arith, from)) (omega (arith, before, within)))

    shut_now : (b : ℕ) → b < f.rest.first + run.count → is_open_since (own_of start Now gid) claim b ≡ false
    shut_now b before =
        let first = ready.first in let within = ready.within in
        now_as b ∙ ⊎_elim
        (λ (earlier : b < f.rest.first). shut_on at start gid claim runs past front b landed (fs.shut b earlier))
        (λ (from : f.rest.first ≤ b).
        let opened = fs.opens b from (omega (arith, before, within)) in
        let any = (those.exact b).1 (
          record {
            from = omega (arith, first, from);
            before = omega (arith, first, before);
          },
          opened,
        ) in
        let has = has_in b runs any in shut_by at start gid claim runs past front b has.0 landed has.1 has.2)
        (cases_lt b f.rest.first)

    pub delivered_is : IsFetchOf start Now (delivered f run bytes) gid claim
    delivered_is =
        let first = fs.first in let last_is = fs.last in let within = ready.within in record {
          only = only_since start (history_after past front) gid claim rest (each_unclaiming rest plain)
              (only_since start past gid claim front
              (landings_unclaiming at gid claim.id claim.mirror runs past front Went landed) fs.only);
          id_is = fs.id_is;
          real = fs.real;
          first = omega (arith, first);
          last = omega (arith, last_is, within);
          opens = opens_now;
          shut = shut_now;
          lengths = fs.lengths;
          known = lengths_since stay start (history_after past front) rest gid fs.lengths legal
              (lengths_since stay start past front gid fs.lengths
              (legal_before start (history_after past front) rest legal) fs.known);
          total = fs.total;
          piece_len = fs.piece_len;
        }

  -- What stands behind a delivery: the claim with the blocks behind those, or nothing.
  pub delivery_leaves : LengthsStay → (download : Download) (runs : List Run) (events : List Event) (outcome : Outcome)
      → outcome ≢ Starved → AreOpenIn (own_of start past gid) claim run runs
      → AndThen (LandingsPhase at gid claim.id claim.mirror runs)
      (AndThen (filled_phase at past download (is_listed download.subject))
      (EndingOr at download (DueSavePhase at download))) past events outcome
      → IsLegal start (history_after past events)
      → NothingStands start (history_after past events)
      ⊎ IsFetchOf start (history_after past events) (delivered f run bytes) gid claim
  delivery_leaves stay download runs events outcome fed those came legal =
      ⊎_elim (λ broken. inl (broken_off outcome fed broken.1 broken.0))
      (λ whole.
      let cut = history_append past whole.front whole.rest in
      let is : history_after past events ≡ history_after (history_after past whole.front) whole.rest =
      ap (history_after past) whole.cut ∙ cut in
      inr (subst (λ (h : List Event). IsFetchOf start h (delivered f run bytes) gid claim) (sym is)
      (delivered_is stay runs those whole.front whole.rest whole.first
      (plain_then _ _ (plain_filled at past download (is_listed download.subject))
      (plain_ending at download _ (plain_due_save at download)) _ whole.rest outcome whole.second)
      (subst (λ (h : List Event). IsLegal start h) is legal)))) came
    where
      broken_off : (o : Outcome) → o ≢ Starved → o ≢ Went
          → LandingsPhase at gid claim.id claim.mirror runs past events o → NothingStands start (history_after past
          events)
      broken_off Went full broken is = absurd (broken refl)
      broken_off Over full broken is = nothing_over at start gid claim runs past events is fs.only
      broken_off Starved full broken is = absurd (full refl)
