-- Each turn keeps track of what stands.
use Rattle.std.proofs.Common.{◌≡◌, ◌≢◌, ◌⊎◌, inl, inr, ◌≤◌, ◌∷◌, ◌++◌, ℕ, zero, suc, Bool, true, false, List, [], Option, Some, None, refl, sym, ap, subst, ◌∙◌, ⊎_elim, arith, eq-eqb}
use Rattle.std.proofs.lemmas.Bool.{ne_eqb}
use Rattle.dl_kinds.specs.declared.claims.Claim.{Claim}
use Rattle.dl_kinds.specs.declared.gid.Gid.{Gid}
use Rattle.dl_kinds.specs.declared.marks.Mark.{Mark}
use Rattle.dl_kinds.specs.declared.runs.Moment.{Moment}
use Rattle.dl_kinds.specs.declared.runs.Run.{Run}
use Rattle.piece_table.specs.Changes.{is_in}
use Rattle.dl_history.specs.OwnEvents.{OwnEvent, Loses, Sizes}
use Rattle.dl_history.specs.StandingClaims.{ends_claim, is_probe}
use Rattle.dl_history.proofs.Bools.{not_true, true_not_false}
use Rattle.machine_core.proofs.Tests.{from_first, is_inside}
use Rattle.machine_core.specs.Offers.{IsOfferBy, no_blocks, offered_claim}
use Rattle.machine_core.specs.OwnParts.{PayloadLengths, own_of, payload_lengths_of}
use Rattle.machine_core.specs.RunLegal.{IsLegal, LengthsStay, is_listed}
use Rattle.machine_core.specs.Starts.{Download, RunStart}
use Rattle.machine_core.specs.declared.events.Event.{Event}
use Rattle.machine_core.specs.declared.events.Event.TheVariants.{Claimed, Lost, Sized}
use Rattle.machine_core.specs.declared.handed.Handed.{Handed}
use Rattle.machine_core.specs.declared.offers.Offer.{Offer}
use Rattle.machine_core.specs.declared.offers.Offer.TheVariants.{Whole, Blocks, Probe}
use Rattle.machine_core.specs.declared.offers.Offered.TheVariants as offered
use Rattle.engine_turns.specs.ClaimRows.{DeliverRow, LoseRow, MoreRow, SizedRow, allowance, lost_piece, more_said, turn_credit}
use Rattle.engine_turns.specs.NextRows.{IsFetchGrant, IsProbing, NextRow, OfferRow, OpenRow, offers_in, whole_row}
use Rattle.engine_turns.specs.Phases.{AndThen, JustEvent, Phase, TurnStart}
use Rattle.engine_turns.specs.RunTurns.{OperationRow}
use Rattle.engine_turns.specs.SealRows.{SealRow}
use Rattle.engine_turns.specs.Standings.{AnswersOnly, AnswersUnlessStarved, HasNoHome, IsHomeOf, OfClaim, RunStanding}
use Rattle.engine_turns.specs.Told.{history_after}
use Rattle.engine_turns.specs.declared.limits.TheConstants.{MAX_ALLOWANCE}
use Rattle.engine_turns.specs.declared.operations.Grant.TheVariants as grant
use Rattle.engine_turns.specs.declared.operations.Operation.{Operation}
use Rattle.engine_turns.specs.declared.operations.Operation.TheVariants as operation
use Rattle.engine_turns.specs.declared.operations.Said.{Said}
use Rattle.engine_turns.specs.declared.operations.Said.TheVariants as said
use Rattle.engine_turns.specs.declared.outcome.Outcome.{Outcome}
use Rattle.engine_turns.specs.declared.outcome.Outcome.TheVariants.{Went, Over, Starved}
use Rattle.verify_piece.specs.Seals.{PieceBytes}
use Rattle.conn_worker.specs.Facts.{IsFetchingAt, IsGain}
use Rattle.conn_worker.specs.Hands.{Fetching, Hand, Nothing, Fetches, Probes, Seals, LinkAt, Probing, allowing, begun_fetch, delivered}
use Rattle.conn_worker.specs.Table.{FollowsAnswer, FollowsFetch, FollowsKept, StepsOn, due_op, end_of_gain, end_of_hand, end_of_probe, fetch_op, goes_on_by, probe_op}
use Rattle.conn_worker.specs.declared.ends.WorkEnd.TheVariants as end
use Rattle.conn_worker.specs.declared.hands.Gain.{Gain}
use Rattle.conn_worker.specs.declared.hands.Gain.TheVariants.{Lost as LostGain, Open, Ready, Starved as StarvedGain}
use Rattle.conn_worker.specs.declared.hands.ProbeEnd.{ProbeEnd}
use Rattle.conn_worker.specs.declared.hands.ProbeEnd.TheVariants.{Told, Missed, Lacking}
use Rattle.worker_turns.proofs.Appending.{EndsBy, ends_starved}
use Rattle.worker_turns.proofs.Followed.{grant_followed}
use Rattle.worker_turns.proofs.Paying.{void_leaves}
use Rattle.worker_turns.proofs.PlainPhases.{plain_loss, plain_open_row, plain_seal, plain_telling, plain_whole}
use Rattle.worker_turns.proofs.Standing.{EachEvent, NothingStands, OnlyStands, Plain, each_unclaiming, is_grant, nothing_behind, nothing_since, only_claimed, open_claimed, own_lost}
use Rattle.worker_turns.proofs.Tracking.{FetchStands, IsFetchOf, ProbeStands, all_delivered, at_home, delivery_leaves, home_is, is_delivery, known_are, no_home, nothing_home}

-- ---- what is in hand

pub record FetchTracks (tells : Bool) (start : RunStart) (past : List Event) (f : Fetching) (link : LinkAt) : Type 0
  where
    pub stands : NothingStands start past ⊎ FetchStands start past f
    pub at : (f.gain ≡ Open → ⊥) → IsFetchingAt tells f link

abbrev pub Tracks : Bool → RunStart → List Event → Hand → LinkAt → Type 0
Tracks tells start past Nothing link = NothingStands start past
Tracks tells start past (Fetches f) link = FetchTracks tells start past f link
Tracks tells start past (Probes p) link = NothingStands start past ⊎ ProbeStands start past p
Tracks tells start past (Seals gid sealed) link = NothingStands start past

-- the same claim, of which other exchanges were used
same_fetch : (start : RunStart) (past : List Event) (f g : Fetching) (gid : Gid) (claim : Claim) → g.claim ≡ f.claim
    → g.rest ≡ f.rest → g.job ≡ f.job → IsFetchOf start past f gid claim → IsFetchOf start past g gid claim
same_fetch start past f g gid claim number rest job is =
    let first : g.rest.first ≡ f.rest.first = ap (λ (r : Run). r.first) rest in
    let count : g.rest.count ≡ f.rest.count = ap (λ (r : Run). r.count) rest in
    let from = is.first in let to = is.last in record {
      only = is.only;
      id_is = is.id_is ∙ sym number;
      real = is.real;
      first = omega (arith, first, from);
      last = omega (arith, first, count, to);
      opens = λ b low high. is.opens b (omega (arith, first, low)) (omega (arith, first, count, high));
      shut = λ b low. is.shut b (omega (arith, first, low));
      lengths = is.lengths;
      known = is.known;
      total = ap (λ j. j.plan.total) job ∙ is.total;
      piece_len = ap (λ j. j.plan.piece_len) job ∙ is.piece_len;
    }

steps_same : (tells : Bool) (start : RunStart) (past : List Event) (base : Fetching) (hand' : Hand) (link' : LinkAt)
    → NothingStands start past ⊎ FetchStands start past base → StepsOn tells base hand' link'
    → Tracks tells start past hand' link'
steps_same tells start past base hand' link' stands s =
    let g : Fetching = s.0 in
    let same = s.1.same in
    subst (λ (h : Hand). Tracks tells start past h link') (sym s.2) (record {
      stands = ⊎_elim (λ none. inl none)
          (λ (fs : FetchStands start past base). inr (record {
            gid = fs.gid;
            claim = fs.claim;
            is = same_fetch start past base g fs.gid fs.claim (ap (λ (x : Fetching). x.claim) same)
                (ap (λ (x : Fetching). x.rest) same) (ap (λ (x : Fetching). x.job) same) fs.is;
          })) stands;
      at = λ opened. s.1.at;
    })

-- ---- answers

pub unless_starved : (usual answer : Said) (outcome : Outcome) → (EndsBy answer → ⊥)
    → AnswersUnlessStarved usual outcome answer → (outcome ≢ Starved) × (answer ≡ usual)
unless_starved usual answer Went goes is = ((λ e. let no_way : Went ≡ Starved = e in cc), is)
unless_starved usual answer Over goes is = ((λ e. let no_way : Over ≡ Starved = e in cc), is)
unless_starved usual answer Starved goes is = absurd (goes (ends_starved answer is))

done_fetch : (tells : Bool) (f : Fetching) (gain : Gain) (link : LinkAt) (hand' : Hand) (link' : LinkAt)
    → FollowsFetch tells f gain said.Done link hand' link' → hand' ≡ Nothing
done_fetch tells f (Ready run bytes last) link hand' link' is = is.0
done_fetch tells f (LostGain loss mark) link hand' link' is = is.0
done_fetch tells f Open link hand' link' is = is.0
done_fetch tells f StarvedGain link hand' link' is = is.0

done_leaves : (tells : Bool) (hand : Hand) (link : LinkAt) (hand' : Hand) (link' : LinkAt)
    → FollowsAnswer tells hand said.Done link hand' link' → hand' ≡ Nothing
done_leaves tells Nothing link hand' link' is = is.0
done_leaves tells (Fetches f) link hand' link' is = done_fetch tells f f.gain link hand' link' is
done_leaves tells (Probes p) link hand' link' is = is.0
done_leaves tells (Seals gid sealed) link hand' link' is = is.0

-- ---- the end of a claim

begins_so : (e : Event) (past events : List Event) (outcome : Outcome) → JustEvent e past events outcome
    → (outcome ≡ Went) × (events ≡ e ∷ [])
begins_so e past events Went is = (refl, is)
begins_so e past events Over is = absurd is
begins_so e past events Starved is = absurd is

begins_cut : (e : Event) (Q : Phase) (past events : List Event) (outcome : Outcome)
    → AndThen (JustEvent e) Q past events outcome → (rest : List Event) × (events ≡ e ∷ rest)
begins_cut e Q past events outcome came =
    ⊎_elim (λ broken. absurd (broken.1 (begins_so e past events outcome broken.0).0))
    (λ whole. (whole.rest, whole.cut ∙ ap (λ (front : List Event). front ++ whole.rest) whole.first)) came

-- behind an event that ends the only claim nothing stands
ended_by : (start : RunStart) (past : List Event) (gid : Gid) (claim : Claim) (e : Event) (x : OwnEvent)
    (events rest : List Event) → events ≡ e ∷ rest → EachEvent Plain events → OnlyStands start past gid claim
    → is_grant x ≡ false → own_of start (e ∷ past) gid ≡ x ∷ own_of start past gid → ends_claim claim.id x ≡ true
    → NothingStands start (history_after past events)
ended_by start past gid claim e x events rest is plain only grants own ends =
    let both = subst (λ (es : List Event). EachEvent Plain es) is plain in
    subst (λ (es : List Event). NothingStands start (history_after past es)) (sym is)
    (nothing_since start (e ∷ past) rest (each_unclaiming rest both.1)
    (nothing_behind start past gid claim e x only both.0.0 grants own ends))

-- ---- a turn

module _ (tells : Bool) (at : TurnStart) (s : RunStanding) (answer : Said) (events : List Event) (hand' : Hand)
    (link' : LinkAt) (goes : EndsBy answer → ⊥) (legal : IsLegal at.start (history_after s.past events)) where
  abbrev After : Type 0
  After = Tracks tells at.start (history_after s.past events) hand' link'

  to_nothing : hand' ≡ Nothing → NothingStands at.start (history_after s.past events) → After
  to_nothing left none = subst (λ (h : Hand). Tracks tells at.start (history_after s.past events) h link') (sym left)
      none

  same_past : events ≡ [] → (P : List Event → Type 0) → P s.past → P (history_after s.past events)
  same_past none P holds = subst (λ (es : List Event). P (history_after s.past es)) (sym none) holds

  module _ (hand : Hand) (link : LinkAt) (follows : FollowsAnswer tells hand answer link hand' link') where
    follows_as : (given : Said) → answer ≡ given → FollowsAnswer tells hand given link hand' link'
    follows_as given is = subst (λ (a : Said). FollowsAnswer tells hand a link hand' link') is follows

    by_done : answer ≡ said.Done → NothingStands at.start (history_after s.past events) → After
    by_done is none = to_nothing (done_leaves tells hand link hand' link' (follows_as said.Done is)) none

    by_void : answer ≡ said.Void → events ≡ [] → NothingStands at.start s.past → After
    by_void is no_events none = to_nothing (void_leaves tells hand link hand' link' (follows_as said.Void is))
        (same_past no_events (λ h. NothingStands at.start h) none)

    -- a claim of which nothing is known any more
    by_no_home : (id : ℕ) (gid : Gid) (claim : Claim) → claim.id ≡ id → OnlyStands at.start s.past gid claim
        → HasNoHome at.start s.past id → AnswersOnly said.Void events answer → After
    by_no_home id gid claim is only none only_void =
        by_void only_void.1 only_void.0 (nothing_home at.start s.past gid claim id is only none)

  -- ---- work is asked for

  blocks_known : (handed : List Handed) (download : Download) (gid : Gid) (o : Option PayloadLengths) (now : ℕ)
      (mirror : ℕ) (run : Run) (victim : Option ℕ) → payload_lengths_of at.start s.past gid ≡ o
      → IsOfferBy handed at.start s.past download o now (Blocks mirror run victim)
      → (l : PayloadLengths) × (payload_lengths_of at.start s.past gid ≡ Some l)
  blocks_known handed download gid None now mirror run victim is offer = absurd offer
  blocks_known handed download gid (Some l) now mirror run victim is offer = (l, is)

  module _ (stay : LengthsStay) (worker : ℕ) (download : Download) (nothing : NothingStands at.start s.past) where
    claimed_legal : (claim : Claim) → events ≡ Claimed download.gid claim ∷ []
        → IsLegal at.start (Claimed download.gid claim ∷ s.past)
    claimed_legal claim is = subst (λ (es : List Event). IsLegal at.start (history_after s.past es)) is legal

    claimed_only : (claim : Claim) → events ≡ Claimed download.gid claim ∷ []
        → OnlyStands at.start (Claimed download.gid claim ∷ s.past) download.gid claim
    claimed_only claim is =
        only_claimed at.start s.past download.gid claim (claimed_legal claim is).1.fresh nothing

    -- the claim of a fetch that is granted
    granted_is : (mirror : ℕ) (run : Run) (victim : Option ℕ) (link : LinkAt)
        (row : IsFetchGrant at s worker download mirror run victim events answer) (l : PayloadLengths)
        → payload_lengths_of at.start s.past download.gid ≡ Some l
        → IsFetchOf at.start
        (Claimed download.gid (offered_claim mirror run victim row.grant.claim worker at.now.0) ∷ s.past)
        (begun_fetch row.grant link) download.gid (offered_claim mirror run victim row.grant.claim worker at.now.0)
    granted_is mirror run victim link row l known =
        let claim = offered_claim mirror run victim row.grant.claim worker at.now.0 in
        let event = Claimed download.gid claim in
        let first : row.grant.job.run.first ≡ run.first = ap (λ (r : Run). r.first) row.job_is.run_is in
        let count : row.grant.job.run.count ≡ run.count = ap (λ (r : Run). r.count) row.job_is.run_is in
        let some = row.job_is.sound.some in
        let are = known_are at.start s.past download.gid l known in record {
          only = claimed_only claim row.claimed;
          id_is = refl;
          real = ne_eqb run.count 0 (λ none. omega (arith, none, count, some));
          first = omega (arith, first);
          last = omega (arith, first, count);
          opens = λ b low high. open_claimed at.start s.past download.gid claim b
              ∙ is_inside b run (omega (arith, first, low)) (omega (arith, first, count, high));
          shut = λ b low. open_claimed at.start s.past download.gid claim b
              ∙ not_true (is_in b run) (λ inside. let from = from_first b run inside in omega (
                arith,
                from,
                low,
                first,
              ));
          lengths = l;
          known = stay at.start s.past event download.gid l (claimed_legal claim row.claimed) known;
          total = row.job_is.total ∙ ap (λ (x : PayloadLengths). x.total) are;
          piece_len = row.job_is.piece_len ∙ ap (λ (x : PayloadLengths). x.piece_len) are;
        }

    blocks_track : (mirror : ℕ) (run : Run) (victim : Option ℕ) (hand : Hand) (link : LinkAt)
        → FollowsAnswer tells hand answer link hand' link'
        → offers_in at s (offered.Next download.gid (Blocks mirror run victim))
        → IsFetchGrant at s worker download mirror run victim events answer → After
    blocks_track mirror run victim hand link follows offer row =
        let claim = offered_claim mirror run victim row.grant.claim worker at.now.0 in
        let known = blocks_known s.handed offer.is.download download.gid
        (payload_lengths_of at.start s.past download.gid) at.now.0 mirror run victim refl offer.is.is in
        let given = grant_followed tells hand (grant.Fetch row.grant) link hand' link'
        (follows_as hand link follows (said.Grant (grant.Fetch row.grant)) row.is) in
        subst (λ (es : List Event). Tracks tells at.start (history_after s.past es) hand' link') (sym row.claimed)
        (steps_same tells at.start (Claimed download.gid claim ∷ s.past) (begun_fetch row.grant link) hand' link'
        (inr (record {
          gid = download.gid;
          claim = claim;
          is = granted_is mirror run victim link row known.0 known.1;
        })) given)

    probe_track : (mirror : ℕ) (hand : Hand) (link : LinkAt) → FollowsAnswer tells hand answer link hand' link'
        → IsProbing at worker download mirror events answer → After
    probe_track mirror hand link follows row =
        let claim = offered_claim mirror no_blocks None row.id worker at.now.0 in
        let given = grant_followed tells hand (grant.Probe row.id download.gid _) link hand' link'
        (follows_as hand link follows _ row.is) in
        let p : Probing = given.0 in
        subst (λ (es : List Event). Tracks tells at.start (history_after s.past es) hand' link') (sym row.claimed)
        (subst (λ (h : Hand). Tracks tells at.start (Claimed download.gid claim ∷ s.past) h link') (sym given.2)
        (inr (record {
          gid = download.gid;
          claim = claim;
          only = claimed_only claim row.claimed;
          id_is = sym given.1.claim_is;
          probe = refl;
        })))

    whole_track : (piece : ℕ) (listed : Bool) (hand : Hand) (link : LinkAt)
        → FollowsAnswer tells hand answer link hand' link' → whole_row at s download piece listed events answer → After
    whole_track piece true hand link follows row =
        let none = nothing_since at.start s.past events
        (each_unclaiming events (plain_whole at s download piece true events answer row)) nothing in
        ⊎_elim
        (λ hash. let given = grant_followed tells hand (grant.Hash download.gid piece hash.bytes) link hand' link'
        (follows_as hand link follows _ hash.is.1) in
        subst (λ (h : Hand). Tracks tells at.start (history_after s.past events) h link') (sym given.0) none)
        (⊎_elim (λ faulted. by_done hand link follows faulted.1 none)
        (λ starved. absurd (goes (ends_starved answer starved.1)))) row
    whole_track piece false hand link follows row =
        by_done hand link follows (unless_starved _ answer row.0 goes row.2).1
        (nothing_since at.start s.past events
        (each_unclaiming events (plain_whole at s download piece false events answer row)) nothing)

    offer_track : (offer : Offer) (hand : Hand) (link : LinkAt) → FollowsAnswer tells hand answer link hand' link'
        → offers_in at s (offered.Next download.gid offer) → OfferRow at s worker download offer events answer → After
    offer_track (Whole piece) hand link follows is row =
        whole_track piece (is_listed download.subject) hand link follows row
    offer_track (Blocks mirror run victim) hand link follows is row =
        blocks_track mirror run victim hand link follows is row
    offer_track (Probe mirror) hand link follows is row = probe_track mirror hand link follows row

    open_track : (hand : Hand) (link : LinkAt) → FollowsAnswer tells hand answer link hand' link'
        → OpenRow at s download events answer → After
    open_track hand link follows row =
        let none = nothing_since at.start s.past events
        (each_unclaiming events (plain_open_row at s download events answer row)) nothing in
        by_done hand link follows (⊎_elim (λ clashed. clashed.3)
        (λ opened. (unless_starved _ answer opened.1.0 goes opened.1.2).1) row) none

  next_tracks : LengthsStay → (worker : ℕ) (link : LinkAt) → FollowsAnswer tells Nothing answer link hand' link'
      → NothingStands at.start s.past → NextRow at s worker events answer → After
  next_tracks stay worker link follows nothing row =
      ⊎_elim (λ opening. open_track stay worker opening.download nothing Nothing link follows opening.row)
      (λ other.
      ⊎_elim (λ given. offer_track stay worker given.download nothing given.offer Nothing link follows given.is
      given.row)
      (⊎_elim
      (λ held. to_nothing (follows_as Nothing link follows (said.Hold held.0) held.2.1).0
      (same_past held.2.0 (λ h. NothingStands at.start h) nothing))
      (λ idle. to_nothing (follows_as Nothing link follows said.Idle idle.1.1).0
      (same_past idle.1.0 (λ h. NothingStands at.start h) nothing))) other.1) row

  -- ---- a delivery

  module _ (stay : LengthsStay) (f : Fetching) (run : Run) (bytes : List ℕ) (last : Bool)
      (is : f.gain ≡ Ready run bytes last) (link : LinkAt)
      (follows : FollowsAnswer tells (Fetches f) answer link hand' link') (track : FetchTracks tells at.start s.past f
      link) where
    ready_at : IsGain tells f link (Ready run bytes last)
    ready_at =
        let closed : f.gain ≡ Open → ⊥ = λ opened. let no_way : Ready run bytes last ≡ Open = sym is ∙ opened in cc in
        subst (λ (g : Gain). IsGain tells f link g) is (track.at closed).gain

    kept_hand : (past : List Event) (end : Bool) (left : ℕ) → last ≡ end → (delivered f run bytes).left ≡ left
        → NothingStands at.start past ⊎ FetchStands at.start past (delivered f run bytes)
        → FollowsKept tells (delivered f run bytes) end link hand' link' → Tracks tells at.start past hand' link'
    kept_hand past true left ends some stands kept =
        let all : run.count ≡ f.rest.count = ready_at.0.all.0 ends in
        subst (λ (h : Hand). Tracks tells at.start past h link') (sym kept.0)
        (⊎_elim (λ none. none)
        (λ (fs : FetchStands at.start past (delivered f run bytes)).
        all_delivered at.start past (delivered f run bytes) fs.gid fs.claim fs.is (omega (arith, all))) stands)
    kept_hand past false zero ends some stands kept =
        let leaves = subst (λ n. goes_on_by tells (delivered f run bytes) n link hand' link') some kept in
        subst (λ (h : Hand). Tracks tells at.start past h link') (sym leaves.0)
        (record { stands = stands; at = λ closed. absurd (closed refl) })
    kept_hand past false (suc left) ends some stands kept =
        steps_same tells at.start past (delivered f run bytes) hand' link' stands
        (subst (λ n. goes_on_by tells (delivered f run bytes) n link hand' link') some kept)

    after_kept : (counted repeated : ℕ) → answer ≡ said.Kept counted repeated
        → NothingStands at.start (history_after s.past events)
        ⊎ FetchStands at.start (history_after s.past events) (delivered f run bytes) → After
    after_kept counted repeated said_is stands =
        kept_hand (history_after s.past events) last (delivered f run bytes).left refl refl stands
        (subst (λ (g : Gain). FollowsFetch tells f g (said.Kept counted repeated) link hand' link') is
        (follows_as (Fetches f) link follows (said.Kept counted repeated) said_is))

    home_delivered : (download : Download) (claim : Claim) → IsHomeOf at.start s.past f.claim download claim
        → DeliverRow at s run bytes download claim events answer → FetchStands at.start s.past f → After
    home_delivered download claim home row fs =
        let fetch = at_home at.start s.past f fs.gid fs.claim download claim fs.is home in
        ⊎_elim
        (λ kept.
        let fed = unless_starved _ answer kept.1.outcome goes kept.1.answer in
        let leaves = delivery_leaves at at.start s.past f run bytes last ready_at.0 download.gid claim fetch stay
        download
        kept.1.runs events kept.1.outcome fed.0 kept.1.open_runs kept.1.is legal in
        after_kept _ _ fed.1 (⊎_elim (λ none. inl none)
        (λ more. inr (record { gid = download.gid; claim = claim; is = more })) leaves))
        (λ void. absurd (void.0 (is_delivery at at.start s.past f run bytes last ready_at.0 download.gid claim fetch)))
        row

    deliver_tracks : OfClaim at s f.claim (DeliverRow at s run bytes) events answer → After
    deliver_tracks row =
        ⊎_elim
        (λ away. ⊎_elim
        (λ none. by_void (Fetches f) link follows away.1.1 away.1.0 none)
        (λ (fs : FetchStands at.start s.past f).
        by_no_home (Fetches f) link follows f.claim fs.gid fs.claim fs.is.id_is fs.is.only away.0 away.1) track.stands)
        (λ of. ⊎_elim
        (λ none. absurd (no_home at.start s.past f.claim of.0 of.1 none of.2))
        (λ (fs : FetchStands at.start s.past f). home_delivered of.0 of.1 of.2 of.3 fs) track.stands) row

  -- ---- more bytes

  module _ (f : Fetching) (is : f.gain ≡ Open) (link : LinkAt)
      (follows : FollowsAnswer tells (Fetches f) answer link hand' link') (track : FetchTracks tells at.start s.past f
      link) where
    stands_on : events ≡ [] → (g : Fetching) → g.claim ≡ f.claim → g.rest ≡ f.rest → g.job ≡ f.job
        → NothingStands at.start (history_after s.past events) ⊎ FetchStands at.start (history_after s.past events) g
    stands_on none g number rest job =
        same_past none (λ h. NothingStands at.start h ⊎ FetchStands at.start h g)
        (⊎_elim (λ nothing. inl nothing)
        (λ (fs : FetchStands at.start s.past f). inr (record {
          gid = fs.gid;
          claim = fs.claim;
          is = same_fetch at.start s.past f g fs.gid fs.claim number rest job fs.is;
        })) track.stands)

    more_by : (gid : Gid) (want credit : ℕ) → 1 ≤ want → events ≡ [] → answer ≡ more_said at s gid want credit → After
    more_by gid zero credit some none said_is = absurd (omega (arith, some))
    more_by gid (suc want) zero some none said_is =
        let wait = (turn_credit at s gid).wait in
        let leaves = subst (λ (g : Gain). FollowsFetch tells f g (said.Hold wait) link hand' link') is
        (follows_as (Fetches f) link follows (said.Hold wait) said_is) in
        subst (λ (h : Hand). Tracks tells at.start (history_after s.past events) h link') (sym leaves.0)
        (record { stands = stands_on none f refl refl refl; at = λ closed. absurd (closed is) })
    more_by gid (suc want) (suc credit) some none said_is =
        let bytes = allowance at s gid (suc want) in
        steps_same tells at.start (history_after s.past events) (allowing f bytes) hand' link'
        (stands_on none (allowing f bytes) refl refl refl)
        (subst (λ (g : Gain). FollowsFetch tells f g (said.Allow bytes) link hand' link') is
        (follows_as (Fetches f) link follows (said.Allow bytes) said_is))

    more_tracks : OfClaim at s f.claim (MoreRow at s MAX_ALLOWANCE) events answer → After
    more_tracks row =
        ⊎_elim
        (λ away. ⊎_elim
        (λ none. by_void (Fetches f) link follows away.1.1 away.1.0 none)
        (λ (fs : FetchStands at.start s.past f).
        by_no_home (Fetches f) link follows f.claim fs.gid fs.claim fs.is.id_is fs.is.only away.0 away.1) track.stands)
        (λ of. more_by of.0.gid MAX_ALLOWANCE (turn_credit at s of.0.gid).bytes (omega arith) of.3.0 of.3.1) row

  -- ---- a loss, or a length

  -- the only claim that stands, if any, is under this number
  abbrev pub StandsUnder : ℕ → Type 0
  StandsUnder id = NothingStands at.start s.past
      ⊎ ((gid : Gid) × (claim : Claim) × OnlyStands at.start s.past gid claim × (claim.id ≡ id))

  module _ (hand : Hand) (link : LinkAt) (follows : FollowsAnswer tells hand answer link hand' link') (id : ℕ)
      (stands : StandsUnder id) where
    by_away : HasNoHome at.start s.past id → AnswersOnly said.Void events answer → After
    by_away none void =
        ⊎_elim (λ nothing. by_void hand link follows void.1 void.0 nothing)
        (λ only. by_no_home hand link follows id only.0 only.1 only.3 only.2 none void) stands

    -- the claim ends by this event
    ends_here : (download : Download) (claim : Claim) (e : Event) (x : OwnEvent) (Q : Phase) (outcome : Outcome)
        → IsHomeOf at.start s.past id download claim → AndThen (JustEvent e) Q s.past events outcome
        → EachEvent Plain events → is_grant x ≡ false
        → own_of at.start (e ∷ s.past) download.gid ≡ x ∷ own_of at.start s.past download.gid
        → ends_claim claim.id x ≡ true → NothingStands at.start (history_after s.past events)
    ends_here download claim e x Q outcome home came plain grants own ends =
        let cut = begins_cut e Q s.past events outcome came in
        ⊎_elim (λ nothing. absurd (no_home at.start s.past id download claim nothing home))
        (λ only. let same = home_is at.start s.past only.0 only.1 id download claim only.2 home in
        ended_by at.start s.past download.gid claim e x events cut.0 cut.1 plain
        (subst (λ (c : Claim). OnlyStands at.start s.past download.gid c) (sym same.1)
        (subst (λ (g : Gid). OnlyStands at.start s.past g only.1) (sym same.0) only.2)) grants own ends) stands

    lose_tracks : (mark : Mark) → OfClaim at s id (LoseRow at s mark) events answer → After
    lose_tracks mark row =
        ⊎_elim (λ away. by_away away.0 away.1)
        (λ of.
        let piece = lost_piece at.start s.past of.0.gid of.1 in
        let e = Lost of.0.gid of.1.id of.1.mirror piece mark in
        let x = Loses of.1.id of.1.mirror piece mark in
        by_done hand link follows of.3.2 (ends_here of.0 of.1 e x _ of.3.0 of.2 of.3.1
        (plain_loss at s.past of.0 of.1 mark piece s.past events of.3.0 of.3.1) refl
        (own_lost at.start s.past of.0.gid e x refl) (eq-eqb of.1.id of.1.id refl))) row

    sized_tracks : (total : ℕ)
        → ((download : Download) (claim : Claim) → IsHomeOf at.start s.past id download claim → is_probe claim ≡ true)
        → OfClaim at s id (SizedRow at s total) events answer → After
    sized_tracks total probe row =
        ⊎_elim (λ away. by_away away.0 away.1)
        (λ of. ⊎_elim
        (λ told.
        let e = Sized of.0.gid of.1.id total in
        let x = Sizes of.1.id total in
        by_done hand link follows told.1.2 (ends_here of.0 of.1 e x _ told.1.0 of.2 told.1.1
        (plain_telling of.0 of.1 total s.past events told.1.0 told.1.1) refl
        (own_lost at.start s.past of.0.gid e x refl) (eq-eqb of.1.id of.1.id refl)))
        (λ other. true_not_false (is_probe of.1) (probe of.0 of.1 of.2) other.0) of.3) row

  -- ---- a seal

  seal_tracks : (gid : Gid) (sealed : PieceBytes) (link : LinkAt)
      → FollowsAnswer tells (Seals gid sealed) answer link hand' link' → NothingStands at.start s.past
      → SealRow at s gid sealed events answer → After
  seal_tracks gid sealed link follows nothing row =
      let none = nothing_since at.start s.past events
      (each_unclaiming events (plain_seal at s gid sealed events answer row)) nothing in
      ⊎_elim (λ void. by_void (Seals gid sealed) link follows void.1 void.0 nothing)
      (λ settled. by_done (Seals gid sealed) link follows (unless_starved _ answer settled.1.outcome goes
      settled.1.answer).1
      none) row

  -- ---- any turn

  module _ (stay : LengthsStay) (worker : ℕ) (now : Moment) (op : Operation) (row : OperationRow at s op events answer)
      (link : LinkAt) where
    row_as : (due : Operation) → op ≡ due → OperationRow at s due events answer
    row_as due is = subst (λ (o : Operation). OperationRow at s o events answer) is row

    under : (f : Fetching) → NothingStands at.start s.past ⊎ FetchStands at.start s.past f → StandsUnder f.claim
    under f (inl nothing) = inl nothing
    under f (inr fs) = inr (fs.gid, fs.claim, fs.is.only, fs.is.id_is)

    under_probe : (p : Probing) → NothingStands at.start s.past ⊎ ProbeStands at.start s.past p → StandsUnder p.claim
    under_probe p (inl nothing) = inl nothing
    under_probe p (inr ps) = inr (ps.gid, ps.claim, ps.only, ps.id_is)

    is_a_probe : (p : Probing) → NothingStands at.start s.past ⊎ ProbeStands at.start s.past p → (download : Download)
        (claim : Claim) → IsHomeOf at.start s.past p.claim download claim → is_probe claim ≡ true
    is_a_probe p (inl nothing) download claim home = absurd (no_home at.start s.past p.claim download claim nothing
        home)
    is_a_probe p (inr ps) download claim home =
        let same = home_is at.start s.past ps.gid ps.claim p.claim download claim ps.only home in
        ap (λ (c : Claim). is_probe c) same.1 ∙ ps.probe

    fetch_tracks : (f : Fetching) (gain : Gain) → f.gain ≡ gain → gain ≢ StarvedGain → op ≡ fetch_op worker f now gain
        → FollowsAnswer tells (Fetches f) answer link hand' link' → FetchTracks tells at.start s.past f link → After
    fetch_tracks f (Ready run bytes last) is fed due follows track =
        deliver_tracks stay f run bytes last is link follows track (row_as (operation.Deliver f.claim run bytes now)
        due)
    fetch_tracks f (LostGain loss mark) is fed due follows track =
        lose_tracks (Fetches f) link follows f.claim (under f track.stands) mark
        (row_as (operation.Lose f.claim mark now) due)
    fetch_tracks f Open is fed due follows track =
        more_tracks f is link follows track (row_as (operation.More f.claim MAX_ALLOWANCE now) due)
    fetch_tracks f StarvedGain is fed due follows track = absurd (fed refl)

    probe_tracks : (p : Probing) (end : ProbeEnd) → p.end ≡ end → end ≢ Lacking → op ≡ probe_op worker p.claim now end
        → FollowsAnswer tells (Probes p) answer link hand' link'
        → NothingStands at.start s.past ⊎ ProbeStands at.start s.past p → After
    probe_tracks p (Told total) is fed due follows stands =
        sized_tracks (Probes p) link follows p.claim (under_probe p stands) total (is_a_probe p stands)
        (row_as (operation.Sized p.claim total now) due)
    probe_tracks p (Missed loss mark) is fed due follows stands =
        lose_tracks (Probes p) link follows p.claim (under_probe p stands) mark
        (row_as (operation.Lose p.claim mark now) due)
    probe_tracks p Lacking is fed due follows stands = absurd (fed refl)

    pub turn_tracks : (hand : Hand) → end_of_hand hand ≡ None → op ≡ due_op worker hand now
        → FollowsAnswer tells hand answer link hand' link' → Tracks tells at.start s.past hand link → After
    turn_tracks Nothing fed due follows tracks =
        next_tracks stay worker link follows tracks (row_as (operation.Next worker now) due)
    turn_tracks (Fetches f) fed due follows tracks =
        fetch_tracks f f.gain refl (λ starved. let some = ap end_of_gain starved in let no_way : Some end.NoMemory ≡
        None =
        sym some ∙ fed in cc) due follows tracks
    turn_tracks (Probes p) fed due follows tracks =
        probe_tracks p p.end refl (λ starved. let some = ap end_of_probe starved in let no_way : Some end.NoMemory ≡
        None =
        sym some ∙ fed in cc) due follows tracks
    turn_tracks (Seals gid sealed) fed due follows tracks =
        seal_tracks gid sealed link follows tracks (row_as (operation.Seal gid sealed now) due)
