-- What is granted for a claim is what the claim asks of its mirror.
use Rattle.std.proofs.Common.{◌≡◌, ◌<◌, ⊎_elim, ℕ, zero, suc, Bool, true, false, List, [], ◌∷◌, ◌++◌, Option, None, Some, if◌then◌else◌, refl, sym, ap, ◌∙◌, subst, arith}
use Rattle.std.specs.Prelude.{◌&&◌, length, unwrap_or}
use Rattle.conn_worker.specs.Brought.{claim_of_grant}
use Rattle.conn_worker.specs.Sound.{NoGrant}
use Rattle.dl_kinds.specs.declared.claims.Claim.{Claim}
use Rattle.dl_kinds.specs.declared.gid.Gid.{Gid}
use Rattle.dl_kinds.specs.declared.runs.Moment.{Moment}
use Rattle.dl_kinds.specs.declared.runs.Run.{Run}
use Rattle.engine_turns.specs.ClaimRows.{DeliverRow, LoseRow, MoreRow, SizedRow, more_said}
use Rattle.engine_turns.specs.NextRows.{IsHolding, IsJobOf, IsIdling, IsOfferGiven, IsOpeningNext, NextRow, OfferRow, OpenRow, mirror_url, whole_row}
use Rattle.engine_turns.specs.Phases.{TurnStart}
use Rattle.engine_turns.specs.RunTurns.{IsAnswered, MayComeAfter, OperationRow, answer_before, asks_for_work, is_nearly_full, needs_entries, turn_start}
use Rattle.engine_turns.specs.Standings.{AnswersUnlessStarved, OfClaim, RunStanding, standing_after}
use Rattle.engine_turns.specs.Told.{RunTurn, history_after, history_of}
use Rattle.engine_turns.specs.declared.operations.Grant.{Grant}
use Rattle.engine_turns.specs.declared.operations.Grant.TheVariants as grant
use Rattle.engine_turns.specs.declared.operations.Operation.{Operation}
use Rattle.engine_turns.specs.declared.operations.Operation.TheVariants as operation
use Rattle.engine_turns.specs.declared.operations.Said.{Said}
use Rattle.engine_turns.specs.declared.operations.Said.TheVariants as said
use Rattle.engine_turns.specs.declared.outcome.Outcome.{Outcome}
use Rattle.engine_turns.specs.declared.outcome.Outcome.TheVariants.{Went, Over, Starved}
use Rattle.machine_core.specs.Choices.{IsGrantBy}
use Rattle.machine_core.specs.Offers.{no_blocks, offered_claim}
use Rattle.machine_core.specs.OwnParts.{PayloadLengths, no_lengths, payload_lengths_of}
use Rattle.machine_core.specs.Reads.{is_finished_in}
use Rattle.machine_core.specs.RunLegal.{IsLegal, LengthsStay, download_in, is_listed, known_lengths}
use Rattle.machine_core.specs.Starts.{Download, RunStart}
use Rattle.machine_core.specs.declared.events.Event.{Event}
use Rattle.machine_core.specs.declared.events.Event.TheVariants.{Claimed}
use Rattle.machine_core.specs.declared.offers.Offer.{Offer}
use Rattle.machine_core.specs.declared.offers.Offer.TheVariants as offer
use Rattle.run_lifecycle.specs.LinkCauses.{IsGrantOf}
use Rattle.run_lifecycle.proofs.Others.{legal_before}

-- the claim, by this worker, came in a turn, and this was granted for it
pub record GrantedIn (start : RunStart) (past events : List Event) (worker : ℕ) (granted : Grant) (id : ℕ) : Type 0
  where
    pub download : Download
    pub added : download_in start past download.gid ≡ Some download
    pub claim : Claim
    pub alone : events ≡ Claimed download.gid claim ∷ []
    pub by : claim.worker ≡ worker
    pub id_is : claim.id ≡ id
    pub asks : IsGrantOf (known_lengths start past download.gid) download claim granted

-- ---- answers that grant nothing

by_usual : (usual answer : Said) → NoGrant usual → answer ≡ usual → NoGrant answer
by_usual usual answer none is = subst (λ (s : Said). NoGrant s) (sym is) none

unless_starved : (usual : Said) (outcome : Outcome) (answer : Said) → NoGrant usual
    → AnswersUnlessStarved usual outcome answer
    → NoGrant answer
unless_starved usual Went answer none is = by_usual usual answer none is
unless_starved usual Over answer none is = by_usual usual answer none is
unless_starved usual Starved answer none is = by_usual said.NoMemory answer tt is

abbrev NoGrantIn : Option Said → Type 0
NoGrantIn None = Unit {0}
NoGrantIn (Some answer) = NoGrant answer

none_before : (one other : Bool) (count : ℕ)
    → NoGrantIn (if one then Some said.Finished else if other then Some (said.JournalFull count) else None)
none_before true other count = tt
none_before false true count = tt
none_before false false count = tt

before_none : (start : RunStart) (past : List Event) (op : Operation) → NoGrantIn (answer_before start past op)
before_none start past op =
    none_before (asks_for_work op && is_finished_in start past) (needs_entries op && is_nearly_full past) (length past)

more_none : (at : TurnStart) (s : RunStanding) (gid : Gid) (want credit : ℕ) → NoGrant (more_said at s gid want credit)
more_none at s gid zero credit = tt
more_none at s gid (suc want) zero = tt
more_none at s gid (suc want) (suc credit) = tt

of_claim : (at : TurnStart) (s : RunStanding) (id : ℕ) (Row : Download → Claim → List Event → Said → Type 0)
    → ((download : Download) (claim : Claim) (events : List Event) (answer : Said) → Row download claim events answer
    → NoGrant answer)
    → (events : List Event) (answer : Said) → OfClaim at s id Row events answer → NoGrant answer
of_claim at s id Row none events answer is = ⊎_elim (λ void. by_usual said.Void answer tt void.1.1)
    (λ (home : (download : Download) × (claim : Claim) × _ × Row download claim events answer).
    none home.0 home.1 events answer home.3) is

-- all but those to Next
abbrev IsNotNext : Operation → Type 0
IsNotNext (operation.Next worker now) = ⊥
IsNotNext op = Unit {0}

row_none : (at : TurnStart) (s : RunStanding) (op : Operation) (events : List Event) (answer : Said) → IsNotNext op
    → OperationRow at s op events answer → NoGrant answer
row_none at s (operation.Call session call now) events answer other row = by_usual _ answer tt row.answer
row_none at s (operation.Next worker now) events answer other row = absurd other
row_none at s (operation.Deliver id run bytes now) events answer other row =
    of_claim at s id (DeliverRow at s run bytes)
    (λ download claim es a is. ⊎_elim (λ kept. unless_starved _ kept.1.outcome a tt kept.1.answer)
    (λ void. by_usual said.Void a tt void.1.1) is) events answer row
row_none at s (operation.More id want now) events answer other row =
    of_claim at s id (MoreRow at s want)
    (λ download claim es a is. by_usual _ a (more_none at s download.gid want _) is.1) events
    answer row
row_none at s (operation.Lose id mark now) events answer other row =
    of_claim at s id (LoseRow at s mark) (λ download claim es a is. by_usual said.Done a tt is.2) events answer row
row_none at s (operation.Sized id total now) events answer other row =
    of_claim at s id (SizedRow at s total) (λ download claim es a is. ⊎_elim (λ told. by_usual said.Done a tt told.1.2)
    (λ void. by_usual said.Void a tt void.1.1) is) events answer row
row_none at s (operation.Seal gid sealed now) events answer other row =
    ⊎_elim (λ void. by_usual said.Void answer tt void.1)
    (λ settles. unless_starved said.Done settles.1.outcome answer tt settles.1.answer) row
row_none at s operation.Pulse events answer other row = by_usual said.Idle answer tt row.1
row_none at s (operation.Notices from) events answer other row = by_usual _ answer tt row.1
row_none at s operation.Leave events answer other row = by_usual said.Done answer tt row.1
row_none at s (operation.Stop now) events answer other row = unless_starved said.Done row.outcome answer tt row.answer

-- ---- what a worker is granted

no_grant : {P : Type 0} (answer : Said) (granted : Grant) → NoGrant answer → answer ≡ said.Grant granted → P
no_grant answer granted none is = absurd (subst (λ (s : Said). NoGrant s) is none)

module _ (at : TurnStart) (s : RunStanding) (events : List Event) (answer : Said) (granted : Grant) (id : ℕ)
    (is : answer ≡ said.Grant granted) (number : claim_of_grant granted ≡ Some id) where
  abbrev Came : ℕ → Type 0
  Came worker = GrantedIn at.start s.past events worker granted id

  -- it is the other grant
  same_grant : (other : Grant) → answer ≡ said.Grant other → granted ≡ other
  same_grant other also = (let same : said.Grant granted ≡ said.Grant other = sym is ∙ also in cc)

  no_claim : {P : Type 0} (other : Grant) → answer ≡ said.Grant other → claim_of_grant other ≡ None → P
  no_claim other also none = absurd
      (let clash : Some id ≡ None = sym number ∙ (ap claim_of_grant (same_grant other also) ∙ none) in cc)

  by_open : {P : Type 0} (download : Download) → OpenRow at s download events answer → P
  by_open download row = ⊎_elim (λ clashed. no_grant answer granted (by_usual said.Done answer tt clashed.3) is)
      (λ opens. no_grant answer granted (unless_starved said.Done opens.1.0 answer tt opens.1.2) is) row

  by_whole : {P : Type 0} (download : Download) (piece : ℕ) (listed : Bool)
      → whole_row at s download piece listed events answer → P
  by_whole download piece true row = ⊎_elim
      (λ hash. no_claim (grant.Hash download.gid piece hash.bytes) hash.is.1 refl)
      (λ rest. ⊎_elim (λ fault. no_grant answer granted (by_usual said.Done answer tt fault.1) is)
      (λ short. no_grant answer granted (by_usual said.NoMemory answer tt short.1) is) rest) row
  by_whole download piece false row = no_grant answer granted (unless_starved said.Done row.0 answer tt row.2) is

  by_offer : (worker : ℕ) (download : Download) (offered : Offer)
      → download_in at.start s.past download.gid ≡ Some download
      → OfferRow at s worker download offered events answer → Came worker
  by_offer worker download (offer.Whole piece) added row = by_whole download piece (is_listed download.subject) row
  by_offer worker download (offer.Blocks mirror run victim) added row =
      let claim = offered_claim mirror run victim row.grant.claim worker at.now.0 in
      let same = same_grant (grant.Fetch row.grant) row.is in
      let ids : Some row.grant.claim ≡ Some id = ap claim_of_grant (sym same) ∙ number in record {
        download = download;
        added = added;
        claim = claim;
        alone = row.claimed;
        by = refl;
        id_is = cc;
        asks = subst (IsGrantOf (known_lengths at.start s.past download.gid) download claim) (sym same) row.job_is;
      }
  by_offer worker download (offer.Probe mirror) added row =
      let claim = offered_claim mirror no_blocks None row.id worker at.now.0 in
      let asked = grant.Probe row.id download.gid (mirror_url download.subject mirror) in
      let same = same_grant asked row.is in
      let ids : Some row.id ≡ Some id = ap claim_of_grant (sym same) ∙ number in record {
        download = download;
        added = added;
        claim = claim;
        alone = row.claimed;
        by = refl;
        id_is = cc;
        asks = subst (IsGrantOf (known_lengths at.start s.past download.gid) download claim) (sym same) refl;
      }

  by_next : (worker : ℕ) → NextRow at s worker events answer → Came worker
  by_next worker row = ⊎_elim (λ (opens : IsOpeningNext at s events answer). by_open opens.download opens.row)
      (λ unopened. ⊎_elim
      (λ (given : IsOfferGiven at s worker events answer). by_offer worker given.download given.offer given.added
      given.row)
      (λ rest. ⊎_elim
      (λ (holds : IsHolding at s events answer). no_grant answer granted
      (by_usual (said.Hold holds.0) answer tt holds.2.1) is)
      (λ (idles : IsIdling at s events answer). no_grant answer granted (by_usual said.Idle answer tt idles.1.1) is)
      rest)
      unopened.1) row

  -- the operation asks for work under the number of the claim's worker
  abbrev pub CameAsked : Operation → Type 0
  CameAsked op = (worker : ℕ) × (now : Moment) × (op ≡ operation.Next worker now) × Came worker

  by_row : (op : Operation) → OperationRow at s op events answer → CameAsked op
  by_row (operation.Next worker now) row = (worker, now, refl, by_next worker row)
  by_row op row = no_grant answer granted (row_none at s op events answer tt row) is

  by_answer : (op : Operation) (before : Option Said) → NoGrantIn before → IsAnswered at s op events answer before
      → CameAsked op
  by_answer op (Some before) none answered = no_grant answer granted (by_usual before answer none answered.1) is
  by_answer op None none answered = ⊎_elim
      (λ short. no_grant answer granted (by_usual said.NoMemory answer tt short.1.1) is) (by_row op) answered

pub granted_in : (start : RunStart) (told : List RunTurn) (t : RunTurn) (granted : Grant) (id : ℕ)
    → MayComeAfter start told t
    → t.answer.said ≡ said.Grant granted → claim_of_grant granted ≡ Some id
    → (worker : ℕ) × (now : Moment) × (t.op ≡ operation.Next worker now)
    × GrantedIn start (history_of told) t.events worker granted id
granted_in start told t granted id may is number =
    by_answer (turn_start start told t) (standing_after start told) t.events t.answer.said granted id is number t.op
    (answer_before start (history_of told) t.op) (before_none start (history_of told) t.op) may.answered

-- ---- lengths

abbrev AreKnown : RunStart → List Event → Gid → Type 0
AreKnown start past gid = (lengths : PayloadLengths) × (payload_lengths_of start past gid ≡ Some lengths)

known_by : (start : RunStart) (past : List Event) (gid : Gid) (download : Download) (claim : Claim)
    (lengths : Option PayloadLengths)
    → payload_lengths_of start past gid ≡ lengths → IsGrantBy start past gid download lengths claim
    → 0 < claim.run.count
    → AreKnown start past gid
known_by start past gid download claim None is probes some =
    absurd (let none = probes.count in omega (arith, none, some))
known_by start past gid download claim (Some lengths) is blocks some = (lengths, is)

-- the lengths are known of a download of which blocks are claimed
lengths_known : (start : RunStart) (past : List Event) (gid : Gid) (claim : Claim)
    → IsLegal start (Claimed gid claim ∷ past)
    → 0 < claim.run.count → AreKnown start past gid
lengths_known start past gid claim legal some =
    known_by start past gid legal.1.download claim (payload_lengths_of start past gid) refl legal.1.granted some

lengths_after : LengthsStay → (start : RunStart) (past events : List Event) (gid : Gid) (lengths : PayloadLengths)
    → IsLegal start (history_after past events) → payload_lengths_of start past gid ≡ Some lengths
    → payload_lengths_of start (history_after past events) gid ≡ Some lengths
lengths_after stay start past [] gid lengths legal is = is
lengths_after stay start past (e ∷ events) gid lengths legal is =
    lengths_after stay start (e ∷ past) events gid lengths legal
    (stay start past e gid lengths (legal_before start (e ∷ past) events legal) is)

lengths_on : LengthsStay → (start : RunStart) (newer before : List RunTurn) (gid : Gid) (lengths : PayloadLengths)
    → IsLegal start (history_of (newer ++ before)) → payload_lengths_of start (history_of before) gid ≡ Some lengths
    → payload_lengths_of start (history_of (newer ++ before)) gid ≡ Some lengths
lengths_on stay start [] before gid lengths legal is = is
lengths_on stay start (t ∷ newer) before gid lengths legal is =
    lengths_after stay start (history_of (newer ++ before)) t.events gid lengths legal
    (lengths_on stay start newer before gid lengths
    (legal_before start (history_of (newer ++ before)) t.events legal) is)

legal_on : (start : RunStart) (newer before : List RunTurn) → IsLegal start (history_of (newer ++ before))
    → IsLegal start (history_of before)
legal_on start [] before legal = legal
legal_on start (t ∷ newer) before legal =
    legal_on start newer before (legal_before start (history_of (newer ++ before)) t.events legal)

-- what is asked of a mirror goes by lengths that stay
asks_by : (before after : PayloadLengths) (download : Download) (claim : Claim) (granted : Grant)
    → IsGrantOf before download claim granted → (0 < claim.run.count → before ≡ after)
    → IsGrantOf after download claim granted
asks_by before after download claim (grant.Fetch granted) is same =
    let runs : granted.job.run.count ≡ claim.run.count = ap (λ (r : Run). r.count) is.run_is in
    let some = is.sound.some in
    subst (λ (l : PayloadLengths). IsJobOf l download.subject claim.mirror claim.run granted.job)
    (same (omega (arith, runs, some))) is
asks_by before after download claim (grant.Probe id gid url) is same = is
asks_by before after download claim (grant.Hash gid piece bytes) is same = absurd is

-- .. so it is asked by the lengths that are known at the end
pub asks_on : LengthsStay
    → (start : RunStart) (newer : List RunTurn) (t : RunTurn) (before : List RunTurn) (granted : Grant)
    (worker id : ℕ) → IsLegal start (history_of (newer ++ t ∷ before))
    → (came : GrantedIn start (history_of before) t.events worker granted id)
    → IsGrantOf (known_lengths start (history_of (newer ++ t ∷ before)) came.download.gid) came.download came.claim
    granted
asks_on stay start newer t before granted worker id legal came =
    let gid = came.download.gid in
    asks_by (known_lengths start (history_of before) gid) (known_lengths start (history_of (newer ++ t ∷ before)) gid)
    came.download came.claim granted came.asks
    (λ some.
    let its : IsLegal start (Claimed gid came.claim ∷ history_of before) =
    subst (λ (es : List Event). IsLegal start (history_after (history_of before) es)) came.alone
    (legal_on start newer (t ∷ before) legal) in
    let known = lengths_known start (history_of before) gid came.claim its some in
    let later = lengths_on stay start newer (t ∷ before) gid known.0 legal
    (lengths_after stay start (history_of before) t.events gid known.0
    (legal_on start newer (t ∷ before) legal) known.1) in
    ap (λ (o : Option PayloadLengths). unwrap_or o no_lengths) (known.1 ∙ sym later))
