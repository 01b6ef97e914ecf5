-- Which claims came in the history of a run, and what was granted for them.
use Rattle.std.proofs.Common.{◌≡◌, ◌<◌, ◌∷◌, ◌++◌, ⊎_elim, ℕ, Bool, true, false, List, [], Option, None, Some, if◌then◌else◌, refl, sym, ap, subst, ◌∙◌, arith}
use Rattle.std.specs.Prelude.{◌&&◌, Contains, length}
use Rattle.std.specs.Option.{option_and_then}
use Rattle.std.proofs.lemmas.Option.{none-some}
use Rattle.conn_worker.specs.Brought.{claim_of_grant}
use Rattle.dl_history.specs.OwnEvents.{OwnEvent}
use Rattle.dl_kinds.specs.declared.claims.Claim.{Claim}
use Rattle.dl_kinds.specs.declared.gid.Gid.{Gid}
use Rattle.dl_kinds.specs.declared.runs.Moment.{Moment}
use Rattle.dl_kinds.specs.declared.runs.Run.{Run}
use Rattle.engine_turns.specs.ClaimRows.{DeliverRow}
use Rattle.engine_turns.specs.NextRows.{IsHolding, IsIdling, IsOfferGiven, IsOpeningNext, NextRow, OfferRow, OpenRow, whole_row}
use Rattle.engine_turns.specs.Phases.{TurnStart}
use Rattle.engine_turns.specs.RunTurns.{IsAnswered, MayComeAfter, answer_before, is_nearly_full, needs_entries, asks_for_work, turn_start}
use Rattle.engine_turns.specs.Standings.{AnswersUnlessStarved, IsHomeOf, RunStanding, standing_after}
use Rattle.engine_turns.specs.Told.{AllTurns, RunTurn, history_after, history_of}
use Rattle.engine_turns.specs.declared.operations.Grant.{Grant}
use Rattle.engine_turns.specs.declared.operations.Grant.TheVariants as grant
use Rattle.engine_turns.specs.declared.operations.Operation.{Operation}
use Rattle.engine_turns.specs.declared.operations.Operation.TheVariants as operation
use Rattle.engine_turns.specs.declared.operations.Said.{Said}
use Rattle.engine_turns.specs.declared.operations.Said.TheVariants as said
use Rattle.engine_turns.specs.declared.outcome.Outcome.{Outcome}
use Rattle.engine_turns.specs.declared.outcome.Outcome.TheVariants.{Went, Over, Starved}
use Rattle.machine_core.specs.Choices.{IsGrantBy}
use Rattle.machine_core.specs.Offers.{IsOfferBy}
use Rattle.machine_core.specs.OwnParts.{PayloadLengths, lengths_by, own_of, payload_lengths_of}
use Rattle.machine_core.specs.Reads.{is_finished_in}
use Rattle.machine_core.specs.RunLegal.{DownloadsStay, IsLegal, LengthsStay, MayFollow, download_in, is_listed, known_lengths}
use Rattle.machine_core.specs.Starts.{Download, RunStart, Subject, Listed, Unlisted}
use Rattle.machine_core.specs.declared.events.Event.{Event}
use Rattle.machine_core.specs.declared.events.Event.TheVariants.{Claimed, Landed}
use Rattle.machine_core.specs.declared.offers.Offer.{Offer}
use Rattle.machine_core.specs.declared.offers.Offer.TheVariants as offer
use Rattle.run_lifecycle.specs.LinkCauses.{IsGrantOf}
use Rattle.run_lifecycle.proofs.Claims.{claims_one, first_or_later, later_there, standing_came}
use Rattle.run_lifecycle.proofs.Grants.{asks_on, granted_in}
use Rattle.run_lifecycle.proofs.Others.{legal_before}
use Rattle.run_lifecycle.proofs.Turns.{all_at, cut_at, none_there}

-- ---- what stays

added_after : DownloadsStay → (start : RunStart) (past events : List Event) (gid : Gid) (download : Download)
    → download_in start past gid ≡ Some download → download_in start (history_after past events) gid ≡ Some download
added_after stay start past [] gid download added = added
added_after stay start past (e ∷ events) gid download added =
    added_after stay start (e ∷ past) events gid download (stay start past e gid download added)

added_on : DownloadsStay → (start : RunStart) (newer before : List RunTurn) (gid : Gid) (download : Download)
    → download_in start (history_of before) gid ≡ Some download
    → download_in start (history_of (newer ++ before)) gid ≡ Some download
added_on stay start [] before gid download added = added
added_on stay start (t ∷ newer) before gid download added =
    added_after stay start (history_of (newer ++ before)) t.events gid download
    (added_on stay start newer before gid download added)

pub legal_on : (start : RunStart) (newer before : List RunTurn) → IsLegal start (history_of (newer ++ before))
    → IsLegal start (history_of before)
legal_on start [] before legal = legal
legal_on start (t ∷ newer) before legal =
    legal_on start newer before (legal_before start (history_of (newer ++ before)) t.events legal)

lengths_after : LengthsStay → (start : RunStart) (past events : List Event) (gid : Gid) (lengths : PayloadLengths)
    → IsLegal start (history_after past events) → payload_lengths_of start past gid ≡ Some lengths
    → payload_lengths_of start (history_after past events) gid ≡ Some lengths
lengths_after stay start past [] gid lengths legal is = is
lengths_after stay start past (e ∷ events) gid lengths legal is =
    lengths_after stay start (e ∷ past) events gid lengths legal
    (stay start past e gid lengths (legal_before start (e ∷ past) events legal) is)

pub lengths_on : LengthsStay → (start : RunStart) (newer before : List RunTurn) (gid : Gid) (lengths : PayloadLengths)
    → IsLegal start (history_of (newer ++ before)) → payload_lengths_of start (history_of before) gid ≡ Some lengths
    → payload_lengths_of start (history_of (newer ++ before)) gid ≡ Some lengths
lengths_on stay start [] before gid lengths legal is = is
lengths_on stay start (t ∷ newer) before gid lengths legal is =
    lengths_after stay start (history_of (newer ++ before)) t.events gid lengths legal
    (lengths_on stay start newer before gid lengths
    (legal_before start (history_of (newer ++ before)) t.events legal) is)

there_after : (past events : List Event) (x : Event) → Contains past x → Contains (history_after past events) x
there_after past [] x there = there
there_after past (e ∷ events) x there = there_after (e ∷ past) events x (later_there e past x there)

pub there_on : (newer before : List RunTurn) (x : Event) → Contains (history_of before) x
    → Contains (history_of (newer ++ before)) x
there_on [] before x there = there
there_on (t ∷ newer) before x there =
    there_after (history_of (newer ++ before)) t.events x (there_on newer before x there)

new_there : (past events : List Event) (x : Event) → Contains events x → Contains (history_after past events) x
new_there past [] x there = none_there x there
new_there past (e ∷ events) x there = ⊎_elim
    (λ (is : e ≡ x). there_after (e ∷ past) events x (0, omega arith, is))
    (λ later. new_there (e ∷ past) events x later) (first_or_later e events x there)

-- what a turn brought is in the history
pub brought_there : (newer : List RunTurn) (t : RunTurn) (before : List RunTurn) (x : Event) → Contains t.events x
    → Contains (history_of (newer ++ t ∷ before)) x
brought_there newer t before x there = there_on newer (t ∷ before) x (new_there (history_of before) t.events x there)

alone_there : (newer : List RunTurn) (t : RunTurn) (before : List RunTurn) (x : Event) → t.events ≡ x ∷ []
    → Contains (history_of (newer ++ t ∷ before)) x
alone_there newer t before x alone =
    brought_there newer t before x (subst (λ (es : List Event). Contains es x) (sym alone) (0, omega arith, refl))

-- ---- claims that came

pub record CameAt (past : List Event) (gid : Gid) (id mirror : ℕ) : Type 0 where
  pub claim : Claim
  pub came : Contains past (Claimed gid claim)
  pub id_is : claim.id ≡ id
  pub mirror_is : claim.mirror ≡ mirror

-- blocks that landed are of a claim that came
pub landed_came : (start : RunStart) (past : List Event) (gid : Gid) (id mirror : ℕ) (run : Run) (now : Moment)
    → IsLegal start past → Contains past (Landed gid id mirror run now) → CameAt past gid id mirror
landed_came start [] gid id mirror run now legal there = none_there (Landed gid id mirror run now) there
landed_came start (e ∷ past) gid id mirror run now legal there = ⊎_elim
    (λ (is : e ≡ Landed gid id mirror run now).
    let may = subst (MayFollow start past) is legal.1 in
    let lands = may.0.may in
    record {
      claim = lands.claim;
      came = later_there e past (Claimed gid lands.claim) (standing_came start gid lands.claim past lands.stands);
      id_is = lands.id_is;
      mirror_is = lands.mirror_is;
    })
    (λ (later : Contains past (Landed gid id mirror run now)).
    let rest = landed_came start past gid id mirror run now legal.0 later in
    record {
      claim = rest.claim;
      came = later_there e past (Claimed gid rest.claim) rest.came;
      id_is = rest.id_is;
      mirror_is = rest.mirror_is;
    })
    (first_or_later e past (Landed gid id mirror run now) there)

-- ---- lengths

abbrev AreKnown : RunStart → List Event → Gid → Type 0
AreKnown start past gid = (lengths : PayloadLengths) × (payload_lengths_of start past gid ≡ Some lengths)

known_by : (start : RunStart) (past : List Event) (gid : Gid) (download : Download) (claim : Claim)
    (lengths : Option PayloadLengths)
    → payload_lengths_of start past gid ≡ lengths → IsGrantBy start past gid download lengths claim
    → 0 < claim.run.count → AreKnown start past gid
known_by start past gid download claim None is probes some =
    absurd (let none = probes.count in omega (arith, none, some))
known_by start past gid download claim (Some lengths) is blocks some = (lengths, is)

-- the lengths are known of a download of which blocks were claimed
pub lengths_known : LengthsStay → (start : RunStart) (past : List Event) (gid : Gid) (claim : Claim) → IsLegal start past
    → Contains past (Claimed gid claim) → 0 < claim.run.count → AreKnown start past gid
lengths_known stay start [] gid claim legal there some = none_there (Claimed gid claim) there
lengths_known stay start (e ∷ past) gid claim legal there some = ⊎_elim
    (λ (is : e ≡ Claimed gid claim).
    let may = subst (MayFollow start past) is legal.1 in
    let known = known_by start past gid may.download claim (payload_lengths_of start past gid) refl may.granted some in
    (known.0, stay start past e gid known.0 legal known.1))
    (λ (later : Contains past (Claimed gid claim)).
    let known = lengths_known stay start past gid claim legal.0 later some in
    (known.0, stay start past e gid known.0 legal known.1))
    (first_or_later e past (Claimed gid claim) there)

-- those of a download with a metainfo file are known from its adding on
pub listed_known : (start : RunStart) (past : List Event) (gid : Gid) (download : Download)
    → download_in start past gid ≡ Some download
    → payload_lengths_of start past gid ≡ lengths_by download download.subject (own_of start past gid)
listed_known start past gid download added =
    ap (option_and_then (λ (d : Download). lengths_by d d.subject (own_of start past gid))) added

unlisted_of : (d : Download) (subject : Subject) (own : List OwnEvent) (lengths : Option PayloadLengths)
    → lengths ≡ lengths_by d subject own → lengths ≡ None → is_listed subject ≡ false
unlisted_of d (Listed meta uris) own lengths is unknown = absurd (none-some _ (sym unknown ∙ is))
unlisted_of d (Unlisted uris) own lengths is unknown = refl

unlisted_by : (start : RunStart) (past : List Event) (d : Download) → download_in start past d.gid ≡ Some d
    → payload_lengths_of start past d.gid ≡ None → is_listed d.subject ≡ false
unlisted_by start past d added unknown =
    unlisted_of d d.subject (own_of start past d.gid) (payload_lengths_of start past d.gid) (listed_known start past d.gid d added)
    unknown

same_listing : (d e : Download) → d ≡ e → is_listed d.subject ≡ false → is_listed e.subject ≡ false
same_listing d e same unlisted = subst (λ (x : Download). is_listed x.subject ≡ false) same unlisted

-- ---- what was granted

pub record GrantAt (start : RunStart) (past : List Event) (gid : Gid) (download : Download) (id mirror : ℕ) (granted : Grant)
    : Type 0 where
  pub claim : Claim
  pub came : Contains past (Claimed gid claim)
  pub id_is : claim.id ≡ id
  pub mirror_is : claim.mirror ≡ mirror
  pub asks : IsGrantOf (known_lengths start past gid) download claim granted

-- the claim that comes alone is one
same_number : (events : List Event) (one other : Gid) (claim twin : Claim) (id : ℕ) → events ≡ Claimed one claim ∷ []
    → events ≡ Claimed other twin ∷ [] → twin.id ≡ id → claim.id ≡ id
same_number events one other claim twin id is also id_is =
    let both : Claimed one claim ∷ [] ≡ Claimed other twin ∷ [] = sym is ∙ also in
    let claims : claim ≡ twin = cc in
    ap (λ (x : Claim). x.id) claims ∙ id_is

-- what is asked goes by the claim and its download
grant_alike : (start : RunStart) (past : List Event) (one other : Gid) (d e : Download) (claim twin : Claim) (granted : Grant)
    → one ≡ other → d ≡ e → claim ≡ twin → IsGrantOf (known_lengths start past one) d claim granted
    → IsGrantOf (known_lengths start past other) e twin granted
grant_alike start past one other d e claim twin granted gids downloads claims asks =
    subst (λ (g : Gid). IsGrantOf (known_lengths start past g) e twin granted) gids
    (subst (λ (x : Download). IsGrantOf (known_lengths start past one) x twin granted) downloads
    (subst (λ (x : Claim). IsGrantOf (known_lengths start past one) d x granted) claims asks))

same_some : (one other : Download) → Some one ≡ Some other → one ≡ other
same_some one other is = cc

same_download : (start : RunStart) (past : List Event) (one gid : Gid) (d e : Download)
    → download_in start past one ≡ Some d → one ≡ gid → download_in start past gid ≡ Some e → d ≡ e
same_download start past one gid d e is gids also =
    same_some d e (sym (subst (λ (g : Gid). download_in start past g ≡ Some d) gids is) ∙ also)

-- ---- a probe

abbrev IsProbeSaid : Said → Type 0
IsProbeSaid (said.Grant (grant.Probe id gid url)) = Unit {0}
IsProbeSaid answer = ⊥

-- the claim came of a download whose length wasn't known
pub record ProbesUnknown (start : RunStart) (past events : List Event) : Type 0 where
  pub download : Download
  pub claim : Claim
  pub alone : events ≡ Claimed download.gid claim ∷ []
  pub added : download_in start past download.gid ≡ Some download
  pub unknown : payload_lengths_of start past download.gid ≡ None

module _ (at : TurnStart) (s : RunStanding) (events : List Event) (answer : Said) (probes : IsProbeSaid answer) where
  no_probe : {P : Type 0} (usual : Said) → (IsProbeSaid usual → ⊥) → answer ≡ usual → P
  no_probe usual none is = absurd (none (subst IsProbeSaid is probes))

  none_starved : {P : Type 0} (usual : Said) (outcome : Outcome) → (IsProbeSaid usual → ⊥)
      → AnswersUnlessStarved usual outcome answer → P
  none_starved usual Went none is = no_probe usual none is
  none_starved usual Over none is = no_probe usual none is
  none_starved usual Starved none is = no_probe said.NoMemory (λ no. no) is

  open_none : {P : Type 0} (download : Download) → OpenRow at s download events answer → P
  open_none download row = ⊎_elim (λ clashed. no_probe said.Done (λ no. no) clashed.3)
      (λ opens. none_starved said.Done opens.1.0 (λ no. no) opens.1.2) row

  whole_none : {P : Type 0} (download : Download) (piece : ℕ) (listed : Bool)
      → whole_row at s download piece listed events answer → P
  whole_none download piece true row = ⊎_elim
      (λ hash. no_probe (said.Grant (grant.Hash download.gid piece hash.bytes)) (λ no. no) hash.is.1)
      (λ rest. ⊎_elim (λ fault. no_probe said.Done (λ no. no) fault.1)
      (λ short. no_probe said.NoMemory (λ no. no) short.1) rest) row
  whole_none download piece false row = none_starved said.Done row.0 (λ no. no) row.2

  -- only a download whose length isn't known offers a probe
  unknown_by : (mirror : ℕ) (gid : Gid) (download : Download) (lengths : Option PayloadLengths)
      → IsOfferBy s.handed at.start s.past download lengths at.now.0 (offer.Probe mirror) → lengths ≡ None
  unknown_by mirror gid download None is = refl
  unknown_by mirror gid download (Some lengths) is = absurd is.1

  offer_unknown : (worker : ℕ) (given : IsOfferGiven at s worker events answer) (offered : Offer) → given.offer ≡ offered
      → OfferRow at s worker given.download offered events answer → ProbesUnknown at.start s.past events
  offer_unknown worker given (offer.Whole piece) is row =
      whole_none given.download piece (is_listed given.download.subject) row
  offer_unknown worker given (offer.Blocks mirror run victim) is row =
      no_probe (said.Grant (grant.Fetch row.grant)) (λ no. no) row.is
  offer_unknown worker given (offer.Probe mirror) is row =
      let offers = given.is.is in record {
        download = given.download;
        claim = _;
        alone = row.claimed;
        added = given.added;
        unknown = unknown_by mirror given.download.gid offers.download
            (payload_lengths_of at.start s.past given.download.gid)
            (subst (λ (o : Offer). IsOfferBy s.handed at.start s.past offers.download
            (payload_lengths_of at.start s.past given.download.gid) at.now.0 o) is offers.is);
      }

  next_unknown : (worker : ℕ) → NextRow at s worker events answer → ProbesUnknown at.start s.past events
  next_unknown worker row = ⊎_elim (λ (opens : IsOpeningNext at s events answer). open_none opens.download opens.row)
      (λ unopened. ⊎_elim
      (λ (given : IsOfferGiven at s worker events answer). offer_unknown worker given given.offer refl given.row)
      (λ rest. ⊎_elim
      (λ (holds : IsHolding at s events answer). no_probe (said.Hold holds.0) (λ no. no) holds.2.1)
      (λ (idles : IsIdling at s events answer). no_probe said.Idle (λ no. no) idles.1.1) rest)
      unopened.1) row

  abbrev NoProbeIn : Option Said → Type 0
  NoProbeIn None = Unit {0}
  NoProbeIn (Some before) = IsProbeSaid before → ⊥

  answered_unknown : (worker : ℕ) (now : Moment) (before : Option Said) → NoProbeIn before
      → IsAnswered at s (operation.Next worker now) events answer before → ProbesUnknown at.start s.past events
  answered_unknown worker now (Some before) none answered = no_probe before none answered.1
  answered_unknown worker now None none answered = ⊎_elim
      (λ short. no_probe said.NoMemory (λ no. no) short.1.1) (λ row. next_unknown worker row) answered

none_before : (one other : Bool) (count : ℕ)
    → (answer : Said) → (if one then Some said.Finished else if other then Some (said.JournalFull count) else None) ≡ Some answer
    → IsProbeSaid answer → ⊥
none_before true other count answer is probes =
    let same : said.Finished ≡ answer = (let some : Some said.Finished ≡ Some answer = is in cc) in
    subst IsProbeSaid (sym same) probes
none_before false true count answer is probes =
    let same : said.JournalFull count ≡ answer = (let some : Some (said.JournalFull count) ≡ Some answer = is in cc) in
    subst IsProbeSaid (sym same) probes
none_before false false count answer is probes = none-some answer is

none_in : (start : RunStart) (past : List Event) (op : Operation) (before : Option Said) → answer_before start past op ≡ before
    → (answer : Said) → before ≡ Some answer → IsProbeSaid answer → ⊥
none_in start past op before is answer some probes =
    none_before (asks_for_work op && is_finished_in start past) (needs_entries op && is_nearly_full past) (length past) answer
    (is ∙ some) probes

pub probe_unknown : (start : RunStart) (before : List RunTurn) (t : RunTurn) (worker id : ℕ) (now : Moment) (gid : Gid)
    (url : List ℕ) → MayComeAfter start before t → t.op ≡ operation.Next worker now
    → t.answer.said ≡ said.Grant (grant.Probe id gid url) → ProbesUnknown start (history_of before) t.events
probe_unknown start before t worker id now gid url may op is =
    by (answer_before start (history_of before) t.op) refl may.answered
  where
    probes : IsProbeSaid t.answer.said
    probes = subst IsProbeSaid (sym is) tt

    by : (first : Option Said) → answer_before start (history_of before) t.op ≡ first
        → IsAnswered (turn_start start before t) (standing_after start before) t.op t.events t.answer.said first
        → ProbesUnknown start (history_of before) t.events
    by (Some first) same answered =
        absurd (none_in start (history_of before) t.op (Some first) same first refl
        (subst IsProbeSaid answered.1 probes))
    by None same answered =
        answered_unknown (turn_start start before t) (standing_after start before) t.events t.answer.said probes worker now
        None tt
        (subst (λ (o : Operation). IsAnswered (turn_start start before t) (standing_after start before) o t.events t.answer.said
        None) op answered)

-- ---- a delivery

-- blocks that are delivered are of a claim that stands
pub deliver_home : (start : RunStart) (before : List RunTurn) (t : RunTurn) (id : ℕ) (run : Run) (bytes : List ℕ) (now : Moment)
    (e : Event) → MayComeAfter start before t → t.op ≡ operation.Deliver id run bytes now → Contains t.events e
    → (download : Download) × (claim : Claim) × IsHomeOf start (history_of before) id download claim
deliver_home start before t id run bytes now e may op there =
    by (answer_before start (history_of before) t.op) may.answered
  where
    none : {P : Type 0} → t.events ≡ [] → P
    none is = none_there e (subst (λ (es : List Event). Contains es e) is there)

    by : (first : Option Said)
        → IsAnswered (turn_start start before t) (standing_after start before) t.op t.events t.answer.said first
        → (download : Download) × (claim : Claim) × IsHomeOf start (history_of before) id download claim
    by (Some first) answered = none answered.0
    by None answered =
        let at = turn_start start before t in
        let s = standing_after start before in
        let its : IsAnswered at s (operation.Deliver id run bytes now) t.events t.answer.said None =
        subst (λ (o : Operation). IsAnswered at s o t.events t.answer.said None) op answered in
        ⊎_elim (λ short. none short.1.0)
        (λ row. ⊎_elim (λ void. none void.1.0)
        (λ (home : (download : Download) × (claim : Claim) × IsHomeOf start (history_of before) id download claim
        × DeliverRow at s run bytes download claim t.events t.answer.said). (home.0, home.1, home.2)) row) its

-- ---- the whole

module _ (stay : DownloadsStay) (lengths_stay : LengthsStay) (start : RunStart) (told : List RunTurn)
    (legal : IsLegal start (history_of told)) (ties : AllTurns (MayComeAfter start) told) (gid : Gid) (download : Download)
    (added : download_in start (history_of told) gid ≡ Some download) where
  pub may_at : (newer : List RunTurn) (t : RunTurn) (before : List RunTurn) → told ≡ newer ++ t ∷ before
      → MayComeAfter start before t
  may_at newer t before cut =
      all_at (MayComeAfter start) newer t before (subst (AllTurns (MayComeAfter start)) cut ties)

  -- a claim that came alone is the one of its number
  record IsItsClaim (d : Download) (claim twin : Claim) : Type 0 where
    gids : d.gid ≡ gid
    claims : claim ≡ twin
    downloads : d ≡ download

  its_claim : (id mirror : ℕ) (its : CameAt (history_of told) gid id mirror) (newer : List RunTurn) (u : RunTurn)
      (before : List RunTurn) → told ≡ newer ++ u ∷ before → (d : Download) (claim : Claim)
      → download_in start (history_of before) d.gid ≡ Some d → u.events ≡ Claimed d.gid claim ∷ [] → claim.id ≡ id
      → IsItsClaim d claim its.claim
  its_claim id mirror its newer u before cut d claim was alone id_is =
      let came : Contains (history_of told) (Claimed d.gid claim) =
      subst (λ (l : List RunTurn). Contains (history_of l) (Claimed d.gid claim)) (sym cut)
      (alone_there newer u before (Claimed d.gid claim) alone) in
      let same = claims_one start (history_of told) d.gid gid claim its.claim legal came its.came (id_is ∙ sym its.id_is) in
      let still : download_in start (history_of told) d.gid ≡ Some d =
      subst (λ (l : List RunTurn). download_in start (history_of l) d.gid ≡ Some d) (sym cut)
      (added_on stay start newer (u ∷ before) d.gid d
      (added_after stay start (history_of before) u.events d.gid d was)) in
      record {
        gids = same.gids;
        claims = same.claims;
        downloads = same_download start (history_of told) d.gid gid d download still same.gids added;
      }

  -- the claim of a grant is the one that came under its number
  pub granted_at : (id mirror : ℕ) → CameAt (history_of told) gid id mirror → (u : RunTurn) (granted : Grant)
      → Contains told u → u.answer.said ≡ said.Grant granted → claim_of_grant granted ≡ Some id
      → GrantAt start (history_of told) gid download id mirror granted
  granted_at id mirror its u granted there is number =
      let c = cut_at told u there in
      let asked = granted_in start c.back u granted id (may_at c.front u c.back c.cut) is number in
      let came = asked.3 in
      let one = its_claim id mirror its c.front u c.back c.cut came.download came.claim came.added came.alone came.id_is in
      let asks = subst
      (λ (l : List RunTurn). IsGrantOf (known_lengths start (history_of l) came.download.gid) came.download came.claim granted)
      (sym c.cut)
      (asks_on lengths_stay start c.front u c.back granted asked.0 id
      (subst (λ (l : List RunTurn). IsLegal start (history_of l)) c.cut legal) came) in
      record {
        claim = its.claim;
        came = its.came;
        id_is = its.id_is;
        mirror_is = its.mirror_is;
        asks = grant_alike start (history_of told) came.download.gid gid came.download download came.claim its.claim granted
            one.gids one.downloads one.claims asks;
      }

  -- no probe is granted of a download with a metainfo file
  pub probe_unlisted : (id mirror : ℕ) → CameAt (history_of told) gid id mirror → (u : RunTurn) (asked_of : Gid)
      (url : List ℕ) → Contains told u → u.answer.said ≡ said.Grant (grant.Probe id asked_of url)
      → is_listed download.subject ≡ false
  probe_unlisted id mirror its u asked_of url there is =
      let c = cut_at told u there in
      let may = may_at c.front u c.back c.cut in
      let asked = granted_in start c.back u (grant.Probe id asked_of url) id may is refl in
      let came = asked.3 in
      let probes = probe_unknown start c.back u asked.0 id asked.1 asked_of url may asked.2 is in
      let one = its_claim id mirror its c.front u c.back c.cut probes.download probes.claim probes.added probes.alone
      (same_number u.events probes.download.gid came.download.gid probes.claim came.claim id probes.alone came.alone
      came.id_is) in
      same_listing probes.download download one.downloads
      (unlisted_by start (history_of c.back) probes.download probes.added probes.unknown)
