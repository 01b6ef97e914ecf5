-- A request that goes out, or doesn't.
use Rattle.std.proofs.Common.{◌≡◌, ◌^◌, ◌≤◌, ◌<◌, ◌==◌, ◌&&◌, not, Bool, true, false, ℕ, List, [], ◌∷◌, ◌++◌, length, refl, sym, ap, subst, ◌∙◌, inl, inr, arith, append-nil}
use Rattle.std.specs.Prelude.{◌⊎◌, Result, Ok, Err, MatchResult}
use Rattle.link_source.specs.Endpoint.{IsHttp}
use Rattle.link_source.specs.Exchanges.{Exchange}
use Rattle.range_http.specs.declared.asked.Asked.{Asked}
use Rattle.span_map.specs.declared.jobs.JobPart.{JobPart}
use Rattle.reply_reader.specs.Heads.{IsAtHead}
use Rattle.reply_reader.specs.declared.heads.HeadReader.{HeadReader}
use Rattle.reply_reader.specs.declared.loss.Loss.{Loss}
use Rattle.reply_reader.specs.declared.loss.Loss.TheVariants as losses
use Rattle.request_chain.specs.Chains.{Gains, received_by, TellsLoss, IsChain}
use Rattle.request_chain.specs.Courses.{plan_now, CarriesOn, IsAsking, IfAsking}
use Rattle.request_chain.specs.Exchanges.{IsExchange}
use Rattle.request_chain.specs.Fetched.{Fetched}
use Rattle.request_chain.specs.Plans.{NextAsk, Ask, Over, FetchEnding, Open, Lost as Gone, plan_of, asked_of, unusable}
use Rattle.request_chain.specs.Sending.{IsOpened, IsUnopened}
use Rattle.request_chain.specs.Stages.{IsAwaited, IsReadingHead, IsSent}
use Rattle.request_chain.specs.Turns.{Steps, StepLoses}
use Rattle.request_chain.specs.declared.chain.Chain.{Chain}
use Rattle.request_chain.specs.declared.course.Course.{Course}
use Rattle.request_chain.proofs.GainLemmas.{gains_one, received_one}
use Rattle.request_chain.proofs.Leading.{leads_end}

-- what is asked next
pub record Asks (plan : NextAsk) : Type 0 where
  pub part : JobPart
  pub others : List JobPart
  pub url : List ℕ
  pub count : ℕ
  pub status : ℕ
  pub is : plan ≡ Ask part others url count status

pub asks_of : (plan : NextAsk) → IsAsking plan → Asks plan
asks_of (Ask part others url count status) asking = record { part = part; others = others; url = url; count = count; status = status; is = refl }
asks_of (Over ending) asking = absurd asking

pub asked_in : (plan : NextAsk) (part : JobPart) (others : List JobPart) (url : List ℕ) (count status : ℕ) (P : JobPart → List JobPart → List ℕ → ℕ → ℕ → Type 0)
    → plan ≡ Ask part others url count status → IfAsking plan P → P part others url count status
asked_in plan part others url count status P is holds = subst (λ (p : NextAsk). IfAsking p P) is holds

pub asking_in : (plan : NextAsk) (part : JobPart) (others : List JobPart) (url : List ℕ) (count status : ℕ) (P : JobPart → List JobPart → List ℕ → ℕ → ℕ → Type 0)
    → plan ≡ Ask part others url count status → P part others url count status → IfAsking plan P
asking_in plan part others url count status P is holds = subst (λ (p : NextAsk). IfAsking p P) (sym is) holds

module _ (parts : List JobPart) (before used now new : List Exchange) (plan : NextAsk) (bytes : List ℕ) (asks : Asks plan) (leads : CarriesOn (plan_of parts) used bytes plan) (gains : Gains before now used) where
  asking : CarriesOn (plan_of parts) used bytes (Ask asks.part asks.others asks.url asks.count asks.status)
  asking = subst (λ (p : NextAsk). CarriesOn (plan_of parts) used bytes p) asks.is leads

  -- the request was sent
  module _ (course : Course) (plan_is : plan ≡ plan_now course) (asked : Asked) (asked_is : asked ≡ asked_of asks.part) (ordered : asked.first ≤ asked.last) (bounded : asked.last < 2 ^ 64)
      (url : List ℕ) (url_is : url ≡ asks.url) where
    abbrev opened_sent : (fresh : Bool) (opened : IsOpened url asked fresh now new) → IsSent parts (used ++ opened.stream ∷ []) course
    opened_sent fresh opened =
        let Q : List ℕ → Type 0 = λ u. IsExchange u asked opened.stream in
        let R : Asked → Type 0 = λ a. IsExchange asks.url a opened.stream in
        record {
          part = asks.part;
          others = asks.others;
          url = asks.url;
          count = asks.count;
          status = asks.status;
          asks = sym plan_is ∙ asks.is;
          older = used;
          newest = opened.stream;
          brought = bytes;
          leads = asking;
          used_is = refl;
          exchange = subst R asked_is (subst Q url_is opened.exchange);
          not_ended = opened.not_ended;
          ordered = omega (arith, ordered, ap (λ (a : Asked). a.first) asked_is, ap (λ (a : Asked). a.last) asked_is);
          bounded = omega (arith, bounded, ap (λ (a : Asked). a.last) asked_is);
        }

    pub opened_head : (reader : HeadReader) → IsAtHead [] reader → (opened : IsOpened url asked true now new) → IsReadingHead parts (used ++ opened.stream ∷ []) course [] bytes reader
    opened_head reader at opened = record {
      sent = opened_sent true opened;
      heard = ap (λ f. not f && (length opened.stream.received == 0)) opened.fresh_is;
      bytes_are = refl;
      front = [];
      received_is = opened.nothing_came;
      at = at;
    }

    pub opened_awaited : (reader : HeadReader) → IsAtHead [] reader → (opened : IsOpened url asked false now new) → IsAwaited parts (used ++ opened.stream ∷ []) course [] bytes reader
    opened_awaited reader at opened = record {
      sent = opened_sent false opened;
      bytes_are = refl;
      nothing_came = opened.nothing_came;
      kept = opened.fresh_is;
      none_waits = refl;
      at = at;
    }

  opened_gains : (stream : Exchange) → new ≡ stream ∷ now → Gains before new (used ++ stream ∷ [])
  opened_gains stream on =
      let P : List Exchange → Type 0 = λ streams. Gains before streams (used ++ stream ∷ []) in
      subst P (sym on) (gains_one used before now stream gains)

  opened_received : (stream : Exchange) → stream.received ≡ [] → received_by (used ++ stream ∷ []) ≡ received_by used
  opened_received stream none =
      let long = received_one used stream in
      let zero_long : length stream.received ≡ 0 = ap length none in
      omega arith

  pub opened_steps : (url : List ℕ) (asked : Asked) (fresh : Bool) (opened : IsOpened url asked fresh now new) (was : ℕ) (chain : Chain) → chain.taken ≡ was
      → IsChain parts (used ++ opened.stream ∷ []) bytes chain → Steps parts before used bytes new [] was chain
  opened_steps url asked fresh opened was chain taken chain_is =
      let long = opened_received opened.stream opened.nothing_came in
      let P : List ℕ → Type 0 = λ came. IsChain parts (used ++ opened.stream ∷ []) came chain in
      record {
        later = used ++ opened.stream ∷ [];
        gains = opened_gains opened.stream opened.on_top;
        taken_is = omega (arith, long, taken);
        chain_is = subst P (sym (append-nil bytes)) chain_is;
      }

  -- no request was sent
  module _ (was faults : ℕ) (chain : Chain) (taken : chain.taken ≡ was) where
    lose_same : (loss : Loss) → new ≡ now → TellsLoss parts used bytes faults loss → StepLoses parts before used bytes new [] was faults chain loss
    lose_same loss same tells =
        let P : List Exchange → Type 0 = λ streams. Gains before streams used in
        let Q : List ℕ → Type 0 = λ came. TellsLoss parts used came faults loss in
        record { later = used; gains = subst P (sym same) gains; taken_is = omega (arith, taken); tells = subst Q (sym (append-nil bytes)) tells }

    fetched_with : (ending : FetchEnding) → ((IsHttp asks.url × (ending ≡ Open)) ⊎ ((IsHttp asks.url → ⊥) × (ending ≡ Gone (unusable asks.status)))) → Fetched parts used bytes ending []
    fetched_with ending stands = leads_end parts used bytes (Ask asks.part asks.others asks.url asks.count asks.status) ending asking (refl, stands, refl)

    lose_unusable : (loss : Loss) → (IsHttp asks.url → ⊥) → loss ≡ unusable asks.status → new ≡ now → StepLoses parts before used bytes new [] was faults chain loss
    lose_unusable loss unfit is same =
        let P : Loss → Type 0 = λ l. StepLoses parts before used bytes new [] was faults chain l in
        subst P (sym is) (lose_same (unusable asks.status) same (fetched_with (Gone (unusable asks.status)) (inr (unfit, refl))))

    lose_link : (count : ℕ) → count ≡ faults → IsHttp asks.url → new ≡ now → StepLoses parts before used bytes new [] was faults chain (losses.Link count)
    lose_link count is usable same = lose_same (losses.Link count) same (fetched_with Open (inl (usable, refl)), is)

    pub unopened_loses : (url : List ℕ) (status : ℕ) → url ≡ asks.url → status ≡ asks.status → (loss : Loss) → IsUnopened url status now new faults loss
        → StepLoses parts before used bytes new [] was faults chain loss
    unopened_loses url status url_is status_is loss unopened =
        let P : List ℕ → Type 0 = λ u. IsUnopened u status now new faults loss in
        let Q : ℕ → Type 0 = λ s. IsUnopened asks.url s now new faults loss in
        lose_by loss (subst Q status_is (subst P url_is unopened))
      where
        lose_by : (loss : Loss) → IsUnopened asks.url asks.status now new faults loss → StepLoses parts before used bytes new [] was faults chain loss
        lose_by (losses.Link count) unopened = lose_link count unopened.0 unopened.1 unopened.2
        lose_by losses.NoMemory unopened = lose_same losses.NoMemory unopened tt
        lose_by losses.NotFound unopened = lose_unusable losses.NotFound unopened.1 unopened.0 unopened.2
        lose_by (losses.Refused status code) unopened = lose_unusable (losses.Refused status code) unopened.1 unopened.0 unopened.2
        lose_by losses.BadReply unopened = lose_unusable losses.BadReply unopened.1 unopened.0 unopened.2
        lose_by (losses.Length told want) unopened = lose_unusable (losses.Length told want) unopened.1 unopened.0 unopened.2
        lose_by (losses.Short got) unopened = lose_unusable (losses.Short got) unopened.1 unopened.0 unopened.2
        lose_by losses.Redirects unopened = lose_unusable losses.Redirects unopened.1 unopened.0 unopened.2

-- a request that went nowhere, and one that goes out then
pub asked_on : (parts : List JobPart) (before used mid new : List Exchange) (bytes : List ℕ) (was faults : ℕ) (chain next : Chain) (r : Result (Unit {0}) Loss)
    → (steps : Steps parts before used bytes mid [] was chain) → chain.taken ≡ was
    → MatchResult r (λ _. Steps parts before steps.later bytes new [] chain.taken next) (StepLoses parts before steps.later bytes new [] chain.taken faults next)
    → MatchResult r (λ _. Steps parts before used bytes new [] was next) (StepLoses parts before used bytes new [] was faults next)
asked_on parts before used mid new bytes was faults chain next (Ok x) steps same then =
    record { later = then.later; gains = then.gains; taken_is = omega (arith, steps.taken_is, same, then.taken_is); chain_is = then.chain_is }
asked_on parts before used mid new bytes was faults chain next (Err loss) steps same then =
    record { later = then.later; gains = then.gains; taken_is = omega (arith, steps.taken_is, same, then.taken_is); tells = then.tells }
