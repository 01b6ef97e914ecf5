-- A search for a resource, by its streams.
use Rattle.std.proofs.Common.{◌≡◌, ℕ, ◌+◌, ◌≤◌, true, false, List, [], ◌∷◌, ◌++◌, refl, sym, ap, subst, ◌∙◌, inl, inr, append_assoc, append-nil}
use Rattle.std.proofs.lemmas.Bool.{le-leb}
use Rattle.std.specs.Prelude.{◌⊎◌, Option, Some, None, Result, Ok, Err, MatchResult, unwrap_or, codes, nat_le}
use Rattle.link_source.specs.Exchanges.{Exchange}
use Rattle.http_heads.specs.declared.head.Head.{Head}
use Rattle.range_http.specs.declared.verdict.Verdict.{Verdict}
use Rattle.range_http.specs.declared.verdict.Verdict.TheVariants.{Moved}
use Rattle.http_heads.specs.Fields.{sole}
use Rattle.range_http.specs.Fields.{values_of}
use Rattle.range_http.specs.Verdict.{verdict_of}
use Rattle.reply_reader.specs.declared.loss.Loss.{Loss}
use Rattle.reply_reader.specs.declared.loss.Loss.TheVariants as losses
use Rattle.link_source.specs.Endpoint.{IsHttp}
use Rattle.request_chain.specs.Chains.{Gains}
use Rattle.request_chain.specs.Contents.{IsOwn}
use Rattle.request_chain.specs.Plans.{unusable}
use Rattle.request_chain.specs.Probes.{Probe, Due, Away, Lost, probe_asked, probe_by, Search, At, Found, search_at, next_search, ProbedBy, Probed, TellsProbeLoss}
use Rattle.request_chain.specs.Redirects.{moved_to}
use Rattle.request_chain.specs.declared.course.TheConstants.{REDIRECT_LIMIT}
use Rattle.request_chain.specs.Searches.{AsksForHead, HasHead, HasHeadAnd, NewestTells, HeadLost, SearchLeads}
use Rattle.request_chain.specs.Sending.{IsUnopened}
use Rattle.request_chain.proofs.GainLemmas.{gains_one}
use Rattle.request_chain.proofs.MovedLemmas.{moved_location}

pub none_of : {X : Type 0} (o : Option X) → ((x : X) → o ≡ Some x → ⊥) → o ≡ None
none_of None never = refl
none_of (Some x) never = absurd (never x refl)

search_end : (search next : Search) (used : List Exchange) (probe : Probe) → SearchLeads search used next → ProbedBy next [] probe → ProbedBy search used probe
search_end search next used probe leads by =
    let P : List Exchange → Type 0 = λ streams. ProbedBy search streams probe in
    subst P (append-nil used) (leads [] probe by)

-- a loss that is told as it is
own_tells : (url : List ℕ) (used : List Exchange) (faults : ℕ) (loss : Loss) → IsOwn loss → Probed url used (Lost loss) → TellsProbeLoss url used faults loss
own_tells url used faults (losses.Link count) own probed = absurd own
own_tells url used faults losses.NoMemory own probed = tt
own_tells url used faults losses.NotFound own probed = probed
own_tells url used faults (losses.Refused status code) own probed = probed
own_tells url used faults losses.BadReply own probed = probed
own_tells url used faults (losses.Length told want) own probed = probed
own_tells url used faults (losses.Short got) own probed = probed
own_tells url used faults losses.Redirects own probed = probed

-- what the head tells
pub head_tells : (url : List ℕ) (before now : List Exchange) (head : Head) → HasHead url before now head → (told : Probe) → probe_by head (verdict_of head probe_asked) ≡ told
    → NewestTells url before now told
head_tells url before now head has told is = (has.stream, has.on_top, (has.exchange, has.fresh_is, inr (inr (head, has.used, has.begins, sym is))))

-- that the resource was moved
pub head_moves : (url : List ℕ) (before now : List Exchange) (head : Head) → HasHead url before now head → verdict_of head probe_asked ≡ Moved
    → (text : List ℕ) × (sole (values_of head (codes "location")) ≡ Some text) × NewestTells url before now (Away head.status text)
head_moves url before now head has is =
    let place = moved_location head probe_asked is in (
      place.0,
      place.1,
      head_tells url before now head has (Away head.status place.0)
          (ap (λ (v : Verdict). probe_by head v) is ∙ ap (λ (t : Option (List ℕ)). let told : Probe = Away head.status (unwrap_or t []) in told) place.1),
    )

-- a loss of the heads is a loss of the request
pub heads_or : (url : List ℕ) (status : ℕ) (before now : List Exchange) (waiting : List ℕ) (faults : ℕ) (r : Result Head Loss)
    → MatchResult r (HasHeadAnd url before now waiting) (HeadLost url before now faults) → AsksForHead url status before r now waiting faults
heads_or url status before now waiting faults (Ok head) is = is
heads_or url status before now waiting faults (Err loss) is = inr is

module _ (url hop : List ℕ) (count status : ℕ) (before now new used : List Exchange) (gains : Gains before now used) (leads : SearchLeads (At url 0 0) used (At hop count status)) where
  gains_on : (stream : Exchange) → new ≡ stream ∷ now → Gains before new (used ++ stream ∷ [])
  gains_on stream on =
      let P : List Exchange → Type 0 = λ streams. Gains before streams (used ++ stream ∷ []) in
      subst P (sym on) (gains_one used before now stream gains)

  -- the newest stream told this, and this is next
  pub search_on : (told : Probe) (next : Search) → (tells : NewestTells hop now new told) → next_search hop count told ≡ next
      → Gains before new (used ++ tells.0 ∷ []) × SearchLeads (At url 0 0) (used ++ tells.0 ∷ []) next
  search_on told next tells is =
      let P : Search → Type 0 = λ s. SearchLeads (At url 0 0) (used ++ tells.0 ∷ []) s in
      let on : P (next_search hop count told) = λ streams probe by.
      let Q : List Exchange → Type 0 = λ all. ProbedBy (At url 0 0) all probe in
      subst Q (sym (append_assoc used (tells.0 ∷ []) streams)) (leads (tells.0 ∷ streams) probe (told, tells.2, by)) in
      (gains_on tells.0 tells.1, subst P is on)

  pub found : (told probe : Probe) → NewestTells hop now new told → next_search hop count told ≡ Found probe
      → (x : List Exchange) × Gains before new x × Probed url x probe
  found told probe tells is =
      let on = search_on told (Found probe) tells is in
      (used ++ tells.0 ∷ [], on.0, search_end (At url 0 0) (Found probe) (used ++ tells.0 ∷ []) probe on.1 (refl, refl))

  pub loss_found : (faults : ℕ) (loss : Loss) (told : Probe) → IsOwn loss → NewestTells hop now new told → next_search hop count told ≡ Found (Lost loss)
      → (x : List Exchange) × Gains before new x × TellsProbeLoss url x faults loss
  loss_found faults loss told own tells is =
      let at = found told (Lost loss) tells is in
      (at.0, at.1, own_tells url at.0 faults loss own at.2)

  module _ (faults : ℕ) where
    -- what a loss tells, by some streams
    abbrev Loss_told : Loss → Type 0
    Loss_told loss = (x : List Exchange) × Gains before new x × TellsProbeLoss url x faults loss

    same_gains : new ≡ now → Gains before new used
    same_gains same = let P : List Exchange → Type 0 = λ streams. Gains before streams used in subst P (sym same) gains

    own_lost : (loss : Loss) → IsOwn loss → ((loss ≡ unusable status) × (IsHttp hop → ⊥) × (new ≡ now)) ⊎ NewestTells hop now new (Lost loss) → Loss_told loss
    own_lost loss own lost = elim lost [
      | inl unfit ↦ (used, same_gains unfit.2, own_tells url used faults loss own (search_end (At url 0 0) (At hop count status) used (Lost loss) leads (inr (unfit.1, ap (λ l. let p : Probe = Lost l in p) unfit.0))))
      | inr tells ↦ loss_found faults loss (Lost loss) own tells refl
    ]

    link_found : (count : ℕ) → count ≡ faults → NewestTells hop now new Due → Loss_told (losses.Link count)
    link_found n is tells = let at = found Due Due tells refl in (at.0, at.1, (at.2, is))

    pub ask_loses : (loss : Loss) → IsUnopened hop status now new faults loss ⊎ HeadLost hop now new faults loss → Loss_told loss
    ask_loses (losses.Link n) lost = elim lost [
      | inl unsent ↦ (used, same_gains unsent.2, (search_end (At url 0 0) (At hop count status) used Due leads (inl (unsent.1, refl)), unsent.0))
      | inr head ↦ link_found n head.0 head.1
    ]
    ask_loses losses.NoMemory lost = elim lost [
      | inl same ↦ (used, same_gains same, tt)
      | inr on ↦ (used ++ on.0 ∷ [], gains_on on.0 on.1, tt)
    ]
    ask_loses losses.NotFound lost = own_lost losses.NotFound tt lost
    ask_loses (losses.Refused status code) lost = own_lost (losses.Refused status code) tt lost
    ask_loses losses.BadReply lost = own_lost losses.BadReply tt lost
    ask_loses (losses.Length told want) lost = own_lost (losses.Length told want) tt lost
    ask_loses (losses.Short got) lost = own_lost (losses.Short got) tt lost
    ask_loses losses.Redirects lost = own_lost losses.Redirects tt lost

  -- it was moved too often
  pub moved_often : (text : List ℕ) (by : ℕ) → 20 ≤ count → NewestTells hop now new (Away by text)
      → (x : List Exchange) × Gains before new x × Probed url x (Lost losses.Redirects)
  moved_often text by often tells =
      let is : nat_le REDIRECT_LIMIT count ≡ true = le-leb 20 count often in
      let next : next_search hop count (Away by text) ≡ Found (Lost losses.Redirects) = rw is refl in
      found (Away by text) (Lost losses.Redirects) tells next

  -- where it may be moved again
  next_is : (text : List ℕ) (to : Option (List ℕ)) (by : ℕ) → nat_le REDIRECT_LIMIT count ≡ false → moved_to hop text ≡ to
      → next_search hop count (Away by text) ≡ search_at to (count + 1) by
  next_is text to by few is =
      let P : Option (List ℕ) → Type 0 = λ t. next_search hop count (Away by text) ≡ search_at t (count + 1) by in
      subst P is (rw few refl)

  pub moved_on : (text to : List ℕ) (by : ℕ) → nat_le REDIRECT_LIMIT count ≡ false → moved_to hop text ≡ Some to → NewestTells hop now new (Away by text)
      → (x : List Exchange) × Gains before new x × SearchLeads (At url 0 0) x (At to (count + 1) by)
  moved_on text to by few is tells =
      let on = search_on (Away by text) (At to (count + 1) by) tells (next_is text (Some to) by few is) in
      (used ++ tells.0 ∷ [], on.0, on.1)

  pub moved_nowhere : (faults : ℕ) (text : List ℕ) (by : ℕ) (loss : Loss) → nat_le REDIRECT_LIMIT count ≡ false → NewestTells hop now new (Away by text)
      → ((loss ≡ losses.NoMemory) ⊎ ((loss ≡ unusable by) × (moved_to hop text ≡ None)))
      → (x : List Exchange) × Gains before new x × TellsProbeLoss url x faults loss
  moved_nowhere faults text by loss few tells lost =
      let P : Loss → Type 0 = λ l. (x : List Exchange) × Gains before new x × TellsProbeLoss url x faults l in
      elim lost [
        | inl room ↦ subst P (sym room) (used ++ tells.0 ∷ [], gains_on tells.0 tells.1, tt)
        | inr none ↦ subst P (sym none.0) (loss_found faults (unusable by) (Away by text) tt tells (next_is text None by few none.1))
      ]
