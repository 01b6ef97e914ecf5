-- What a step of a fetch makes of what is in hand.
use Rattle.std.proofs.Common.{◌≡◌, ◌≢◌, ◌≤◌, ◌+◌, ◌-◌, ◌++◌, ℕ, Bool, true, false, IsTrue, List, Option, Some, None, IfSome, IsSome, Result, Ok, Err, ◌↔◌, ⊎_elim, inl, inr, min, length, refl, sym, ap, subst, ◌∙◌, arith, length-append}
use Rattle.dl_kinds.specs.declared.runs.Run.{Run}
use Rattle.dl_kinds.specs.Counts.{Rose}
use Rattle.dl_kinds.specs.declared.marks.Mark.{Mark}
use Rattle.fetch_session.specs.Blocks.{cut, ready_blocks}
use Rattle.fetch_session.specs.Fetches.{Fails, FetchSteps, HandedIsFetched, IsFetch, IsFrontOfFetched, IsHeldBack, MayStep, fetch_plan, lost_of, ready_of, rest_of}
use Rattle.fetch_session.specs.declared.fetch.Got.{Got}
use Rattle.fetch_session.specs.declared.fetch.Fetch.{Fetch}
use Rattle.link_source.specs.Exchanges.{Exchange}
use Rattle.reply_reader.specs.Losses.{mark_of}
use Rattle.reply_reader.specs.declared.loss.Loss.{Loss}
use Rattle.reply_reader.specs.declared.loss.Loss.TheVariants.{NoMemory}
use Rattle.request_chain.specs.Answered.{KeepsAnswers}
use Rattle.request_chain.specs.Chains.{Gains, received_by}
use Rattle.part_fetches.specs.Losses.{TellsLoss}
use Rattle.request_chain.specs.Links.{CountsLinkLoss}
use Rattle.span_map.specs.Jobs.{run_end, run_start}
use Rattle.span_map.specs.declared.jobs.Job.{Job}
use Rattle.conn_worker.specs.Facts.{HasUsed, IsCarried, IsFetchingAt, IsGain}
use Rattle.conn_worker.specs.Hands.{Fetching, LinkAt, blocks_behind, delivered}
use Rattle.conn_worker.specs.Holding.{IsFetchInHand, IsOpenFetch, IsPartInHand, IsReadBy, IsReadInHand, IsStepInHand, MayStepOn, delivering, gain_by, gain_of}
use Rattle.conn_worker.specs.declared.hands.FetchInHand.{FetchInHand}
use Rattle.conn_worker.specs.declared.hands.Gain.{Gain}
use Rattle.conn_worker.specs.declared.hands.Gain.TheVariants.{Lost, Open, Ready, Starved}
use Rattle.conn_worker.specs.declared.hands.OpenFetch.{OpenFetch}

-- ---- losses of the link

pub rose_from : (since before now : ℕ) → since ≤ before → Rose before now → Rose since now
rose_from since before now le rose = omega (arith, le, rose)

pub counts_from : (since before now : ℕ) (loss : Loss) → since ≤ before → CountsLinkLoss before now loss
    → CountsLinkLoss since now loss
counts_from since before now loss le counts =
    λ count is. let r = counts count is in (rose_from since before now le r.0, r.1)

pub some_counts_from : (since before now : ℕ) (lost : Option Loss) → since ≤ before
    → IfSome lost (CountsLinkLoss before now) → IfSome lost (CountsLinkLoss since now)
some_counts_from since before now None le counts = tt
some_counts_from since before now (Some loss) le counts = counts_from since before now loss le counts

-- what the link was lost by stays so counted
pub lost_since : (old new : Option Loss) (since before now : ℕ) → since ≤ before
    → (old ≡ None → IfSome new (CountsLinkLoss before now))
    → IfSome old (λ loss. (new ≡ Some loss) × (now ≡ before))
    → IfSome old (CountsLinkLoss since before) → IfSome new (CountsLinkLoss since now)
lost_since None new since before now le cause held was = some_counts_from since before now new le (cause refl)
lost_since (Some loss) new since before now le cause held was =
    subst (λ lost. IfSome lost (CountsLinkLoss since now)) (sym held.0)
    (subst (λ n. CountsLinkLoss since n loss) (sym held.1) was)

module _ {T : Type 0} where
  pub none_held : (old : Option Loss) (result : Result T Loss) (got : T) → IfSome old (λ loss. result ≡ Err loss)
      → result ≡ Ok got → old ≡ None
  none_held None result got held is = refl
  none_held (Some loss) result got held is = (let e : Err loss ≡ Ok got = sym held ∙ is in cc)

  pub held_over : (old new : Option Loss) (result : Result T Loss) (loss : Loss) (before now : ℕ)
      → IfSome old (λ l. result ≡ Err l) → result ≡ Err loss → new ≡ Some loss → (IsSome old → now ≡ before)
      → IfSome old (λ l. (new ≡ Some l) × (now ≡ before))
  held_over None new result loss before now held is told same = tt
  held_over (Some l) new result loss before now held is told same =
      (let e : Err loss ≡ Err l = sym is ∙ held in let same_loss : loss ≡ l = cc in (told ∙ ap Some same_loss, same refl))

pub none_is_held : (old new : Option Loss) (before now : ℕ) → old ≡ None
    → IfSome old (λ l. (new ≡ Some l) × (now ≡ before))
none_is_held None new before now none = tt
none_is_held (Some l) new before now none = absurd (let e : Some l ≡ None = none in cc)

-- ---- what is told, by whether anything is

pub told_or : {A : Type 0} (tells : Bool) (P : A → Type 0) → A → (IsTrue tells → (x : A) × P x)
    → (x : A) × (IsTrue tells → P x)
told_or {A} true P default told = let r = told refl in (r.0, λ _. r.1)
told_or {A} false P default told = (default, λ t. absurd (let e : false ≡ true = t in cc))

-- ---- a fetch that was carried on

-- what is told of it then
pub record Later (f : Fetching) (left : ℕ) (fetch : Fetch) (link : LinkAt) (later : List Exchange) : Type 0 where
  pub gains : Gains f.since.state.exchanges link.state.exchanges later
  pub is_fetch : IsFetch f.job later f.handed fetch
  pub spent : received_by later + left ≤ f.granted
  pub more : received_by f.used ≤ received_by later

-- .. and all that was granted came, but what is left
record IsAhead (f : Fetching) (left : ℕ) (fetch : Fetch) (link : LinkAt) (later : List Exchange) : Type 0 where
  later_is : Later f left fetch link later
  exact : received_by later + left ≡ f.granted

-- one call of a link, by a fetch that began where the link had so many faults
pub record Calls (tells : Bool) (since : ℕ) (old new : Fetch) (link link' : LinkAt) : Type 0 where
  pub plan : fetch_plan new ≡ fetch_plan old
  pub rest : rest_of new ≡ rest_of old
  pub may : IsTrue tells → MayStep new link'.state
  pub lost : IfSome (lost_of new) (CountsLinkLoss since link'.faults)
  pub later : link.faults ≤ link'.faults
  pub answered : IsTrue tells → (job : Job) (before used : List Exchange) (handed : List ℕ)
      → IsFetch job used handed old → Gains before link.state.exchanges used
      → KeepsAnswers before link.state link'.state

pub later_used : (tells : Bool) (o : OpenFetch) (f : Fetching) (new : Fetch) (left : ℕ) (link link' : LinkAt)
    (later : List Exchange) → IsOpenFetch tells o f link → Calls tells f.since.faults o.fetch new link link'
    → (IsTrue tells → Later f left new link' later) → HasUsed tells f.since later link'
later_used tells o f new left link link' later is calls told = record {
  later = (let was = is.carried.used.later in let more = calls.later in omega (arith, was, more));
  gained = λ t. (told t).gains;
  answered = λ t. calls.answered t f.job f.since.state.exchanges f.used f.handed (is.fetch t)
      (is.carried.used.gained t) f.since.state.content (is.carried.used.answered t);
}

-- its plain data, one step later
abbrev pub stepped : Fetching → List Exchange → ℕ → Gain → Fetching
stepped f later left gain = record f { used = later; left = left; gain = gain }

pub later_carried : (tells : Bool) (o : OpenFetch) (f : Fetching) (new : Fetch) (left : ℕ) (link link' : LinkAt)
    (later : List Exchange) (gain : Gain) → IsOpenFetch tells o f link → Calls tells f.since.faults o.fetch new link link'
    → (IsTrue tells → Later f left new link' later) → IsCarried tells (stepped f later left gain) link'
later_carried tells o f new left link link' later gain is calls told = record {
  job = is.carried.job;
  end = is.carried.end;
  place = is.carried.place;
  used = later_used tells o f new left link link' later is calls told;
  spent = λ t. (told t).spent;
}

-- .. where no block of it became ready
pub later_open : (tells : Bool) (o : OpenFetch) (f : Fetching) (new : Fetch) (left : ℕ) (link link' : LinkAt)
    (later : List Exchange) (gain : Gain) → IsOpenFetch tells o f link → Calls tells f.since.faults o.fetch new link link'
    → (ready_of new).count ≡ 0 → (IsTrue tells → Later f left new link' later)
    → IsOpenFetch tells (record { claim = o.claim; fetch = new; left = left }) (stepped f later left gain) link'
later_open tells o f new left link link' later gain is calls none told = record {
  claim = is.claim;
  left = refl;
  plan = calls.plan ∙ is.plan;
  rest = calls.rest ∙ is.rest;
  none_ready = none;
  may = calls.may;
  lost = calls.lost;
  fetch = λ t. (told t).is_fetch;
  carried = later_carried tells o f new left link link' later gain is calls told;
}

-- the ready blocks were taken
pub record Takes (tells : Bool) (old new : Fetch) (run : Run) (bytes : List ℕ) (link : LinkAt) : Type 0 where
  pub plan : fetch_plan new ≡ fetch_plan old
  pub first : (rest_of new).first ≡ (rest_of old).first + run.count
  pub count : (rest_of new).count + run.count ≡ (rest_of old).count
  pub place : cut (fetch_plan old) (rest_of old).first + length bytes ≡ cut (fetch_plan new) (rest_of new).first
  pub none_ready : (ready_of new).count ≡ 0
  pub may : IsTrue tells → MayStep new link.state
  pub lost : lost_of new ≡ lost_of old
  pub fetch : (job : Job) (used : List Exchange) (handed : List ℕ) → IsFetch job used handed old
      → IsFetch job used (handed ++ bytes) new

run_eta : (r s : Run) → r.first ≡ s.first → r.count ≡ s.count → r ≡ s
run_eta r s first count = λ i. record { first = first i; count = count i }

pub taken_open : (tells : Bool) (o : OpenFetch) (f : Fetching) (mid new : Fetch) (left : ℕ) (link link' : LinkAt)
    (later : List Exchange) (run : Run) (bytes : List ℕ) (gain : Gain) → IsOpenFetch tells o f link
    → Calls tells f.since.faults o.fetch mid link link' → Takes tells mid new run bytes link'
    → (IsTrue tells → Later f left mid link' later)
    → IsOpenFetch tells (record { claim = o.claim; fetch = new; left = left })
    (delivered (stepped f later left gain) run bytes) link'
taken_open tells o f mid new left link link' later run bytes gain is calls takes told =
    let rest : rest_of mid ≡ f.rest = calls.rest ∙ is.rest in
    let plan : fetch_plan mid ≡ f.job.plan = calls.plan ∙ is.plan in
    let first : (rest_of new).first ≡ f.rest.first + run.count = takes.first ∙ ap (λ (r : Run). r.first + run.count) rest in
    let sum : (rest_of new).count + run.count ≡ f.rest.count = takes.count ∙ ap (λ (r : Run). r.count) rest in
    let count : (rest_of new).count ≡ f.rest.count - run.count = omega (arith, sum) in
    let carried = later_carried tells o f mid left link link' later gain is calls told in
    let place : cut f.job.plan f.rest.first + length bytes ≡ cut f.job.plan (f.rest.first + run.count) =
    subst (λ p. cut p f.rest.first + length bytes ≡ cut f.job.plan (f.rest.first + run.count)) plan
    (subst (λ (r : Run). cut (fetch_plan mid) r.first + length bytes ≡ cut f.job.plan (f.rest.first + run.count)) rest
    (takes.place ∙ (λ i. cut ((takes.plan ∙ plan) i) (first i)))) in
    record {
      claim = is.claim;
      left = refl;
      plan = takes.plan ∙ plan;
      rest = run_eta (rest_of new) (blocks_behind f.rest run) first count;
      none_ready = takes.none_ready;
      may = takes.may;
      lost = subst (λ lost. IfSome lost (CountsLinkLoss f.since.faults link'.faults)) (sym takes.lost) calls.lost;
      fetch = λ t. takes.fetch f.job later f.handed (told t).is_fetch;
      carried = record {
        job = is.carried.job;
        end = (let end = is.carried.end in omega (arith, end, sum));
        place = (let was = is.carried.place in let len = length-append f.handed bytes in omega (arith, was, place, len));
        used = carried.used;
        spent = carried.spent;
      };
    }

-- ---- what a step comes to

record IsSpent (f : Fetching) (allow left : ℕ) (fetch : Fetch) (link : LinkAt) (later : List Exchange) : Type 0 where
  ahead : IsAhead f left fetch link later
  spent : left + allow ≡ f.left
  front : IsFrontOfFetched f.job.parts later f.handed

ahead_by : (o : OpenFetch) (f : Fetching) (new : Fetch) (got : Got) (allow : ℕ) (link link' : LinkAt) (tells : Bool)
    → allow ≤ o.left → MayStepOn tells o f link
    → (s : FetchSteps f.job f.since.state.exchanges f.used f.handed link'.state.exchanges allow got new)
    → IsTrue tells → IsAhead f (o.left - got.taken) new link' s.later
ahead_by o f new got allow link link' tells within m s t =
    let all = m.exact t in
    let left = m.is.left in
    let taken = s.taken in
    let few = s.few in
    let exact : received_by s.later + (o.left - got.taken) ≡ f.granted = omega (arith, all, left, taken, few, within) in record {
      later_is = record { gains = s.gains; is_fetch = s.is_fetch; spent = omega (arith, exact); more = omega (arith, taken) };
      exact = exact;
    }

still_some : (tells : Bool) (o : OpenFetch) (f : Fetching) (new : Fetch) (link link' : LinkAt)
    → MayStepOn tells o f link → Calls tells f.since.faults o.fetch new link link' → 1 ≤ (rest_of new).count
still_some tells o f new link link' m calls =
    subst (λ (r : Run). 1 ≤ r.count) (sym (calls.rest ∙ m.is.rest)) m.some

nothing_lost : (lost : Option Loss) (ready : Run) → IfSome lost (IsHeldBack ready) → ready.count ≡ 0 → IsSome lost → ⊥
nothing_lost None ready held none some = (let e : false ≡ true = some in absurd cc)
nothing_lost (Some loss) ready held none some = (let h = held.0 in omega (arith, h, none))

-- .. by no more bytes than so many
record IsGained (f : Fetching) (allow left : ℕ) (fetch : Fetch) (link : LinkAt) (later : List Exchange) : Type 0 where
  ahead : IsAhead f left fetch link later
  few : received_by later ≤ received_by f.used + allow

open_told : (o : OpenFetch) (f : Fetching) (new : Fetch) (got : Got) (allow : ℕ) (link link' : LinkAt) (tells : Bool)
    → allow ≤ o.left → MayStepOn tells o f link → Calls tells f.since.faults o.fetch new link link'
    → got.ready.count ≡ 0 → (IsTrue got.done ↔ (got.ready.count ≡ (rest_of new).count)) → (IsSome (lost_of new) → ⊥)
    → FetchSteps f.job f.since.state.exchanges f.used f.handed link'.state.exchanges allow got new
    → IsTrue tells → (later : List Exchange) × IsSpent f allow (o.left - got.taken) new link' later
open_told o f new got allow link link' tells within m calls none done unlost s t =
    let some = still_some tells o f new link link' m calls in
    let left = m.is.left in (
      s.later,
      record {
        ahead = ahead_by o f new got allow link link' tells within m s t;
        front = record { behind = s.came; ending = s.ending; fetched = s.fetched };
        spent = ⊎_elim (λ all. absurd (let zero = done.0 all in omega (arith, none, some, zero)))
            (⊎_elim (λ full. absurd (omega (arith, none, full)))
            (⊎_elim (λ all. omega (arith, all, within, left)) (λ lost. absurd (unlost lost)))) s.full;
      },
    )

-- neither blocks nor a loss came
pub read_step : (tells : Bool) (o : OpenFetch) (f : Fetching) (new : Fetch) (got : Got) (allow : ℕ) (link link' : LinkAt)
    → allow ≤ o.left → MayStepOn tells o f link → Calls tells f.since.faults o.fetch new link link'
    → got.ready ≡ ready_of new → got.ready.count ≡ 0
    → (IsTrue got.done ↔ (got.ready.count ≡ (rest_of new).count))
    → IfSome (lost_of new) (IsHeldBack (ready_of new))
    → (IsTrue tells → FetchSteps f.job f.since.state.exchanges f.used f.handed link'.state.exchanges allow got new)
    → IsReadInHand tells allow f link'
    (record { open_fetch = record { claim = o.claim; fetch = new; left = o.left - got.taken }; gain = Open })
read_step tells o f new got allow link link' within m calls ready none done held reads =
    let none_ready : (ready_of new).count ≡ 0 = sym (ap (λ (r : Run). r.count) ready) ∙ none in
    let told = told_or tells (IsSpent f allow (o.left - got.taken) new link') f.used
    (λ t. open_told o f new got allow link link' tells within m calls none done
    (nothing_lost (lost_of new) (ready_of new) held none_ready) (reads t) t) in
    let left = o.left - got.taken in (
      stepped f told.0 left Open,
      record {
        same = refl;
        more = λ t. (told.1 t).ahead.later_is.more;
        may = record {
          is = later_open tells o f new left link link' told.0 Open m.is calls none_ready
              (λ t. (told.1 t).ahead.later_is);
          some = m.some;
          exact = λ t. (told.1 t).ahead.exact;
          front = λ t. (told.1 t).front;
        };
      },
      λ t. (told.1 t).spent,
    )

ready_told : (o : OpenFetch) (f : Fetching) (mid : Fetch) (got : Got) (allow : ℕ) (link link' : LinkAt) (tells : Bool)
    → allow ≤ o.left → MayStepOn tells o f link
    → FetchSteps f.job f.since.state.exchanges f.used f.handed link'.state.exchanges allow got mid
    → IsTrue tells → (later : List Exchange) × IsGained f allow (o.left - got.taken) mid link' later
ready_told o f mid got allow link link' tells within m s t =
    let taken = s.taken in
    let few = s.few in (
      s.later,
      record {
        ahead = ahead_by o f mid got allow link link' tells within m s t;
        few = omega (arith, taken, few);
      },
    )

not_lacking : (lost : Option Loss) (ready : Run) → IfSome lost (IsHeldBack ready) → lost ≢ Some NoMemory
not_lacking None ready held e = (let n : None ≡ Some NoMemory = e in cc)
not_lacking (Some loss) ready held e = held.1 (let n : Some loss ≡ Some NoMemory = e in cc)

-- blocks came
pub ready_step : (tells : Bool) (o : OpenFetch) (f : Fetching) (mid new : Fetch) (got : Got) (allow : ℕ)
    (bytes : List ℕ) (link link' : LinkAt) → HandedIsFetched → allow ≤ o.left → MayStepOn tells o f link
    → Calls tells f.since.faults o.fetch mid link link' → Takes tells mid new (ready_of mid) bytes link'
    → got.ready ≡ ready_of mid → 1 ≤ got.ready.count → (ready_of mid).count ≤ 64
    → (ready_of mid).count ≤ (rest_of mid).count
    → (IsTrue got.done ↔ (got.ready.count ≡ (rest_of mid).count))
    → run_start (fetch_plan mid) (ready_of mid) + length bytes ≡ run_end (fetch_plan mid) (ready_of mid)
    → IfSome (lost_of mid) (IsHeldBack (ready_of mid))
    → (IsTrue tells → FetchSteps f.job f.since.state.exchanges f.used f.handed link'.state.exchanges allow got mid)
    → IsReadInHand tells allow f link'
    (record {
      open_fetch = record { claim = o.claim; fetch = new; left = o.left - got.taken };
      gain = Ready got.ready bytes got.done;
    })
ready_step tells o f mid new got allow bytes link link' law allowed m calls takes ready some few within done len held reads =
    let left = o.left - got.taken in
    let told = told_or tells (IsGained f allow left mid link') f.used
    (λ t. ready_told o f mid got allow link link' tells allowed m (reads t) t) in
    let later : IsTrue tells → Later f left mid link' told.0 = λ t. (told.1 t).ahead.later_is in
    let gain = Ready got.ready bytes got.done in
    let g = stepped f told.0 left gain in
    let rest : rest_of mid ≡ f.rest = calls.rest ∙ m.is.rest in
    let plan : fetch_plan mid ≡ f.job.plan = calls.plan ∙ m.is.plan in
    let count : (rest_of mid).count ≡ f.rest.count = ap (λ (r : Run). r.count) rest in
    let ready_count : got.ready.count ≡ (ready_of mid).count = ap (λ (r : Run). r.count) ready in
    let open_now = taken_open tells o f mid new left link link' told.0 (ready_of mid) bytes gain m.is calls takes later in
    let open_is = subst (λ (r : Run). IsOpenFetch tells (record { claim = o.claim; fetch = new; left = left })
    (delivered g r bytes) link') (sym ready) open_now in
    let at : IsFetchingAt tells g link' = record {
      carried = later_carried tells o f mid left link link' told.0 gain m.is calls later;
      some = m.some;
      gain = (
        record {
          first = ap (λ (r : Run). r.first) ready ∙ ap (λ (r : Run). r.first) rest;
          some = some;
          few = omega (arith, few, ready_count);
          within = omega (arith, within, count, ready_count);
          all = subst (λ n. IsTrue got.done ↔ (got.ready.count ≡ n)) count done;
          len = subst (λ (r : Run). run_start f.job.plan r + length bytes ≡ run_end f.job.plan r) (sym ready)
              (subst (λ p. run_start p (ready_of mid) + length bytes ≡ run_end p (ready_of mid)) plan len);
        },
        λ t. law f.job told.0 (f.handed ++ bytes) new (takes.fetch f.job told.0 f.handed (later t).is_fetch)
            (λ e. not_lacking (lost_of mid) (ready_of mid) held (sym takes.lost ∙ e)),
        λ t. (told.1 t).ahead.exact,
      );
    } in (
      g,
      record { same = refl; more = λ t. (later t).more; at = at },
      record { gain = refl; is = open_is; at = at },
      λ t. (told.1 t).few,
    )

record IsLostBy (f : Fetching) (fetch : Fetch) (link : LinkAt) (loss : Loss) (allow : ℕ) (later : List Exchange) : Type 0 where
  later_is : Later f 0 fetch link later
  few : received_by later ≤ received_by f.used + allow
  came : List ℕ
  none_whole : (ready_blocks f.job.plan f.job.run (length f.handed) (length f.handed + length came)).count ≡ 0
  count : ℕ
  tells : TellsLoss f.job.parts later (f.handed ++ came) count loss

lost_told : (o : OpenFetch) (f : Fetching) (new : Fetch) (loss : Loss) (allow : ℕ) (link link' : LinkAt) (tells : Bool)
    → allow ≤ o.left → MayStepOn tells o f link
    → Fails f.job f.since.state.exchanges f.used f.handed link'.state.exchanges allow loss new
    → IsTrue tells → (later : List Exchange) × IsLostBy f new link' loss allow later
lost_told o f new loss allow link link' tells within m s t =
    let spent = m.is.carried.spent t in
    let left = m.is.left in
    let few = s.few in (
      s.later,
      record {
        later_is = record { gains = s.gains; is_fetch = s.is_fetch; spent = omega (arith, spent, left, few, within); more = s.more };
        few = few;
        came = s.came;
        none_whole = s.none_whole;
        count = s.count;
        tells = s.tells;
      },
    )

lost_by : (tells : Bool) (o : OpenFetch) (f : Fetching) (new : Fetch) (loss : Loss) (allow : ℕ) (link link' : LinkAt)
    (mark : Option Mark) → mark_of loss ≡ mark → MayStepOn tells o f link
    → Calls tells f.since.faults o.fetch new link link' → (ready_of new).count ≡ 0
    → CountsLinkLoss f.since.faults link'.faults loss
    → (told : (later : List Exchange) × (IsTrue tells → IsLostBy f new link' loss allow later))
    → IsReadBy tells allow f link' (record { claim = o.claim; fetch = new; left = 0 }) (gain_by loss mark)
lost_by tells o f new loss allow link link' None is m calls none counts told =
    let g = stepped f told.0 0 Starved in
    let at : IsFetchingAt tells g link' = record {
      carried = later_carried tells o f new 0 link link' told.0 Starved m.is calls (λ t. (told.1 t).later_is);
      some = m.some;
      gain = tt;
    } in (
      g,
      record { same = refl; more = λ t. (told.1 t).later_is.more; at = at },
      record {
        gain = refl;
        is = later_open tells o f new 0 link link' told.0 Starved m.is calls none (λ t. (told.1 t).later_is);
        at = at;
      },
      λ t. (told.1 t).few,
    )
lost_by tells o f new loss allow link link' (Some mark) is m calls none counts told =
    let gain = Lost loss mark in
    let g = stepped f told.0 0 gain in
    let at : IsFetchingAt tells g link' = record {
      carried = later_carried tells o f new 0 link link' told.0 gain m.is calls (λ t. (told.1 t).later_is);
      some = m.some;
      gain = (
        is,
        counts,
        λ t. let s = told.1 t in record { came = s.came; none_whole = s.none_whole; count = s.count; tells = s.tells },
      );
    } in (
      g,
      record { same = refl; more = λ t. (told.1 t).later_is.more; at = at },
      record {
        gain = refl;
        is = later_open tells o f new 0 link link' told.0 gain m.is calls none (λ t. (told.1 t).later_is);
        at = at;
      },
      λ t. (told.1 t).few,
    )

-- the rest is lost
pub lost_step : (tells : Bool) (o : OpenFetch) (f : Fetching) (new : Fetch) (loss : Loss) (allow : ℕ)
    (link link' : LinkAt) → allow ≤ o.left → MayStepOn tells o f link → Calls tells f.since.faults o.fetch new link link'
    → (ready_of new).count ≡ 0 → lost_of new ≡ Some loss
    → (IsTrue tells → Fails f.job f.since.state.exchanges f.used f.handed link'.state.exchanges allow loss new)
    → IsReadInHand tells allow f link'
    (record { open_fetch = record { claim = o.claim; fetch = new; left = 0 }; gain = gain_of loss })
lost_step tells o f new loss allow link link' within m calls none lost reads =
    lost_by tells o f new loss allow link link' (mark_of loss) refl m calls none
    (subst (λ l. IfSome l (CountsLinkLoss f.since.faults link'.faults)) lost calls.lost)
    (told_or tells (λ later. IsLostBy f new link' loss allow later) f.used
    (λ t. lost_told o f new loss allow link link' tells within m (reads t) t))

-- ---- several reads

-- a fetch of which no block is ready, and which may take no more
pub waits_in_hand : (tells : Bool) (o : OpenFetch) (f : Fetching) (link : LinkAt) → f.gain ≡ Open
    → MayStepOn tells o f link → (IsTrue tells → f.left ≡ 0)
    → IsFetchInHand tells (record { open_fetch = o; gain = Open }) f link
waits_in_hand tells o f link gain m none = record {
  gain = sym gain;
  is = subst (λ g. IsOpenFetch tells o (delivering f g) link) (sym gain) m.is;
  at = record {
    carried = m.is.carried;
    some = m.some;
    gain = subst (λ g. IsGain tells f link g) (sym gain) (none, m.exact, m.front);
  };
}

-- all that it may take was read
pub read_whole : (tells : Bool) (allow : ℕ) (f : Fetching) (link : LinkAt) (o : OpenFetch) (gain : Gain) → f.left ≡ allow
    → IsReadBy tells allow f link o gain → IsStepInHand tells f link (record { open_fetch = o; gain = gain })
read_whole tells allow f link o Open whole read =
    let g : Fetching = read.0 in
    let on = read.1 in
    let opened : g.gain ≡ Open = ap (λ (x : Fetching). x.gain) on.same in
    let waits = waits_in_hand tells o g link opened on.may
    (λ t. let left = read.2 t in omega (arith, left, whole)) in (
      g,
      record {
        same = on.same ∙ ap (λ (gained : Gain). record f { used = g.used; left = g.left; gain = gained }) (sym opened);
        more = on.more;
        at = waits.at;
      },
      waits,
    )
read_whole tells allow f link o (Ready run bytes last) whole read = (read.0, read.1, read.2)
read_whole tells allow f link o (Lost loss mark) whole read = (read.0, read.1, read.2)
read_whole tells allow f link o Starved whole read = (read.0, read.1, read.2)

-- how many bytes a step reads first
pub part_of : (tells : Bool) (o : OpenFetch) (f : Fetching) (link : LinkAt) (part allow : ℕ) → allow ≡ min part o.left
    → MayStepOn tells o f link → allow ≡ min part f.left
part_of tells o f link part allow is m = is ∙ ap (λ (n : ℕ). min part n) m.is.left

pub read_opened : (tells : Bool) (allow : ℕ) (f : Fetching) (link : LinkAt) (h : FetchInHand) → h.gain ≡ Open
    → IsReadInHand tells allow f link h → IsReadBy tells allow f link h.open_fetch Open
read_opened tells allow f link h opened read = subst (λ (g : Gain). IsReadBy tells allow f link h.open_fetch g) opened read

-- the first read was the step
pub read_once : (tells : Bool) (part : ℕ) (f : Fetching) (link : LinkAt) (o : OpenFetch) (gain : Gain)
    → (gain ≡ Open → ⊥) → IsReadBy tells part f link o gain
    → IsPartInHand tells part f link (record { open_fetch = o; gain = gain })
read_once tells part f link o Open closed read = absurd (closed refl)
read_once tells part f link o (Ready run bytes last) closed read = (read.0, read.1, read.2, inl read.3)
read_once tells part f link o (Lost loss mark) closed read = (read.0, read.1, read.2, inl read.3)
read_once tells part f link o Starved closed read = (read.0, read.1, read.2, inl read.3)

-- nothing may be taken any more
pub read_none : (tells : Bool) (o : OpenFetch) (f : Fetching) (link : LinkAt) → o.left ≡ 0 → f.gain ≡ Open
    → MayStepOn tells o f link → IsStepInHand tells f link (record { open_fetch = o; gain = Open })
read_none tells o f link spent opened m =
    let left = m.is.left in
    let waits = waits_in_hand tells o f link opened m (λ t. omega (arith, left, spent)) in
    (f, record { same = refl; more = λ t. omega arith; at = waits.at }, waits)

-- the step was made behind a first read, of a part that brought nothing
pub read_further : (tells : Bool) (part : ℕ) (o : OpenFetch) (f : Fetching) (link link' : LinkAt) (h : FetchInHand)
    → (read : IsReadBy tells part f link o Open) → IsStepInHand tells read.0 link' h → IsPartInHand tells part f link' h
read_further tells part o f link link' h read step =
    let on = read.1 in
    let k : Fetching = step.0 in (
      k,
      record {
        same = step.1.same
            ∙ ap (λ (x : Fetching). record x { used = k.used; left = k.left; gain = k.gain }) on.same;
        more = λ t. let first = on.more t in let then = step.1.more t in omega (arith, first, then);
        at = step.1.at;
      },
      step.2,
      inr (record { o = o; link = link; g = read.0; on = on; part_is = read.2 }),
    )

-- a step in parts is one
pub part_is_step : (tells : Bool) (part : ℕ) (f : Fetching) (link : LinkAt) (h : FetchInHand)
    → IsPartInHand tells part f link h → IsStepInHand tells f link h
part_is_step tells part f link h step = (step.0, step.1, step.2)
