-- What turns bring is what came for the claim that was granted last.
use Rattle.std.proofs.Common.{◌≡◌, ◌<◌, ◌+◌, ◌∷◌, ◌++◌, ℕ, zero, suc, Bool, true, false, List, [], length, Option, Some, None, refl, sym, ap, subst, ◌∙◌, arith, append_assoc}
use Rattle.std.proofs.lemmas.List.{append-nil}
use Rattle.std.proofs.lemmas.List.Elements.{All-nil, All-push}
use Rattle.dl_kinds.specs.declared.gid.Gid.{Gid}
use Rattle.dl_kinds.specs.declared.marks.Mark.{Mark}
use Rattle.dl_kinds.specs.declared.runs.Moment.{Moment}
use Rattle.dl_kinds.specs.Counts.{Rose}
use Rattle.engine_turns.specs.RunTurns.{brought_bytes}
use Rattle.engine_turns.specs.Told.{RunTurn}
use Rattle.engine_turns.specs.declared.operations.FetchGrant.{FetchGrant}
use Rattle.engine_turns.specs.declared.operations.Grant.{Grant}
use Rattle.engine_turns.specs.declared.operations.Grant.TheVariants as grant
use Rattle.engine_turns.specs.declared.operations.Operation.{Operation}
use Rattle.engine_turns.specs.declared.operations.Said.{Said}
use Rattle.engine_turns.specs.declared.operations.Said.TheVariants as said
use Rattle.fetch_session.specs.Blocks.{cut}
use Rattle.fetch_session.specs.Fetches.{IsFrontOfFetched}
use Rattle.reply_reader.specs.Losses.{mark_of}
use Rattle.reply_reader.specs.declared.loss.Loss.{Loss}
use Rattle.reply_reader.specs.declared.loss.Loss.TheVariants.{Link}
use Rattle.request_chain.specs.Links.{CountsLinkLoss}
use Rattle.span_map.specs.Jobs.{run_end, run_start}
use Rattle.span_map.specs.declared.jobs.Job.{Job}
use Rattle.conn_worker.specs.Brought.{BringsWhatCame, EndsClaim, IsLaterLink, LastGrant, TurnsBringWhatCame, brought_in}
use Rattle.conn_worker.specs.Facts.{HasUsed, IsFetchingAt, IsGain, IsProbingAt, IsProbeEnd, TellsRest}
use Rattle.conn_worker.specs.Hands.{Fetching, Hand, Nothing, Fetches, Probes, Seals, LinkAt, Probing, WorkerAt, allowing, begun_fetch, delivered, fresh}
use Rattle.conn_worker.specs.Sound.{NoGrant}
use Rattle.conn_worker.specs.Table.{FollowsAnswer, FollowsDelivery, FollowsFetch, FollowsGrant, FollowsKept, FollowsMore, LeavesFetch, StepsOn, due_op, end_behind, fetch_op, goes_on_by, probe_op}
use Rattle.conn_worker.specs.Works.{EndsOrGoesOn, Works, turn_moment}
use Rattle.conn_worker.specs.declared.ends.WorkEnd.{WorkEnd}
use Rattle.conn_worker.specs.declared.hands.Gain.{Gain}
use Rattle.conn_worker.specs.declared.hands.Gain.TheVariants.{Lost, Open, Ready, Starved}
use Rattle.conn_worker.specs.declared.hands.ProbeEnd.{ProbeEnd}
use Rattle.conn_worker.specs.declared.hands.ProbeEnd.TheVariants.{Told, Missed, Lacking}
use Rattle.conn_worker.proofs.Allowing.{ended_goes, fetch_followed, nothing_followed, probe_followed, seal_followed}
use Rattle.conn_worker.proofs.Later.{receives_later}
use Rattle.conn_worker.proofs.Turns.{one_more}

-- ---- counts

abbrev count_in : Option Mark → ℕ
count_in None = 0
count_in (Some mark) = mark.count

-- a mark with a count is that of a failed link
counted : (since now : ℕ) (loss : Loss) (mark : Mark) → mark_of loss ≡ Some mark → CountsLinkLoss since now loss
    → 0 < mark.count → Rose since now × (mark.count ≡ now)
counted since now (Link count) mark is counts some =
    let same : count ≡ mark.count = ap count_in is in
    let r = counts count refl in (r.0, sym same ∙ r.1)
counted since now loss mark is counts some =
    let none : 0 ≡ mark.count = ap count_in is in absurd (omega (arith, none, some))

brought_more : (ts : List RunTurn) (t : RunTurn) → brought_in (ts ++ t ∷ []) ≡ brought_in ts ++ brought_bytes t.op
brought_more [] t = append-nil (brought_bytes t.op)
brought_more (u ∷ ts) t = ap (λ (l : List ℕ). brought_bytes u.op ++ l) (brought_more ts t)
    ∙ sym (append_assoc (brought_bytes u.op) (brought_in ts) (brought_bytes t.op))

module _ (tells : Bool) (worker : ℕ) (link : LinkAt) where
  -- ---- what is in hand was granted

  -- the fetch is of the last grant, and what turns brought since is delivered
  record OfGrant (turns : List RunTurn) (f : Fetching) : Type 0 where
    granted : FetchGrant
    last : LastGrant tells worker link turns (grant.Fetch granted)
    claim : f.claim ≡ granted.claim
    job : f.job ≡ granted.job
    since : f.since ≡ last.at.link
    handed : f.handed ≡ brought_in last.behind

  record HoldsFetch (turns : List RunTurn) (f : Fetching) (now : LinkAt) : Type 0 where
    of_grant : OfGrant turns f
    at : (f.gain ≡ Open → ⊥) → IsFetchingAt tells f now

  record HoldsProbe (turns : List RunTurn) (p : Probing) (now : LinkAt) : Type 0 where
    gid : Gid
    last : LastGrant tells worker link turns (grant.Probe p.claim gid p.url)
    since : p.since ≡ last.at.link
    at : IsProbingAt tells p now

  abbrev IsGranted : List RunTurn → Hand → LinkAt → Type 0
  IsGranted turns Nothing now = Unit {0}
  IsGranted turns (Fetches f) now = HoldsFetch turns f now
  IsGranted turns (Probes p) now = HoldsProbe turns p now
  IsGranted turns (Seals gid sealed) now =
      LastGrant tells worker link turns (grant.Hash gid sealed.piece sealed.bytes)

  -- ---- the turn that is due

  fetch_brings : (turns : List RunTurn) (f : Fetching) (now : LinkAt) (moment : Moment) (gain : Gain) → f.gain ≡ gain
      → HoldsFetch turns f now → BringsWhatCame tells worker link turns now (fetch_op worker f moment gain)
  fetch_brings turns f now moment (Ready run bytes end) is h =
      let at = h.at (λ opened. let no : Ready run bytes end ≡ Open = sym is ∙ opened in cc) in
      let o = h.of_grant in
      let gained = subst (λ (g : Gain). IsGain tells f now g) is at.gain in
      let ready = gained.0 in
      let place : run_start f.job.plan f.job.run + length f.handed ≡ cut f.job.plan run.first = at.carried.place
      ∙ ap (λ n. cut f.job.plan n) (sym ready.first) in record {
        granted = o.granted;
        claim_is = o.claim;
        last = o.last;
        used = f.used;
        used_is = subst (λ (l : LinkAt). HasUsed tells l f.used now) o.since at.carried.used;
        next = subst (λ (j : Job). run_start j.plan j.run + length (brought_in o.last.behind) ≡ cut j.plan run.first) o.job
            (subst (λ (l : List ℕ). run_start f.job.plan f.job.run + length l ≡ cut f.job.plan run.first) o.handed place);
        len = subst (λ (j : Job). run_start j.plan run + length bytes ≡ run_end j.plan run) o.job ready.len;
        told = λ t. subst (λ (j : Job). IsFrontOfFetched j.parts f.used (brought_in o.last.behind ++ bytes)) o.job
            (subst (λ (l : List ℕ). IsFrontOfFetched f.job.parts f.used (l ++ bytes)) o.handed (gained.1 t));
      }
  fetch_brings turns f now moment (Lost loss mark) is h =
      let at = h.at (λ opened. let no : Lost loss mark ≡ Open = sym is ∙ opened in cc) in
      let o = h.of_grant in
      let gained = subst (λ (g : Gain). IsGain tells f now g) is at.gain in record {
        granted = grant.Fetch o.granted;
        claim_is = ap Some (sym o.claim);
        last = o.last;
        used = f.used;
        used_is = subst (λ (l : LinkAt). HasUsed tells l f.used now) o.since at.carried.used;
        loss = loss;
        mark_is = gained.0;
        told = λ t. subst (λ (j : Job). TellsRest j f.used (brought_in o.last.behind) loss) o.job
            (subst (λ (l : List ℕ). TellsRest f.job f.used l loss) o.handed (gained.2 t));
        count = counted o.last.at.link.faults now.faults loss mark gained.0
            (subst (λ (l : LinkAt). CountsLinkLoss l.faults now.faults loss) o.since gained.1);
      }
  fetch_brings turns f now moment Open is h =
      let o = h.of_grant in record { granted = o.granted; claim_is = o.claim; last = o.last }
  fetch_brings turns f now moment Starved is h = refl

  probe_brings : (turns : List RunTurn) (p : Probing) (now : LinkAt) (moment : Moment) (end : ProbeEnd) → p.end ≡ end
      → HoldsProbe turns p now → BringsWhatCame tells worker link turns now (probe_op worker p.claim moment end)
  probe_brings turns p now moment (Told total) is h =
      let told = subst (λ (e : ProbeEnd). IsProbeEnd tells p now e) is h.at.end in record {
        gid = h.gid;
        url = p.url;
        last = h.last;
        used = p.used;
        used_is = subst (λ (l : LinkAt). HasUsed tells l p.used now) h.since h.at.used;
        told = told;
      }
  probe_brings turns p now moment (Missed loss mark) is h =
      let lost = subst (λ (e : ProbeEnd). IsProbeEnd tells p now e) is h.at.end in record {
        granted = grant.Probe p.claim h.gid p.url;
        claim_is = refl;
        last = h.last;
        used = p.used;
        used_is = subst (λ (l : LinkAt). HasUsed tells l p.used now) h.since h.at.used;
        loss = loss;
        mark_is = lost.0;
        told = lost.2;
        count = counted h.last.at.link.faults now.faults loss mark lost.0
            (subst (λ (l : LinkAt). CountsLinkLoss l.faults now.faults loss) h.since lost.1);
      }
  probe_brings turns p now moment Lacking is h = refl

  hand_brings : (turns : List RunTurn) (hand : Hand) (now : LinkAt) (moment : Moment) → IsGranted turns hand now
      → BringsWhatCame tells worker link turns now (due_op worker hand moment)
  hand_brings turns Nothing now moment is = refl
  hand_brings turns (Fetches f) now moment is = fetch_brings turns f now moment f.gain refl is
  hand_brings turns (Probes p) now moment is = probe_brings turns p now moment p.end refl is
  hand_brings turns (Seals gid sealed) now moment is = is

  -- ---- one turn more

  -- a turn that grants nothing is behind the last grant
  later_grant : (turns : List RunTurn) (granted : Grant) (t : RunTurn) → NoGrant t.answer.said
      → LastGrant tells worker link turns granted → LastGrant tells worker link (turns ++ t ∷ []) granted
  later_grant turns granted t none l = record {
    before = l.before;
    turn = l.turn;
    behind = l.behind ++ t ∷ [];
    cut_is = ap (λ (ts : List RunTurn). ts ++ t ∷ []) l.cut_is ∙ append_assoc l.before (l.turn ∷ l.behind) (t ∷ []);
    said_is = l.said_is;
    none_behind = All-push (λ (u : RunTurn). NoGrant u.answer.said) l.behind t l.none_behind none;
    at = l.at;
    works = l.works;
  }

  new_grant : (turns : List RunTurn) (granted : Grant) (t : RunTurn) (a : WorkerAt) → t.answer.said ≡ said.Grant granted
      → Works tells worker turns (fresh link) a None → LastGrant tells worker link (turns ++ t ∷ []) granted
  new_grant turns granted t a is works = record {
    before = turns;
    turn = t;
    behind = [];
    cut_is = refl;
    said_is = is;
    none_behind = All-nil (λ (u : RunTurn). NoGrant u.answer.said);
    at = a;
    works = works;
  }

  -- the fetch goes on, by what of it the turn brought
  later_of : (turns : List RunTurn) (f g : Fetching) (t : RunTurn) → NoGrant t.answer.said → OfGrant turns f
      → g.claim ≡ f.claim → g.job ≡ f.job → g.since ≡ f.since → g.handed ≡ f.handed ++ brought_bytes t.op
      → OfGrant (turns ++ t ∷ []) g
  unfolding later_grant
  later_of turns f g t none o claim job since handed = record {
    granted = o.granted;
    last = later_grant turns (grant.Fetch o.granted) t none o.last;
    claim = claim ∙ o.claim;
    job = job ∙ o.job;
    since = since ∙ o.since;
    handed = handed ∙ (ap (λ (l : List ℕ). l ++ brought_bytes t.op) o.handed ∙ sym (brought_more o.last.behind t));
  }

  same_of : (turns : List RunTurn) (f g : Fetching) → OfGrant turns f → g.claim ≡ f.claim → g.job ≡ f.job
      → g.since ≡ f.since → g.handed ≡ f.handed → OfGrant turns g
  same_of turns f g o claim job since handed = record {
    granted = o.granted;
    last = o.last;
    claim = claim ∙ o.claim;
    job = job ∙ o.job;
    since = since ∙ o.since;
    handed = handed ∙ o.handed;
  }

  steps_granted : (turns : List RunTurn) (base : Fetching) (hand' : Hand) (link' : LinkAt) → OfGrant turns base
      → StepsOn tells base hand' link' → IsGranted turns hand' link'
  steps_granted turns base hand' link' o s =
      let g : Fetching = s.0 in
      let same = s.1.same in
      subst (λ (h : Hand). IsGranted turns h link') (sym s.2) (record {
        of_grant = same_of turns base g o (ap (λ (x : Fetching). x.claim) same) (ap (λ (x : Fetching). x.job) same)
            (ap (λ (x : Fetching). x.since) same) (ap (λ (x : Fetching). x.handed) same);
        at = λ opened. s.1.at;
      })

  waits_granted : (turns : List RunTurn) (base : Fetching) (now : LinkAt) (hand' : Hand) (link' : LinkAt)
      → base.gain ≡ Open → OfGrant turns base → LeavesFetch base now hand' link' → IsGranted turns hand' link'
  waits_granted turns base now hand' link' opened o leaves =
      subst (λ (h : Hand). IsGranted turns h link') (sym leaves.0)
      (record { of_grant = o; at = λ closed. absurd (closed opened) })

  nothing_granted : (turns : List RunTurn) (hand' : Hand) (link' : LinkAt) → hand' ≡ Nothing
      → IsGranted turns hand' link'
  nothing_granted turns hand' link' left = subst (λ (h : Hand). IsGranted turns h link') (sym left) tt

  kept_granted : (turns : List RunTurn) (d : Fetching) (left : ℕ) (end : Bool) (now : LinkAt) (hand' : Hand)
      (link' : LinkAt) → d.left ≡ left → d.gain ≡ Open → OfGrant turns d → FollowsKept tells d end now hand' link'
      → IsGranted turns hand' link'
  kept_granted turns d left true now hand' link' is opened o kept = nothing_granted turns hand' link' kept.0
  kept_granted turns d zero false now hand' link' is opened o kept =
      waits_granted turns d now hand' link' opened o (subst (λ n. goes_on_by tells d n now hand' link') is kept)
  kept_granted turns d (suc left) false now hand' link' is opened o kept =
      steps_granted turns d hand' link' o (subst (λ n. goes_on_by tells d n now hand' link') is kept)

  delivery_granted : (turns : List RunTurn) (d : Fetching) (end : Bool) (answer : Said) (now : LinkAt) (hand' : Hand)
      (link' : LinkAt) → d.gain ≡ Open → OfGrant turns d → FollowsDelivery tells d end answer now hand' link'
      → IsGranted turns hand' link'
  delivery_granted turns d end (said.Kept counted repeated) now hand' link' opened o is =
      kept_granted turns d d.left end now hand' link' refl opened o is
  delivery_granted turns d end answer now hand' link' opened o is = nothing_granted turns hand' link' is.0

  more_granted : (turns : List RunTurn) (f : Fetching) (answer : Said) (now : LinkAt) (hand' : Hand) (link' : LinkAt)
      → f.gain ≡ Open → OfGrant turns f → FollowsMore tells f answer now hand' link' → IsGranted turns hand' link'
  more_granted turns f (said.Allow bytes) now hand' link' opened o is =
      steps_granted turns (allowing f bytes) hand' link' (same_of turns f (allowing f bytes) o refl refl refl refl) is
  more_granted turns f (said.Hold ms) now hand' link' opened o is = waits_granted turns f now hand' link' opened o is
  more_granted turns f answer now hand' link' opened o is = nothing_granted turns hand' link' is.0

  fetch_granted : (turns : List RunTurn) (t : RunTurn) (f : Fetching) (gain : Gain) (moment : Moment) (now : LinkAt)
      (hand' : Hand) (link' : LinkAt) → f.gain ≡ gain → NoGrant t.answer.said → t.op ≡ fetch_op worker f moment gain
      → OfGrant turns f → FollowsFetch tells f gain t.answer.said now hand' link' → IsGranted (turns ++ t ∷ []) hand' link'
  fetch_granted turns t f (Ready run bytes end) moment now hand' link' is none due o follows =
      let brought : bytes ≡ brought_bytes t.op = sym (ap brought_bytes due) in
      delivery_granted (turns ++ t ∷ []) (delivered f run bytes) end t.answer.said now hand' link' refl
      (later_of turns f (delivered f run bytes) t none o refl refl refl (ap (λ (l : List ℕ). f.handed ++ l) brought)) follows
  fetch_granted turns t f (Lost loss mark) moment now hand' link' is none due o follows =
      nothing_granted (turns ++ t ∷ []) hand' link' follows.0
  fetch_granted turns t f Open moment now hand' link' is none due o follows =
      let brought : [] ≡ brought_bytes t.op = sym (ap brought_bytes due) in
      more_granted (turns ++ t ∷ []) f t.answer.said now hand' link' is
      (later_of turns f f t none o refl refl refl
      (sym (append-nil f.handed) ∙ ap (λ (l : List ℕ). f.handed ++ l) brought)) follows
  fetch_granted turns t f Starved moment now hand' link' is none due o follows =
      nothing_granted (turns ++ t ∷ []) hand' link' follows.0

  grant_granted : (turns : List RunTurn) (t : RunTurn) (granted : Grant) (a : WorkerAt) (hand' : Hand) (link' : LinkAt)
      → t.answer.said ≡ said.Grant granted → Works tells worker turns (fresh link) a None
      → FollowsGrant tells granted a.link hand' link' → IsGranted (turns ++ t ∷ []) hand' link'
  unfolding new_grant
  grant_granted turns t (grant.Fetch granted) a hand' link' is works follows =
      steps_granted (turns ++ t ∷ []) (begun_fetch granted a.link) hand' link' (record {
        granted = granted;
        last = new_grant turns (grant.Fetch granted) t a is works;
        claim = refl;
        job = refl;
        since = refl;
        handed = refl;
      }) follows
  grant_granted turns t (grant.Probe claim gid url) a hand' link' is works follows =
      let p : Probing = follows.0 in
      let of_url = follows.1 in
      let same : said.Grant (grant.Probe claim gid url) ≡ said.Grant (grant.Probe p.claim gid p.url) =
      λ i. said.Grant (grant.Probe (sym of_url.claim_is i) gid (sym of_url.url_is i)) in
      subst (λ (h : Hand). IsGranted (turns ++ t ∷ []) h link') (sym follows.2) (record {
        gid = gid;
        last = new_grant turns (grant.Probe p.claim gid p.url) t a (is ∙ same) works;
        since = of_url.since_is;
        at = of_url.at;
      })
  grant_granted turns t (grant.Hash gid piece bytes) a hand' link' is works follows =
      subst (λ (h : Hand). IsGranted (turns ++ t ∷ []) h link') (sym follows.0)
      (new_grant turns (grant.Hash gid piece bytes) t a is works)

  still_granted : (turns : List RunTurn) (t : RunTurn) (moment : Moment) (hand : Hand) (now : LinkAt) (hand' : Hand)
      (link' : LinkAt) → NoGrant t.answer.said → t.op ≡ due_op worker hand moment
      → FollowsAnswer tells hand t.answer.said now hand' link' → IsGranted turns hand now
      → IsGranted (turns ++ t ∷ []) hand' link'
  still_granted turns t moment Nothing now hand' link' none due follows is =
      nothing_granted (turns ++ t ∷ []) hand' link' (nothing_followed tells t.answer.said now hand' link' none follows).0
  still_granted turns t moment (Fetches f) now hand' link' none due follows is =
      fetch_granted turns t f f.gain moment now hand' link' refl none due is.of_grant
      (fetch_followed tells f t.answer.said now hand' link' none follows)
  still_granted turns t moment (Probes p) now hand' link' none due follows is =
      nothing_granted (turns ++ t ∷ []) hand' link' (probe_followed tells p t.answer.said now hand' link' none follows).0
  still_granted turns t moment (Seals gid sealed) now hand' link' none due follows is =
      nothing_granted (turns ++ t ∷ []) hand' link' (seal_followed tells gid sealed t.answer.said now hand' link' none follows).0

  grant_followed : (hand : Hand) (granted : Grant) (now : LinkAt) (hand' : Hand) (link' : LinkAt)
      → FollowsAnswer tells hand (said.Grant granted) now hand' link' → FollowsGrant tells granted now hand' link'
  grant_followed Nothing granted now hand' link' is = is
  grant_followed (Fetches f) granted now hand' link' is = is
  grant_followed (Probes p) granted now hand' link' is = is
  grant_followed (Seals gid sealed) granted now hand' link' is = is

  turn_granted : (turns : List RunTurn) (t : RunTurn) (answer : Said) (moment : Moment) (a : WorkerAt) (hand' : Hand)
      (link' : LinkAt) → t.answer.said ≡ answer → t.op ≡ due_op worker a.hand moment
      → Works tells worker turns (fresh link) a None → FollowsAnswer tells a.hand t.answer.said a.link hand' link'
      → IsGranted turns a.hand a.link → IsGranted (turns ++ t ∷ []) hand' link'
  turn_granted turns t (said.Grant granted) moment a hand' link' is due works follows held =
      grant_granted turns t granted a hand' link' is works
      (grant_followed a.hand granted a.link hand' link'
      (subst (λ (s : Said). FollowsAnswer tells a.hand s a.link hand' link') is follows))
  turn_granted turns t answer moment a hand' link' is due works follows held =
      still_granted turns t moment a.hand a.link hand' link'
      (let P : Said → Type 0 = λ s. NoGrant s in subst P (sym is) tt) due follows held

  -- ---- each turn

  abbrev Found : List RunTurn → RunTurn → LinkAt → Type 0
  Found before t last = (at : WorkerAt) × Works tells worker before (fresh link) at None
      × BringsWhatCame tells worker link before at.link t.op
      × (EndsClaim t.op → IsLaterLink tells at.link last)

  goes_by : (ts : List RunTurn) (m b : WorkerAt) (by end : Option WorkEnd) → (ts ≡ [] → ⊥)
      → EndsOrGoesOn by ((ts ≡ []) × (b ≡ m) × (end ≡ by)) (Works tells worker ts m b end)
      → (None ≡ by) × Works tells worker ts m b end
  goes_by ts m b None end some is = (refl, is)
  goes_by ts m b (Some by) end some is = absurd (some is.0)

  not_last : (before : List RunTurn) (t : RunTurn) (behind : List RunTurn) → before ++ t ∷ behind ≡ [] → ⊥
  not_last [] t behind e = (let n = ap length e in omega (arith, n))
  not_last (u ∷ before) t behind e = (let n = ap length e in omega (arith, n))

  turns_bring : (past before : List RunTurn) (t : RunTurn) (behind : List RunTurn) (a b : WorkerAt)
      (end : Option WorkEnd) → Works tells worker past (fresh link) a None → IsGranted past a.hand a.link
      → Works tells worker (before ++ t ∷ behind) a b end → Found (past ++ before) t b.link
  turns_bring past [] t behind a b end so_far is works =
      let moment = turn_moment works.0 a.moment in
      let op = works.2.op in
      subst (λ (ts : List RunTurn). Found ts t b.link) (sym (append-nil past)) (
        a,
        so_far,
        subst (λ (o : Operation). BringsWhatCame tells worker link past a.link o) (sym op)
            (hand_brings past a.hand a.link moment is),
        λ ends. receives_later tells (t ∷ behind) a.link b.link
            (ended_goes tells worker t behind a b end works ends),
      )
  turns_bring past (u ∷ before) t behind a b end so_far is works =
      let m = works.1 in
      let does = works.2 in
      let goes = goes_by (before ++ t ∷ behind) m b (end_behind u.answer.said m.hand) end (not_last before t behind)
      works.3 in
      let more = one_more tells worker past (fresh link) a m works.0 u None so_far does goes.0 in
      subst (λ (ts : List RunTurn). Found ts t b.link) (append_assoc past (u ∷ []) before)
      (turns_bring (past ++ u ∷ []) before t behind m b end more
      (turn_granted past u u.answer.said (turn_moment works.0 a.moment) a m.hand m.link refl does.op so_far does.follows is)
      goes.1)

pub brings_what_came : TurnsBringWhatCame
brings_what_came tells worker link before t behind b end works =
    turns_bring tells worker link [] before t behind (fresh link) b end (refl, refl) tt works
