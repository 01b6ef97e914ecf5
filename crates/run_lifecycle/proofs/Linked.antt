-- What the history of a run tells of the link came over it.
use Rattle.std.proofs.Common.{◌≡◌, ⊎_elim, ℕ, Bool, List, [], ◌∷◌, ◌++◌, Option, None, Some, refl, sym, ap, ◌∙◌, subst, arith}
use Rattle.std.specs.Prelude.{Contains, reverse}
use Rattle.std.proofs.lemmas.List.{reverse-reverse}
use Rattle.std.proofs.lemmas.List.Elements.{Contains-append_cases, Contains-append_left, Contains-append_right, Contains-push_cases}
use Rattle.conn_worker.specs.Brought.{BringsLength, BringsLoss, BringsWhatCame, EndsClaim, IsLaterLink, LastGrant, LinksGoOn, TurnsBringWhatCame, brought_in, claim_of_grant}
use Rattle.conn_worker.specs.Facts.{HasUsed}
use Rattle.conn_worker.specs.Hands.{LinkAt, fresh, link_at}
use Rattle.conn_worker.specs.Works.{ComesOut, HasNoRoom, Works}
use Rattle.dl_disk.specs.declared.disk.Disk.{Ghosts as DiskSays}
use Rattle.dl_kinds.specs.declared.claims.Claim.{Claim}
use Rattle.dl_kinds.specs.declared.gid.Gid.{Gid}
use Rattle.dl_kinds.specs.declared.marks.Mark.{Mark}
use Rattle.dl_kinds.specs.declared.outside.Sink.{Ghosts as SinkSays}
use Rattle.dl_kinds.specs.declared.runs.Moment.{Moment}
use Rattle.engine_turns.specs.Told.{RunTurn, history_after, history_of}
use Rattle.engine_turns.specs.declared.operations.Grant.{Grant}
use Rattle.engine_turns.specs.declared.operations.Grant.TheVariants as grant
use Rattle.engine_turns.specs.declared.operations.Operation.{Operation}
use Rattle.engine_turns.specs.declared.operations.Operation.TheVariants as operation
use Rattle.engine_turns.specs.declared.operations.Said.TheVariants as said
use Rattle.link_source.specs.Exchanges.{Exchange}
use Rattle.link_source.specs.declared.Links.{Ghosts as LinkSays}
use Rattle.machine_core.specs.RunLegal.{DownloadsStay, IsLegal, LengthsStay, download_in, known_lengths}
use Rattle.machine_core.specs.Starts.{Download, RunStart}
use Rattle.machine_core.specs.declared.calls.Call.{Call}
use Rattle.machine_core.specs.declared.events.Event.{Event}
use Rattle.machine_core.specs.declared.events.Event.TheVariants.{Claimed, Lost, Sized}
use Rattle.run_lifecycle.specs.Begins.{IsOwnCall}
use Rattle.run_lifecycle.specs.Finishes.{Ran}
use Rattle.run_lifecycle.specs.LinkCauses.{ComesOfClaimEnd, IsGrantOf, LostAsTold, SizedAsTold, UsedForClaim, WasGranted, WorkedAmong}
use Rattle.run_lifecycle.specs.declared.ended.Ended.{Ended}
use Rattle.run_lifecycle.proofs.Claims.{claims_one, later_there, standing_came}
use Rattle.run_lifecycle.proofs.Grants.{asks_on, granted_in}
use Rattle.run_lifecycle.proofs.Ran as ran_facts
use Rattle.run_lifecycle.proofs.Rows.{StandsOf, turn_brings}
use Rattle.run_lifecycle.proofs.Whole.{reversed_there}
use Rattle.run_lifecycle.proofs.Turns.{BroughtBy, cut_at, none_there, reversed_cut}

-- ---- downloads stay

added_after : DownloadsStay → (start : RunStart) (past events : List Event) (gid : Gid) (download : Download)
    → download_in start past gid ≡ Some download → download_in start (history_after past events) gid ≡ Some download
added_after stay start past [] gid download added = added
added_after stay start past (e ∷ events) gid download added =
    added_after stay start (e ∷ past) events gid download (stay start past e gid download added)

added_on : DownloadsStay → (start : RunStart) (newer before : List RunTurn) (gid : Gid) (download : Download)
    → download_in start (history_of before) gid ≡ Some download
    → download_in start (history_of (newer ++ before)) gid ≡ Some download
added_on stay start [] before gid download added = added
added_on stay start (t ∷ newer) before gid download added =
    added_after stay start (history_of (newer ++ before)) t.events gid download
    (added_on stay start newer before gid download added)

-- ---- events stay

there_after : (past events : List Event) (x : Event) → Contains past x → Contains (history_after past events) x
there_after past [] x there = there
there_after past (e ∷ events) x there = there_after (e ∷ past) events x (later_there e past x there)

there_on : (newer before : List RunTurn) (x : Event) → Contains (history_of before) x
    → Contains (history_of (newer ++ before)) x
there_on [] before x there = there
there_on (t ∷ newer) before x there =
    there_after (history_of (newer ++ before)) t.events x (there_on newer before x there)

-- ---- which turns are no worker's

not_by_call : {P : Type 0} (call : Option Call) (turns : List RunTurn) (short : Bool) (t : RunTurn)
    → IsOwnCall call turns short
    → Contains turns t → EndsClaim t.op → P
not_by_call None turns short t is there ends =
    none_there t (subst (λ (ts : List RunTurn). Contains ts t) is.0 there)
not_by_call (Some call) turns short t is there ends =
    ⊎_elim (λ (none : Contains [] t). none_there t none)
    (λ (same : is.0 ≡ t). absurd (subst EndsClaim (ap (λ (u : RunTurn). u.op) (sym same) ∙ is.2) ends))
    (Contains-push_cases [] is.0 t (subst (λ (ts : List RunTurn). Contains ts t) is.1 there))

not_by_one : {P : Type 0} (turns : List RunTurn) (u t : RunTurn) (now : Moment) → turns ≡ u ∷ []
    → u.op ≡ operation.Stop now
    → Contains turns t → EndsClaim t.op → P
not_by_one turns u t now is stops there ends =
    ⊎_elim (λ (none : Contains [] t). none_there t none)
    (λ (same : u ≡ t). absurd (subst EndsClaim (ap (λ (v : RunTurn). v.op) (sym same) ∙ stops) ends))
    (Contains-push_cases [] u t (subst (λ (ts : List RunTurn). Contains ts t) is there))

module _ {D O : Type 0} {says : DiskSays D} {sinks : SinkSays O} {words : List (List ℕ)} {gids doors : ℕ} {disk : D} {out : O}
    {ended : Ended D} {out' : O} (ran : Ran says sinks words gids doors disk out ended out') where
  -- a turn that ends a claim is neither the line's own call nor the last stop
  in_middle : (t : RunTurn) → Contains (ran_facts.turns ran) t → EndsClaim t.op → Contains ran.stops.middle t
  in_middle t there ends =
      let own = ran_facts.own_call ran in
      let last = ran_facts.last_turn ran in
      ⊎_elim (λ (front : Contains (own ++ ran.stops.middle) t). ⊎_elim
      (λ (called : Contains own t). not_by_call ran.begins.call own ran.begun.is_short t ran.begins.own called ends)
      (λ (its : Contains ran.stops.middle t). its) (Contains-append_cases own ran.stops.middle t front))
      (λ (its : Contains (last ∷ []) t).
      not_by_one (last ∷ []) last t (record { 0 = 0 }) refl ran.stops.op its ends)
      (Contains-append_cases (own ++ ran.stops.middle) (last ∷ []) t there)

  -- the turn of an event is among them
  turn_there : (e : Event) → (by : BroughtBy (ran_facts.turns ran) e) → Contains (ran_facts.turns ran) by.turn
  turn_there e by = subst (λ (ts : List RunTurn). Contains ts by.turn) (sym by.cut)
      (Contains-append_right by.earlier (by.turn ∷ by.later) by.turn (0, omega arith, refl))

  comes_of : (e : Event) → (by : BroughtBy (ran_facts.turns ran) e) → EndsClaim by.turn.op
      → ComesOfClaimEnd ran.stops.middle e
  comes_of e by ends =
      record { turn = by.turn; among = in_middle by.turn (turn_there e by) ends; ends = ends; there = by.there }

  pub losses_come : (gid : Gid) (id mirror piece : ℕ) (mark : Mark)
      → Contains ended.journal.events.items (Lost gid id mirror piece mark)
      → ComesOfClaimEnd ran.stops.middle (Lost gid id mirror piece mark)
  losses_come gid id mirror piece mark there =
      let e = Lost gid id mirror piece mark in
      let by = ran_facts.event_brought ran e there in
      let loses = turn_brings (ran_facts.start ran) (reverse by.earlier) by.turn
      (ran_facts.may_come ran by.earlier by.turn by.later by.cut) e by.there in
      comes_of e by (subst EndsClaim (sym loses.1) tt)

  pub lengths_come : (gid : Gid) (id total : ℕ) → Contains ended.journal.events.items (Sized gid id total)
      → ComesOfClaimEnd ran.stops.middle (Sized gid id total)
  lengths_come gid id total there =
      let e = Sized gid id total in
      let by = ran_facts.event_brought ran e there in
      let sizes = turn_brings (ran_facts.start ran) (reverse by.earlier) by.turn
      (ran_facts.may_come ran by.earlier by.turn by.later by.cut) e by.there in
      comes_of e by (subst EndsClaim (sym sizes.1) tt)

module _ {D L O : Type 0} {says : DiskSays D} {links : LinkSays L} {sinks : SinkSays O} {words : List (List ℕ)}
    {gids doors : ℕ} {disk : D} {out : O} {ended : Ended D} {out' : O} (ran : Ran says sinks words gids doors disk out ended out')
    (worker : ℕ) (link link' : L) (own : WorkedAmong D links worker (ran_facts.turns ran) link link') where
  abbrev old : LinkAt
  old = link_at links link

  abbrev new : LinkAt
  new = link_at links link'

  -- the worker's turns of the table
  abbrev worked : List RunTurn
  worked = own.its.worked

  abbrev brought_here : (t : RunTurn) (e : Event) → Contains worked t → Contains t.events e → BroughtBy (ran_facts.turns ran) e
  brought_here t e there its =
      let c = cut_at (ran_facts.turns ran) t (own.among t there) in
      record { earlier = c.front; turn = t; later = c.back; cut = c.cut; there = its }

  -- ---- grants

  -- a claim of the download, that so is, came in the history
  record CameOf (gid : Gid) (id : ℕ) (IsSo : Claim → Type 0) : Type 0 where
    claim : Claim
    came : Contains (ran_facts.past ran) (Claimed gid claim)
    id_is : claim.id ≡ id
    so : IsSo claim

  stood : (e : Event) (gid : Gid) (id : ℕ) (IsSo : Claim → Type 0) → (by : BroughtBy (ran_facts.turns ran) e)
      → StandsOf (ran_facts.start ran) (history_of (reverse by.earlier)) gid id IsSo → CameOf gid id IsSo
  stood e gid id IsSo by stands =
      let told : ran_facts.told ran ≡ reverse by.later ++ by.turn ∷ reverse by.earlier =
      ap reverse by.cut ∙ reversed_cut by.earlier by.turn by.later in
      let past : ran_facts.past ran ≡ history_of (reverse by.later ++ by.turn ∷ reverse by.earlier) =
      ran_facts.history_is ran ∙ ap history_of told in
      record {
        claim = stands.claim;
        came = subst (λ (p : List Event). Contains p (Claimed gid stands.claim)) (sym past)
            (there_on (reverse by.later) (by.turn ∷ reverse by.earlier) (Claimed gid stands.claim)
            (there_after (history_of (reverse by.earlier)) by.turn.events (Claimed gid stands.claim)
            (standing_came (ran_facts.start ran) gid stands.claim (history_of (reverse by.earlier)) stands.stands)));
        id_is = stands.id_is;
        so = stands.so;
      }

  -- the worker asks for work under its own number
  asked_in : TurnsBringWhatCame → (t : RunTurn) → Contains worked t → (n : ℕ) (now : Moment)
      → t.op ≡ operation.Next n now → ComesOut links.tells worker worked (fresh old) own.its.b own.came → n ≡ worker
  asked_in brings t there n now asks out_of =
      let c = cut_at worked t there in
      let works = subst (λ (ts : List RunTurn). Works links.tells worker ts (fresh old) own.its.b out_of.end) c.cut
      out_of.works in
      let came = brings links.tells worker old c.front t c.back own.its.b out_of.end works in
      subst (λ (op : Operation). BringsWhatCame links.tells worker old c.front came.0.link op) asks came.2

  asked_as : TurnsBringWhatCame → (t : RunTurn) → Contains worked t → (n : ℕ) (now : Moment)
      → t.op ≡ operation.Next n now → n ≡ worker
  asked_as brings t there n now asks =
      ⊎_elim (λ out_of. asked_in brings t there n now asks out_of)
      (λ (none : HasNoRoom worked (fresh old) own.its.b own.came).
      none_there t (subst (λ (ts : List RunTurn). Contains ts t) none.none there)) own.its.comes_out

  granted_there : TurnsBringWhatCame → DownloadsStay → LengthsStay → (t : RunTurn) (granted : Grant) (gid : Gid) (id mirror : ℕ)
      → CameOf gid id (λ claim. claim.mirror ≡ mirror) → Contains worked t
      → t.answer.said ≡ said.Grant granted → claim_of_grant granted ≡ Some id
      → WasGranted (ran_facts.start ran) ended.journal.events.items worker gid id mirror granted
  granted_there brings stay lengths_stay t granted gid id mirror its there is number =
      let start = ran_facts.start ran in
      let at = cut_at (ran_facts.turns ran) t (own.among t there) in
      let asked = granted_in start (reverse at.front) t granted id
      (ran_facts.may_come ran at.front t at.back at.cut) is number in
      let came = asked.3 in
      let told : ran_facts.told ran ≡ reverse at.back ++ t ∷ reverse at.front =
      ap reverse at.cut ∙ reversed_cut at.front t at.back in
      let past : ran_facts.past ran ≡ history_of (reverse at.back ++ t ∷ reverse at.front) =
      ran_facts.history_is ran ∙ ap history_of told in
      let legal = subst (IsLegal start) past (ran_facts.legal ran) in
      let added = added_on stay start (reverse at.back) (t ∷ reverse at.front) came.download.gid came.download
      (added_after stay start (history_of (reverse at.front)) t.events came.download.gid came.download came.added) in
      let asks = asks_on lengths_stay start (reverse at.back) t (reverse at.front) granted asked.0 id legal came in
      let e = Claimed came.download.gid came.claim in
      let granted_came = there_on (reverse at.back) (t ∷ reverse at.front) e
      (subst (λ (es : List Event). Contains (history_after (history_of (reverse at.front)) es) e) (sym came.alone)
      (0, omega arith, refl)) in
      let same = claims_one start
      (history_of (reverse at.back ++ t ∷ reverse at.front)) came.download.gid gid came.claim its.claim legal
      granted_came (subst (λ (p : List Event). Contains p (Claimed gid its.claim)) past its.came)
      (came.id_is ∙ sym its.id_is) in
      record {
        claim = its.claim;
        came = subst (λ (es : List Event). Contains es (Claimed gid its.claim))
            (reverse-reverse ended.journal.events.items)
            (reversed_there (ran_facts.past ran) (Claimed gid its.claim) its.came);
        by = ap (λ (c : Claim). c.worker) (sym same.claims)
            ∙ (came.by ∙ asked_as brings t there asked.0 asked.1 asked.2);
        id_is = its.id_is;
        mirror_is = its.so;
        number = number;
        download = came.download;
        added = subst (λ (p : List Event). download_in start p gid ≡ Some came.download) (sym past)
            (subst (λ (g : Gid). download_in start
            (history_of (reverse at.back ++ t ∷ reverse at.front)) g ≡ Some came.download) same.gids added);
        asks = subst (λ (p : List Event). IsGrantOf (known_lengths start p gid) came.download its.claim granted)
            (sym past)
            (subst
            (λ (g : Gid). IsGrantOf
            (known_lengths start (history_of (reverse at.back ++ t ∷ reverse at.front)) g) came.download its.claim
            granted)
            same.gids
            (subst
            (λ (c : Claim). IsGrantOf
            (known_lengths start (history_of (reverse at.back ++ t ∷ reverse at.front)) came.download.gid)
            came.download c granted)
            same.claims asks));
      }

  -- ---- what a worker's turn brought

  record BroughtAt (before : List RunTurn) (t : RunTurn) (at : LinkAt) : Type 0 where
    within : (u : RunTurn) → Contains before u → Contains worked u
    brings : BringsWhatCame links.tells worker old before at t.op
    to : IsLaterLink links.tells at new

  brought_by_works : TurnsBringWhatCame → (t : RunTurn) → Contains worked t → EndsClaim t.op
      → ComesOut links.tells worker worked (fresh old) own.its.b own.came
      → (before : List RunTurn) × (at : LinkAt) × BroughtAt before t at
  brought_by_works brings t there ends out_of =
      let b = own.its.b in
      let c = cut_at worked t there in
      let works = subst (λ (ts : List RunTurn). Works links.tells worker ts (fresh old) b out_of.end) c.cut out_of.works in
      let came = brings links.tells worker old c.front t c.back b out_of.end works in (
        c.front,
        came.0.link,
        record {
          within = λ u its. subst (λ (ts : List RunTurn). Contains ts u) (sym c.cut)
              (Contains-append_left c.front (t ∷ c.back) u its);
          brings = came.2;
          to = subst (λ (l : LinkAt). IsLaterLink links.tells came.0.link l) own.its.link_is
              (came.3 ends);
        },
      )

  brought_at : TurnsBringWhatCame → (t : RunTurn) → Contains worked t → EndsClaim t.op
      → (before : List RunTurn) × (at : LinkAt) × BroughtAt before t at
  brought_at brings t there ends =
      ⊎_elim (λ out_of. brought_by_works brings t there ends out_of)
      (λ (none : HasNoRoom worked (fresh old) own.its.b own.came).
      none_there t (subst (λ (ts : List RunTurn). Contains ts t) none.none there)) own.its.comes_out

  -- the last grant before it
  used_since : TurnsBringWhatCame → LinksGoOn → DownloadsStay → LengthsStay
      → (before : List RunTurn) (t : RunTurn) (at : LinkAt) (granted : Grant)
      (gid : Gid) (id mirror : ℕ) (used : List Exchange) → CameOf gid id (λ claim. claim.mirror ≡ mirror)
      → BroughtAt before t at → (last : LastGrant links.tells worker old before granted)
      → claim_of_grant granted ≡ Some id → HasUsed links.tells last.at.link used at
      → UsedForClaim links
      (ran_facts.start ran) ended.journal.events.items worker link link' gid id mirror granted used last.at.link at
  used_since brings go_on stay lengths_stay before t at granted gid id mirror used its brought last number used_is =
      let there = subst (λ (ts : List RunTurn). Contains ts last.turn) (sym last.cut_is)
      (Contains-append_right last.before (last.turn ∷ last.behind) last.turn (0, omega arith, refl)) in
      record {
        was = granted_there brings stay lengths_stay last.turn granted gid id mirror its
            (brought.within last.turn there) last.said_is number;
        from = go_on links.tells worker last.before old last.at None last.works;
        used_is = used_is;
        to = brought.to;
      }

  pub lost_as_told : TurnsBringWhatCame → LinksGoOn → DownloadsStay → LengthsStay → (t : RunTurn)
      (gid : Gid) (id mirror piece : ℕ) (mark : Mark)
      → Contains worked t → Contains t.events (Lost gid id mirror piece mark)
      → LostAsTold links (ran_facts.start ran) ended.journal.events.items worker link link' gid id mirror mark
  lost_as_told brings go_on stay lengths_stay t gid id mirror piece mark there its =
      let e = Lost gid id mirror piece mark in
      let by = brought_here t e there its in
      let loses = turn_brings (ran_facts.start ran) (reverse by.earlier) by.turn
      (ran_facts.may_come ran by.earlier by.turn by.later by.cut) e by.there in
      let b = brought_at brings t there (subst EndsClaim (sym loses.1) tt) in
      let loss : BringsLoss links.tells worker old b.0 b.1 id mark =
      subst (λ (op : Operation). BringsWhatCame links.tells worker old b.0 b.1 op) loses.1 b.2.brings in
      record {
        granted = loss.granted;
        used = loss.used;
        since = loss.last.at.link;
        at = b.1;
        meanwhile = used_since brings go_on stay lengths_stay b.0 by.turn b.1 loss.granted gid id mirror loss.used
            (stood e gid id (λ claim. claim.mirror ≡ mirror) by loses.2) b.2 loss.last loss.claim_is loss.used_is;
        brought = brought_in loss.last.behind;
        loss = loss.loss;
        mark_is = loss.mark_is;
        told = loss.told;
        count = loss.count;
      }

  pub sized_as_told : TurnsBringWhatCame → LinksGoOn → DownloadsStay → LengthsStay → (t : RunTurn)
      (gid : Gid) (id total : ℕ)
      → Contains worked t → Contains t.events (Sized gid id total)
      → SizedAsTold links (ran_facts.start ran) ended.journal.events.items worker link link' gid id total
  sized_as_told brings go_on stay lengths_stay t gid id total there here =
      let e = Sized gid id total in
      let by = brought_here t e there here in
      let sizes = turn_brings (ran_facts.start ran) (reverse by.earlier) by.turn
      (ran_facts.may_come ran by.earlier by.turn by.later by.cut) e by.there in
      let b = brought_at brings t there (subst EndsClaim (sym sizes.1) tt) in
      let size : BringsLength links.tells worker old b.0 b.1 id total =
      subst (λ (op : Operation). BringsWhatCame links.tells worker old b.0 b.1 op) sizes.1 b.2.brings in
      let its = stood e gid id (λ claim. Unit {0}) by sizes.2 in
      record {
        mirror = its.claim.mirror;
        asked = size.gid;
        url = size.url;
        used = size.used;
        since = size.last.at.link;
        at = b.1;
        meanwhile = used_since brings go_on stay lengths_stay b.0 by.turn b.1
            (grant.Probe id size.gid size.url) gid id its.claim.mirror
            size.used (record { claim = its.claim; came = its.came; id_is = its.id_is; so = refl }) b.2 size.last refl
            size.used_is;
        told = size.told;
      }
