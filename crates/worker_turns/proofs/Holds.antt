-- A turn behind one that was held up, at the moment that it was told to wait for, isn't held up.
use Rattle.std.proofs.Common.{◌≡◌, ◌⊎◌, inl, inr, ◌≤◌, ◌+◌, ◌∷◌, ◌++◌, ℕ, zero, suc, Bool, true, false, cond, List, [], map, refl, sym, ap, subst, ◌∙◌, ⊎_elim, arith}
use Rattle.std.specs.Prelude.{◌&&◌, ◌||◌, not, filter, nat_le}
use Rattle.std.specs.List.{list_any}
use Rattle.std.proofs.lemmas.Bool.Decides.{nat_tests}
use Rattle.dl_kinds.specs.declared.claims.Claim.{Claim}
use Rattle.dl_kinds.specs.declared.gid.Gid.{Gid}
use Rattle.dl_kinds.specs.declared.marks.Mark.{Mark}
use Rattle.dl_kinds.specs.declared.runs.Moment.{Moment}
use Rattle.dl_kinds.specs.declared.runs.Run.{Run}
use Rattle.dl_history.proofs.Bools.{and_both}
use Rattle.dl_history.proofs.Members.{Has, has_all}
use Rattle.dl_queue.specs.Calls.{added_place}
use Rattle.dl_queue.specs.declared.kinds.Added.{Added}
use Rattle.machine_core.specs.Offers.{Credit, IsHeldUp, IsOffer, WaitsNoLonger, active_credits, affords, gid_credit}
use Rattle.machine_core.specs.Replays.{is_active_in, queue_in}
use Rattle.machine_core.specs.RunLegal.{IsLegal, is_listed}
use Rattle.machine_core.specs.RunSteps.{AccountsMatchRuns}
use Rattle.machine_core.specs.Starts.{Download, RunStart}
use Rattle.machine_core.specs.declared.events.Event.{Event}
use Rattle.machine_core.specs.declared.handed.Handed.{Handed}
use Rattle.machine_core.specs.declared.offers.Offer.{Offer}
use Rattle.machine_core.specs.declared.offers.Offer.TheVariants.{Whole, Blocks, Probe}
use Rattle.machine_core.specs.declared.offers.Offered.TheVariants as offered
use Rattle.rate_limits.specs.Shared.{RunLevels, lesser_credit, longer_wait}
use Rattle.rate_tokens.specs.Level.{Level}
use Rattle.engine_turns.specs.ClaimRows.{DeliverRow, LoseRow, MoreRow, SizedRow, more_said, turn_credit}
use Rattle.engine_turns.specs.Levels.{own_levels, overall_level}
use Rattle.engine_turns.specs.NextRows.{NextRow, OfferRow, OpenRow, offers_in, whole_row}
use Rattle.engine_turns.specs.Phases.{TurnStart}
use Rattle.engine_turns.specs.RunTurns.{turn_start}
use Rattle.engine_turns.specs.SealRows.{SealRow}
use Rattle.engine_turns.specs.Standings.{AnswersUnlessStarved, IsHomeOf, OfClaim, RunStanding, levels_in, standing_after}
use Rattle.engine_turns.specs.Told.{RunTurn, handed_by, handed_in, history_of, is_taken, seals_handed, settles_handed, stays_out, takes_back}
use Rattle.engine_turns.specs.TurnLaws.{HandedAreActive}
use Rattle.engine_turns.specs.declared.limits.TheConstants.{MAX_ALLOWANCE}
use Rattle.engine_turns.specs.declared.operations.Said.{Said}
use Rattle.engine_turns.specs.declared.operations.Said.TheVariants as said
use Rattle.engine_turns.specs.declared.operations.Operation.TheVariants as operation
use Rattle.engine_turns.specs.declared.outcome.Outcome.{Outcome}
use Rattle.engine_turns.specs.declared.outcome.Outcome.TheVariants.{Went, Over, Starved}
use Rattle.verify_piece.specs.Seals.{PieceBytes}
use Rattle.worker_turns.specs.Alone.{NoClaimStands}
use Rattle.worker_turns.proofs.Buckets.{overall_moment, overall_same, own_moment, own_same, past_same}
use Rattle.worker_turns.proofs.OffersLater.{offer_later}
use Rattle.worker_turns.proofs.Standing.{NothingStands, OnlyStands}
use Rattle.worker_turns.proofs.Tracking.{home_is, no_home}
use Rattle.worker_turns.proofs.Waits.{lesser_comes, longer_few}

-- ---- which turns are held up

held_else : (usual answer : Said) (outcome : Outcome) (ms : ℕ) → answer ≡ said.Hold ms
    → ((n : ℕ) → usual ≡ said.Hold n → ⊥) → AnswersUnlessStarved usual outcome answer → ⊥
held_else usual answer Went ms held other is = other ms (sym is ∙ held)
held_else usual answer Over ms held other is = other ms (sym is ∙ held)
held_else usual answer Starved ms held other is =
    (let no_way : said.NoMemory ≡ said.Hold ms = sym is ∙ held in cc)

open_unheld : (at : TurnStart) (s : RunStanding) (download : Download) (events : List Event) (answer : Said) (ms : ℕ)
    → answer ≡ said.Hold ms → OpenRow at s download events answer → ⊥
open_unheld at s download events answer ms held row =
    ⊎_elim (λ clashed. let no_way : said.Done ≡ said.Hold ms = sym clashed.3 ∙ held in cc)
    (λ opened. held_else said.Done answer opened.1.0 ms held (λ n e. let no_way = e in cc) opened.1.2) row

whole_unheld : (at : TurnStart) (s : RunStanding) (download : Download) (piece : ℕ) (listed : Bool)
    (events : List Event) (answer : Said) (ms : ℕ) → answer ≡ said.Hold ms
    → whole_row at s download piece listed events answer → ⊥
whole_unheld at s download piece true events answer ms held row =
    ⊎_elim (λ hash. let no_way = sym hash.is.1 ∙ held in cc)
    (⊎_elim (λ faulted. let no_way = sym faulted.1 ∙ held in cc) (λ starved. let no_way = sym starved.1 ∙ held in cc))
    row
whole_unheld at s download piece false events answer ms held row =
    held_else said.Done answer row.0 ms held (λ n e. let no_way = e in cc) row.2

offer_unheld : (at : TurnStart) (s : RunStanding) (worker : ℕ) (download : Download) (offer : Offer)
    (events : List Event) (answer : Said) (ms : ℕ) → answer ≡ said.Hold ms
    → OfferRow at s worker download offer events answer → ⊥
offer_unheld at s worker download (Whole piece) events answer ms held row =
    whole_unheld at s download piece (is_listed download.subject) events answer ms held row
offer_unheld at s worker download (Blocks mirror run victim) events answer ms held row =
    (let no_way = sym row.is ∙ held in cc)
offer_unheld at s worker download (Probe mirror) events answer ms held row = (let no_way = sym row.is ∙ held in cc)

-- a worker that asked for work is held up by the buckets
pub next_held : (at : TurnStart) (s : RunStanding) (worker : ℕ) (events : List Event) (answer : Said) (ms : ℕ)
    → answer ≡ said.Hold ms → NextRow at s worker events answer → (events ≡ []) × offers_in at s (offered.Held ms)
next_held at s worker events answer ms held row =
    ⊎_elim (λ opening. absurd (open_unheld at s opening.download events answer ms held opening.row))
    (λ other. ⊎_elim
    (λ given. absurd (offer_unheld at s worker given.download given.offer events answer ms held given.row))
    (⊎_elim
    (λ holding. let both : said.Hold holding.0 ≡ said.Hold ms = sym holding.2.1 ∙ held in
    let same : holding.0 ≡ ms = cc in
    (holding.2.0, subst (λ n. offers_in at s (offered.Held n)) same holding.1))
    (λ idle. absurd (let no_way = sym idle.1.1 ∙ held in cc))) other.1) row

-- .. and so is one that asked for more bytes
more_by : (at : TurnStart) (s : RunStanding) (gid : Gid) (want credit ms : ℕ) → more_said at s gid want credit ≡
    said.Hold ms
    → (credit ≡ 0) × (ms ≡ (turn_credit at s gid).wait)
more_by at s gid zero credit ms is = absurd (let no_way = is in cc)
more_by at s gid (suc want) zero ms is = (refl, (let same : ms ≡ (turn_credit at s gid).wait = cc in same))
more_by at s gid (suc want) (suc credit) ms is = absurd (let no_way = is in cc)

pub record HeldMore (at : TurnStart) (s : RunStanding) (id : ℕ) (events : List Event) (ms : ℕ) : Type 0 where
  pub download : Download
  pub claim : Claim
  pub home : IsHomeOf at.start s.past id download claim
  pub none : events ≡ []
  pub short : (turn_credit at s download.gid).bytes ≡ 0
  pub wait : ms ≡ (turn_credit at s download.gid).wait

pub more_held : (at : TurnStart) (s : RunStanding) (id : ℕ) (events : List Event) (answer : Said) (ms : ℕ)
    → answer ≡ said.Hold ms → OfClaim at s id (MoreRow at s MAX_ALLOWANCE) events answer → HeldMore at s id events ms
more_held at s id events answer ms held row =
    ⊎_elim (λ none. absurd (let no_way = sym none.1.1 ∙ held in cc))
    (λ of.
    let by = more_by at s of.0.gid MAX_ALLOWANCE (turn_credit at s of.0.gid).bytes ms (sym of.3.1 ∙ held) in record {
      download = of.0;
      claim = of.1;
      home = of.2;
      none = of.3.0;
      short = by.0;
      wait = by.1;
    }) row

-- no other turn is
claim_unheld : (at : TurnStart) (s : RunStanding) (id : ℕ) (Row : Download → Claim → List Event → Said → Type 0)
    (events : List Event) (answer : Said) (ms : ℕ) → answer ≡ said.Hold ms
    → ((download : Download) (claim : Claim) → Row download claim events answer → ⊥) → OfClaim at s id Row events
    answer → ⊥
claim_unheld at s id Row events answer ms held other row =
    ⊎_elim (λ none. let no_way = sym none.1.1 ∙ held in cc) (λ of. other of.0 of.1 of.3) row

pub deliver_unheld : (at : TurnStart) (s : RunStanding) (id : ℕ) (run : Run) (bytes : List ℕ) (events : List Event)
    (answer : Said) (ms : ℕ) → answer ≡ said.Hold ms → OfClaim at s id (DeliverRow at s run bytes) events answer → ⊥
deliver_unheld at s id run bytes events answer ms held row =
    claim_unheld at s id (DeliverRow at s run bytes) events answer ms held
    (λ download claim came. ⊎_elim
    (λ kept. held_else _ answer kept.1.outcome ms held (λ n e. let no_way = e in cc) kept.1.answer)
    (λ void. let no_way = sym void.1.1 ∙ held in cc) came) row

pub lose_unheld : (at : TurnStart) (s : RunStanding) (id : ℕ) (mark : Mark) (events : List Event) (answer : Said)
    (ms : ℕ) → answer ≡ said.Hold ms → OfClaim at s id (LoseRow at s mark) events answer → ⊥
lose_unheld at s id mark events answer ms held row =
    claim_unheld at s id (LoseRow at s mark) events answer ms held
    (λ download claim lost. let no_way = sym lost.2 ∙ held in cc) row

pub sized_unheld : (at : TurnStart) (s : RunStanding) (id total : ℕ) (events : List Event) (answer : Said) (ms : ℕ)
    → answer ≡ said.Hold ms → OfClaim at s id (SizedRow at s total) events answer → ⊥
sized_unheld at s id total events answer ms held row =
    claim_unheld at s id (SizedRow at s total) events answer ms held
    (λ download claim sized. ⊎_elim (λ told. let no_way = sym told.1.2 ∙ held in cc)
    (λ none. let no_way = sym none.1.1 ∙ held in cc) sized) row

pub seal_unheld : (at : TurnStart) (s : RunStanding) (gid : Gid) (sealed : PieceBytes) (events : List Event)
    (answer : Said) (ms : ℕ) → answer ≡ said.Hold ms → SealRow at s gid sealed events answer → ⊥
seal_unheld at s gid sealed events answer ms held row =
    ⊎_elim (λ void. let no_way = sym void.1 ∙ held in cc)
    (λ settled. held_else _ answer settled.1.outcome ms held (λ n e. let no_way = e in cc) settled.1.answer) row

-- ---- credits

pub credit_is : (gids : List Gid) (added : List Added) (levels : RunLevels) (now : ℕ) (before : List Credit) (c :
    Credit)
    (behind : List Credit) → map (gid_credit added levels now) gids ≡ before ++ c ∷ behind
    → Has gids c.gid × (c ≡ gid_credit added levels now c.gid)
credit_is [] added levels now [] c behind e = (let n : ◌≡◌ {A = List Credit} [] (c ∷ behind) = e in cc)
credit_is [] added levels now (b ∷ before) c behind e =
    (let n : ◌≡◌ {A = List Credit} [] (b ∷ (before ++ c ∷ behind)) = e in cc)
credit_is (g ∷ gids) added levels now [] c behind e =
    let both : gid_credit added levels now g ∷ map (gid_credit added levels now) gids ≡ c ∷ behind = e in
    let is : gid_credit added levels now g ≡ c = cc in
    (inl (ap (λ (x : Credit). x.gid) is), subst (λ (x : Credit). x ≡ gid_credit added levels now x.gid) is refl)
credit_is (g ∷ gids) added levels now (b ∷ before) c behind e =
    let both : gid_credit added levels now g ∷ map (gid_credit added levels now) gids ≡ b ∷ (before ++ c ∷ behind) = e
    in
    let tail : map (gid_credit added levels now) gids ≡ before ++ c ∷ behind = cc in
    let rest = credit_is gids added levels now before c behind tail in (inr rest.0, rest.1)

pub has_credit : (gids : List Gid) (f : Gid → Credit) (g : Gid) → Has gids g → Has (map f gids) (f g)
has_credit [] f g there = absurd there
has_credit (x ∷ gids) f g (inl same) = inl (ap f same)
has_credit (x ∷ gids) f g (inr there) = inr (has_credit gids f g there)

-- ---- pieces that are handed out

filter_all : (p : Handed → Bool) (hs : List Handed) → ((h : Handed) → Has hs h → p h ≡ true) → filter p hs ≡ hs
filter_all p [] all = refl
filter_all p (h ∷ hs) all =
    ap (λ (t : Bool). cond t (h ∷ filter p hs) (filter p hs)) (all h (inl refl))
    ∙ ap (λ (xs : List Handed). h ∷ xs) (filter_all p hs (λ x there. all x (inr there)))

-- ---- a turn that was held up, and a later one

module _ (start : RunStart) (earlier : List RunTurn) (t t' : RunTurn) (ms : ℕ) (held : t.answer.said ≡ said.Hold ms)
    (none : t.events ≡ []) where
  abbrev At : TurnStart
  At = turn_start start earlier t

  abbrev At' : TurnStart
  At' = turn_start start (t ∷ earlier) t'

  abbrev S : RunStanding
  S = standing_after start earlier

  abbrev S' : RunStanding
  S' = standing_after start (t ∷ earlier)

  levels_same : levels_in S' ≡ levels_in S
  levels_same =
      ap (λ (l : Level). record { overall = l; own = own_levels start (t ∷ earlier); room = 0 })
      (overall_same start earlier t ms held none)
      ∙ ap (λ (ls : List Level). record { overall = overall_level start earlier; own = ls; room = 0 })
      (own_same start earlier t ms held none)

  queue_same : queue_in start S'.past ≡ queue_in start S.past
  queue_same = ap (λ (h : List Event). queue_in start h) (past_same start earlier t ms held none)

  -- a byte is let go
  pub comes_later : (gid : Gid) → At.now.0 + (turn_credit At S gid).wait ≤ At'.now.0 → 1 ≤ (turn_credit At' S'
      gid).bytes
  comes_later gid later =
      let place : ℕ = added_place gid (queue_in start S.past).added in
      let all = overall_moment start earlier in
      let own = own_moment start earlier place in
      let some = lesser_comes (levels_in S) place At.now.0 At'.now.0 (omega (arith, all)) (omega (arith, own)) later in
      let same : (turn_credit At' S' gid).bytes ≡ lesser_credit (levels_in S) place At'.now.0 =
      ap (λ (l : RunLevels). lesser_credit l (added_place gid (queue_in start S'.past).added) At'.now.0) levels_same
      ∙ ap (λ q. lesser_credit (levels_in S) (added_place gid q.added) At'.now.0) queue_same in
      omega (arith, some, same)

  -- more bytes are asked for again
  pub bar_more : (id n : ℕ) → HeldMore At S id t.events ms → HeldMore At' S' id t'.events n
      → NothingStands start S.past ⊎ ((gid : Gid) × (claim : Claim) × OnlyStands start S.past gid claim)
      → At.now.0 + ms ≤ At'.now.0 → ⊥
  bar_more id n was now stands later =
      let home' = subst (λ (h : List Event). IsHomeOf start h id now.download now.claim)
      (past_same start earlier t ms held none) now.home in
      ⊎_elim (λ nothing. no_home start S.past id was.download was.claim nothing was.home)
      (λ only.
      let first = home_is start S.past only.0 only.1 id was.download was.claim only.2 was.home in
      let second = home_is start S.past only.0 only.1 id now.download now.claim only.2 home' in
      let same : now.download.gid ≡ was.download.gid = second.0 ∙ sym first.0 in
      let wait : ms ≡ (turn_credit At S now.download.gid).wait =
      was.wait ∙ ap (λ (g : Gid). (turn_credit At S g).wait) (sym same) in
      let some = comes_later now.download.gid (omega (arith, later, wait)) in
      let short = now.short in omega (arith, some, short)) stands

  -- ---- work is asked for again

  module _ (active : HandedAreActive) (worker : ℕ) (now : Moment) (op : t.op ≡ operation.Next worker now) where
    not_taken : (h : Handed) → takes_back t h ≡ false
    not_taken h =
        ap (λ (es : List Event). list_any (settles_handed h) es || seals_handed h t.op && is_taken t.answer.said) none
        ∙ ap (λ o. seals_handed h o && is_taken t.answer.said) op

    stays : (h : Handed) → Has (handed_in start earlier) h → stays_out start t (history_of (t ∷ earlier)) h ≡ true
    stays h there =
        and_both (is_active_in start (history_of (t ∷ earlier)) h.gid) (not (takes_back t h))
        (ap (λ (p : List Event). is_active_in start p h.gid) (past_same start earlier t ms held none)
        ∙ has_all (λ (x : Handed). is_active_in start (history_of earlier) x.gid ≡ true) (handed_in start earlier) h
        (active start earlier) there)
        (ap not (not_taken h))

    handed_same : S'.handed ≡ S.handed
    handed_same =
        ap (λ (a : Said). filter (stays_out start t (history_of (t ∷ earlier))) (handed_by a ++ handed_in start
        earlier)) held
        ∙ filter_all (stays_out start t (history_of (t ∷ earlier))) (handed_in start earlier) stays

    abbrev IsHeldThen : ℕ → Type 0
    IsHeldThen n = IsHeldUp (IsOffer S.handed start S.past At'.now.0)
        (active_credits (queue_in start S.past) (levels_in S) At'.now.0) n

    held_then : (n : ℕ) → offers_in At' S' (offered.Held n) → IsHeldThen n
    held_then n is =
        let P : List Handed → List Event → RunLevels → Type 0 = λ handed past levels.
        IsHeldUp (IsOffer handed start past At'.now.0) (active_credits (queue_in start past) levels At'.now.0) n in
        subst (λ (l : RunLevels). P S.handed S.past l) levels_same
        (subst (λ (p : List Event). P S.handed p (levels_in S')) (past_same start earlier t ms held none)
        (subst (λ (hs : List Handed). P hs S'.past (levels_in S')) handed_same is))

    offer_bars : (matches : AccountsMatchRuns) → IsLegal start S.past → NoClaimStands start S.past → (n : ℕ) (gid : Gid)
        (offer : Offer) → Has (queue_in start S.past).active gid
        → IsOffer S.handed start S.past At.now.0 gid offer
        → affords (gid_credit (queue_in start S.past).added (levels_in S) At.now.0 gid).bytes offer ≡ false
        → 1 ≤ (gid_credit (queue_in start S.past).added (levels_in S) At'.now.0 gid).bytes → IsHeldThen n → ⊥
    offer_bars matches legal alone n gid (Whole piece) there offer unaffordable some then = absurd cc
    offer_bars matches legal alone n gid (Probe mirror) there offer unaffordable some then = absurd cc
    offer_bars matches legal alone n gid (Blocks mirror run victim) there offer unaffordable some then =
        let queue = queue_in start S.past in
        let f : Gid → Credit = gid_credit queue.added (levels_in S) At'.now.0 in
        let waits = has_all (WaitsNoLonger (IsOffer S.handed start S.past At'.now.0) n) (map f queue.active) (f gid)
        then.least (has_credit queue.active f gid there) in
        let not_let = (waits (Blocks mirror run victim)
        (offer_later matches start S.past legal alone S.handed At.now.0 At'.now.0 gid mirror run victim offer)).0 in
        let lets : nat_le 1 (f gid).bytes ≡ true = grind (arith, nat_tests) in
        let no_way : true ≡ false = sym lets ∙ not_let in cc

    pub bar_next : (matches : AccountsMatchRuns) → IsLegal start S.past → NoClaimStands start S.past → (n : ℕ)
        → offers_in At S (offered.Held ms) → offers_in At' S' (offered.Held n) → At.now.0 + ms ≤ At'.now.0 → ⊥
    bar_next matches legal alone n was is later =
        let queue = queue_in start S.past in
        let f : Gid → Credit = gid_credit queue.added (levels_in S) At.now.0 in
        let c = credit_is queue.active queue.added (levels_in S) At.now.0 was.before was.credit was.behind was.cut in
        let gid : Gid = was.credit.gid in
        let waits = has_all (WaitsNoLonger (IsOffer S.handed start S.past At.now.0) ms) (map f queue.active) (f gid)
        was.least (has_credit queue.active f gid c.0) in
        let wait : ms ≡ longer_wait (levels_in S) (added_place gid queue.added) At.now.0 =
        was.wait_is ∙ ap (λ (x : Credit). x.wait) c.1 in
        let place : ℕ = added_place gid queue.added in
        let all = overall_moment start earlier in
        let own = own_moment start earlier place in
        let some = lesser_comes (levels_in S) place At.now.0 At'.now.0 (omega (arith, all)) (omega (arith, own))
        (omega (arith, later, wait)) in
        offer_bars matches legal alone n gid was.offer c.0 was.is (waits was.offer was.is).0 some (held_then n is)

-- ---- a wait is a second at most

pub next_small : (at : TurnStart) (s : RunStanding) (ms : ℕ) → offers_in at s (offered.Held ms) → ms ≤ 1000
next_small at s ms is =
    let queue = queue_in at.start s.past in
    let c = credit_is queue.active queue.added (levels_in s) at.now.0 is.before is.credit is.behind is.cut in
    let few = longer_few (levels_in s) (added_place is.credit.gid queue.added) at.now.0 in
    let wait : ms ≡ longer_wait (levels_in s) (added_place is.credit.gid queue.added) at.now.0 =
    is.wait_is ∙ ap (λ (x : Credit). x.wait) c.1 in
    omega (arith, few, wait)

pub more_small : (at : TurnStart) (s : RunStanding) (id : ℕ) (events : List Event) (ms : ℕ) → HeldMore at s id events ms
    → ms ≤ 1000
more_small at s id events ms is =
    let few = longer_few (levels_in s) (added_place is.download.gid (queue_in at.start s.past).added) at.now.0 in
    let wait = is.wait in omega (arith, few, wait)
