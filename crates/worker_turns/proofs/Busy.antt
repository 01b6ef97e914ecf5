-- A worker that works alone is handed out one piece at a time, and is never idle where something is offered.
use Rattle.std.proofs.Common.{◌≡◌, inl, ◌∷◌, ◌++◌, ℕ, Bool, true, false, List, [], refl, sym, ap, subst, ◌∙◌, ⊎_elim, eq-eqb}
use Rattle.std.specs.Prelude.{◌&&◌, ◌==◌, not, filter}
use Rattle.std.specs.List.{list_any}
use Rattle.dl_kinds.specs.declared.gid.Gid.{Gid}
use Rattle.dl_kinds.specs.declared.runs.Moment.{Moment}
use Rattle.dl_history.proofs.Bools.{and_both, no_more, or_right, true_not_false}
use Rattle.dl_history.proofs.Members.{Has, has_filter}
use Rattle.engine_turns.specs.Phases.{TurnStart}
use Rattle.engine_turns.specs.RunTurns.{OperationRow}
use Rattle.engine_turns.specs.SealRows.{SealRow}
use Rattle.engine_turns.specs.Standings.{RunStanding}
use Rattle.engine_turns.specs.Told.{RunTurn, handed_by, handed_in, history_of, is_taken, seals_handed, settles_handed, stays_out, takes_back}
use Rattle.engine_turns.specs.declared.operations.Grant.{Grant}
use Rattle.engine_turns.specs.declared.operations.Grant.TheVariants as grant
use Rattle.engine_turns.specs.declared.operations.Operation.{Operation}
use Rattle.engine_turns.specs.declared.operations.Operation.TheVariants as operation
use Rattle.engine_turns.specs.declared.operations.Said.{Said}
use Rattle.engine_turns.specs.declared.operations.Said.TheVariants as said
use Rattle.machine_core.specs.Replays.{is_active_in}
use Rattle.machine_core.specs.Starts.{RunStart}
use Rattle.machine_core.specs.declared.events.Event.{Event}
use Rattle.machine_core.specs.declared.handed.Handed.{Handed}
use Rattle.verify_piece.specs.Seals.{PieceBytes}
use Rattle.conn_worker.specs.Hands.{Hand, Nothing, Fetches, Probes, Seals, LinkAt}
use Rattle.conn_worker.specs.Sound.{NoGrant}
use Rattle.conn_worker.specs.Table.{FollowsAnswer, FollowsGrant, due_op}
use Rattle.worker_turns.proofs.Appending.{EndsBy}
use Rattle.worker_turns.proofs.Followed.{grant_followed}
use Rattle.worker_turns.proofs.SealTurns.{IsUnsealed, grant_is_next, unsealed}
use Rattle.worker_turns.proofs.Tracked.{unless_starved}

-- ---- pieces that are out

-- at most the piece whose seal is in hand is handed out
abbrev pub HandedAs : RunStart → List RunTurn → Hand → Type 0
HandedAs start earlier (Seals gid sealed) =
    (h : Handed) → Has (handed_in start earlier) h → h ≡ record { gid = gid; piece = sealed.piece }
HandedAs start earlier hand = handed_in start earlier ≡ []

filtered : (p : Handed → Bool) (hs : List Handed) (h : Handed) → Has (filter p hs) h → Has hs h × (p h ≡ true)
filtered p hs h there = has_filter p hs h there

none_of : (hs : List Handed) → ((h : Handed) → Has hs h → ⊥) → hs ≡ []
none_of [] none = refl
none_of (h ∷ hs) none = absurd (none h (inl refl))

ungranted_hands : (answer : Said) → NoGrant answer → handed_by answer ≡ []
ungranted_hands (said.Grant granted) none = absurd none
ungranted_hands answer none = refl

module _ (start : RunStart) (earlier : List RunTurn) (t : RunTurn) where
  abbrev Stays : Handed → Bool
  Stays = stays_out start t (history_of (t ∷ earlier))

  -- nothing was out, and nothing is handed out
  pub still_none : handed_in start earlier ≡ [] → handed_by t.answer.said ≡ [] → handed_in start (t ∷ earlier) ≡ []
  still_none none hands =
      ap (λ (hs : List Handed). filter Stays (handed_by t.answer.said ++ hs)) none
      ∙ ap (λ (hs : List Handed). filter Stays (hs ++ [])) hands

  -- the seal of the only piece that was out is taken
  taken_back : (gid : Gid) (sealed : PieceBytes) (now : Moment) → t.op ≡ operation.Seal gid sealed now
      → is_taken t.answer.said ≡ true → takes_back t (record { gid = gid; piece = sealed.piece }) ≡ true
  taken_back gid sealed now op taken =
      let h : Handed = record { gid = gid; piece = sealed.piece } in
      let seals : seals_handed h t.op ≡ true =
      ap (λ (o : Operation). seals_handed h o) op
      ∙ and_both (gid.0 == gid.0) (sealed.piece == sealed.piece) (eq-eqb gid.0 gid.0 refl)
      (eq-eqb sealed.piece sealed.piece refl) in
      or_right (list_any (settles_handed h) t.events) (seals_handed h t.op && is_taken t.answer.said)
      (and_both (seals_handed h t.op) (is_taken t.answer.said) seals taken)

  out_goes : (gid : Gid) (sealed : PieceBytes) (now : Moment) → t.op ≡ operation.Seal gid sealed now
      → is_taken t.answer.said ≡ true → Stays (record { gid = gid; piece = sealed.piece }) ≡ false
  out_goes gid sealed now op taken =
      let h : Handed = record { gid = gid; piece = sealed.piece } in
      ap (λ (b : Bool). is_active_in start (history_of (t ∷ earlier)) gid && not b) (taken_back gid sealed now op taken)
      ∙ no_more (is_active_in start (history_of (t ∷ earlier)) gid)

  sealed_none : (gid : Gid) (sealed : PieceBytes) (now : Moment) → t.op ≡ operation.Seal gid sealed now
      → is_taken t.answer.said ≡ true → handed_by t.answer.said ≡ [] → HandedAs start earlier (Seals gid sealed)
      → handed_in start (t ∷ earlier) ≡ []
  sealed_none gid sealed now op taken hands only =
      ap (λ (hs : List Handed). filter Stays (hs ++ handed_in start earlier)) hands
      ∙ none_of (filter Stays (handed_in start earlier)) (λ h there.
      let parts = has_filter Stays (handed_in start earlier) h there in
      let same = only h parts.0 in
      true_not_false (Stays h) parts.1
      (ap (λ (x : Handed). Stays x) same ∙ out_goes gid sealed now op taken))

  unsealed_handed : (hand : Hand) → IsUnsealed hand → handed_in start (t ∷ earlier) ≡ []
      → HandedAs start (t ∷ earlier) hand
  unsealed_handed Nothing un none = none
  unsealed_handed (Fetches f) un none = none
  unsealed_handed (Probes p) un none = none
  unsealed_handed (Seals gid sealed) un none = absurd un

  -- a piece is handed out while none is out
  hashed_handed : (gid : Gid) (piece : ℕ) (bytes : List ℕ) (hand : Hand)
      → t.answer.said ≡ said.Grant (grant.Hash gid piece bytes) → handed_in start earlier ≡ []
      → hand ≡ Seals gid (record { piece = piece; bytes = bytes }) → HandedAs start (t ∷ earlier) hand
  hashed_handed gid piece bytes hand granted none is =
      subst (λ (x : Hand). HandedAs start (t ∷ earlier) x) (sym is) (λ h there.
      let parts = has_filter Stays (handed_by t.answer.said ++ handed_in start earlier) h there in
      let one : handed_by t.answer.said ++ handed_in start earlier ≡ record { gid = gid; piece = piece } ∷ [] =
      ap (λ (hs : List Handed). handed_by t.answer.said ++ hs) none
      ∙ ap (λ (a : Said). handed_by a ++ []) granted in
      let its = subst (λ (hs : List Handed). Has hs h) one parts.0 in
      ⊎_elim (λ same. sym same) (λ more. absurd more) its)

seal_answered : (at : TurnStart) (s : RunStanding) (gid : Gid) (sealed : PieceBytes) (events : List Event)
    (answer : Said) → (EndsBy answer → ⊥) → SealRow at s gid sealed events answer → is_taken answer ≡ true
seal_answered at s gid sealed events answer goes row =
    ⊎_elim (λ void. ap is_taken void.1)
    (λ settled. ap is_taken (unless_starved said.Done answer settled.1.outcome goes settled.1.answer).1) row

module _ (tells : Bool) (worker : ℕ) (start : RunStart) (earlier : List RunTurn) (t : RunTurn) (now : Moment)
    (at : TurnStart) (s : RunStanding) (goes : EndsBy t.answer.said → ⊥)
    (row : OperationRow at s t.op t.events t.answer.said) where
  next_is_none : (hand : Hand) (w : ℕ) (n : Moment) → t.op ≡ due_op worker hand now → t.op ≡ operation.Next w n
      → HandedAs start earlier hand → handed_in start earlier ≡ []
  next_is_none Nothing w n due next handed = handed
  next_is_none (Fetches f) w n due next handed = handed
  next_is_none (Probes p) w n due next handed = handed
  next_is_none (Seals gid sealed) w n due next handed =
      (let no_way : operation.Seal gid sealed now ≡ operation.Next w n = sym due ∙ next in cc)

  granted_on : (granted : Grant) (hand : Hand) (link : LinkAt) (hand' : Hand) (link' : LinkAt)
      → t.answer.said ≡ said.Grant granted → handed_in start earlier ≡ [] → FollowsGrant tells granted link hand' link'
      → HandedAs start (t ∷ earlier) hand'
  granted_on (grant.Fetch granted) hand link hand' link' is none follows =
      unsealed_handed start earlier t hand' (subst (λ (h : Hand). IsUnsealed h) (sym follows.2) tt)
      (still_none start earlier t none (ap handed_by is))
  granted_on (grant.Probe claim gid url) hand link hand' link' is none follows =
      unsealed_handed start earlier t hand' (subst (λ (h : Hand). IsUnsealed h) (sym follows.2) tt)
      (still_none start earlier t none (ap handed_by is))
  granted_on (grant.Hash gid piece bytes) hand link hand' link' is none follows =
      hashed_handed start earlier t gid piece bytes hand' is none follows.0

  ungranted_on : (hand : Hand) (link : LinkAt) (hand' : Hand) (link' : LinkAt) → NoGrant t.answer.said
      → t.op ≡ due_op worker hand now → FollowsAnswer tells hand t.answer.said link hand' link'
      → HandedAs start earlier hand → HandedAs start (t ∷ earlier) hand'
  ungranted_on Nothing link hand' link' none due follows handed =
      unsealed_handed start earlier t hand' (unsealed tells Nothing t.answer.said link hand' link' none follows)
      (still_none start earlier t handed (ungranted_hands t.answer.said none))
  ungranted_on (Fetches f) link hand' link' none due follows handed =
      unsealed_handed start earlier t hand' (unsealed tells (Fetches f) t.answer.said link hand' link' none follows)
      (still_none start earlier t handed (ungranted_hands t.answer.said none))
  ungranted_on (Probes p) link hand' link' none due follows handed =
      unsealed_handed start earlier t hand' (unsealed tells (Probes p) t.answer.said link hand' link' none follows)
      (still_none start earlier t handed (ungranted_hands t.answer.said none))
  ungranted_on (Seals gid sealed) link hand' link' none due follows handed =
      unsealed_handed start earlier t hand' (unsealed tells (Seals gid sealed) t.answer.said link hand' link' none
      follows)
      (sealed_none start earlier t gid sealed now due
      (seal_answered at s gid sealed t.events t.answer.said goes
      (subst (λ (o : Operation). OperationRow at s o t.events t.answer.said) due row))
      (ungranted_hands t.answer.said none) handed)

  pub handed_on : (answer : Said) (hand : Hand) (link : LinkAt) (hand' : Hand) (link' : LinkAt) → t.answer.said ≡ answer
      → t.op ≡ due_op worker hand now → FollowsAnswer tells hand t.answer.said link hand' link'
      → HandedAs start earlier hand → HandedAs start (t ∷ earlier) hand'
  handed_on (said.Grant granted) hand link hand' link' is due follows handed =
      let asks = grant_is_next at s t.op t.events t.answer.said granted is row in
      granted_on granted hand link hand' link' is (next_is_none hand asks.0 asks.1 due asks.2 handed)
      (grant_followed tells hand granted link hand' link'
      (subst (λ (a : Said). FollowsAnswer tells hand a link hand' link') is follows))
  handed_on answer hand link hand' link' is due follows handed =
      ungranted_on hand link hand' link' (let P : Said → Type 0 = λ a. NoGrant a in subst P (sym is) tt) due follows
      handed
