-- Which turns land blocks, and settle pieces as wrong.
use Rattle.std.proofs.Common.{◌≡◌, ℕ, ◌+◌, ◌<◌, ◌≤◌, Bool, true, false, Some, List, sym, ap, ◌∙◌, subst, refl}
use Rattle.std.specs.Prelude.{Contains}
use Rattle.dl_history.specs.StandingClaims.{is_open_since, standing_claims}
use Rattle.dl_kinds.specs.declared.claims.Claim.{Claim}
use Rattle.dl_kinds.specs.declared.gid.Gid.{Gid}
use Rattle.dl_kinds.specs.declared.runs.Moment.{Moment}
use Rattle.dl_kinds.specs.declared.runs.Run.{Run}
use Rattle.dl_disk.specs.Files.{Files}
use Rattle.engine_core.specs.Writings.{WritesAsTold}
use Rattle.engine_turns.specs.ClaimRows.{IsDelivery, IsKept}
use Rattle.engine_turns.specs.Phases.{TurnStart}
use Rattle.engine_turns.specs.RunTurns.{IsAnswered, MayComeAfter, OperationRow, answer_before, turn_start}
use Rattle.engine_turns.specs.Standings.{IsHomeOf, RunStanding, standing_after}
use Rattle.engine_turns.specs.Told.{RunTurn, history_of}
use Rattle.engine_turns.specs.NoticeRows.{notices_said}
use Rattle.engine_turns.specs.declared.operations.Operation.{Operation}
use Rattle.engine_turns.specs.declared.operations.Operation.TheVariants as operation
use Rattle.engine_turns.specs.declared.operations.Said.{Said}
use Rattle.engine_turns.specs.declared.operations.Said.TheVariants.{Idle}
use Rattle.machine_core.specs.OwnParts.{own_of}
use Rattle.machine_core.specs.RunLegal.{download_in, known_lengths}
use Rattle.machine_core.specs.Starts.{Download, RunStart}
use Rattle.machine_core.specs.declared.events.Event.{Event}
use Rattle.machine_core.specs.declared.events.Event.TheVariants.{Landed, Settled}
use Rattle.piece_table.specs.declared.giver.Giver.{Giver}
use Rattle.stored_run.proofs.OfOne.{Each}
use Rattle.stored_run.proofs.PlainEvents.{gid_added}
use Rattle.stored_run.proofs.RunParts.{part_from, part_to, some_blocks_in}
use Rattle.verify_piece.specs.Seals.{PieceBytes}
use Rattle.blameless_mirrors.proofs.Rows.{IsRowOf, answered_each, is_plain, of_each, row_call, row_deliver, row_leave, row_lose, row_more, row_next, row_only, row_seal, row_sized, row_stop}

-- ---- landings

-- a part that lands is one of the run that was delivered, within that of a claim that stands
pub record IsDeliveredPart (start : RunStart) (past : List Event) (claim : ℕ) (run : Run) (gid : Gid) (id : ℕ) (part : Run)
    : Type 0 where
  pub same : id ≡ claim
  pub download : Download
  pub added : download_in start past gid ≡ Some download
  pub some : 0 < part.count
  pub first : run.first ≤ part.first
  pub last : part.first + part.count ≤ run.first + run.count
  pub claimed : Claim
  pub stands : Contains (standing_claims (own_of start past gid)) claimed
  pub within : run.first + run.count ≤ claimed.run.first + claimed.run.count

-- an operation that delivers nothing lands nothing
pub landed_by : (start : RunStart) (past : List Event) (t : RunTurn) (files : Files) (op : Operation) {P : Type 0}
    → WritesAsTold start past t op files
    → ((claim : ℕ) (run : Run) (bytes : List ℕ) (now : Moment) → op ≡ operation.Deliver claim run bytes now → P)
    → (gid : Gid) (id mirror : ℕ) (part : Run) (at : Moment) → Contains t.events (Landed gid id mirror part at) → P
landed_by start past t files (operation.Deliver claim run bytes now) writes by gid id mirror part at there =
    by claim run bytes now refl
landed_by start past t files (operation.Next worker now) writes by gid id mirror part at there =
    absurd (writes gid id mirror part at there)
landed_by start past t files (operation.Seal sealed_gid sealed now) writes by gid id mirror part at there =
    absurd (writes gid id mirror part at there)
landed_by start past t files (operation.Call session call now) writes by gid id mirror part at there =
    absurd (writes gid id mirror part at there)
landed_by start past t files (operation.More claim want now) writes by gid id mirror part at there =
    absurd (writes gid id mirror part at there)
landed_by start past t files (operation.Lose claim mark now) writes by gid id mirror part at there =
    absurd (writes gid id mirror part at there)
landed_by start past t files (operation.Sized claim total now) writes by gid id mirror part at there =
    absurd (writes gid id mirror part at there)
landed_by start past t files operation.Pulse writes by gid id mirror part at there =
    absurd (writes gid id mirror part at there)
landed_by start past t files (operation.Notices from) writes by gid id mirror part at there =
    absurd (writes gid id mirror part at there)
landed_by start past t files operation.Leave writes by gid id mirror part at there =
    absurd (writes gid id mirror part at there)
landed_by start past t files (operation.Stop now) writes by gid id mirror part at there =
    absurd (writes gid id mirror part at there)

-- what is answered to an operation
abbrev pub AnsweredTo : RunStart → List RunTurn → RunTurn → Operation → Type 0
AnsweredTo start before t op =
    IsAnswered (turn_start start before t) (standing_after start before) op t.events t.answer.said
    (answer_before start (history_of before) op)

module _ (start : RunStart) (before : List RunTurn) (t : RunTurn) where
  abbrev pub at_start : TurnStart
  at_start = turn_start start before t

  abbrev pub standing : RunStanding
  standing = standing_after start before

  abbrev past : List Event
  past = history_of before

  each_of : (E : Event → Type 0) (op : Operation) → IsRowOf E (OperationRow at_start standing op) → AnsweredTo start before t op
      → Each E t.events
  each_of E op row answered =
      answered_each E at_start standing op t.events t.answer.said (answer_before start past op) row answered

  -- ---- deliveries

  abbrev LandsPart : ℕ → Run → Event → Type 0
  LandsPart claim run e =
      (gid : Gid) (id mirror : ℕ) (part : Run) (at : Moment) → e ≡ Landed gid id mirror part at
      → IsDeliveredPart start past claim run gid id part

  plain_lands : (claim : ℕ) (run : Run) (e : Event) → is_plain e ≡ true → LandsPart claim run e
  plain_lands claim run e plain gid id mirror part at is = absurd (let f : true ≡ false = sym plain ∙ ap is_plain is in cc)

  part_lands : (claim : ℕ) (run : Run) (bytes : List ℕ) (download : Download) (claimed : Claim) (events : List Event)
      (said : Said) → IsHomeOf start past claim download claimed
      → IsDelivery (known_lengths start past download.gid) claimed run bytes
      → (kept : IsKept at_start standing download claimed run events said) → (part : Run) → Contains kept.runs part
      → LandsPart claim run (Landed download.gid claimed.id claimed.mirror part at_start.now)
  part_lands claim run bytes download claimed events said home delivery kept part there gid id mirror part' at is =
      let Is = λ (block : ℕ). is_open_since (own_of start past download.gid) claimed block ≡ true in
      let n = there.0 in
      let here : IsDeliveredPart start past claim run download.gid claimed.id part = record {
        same = home.id_is;
        download = download;
        added = home.added;
        some = subst (λ (p : Run). 0 < p.count) there.2 (some_blocks_in Is run kept.runs kept.open_runs n part there.1);
        first = subst (λ (p : Run). run.first ≤ p.first) there.2 (part_from Is run kept.runs kept.open_runs n part there.1);
        last = subst (λ (p : Run). p.first + p.count ≤ run.first + run.count) there.2
            (part_to Is run kept.runs kept.open_runs n part there.1);
        claimed = claimed;
        stands = home.stands;
        within = delivery.last;
      } in
      let gid_same : download.gid ≡ gid = cc in
      let id_same : claimed.id ≡ id = cc in
      let part_same : part ≡ part' = cc in
      subst (λ (p : Run). IsDeliveredPart start past claim run gid id p) part_same
      (subst (λ (i : ℕ). IsDeliveredPart start past claim run gid i part) id_same
      (subst (λ (g : Gid). IsDeliveredPart start past claim run g claimed.id part) gid_same here))

  pub delivered_part : MayComeAfter start before t → (claim : ℕ) (run : Run) (bytes : List ℕ) (now : Moment)
      → t.op ≡ operation.Deliver claim run bytes now → (gid : Gid) (id mirror : ℕ) (part : Run) (at : Moment)
      → Contains t.events (Landed gid id mirror part at) → IsDeliveredPart start past claim run gid id part
  delivered_part may claim run bytes now op gid id mirror part at there =
      let answered = subst (AnsweredTo start before t) op may.answered in
      of_each (LandsPart claim run) t.events (Landed gid id mirror part at)
      (each_of (LandsPart claim run) (operation.Deliver claim run bytes now)
      (row_deliver (LandsPart claim run) (plain_lands claim run) (λ g piece giver g' i m p a is. absurd cc) at_start standing
      claim run bytes (part_lands claim run bytes)) answered) there gid id mirror part at refl

  -- ---- findings

  -- it finds no piece wrong
  abbrev FindsNoneWrong : Event → Type 0
  FindsNoneWrong e = (gid : Gid) (piece : ℕ) (giver : Giver) → e ≡ Settled gid piece false giver → ⊥

  plain_finds : (e : Event) → is_plain e ≡ true → FindsNoneWrong e
  plain_finds e plain gid piece giver is = absurd (let f : true ≡ false = sym plain ∙ ap is_plain is in cc)

  right_finds : (gid : Gid) (piece : ℕ) (giver : Giver) → FindsNoneWrong (Settled gid piece true giver)
  right_finds gid piece giver g p v is = absurd cc

  -- a finding that is of this piece
  abbrev FindsPiece : Gid → ℕ → Event → Type 0
  FindsPiece g p e =
      (gid : Gid) (piece : ℕ) (right : Bool) (giver : Giver) → e ≡ Settled gid piece right giver → (g ≡ gid) × (p ≡ piece)

  -- a seal that finds the piece wrong
  pub record IsSealOf (gid : Gid) (piece : ℕ) : Type 0 where
    pub sealed : PieceBytes
    pub now : Moment
    pub op : t.op ≡ operation.Seal gid sealed now
    pub same : sealed.piece ≡ piece

  sealed_so : (g : Gid) (sealed : PieceBytes) (now : Moment) → t.op ≡ operation.Seal g sealed now
      → AnsweredTo start before t (operation.Seal g sealed now)
      → (gid : Gid) (piece : ℕ) (giver : Giver) → Contains t.events (Settled gid piece false giver) → IsSealOf gid piece
  sealed_so g sealed now op answered gid piece giver there =
      let is = of_each (FindsPiece g sealed.piece) t.events (Settled gid piece false giver)
      (each_of (FindsPiece g sealed.piece) (operation.Seal g sealed now)
      (row_seal (FindsPiece g sealed.piece)
      (λ e plain gid' p right v is. absurd (let f : true ≡ false = sym plain ∙ ap is_plain is in cc)) at_start standing g sealed
      (λ download added right v gid' p right' v' is.
      let its : download.gid ≡ g = gid_added start past g download added in
      (let e : download.gid ≡ gid' = cc in sym its ∙ e, cc))) answered) there gid piece false giver refl in
      record {
        sealed = sealed;
        now = now;
        op = subst (λ (h : Gid). t.op ≡ operation.Seal h sealed now) is.0 op;
        same = is.1;
      }

  wrong_never : (op : Operation) → IsRowOf FindsNoneWrong (OperationRow at_start standing op) → AnsweredTo start before t op
      → (gid : Gid) (piece : ℕ) (giver : Giver) → Contains t.events (Settled gid piece false giver) → IsSealOf gid piece
  wrong_never op row answered gid piece giver there =
      absurd (of_each FindsNoneWrong t.events (Settled gid piece false giver) (each_of FindsNoneWrong op row answered) there
      gid piece giver refl)

  wrong_by : (op : Operation) → t.op ≡ op → AnsweredTo start before t op → (gid : Gid) (piece : ℕ) (giver : Giver)
      → Contains t.events (Settled gid piece false giver) → IsSealOf gid piece
  wrong_by (operation.Seal g sealed now) is answered = sealed_so g sealed now is answered
  wrong_by (operation.Deliver claim run bytes now) is answered =
      wrong_never (operation.Deliver claim run bytes now)
      (row_deliver FindsNoneWrong plain_finds right_finds at_start standing claim run bytes
      (λ download claimed events said home delivery kept part there g p v e. absurd cc)) answered
  wrong_by (operation.Next worker now) is answered =
      wrong_never (operation.Next worker now) (row_next FindsNoneWrong plain_finds right_finds at_start standing worker) answered
  wrong_by (operation.Call session call now) is answered =
      wrong_never (operation.Call session call now) (row_call FindsNoneWrong plain_finds at_start standing session call) answered
  wrong_by (operation.More claim want now) is answered =
      wrong_never (operation.More claim want now) (row_more FindsNoneWrong plain_finds at_start standing claim want) answered
  wrong_by (operation.Lose claim mark now) is answered =
      wrong_never (operation.Lose claim mark now) (row_lose FindsNoneWrong plain_finds at_start standing claim mark) answered
  wrong_by (operation.Sized claim total now) is answered =
      wrong_never (operation.Sized claim total now) (row_sized FindsNoneWrong plain_finds at_start standing claim total) answered
  wrong_by operation.Pulse is answered =
      wrong_never operation.Pulse (row_only FindsNoneWrong plain_finds Idle) answered
  wrong_by (operation.Notices from) is answered =
      wrong_never (operation.Notices from)
      (row_only FindsNoneWrong plain_finds (notices_said at_start.start standing.past from)) answered
  wrong_by operation.Leave is answered =
      wrong_never operation.Leave (row_leave FindsNoneWrong plain_finds at_start standing) answered
  wrong_by (operation.Stop now) is answered =
      wrong_never (operation.Stop now) (row_stop FindsNoneWrong plain_finds at_start standing) answered

  -- only a seal of a piece finds it wrong
  pub wrong_sealed : MayComeAfter start before t → (gid : Gid) (piece : ℕ) (giver : Giver)
      → Contains t.events (Settled gid piece false giver) → IsSealOf gid piece
  wrong_sealed may = wrong_by t.op refl may.answered
