-- A seal that comes right behind its grant is taken, since the disk reads the piece as it did.
use Rattle.std.proofs.Common.{◌≡◌, ◌∷◌, ◌++◌, ℕ, Bool, true, false, cond, List, [], Option, Some, None, slice_get, refl, sym, ap, subst, ◌∙◌, ⊎_elim, arith, eq-eqb}
use Rattle.std.specs.Prelude.{◌&&◌, ◌||◌, ◌==◌, not, filter, Contains}
use Rattle.std.specs.List.{list_any}
use Rattle.blameless_mirrors.specs.Blameless.{FollowsMark}
use Rattle.control_file.specs.declared.want.Want.{Want}
use Rattle.dl_disk.specs.Files.{Files}
use Rattle.dl_disk.specs.State.{DiskState}
use Rattle.dl_kinds.specs.declared.gid.Gid.{Gid}
use Rattle.dl_kinds.specs.declared.runs.Moment.{Moment}
use Rattle.dl_history.proofs.Bools.{and_both}
use Rattle.dl_history.proofs.Members.{Has, has_any}
use Rattle.engine_core.proofs.Promising.{alone_before}
use Rattle.engine_core.specs.Askings.{IsWrittenAlone, is_opened_in}
use Rattle.engine_core.specs.TurnReads.{GrantsAsRead, TakesAsRead, TurnsFitDisk}
use Rattle.engine_core.specs.Writings.{CutsByte, LandsByte}
use Rattle.engine_turns.specs.NextRows.{NextRow, OfferRow, OpenRow, offers_in, whole_row}
use Rattle.engine_turns.specs.Phases.{TurnStart}
use Rattle.engine_turns.specs.Standings.{AnswersUnlessStarved, RunStanding, levels_in}
use Rattle.engine_turns.specs.Told.{AllTurns, RunTurn, handed_by, handed_in, history_after, history_of, is_taken, seals_handed, settles_handed, stays_out, takes_back}
use Rattle.engine_turns.specs.declared.operations.Grant.TheVariants as grant
use Rattle.engine_turns.specs.declared.operations.Operation.{Operation}
use Rattle.engine_turns.specs.declared.operations.Operation.TheVariants as operation
use Rattle.engine_turns.specs.declared.operations.Said.{Said}
use Rattle.engine_turns.specs.declared.operations.Said.TheVariants as said
use Rattle.engine_turns.specs.declared.outcome.Outcome.{Outcome}
use Rattle.engine_turns.specs.declared.outcome.Outcome.TheVariants.{Went, Over, Starved}
use Rattle.machine_core.specs.DownloadWants.{HasWant}
use Rattle.machine_core.specs.Offers.{IsOfferBy, is_handed, is_handed_out}
use Rattle.machine_core.specs.OwnParts.{PayloadLengths, payload_lengths_of}
use Rattle.machine_core.specs.Replays.{is_active_in, is_same_gid, queue_in}
use Rattle.machine_core.specs.RunLegal.{IsLegal, download_in, is_listed}
use Rattle.machine_core.specs.Starts.{Download, RunStart}
use Rattle.machine_core.specs.declared.events.Event.{Event}
use Rattle.machine_core.specs.declared.handed.Handed.{Handed}
use Rattle.machine_core.specs.declared.offers.Offer.{Offer}
use Rattle.machine_core.specs.declared.offers.Offer.TheVariants.{Whole, Blocks, Probe}
use Rattle.machine_core.specs.declared.offers.Offered.TheVariants as offered
use Rattle.payload_files.specs.Payload.{HasFiles}
use Rattle.resume_core.specs.Runs.{ReadsPiece}
use Rattle.stored_run.specs.RunFollows.{RunFollows}
use Rattle.stored_run.specs.Settlings.{payload_of}
use Rattle.verify_piece.specs.Seals.{PieceBytes}
use Rattle.worker_turns.proofs.Holds.{credit_is}
use Rattle.offered_work.proofs.Added.{added_gid}
use Rattle.worker_turns.proofs.PieceReads.{reads_still}

-- ---- a piece is handed out

-- the turn appended nothing, and the piece is one of an active download that is opened
pub record HandsOut (at : TurnStart) (s : RunStanding) (gid : Gid) (events : List Event) : Type 0 where
  pub none : events ≡ []
  pub active : Has (queue_in at.start s.past).active gid
  pub download : Download
  pub added : download_in at.start s.past gid ≡ Some download
  pub lengths : PayloadLengths
  pub known : payload_lengths_of at.start s.past gid ≡ Some lengths
  pub opened : is_opened_in at.start s.past gid ≡ true

unhanded : (usual answer : Said) (outcome : Outcome) (gid : Gid) (piece : ℕ) (bytes : List ℕ)
    → answer ≡ said.Grant (grant.Hash gid piece bytes)
    → (usual ≡ said.Grant (grant.Hash gid piece bytes) → ⊥) → AnswersUnlessStarved usual outcome answer → ⊥
unhanded usual answer Went gid piece bytes granted other is = other (sym is ∙ granted)
unhanded usual answer Over gid piece bytes granted other is = other (sym is ∙ granted)
unhanded usual answer Starved gid piece bytes granted other is =
    (let no_way : said.NoMemory ≡ said.Grant (grant.Hash gid piece bytes) = sym is ∙ granted in cc)

open_unhanded : (at : TurnStart) (s : RunStanding) (download : Download) (events : List Event) (answer : Said) (gid :
    Gid)
    (piece : ℕ) (bytes : List ℕ) → answer ≡ said.Grant (grant.Hash gid piece bytes)
    → OpenRow at s download events answer → ⊥
open_unhanded at s download events answer gid piece bytes granted row =
    ⊎_elim (λ clashed. let no_way = sym clashed.3 ∙ granted in cc)
    (λ opened. unhanded said.Done answer opened.1.0 gid piece bytes granted (λ e. let no_way = e in cc) opened.1.2) row

whole_known : (at : TurnStart) (s : RunStanding) (handed : List Handed) (download : Download) (gid : Gid) (now piece :
    ℕ)
    (o : Option PayloadLengths) → payload_lengths_of at.start s.past gid ≡ o
    → IsOfferBy handed at.start s.past download o now (Whole piece)
    → (l : PayloadLengths) × (payload_lengths_of at.start s.past gid ≡ Some l)
    × (is_opened_in at.start s.past download.gid ≡ true)
whole_known at s handed download gid now piece None is offer = absurd offer
whole_known at s handed download gid now piece (Some l) is offer = (l, is, offer.0)

whole_hands : (at : TurnStart) (s : RunStanding) (download : Download) (whole : ℕ) (listed : Bool) (events : List Event)
    (answer : Said) (gid : Gid) (piece : ℕ) (bytes : List ℕ) → answer ≡ said.Grant (grant.Hash gid piece bytes)
    → whole_row at s download whole listed events answer → (events ≡ []) × (download.gid ≡ gid)
whole_hands at s download whole true events answer gid piece bytes granted row =
    ⊎_elim
    (λ hash. let both : said.Grant (grant.Hash download.gid whole hash.bytes) ≡ said.Grant (grant.Hash gid piece bytes)
    =
    sym hash.is.1 ∙ granted in
    let same : download.gid ≡ gid = cc in (hash.is.0, same))
    (⊎_elim (λ faulted. absurd (let no_way = sym faulted.1 ∙ granted in cc))
    (λ starved. absurd (let no_way = sym starved.1 ∙ granted in cc))) row
whole_hands at s download whole false events answer gid piece bytes granted row =
    absurd (unhanded said.Done answer row.0 gid piece bytes granted (λ e. let no_way = e in cc) row.2)

offer_hands : (at : TurnStart) (s : RunStanding) (worker : ℕ) (download : Download) (offer : Offer) (events : List
    Event)
    (answer : Said) (gid : Gid) (piece : ℕ) (bytes : List ℕ) → answer ≡ said.Grant (grant.Hash gid piece bytes)
    → offers_in at s (offered.Next download.gid offer) → OfferRow at s worker download offer events answer
    → HandsOut at s gid events
offer_hands at s worker download (Whole whole) events answer gid piece bytes granted is row =
    let hands = whole_hands at s download whole (is_listed download.subject) events answer gid piece bytes granted row
    in
    let queue = queue_in at.start s.past in
    let c = credit_is queue.active queue.added (levels_in s) at.now.0 is.before is.credit is.behind is.cut in
    let of = is.is in
    let w = whole_known at s s.handed of.download download.gid at.now.0 whole
    (payload_lengths_of at.start s.past download.gid) refl of.is in
    let same : of.download.gid ≡ download.gid = added_gid at.start s.past download.gid of.download of.added in
    let P : Gid → Type 0 = λ g. HandsOut at s g events in
    subst P hands.1 (record {
      none = hands.0;
      active = subst (λ (g : Gid). Has queue.active g) is.gid_is c.0;
      download = of.download;
      added = of.added;
      lengths = w.0;
      known = w.1;
      opened = subst (λ (g : Gid). is_opened_in at.start s.past g ≡ true) same w.2;
    })
offer_hands at s worker download (Blocks mirror run victim) events answer gid piece bytes granted is row =
    absurd (let no_way = sym row.is ∙ granted in cc)
offer_hands at s worker download (Probe mirror) events answer gid piece bytes granted is row =
    absurd (let no_way = sym row.is ∙ granted in cc)

pub next_hands : (at : TurnStart) (s : RunStanding) (worker : ℕ) (events : List Event) (answer : Said) (gid : Gid)
    (piece : ℕ) (bytes : List ℕ) → answer ≡ said.Grant (grant.Hash gid piece bytes)
    → NextRow at s worker events answer → HandsOut at s gid events
next_hands at s worker events answer gid piece bytes granted row =
    ⊎_elim (λ opening. absurd (open_unhanded at s opening.download events answer gid piece bytes granted opening.row))
    (λ other. ⊎_elim
    (λ given. offer_hands at s worker given.download given.offer events answer gid piece bytes granted given.is
    given.row)
    (⊎_elim (λ held. absurd (let no_way = sym held.2.1 ∙ granted in cc))
    (λ idle. absurd (let no_way = sym idle.1.1 ∙ granted in cc))) other.1) row

-- ---- the piece is out

module _ (start : RunStart) (before : List RunTurn) (g : RunTurn) (gid : Gid) (piece : ℕ) (bytes : List ℕ)
    (granted : g.answer.said ≡ said.Grant (grant.Hash gid piece bytes)) (worker : ℕ) (now : Moment)
    (op : g.op ≡ operation.Next worker now) (none : g.events ≡ [])
    (active : Has (queue_in start (history_of before)).active gid) where
  abbrev Out : Handed
  Out = record { gid = gid; piece = piece }

  pub grant_past : history_of (g ∷ before) ≡ history_of before
  grant_past = ap (λ (es : List Event). history_after (history_of before) es) none

  out_untaken : takes_back g Out ≡ false
  out_untaken =
      ap (λ (es : List Event). list_any (settles_handed Out) es || seals_handed Out g.op && is_taken g.answer.said) none
      ∙ ap (λ (o : Operation). seals_handed Out o && is_taken g.answer.said) op

  out_active : is_active_in start (history_of (g ∷ before)) gid ≡ true
  out_active =
      ap (λ (p : List Event). is_active_in start p gid) grant_past
      ∙ has_any (is_same_gid gid) (queue_in start (history_of before)).active gid active (eq-eqb gid.0 gid.0 refl)

  out_stays : stays_out start g (history_of (g ∷ before)) Out ≡ true
  out_stays =
      and_both (is_active_in start (history_of (g ∷ before)) gid) (not (takes_back g Out)) out_active (ap not
      out_untaken)

  pub is_out : is_handed_out (handed_in start (g ∷ before)) gid piece ≡ true
  is_out =
      let p : Handed → Bool = stays_out start g (history_of (g ∷ before)) in
      let rest = handed_in start before in
      ap (λ (a : Said). list_any (is_handed gid piece) (filter p (handed_by a ++ rest))) granted
      ∙ (ap (λ (t : Bool). list_any (is_handed gid piece) (cond t (Out ∷ filter p rest) (filter p rest))) out_stays
      ∙ ap (λ (t : Bool). t || list_any (is_handed gid piece) (filter p rest))
      (and_both (gid.0 == gid.0) (piece == piece) (eq-eqb gid.0 gid.0 refl) (eq-eqb piece piece refl)))

-- ---- what the disk reads at the seal

none_there : (events : List Event) (e : Event) → events ≡ [] → Contains events e → ⊥
none_there events e none there =
    (let empty = subst (λ (es : List Event). Contains es e) none there in
    let below = empty.1 in omega (arith, below))

module _ (laws : RunFollows) (start : RunStart) (disk : DiskState) (u : RunTurn) (older : List RunTurn) (g t : RunTurn)
    (gid : Gid)
    (sealed : PieceBytes) (granted : g.answer.said ≡ said.Grant (grant.Hash gid sealed.piece sealed.bytes)) (worker : ℕ)
    (now later : Moment) (op : g.op ≡ operation.Next worker now) (op' : t.op ≡ operation.Seal gid sealed later)
    (none : g.events ≡ []) (active : Has (queue_in start (history_of (u ∷ older))).active gid)
    (opened : is_opened_in start (history_of (u ∷ older)) gid ≡ true)
    (legal : IsLegal start (history_of (g ∷ u ∷ older))) (marks : AllTurns FollowsMark (t ∷ g ∷ u ∷ older))
    (fits : TurnsFitDisk start (t ∷ g ∷ u ∷ older) disk) (want : Want) (has : HasWant start (history_of (u ∷ older))
    gid want)
    (alone : IsWrittenAlone start (g ∷ u ∷ older) want) where
  abbrev Before : List RunTurn
  Before = u ∷ older

  abbrev Old : Files
  Old = disk.seen_at g.before.time

  abbrev New : Files
  New = disk.seen_at g.after.time

  same_past : history_of (g ∷ Before) ≡ history_of Before
  same_past = grant_past start Before g gid sealed.piece sealed.bytes granted worker now op none active

  whole_before : HasFiles want.dir want.layout Old
  whole_before =
      let time : u.after.time ≡ g.before.time = ap (λ s. s.time) (sym marks.1.0) in
      subst (λ (k : ℕ). HasFiles want.dir want.layout (disk.seen_at k)) time
      (fits.1.1.0.fits.lengths want gid (alone_before laws start Before g legal want alone)
      (record { opened = opened; has = has }))

  has_behind : HasWant start (history_of (g ∷ Before)) gid want
  has_behind = subst (λ (h : List Event). HasWant start h gid want) (sym same_past) has

  whole_behind : HasFiles want.dir want.layout New
  whole_behind =
      fits.1.0.fits.lengths want gid alone (record {
        opened = subst (λ (h : List Event). is_opened_in start h gid ≡ true) (sym same_past) opened;
        has = has_behind;
      })

  unwritten : (at : ℕ) → slice_get (payload_of want New) at ≡ slice_get (payload_of want Old) at
  unwritten at =
      fits.1.0.fits.payload want alone whole_before at (λ written. ⊎_elim
      (λ (lands : LandsByte start (history_of Before) g want at). none_there g.events _ none lands.landed)
      (λ (cuts : CutsByte start (history_of Before) g want at).
      let no_way : operation.Next worker now ≡ operation.Deliver cuts.claim cuts.run cuts.bytes cuts.now =
      sym op ∙ cuts.delivers in cc) written)

  read_then : ReadsPiece want sealed.piece Old sealed.bytes
  read_then =
      let takes = subst (λ (o : Operation). TakesAsRead start Before g o Old) op fits.1.0.fits.takes in
      let gives = subst (λ (a : Said). GrantsAsRead start (history_of Before) a Old) granted takes in
      gives want has

  read_now : ReadsPiece want sealed.piece New sealed.bytes
  read_now = reads_still want Old New whole_before whole_behind unwritten sealed.piece sealed.bytes read_then

  pub seal_taken : t.answer.said ≡ said.Void → ⊥
  seal_taken void =
      let takes = subst (λ (o : Operation). TakesAsRead start (g ∷ Before) t o (disk.seen_at t.before.time)) op'
      fits.0.fits.takes in
      let out = is_out start Before g gid sealed.piece sealed.bytes granted worker now op none active in
      let lacks = takes.void out void in
      let time : g.after.time ≡ t.before.time = ap (λ s. s.time) (sym marks.0) in
      lacks want has_behind
      (subst (λ (k : ℕ). ReadsPiece want sealed.piece (disk.seen_at k) sealed.bytes) time read_now)
