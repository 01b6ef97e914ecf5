-- Over all turns of a worker its seals are taken.
use Rattle.std.proofs.Common.{◌≡◌, ◌∷◌, ℕ, zero, suc, Bool, true, false, List, [], ◌++◌, Option, Some, None, refl, sym, ap, subst, ◌∙◌, ⊎_elim}
use Rattle.std.proofs.lemmas.List.Elements.{All-cons, All-nil}
use Rattle.blameless_mirrors.specs.Blameless.{FollowsMark}
use Rattle.control_file.specs.declared.want.Want.{Want}
use Rattle.dl_disk.specs.State.{DiskState}
use Rattle.dl_kinds.specs.declared.claims.Claim.{Claim}
use Rattle.dl_kinds.specs.declared.gid.Gid.{Gid}
use Rattle.dl_kinds.specs.declared.runs.Moment.{Moment}
use Rattle.engine_core.proofs.Promising.{alone_before, download_on, lengths_on, opened_on}
use Rattle.engine_core.specs.Askings.{IsWrittenAlone, is_opened_in}
use Rattle.engine_core.specs.TurnReads.{FitsDisk, TurnsFitDisk}
use Rattle.engine_turns.specs.ClaimRows.{DeliverRow, LoseRow, MoreRow, SizedRow, more_said}
use Rattle.engine_turns.specs.NextRows.{NextRow}
use Rattle.engine_turns.specs.Phases.{TurnStart}
use Rattle.engine_turns.specs.RunTurns.{MayComeAfter, OperationRow, turn_start}
use Rattle.engine_turns.specs.Standings.{AnswersUnlessStarved, OfClaim, RunStanding, standing_after}
use Rattle.engine_turns.specs.Told.{AllTurns, RunTurn, history_of}
use Rattle.engine_turns.specs.declared.operations.Grant.{Grant}
use Rattle.engine_turns.specs.declared.operations.Grant.TheVariants as grant
use Rattle.engine_turns.specs.declared.operations.Operation.{Operation}
use Rattle.engine_turns.specs.declared.operations.Operation.TheVariants as operation
use Rattle.engine_turns.specs.declared.operations.Said.{Said}
use Rattle.engine_turns.specs.declared.operations.Said.TheVariants as said
use Rattle.engine_turns.specs.declared.outcome.Outcome.{Outcome}
use Rattle.engine_turns.specs.declared.outcome.Outcome.TheVariants.{Went, Over, Starved}
use Rattle.machine_core.specs.DownloadWants.{HasWant, IsWantOf}
use Rattle.machine_core.specs.OwnParts.{PayloadLengths, payload_lengths_of}
use Rattle.machine_core.specs.RunLegal.{IsLegal, download_in}
use Rattle.machine_core.specs.Starts.{Download, RunStart}
use Rattle.machine_core.specs.declared.events.Event.{Event}
use Rattle.stored_run.specs.RunFollows.{RunFollows}
use Rattle.verify_piece.specs.Seals.{PieceBytes}
use Rattle.conn_worker.specs.Ends.{end_of_said}
use Rattle.conn_worker.specs.Hands.{Fetching, Hand, Nothing, Fetches, Probes, Seals, LinkAt, WorkerAt, delivered, fresh}
use Rattle.conn_worker.specs.Sound.{NoGrant}
use Rattle.conn_worker.specs.Table.{FollowsAnswer, FollowsDelivery, FollowsFetch, FollowsGrant, FollowsKept, FollowsMore, due_op, end_behind, fetch_op, goes_on_by, probe_op}
use Rattle.conn_worker.specs.Works.{EndsOrGoesOn, Works, turn_moment}
use Rattle.conn_worker.specs.declared.ends.WorkEnd.{WorkEnd}
use Rattle.conn_worker.specs.declared.hands.Gain.{Gain}
use Rattle.conn_worker.specs.declared.hands.Gain.TheVariants.{Lost, Open, Ready, Starved as StarvedGain}
use Rattle.conn_worker.specs.declared.hands.ProbeEnd.{ProbeEnd}
use Rattle.conn_worker.specs.declared.hands.ProbeEnd.TheVariants.{Told, Missed, Lacking}
use Rattle.worker_turns.specs.Alone.{turns_behind}
use Rattle.worker_turns.specs.Reads.{SoloSealsAreTaken, WantsAreOwn}
use Rattle.worker_turns.specs.TurnBounds.{ComeAfter, SealsAreTaken, IsSealTaken}
use Rattle.worker_turns.proofs.Appending.{answered}
use Rattle.worker_turns.proofs.Followed.{fetch_followed, grant_followed, nothing_followed, probe_followed, seal_followed}
use Rattle.worker_turns.proofs.Lone.{legal_behind}
use Rattle.worker_turns.proofs.Solo.{all_behind, come_behind}
use Rattle.worker_turns.proofs.Seals.{next_hands, seal_taken}

-- ---- only where work is asked for something is granted

ungranted : (usual answer : Said) (granted : Grant) → answer ≡ said.Grant granted → NoGrant usual → answer ≡ usual → ⊥
ungranted (said.Grant other) answer granted is none same = none
ungranted (said.Replied place reply starved) answer granted is none same = (let no_way = sym is ∙ same in cc)
ungranted (said.Kept counted repeated) answer granted is none same = (let no_way = sym is ∙ same in cc)
ungranted (said.Allow bytes) answer granted is none same = (let no_way = sym is ∙ same in cc)
ungranted said.Void answer granted is none same = (let no_way = sym is ∙ same in cc)
ungranted (said.Hold ms) answer granted is none same = (let no_way = sym is ∙ same in cc)
ungranted said.Idle answer granted is none same = (let no_way = sym is ∙ same in cc)
ungranted said.Done answer granted is none same = (let no_way = sym is ∙ same in cc)
ungranted said.Finished answer granted is none same = (let no_way = sym is ∙ same in cc)
ungranted (said.JournalFull count) answer granted is none same = (let no_way = sym is ∙ same in cc)
ungranted (said.Notices list upto) answer granted is none same = (let no_way = sym is ∙ same in cc)
ungranted said.NoMemory answer granted is none same = (let no_way = sym is ∙ same in cc)

unless_granted : (usual answer : Said) (outcome : Outcome) (granted : Grant) → answer ≡ said.Grant granted → NoGrant
    usual
    → AnswersUnlessStarved usual outcome answer → ⊥
unless_granted usual answer Went granted is none same = ungranted usual answer granted is none same
unless_granted usual answer Over granted is none same = ungranted usual answer granted is none same
unless_granted usual answer Starved granted is none same = ungranted said.NoMemory answer granted is tt same

more_ungranted : (at : TurnStart) (s : RunStanding) (gid : Gid) (want credit : ℕ) → NoGrant (more_said at s gid want
    credit)
more_ungranted at s gid zero credit = tt
more_ungranted at s gid (suc want) zero = tt
more_ungranted at s gid (suc want) (suc credit) = tt

claim_ungranted : (at : TurnStart) (s : RunStanding) (id : ℕ) (Row : Download → Claim → List Event → Said → Type 0)
    (events : List Event) (answer : Said) (granted : Grant) → answer ≡ said.Grant granted
    → ((download : Download) (claim : Claim) → Row download claim events answer → ⊥) → OfClaim at s id Row events
    answer → ⊥
claim_ungranted at s id Row events answer granted is other row =
    ⊎_elim (λ none. ungranted said.Void answer granted is tt none.1.1) (λ of. other of.0 of.1 of.3) row

abbrev pub AsksForWork : TurnStart → RunStanding → Operation → List Event → Said → Type 0
AsksForWork at s op events answer =
    (worker : ℕ) × (now : Moment) × (op ≡ operation.Next worker now) × NextRow at s worker events answer

pub grant_is_next : (at : TurnStart) (s : RunStanding) (op : Operation) (events : List Event) (answer : Said) (granted :
    Grant)
    → answer ≡ said.Grant granted → OperationRow at s op events answer → AsksForWork at s op events answer
grant_is_next at s (operation.Next worker now) events answer granted is row = (worker, now, refl, row)
grant_is_next at s (operation.Call session call now) events answer granted is row =
    absurd (ungranted _ answer granted is tt row.answer)
grant_is_next at s (operation.Deliver claim run bytes now) events answer granted is row =
    absurd (claim_ungranted at s claim (DeliverRow at s run bytes) events answer granted is
    (λ download c came. ⊎_elim (λ kept. unless_granted _ answer kept.1.outcome granted is tt kept.1.answer)
    (λ void. ungranted said.Void answer granted is tt void.1.1) came) row)
grant_is_next at s (operation.More claim want now) events answer granted is row =
    absurd (claim_ungranted at s claim (MoreRow at s want) events answer granted is
    (λ download c more. ungranted _ answer granted is (more_ungranted at s download.gid want _) more.1) row)
grant_is_next at s (operation.Lose claim mark now) events answer granted is row =
    absurd (claim_ungranted at s claim (LoseRow at s mark) events answer granted is
    (λ download c lost. ungranted said.Done answer granted is tt lost.2) row)
grant_is_next at s (operation.Sized claim total now) events answer granted is row =
    absurd (claim_ungranted at s claim (SizedRow at s total) events answer granted is
    (λ download c sized. ⊎_elim (λ told. ungranted said.Done answer granted is tt told.1.2)
    (λ none. ungranted said.Void answer granted is tt none.1.1) sized) row)
grant_is_next at s (operation.Seal gid sealed now) events answer granted is row =
    absurd (⊎_elim (λ void. ungranted said.Void answer granted is tt void.1)
    (λ settled. unless_granted said.Done answer settled.1.outcome granted is tt settled.1.answer) row)
grant_is_next at s operation.Pulse events answer granted is row = absurd (ungranted said.Idle answer granted is tt
    row.1)
grant_is_next at s (operation.Notices from) events answer granted is row = absurd (ungranted _ answer granted is tt
    row.1)
grant_is_next at s operation.Leave events answer granted is row = absurd (ungranted said.Done answer granted is tt
    row.1)
grant_is_next at s (operation.Stop now) events answer granted is row =
    absurd (unless_granted said.Done answer row.outcome granted is tt row.answer)

-- ---- what is in hand behind a turn that grants nothing

abbrev pub IsUnsealed : Hand → Type 0
IsUnsealed (Seals gid sealed) = ⊥
IsUnsealed hand = Unit {0}

unsealed_as : (hand hand' : Hand) → hand' ≡ hand → IsUnsealed hand → IsUnsealed hand'
unsealed_as hand hand' is un = subst (λ (h : Hand). IsUnsealed h) (sym is) un

unsealed_kept : (tells : Bool) (d : Fetching) (last : Bool) (left : ℕ) (link : LinkAt) (hand' : Hand) (link' : LinkAt)
    → d.left ≡ left → FollowsKept tells d last link hand' link' → IsUnsealed hand'
unsealed_kept tells d true left link hand' link' is kept = unsealed_as Nothing hand' kept.0 tt
unsealed_kept tells d false zero link hand' link' is kept =
    unsealed_as (Fetches d) hand' (subst (λ n. goes_on_by tells d n link hand' link') is kept).0 tt
unsealed_kept tells d false (suc left) link hand' link' is kept =
    let steps = subst (λ n. goes_on_by tells d n link hand' link') is kept in
    unsealed_as (Fetches steps.0) hand' steps.2 tt

unsealed_delivery : (tells : Bool) (d : Fetching) (last : Bool) (answer : Said) (link : LinkAt) (hand' : Hand)
    (link' : LinkAt) → FollowsDelivery tells d last answer link hand' link' → IsUnsealed hand'
unsealed_delivery tells d last (said.Kept counted repeated) link hand' link' is =
    unsealed_kept tells d last d.left link hand' link' refl is
unsealed_delivery tells d last answer link hand' link' is = unsealed_as Nothing hand' is.0 tt

unsealed_more : (tells : Bool) (f : Fetching) (answer : Said) (link : LinkAt) (hand' : Hand) (link' : LinkAt)
    → FollowsMore tells f answer link hand' link' → IsUnsealed hand'
unsealed_more tells f (said.Allow bytes) link hand' link' is = unsealed_as (Fetches is.0) hand' is.2 tt
unsealed_more tells f (said.Hold ms) link hand' link' is = unsealed_as (Fetches f) hand' is.0 tt
unsealed_more tells f answer link hand' link' is = unsealed_as Nothing hand' is.0 tt

unsealed_fetch : (tells : Bool) (f : Fetching) (gain : Gain) (answer : Said) (link : LinkAt) (hand' : Hand)
    (link' : LinkAt) → FollowsFetch tells f gain answer link hand' link' → IsUnsealed hand'
unsealed_fetch tells f (Ready run bytes last) answer link hand' link' is =
    unsealed_delivery tells (delivered f run bytes) last answer link hand' link' is
unsealed_fetch tells f Open answer link hand' link' is = unsealed_more tells f answer link hand' link' is
unsealed_fetch tells f (Lost loss mark) answer link hand' link' is = unsealed_as Nothing hand' is.0 tt
unsealed_fetch tells f StarvedGain answer link hand' link' is = unsealed_as Nothing hand' is.0 tt

pub unsealed : (tells : Bool) (hand : Hand) (answer : Said) (link : LinkAt) (hand' : Hand) (link' : LinkAt)
    → NoGrant answer
    → FollowsAnswer tells hand answer link hand' link' → IsUnsealed hand'
unsealed tells Nothing answer link hand' link' none is =
    unsealed_as Nothing hand' (nothing_followed tells answer link hand' link' none is).0 tt
unsealed tells (Fetches f) answer link hand' link' none is =
    unsealed_fetch tells f f.gain answer link hand' link' (fetch_followed tells f answer link hand' link' none is)
unsealed tells (Probes p) answer link hand' link' none is =
    unsealed_as Nothing hand' (probe_followed tells p answer link hand' link' none is).0 tt
unsealed tells (Seals gid sealed) answer link hand' link' none is =
    unsealed_as Nothing hand' (seal_followed tells gid sealed answer link hand' link' none is).0 tt

module _ (start : RunStart) where
  -- the seal in hand is of the piece that the last turn granted
  pub record IsGranted (earlier : List RunTurn) (gid : Gid) (sealed : PieceBytes) : Type 0 where
    pub g : RunTurn
    pub before : List RunTurn
    pub cut : earlier ≡ g ∷ before
    pub may : MayComeAfter start before g
    pub granted : g.answer.said ≡ said.Grant (grant.Hash gid sealed.piece sealed.bytes)

  abbrev pub SealReady : List RunTurn → Hand → Type 0
  SealReady earlier (Seals gid sealed) = IsGranted earlier gid sealed
  SealReady earlier hand = Unit {0}

  unsealed_ready : (earlier : List RunTurn) (hand : Hand) → IsUnsealed hand → SealReady earlier hand
  unsealed_ready earlier Nothing un = tt
  unsealed_ready earlier (Fetches f) un = tt
  unsealed_ready earlier (Probes p) un = tt
  unsealed_ready earlier (Seals gid sealed) un = absurd un

  granted_ready : (tells : Bool) (earlier : List RunTurn) (t : RunTurn) (granted : Grant) (link : LinkAt) (hand' : Hand)
      (link' : LinkAt) → MayComeAfter start earlier t → t.answer.said ≡ said.Grant granted
      → FollowsGrant tells granted link hand' link' → SealReady (t ∷ earlier) hand'
  granted_ready tells earlier t (grant.Fetch granted) link hand' link' may is follows =
      unsealed_ready (t ∷ earlier) hand' (unsealed_as (Fetches follows.0) hand' follows.2 tt)
  granted_ready tells earlier t (grant.Probe claim gid url) link hand' link' may is follows =
      unsealed_ready (t ∷ earlier) hand' (unsealed_as (Probes follows.0) hand' follows.2 tt)
  granted_ready tells earlier t (grant.Hash gid piece bytes) link hand' link' may is follows =
      subst (λ (h : Hand). SealReady (t ∷ earlier) h) (sym follows.0)
      (record { g = t; before = earlier; cut = refl; may = may; granted = is })

  ready_on : (tells : Bool) (earlier : List RunTurn) (t : RunTurn) (answer : Said) (hand : Hand) (link : LinkAt) (hand'
      : Hand)
      (link' : LinkAt) → t.answer.said ≡ answer → MayComeAfter start earlier t
      → FollowsAnswer tells hand answer link hand' link' → SealReady (t ∷ earlier) hand'
  ready_on tells earlier t (said.Grant granted) hand link hand' link' is may follows =
      granted_ready tells earlier t granted link hand' link' may is (grant_followed tells hand granted link hand' link'
      follows)
  ready_on tells earlier t answer hand link hand' link' is may follows =
      unsealed_ready (t ∷ earlier) hand' (unsealed tells hand answer link hand' link' tt follows)

-- ---- what holds of the run holds of its first turns

module _ (laws : RunFollows) (start : RunStart) where
  opened_behind : (ts told : List RunTurn) (gid : Gid) → is_opened_in start (history_of told) gid ≡ true
      → is_opened_in start (history_of (turns_behind ts told)) gid ≡ true
  opened_behind [] told gid opened = opened
  opened_behind (t ∷ ts) told gid opened =
      opened_behind ts (t ∷ told) gid (opened_on start (history_of told) t.events gid opened)

  download_behind : (ts told : List RunTurn) (gid : Gid) (d : Download) → download_in start (history_of told) gid ≡
      Some d
      → download_in start (history_of (turns_behind ts told)) gid ≡ Some d
  download_behind [] told gid d added = added
  download_behind (t ∷ ts) told gid d added =
      download_behind ts (t ∷ told) gid d (download_on laws start (history_of told) t.events gid d added)

  lengths_behind : (ts told : List RunTurn) (gid : Gid) (l : PayloadLengths)
      → IsLegal start (history_of (turns_behind ts told)) → payload_lengths_of start (history_of told) gid ≡ Some l
      → payload_lengths_of start (history_of (turns_behind ts told)) gid ≡ Some l
  lengths_behind [] told gid l legal known = known
  lengths_behind (t ∷ ts) told gid l legal known =
      lengths_behind ts (t ∷ told) gid l legal
      (lengths_on laws start (history_of told) t.events gid l (legal_behind start ts (t ∷ told) legal) known)

  alone_behind : (ts told : List RunTurn) (want : Want) → IsLegal start (history_of (turns_behind ts told))
      → IsWrittenAlone start (turns_behind ts told) want → IsWrittenAlone start told want
  alone_behind [] told want legal alone = alone
  alone_behind (t ∷ ts) told want legal alone =
      alone_before laws start told t (legal_behind start ts (t ∷ told) legal) want
      (alone_behind ts (t ∷ told) want legal alone)

  -- the want that a download has behind all turns it has once its length is known
  want_before : (ts told : List RunTurn) (gid : Gid) (want : Want) (d : Download) (l : PayloadLengths)
      → IsLegal start (history_of (turns_behind ts told)) → download_in start (history_of told) gid ≡ Some d
      → payload_lengths_of start (history_of told) gid ≡ Some l
      → HasWant start (history_of (turns_behind ts told)) gid want → HasWant start (history_of told) gid want
  want_before ts told gid want d l legal added known has =
      let some : Some d ≡ Some has.download = sym (download_behind ts told gid d added) ∙ has.added in
      let same : d ≡ has.download = cc in
      let long : Some l ≡ Some has.lengths = sym (lengths_behind ts told gid l legal known) ∙ has.known in
      let len : l ≡ has.lengths = cc in record {
        download = d;
        added = added;
        lengths = l;
        known = known;
        is = subst (λ (x : Download). IsWantOf x l want) (sym same)
            (subst (λ (x : PayloadLengths). IsWantOf has.download x want) (sym len) has.is);
      }

  -- ---- a seal

  takes_seal : (gid : Gid) (sealed : PieceBytes) (now : Moment) (answer : Said) → (answer ≡ said.Void → ⊥)
      → IsSealTaken (operation.Seal gid sealed now) answer
  takes_seal gid sealed now said.Void taken = taken refl
  takes_seal gid sealed now answer taken = tt

  never_opened : (gid : Gid) → is_opened_in start [] gid ≡ true → ⊥
  never_opened gid opened = (let no_way : false ≡ true = opened in cc)

  row_then : (before : List RunTurn) (g : RunTurn) (granted : Grant) → g.answer.said ≡ said.Grant granted
      → MayComeAfter start before g
      → AsksForWork (turn_start start before g) (standing_after start before) g.op g.events g.answer.said
  row_then before g granted is may =
      ⊎_elim
      (λ ends. absurd (let none : end_of_said (said.Grant granted) ≡ Some ends.0 = ap end_of_said (sym is) ∙ ends.1 in
      let no_way : None ≡ Some ends.0 = none in cc))
      (λ row. grant_is_next (turn_start start before g) (standing_after start before) g.op g.events g.answer.said
      granted is row)
      (answered _ _ g.op g.events g.answer.said _ _ _ may.answered)

  module _ (disk : DiskState) (ts : List RunTurn) (t g : RunTurn) (gid : Gid) (sealed : PieceBytes) (later : Moment)
      (op : t.op ≡ operation.Seal gid sealed later) (granted : g.answer.said ≡ said.Grant (grant.Hash gid sealed.piece
      sealed.bytes))
      (void : t.answer.said ≡ said.Void) where
    -- by the turns before the grant: there is one, since the download is opened
    void_seal : (before : List RunTurn) → MayComeAfter start before g
        → IsLegal start (history_of (turns_behind ts (t ∷ g ∷ before)))
        → AllTurns FollowsMark (t ∷ g ∷ before) → TurnsFitDisk start (t ∷ g ∷ before) disk
        → WantsAreOwn start (turns_behind ts (t ∷ g ∷ before)) → ⊥
    void_seal [] may legal marks fits own =
        let asks = row_then [] g (grant.Hash gid sealed.piece sealed.bytes) granted may in
        let out = next_hands (turn_start start [] g) (standing_after start []) asks.0 g.events g.answer.said gid
        sealed.piece
        sealed.bytes granted asks.3 in
        never_opened gid out.opened
    void_seal (u ∷ older) may legal marks fits own =
        let before : List RunTurn = u ∷ older in
        let asks = row_then before g (grant.Hash gid sealed.piece sealed.bytes) granted may in
        let out = next_hands (turn_start start before g) (standing_after start before) asks.0 g.events g.answer.said gid
        sealed.piece sealed.bytes granted asks.3 in
        let mine = own gid (opened_behind (g ∷ t ∷ ts) before gid out.opened) in
        let has = want_before (g ∷ t ∷ ts) before gid mine.want out.download out.lengths legal out.added out.known
        mine.has in
        let alone = alone_behind (t ∷ ts) (g ∷ before) mine.want legal mine.alone in
        seal_taken laws start disk u older g t gid sealed granted asks.0 asks.1 later asks.2 op out.none out.active
        out.opened
        (legal_behind start (t ∷ ts) (g ∷ before) legal) marks fits mine.want has alone void

  -- ---- each turn

  module _ (disk : DiskState) (worker : ℕ) (tells : Bool) (extra : List RunTurn) where
    -- what the run tells, with these turns and more still to come
    pub record IsToldWith (ts told : List RunTurn) : Type 1 where
      pub legal : IsLegal start (history_of (turns_behind (ts ++ extra) told))
      pub marks : AllTurns FollowsMark (turns_behind (ts ++ extra) told)
      pub fits : TurnsFitDisk start (turns_behind (ts ++ extra) told) disk
      pub own : WantsAreOwn start (turns_behind (ts ++ extra) told)

    as_taken : (t : RunTurn) (due : Operation) → t.op ≡ due → IsSealTaken due t.answer.said → IsSealTaken t.op
        t.answer.said
    as_taken t due is taken = subst (λ (o : Operation). IsSealTaken o t.answer.said) (sym is) taken

    fetch_takes : (t : RunTurn) (f : Fetching) (now : Moment) (gain : Gain) → t.op ≡ fetch_op worker f now gain
        → IsSealTaken t.op t.answer.said
    fetch_takes t f now (Ready run bytes last) is = as_taken t (operation.Deliver f.claim run bytes now) is tt
    fetch_takes t f now (Lost loss mark) is = as_taken t (operation.Lose f.claim mark now) is tt
    fetch_takes t f now Open is = as_taken t (operation.More f.claim _ now) is tt
    fetch_takes t f now StarvedGain is = as_taken t (operation.Next worker now) is tt

    probe_takes : (t : RunTurn) (claim : ℕ) (now : Moment) (end : ProbeEnd) → t.op ≡ probe_op worker claim now end
        → IsSealTaken t.op t.answer.said
    probe_takes t claim now (Told total) is = as_taken t (operation.Sized claim total now) is tt
    probe_takes t claim now (Missed loss mark) is = as_taken t (operation.Lose claim mark now) is tt
    probe_takes t claim now Lacking is = as_taken t (operation.Next worker now) is tt

    turn_takes : (ts earlier : List RunTurn) (t : RunTurn) (hand : Hand) (now : Moment) → t.op ≡ due_op worker hand now
        → SealReady start earlier hand → IsToldWith ts (t ∷ earlier) → IsSealTaken t.op t.answer.said
    turn_takes ts earlier t Nothing now is ready told = as_taken t (operation.Next worker now) is tt
    turn_takes ts earlier t (Fetches f) now is ready told = fetch_takes t f now f.gain is
    turn_takes ts earlier t (Probes p) now is ready told = probe_takes t p.claim now p.end is
    turn_takes ts earlier t (Seals gid sealed) now is ready told =
        as_taken t (operation.Seal gid sealed now) is (takes_seal gid sealed now t.answer.said (λ void.
        void_seal disk (ts ++ extra) t ready.g gid sealed now is ready.granted void ready.before ready.may
        (subst (λ (e : List RunTurn). IsLegal start (history_of (turns_behind (ts ++ extra) (t ∷ e)))) ready.cut
        told.legal)
        (subst (λ (e : List RunTurn). AllTurns FollowsMark (t ∷ e)) ready.cut
        (all_behind FollowsMark (ts ++ extra) (t ∷ earlier) told.marks))
        (subst (λ (e : List RunTurn). TurnsFitDisk start (t ∷ e) disk) ready.cut
        (all_behind (FitsDisk start disk) (ts ++ extra) (t ∷ earlier) told.fits))
        (subst (λ (e : List RunTurn). WantsAreOwn start (turns_behind (ts ++ extra) (t ∷ e))) ready.cut told.own)))

    takes_behind : (ts earlier : List RunTurn) (t : RunTurn) (m b : WorkerAt) (end by : Option WorkEnd)
        → (Works tells worker ts m b end → SealsAreTaken ts)
        → EndsOrGoesOn by ((ts ≡ []) × (b ≡ m) × (end ≡ by)) (Works tells worker ts m b end) → SealsAreTaken ts
    takes_behind ts earlier t m b end (Some by) goes ended =
        subst (λ (us : List RunTurn). SealsAreTaken us) (sym ended.0) (All-nil (λ (u : RunTurn). IsSealTaken u.op
        u.answer.said))
    takes_behind ts earlier t m b end None goes works = goes works

    pub seals_on : (ts earlier : List RunTurn) (a b : WorkerAt) (end : Option WorkEnd) → ComeAfter start earlier ts
        → Works tells worker ts a b end → SealReady start earlier a.hand → IsToldWith ts earlier → SealsAreTaken ts
    seals_on [] earlier a b end come works ready told = All-nil (λ (u : RunTurn). IsSealTaken u.op u.answer.said)
    seals_on (t ∷ ts) earlier a b end come works ready told =
        let on : IsToldWith ts (t ∷ earlier) = record {
          legal = told.legal;
          marks = told.marks;
          fits = told.fits;
          own = told.own;
        } in
        All-cons (λ (u : RunTurn). IsSealTaken u.op u.answer.said) t ts
        (turn_takes ts earlier t a.hand (turn_moment works.0 a.moment) works.2.op ready on)
        (takes_behind ts earlier t works.1 b end (end_behind t.answer.said works.1.hand)
        (λ rest. seals_on ts (t ∷ earlier) works.1 b end come.1 rest
        (ready_on start tells earlier t t.answer.said a.hand a.link works.1.hand works.1.link refl come.0
        works.2.follows) on)
        works.3)

pub solo_seals : RunFollows → {D : Type 0} (state : D → DiskState) → SoloSealsAreTaken state
solo_seals laws state start earlier worker turns later link now disk solo =
    let over = solo.over in
    seals_on laws start (state disk) worker over.tells later turns earlier (fresh link) over.b over.end
    (come_behind start turns later earlier solo.run.ties)
    over.works tt
    (record {
      legal = solo.run.legal;
      marks = solo.run.marks;
      fits = solo.run.fits;
      own = solo.own;
    })
