-- What is made of what is in hand.
use Rattle.std.proofs.Common.{◌≡◌, ◌≢◌, ◌≤◌, ◌-◌, ℕ, Bool, true, false, IsTrue, ◌↔◌, List, None, IfSome, refl, sym, ap, subst, ◌∙◌, arith}
use Rattle.dl_kinds.specs.declared.gid.Gid.{Gid}
use Rattle.dl_kinds.specs.declared.marks.Mark.{Mark}
use Rattle.dl_kinds.specs.declared.runs.Moment.{Moment}
use Rattle.dl_kinds.specs.declared.runs.Run.{Run}
use Rattle.engine_turns.specs.declared.operations.Operation.{Operation}
use Rattle.engine_turns.specs.declared.operations.Operation.TheVariants as operation
use Rattle.engine_turns.specs.declared.limits.TheConstants.{MAX_ALLOWANCE}
use Rattle.fetch_session.specs.Fetches.{IsFetch, MayBegin, MayStep, fetch_plan, lost_of, ready_of, rest_of}
use Rattle.fetch_session.specs.declared.fetch.Fetch.{Fetch}
use Rattle.fetch_session.specs.declared.room.FetchRoom.{FetchRoom}
use Rattle.link_source.specs.Exchanges.{Exchange}
use Rattle.link_source.specs.Link.{LinkState}
use Rattle.reply_reader.specs.declared.loss.Loss.{Loss}
use Rattle.request_chain.specs.Links.{CountsLinkLoss}
use Rattle.span_map.specs.declared.jobs.Job.{Job}
use Rattle.verify_piece.specs.Seals.{PieceBytes}
use Rattle.conn_worker.specs.Facts.{IsGain}
use Rattle.conn_worker.specs.Hands.{Fetching, Nothing, Fetches, Probes, Seals, LinkAt, delivered}
use Rattle.conn_worker.specs.Holding.{EndsAs, IsOpenFetch, MakesFetchTurn, MakesProbeTurn, MakesTurn, StaysWaiting, WaitsWithRoom, delivering, is_let_go_by}
use Rattle.conn_worker.specs.Table.{end_of_gain, end_of_probe, fetch_op, probe_op}
use Rattle.conn_worker.specs.declared.hands.FetchInHand.{FetchInHand}
use Rattle.conn_worker.specs.declared.hands.Gain.TheVariants.{Lost, Open, Ready, Starved}
use Rattle.conn_worker.specs.declared.hands.InHand.TheVariants as kept
use Rattle.conn_worker.specs.declared.hands.OpenFetch.{OpenFetch}
use Rattle.conn_worker.specs.declared.hands.ProbeInHand.{ProbeInHand}
use Rattle.conn_worker.specs.declared.hands.SealInHand.{SealInHand}
use Rattle.conn_worker.specs.declared.hands.Waiting.{Waiting}
use Rattle.conn_worker.specs.declared.hands.Waiting.TheVariants as waiting

-- ---- a fetch

-- where some blocks are behind the ready ones, they aren't the last
left_over : (last : Bool) (m n : ℕ) → (IsTrue last ↔ (m ≡ n)) → m ≤ n → last ≡ false → 1 ≤ n - m
left_over last m n all within open_end =
    let apart : m ≢ n = λ e. (let t : false ≡ true = sym open_end ∙ all.1 e in cc) in
    omega (arith, within, apart)

-- a step may become the begin of the next fetch
abbrev pub RoomOf : OpenFetch → FetchRoom → Type 0
RoomOf o room = (link : LinkState) → MayStep o.fetch link → MayBegin room link

pub ready_due : (worker : ℕ) (now : Moment) (o : OpenFetch) (run : Run) (bytes : List ℕ) (last : Bool)
    → MakesFetchTurn worker now (record { open_fetch = o; gain = Ready run bytes last })
    (operation.Deliver o.claim run bytes now) (waiting.Delivers o last)
ready_due worker now o run bytes last tells f link is =
    let gain : f.gain ≡ Ready run bytes last = sym is.gain in
    let open_is : IsOpenFetch tells o (delivered f run bytes) link =
    subst (λ g. IsOpenFetch tells o (delivering f g) link) gain is.is in
    let at = subst (λ g. IsGain tells f link g) gain is.at.gain in (
      ap (λ c. operation.Deliver c run bytes now) open_is.claim ∙ sym (ap (fetch_op worker f now) gain),
      record {
        run = run;
        bytes = bytes;
        gain = gain;
        is = record {
          is = open_is;
          more = left_over last run.count f.rest.count at.0.all at.0.within;
          gain = refl;
          exact = at.2;
          front = at.1;
        };
      },
    )

pub lost_due : (worker : ℕ) (now : Moment) (o : OpenFetch) (loss : Loss) (mark : Mark) (room : FetchRoom) → RoomOf o room
    → MakesFetchTurn worker now (record { open_fetch = o; gain = Lost loss mark })
    (operation.Lose o.claim mark now) (waiting.Free room)
lost_due worker now o loss mark room may tells f link is =
    let gain : f.gain ≡ Lost loss mark = sym is.gain in
    let open_is : IsOpenFetch tells o f link = subst (λ g. IsOpenFetch tells o (delivering f g) link) gain is.is in (
      ap (λ c. operation.Lose c mark now) open_is.claim ∙ sym (ap (fetch_op worker f now) gain),
      (subst (λ g. is_let_go_by g) (sym gain) tt, λ t. may link.state (open_is.may t)),
    )

pub open_due : (worker : ℕ) (now : Moment) (o : OpenFetch)
    → MakesFetchTurn worker now (record { open_fetch = o; gain = Open })
    (operation.More o.claim MAX_ALLOWANCE now) (waiting.Asks o)
open_due worker now o tells f link is =
    let gain : f.gain ≡ Open = sym is.gain in
    let open_is : IsOpenFetch tells o f link = subst (λ g. IsOpenFetch tells o (delivering f g) link) gain is.is in (
      ap (λ c. operation.More c MAX_ALLOWANCE now) open_is.claim ∙ sym (ap (fetch_op worker f now) gain),
      record { gain = gain; at = is.at; is = open_is },
    )

pub starved_due : (worker : ℕ) (now : Moment) (o : OpenFetch) (room : FetchRoom) → RoomOf o room
    → MakesFetchTurn worker now (record { open_fetch = o; gain = Starved })
    (operation.Next worker now) (waiting.Free room)
starved_due worker now o room may tells f link is =
    let gain : f.gain ≡ Starved = sym is.gain in
    let open_is : IsOpenFetch tells o f link = subst (λ g. IsOpenFetch tells o (delivering f g) link) gain is.is in (
      sym (ap (fetch_op worker f now) gain),
      (subst (λ g. is_let_go_by g) (sym gain) tt, λ t. may link.state (open_is.may t)),
    )

-- ---- all that may be in hand

pub probe_due : (worker : ℕ) (now : Moment) (h : ProbeInHand)
    → MakesProbeTurn worker now h (probe_op worker h.claim now h.end) (waiting.Free h.room)
probe_due worker now h tells p link is =
    (λ i. probe_op worker (is.claim i) now (is.end i), (tt, is.room))

pub nothing_due : (worker : ℕ) (now : Moment) (room : FetchRoom)
    → MakesTurn worker now (kept.Nothing room) (operation.Next worker now) (waiting.WantsWork room)
nothing_due worker now room tells Nothing link is = (refl, is)
nothing_due worker now room tells (Fetches f) link is = absurd is
nothing_due worker now room tells (Probes p) link is = absurd is
nothing_due worker now room tells (Seals gid sealed) link is = absurd is

pub fetch_due : (worker : ℕ) (now : Moment) (h : FetchInHand) (op : Operation) (w : Waiting)
    → MakesFetchTurn worker now h op w → MakesTurn worker now (kept.Fetches h) op w
fetch_due worker now h op w made tells Nothing link is = absurd is
fetch_due worker now h op w made tells (Fetches f) link is = made tells f link is
fetch_due worker now h op w made tells (Probes p) link is = absurd is
fetch_due worker now h op w made tells (Seals gid sealed) link is = absurd is

pub any_probe_due : (worker : ℕ) (now : Moment) (h : ProbeInHand) (op : Operation) (w : Waiting)
    → MakesProbeTurn worker now h op w → MakesTurn worker now (kept.Probes h) op w
any_probe_due worker now h op w made tells Nothing link is = absurd is
any_probe_due worker now h op w made tells (Fetches f) link is = absurd is
any_probe_due worker now h op w made tells (Probes p) link is = made tells p link is
any_probe_due worker now h op w made tells (Seals gid sealed) link is = absurd is

pub seal_due : (worker : ℕ) (now : Moment) (gid : Gid) (sealed : PieceBytes) (room : FetchRoom)
    → MakesTurn worker now (kept.Seals (record { gid = gid; sealed = sealed; room = room }))
    (operation.Seal gid sealed now) (waiting.Free room)
seal_due worker now gid sealed room tells Nothing link is = absurd is
seal_due worker now gid sealed room tells (Fetches f) link is = absurd is
seal_due worker now gid sealed room tells (Probes p) link is = absurd is
seal_due worker now gid sealed room tells (Seals g s) link is =
    (λ i. operation.Seal (is.0 i) (is.1 i) now, (tt, is.2))

-- ---- ends

pub nothing_ends : (room : FetchRoom) → EndsAs (kept.Nothing room) None
nothing_ends room tells Nothing link is = refl
nothing_ends room tells (Fetches f) link is = absurd is
nothing_ends room tells (Probes p) link is = absurd is
nothing_ends room tells (Seals g s) link is = absurd is

pub fetch_ends : (h : FetchInHand) → EndsAs (kept.Fetches h) (end_of_gain h.gain)
fetch_ends h tells Nothing link is = absurd is
fetch_ends h tells (Fetches f) link is = ap (λ g. end_of_gain g) is.gain
fetch_ends h tells (Probes p) link is = absurd is
fetch_ends h tells (Seals g s) link is = absurd is

pub probe_ends : (h : ProbeInHand) → EndsAs (kept.Probes h) (end_of_probe h.end)
probe_ends h tells Nothing link is = absurd is
probe_ends h tells (Fetches f) link is = absurd is
probe_ends h tells (Probes p) link is = ap (λ e. end_of_probe e) is.end
probe_ends h tells (Seals g s) link is = absurd is

pub seal_ends : (h : SealInHand) → EndsAs (kept.Seals h) None
seal_ends h tells Nothing link is = absurd is
seal_ends h tells (Fetches f) link is = absurd is
seal_ends h tells (Probes p) link is = absurd is
seal_ends h tells (Seals g s) link is = refl

-- ---- while the turn is taken

pub free_room : (room : FetchRoom) → WaitsWithRoom (waiting.Free room) room
free_room room tells hand link is = is.1

pub wanting_room : (room : FetchRoom) → WaitsWithRoom (waiting.WantsWork room) room
wanting_room room tells Nothing link is = is
wanting_room room tells (Fetches f) link is = absurd is
wanting_room room tells (Probes p) link is = absurd is
wanting_room room tells (Seals g s) link is = absurd is

pub delivers_room : (o : OpenFetch) (last : Bool) (room : FetchRoom) → RoomOf o room
    → WaitsWithRoom (waiting.Delivers o last) room
delivers_room o last room may tells Nothing link is = absurd is
delivers_room o last room may tells (Fetches f) link is = λ t. may link.state (is.is.is.may t)
delivers_room o last room may tells (Probes p) link is = absurd is
delivers_room o last room may tells (Seals g s) link is = absurd is

pub asks_room : (o : OpenFetch) (room : FetchRoom) → RoomOf o room → WaitsWithRoom (waiting.Asks o) room
asks_room o room may tells Nothing link is = absurd is
asks_room o room may tells (Fetches f) link is = λ t. may link.state (is.is.may t)
asks_room o room may tells (Probes p) link is = absurd is
asks_room o room may tells (Seals g s) link is = absurd is

-- a buffer came back
pub record GivesBack (old new : Fetch) : Type 0 where
  pub fetch : (job : Job) (used : List Exchange) (handed : List ℕ) → IsFetch job used handed old
      → IsFetch job used handed new
  pub may : (link : LinkState) → MayStep old link → MayStep new link
  pub plan : fetch_plan new ≡ fetch_plan old
  pub rest : rest_of new ≡ rest_of old
  pub ready : ready_of new ≡ ready_of old
  pub lost : lost_of new ≡ lost_of old

buffered_open : (tells : Bool) (o : OpenFetch) (fetch : Fetch) (f : Fetching) (link : LinkAt)
    → GivesBack o.fetch fetch → IsOpenFetch tells o f link
    → IsOpenFetch tells (record { claim = o.claim; fetch = fetch; left = o.left }) f link
buffered_open tells o fetch f link g is = record {
  claim = is.claim;
  left = is.left;
  plan = g.plan ∙ is.plan;
  rest = g.rest ∙ is.rest;
  none_ready = ap (λ (r : Run). r.count) g.ready ∙ is.none_ready;
  may = λ t. g.may link.state (is.may t);
  lost = subst (λ lost. IfSome lost (CountsLinkLoss f.since.faults link.faults)) (sym g.lost) is.lost;
  fetch = λ t. g.fetch f.job f.used f.handed (is.fetch t);
  carried = is.carried;
}

pub buffered : (o : OpenFetch) (fetch : Fetch) (last : Bool) → GivesBack o.fetch fetch
    → StaysWaiting (waiting.Delivers o last)
    (waiting.Delivers (record { claim = o.claim; fetch = fetch; left = o.left }) last)
buffered o fetch last g tells Nothing link is = absurd is
buffered o fetch last g tells (Fetches f) link is = record {
  run = is.run;
  bytes = is.bytes;
  gain = is.gain;
  is = record {
    is = buffered_open tells o fetch (delivered f is.run is.bytes) link g is.is.is;
    more = is.is.more;
    gain = is.is.gain;
    exact = is.is.exact;
    front = is.is.front;
  };
}
buffered o fetch last g tells (Probes p) link is = absurd is
buffered o fetch last g tells (Seals gid s) link is = absurd is
