-- What the runs of a delivery write into a payload.
use Rattle.std.proofs.Common.{◌≡◌, ◌≢◌, ⊎_elim, inl, ℕ, true, ◌+◌, ◌-◌, ◌<◌, ◌≤◌, Option, Some, List, [], ◌∷◌, map, length, get_or, drop, take, refl, sym, ap, ◌∙◌, subst, arith}
use Rattle.std.specs.Prelude.{All, Contains, sum_by}
use Rattle.std.specs.List.{concat}
use Rattle.std.proofs.lemmas.List.{length-drop, length-take}
use Rattle.std.proofs.lemmas.List.Elements.{All-contains, All-from_get_or, All-get_or, All-more, All-take, Contains-append_left, Contains-append_right}
use Rattle.std.proofs.lemmas.List.Sums.{sum_by-append, sum_by-cons}
use Rattle.control_file.specs.Wants.{IsWant}
use Rattle.control_file.specs.declared.want.Want.{Want}
use Rattle.dl_disk.specs.Files.{Files, file_bytes}
use Rattle.dl_disk.specs.State.{DiskState}
use Rattle.dl_history.specs.PayloadParts.{is_opened}
use Rattle.dl_kinds.specs.Plan.{IsPlan, blocks_of}
use Rattle.dl_kinds.specs.PlanLaws.{BlocksFollow}
use Rattle.dl_kinds.specs.declared.claims.Claim.{Claim}
use Rattle.dl_kinds.specs.declared.gid.Gid.{Gid}
use Rattle.dl_kinds.specs.declared.plan.Plan.{Plan}
use Rattle.dl_kinds.specs.declared.runs.Moment.{Moment}
use Rattle.dl_kinds.specs.declared.runs.Run.{Run}
use Rattle.dl_kinds.specs.Lists.{part_at}
use Rattle.engine_turns.specs.ClaimRows.{blocks_in_event}
use Rattle.engine_turns.specs.Phases.{AfterDisk, LandingsPhase, TurnStart}
use Rattle.engine_turns.specs.Told.{history_after}
use Rattle.engine_turns.specs.declared.outcome.Outcome.{Outcome}
use Rattle.engine_turns.specs.declared.outcome.Outcome.TheVariants.{Over, Starved, Went}
use Rattle.machine_core.specs.MachineViews.{place_in}
use Rattle.machine_core.specs.Openings.{lengths_of_plan}
use Rattle.machine_core.specs.OwnParts.{PayloadLengths}
use Rattle.machine_core.specs.RunLegal.{IsLegal, MayFollow}
use Rattle.machine_core.specs.Starts.{RunStart}
use Rattle.machine_core.specs.declared.events.Event.{Event}
use Rattle.machine_core.specs.declared.events.Event.TheVariants.{Ended, Landed}
use Rattle.machine_core.specs.declared.ends.End.TheVariants as end
use Rattle.payload_files.specs.Changes.{SameOutside}
use Rattle.payload_files.specs.Names.{name_of}
use Rattle.piece_table.specs.NewRuns.{AreRunsOf}
use Rattle.resume_core.specs.Runs.{run_len}
use Rattle.resume_core.specs.States.{SamePayload}
use Rattle.span_map.specs.Jobs.{run_end, run_start}
use Rattle.span_map.specs.declared.files.FileLen.{FileLen}
use Rattle.stored_run.specs.Deliveries.{IsRangeOf, IsRunOfPayload, LandedBetween, landed_total}
use Rattle.stored_run.specs.Settlings.{CameBetween, payload_of}
use Rattle.stored_run.specs.Steps.{DoesPart, KeepsPayload, turn_from}
use Rattle.stored_run.specs.Views.{kept_want_of, own_in}
use Rattle.stored_run.specs.Writings.{HoldsPart, LandsPart}
use Rattle.stored_run.specs.declared.run.StoredView.{StoredView}
use Rattle.stored_run.proofs.Between.{after_front, came_none, came_one, came_split}
use Rattle.stored_run.proofs.LandedRuns.{kept_there}
use Rattle.stored_run.proofs.Landings.{landed_events, landings_events}
use Rattle.stored_run.proofs.Left.{one_of}
use Rattle.stored_run.proofs.PartBytes.{end_before, starts_before}
use Rattle.stored_run.proofs.RunParts.{earlier_parts, part_to, some_blocks_in}

-- ---- one write

-- what holds of the want that stood at the place of its download
pub read_view : {D : Type 0} (P : Want → DiskState → Type 0) (state : D → DiskState) (r v : StoredView D) (gid : Gid)
    (there : Option Want) (read : Want) → r ≡ v
    → there ≡ get_or r.wants.items (place_in r.machine.start r.machine.past gid) there
    → ((w : Want) → there ≡ Some w → read ≡ w) → P read (state r.disk)
    → (want : Want) → kept_want_of v gid ≡ Some want → P want (state v.disk)
read_view P state r v gid there read same is reads holds =
    subst (λ (u : StoredView _). (want : Want) → kept_want_of u gid ≡ Some want → P want (state u.disk)) same
    (λ want kept.
    let here = kept_there r.wants.items (place_in r.machine.start r.machine.past gid) want there kept is in
    subst (λ (x : Want). P x (state r.disk)) (reads want here) holds)

-- ---- the bytes of a part

from_to : (start from to begin end : ℕ) → start + from ≡ begin → start + to ≡ end → from ≤ to
    → (begin - start ≡ from) × (end - begin ≡ to - from)
from_to start from to begin end first last ordered = (omega arith, omega arith)

-- those of the range are as many as the part has, and stand where the part does among those of the run
pub record IsPartSlice (plan : Plan) (run part : Run) (bytes slice : List ℕ) : Type 0 where
  pub len : length slice ≡ run_len plan part
  pub is : slice ≡ part_at bytes (run_start plan part - run_start plan run) (run_len plan part)

pub part_slice : (l : PayloadLengths) (plan : Plan) (run part : Run) (from to : ℕ) (bytes : List ℕ)
    → l ≡ lengths_of_plan plan → IsRangeOf l run part from to → to ≤ length bytes
    → IsPartSlice plan run part bytes (take (to - from) (drop from bytes))
part_slice l plan run part from to bytes same range within =
    let r = subst (λ (k : PayloadLengths). IsRangeOf k run part from to) same range in
    let at = from_to (run_start plan run) from to (run_start plan part) (run_end plan part) r.start r.end r.ordered in
    let ordered = r.ordered in
    let t = length-take (to - from) (drop from bytes) in
    let d = length-drop from bytes in
    let len : length (take (to - from) (drop from bytes)) ≡ to - from = omega (arith, t, d, ordered, within) in
    record {
      len = len ∙ sym at.1;
      is = λ i. take (sym at.1 i) (drop (sym at.0 i) bytes);
    }

-- where they stand in its place, the part stands
pub slice_holds : (want : Want) (run part : Run) (bytes slice : List ℕ) (files : Files)
    → IsPartSlice want.plan run part bytes slice
    → part_at (payload_of want files) (run_start want.plan part) (length slice) ≡ slice → HoldsPart want run part bytes files
slice_holds want run part bytes slice files of is =
    ap (part_at (payload_of want files) (run_start want.plan part)) (sym of.len) ∙ (is ∙ of.is)

-- ---- earlier parts stay

behind : (begin end later : ℕ) → begin < end → end ≤ later → begin + (end - begin) ≤ later
behind begin end later some before = omega arith

-- one part ends before another begins
pub record IsPartBefore (plan : Plan) (part later : Run) : Type 0 where
  pub some : run_start plan part < run_end plan part
  pub before : run_end plan part ≤ run_start plan later

pub part_before : BlocksFollow → (plan : Plan) (part later : Run) → IsPlan plan.total plan.piece_len → 1 ≤ part.count
    → part.first + part.count ≤ later.first → later.first < blocks_of plan.total plan.piece_len
    → IsPartBefore plan part later
part_before follow plan part later is some ends within = record {
  some = starts_before follow plan.total plan.piece_len is part.first (part.first + part.count - 1) (omega (arith, some))
      (omega (arith, some, ends, within));
  before = end_before follow plan.total plan.piece_len is (part.first + part.count - 1) later.first
      (omega (arith, some, ends)) within;
}

pub holds_still : (want : Want) (run part later : Run) (bytes : List ℕ) (a b : Files) → IsPartBefore want.plan part later
    → SameOutside (run_start want.plan later) (run_len want.plan later) (payload_of want a) (payload_of want b)
    → HoldsPart want run part bytes a → HoldsPart want run part bytes b
holds_still want run part later bytes a b first same holds =
    same.parts (run_start want.plan part) (run_len want.plan part)
    (inl (behind (run_start want.plan part) (run_end want.plan part) (run_start want.plan later) first.some first.before))
    ∙ holds

-- the parts that are written so far
abbrev pub AllHold : Want → Run → List ℕ → Files → List Run → Type 0
AllHold want run bytes files parts = All (λ (part : Run). HoldsPart want run part bytes files) parts

-- .. while a later one is written
pub all_still : (want : Want) (run later : Run) (bytes : List ℕ) (a b : Files) (parts : List Run)
    → All (λ (part : Run). IsPartBefore want.plan part later) parts
    → SameOutside (run_start want.plan later) (run_len want.plan later) (payload_of want a) (payload_of want b)
    → AllHold want run bytes a parts → AllHold want run bytes b parts
all_still want run later bytes a b parts first same hold =
    All-from_get_or (λ (part : Run). HoldsPart want run part bytes b) parts later
    (λ i within. holds_still want run (get_or parts i later) later bytes a b
    (All-get_or (λ (part : Run). IsPartBefore want.plan part later) parts i later within first) same
    (All-get_or (λ (part : Run). HoldsPart want run part bytes a) parts i later within hold))

-- those of the open runs of a delivery that come before one of them
module _ (follow : BlocksFollow) (want : Want) (is : IsWant want) (l : PayloadLengths) (same : l ≡ lengths_of_plan want.plan)
    (run : Run) (of : IsRunOfPayload l run) (Is : ℕ → Type 0) (runs : List Run) (are : AreRunsOf Is run runs) (n : ℕ)
    (part : Run) (within : n < length runs) (at_is : part ≡ get_or runs n part) where
  part_within : part.first < blocks_of want.plan.total want.plan.piece_len
  part_within =
      let some = subst (λ (p : Run). 0 < p.count) (sym at_is) (some_blocks_in Is run runs are n part within) in
      let to = subst (λ (p : Run). p.first + p.count ≤ run.first + run.count) (sym at_is)
      (part_to Is run runs are n part within) in
      let all = (subst (λ (k : PayloadLengths). IsRunOfPayload k run) same of).within in
      below part.first part.count run.first run.count (blocks_of want.plan.total want.plan.piece_len) some to all
    where
      below : (a k b m most : ℕ) → 0 < k → a + k ≤ b + m → b + m ≤ most → a < most
      below a k b m most some to all = omega arith

  earlier : All (λ (p : Run). IsPartBefore want.plan p part) (take n runs)
  earlier =
      let ends = earlier_parts Is run runs are n part within in
      All-from_get_or (λ (p : Run). IsPartBefore want.plan p part) (take n runs) part
      (λ i below.
      part_before follow want.plan (get_or (take n runs) i part) part is.plan
      (All-get_or (λ (p : Run). 0 < p.count) (take n runs) i part below (All-take (λ (p : Run). 0 < p.count) n runs are.some))
      (subst (λ (p : Run). (get_or (take n runs) i part).first + (get_or (take n runs) i part).count ≤ p.first) (sym at_is)
      (All-get_or (λ (p : Run). p.first + p.count ≤ (get_or runs n part).first) (take n runs) i part below ends))
      part_within)

  module _ (bytes : List ℕ) (a b : Files)
      (outside : SameOutside (run_start want.plan part) (run_len want.plan part) (payload_of want a) (payload_of want b))
      (hold : AllHold want run bytes a (take n runs)) where
    pub parts_still : AllHold want run bytes b (take n runs)
    parts_still = all_still want run part bytes a b (take n runs) earlier outside hold

    -- .. and the one that is written then
    pub parts_next : HoldsPart want run part bytes b → AllHold want run bytes b (take (n + 1) runs)
    parts_next holds =
        All-more (λ (p : Run). HoldsPart want run p bytes b) runs n part within parts_still
        (subst (λ (p : Run). HoldsPart want run p bytes b) at_is holds)

-- a part that came of these stands in the download that is opened
pub lands_part : {D : Type 0} (r : StoredView D) (gid g : Gid) (run part : Run) (bytes : List ℕ) (files : Files)
    (parts : List Run) → is_opened (own_in r gid) ≡ true
    → ((want : Want) → kept_want_of r gid ≡ Some want → AllHold want run bytes files parts)
    → (gid ≡ g) × Contains parts part → LandsPart r g run part bytes files
lands_part r gid g run part bytes files parts opened hold there =
    subst (λ (h : Gid). LandsPart r h run part bytes files) there.0
    (record {
      opened = opened;
      holds = λ want kept.
          All-contains (λ (p : Run). HoldsPart want run p bytes files) parts part (hold want kept) there.1;
    })

-- ---- from one call to the next

contents_same : (dir : List ℕ) (files : List FileLen) (a b : Files)
    → map (λ (f : FileLen). b (name_of dir f.path)) files ≡ map (λ (f : FileLen). a (name_of dir f.path)) files
    → map (λ (f : FileLen). file_bytes (b (name_of dir f.path))) files
    ≡ map (λ (f : FileLen). file_bytes (a (name_of dir f.path))) files
contents_same dir [] a b same = refl
contents_same dir (f ∷ files) a b same =
    let first : b (name_of dir f.path) ≡ a (name_of dir f.path) = cc in
    let rest : map (λ (f : FileLen). b (name_of dir f.path)) files ≡ map (λ (f : FileLen). a (name_of dir f.path)) files = cc in
    λ i. file_bytes (first i) ∷ contents_same dir files a b rest i

-- what stands of the files is the payload
pub payload_same : (want : Want) (a b : DiskState) → SamePayload want a b
    → payload_of want b.seen ≡ payload_of want a.seen
payload_same want a b same = ap concat (contents_same want.dir want.layout a.seen b.seen same)

pub holds_on : (want : Want) (run part : Run) (bytes : List ℕ) (a b : DiskState) → SamePayload want a b
    → HoldsPart want run part bytes a.seen → HoldsPart want run part bytes b.seen
holds_on want run part bytes a b same holds =
    ap (λ (l : List ℕ). part_at l (run_start want.plan part) (run_len want.plan part)) (payload_same want a b same) ∙ holds

pub lands_on : {D : Type 0} (old mid : StoredView D) (gid g : Gid) (run part : Run) (bytes : List ℕ) (a b : DiskState)
    → gid ≡ g
    → ((h : Gid) (want : Want) → kept_want_of old h ≡ Some want → kept_want_of mid h ≡ Some want)
    → KeepsPayload gid mid a b → LandsPart old g run part bytes a.seen → LandsPart old g run part bytes b.seen
lands_on old mid gid g run part bytes a b same wants payload lands = record {
  opened = lands.opened;
  holds = λ want kept.
      holds_on want run part bytes a b
      (payload want (subst (λ (h : Gid). kept_want_of mid h ≡ Some want) (sym same) (wants g want kept)))
      (lands.holds want kept);
}

-- ---- events that tell of them

-- what came between is one of the events
pub came_of : (past events : List Event) (e : Event) → CameBetween past (history_after past events) e → Contains events e
came_of past [] e came = came_none past past e refl came
came_of past (x ∷ events) e came =
    let front = after_front (x ∷ past) events in
    ⊎_elim
    (λ (first : CameBetween past (x ∷ past) e).
    subst (λ (y : Event). Contains (y ∷ events) e) (came_one past (x ∷ past) e x refl first) (0, omega arith, refl))
    (λ (later : CameBetween (x ∷ past) (history_after (x ∷ past) events) e).
    Contains-append_right (x ∷ []) events e (came_of (x ∷ past) events e later))
    (came_split past (x ∷ past) (history_after (x ∷ past) events) e (x ∷ []) front.0 refl front.1 came)

module _ (gid g : Gid) (id c mirror m : ℕ) (part : Run) (now at : Moment) where
  landed_in : (runs : List Run) → Contains (landed_events gid id mirror now runs) (Landed g c m part at)
      → (gid ≡ g) × Contains runs part
  landed_in [] there = absurd (let within = there.1 in omega (arith, within))
  landed_in (run ∷ runs) there = ⊎_elim
      (λ (here : Landed gid id mirror run now ≡ Landed g c m part at).
      let same : run ≡ part = cc in
      let of : gid ≡ g = cc in
      (of, subst (λ (r : Run). Contains (r ∷ runs) part) (sym same) (0, omega arith, refl)))
      (λ (later : Contains (landed_events gid id mirror now runs) (Landed g c m part at)).
      let rest = landed_in runs later in (rest.0, Contains-append_right (run ∷ []) runs part rest.1))
      (one_of (Landed gid id mirror run now) (Landed g c m part at) (landed_events gid id mirror now runs) there)

  broken_lands : (at_start : TurnStart) (due past events : List Event) (o : Outcome) → o ≢ Went
      → AfterDisk at_start gid due past events o → Contains events (Landed g c m part at) → ⊥
  broken_lands at_start due past events Went broken is there = broken refl
  broken_lands at_start due past events Over broken is there =
      let one = subst (λ (es : List Event). Contains es (Landed g c m part at)) is.2 there in
      ⊎_elim (λ (here : Ended gid (end.Disk is.0) ≡ Landed g c m part at). absurd cc)
      (λ (none : Contains [] (Landed g c m part at)). (let within = none.1 in omega (arith, within)))
      (one_of (Ended gid (end.Disk is.0)) (Landed g c m part at) [] one)
  broken_lands at_start due past events Starved broken is there =
      let none = subst (λ (es : List Event). Contains es (Landed g c m part at)) is there in
      (let within = none.1 in omega (arith, within))

module _ {D : Type 0} (old mid : StoredView D) (gid g : Gid) (claim : Claim) (runs : List Run) (f f' : ℕ)
    (did : DoesPart (λ at. LandingsPhase at gid claim.id claim.mirror runs) old f mid f' Went) (mirror : ℕ) (part : Run)
    (at : Moment) where
  -- a landing that came is that of one of the runs
  pub landed_there : CameBetween old.machine.past mid.machine.past (Landed g claim.id mirror part at)
      → (gid ≡ g) × Contains runs part
  landed_there came =
      let e = Landed g claim.id mirror part at in
      let there = came_of old.machine.past did.events e
      (subst (λ (p : List Event). CameBetween old.machine.past p e) did.grown came) in
      landed_in gid g claim.id claim.id claim.mirror mirror part old.now at runs
      (subst (λ (es : List Event). Contains es e)
      (landings_events (turn_from old f) gid claim.id claim.mirror runs old.machine.past did.events (did.is f (omega arith)))
      there)

  -- where another one was broken off behind them
  pub landed_before : (new : StoredView D) (due : TurnStart → List Event) (f'' : ℕ) (o : Outcome) → o ≢ Went
      → DoesPart (λ t. AfterDisk t gid (due t)) mid f' new f'' o
      → CameBetween old.machine.past new.machine.past (Landed g claim.id mirror part at)
      → (gid ≡ g) × Contains runs part
  landed_before new due f'' o broken next came =
      let e = Landed g claim.id mirror part at in
      let first = after_front old.machine.past did.events in
      let second = after_front mid.machine.past next.events in
      ⊎_elim
      (λ (early : CameBetween old.machine.past mid.machine.past e). landed_there early)
      (λ (late : CameBetween mid.machine.past new.machine.past e).
      absurd (broken_lands gid g claim.id claim.id claim.mirror mirror part old.now at (turn_from mid f') (due (turn_from mid f'))
      mid.machine.past next.events o broken (next.is f' (omega arith))
      (came_of mid.machine.past next.events e
      (subst (λ (p : List Event). CameBetween mid.machine.past p e) next.grown late))))
      (came_split old.machine.past mid.machine.past new.machine.past e first.0 second.0 (did.grown ∙ first.1)
      (next.grown ∙ second.1) came)

-- ---- where none lands

landed_count : (g : Gid) (c m : ℕ) (part : Run) (at : Moment) (events : List Event)
    → Contains events (Landed g c m part at) → part.count ≤ sum_by blocks_in_event events
landed_count g c m part at [] there = absurd (let within = there.1 in omega (arith, within))
landed_count g c m part at (e ∷ events) there =
    let all = sum_by-cons blocks_in_event e events in
    ⊎_elim
    (λ (here : e ≡ Landed g c m part at).
    let count = ap blocks_in_event here in omega (arith, all, count))
    (λ (later : Contains events (Landed g c m part at)).
    let rest = landed_count g c m part at events later in omega (arith, all, rest))
    (one_of e (Landed g c m part at) events there)

-- a landing has blocks
landed_some : (start : RunStart) (g : Gid) (c m : ℕ) (part : Run) (at : Moment) (past : List Event) → IsLegal start past
    → Contains past (Landed g c m part at) → 1 ≤ part.count
landed_some start g c m part at [] legal there = absurd (let within = there.1 in omega (arith, within))
landed_some start g c m part at (e ∷ past) legal there = ⊎_elim
    (λ (here : e ≡ Landed g c m part at).
    (subst (MayFollow start past) here legal.1).0.may.some)
    (λ (later : Contains past (Landed g c m part at)). landed_some start g c m part at past legal.0 later)
    (one_of e (Landed g c m part at) past there)

-- where as many blocks are landed as before no landing came
pub none_lands : (start : RunStart) (old new : List Event) → IsLegal start new → LandedBetween 0 old new
    → (g : Gid) (c m : ℕ) (part : Run) (at : Moment) → CameBetween old new (Landed g c m part at) → ⊥
none_lands start old new legal none g c m part at came =
    let e = Landed g c m part at in
    let some = landed_some start g c m part at new legal
    (subst (λ (p : List Event). Contains p e) (sym came.grown) (Contains-append_left came.newer old e came.has)) in
    let few = landed_count g c m part at came.newer came.has in
    let all = sum_by-append blocks_in_event came.newer old in
    let grown = ap landed_total came.grown in
    omega (arith, some, few, all, grown, none)
