-- The turns of a worker whose work didn't end for want of memory, and the one that ended it.
use Rattle.std.proofs.Common.{◌≡◌, ⊎_elim, ℕ, Bool, List, [], ◌∷◌, Option, Some, None, Result, Ok, Err, refl, sym, ap, ◌∙◌, subst}
use Rattle.std.specs.Option.{option_or}
use Rattle.std.specs.Prelude.{Contains}
use Rattle.conn_worker.specs.Ends.{end_of_said}
use Rattle.conn_worker.specs.Hands.{Fetches, Fetching, Hand, Nothing, Probes, Seals, WorkerAt, fresh, link_at}
use Rattle.conn_worker.specs.Table.{due_op, end_behind, end_of_gain, end_of_hand, end_of_probe, fetch_op, probe_op}
use Rattle.conn_worker.specs.Works.{ComesOut, Does, EndsOrGoesOn, HasNoRoom, IsOutcomeOf, RunSight, StopsUnlessFinished, Worked, Works}
use Rattle.conn_worker.specs.declared.ends.Spent.{Spent}
use Rattle.conn_worker.specs.declared.ends.WorkEnd.{WorkEnd}
use Rattle.conn_worker.specs.declared.ends.WorkEnd.TheVariants as end
use Rattle.conn_worker.specs.declared.hands.Gain.{Gain}
use Rattle.conn_worker.specs.declared.hands.Gain.TheVariants.{Ready, Lost, Open, Starved}
use Rattle.conn_worker.specs.declared.hands.ProbeEnd.{ProbeEnd}
use Rattle.conn_worker.specs.declared.hands.ProbeEnd.TheVariants.{Told, Missed, Lacking}
use Rattle.dl_kinds.specs.declared.runs.Moment.{Moment}
use Rattle.engine_turns.specs.Told.{RunTurn}
use Rattle.engine_turns.specs.declared.operations.Said.{Said}
use Rattle.engine_turns.specs.declared.operations.Said.TheVariants as said
use Rattle.link_source.specs.declared.Links.{Ghosts as LinkSays}
use Rattle.served_runs.specs.Over.{IsWork}
use Rattle.served_runs.proofs.TurnLists.{behind, first_or_later, here, none_there}

-- ---- one turn

fetch_work : (worker : ℕ) (f : Fetching) (now : Moment) (gain : Gain) → IsWork (fetch_op worker f now gain)
fetch_work worker f now (Ready run bytes last) = tt
fetch_work worker f now (Lost loss mark) = tt
fetch_work worker f now Open = tt
fetch_work worker f now Starved = tt

probe_work : (worker claim : ℕ) (now : Moment) (at : ProbeEnd) → IsWork (probe_op worker claim now at)
probe_work worker claim now (Told total) = tt
probe_work worker claim now (Missed loss mark) = tt
probe_work worker claim now Lacking = tt

due_work : (worker : ℕ) (hand : Hand) (now : Moment) → IsWork (due_op worker hand now)
due_work worker Nothing now = tt
due_work worker (Fetches f) now = fetch_work worker f now f.gain
due_work worker (Probes p) now = probe_work worker p.claim now p.end
due_work worker (Seals gid sealed) now = tt

-- want of memory alone shows in a hand
gain_memory : (gain : Gain) (e : WorkEnd) → end_of_gain gain ≡ Some e → e ≡ end.NoMemory
gain_memory Starved e is = let same : Some end.NoMemory ≡ Some e = is in cc
gain_memory gain e is = absurd cc

probe_memory : (at : ProbeEnd) (e : WorkEnd) → end_of_probe at ≡ Some e → e ≡ end.NoMemory
probe_memory Lacking e is = let same : Some end.NoMemory ≡ Some e = is in cc
probe_memory at e is = absurd cc

hand_memory : (hand : Hand) (e : WorkEnd) → end_of_hand hand ≡ Some e → e ≡ end.NoMemory
hand_memory Nothing e is = absurd cc
hand_memory (Fetches f) e is = gain_memory f.gain e is
hand_memory (Probes p) e is = probe_memory p.end e is
hand_memory (Seals gid sealed) e is = absurd cc

-- any other end is one by the answer
ends_by_answer : (o : Option WorkEnd) (hand : Hand) (e : WorkEnd) → (e ≡ end.NoMemory → ⊥)
    → option_or o (end_of_hand hand) ≡ Some e → o ≡ Some e
ends_by_answer (Some x) hand e other is = is
ends_by_answer None hand e other is = absurd (other (hand_memory hand e is))

pub finished_by : (told : Said) → end_of_said told ≡ Some end.Finished → told ≡ said.Finished
finished_by said.Finished is = refl
finished_by (said.JournalFull count) is = absurd cc
finished_by said.NoMemory is = absurd cc
finished_by other is = absurd cc

pub full_by : (told : Said) → end_of_said told ≡ Some end.JournalFull → (count : ℕ) × (told ≡ said.JournalFull count)
full_by said.Finished is = absurd cc
full_by (said.JournalFull count) is = (count, refl)
full_by said.NoMemory is = absurd cc
full_by other is = absurd cc

ends_for_memory : (told : Said) (hand : Hand) → told ≡ said.NoMemory → end_behind told hand ≡ Some end.NoMemory
ends_for_memory told hand is = ap (λ (s : Said). end_behind s hand) is

-- ---- all turns

-- a turn of the work, for which memory sufficed
pub record WellWorked (t : RunTurn) : Type 0 where
  pub work : IsWork t.op
  pub memory : t.answer.said ≡ said.NoMemory → ⊥

-- the answer of one of the turns ended the work
pub record EndsWork (ts : List RunTurn) (e : WorkEnd) : Type 0 where
  pub turn : RunTurn
  pub there : Contains ts turn
  pub said_is : end_of_said turn.answer.said ≡ Some e

module _ (tells : Bool) (worker : ℕ) where
  its_work : (told : ℕ) (t : RunTurn) (a m : WorkerAt) → Does tells worker told t a m → IsWork t.op
  its_work told t a m does = subst IsWork (sym does.op) (due_work worker a.hand _)

  -- each turn of the table is work
  pub each_work : (ts : List RunTurn) (a b : WorkerAt) (how : Option WorkEnd) → Works tells worker ts a b how
      → (t : RunTurn) → Contains ts t → IsWork t.op
  each_work [] a b how works t there = none_there t there
  each_work (u ∷ ts) a b how works t there = ⊎_elim
      (λ (same : u ≡ t). subst (λ (v : RunTurn). IsWork v.op) same (its_work works.0 u a works.1 works.2))
      (λ (later : Contains ts t). by (end_behind u.answer.said works.1.hand) works.3 later
      (λ on. each_work ts works.1 b how on t later))
      (first_or_later u ts t there)
    where
      by : (o : Option WorkEnd)
          → EndsOrGoesOn o ((ts ≡ []) × (b ≡ works.1) × (how ≡ end_behind u.answer.said works.1.hand))
          (Works tells worker ts works.1 b how)
          → Contains ts t → (Works tells worker ts works.1 b how → IsWork t.op) → IsWork t.op
      by (Some e) ended later rest = none_there t (subst (λ (l : List RunTurn). Contains l t) ended.0 later)
      by None on later rest = rest on

  -- for each of them memory sufficed, unless its want ended the work
  each_well : (ts : List RunTurn) (a b : WorkerAt) (how : Option WorkEnd) → Works tells worker ts a b how
      → (how ≡ Some end.NoMemory → ⊥) → (t : RunTurn) → Contains ts t → WellWorked t
  each_well [] a b how works fed t there = none_there t there
  each_well (u ∷ ts) a b how works fed t there =
      by (end_behind u.answer.said works.1.hand) refl works.3 (λ on. each_well ts works.1 b how on fed t)
    where
      by : (o : Option WorkEnd) → end_behind u.answer.said works.1.hand ≡ o
          → EndsOrGoesOn o ((ts ≡ []) × (b ≡ works.1) × (how ≡ end_behind u.answer.said works.1.hand))
          (Works tells worker ts works.1 b how)
          → (Works tells worker ts works.1 b how → Contains ts t → WellWorked t) → WellWorked t
      by (Some e) at ended rest = ⊎_elim
          (λ (same : u ≡ t). subst WellWorked same (record {
            work = its_work works.0 u a works.1 works.2;
            memory = λ starved. fed (ended.2 ∙ ends_for_memory u.answer.said works.1.hand starved);
          }))
          (λ (later : Contains ts t). none_there t (subst (λ (l : List RunTurn). Contains l t) ended.0 later))
          (first_or_later u ts t there)
      by None at on rest = ⊎_elim
          (λ (same : u ≡ t). subst WellWorked same (record {
            work = its_work works.0 u a works.1 works.2;
            memory = λ starved.
                let never : Some end.NoMemory ≡ None =
                sym (ends_for_memory u.answer.said works.1.hand starved) ∙ at in cc;
          }))
          (λ (later : Contains ts t). rest on later)
          (first_or_later u ts t there)

  -- an answer ended the work, where want of memory didn't
  ends : (ts : List RunTurn) (a b : WorkerAt) (how : Option WorkEnd) (e : WorkEnd) → Works tells worker ts a b how
      → how ≡ Some e → (e ≡ end.NoMemory → ⊥) → EndsWork ts e
  ends [] a b how e works is fed = absurd (let never : Some e ≡ None = sym is ∙ works.1 in cc)
  ends (u ∷ ts) a b how e works is fed =
      by (end_behind u.answer.said works.1.hand) refl works.3 (λ on. ends ts works.1 b how e on is fed)
    where
      by : (o : Option WorkEnd) → end_behind u.answer.said works.1.hand ≡ o
          → EndsOrGoesOn o ((ts ≡ []) × (b ≡ works.1) × (how ≡ end_behind u.answer.said works.1.hand))
          (Works tells worker ts works.1 b how)
          → (Works tells worker ts works.1 b how → EndsWork ts e) → EndsWork (u ∷ ts) e
      by (Some x) at ended rest = record {
        turn = u;
        there = here u ts;
        said_is = ends_by_answer (end_of_said u.answer.said) works.1.hand e fed (sym ended.2 ∙ is);
      }
      by None at on rest = let r = rest on in record { turn = r.turn; there = behind u ts r.turn r.there; said_is = r.said_is }

-- what a worker's own turns are whose work came out so
pub record CameFinished (worked stop : List RunTurn) : Type 0 where
  pub finishes : EndsWork worked end.Finished
  pub no_stop : stop ≡ []

module _ {D L : Type 0} (links : LinkSays L) (worker : ℕ) (from : RunSight D) (old : L) (to : RunSight D) (new : L)
    (came : Result WorkEnd Spent) (its : Worked links worker from old to new came) where
  abbrev Comes : Type 0
  Comes = ComesOut links.tells worker its.worked (fresh (link_at links old)) its.b came

  abbrev Unroomed : Type 0
  Unroomed = HasNoRoom its.worked (fresh (link_at links old)) its.b came

  -- each of a worker's own turns is work, but its stop
  pub worked_work : (t : RunTurn) → Contains its.worked t → IsWork t.op
  worked_work t there = ⊎_elim
      (λ (out_of : Comes). each_work links.tells worker its.worked (fresh (link_at links old)) its.b out_of.end out_of.works t there)
      (λ (none : Unroomed). none_there t (subst (λ (l : List RunTurn). Contains l t) none.none there)) its.comes_out

  starved_out : (r : Result WorkEnd Spent) (how : Option WorkEnd) → IsOutcomeOf how r → (r ≡ Ok end.NoMemory → ⊥)
      → how ≡ Some end.NoMemory → ⊥
  starved_out (Ok by) how is fed starved = fed (ap Ok (let both : Some by ≡ Some end.NoMemory = sym is ∙ starved in cc))
  starved_out (Err spent) how is fed starved = let never : Some end.NoMemory ≡ None = sym starved ∙ is in cc

  -- for each of them memory sufficed, unless its want ended the work
  pub worked_well : (came ≡ Ok end.NoMemory → ⊥) → (t : RunTurn) → Contains its.worked t → WellWorked t
  worked_well fed t there = ⊎_elim
      (λ (out_of : Comes).
      each_well links.tells worker its.worked (fresh (link_at links old)) its.b out_of.end out_of.works
      (starved_out came out_of.end out_of.is fed) t there)
      (λ (none : Unroomed). none_there t (subst (λ (l : List RunTurn). Contains l t) none.none there)) its.comes_out

  pub came_ends : (e : WorkEnd) → came ≡ Ok e → (e ≡ end.NoMemory → ⊥) → EndsWork its.worked e
  came_ends e is fed = ⊎_elim
      (λ (out_of : Comes).
      let outcome : IsOutcomeOf out_of.end (Ok e) =
      subst (λ (r : Result WorkEnd Spent). IsOutcomeOf out_of.end r) is out_of.is in
      ends links.tells worker its.worked (fresh (link_at links old)) its.b out_of.end e out_of.works outcome fed)
      (λ (none : Unroomed).
      absurd (fed (let both : Ok e ≡ Ok end.NoMemory = sym is ∙ none.result_is in cc))) its.comes_out

  pub came_finished : came ≡ Ok end.Finished → CameFinished its.worked its.stop
  came_finished is =
      record {
        finishes = came_ends end.Finished is (λ starved. cc);
        no_stop = subst (λ (r : Result WorkEnd Spent). StopsUnlessFinished r its.b.moment its.stop) is its.stops;
      }
