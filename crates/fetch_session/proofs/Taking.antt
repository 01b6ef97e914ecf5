-- What stands at the beginning, and after blocks were taken.
use Rattle.std.proofs.Common.{◌≡◌, ℕ, ◌+◌, ◌-◌, ◌<◌, ◌≤◌, min, List, [], ◌++◌, length, Option, Some, None, sym, ap, subst, ◌∙◌, inl, inr, arith, append_assoc}
use Rattle.std.proofs.lemmas.List.{length-append, nil_from_length, append-nil}
use Rattle.std.specs.Vec.{vec_len}
use Rattle.dl_kinds.specs.Plan.{blocks_of}
use Rattle.dl_kinds.specs.PlanLaws.{BlocksFollow}
use Rattle.dl_kinds.specs.declared.plan.Plan.{Plan}
use Rattle.dl_kinds.specs.declared.runs.Run.{Run}
use Rattle.link_source.specs.Exchanges.{Exchange}
use Rattle.span_map.specs.declared.jobs.Job.{Job}
use Rattle.span_map.specs.declared.jobs.JobPart.{JobPart}
use Rattle.reply_reader.specs.declared.loss.Loss.{Loss}
use Rattle.request_chain.specs.Plans.{Done}
use Rattle.part_fetches.specs.Fetched.{AreBrought, Fetched}
use Rattle.fetch_session.specs.Blocks.{cut, AreReady}
use Rattle.span_map.specs.Jobs.{IsJob, parts_len, run_end, run_start}
use Rattle.fetch_session.specs.Fetches.{HasCome, IsFetch}
use Rattle.fetch_session.specs.Sources.{IsSource}
use Rattle.fetch_session.specs.declared.fetch.Fetch.{Fetch}
use Rattle.fetch_session.specs.declared.source.Source.{Source}
use Rattle.fetch_session.proofs.Cuts.{cut_inside, cut_next, cut_grows, cuts_ordered}
use Rattle.fetch_session.proofs.Stepping.{job_end}

-- what is held fits into a buffer
pub held_few : (plan : Plan) (end len : ℕ) (ready : Run) → BlocksFollow → end ≤ blocks_of plan.total plan.piece_len → AreReady plan end ready len → len ≤ 1048576
held_few plan end len ready follow within are =
    let le : ready.first + ready.count ≤ end = are.within in
    let far = (cuts_ordered plan ready.first (min (ready.first + 64) end) follow (omega arith) (omega arith)).1 in
    let bounded : cut plan ready.first + len ≤ cut plan (min (ready.first + 64) end) = are.bounded in
    omega (arith, far, bounded)

-- and so does what there is room for
pub room_few : (plan : Plan) (end len room : ℕ) (ready : Run) → BlocksFollow → end ≤ blocks_of plan.total plan.piece_len → AreReady plan end ready len
    → cut plan ready.first + len + room ≡ cut plan (min (ready.first + 64) end) → len + room ≤ 1048576
room_few plan end len room ready follow within are is =
    let le : ready.first + ready.count ≤ end = are.within in
    let far = (cuts_ordered plan ready.first (min (ready.first + 64) end) follow (omega arith) (omega arith)).1 in
    omega (arith, far, is)

-- the bytes of the ready blocks are held
pub ready_held : (plan : Plan) (end len : ℕ) (ready : Run) → BlocksFollow → end ≤ blocks_of plan.total plan.piece_len → AreReady plan end ready len
    → (cut plan ready.first ≤ cut plan (ready.first + ready.count)) × (cut plan (ready.first + ready.count) - cut plan ready.first ≤ len)
ready_held plan end len ready follow within are =
    let le : ready.first + ready.count ≤ end = are.within in
    let far = (cuts_ordered plan ready.first (ready.first + ready.count) follow (omega arith) (omega arith)).0 in
    let whole : cut plan (ready.first + ready.count) ≤ cut plan ready.first + len = are.whole in
    (far, omega (arith, far, whole))

-- the bytes of a run by the cuts
pub run_cuts : (plan : Plan) (end : ℕ) (run : Run) → BlocksFollow → end ≤ blocks_of plan.total plan.piece_len → 0 < run.count → run.first + run.count ≤ end
    → (run_start plan run ≡ cut plan run.first) × (run_end plan run ≡ cut plan (run.first + run.count))
run_cuts plan end run follow within some le =
    let at : run.first + run.count - 1 + 1 ≡ run.first + run.count = omega arith in
    (sym (cut_inside plan run.first (omega arith)), cut_next plan (run.first + run.count - 1) follow (omega arith) ∙ ap (cut plan) at)

pub begun_fetch : (job : Job) (new : Fetch) → BlocksFollow → IsJob job → new.plan ≡ job.plan → new.end ≡ job.run.first + job.run.count → new.ready.first ≡ job.run.first
    → new.held.items ≡ [] → new.lost ≡ None → IsSource job.parts [] [] new.source
    → AreBrought job.parts [] [] [] → IsFetch job [] [] new
begun_fetch job new follow is plan_is end_is first_is none_held none_lost source brought =
    let some : 0 < job.run.count = is.some in
    let within : job.run.first + job.run.count ≤ blocks_of job.plan.total job.plan.piece_len = is.within in
    let end = job_end job follow is in
    let start : cut job.plan job.run.first ≡ run_start job.plan job.run = cut_inside job.plan job.run.first (omega arith) in
    let grows = (cut_grows job.plan job.run.first follow (omega arith)).0 in
    let far = (cuts_ordered job.plan (job.run.first + 1) (job.run.first + job.run.count) follow (omega arith) within).0 in
    let short : 0 < parts_len job.parts = omega (arith, end, start, grows, far) in
    let first : cut job.plan new.ready.first ≡ cut job.plan job.run.first = ap (cut job.plan) first_is in
    let H : List ℕ → Type 0 = λ items. HasCome job.parts [] items new.lost new.source in
    let L : Option Loss → Type 0 = λ lost. HasCome job.parts [] [] lost new.source in
    record {
      is_job = is;
      plan_is = plan_is;
      end_is = end_is;
      begun = omega (arith, first_is);
      handed_is = omega (arith, first, start);
      came = subst H (sym none_held) (subst L (sym none_lost) (inr (record { short = short; source_is = source; waiting = []; brought = brought })));
      all = λ none. absurd (omega (arith, none, end_is, first_is));
    }

-- where as many bytes came as the parts have, all came
whole_come : (parts : List JobPart) (used : List Exchange) (bytes : List ℕ) (lost : Option Loss) (source : Source) → parts_len parts ≤ length bytes → HasCome parts used bytes lost source
    → Fetched parts used bytes Done []
whole_come parts used bytes None source whole came = elim came [ inl all ↦ all | inr more ↦ absurd (let short : length bytes < parts_len parts = more.short in omega arith) ]
whole_come parts used bytes (Some loss) source whole came = absurd (let short : length bytes < parts_len parts = came.0 in omega arith)

pub taken_fetch : (job : Job) (used : List Exchange) (handed : List ℕ) (old new : Fetch) (blocks : List ℕ) → BlocksFollow
    → new.plan ≡ old.plan → new.end ≡ old.end → new.ready.first ≡ old.ready.first + old.ready.count → new.source ≡ old.source → new.lost ≡ old.lost
    → old.held.items ≡ blocks ++ new.held.items → cut old.plan old.ready.first + length blocks ≡ cut old.plan (old.ready.first + old.ready.count)
    → IsFetch job used handed old → IsFetch job used (handed ++ blocks) new
taken_fetch job used handed old new blocks follow plan_is end_is first_is source_is lost_is held_is len_is is =
    let P : Plan → Type 0 = λ plan. cut plan old.ready.first + length blocks ≡ cut plan (old.ready.first + old.ready.count) in
    let len : cut job.plan old.ready.first + length blocks ≡ cut job.plan (old.ready.first + old.ready.count) = subst P is.plan_is len_is in
    let first : cut job.plan new.ready.first ≡ cut job.plan (old.ready.first + old.ready.count) = ap (cut job.plan) first_is in
    let at : run_start job.plan job.run + length handed ≡ cut job.plan old.ready.first = is.handed_is in
    let begun : job.run.first ≤ old.ready.first = is.begun in
    let within : old.ready.first + old.ready.count ≤ old.end = old.holds.within in
    let join : handed ++ old.held.items ≡ (handed ++ blocks) ++ new.held.items = ap (λ more. handed ++ more) held_is ∙ sym (append_assoc handed blocks new.held.items) in
    let B : List ℕ → Type 0 = λ bytes. HasCome job.parts used bytes old.lost old.source in
    let C : Source → Type 0 = λ source. HasCome job.parts used ((handed ++ blocks) ++ new.held.items) old.lost source in
    let L : Option Loss → Type 0 = λ lost. HasCome job.parts used ((handed ++ blocks) ++ new.held.items) lost new.source in
    let came : HasCome job.parts used ((handed ++ blocks) ++ new.held.items) new.lost new.source = subst L (sym lost_is) (subst C (sym source_is) (subst B join is.came)) in
    let held_len : vec_len old.held ≡ length old.held.items = old.held.ok.0 in
    let R : Plan → Type 0 = λ plan. cut plan old.ready.first + length old.held.items ≤ cut plan (min (old.ready.first + 64) old.end) in
    let reach : cut old.plan old.ready.first + vec_len old.held ≤ cut old.plan (min (old.ready.first + 64) old.end) = old.holds.bounded in
    let bounded : cut job.plan old.ready.first + length old.held.items ≤ cut job.plan (min (old.ready.first + 64) old.end) = subst R is.plan_is (omega (arith, reach, held_len)) in
    let end_within : old.end ≤ blocks_of job.plan.total job.plan.piece_len = (let w = is.is_job.within in let e = is.end_is in omega (arith, w, e)) in
    let far = (cuts_ordered job.plan (min (old.ready.first + 64) old.end) old.end follow (omega arith) end_within).0 in
    let end = job_end job follow is.is_job ∙ ap (cut job.plan) (sym is.end_is) in
    record {
      is_job = is.is_job;
      plan_is = plan_is ∙ is.plan_is;
      end_is = end_is ∙ is.end_is;
      begun = omega (arith, first_is, begun);
      handed_is = omega (arith, at, len, first, length-append handed blocks);
      came = came;
      all = λ none.
          let last : old.ready.first + old.ready.count ≡ old.end = omega (arith, none, first_is, end_is, within) in
          let whole : cut job.plan (old.ready.first + old.ready.count) ≡ cut job.plan old.end = ap (cut job.plan) last in
          let grown : length old.held.items ≡ length blocks + length new.held.items = ap length held_is ∙ length-append blocks new.held.items in
          let nothing : new.held.items ≡ [] = nil_from_length new.held.items (omega (arith, grown, len, whole, bounded, far)) in
          let H : List ℕ → Type 0 = λ items. HasCome job.parts used ((handed ++ blocks) ++ items) new.lost new.source in
          let N : List ℕ → Type 0 = λ bytes. HasCome job.parts used bytes new.lost new.source in
          whole_come job.parts used (handed ++ blocks) new.lost new.source (omega (arith, at, len, whole, end, length-append handed blocks))
          (subst N (append-nil (handed ++ blocks)) (subst H nothing came));
    }
