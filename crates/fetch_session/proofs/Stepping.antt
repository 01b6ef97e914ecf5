-- What a step gains.
use Rattle.std.proofs.Common.{◌≡◌, ◌≢◌, ◌⊎◌, ℕ, ◌+◌, ◌-◌, ◌<◌, ◌≤◌, min, List, [], ◌++◌, length, Option, Some, None, All, true, false, refl, sym, ap, subst, ◌∙◌, inl, inr, arith, ⊎_elim, append_assoc}
use Rattle.std.proofs.lemmas.Bool.{cases_lt}
use Rattle.std.proofs.lemmas.List.{length-append, nil_from_length, append-nil}
use Rattle.std.specs.Prelude.{◌↔◌, IsTrue, IsSome}
use Rattle.std.specs.Vec.{vec_len}
use Rattle.dl_kinds.specs.Plan.{blocks_of}
use Rattle.dl_kinds.specs.PlanLaws.{BlocksFollow}
use Rattle.dl_kinds.specs.declared.plan.Plan.{Plan}
use Rattle.dl_kinds.specs.declared.runs.Run.{Run}
use Rattle.link_source.specs.Exchanges.{Exchange}
use Rattle.span_map.specs.declared.jobs.Job.{Job}
use Rattle.span_map.specs.declared.jobs.JobPart.{JobPart}
use Rattle.reply_reader.specs.declared.loss.Loss.{Loss}
use Rattle.reply_reader.specs.declared.loss.Loss.TheVariants.{Link, NotFound, Refused, BadReply, Length, Short, Redirects, NoMemory}
use Rattle.request_chain.specs.Chains.{Gains, received_by}
use Rattle.span_map.specs.Jobs.{IsJob, IsJobPart, parts_len, run_start}
use Rattle.request_chain.specs.Plans.{FetchEnding, Done, Open, Lost}
use Rattle.request_chain.specs.declared.chain.ChainRead.{ChainRead}
use Rattle.part_fetches.specs.Fetched.{Fetched}
use Rattle.part_fetches.specs.Laws.{Fits, FetchedFits}
use Rattle.part_fetches.specs.Losses.{TellsLoss}
use Rattle.fetch_session.specs.Blocks.{cut, ready_blocks, AreReady}
use Rattle.fetch_session.specs.Fetches.{rest_of, IsShort, HasCome, IsFetch, SameButSpare, IsFrontOfFetched, IsStopped, FetchSteps, Fails}
use Rattle.fetch_session.specs.Sources.{IsSource, LosesParts, ReadsParts}
use Rattle.fetch_session.specs.declared.fetch.Fetch.{Fetch}
use Rattle.fetch_session.specs.declared.fetch.Got.{Got}
use Rattle.fetch_session.specs.declared.source.Source.{Source}
use Rattle.fetch_session.proofs.Counting.{ready_is}
use Rattle.fetch_session.proofs.Cuts.{cut_next, cuts_ordered}

-- the parts' bytes go on to the end of the run
pub job_end : (job : Job) → BlocksFollow → IsJob job → run_start job.plan job.run + parts_len job.parts ≡ cut job.plan (job.run.first + job.run.count)
job_end job follow is =
    let some : 0 < job.run.count = is.some in
    let within : job.run.first + job.run.count ≤ blocks_of job.plan.total job.plan.piece_len = is.within in
    let at : job.run.first + job.run.count - 1 + 1 ≡ job.run.first + job.run.count = omega arith in
    is.len ∙ cut_next job.plan (job.run.first + job.run.count - 1) follow (omega arith) ∙ ap (cut job.plan) at

-- what a loss tells is some ending, in which not all came, and no other loss
tells_ending : (parts : List JobPart) (used : List Exchange) (bytes : List ℕ) (faults : ℕ) (loss : Loss) → loss ≢ NoMemory → TellsLoss parts used bytes faults loss
    → (ending : FetchEnding) × (ending ≢ Done) × Fetched parts used bytes ending [] × ((gone : Loss) → ending ≡ Lost gone → loss ≡ gone)
tells_ending parts used bytes faults (Link count) not tells = (Open, λ e. cc, tells.0, λ gone is. cc)
tells_ending parts used bytes faults NoMemory not tells = absurd (not refl)
tells_ending parts used bytes faults NotFound not tells = (Lost NotFound, λ e. cc, tells, λ gone is. cc)
tells_ending parts used bytes faults (Refused status code) not tells = (Lost (Refused status code), λ e. cc, tells, λ gone is. cc)
tells_ending parts used bytes faults BadReply not tells = (Lost BadReply, λ e. cc, tells, λ gone is. cc)
tells_ending parts used bytes faults (Length told want) not tells = (Lost (Length told want), λ e. cc, tells, λ gone is. cc)
tells_ending parts used bytes faults (Short got) not tells = (Lost (Short got), λ e. cc, tells, λ gone is. cc)
tells_ending parts used bytes faults Redirects not tells = (Lost Redirects, λ e. cc, tells, λ gone is. cc)

-- the same list, grouped otherwise
regroup : (a b c d : List ℕ) → ((a ++ b) ++ c) ++ d ≡ a ++ ((b ++ c) ++ d)
regroup a b c d = simp append_assoc

module _ (fits : FetchedFits) (parts : List JobPart) (are : All IsJobPart parts) (later : List Exchange) (bytes waiting : List ℕ) (ending : FetchEnding) (fetched : Fetched parts later (bytes ++ waiting) ending []) where
  -- where as many bytes came as the parts have, all came, and none waits
  whole_done : parts_len parts ≤ length bytes → (ending ≡ Done) × Fetched parts later bytes Done []
  whole_done whole =
      let f : Fits parts (bytes ++ waiting) ending = fits parts later [] (bytes ++ waiting) ending are fetched in
      let few : length (bytes ++ waiting) ≤ parts_len parts = f.few in
      let none : waiting ≡ [] = nil_from_length waiting (omega (arith, length-append bytes waiting, few, whole)) in
      let done : ending ≡ Done = f.full (omega (arith, length-append bytes waiting, few, whole)) in
      let same : bytes ++ waiting ≡ bytes = ap (λ more. bytes ++ more) none ∙ append-nil bytes in
      let P : List ℕ → Type 0 = λ all. Fetched parts later all ending [] in
      let Q : FetchEnding → Type 0 = λ e. Fetched parts later bytes e [] in
      (done, subst Q done (subst P same fetched))

  -- all came, or the source brings more
  decide_come : (source : Source) → (IsShort parts bytes → IsSource parts later bytes source) → HasCome parts later bytes None source
  decide_come source more =
      ⊎_elim (λ (short : length bytes < parts_len parts). inr (record {
        short = short;
        source_is = more short;
        waiting = waiting;
        brought = record { ending = ending; fetched = fetched };
      })) (λ (whole : parts_len parts ≤ length bytes). inl (whole_done whole).1) (cases_lt (length bytes) (parts_len parts))

-- bytes that came are at the front of what the streams tell
come_front : (parts : List JobPart) (used : List Exchange) (handed held : List ℕ) (lost : Option Loss) (source : Source)
    → HasCome parts used (handed ++ held) lost source → lost ≢ Some NoMemory → IsFrontOfFetched parts used handed
come_front parts used handed held None source (inl all) kept = record { behind = held; ending = Done; fetched = all }
come_front parts used handed held None source (inr more) kept = record {
  behind = held ++ more.waiting;
  ending = more.brought.ending;
  fetched =
      (let P : List ℕ → Type 0 = λ all. Fetched parts used all more.brought.ending [] in
      subst P (append_assoc handed held more.waiting) more.brought.fetched);
}
come_front parts used handed held (Some loss) source came kept =
    let told = tells_ending parts used (handed ++ held) came.1.0 loss (λ memory. kept (ap Some memory)) came.1.1 in
    record { behind = held; ending = told.0; fetched = told.2 }

module _ (fits : FetchedFits) (follow : BlocksFollow) (job : Job) (used : List Exchange) (handed : List ℕ) (old : Fetch) (is : IsFetch job used handed old) where
  -- how far what is held reaches
  reaches : (cut job.plan old.ready.first + length old.held.items ≡ run_start job.plan job.run + length (handed ++ old.held.items))
      × (run_start job.plan job.run + parts_len job.parts ≡ cut job.plan old.end)
  reaches =
      let at : run_start job.plan job.run + length handed ≡ cut job.plan old.ready.first = is.handed_is in
      let end = job_end job follow is.is_job ∙ ap (cut job.plan) (sym is.end_is) in
      (omega (arith, at, length-append handed old.held.items), end)

  plan_ready : AreReady job.plan old.end old.ready (length old.held.items)
  plan_ready =
      let P : Plan → Type 0 = λ plan. AreReady plan old.end old.ready (length old.held.items) in
      let Q : ℕ → Type 0 = λ len. AreReady old.plan old.end old.ready len in
      subst P is.plan_is (subst Q old.held.ok.0 old.holds)

  plan_within : job.run.first + job.run.count ≤ blocks_of job.plan.total job.plan.piece_len
  plan_within = is.is_job.within

  -- the blocks that are ready are those of the bytes that came, where what waits does so for want of room
  shown_ready : (came : List ℕ) → length old.held.items ≤ length came
      → (length came ≡ length old.held.items) ⊎ (cut job.plan old.ready.first + length old.held.items ≡ cut job.plan (min (old.ready.first + 64) old.end))
      → old.ready ≡ ready_blocks job.plan job.run (length handed) (length handed + length came)
  shown_ready came le waits =
      ready_is job.plan job.run old.end (length handed) (length came) (length old.held.items) old.ready follow plan_within is.end_is is.begun is.handed_is plan_ready le waits

-- Where there is room.
module _ (fits : FetchedFits) (follow : BlocksFollow) (job : Job) (used : List Exchange) (handed : List ℕ) (old : Fetch) (is : IsFetch job used handed old)
    (room : ℕ) (some_room : 0 < room) (has_room : cut old.plan old.ready.first + vec_len old.held + room ≡ cut old.plan (min (old.ready.first + 64) old.end)) where
  pub plan_room : cut job.plan old.ready.first + length old.held.items + room ≡ cut job.plan (min (old.ready.first + 64) old.end)
  plan_room =
      let P : Plan → Type 0 = λ plan. cut plan old.ready.first + length old.held.items + room ≡ cut plan (min (old.ready.first + 64) old.end) in
      let len : vec_len old.held ≡ length old.held.items = old.held.ok.0 in
      subst P is.plan_is (omega (arith, len, has_room))

  -- blocks are left
  some_left : old.ready.first < old.end
  some_left =
      ⊎_elim (λ (less : old.ready.first < old.end). less)
      (λ (ge : old.end ≤ old.ready.first).
      let same : min (old.ready.first + 64) old.end ≡ old.end = omega arith in
      let within : old.ready.first + old.ready.count ≤ old.end = old.holds.within in
      let at : min (old.ready.first + 64) old.end ≡ old.ready.first = omega arith in
      let e : cut job.plan (min (old.ready.first + 64) old.end) ≡ cut job.plan old.ready.first = ap (cut job.plan) at in
      absurd (omega (arith, plan_room, e)))
      (cases_lt old.ready.first old.end)

  -- bytes are left
  short_by_room : IsShort job.parts (handed ++ old.held.items)
  short_by_room =
      let end_within : old.end ≤ blocks_of job.plan.total job.plan.piece_len = (let w = plan_within fits follow job used handed old is in let e = is.end_is in omega (arith, w, e)) in
      let far = (cuts_ordered job.plan (min (old.ready.first + 64) old.end) old.end follow (omega arith) end_within).0 in
      let reach = reaches fits follow job used handed old is in omega (arith, reach.0, reach.1, far, plan_room)

  -- the source brings more
  pub source_is : old.lost ≡ None → IsSource job.parts used (handed ++ old.held.items) old.source
  source_is none =
      let P : Option Loss → Type 0 = λ lost. HasCome job.parts used (handed ++ old.held.items) lost old.source in
      let short : length (handed ++ old.held.items) < parts_len job.parts = short_by_room in
      let came : HasCome job.parts used (handed ++ old.held.items) None old.source = subst P none is.came in
      elim came [
        | inl all ↦ absurd (let full = (fits job.parts used [] (handed ++ old.held.items) Done is.is_job.parts all).all refl in omega (arith, short, full))
        | inr more ↦ more.source_is
      ]

  -- What stands after the call: the run and the blocks that were handed out are the same.
  module _ (later : List Exchange) (new : Fetch) (plan_is : new.plan ≡ old.plan) (end_is : new.end ≡ old.end) (first_is : new.ready.first ≡ old.ready.first) where
    still_left : (rest_of new).count ≡ 0 → ⊥
    still_left none = let left = some_left in omega (arith, left, end_is, first_is, none)

    stands : HasCome job.parts later (handed ++ new.held.items) new.lost new.source → IsFetch job later handed new
    stands came = record {
      is_job = is.is_job;
      plan_is = plan_is ∙ is.plan_is;
      end_is = end_is ∙ is.end_is;
      begun = (let begun : job.run.first ≤ old.ready.first = is.begun in omega (arith, first_is, begun));
      handed_is = is.handed_is ∙ ap (cut job.plan) (sym first_is);
      came = came;
      all = λ none. absurd (still_left none);
    }

    -- what was read stands in one list
    joins : (added : List ℕ) → new.held.items ≡ old.held.items ++ added → handed ++ new.held.items ≡ (handed ++ old.held.items) ++ added
    joins added held_is = ap (λ more. handed ++ more) held_is ∙ sym (append_assoc handed old.held.items added)

    -- where the ready blocks are the last, all bytes came
    last_whole : (is_new : IsFetch job later handed new) → new.ready.count ≡ (rest_of new).count → parts_len job.parts ≤ length (handed ++ new.held.items)
    last_whole is_new last =
        let left = some_left in
        let ready = plan_ready fits follow job later handed new is_new in
        let reach = reaches fits follow job later handed new is_new in
        let whole : cut job.plan (new.ready.first + new.ready.count) ≤ cut job.plan new.ready.first + length new.held.items = ready.whole in
        let at : new.ready.first + new.ready.count ≡ new.end = omega (arith, last, left, end_is, first_is) in
        let same : cut job.plan (new.ready.first + new.ready.count) ≡ cut job.plan new.end = ap (cut job.plan) at in
        omega (arith, whole, same, reach.0, reach.1)

    top_of : (is_new : IsFetch job later handed new) → cut job.plan (min (new.ready.first + 64) new.end) ≤ cut job.plan new.end
    top_of is_new =
        let end_within : new.end ≤ blocks_of job.plan.total job.plan.piece_len = (let w = plan_within fits follow job later handed new is_new in let e = is_new.end_is in omega (arith, e, w)) in
        (cuts_ordered job.plan (min (new.ready.first + 64) new.end) new.end follow (omega arith) end_within).0

    -- where what is held reaches the end of the room, or of the run, 64 blocks are ready, or the last ones
    far_stops : (is_new : IsFetch job later handed new) (got : Got) → got.ready ≡ new.ready → (IsTrue got.done ↔ (new.ready.count ≡ (rest_of new).count))
        → (cut job.plan (min (new.ready.first + 64) new.end) ≤ cut job.plan new.ready.first + length new.held.items)
        → (got.done ≡ true) ⊎ (got.ready.count ≡ 64)
    far_stops is_new got ready_is done_is far =
        let left = some_left in
        let ready = plan_ready fits follow job later handed new is_new in
        let within : new.ready.first + new.ready.count ≤ new.end = ready.within in
        let at_most : new.ready.count ≤ 64 = ready.few in
        let same : got.ready.count ≡ new.ready.count = ap (λ (r : Run). r.count) ready_is in
        let end_within : new.end ≤ blocks_of job.plan.total job.plan.piece_len = (let w = plan_within fits follow job later handed new is_new in let e = is_new.end_is in omega (arith, e, w)) in
        ⊎_elim
        (λ (fewer : new.ready.count < min 64 (new.end - new.ready.first)).
        let next = (cuts_ordered job.plan (new.ready.first + new.ready.count + 1) (min (new.ready.first + 64) new.end) follow (omega (arith, fewer, left, end_is, first_is)) (omega (arith, end_within))).0 in
        let short : cut job.plan new.ready.first + length new.held.items < cut job.plan (new.ready.first + new.ready.count + 1) = ready.most fewer in
        absurd (omega (arith, next, short, far)))
        (λ (most : min 64 (new.end - new.ready.first) ≤ new.ready.count).
        ⊎_elim
        (λ (all : new.ready.count < 64). inl (done_is.1 (omega (arith, most, all, within))))
        (λ (whole : 64 ≤ new.ready.count). inr (omega (arith, whole, at_most, same)))
        (cases_lt new.ready.count 64))
        (cases_lt new.ready.count (min 64 (new.end - new.ready.first)))

-- nothing is no loss
some_none : (lost : Option Loss) → lost ≡ None → IsSome lost → ⊥
some_none None none some = let no : false ≡ true = some in cc
some_none (Some loss) none some = let no : Some loss ≡ None = none in cc

-- all blocks are ready, or 64 of them
or_stopped : (allow : ℕ) (got : Got) (lost : Option Loss) → (got.done ≡ true) ⊎ (got.ready.count ≡ 64) → (got.done ≡ true) ⊎ IsStopped allow got lost
or_stopped allow got lost (inl done) = inl done
or_stopped allow got lost (inr most) = inr (inl most)

module _ (fits : FetchedFits) (follow : BlocksFollow) (job : Job) (used : List Exchange) (handed : List ℕ) (old : Fetch) (is : IsFetch job used handed old)
    (room : ℕ) (some_room : 0 < room) (has_room : cut old.plan old.ready.first + vec_len old.held + room ≡ cut old.plan (min (old.ready.first + 64) old.end))
    (new : Fetch) (plan_is : new.plan ≡ old.plan) (end_is : new.end ≡ old.end) (first_is : new.ready.first ≡ old.ready.first)
    (before now : List Exchange) (faults allow : ℕ) (added : List ℕ) where
  -- a read that lost nothing
  pub steps_read : (got : Got) (read : ChainRead) → new.lost ≡ None → new.held.items ≡ old.held.items ++ added
      → ReadsParts job.parts before used (handed ++ old.held.items) now added room allow read new.source
      → got.ready ≡ new.ready → got.taken ≡ read.taken → (IsTrue got.done ↔ (new.ready.count ≡ (rest_of new).count))
      → FetchSteps job before used handed now allow got new
  steps_read got read none held_is reads ready_is taken_is done_is =
      let parts : List JobPart = job.parts in
      let bytes : List ℕ = handed ++ new.held.items in
      let join : handed ++ new.held.items ≡ (handed ++ old.held.items) ++ added = joins fits follow job used handed old is room some_room has_room reads.later new plan_is end_is first_is added held_is in
      let waiting : List ℕ = reads.waiting in
      let ending : FetchEnding = reads.brought.ending in
      let P : List ℕ → Type 0 = λ all. Fetched job.parts reads.later (all ++ reads.waiting) reads.brought.ending [] in
      let fetched : Fetched job.parts reads.later ((handed ++ new.held.items) ++ reads.waiting) reads.brought.ending [] = subst P (sym join) reads.brought.fetched in
      let C : List ℕ → Type 0 = λ all. IsSource job.parts reads.later all new.source in
      let more : IsShort job.parts (handed ++ new.held.items) → IsSource job.parts reads.later (handed ++ new.held.items) new.source =
      (λ short. subst C (sym join) reads.goes_on) in
      let come = decide_come fits job.parts is.is_job.parts reads.later (handed ++ new.held.items) reads.waiting reads.brought.ending fetched new.source more in
      let L : Option Loss → Type 0 = λ lost. HasCome job.parts reads.later (handed ++ new.held.items) lost new.source in
      let is_new : IsFetch job reads.later handed new = stands fits follow job used handed old is room some_room has_room reads.later new plan_is end_is first_is (subst L (sym none) come) in
      let fit_room = plan_room fits follow job used handed old is room some_room has_room in
      let new_ready = plan_ready fits follow job reads.later handed new is_new in
      let bounded : cut job.plan new.ready.first + length new.held.items ≤ cut job.plan (min (new.ready.first + 64) new.end) = new_ready.bounded in
      let same_end : cut job.plan (min (new.ready.first + 64) new.end) ≡ cut job.plan (min (old.ready.first + 64) old.end) = ap (λ (n : ℕ). cut job.plan n) (omega (arith, first_is, end_is)) in
      let same_first : cut job.plan new.ready.first ≡ cut job.plan old.ready.first = ap (cut job.plan) first_is in
      let grown : length new.held.items ≡ length old.held.items + length added = ap length held_is ∙ length-append old.held.items added in
      let waits : (length (new.held.items ++ reads.waiting) ≡ length new.held.items) ⊎ (cut job.plan new.ready.first + length new.held.items ≡ cut job.plan (min (new.ready.first + 64) new.end)) =
      ⊎_elim
      (λ (less : length added < room). inl (ap (λ w. length (new.held.items ++ w)) (reads.none_waits less) ∙ ap length (append-nil new.held.items)))
      (λ (all : room ≤ length added). inr (omega (arith, all, bounded, same_end, same_first, grown, fit_room)))
      (cases_lt (length added) room) in
      let ends_done : got.done ≡ true → reads.brought.ending ≡ Done =
      (λ done. (whole_done fits job.parts is.is_job.parts reads.later (handed ++ new.held.items) reads.waiting reads.brought.ending fetched
      (last_whole fits follow job used handed old is room some_room has_room reads.later new plan_is end_is first_is is_new (done_is.0 done))).0) in
      let wide = top_of fits follow job used handed old is room some_room has_room reads.later new plan_is end_is first_is is_new in
      let reach = reaches fits follow job reads.later handed new is_new in
      let far : (cut job.plan (min (new.ready.first + 64) new.end) ≤ cut job.plan new.ready.first + length new.held.items) → (got.done ≡ true) ⊎ (got.ready.count ≡ 64) =
      (λ reached. far_stops fits follow job used handed old is room some_room has_room reads.later new plan_is end_is first_is is_new got ready_is done_is reached) in
      let stopped_read : (got.done ≡ true) ⊎ IsStopped allow got new.lost =
      (elim reads.full [
        | inl done ↦ or_stopped allow got new.lost (far (let full = (fits job.parts reads.later [] ((handed ++ old.held.items) ++ added) Done is.is_job.parts (reads.done done)).all refl in omega (arith, full, wide, reach.0, reach.1, ap length join)))
        | inr (inl all) ↦ or_stopped allow got new.lost (far (omega (arith, all, bounded, same_end, same_first, grown, fit_room)))
        | inr (inr took) ↦ inr (inr (inl (taken_is ∙ took)))
      ]) in
      record {
        later = reads.later;
        gains = reads.gains;
        is_fetch = is_new;
        came = new.held.items ++ reads.waiting;
        ending = reads.brought.ending;
        fetched = (let Q : List ℕ → Type 0 = λ all. Fetched job.parts reads.later all reads.brought.ending [] in subst Q (append_assoc handed new.held.items reads.waiting) fetched);
        ready = ready_is ∙ shown_ready fits follow job reads.later handed new is_new (new.held.items ++ reads.waiting) (omega (arith, length-append new.held.items reads.waiting)) waits;
        done = ends_done;
        taken = reads.taken ∙ ap (λ n. received_by used + n) (sym taken_is);
        few = (let few : read.taken ≤ allow = reads.few in omega (arith, few, taken_is));
        full = stopped_read;
        lost = λ gone is. elim stopped_read [
          | inl whole ↦ absurd (let both : Done ≡ Lost gone = sym (ends_done whole) ∙ is in cc)
          | inr (inl all) ↦ inr (inl all)
          | inr (inr (inl took)) ↦ inr (inr took)
          | inr (inr (inr held)) ↦ absurd (some_none new.lost none held)
        ];
      }

  -- no more came than was allowed
  few_lost : (later : List Exchange) (taken : ℕ) → received_by later ≡ received_by used + taken → taken ≤ allow → received_by later ≤ received_by used + allow
  few_lost later taken took few = omega (arith, took, few)

  -- a read that lost the rest, but not for want of memory: what stands then
  module _ (loss : Loss) (not_memory : loss ≢ NoMemory) (lost_is : new.lost ≡ Some loss) (held_is : new.held.items ≡ old.held.items ++ added)
      (loses : LosesParts job.parts before used (handed ++ old.held.items) now added allow faults new.source loss) where
    lost_join : handed ++ new.held.items ≡ (handed ++ old.held.items) ++ added
    lost_join = joins fits follow job used handed old is room some_room has_room loses.later new plan_is end_is first_is added held_is

    lost_tells : TellsLoss job.parts loses.later (handed ++ new.held.items) faults loss
    lost_tells = let P : List ℕ → Type 0 = λ all. TellsLoss job.parts loses.later all faults loss in subst P (sym lost_join) loses.tells

    lost_short : IsShort job.parts (handed ++ new.held.items)
    lost_short =
        let told = tells_ending job.parts loses.later (handed ++ new.held.items) faults loss not_memory lost_tells in
        let f : Fits job.parts (handed ++ new.held.items) told.0 = fits job.parts loses.later [] (handed ++ new.held.items) told.0 is.is_job.parts told.2 in
        let few : length (handed ++ new.held.items) ≤ parts_len job.parts = f.few in
        ⊎_elim (λ (less : length (handed ++ new.held.items) < parts_len job.parts). less) (λ (ge : parts_len job.parts ≤ length (handed ++ new.held.items)). absurd (told.1 (f.full (omega (arith, few, ge))))) (cases_lt (length (handed ++ new.held.items)) (parts_len job.parts))

    lost_fetch : IsFetch job loses.later handed new
    lost_fetch =
        let L : Option Loss → Type 0 = λ lost. HasCome job.parts loses.later (handed ++ new.held.items) lost new.source in
        stands fits follow job used handed old is room some_room has_room loses.later new plan_is end_is first_is (subst L (sym lost_is) (lost_short, (faults, lost_tells)))

    lost_ready : new.ready ≡ ready_blocks job.plan job.run (length handed) (length handed + length new.held.items)
    lost_ready = shown_ready fits follow job loses.later handed new lost_fetch new.held.items (omega arith) (inl refl)

    -- blocks are ready
    pub steps_lost : (got : Got) → got.ready ≡ new.ready → got.taken ≡ new.source.taken → (IsTrue got.done ↔ (new.ready.count ≡ (rest_of new).count)) → 0 < new.ready.count
        → FetchSteps job before used handed now allow got new
    steps_lost got ready_is taken_is done_is some =
        let told = tells_ending job.parts loses.later (handed ++ new.held.items) faults loss not_memory lost_tells in
        let short : length (handed ++ new.held.items) < parts_len job.parts = lost_short in
        let same : got.ready.count ≡ new.ready.count = ap (λ (r : Run). r.count) ready_is in
        let few : new.source.taken ≤ allow = loses.few in
        record {
          later = loses.later;
          gains = loses.gains;
          is_fetch = lost_fetch;
          came = new.held.items;
          ending = told.0;
          fetched = told.2;
          ready = ready_is ∙ lost_ready;
          done = λ done. absurd (let whole = last_whole fits follow job used handed old is room some_room has_room loses.later new plan_is end_is first_is lost_fetch (done_is.0 done) in omega (arith, whole, short));
          taken = loses.taken ∙ ap (λ n. received_by used + n) (sym taken_is);
          few = omega (arith, few, taken_is);
          full = inr (inr (inr (let P : Option Loss → Type 0 = IsSome in subst P (sym lost_is) refl)));
          lost = λ gone is. inl (lost_is ∙ ap Some (told.3 gone is));
        }

    -- no block is ready
    pub fails_lost : new.ready.count ≡ 0 → Fails job before used handed now allow loss new
    fails_lost none = record {
      later = loses.later;
      gains = loses.gains;
      is_fetch = lost_fetch;
      more = (let took : received_by loses.later ≡ received_by used + new.source.taken = loses.taken in omega (arith, took));
      few = few_lost loses.later new.source.taken loses.taken loses.few;
      came = new.held.items;
      none_whole = ap (λ (r : Run). r.count) (sym lost_ready) ∙ none;
      count = faults;
      tells = lost_tells;
    }

  -- memory ran out: nothing of what came then is kept
  pub fails_memory : (loss : Loss) → loss ≡ NoMemory → (later : List Exchange) → Gains before now later
      → received_by used ≤ received_by later → received_by later ≤ received_by used + allow → new.lost ≡ Some loss
      → new.held.items ≡ old.held.items → new.ready.count ≡ 0
      → Fails job before used handed now allow loss new
  fails_memory loss memory later gains more few lost_is held_is none =
      let L : Option Loss → Type 0 = λ lost. HasCome job.parts later (handed ++ new.held.items) lost new.source in
      let S : List ℕ → Type 0 = λ items. IsShort job.parts (handed ++ items) in
      let T : Loss → Type 0 = λ loss. TellsLoss job.parts later (handed ++ new.held.items) 0 loss in
      let tells : TellsLoss job.parts later (handed ++ new.held.items) 0 loss = subst T (sym memory) tt in
      let short : IsShort job.parts (handed ++ new.held.items) = subst S (sym held_is) (short_by_room fits follow job used handed old is room some_room has_room) in
      let is_new : IsFetch job later handed new = stands fits follow job used handed old is room some_room has_room later new plan_is end_is first_is (subst L (sym lost_is) (short, (0, tells))) in
      let ready = shown_ready fits follow job later handed new is_new new.held.items (omega arith) (inl refl) in
      record {
        later = later;
        gains = gains;
        is_fetch = is_new;
        more = more;
        few = few;
        came = new.held.items;
        none_whole = ap (λ (r : Run). r.count) (sym ready) ∙ none;
        count = 0;
        tells = tells;
      }

module _ (fits : FetchedFits) (follow : BlocksFollow) (job : Job) (used : List Exchange) (handed : List ℕ) (old : Fetch) (is : IsFetch job used handed old)
    (before now : List Exchange) (gains : Gains before now used) (allow : ℕ) where
  -- the loss that is held back
  pub fails_held : (loss : Loss) → old.lost ≡ Some loss → old.ready.count ≡ 0 → Fails job before used handed now allow loss old
  fails_held loss lost_is none =
      let L : Option Loss → Type 0 = λ lost. HasCome job.parts used (handed ++ old.held.items) lost old.source in
      let came : HasCome job.parts used (handed ++ old.held.items) (Some loss) old.source = subst L lost_is is.came in
      let ready = shown_ready fits follow job used handed old is old.held.items (omega arith) (inl refl) in
      record {
        later = used;
        gains = gains;
        is_fetch = is;
        more = omega arith;
        few = omega arith;
        came = old.held.items;
        none_whole = ap (λ (r : Run). r.count) (sym ready) ∙ none;
        count = came.1.0;
        tells = came.1.1;
      }

  -- nothing is left to read
  pub steps_over : (got : Got) → old.lost ≡ None → old.ready.count ≡ 0 → cut old.plan old.ready.first + vec_len old.held + 0 ≡ cut old.plan (min (old.ready.first + 64) old.end)
      → got.ready ≡ old.ready → got.taken ≡ 0 → (IsTrue got.done ↔ (old.ready.count ≡ (rest_of old).count)) → FetchSteps job before used handed now allow got old
  steps_over got lost_is none no_room ready_is taken_is done_is =
      let ready = plan_ready fits follow job used handed old is in
      let len : vec_len old.held ≡ length old.held.items = old.held.ok.0 in
      let within : old.ready.first + old.ready.count ≤ old.end = old.holds.within in
      let end_within : old.end ≤ blocks_of job.plan.total job.plan.piece_len = (let w = plan_within fits follow job used handed old is in let e = is.end_is in omega (arith, w, e)) in
      let P : Plan → Type 0 = λ plan. cut plan old.ready.first + length old.held.items ≡ cut plan (min (old.ready.first + 64) old.end) in
      let full : cut job.plan old.ready.first + length old.held.items ≡ cut job.plan (min (old.ready.first + 64) old.end) = subst P is.plan_is (omega (arith, len, no_room)) in
      let all : old.ready.first ≡ old.end =
      ⊎_elim
      (λ (less : old.ready.first < old.end).
      let next = (cuts_ordered job.plan (old.ready.first + old.ready.count + 1) (min (old.ready.first + 64) old.end) follow (omega (arith, none, less)) (omega (arith, end_within))).0 in
      let short : cut job.plan old.ready.first + length old.held.items < cut job.plan (old.ready.first + old.ready.count + 1) = ready.most (omega (arith, none, less)) in
      absurd (omega (arith, next, short, full)))
      (λ (ge : old.end ≤ old.ready.first). omega (arith, ge, within))
      (cases_lt old.ready.first old.end) in
      let rest : (rest_of old).count ≡ 0 = omega (arith, all) in
      let at : min (old.ready.first + 64) old.end ≡ old.ready.first = omega (arith, all) in
      let same : cut job.plan (min (old.ready.first + 64) old.end) ≡ cut job.plan old.ready.first = ap (cut job.plan) at in
      let F : List ℕ → Type 0 = λ bytes. Fetched job.parts used bytes Done [] in
      record {
        later = used;
        gains = gains;
        is_fetch = is;
        came = [];
        ending = Done;
        fetched = subst F (sym (append-nil handed)) (is.all rest);
        ready = ready_is ∙ shown_ready fits follow job used handed old is [] (omega (arith, full, same)) (inl (omega (arith, full, same)));
        done = λ _. refl;
        taken = omega (arith, taken_is);
        few = omega (arith, taken_is);
        full = inl (done_is.1 (none ∙ sym rest));
        lost = λ loss is. let both : Done ≡ Lost loss = is in cc;
      }

-- what was handed out is at the front of what the streams tell
pub handed_front : (job : Job) (used : List Exchange) (handed : List ℕ) (fetch : Fetch) → IsFetch job used handed fetch → fetch.lost ≢ Some NoMemory
    → IsFrontOfFetched job.parts used handed
handed_front job used handed fetch is kept = come_front job.parts used handed fetch.held.items fetch.lost fetch.source is.came kept

-- the second buffer came in
pub same_fetch : (job : Job) (used : List Exchange) (handed : List ℕ) (old new : Fetch) → SameButSpare old new → IsFetch job used handed old → IsFetch job used handed new
same_fetch job used handed old new same is =
    let first : new.ready.first ≡ old.ready.first = ap (λ (r : Run). r.first) same.ready in
    let C : Source → Type 0 = λ source. HasCome job.parts used (handed ++ old.held.items) old.lost source in
    let L : Option Loss → Type 0 = λ lost. HasCome job.parts used (handed ++ old.held.items) lost new.source in
    let H : List ℕ → Type 0 = λ items. HasCome job.parts used (handed ++ items) new.lost new.source in
    let begun : job.run.first ≤ old.ready.first = is.begun in
    record {
      is_job = is.is_job;
      plan_is = same.plan ∙ is.plan_is;
      end_is = same.end_is ∙ is.end_is;
      begun = omega (arith, first, begun);
      handed_is = is.handed_is ∙ ap (cut job.plan) (sym first);
      came = subst H (sym (ap (λ v. v.items) same.held)) (subst L (sym same.lost) (subst C (sym same.source) is.came));
      all = λ none. is.all (omega (arith, none, first, same.end_is));
    }

-- the streams are the same after the link was hung up
pub steps_at : (job : Job) (before used : List Exchange) (handed : List ℕ) (now new_now : List Exchange) (allow : ℕ) (got : Got) (new : Fetch) → new_now ≡ now
    → FetchSteps job before used handed now allow got new → FetchSteps job before used handed new_now allow got new
steps_at job before used handed now new_now allow got new same steps =
    let P : List Exchange → Type 0 = λ streams. FetchSteps job before used handed streams allow got new in
    subst P (sym same) steps
