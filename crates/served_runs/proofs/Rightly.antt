-- What comes of a grant over a link whose mirrors serve the payload rightly.
use Rattle.std.proofs.Common.{◌≡◌, ◌⊎◌, ◌+◌, ◌-◌, ◌<◌, ◌≤◌, ◌^◌, ◌++◌, ⊎_elim, ℕ, min, Bool, false, IsTrue, List, [], length, Option, None, Some, refl, sym, ap, subst, ◌∙◌, arith, append_assoc}
use Rattle.std.specs.Prelude.{nat_lt}
use Rattle.std.proofs.lemmas.Bool.{cond-true, lt-ltb, true≢false}
use Rattle.std.proofs.lemmas.Option.{none-some}
use Rattle.conn_worker.specs.Facts.{HasUsed, IsGain, IsProbeEnd, IsReady, TellsRest}
use Rattle.conn_worker.specs.Hands.{Hand, LinkAt, Probing}
use Rattle.conn_worker.specs.declared.hands.Gain.{Gain}
use Rattle.conn_worker.specs.declared.hands.ProbeEnd.{ProbeEnd}
use Rattle.dl_kinds.specs.Plan.{block_end, block_start, blocks_of}
use Rattle.dl_kinds.specs.declared.marks.Mark.{Mark}
use Rattle.dl_kinds.specs.declared.runs.Run.{Run}
use Rattle.dl_kinds.specs.Lists.{part_at}
use Rattle.engine_turns.specs.NextRows.{mirror_url}
use Rattle.engine_turns.specs.Told.{RunTurn}
use Rattle.fetch_session.specs.Blocks.{cut}
use Rattle.link_source.specs.Exchanges.{Exchange}
use Rattle.link_source.specs.Mirrors.{Content}
use Rattle.machine_core.specs.OwnParts.{PayloadLengths}
use Rattle.machine_core.specs.RunLegal.{is_listed}
use Rattle.machine_core.specs.Starts.{Subject, Listed, Unlisted}
use Rattle.memory_serving_laws.specs.Alike.{AnswersKeepMirrors, LeadsAlike, LeadsAmongAlike, LeadsToSizeAlike}
use Rattle.memory_serving_laws.specs.Laws.{CleanMirrorsUseNone, IsRightSoFar, ServedComes}
use Rattle.memory_serving_laws.specs.Serving.{UrlLeadsAmong, used_among}
use Rattle.memory_serving_laws.specs.Sizes.{ServedSizeIsTold}
use Rattle.mirror_payloads.specs.Faithful.{run_bytes}
use Rattle.option_set.specs.Values.{OptionValues}
use Rattle.reply_reader.specs.Losses.{mark_of}
use Rattle.reply_reader.specs.declared.loss.Loss.{Loss}
use Rattle.reply_reader.specs.declared.loss.Loss.TheVariants as losses
use Rattle.request_chain.specs.Links.{CountsLinkLoss}
use Rattle.request_chain.specs.Plans.{FetchEnding, Done, Open}
use Rattle.request_chain.specs.Plans as plans
use Rattle.request_chain.specs.Probes.{Probe}
use Rattle.part_fetches.specs.Fetched.{Fetched}
use Rattle.part_fetches.specs.Losses.{TellsLoss}
use Rattle.part_fetches.specs.Probes.{Probed, TellsProbeLoss}
use Rattle.request_chain.specs.Probes as probes
use Rattle.request_chain.specs.declared.course.TheConstants.{REDIRECT_LIMIT}
use Rattle.span_map.specs.Jobs.{run_end, run_start}
use Rattle.span_map.specs.declared.jobs.Job.{Job}
use Rattle.span_map.specs.declared.jobs.JobPart.{JobPart}
use Rattle.served_runs.specs.ServingLaws.{IsChosenJob, PartsAreGiven, PartsLeadAmong}
use Rattle.served_runs.specs.Serving.{LeadsAmongMirror, ServesAmong, ServesPayload, ServesWhole}
use Rattle.served_runs.proofs.Answered.{StayRight}
use Rattle.served_runs.proofs.Slices.{cut_part}
use Rattle.served_runs.proofs.Working.{LosesFetch, LosesProbe, TakesBlocks, TellsLength}

-- what is used of the libraries below
pub record ServingLaws : Type 0 where
  pub comes : ServedComes
  pub sizes : ServedSizeIsTold
  pub none : CleanMirrorsUseNone
  pub keep : AnswersKeepMirrors
  pub leads : LeadsAlike
  pub lengths : LeadsToSizeAlike
  pub among : LeadsAmongAlike
  pub given : PartsAreGiven
  pub lead : PartsLeadAmong

-- ---- where the mirrors hold the same

serves_alike : ServingLaws → (old new : Content) (subject : Subject) (options : OptionValues) (mirror : ℕ) (payload : List ℕ)
    → new.mirrors ≡ old.mirrors → ServesPayload old subject options mirror payload
    → ServesPayload new subject options mirror payload
serves_alike laws old new (Listed meta uris) options mirror payload same is = record {
  total = is.total;
  laid = is.laid;
  small = is.small;
  leads = λ file some. laws.leads old new REDIRECT_LIMIT _ _ same (is.leads file some);
}
serves_alike laws old new (Unlisted uris) options mirror payload same is = record {
  small = is.small;
  leads = laws.leads old new REDIRECT_LIMIT _ _ same is.leads;
  told = laws.lengths old new REDIRECT_LIMIT _ _ same is.told;
}

among_alike : ServingLaws → (old new : Content) (among : ℕ → Bool) (subject : Subject) (options : OptionValues) (mirror : ℕ)
    → new.mirrors ≡ old.mirrors → LeadsAmongMirror old among subject options mirror
    → LeadsAmongMirror new among subject options mirror
among_alike laws old new among (Listed meta uris) options mirror same leads =
    λ file some. laws.among old new among _ same (leads file some)
among_alike laws old new among (Unlisted uris) options mirror same leads = laws.among old new among _ same leads

-- ---- losses

abbrev count_in : Option Mark → ℕ
count_in None = 0
count_in (Some mark) = mark.count

-- the mark of a failed link has its count, which rose
link_counted : (since now count : ℕ) (mark : Mark) → mark_of (losses.Link count) ≡ Some mark
    → CountsLinkLoss since now (losses.Link count) → 0 < mark.count
link_counted since now count mark is counts =
    let same : count ≡ mark.count = ap count_in is in
    let r = counts count refl in
    let rose : min (since + 1) (2 ^ 64 - 1) ≤ now = r.0 in
    let now_is : count ≡ now = r.1 in
    omega (arith, same, rose, now_is)

-- what the exchanges tell of a fetch is lost by a failed link alone, where they lose nothing
fetch_counted : (parts : List JobPart) (used : List Exchange) (came : List ℕ) (faults since now : ℕ) (loss : Loss) (mark : Mark)
    → mark_of loss ≡ Some mark → CountsLinkLoss since now loss
    → ((other : Loss) → Fetched parts used came (plans.Lost other) [] → ⊥)
    → TellsLoss parts used came faults loss → 0 < mark.count
fetch_counted parts used came faults since now (losses.Link count) mark is counts none tells =
    link_counted since now count mark is counts
fetch_counted parts used came faults since now losses.NoMemory mark is counts none tells = absurd (none-some mark is)
fetch_counted parts used came faults since now loss mark is counts none tells = absurd (none loss tells)

probe_counted : (url : List ℕ) (used : List Exchange) (faults since now : ℕ) (loss : Loss) (mark : Mark)
    → mark_of loss ≡ Some mark → CountsLinkLoss since now loss
    → ((other : Loss) → Probed url used (probes.Lost other) → ⊥)
    → TellsProbeLoss url used faults loss → 0 < mark.count
probe_counted url used faults since now (losses.Link count) mark is counts none tells =
    link_counted since now count mark is counts
probe_counted url used faults since now losses.NoMemory mark is counts none tells = absurd (none-some mark is)
probe_counted url used faults since now loss mark is counts none tells = absurd (none loss tells)

-- ---- over a link whose mirrors serve

module _ (laws : ServingLaws) (tells : Bool) (told : IsTrue tells) (first : LinkAt) (subject : Subject)
    (options : OptionValues) (mirror : ℕ) (payload : List ℕ) (serves : ServesAmong first.state.content subject options mirror payload) where
  -- the mirrors of this link hold the same, and none of these used a bad answer meanwhile
  abbrev pub IsRight : LinkAt → Type 0
  IsRight link = StayRight serves.among first.state.content link.state.content

  -- what came since the grant is right
  pub came_right : (lengths : PayloadLengths) (run : Run) (job : Job) (since now : LinkAt) (used : List Exchange)
      (came : List ℕ) (ending : FetchEnding) → lengths.total ≡ length payload
      → IsChosenJob options lengths subject mirror run job → IsRight since → IsRight now
      → HasUsed tells since used now → Fetched job.parts used came ending []
      → IsRightSoFar (run_bytes lengths payload run) came ending
  came_right lengths run job since now used came ending total is at on has fetched =
      let same : used_among serves.among now.state.content ≡ used_among serves.among since.state.content =
      on.none_used ∙ sym at.none_used in
      ⊎_elim (λ (right : IsRightSoFar (run_bytes lengths payload run) came ending). right)
      (λ (more : used_among serves.among since.state.content < used_among serves.among now.state.content).
      absurd (omega (arith, more, same)))
      (laws.comes since.state.content now.state used serves.among job.parts (run_bytes lengths payload run) came ending
      (record { before = since.state.exchanges; answered = has.answered told; gains = has.gained told })
      (laws.given since.state.content subject options mirror payload lengths run job
      (serves_alike laws first.state.content since.state.content subject options mirror payload at.mirrors serves.serves) total is)
      (laws.lead since.state.content serves.among subject options mirror lengths run job
      (among_alike laws first.state.content since.state.content serves.among subject options mirror at.mirrors serves.leads) is)
      fetched)

  not_lost : (bytes came : List ℕ) (loss : Loss) → IsRightSoFar bytes came (plans.Lost loss) → ⊥
  not_lost bytes came loss right = ⊎_elim (λ (open_is : plans.Lost loss ≡ Open). let no = open_is in cc)
      (λ (done : (plans.Lost loss ≡ Done) × _). let no : plans.Lost loss ≡ Done = done.0 in cc) right.on

  -- ---- losses

  pub right_loss : (turns : List RunTurn) (hand : Hand) (now : LinkAt) (claim : ℕ) (mark : Mark)
      (l : LosesFetch tells first turns hand now claim mark) (lengths : PayloadLengths) → lengths.total ≡ length payload
      → (whole : Run) → IsChosenJob options lengths subject mirror whole l.f.job → IsRight l.f.since → IsRight now → 0 < mark.count
  right_loss turns hand now claim mark l lengths total whole is at on =
      let gain = subst (λ (g : Gain). IsGain tells l.f now g) l.gain l.at.gain in
      let rest : TellsRest l.f.job l.f.used l.f.handed l.loss = gain.2 told in
      fetch_counted l.f.job.parts l.f.used (l.f.handed ++ rest.came) rest.count l.f.since.faults now.faults l.loss mark
      gain.0 gain.1
      (λ other fetched. not_lost (run_bytes lengths payload whole) (l.f.handed ++ rest.came) other
      (came_right lengths whole l.f.job l.f.since now l.f.used (l.f.handed ++ rest.came) (plans.Lost other)
      total is at on l.at.carried.used fetched))
      rest.tells

-- ---- blocks

-- where the bytes of a claim's run begin with those that were delivered and these, these are the bytes of their run
module _ (tells : Bool) (first : LinkAt) (subject : Subject) (options : OptionValues) (mirror : ℕ) (payload : List ℕ)
    (turns : List RunTurn) (hand : Hand)
    (now : LinkAt) (claim : ℕ) (run : Run) (bytes : List ℕ) (b : TakesBlocks tells first turns hand now claim run bytes)
    (lengths : PayloadLengths) (whole : Run) (is : IsChosenJob options lengths subject mirror whole b.f.job) (rest : List ℕ)
    (begun : run_bytes lengths payload whole ≡ (b.f.handed ++ bytes) ++ rest) where
  ready : IsReady b.f run bytes b.last
  ready = (subst (λ (g : Gain). IsGain tells b.f now g) b.gain b.at.gain).0

  first_within : run.first < blocks_of b.f.job.plan.total b.f.job.plan.piece_len
  first_within =
      let some = b.at.some in
      let end = b.at.carried.end in
      let within = is.of.sound.within in
      let place = ready.first in
      omega (arith, some, end, within, place)

  -- the run begins where what was handed out before ends
  begins : run_start b.f.job.plan b.f.job.run + length b.f.handed ≡ run_start b.f.job.plan run
  begins = b.at.carried.place ∙ (ap (cut b.f.job.plan) (sym ready.first)
      ∙ cond-true (nat_lt run.first (blocks_of b.f.job.plan.total b.f.job.plan.piece_len))
      (block_start b.f.job.plan.piece_len run.first) b.f.job.plan.total
      (lt-ltb run.first (blocks_of b.f.job.plan.total b.f.job.plan.piece_len) first_within))

  long : length bytes ≡ run_end b.f.job.plan run - run_start b.f.job.plan run
  long = let len = ready.len in omega (arith, len)

  -- by the lengths of the payload
  begins_by : block_start lengths.piece_len whole.first + length b.f.handed ≡ block_start lengths.piece_len run.first
  begins_by = subst (λ (n : ℕ). block_start n whole.first + length b.f.handed ≡ block_start n run.first) is.of.piece_len
      (subst (λ (r : Run). block_start b.f.job.plan.piece_len r.first + length b.f.handed
      ≡ block_start b.f.job.plan.piece_len run.first) is.of.run_is begins)

  long_by : length bytes
      ≡ block_end lengths.total lengths.piece_len (run.first + run.count - 1) - block_start lengths.piece_len run.first
  long_by = long ∙ (λ i. block_end (is.of.total i) (is.of.piece_len i) (run.first + run.count - 1)
      - block_start (is.of.piece_len i) run.first)

  pub right_blocks : bytes ≡ run_bytes lengths payload run
  right_blocks =
      cut_part payload b.f.handed bytes rest (block_start lengths.piece_len whole.first)
      (block_end lengths.total lengths.piece_len (whole.first + whole.count - 1) - block_start lengths.piece_len whole.first)
      (begun ∙ append_assoc b.f.handed bytes rest) ∙ (λ i. part_at payload (begins_by i) (long_by i))

-- ---- a probe

told_or_due : {P : Type 0} (size : ℕ) (loss : Loss) → (probes.Lost loss ≡ probes.Due) ⊎ (probes.Lost loss ≡ probes.Told size) → P
told_or_due size loss is = ⊎_elim (λ (due : probes.Lost loss ≡ probes.Due). absurd (let no = due in cc))
    (λ (told : probes.Lost loss ≡ probes.Told size). absurd (let no = told in cc)) is

-- what is asked of a mirror of a download without a metainfo file
whole_of : (content : Content) (subject : Subject) (options : OptionValues) (mirror : ℕ) (payload : List ℕ)
    → is_listed subject ≡ false → ServesPayload content subject options mirror payload → ServesWhole content (mirror_url subject mirror) payload
whole_of content (Listed meta uris) options mirror payload unlisted is = absurd (true≢false unlisted)
whole_of content (Unlisted uris) options mirror payload unlisted is = is

whole_among : (content : Content) (among : ℕ → Bool) (subject : Subject) (options : OptionValues) (mirror : ℕ)
    → is_listed subject ≡ false → LeadsAmongMirror content among subject options mirror → UrlLeadsAmong content among (mirror_url subject mirror)
whole_among content among (Listed meta uris) options mirror unlisted leads = absurd (true≢false unlisted)
whole_among content among (Unlisted uris) options mirror unlisted leads = leads

module _ (laws : ServingLaws) (tells : Bool) (told : IsTrue tells) (first : LinkAt) (subject : Subject)
    (options : OptionValues) (mirror : ℕ) (payload : List ℕ) (unlisted : is_listed subject ≡ false)
    (serves : ServesAmong first.state.content subject options mirror payload)
  where
    -- what a probe tells over the link is the length, or more is due
    probed_right : (p : Probing) (now : LinkAt) (probe : Probe) → StayRight serves.among first.state.content p.since.state.content
        → StayRight serves.among first.state.content now.state.content → HasUsed tells p.since p.used now
        → p.url ≡ mirror_url subject mirror → Probed p.url p.used probe
        → (probe ≡ probes.Due) ⊎ (probe ≡ probes.Told (length payload))
    probed_right p now probe at on has url_is probed =
        let since = p.since.state.content in
        let same : used_among serves.among now.state.content ≡ used_among serves.among since = on.none_used ∙ sym at.none_used in
        let there = whole_of since subject options mirror payload unlisted
        (serves_alike laws first.state.content since subject options mirror payload at.mirrors serves.serves) in
        let leads = whole_among since serves.among subject options mirror unlisted
        (among_alike laws first.state.content since serves.among subject options mirror at.mirrors serves.leads) in
        ⊎_elim (λ (so : (probe ≡ probes.Due) ⊎ (probe ≡ probes.Told (length payload))). so)
        (λ (more : used_among serves.among since < used_among serves.among now.state.content). absurd (omega (arith, more, same)))
        (laws.sizes since now.state p.used serves.among (mirror_url subject mirror) (length payload) probe
        (record { before = p.since.state.exchanges; answered = has.answered told; gains = has.gained told })
        there.told leads (subst (λ (u : List ℕ). Probed u p.used probe) url_is probed))

    pub right_probe : (turns : List RunTurn) (hand : Hand) (now : LinkAt) (claim : ℕ) (mark : Mark)
        (l : LosesProbe tells first turns hand now claim mark) → l.p.url ≡ mirror_url subject mirror
        → StayRight serves.among first.state.content l.p.since.state.content
        → StayRight serves.among first.state.content now.state.content → 0 < mark.count
    right_probe turns hand now claim mark l url_is at on =
        let end = subst (λ (e : ProbeEnd). IsProbeEnd tells l.p now e) l.end l.holds.at.end in
        probe_counted l.p.url l.p.used now.faults l.p.since.faults now.faults l.loss mark end.0 end.1
        (λ other probed. told_or_due (length payload) other
        (probed_right l.p now (probes.Lost other) at on l.holds.at.used url_is probed))
        (end.2 told)

    pub right_length : (turns : List RunTurn) (hand : Hand) (now : LinkAt) (claim total : ℕ)
        (l : TellsLength tells first turns hand now claim total) → l.p.url ≡ mirror_url subject mirror
        → StayRight serves.among first.state.content l.p.since.state.content
        → StayRight serves.among first.state.content now.state.content → total ≡ length payload
    right_length turns hand now claim total l url_is at on =
        let end = subst (λ (e : ProbeEnd). IsProbeEnd tells l.p now e) l.end l.holds.at.end in
        ⊎_elim (λ (due : probes.Told total ≡ probes.Due). absurd (let no = due in cc))
        (λ (same : probes.Told total ≡ probes.Told (length payload)). (let is = same in cc))
        (probed_right l.p now (probes.Told total) at on l.holds.at.used url_is (end told))
