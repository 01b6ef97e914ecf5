-- A call of a chain, by its steps.
use Rattle.std.proofs.Common.{◌≡◌, ℕ, ◌+◌, ◌≤◌, Bool, true, false, List, [], ◌++◌, length, refl, sym, subst, ◌∙◌, inl, inr, arith, append_assoc, MatchResult}
use Rattle.std.proofs.lemmas.Bool.{cases_Bool}
use Rattle.std.specs.Prelude.{◌⊎◌, Result, Ok, Err}
use Rattle.link_source.specs.Exchanges.{Exchange}
use Rattle.span_map.specs.declared.jobs.JobPart.{JobPart}
use Rattle.reply_reader.specs.Answers.{Lost}
use Rattle.reply_reader.specs.declared.loss.Loss.{Loss}
use Rattle.reply_reader.specs.declared.loss.Loss.TheVariants as losses
use Rattle.request_chain.specs.Chains.{Gains, received_by, IsChain, HasBrought, TellsLoss, ReadsChain, Loses}
use Rattle.request_chain.specs.Courses.{plan_now, IsAsking}
use Rattle.request_chain.specs.Fetched.{FetchedBy, Fetched}
use Rattle.request_chain.specs.Plans.{NextAsk, Ask, Over, Done}
use Rattle.request_chain.specs.Stages.{IsReading, IsAwaited, IsReadingHead, IsBehindHead, IsNoHeadAt}
use Rattle.request_chain.specs.Turns.{Steps, StepLoses}
use Rattle.request_chain.specs.declared.chain.Chain.{Chain}
use Rattle.request_chain.specs.declared.course.Course.{Course}
use Rattle.request_chain.specs.declared.stage.Stage.{Stage}
use Rattle.request_chain.specs.declared.stage.Stage.TheVariants.{Asking, Unheard, Head as InHead, Content as InContent}
use Rattle.request_chain.proofs.Leading.{leads_end}
use Rattle.request_chain.proofs.ReadingLemmas.{HasAnswer, none_answer, answer_lost}

-- bytes were received and read on
pub read_steps : (parts : List JobPart) (before used later new : List Exchange) (bytes added : List ℕ) (was faults : ℕ) (chain : Chain) (r : Result (Unit {0}) Loss)
    → Gains before new later → received_by later + was ≡ received_by used + chain.taken
    → MatchResult r (λ _. IsChain parts later (bytes ++ added) chain) (λ loss. (count : ℕ) → TellsLoss parts later (bytes ++ added) count loss)
    → MatchResult r (λ _. Steps parts before used bytes new added was chain) (StepLoses parts before used bytes new added was faults chain)
read_steps parts before used later new bytes added was faults chain (Ok x) gains taken is = record { later = later; gains = gains; taken_is = taken; chain_is = is }
read_steps parts before used later new bytes added was faults chain (Err loss) gains taken is = record { later = later; gains = gains; taken_is = taken; tells = is faults }

-- steps, and a last one that lost the rest
pub steps_lose : (parts : List JobPart) (before used now new : List Exchange) (bytes added more : List ℕ) (allow faults : ℕ) (chain next : Chain) (loss : Loss)
    → (steps : Steps parts before used bytes now added 0 chain) → StepLoses parts before steps.later (bytes ++ added) new more chain.taken faults next loss
    → next.taken ≤ allow → Loses parts before used bytes new (added ++ more) allow faults next loss
steps_lose parts before used now new bytes added more allow faults chain next loss steps lost few =
    let P : List ℕ → Type 0 = λ came. TellsLoss parts lost.later came faults loss in
    record {
      later = lost.later;
      gains = lost.gains;
      taken = omega (arith, steps.taken_is, lost.taken_is);
      few = few;
      tells = subst P (append_assoc bytes added more) lost.tells;
    }

-- no head can come, whatever waits
none_waiting : (parts : List JobPart) (used : List Exchange) (course : Course) (waiting bytes : List ℕ) (stage : Stage) → IsReading stage course waiting parts used bytes
    → IsBehindHead stage waiting → IsNoHeadAt stage → HasAnswer parts used course bytes false (Lost losses.BadReply)
none_waiting parts used course waiting bytes Asking reading behind none = absurd none
none_waiting parts used course waiting bytes (InContent content) reading behind none = absurd none
none_waiting parts used course waiting bytes (Unheard reader) reading behind none =
    let P : List ℕ → Type 0 = λ w. IsAwaited parts used course w bytes reader in
    none_answer parts used course bytes (Unheard reader) false (subst P behind reading) none
none_waiting parts used course waiting bytes (InHead reader) reading behind none =
    let P : List ℕ → Type 0 = λ w. IsReadingHead parts used course w bytes reader in
    none_answer parts used course bytes (InHead reader) false (subst P behind reading) none

-- steps, and a head that can't come behind them
pub unchecked_loses : (parts : List JobPart) (before used now : List Exchange) (bytes added : List ℕ) (allow faults : ℕ) (chain : Chain) (loss : Loss)
    → Steps parts before used bytes now added 0 chain → ((loss ≡ losses.NoMemory) ⊎ ((loss ≡ losses.BadReply) × IsNoHeadAt chain.stage))
    → chain.taken ≤ allow → Loses parts before used bytes now added allow faults chain loss
unchecked_loses parts before used now bytes added allow faults chain loss steps lost few =
    let P : Loss → Type 0 = λ l. Loses parts before used bytes now added allow faults chain l in
    let told : (l : Loss) → TellsLoss parts steps.later (bytes ++ added) faults l → P l =
    λ l tells. record { later = steps.later; gains = steps.gains; taken = omega (arith, steps.taken_is); few = few; tells = tells } in
    elim lost [
      | inl room ↦ subst P (sym room) (told losses.NoMemory tt)
      | inr none ↦ subst P (sym none.0) (told losses.BadReply (answer_lost parts steps.later chain.course (bytes ++ added) losses.BadReply
          (none_waiting parts steps.later chain.course chain.room.inbox (bytes ++ added) chain.stage steps.chain_is.reading steps.chain_is.behind none.1)))
    ]

-- it tells that all came
abbrev Ended : NextAsk → Type 0
Ended plan = FetchedBy plan [] [] Done []

-- all came
pub all_came : (parts : List JobPart) (used : List Exchange) (course : Course) (waiting bytes : List ℕ) (stage : Stage) → plan_now course ≡ Over Done
    → IsReading stage course waiting parts used bytes → (waiting ≡ []) × Fetched parts used bytes Done []
all_came parts used course waiting bytes Asking over reading =
    (reading.1, leads_end parts used bytes (plan_now course) Done reading.0 (subst (λ (p : NextAsk). Ended p) (sym over) (refl, refl, refl)))
all_came parts used course waiting bytes (Unheard reader) over reading =
    let both : Ask reading.sent.part reading.sent.others reading.sent.url reading.sent.count reading.sent.status ≡ Over Done = sym reading.sent.asks ∙ over in cc
all_came parts used course waiting bytes (InHead reader) over reading =
    let both : Ask reading.sent.part reading.sent.others reading.sent.url reading.sent.count reading.sent.status ≡ Over Done = sym reading.sent.asks ∙ over in cc
all_came parts used course waiting bytes (InContent content) over reading =
    let both : Ask reading.sent.part reading.sent.others reading.sent.url reading.sent.count reading.sent.status ≡ Over Done = sym reading.sent.asks ∙ over in cc

-- asked next is something, or all came
asking_over : (plan : NextAsk) → plan ≡ Over Done → IsAsking plan → ⊥
asking_over plan is asking = let P : NextAsk → Type 0 = IsAsking in subst P is asking

-- steps that are all of a call
pub call_reads : (parts : List JobPart) (before used now new : List Exchange) (bytes added : List ℕ) (room allow gained : ℕ) (chain : Chain) (done : Bool)
    → (steps : Steps parts before used bytes now added 0 chain) → new ≡ now → chain.taken ≤ allow → length added ≤ room → gained ≡ length added
    → ((plan_now chain.course ≡ Over Done) ⊎ ((room ≤ gained) ⊎ ((allow ≤ chain.taken) × (chain.room.inbox ≡ []))))
    → (done ≡ true → plan_now chain.course ≡ Over Done) → (done ≡ false → IsAsking (plan_now chain.course))
    → (more : List ℕ) × HasBrought parts steps.later (bytes ++ added) more × (chain.room.inbox ≡ [] → more ≡ [])
    → ReadsChain parts before used bytes new added room allow (record { taken = chain.taken; done = done }) chain
call_reads parts before used now new bytes added room allow gained chain done steps same few within gain stopped over asking brought =
    let P : List Exchange → Type 0 = λ streams. Gains before streams steps.later in
    let came : plan_now chain.course ≡ Over Done → (chain.room.inbox ≡ []) × Fetched parts steps.later (bytes ++ added) Done [] =
    λ is. all_came parts steps.later chain.course chain.room.inbox (bytes ++ added) chain.stage is steps.chain_is.reading in
    record {
      later = steps.later;
      gains = subst P (sym same) steps.gains;
      waiting = brought.0;
      brought = brought.1;
      none_waits = λ short. brought.2 (elim stopped [
        | inl is ↦ (came is).0
        | inr (inl full) ↦ absurd (omega (arith, full, gain, short))
        | inr (inr used_up) ↦ used_up.1
      ]);
      taken = omega (arith, steps.taken_is);
      few = few;
      full = elim stopped [
        | inl is ↦ elim (cases_Bool done) [
          | inl over_now ↦ inl over_now
          | inr going ↦ absurd (asking_over (plan_now chain.course) is (asking going))
        ]
        | inr (inl full) ↦ inr (inl (omega (arith, full, gain, within)))
        | inr (inr used_up) ↦ inr (inr (omega (arith, used_up.0, few)))
      ];
      goes_on = inr steps.chain_is;
      done = λ is. (came (over is)).1;
    }
