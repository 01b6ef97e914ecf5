-- What every answer gives.
use Rattle.std.proofs.Common.{◌≡◌, ◌≤◌, ◌++◌, ◌∷◌, ℕ, zero, suc, Bool, true, false, List, [], Option, Some, None, map, refl, sym, ap, subst, ◌∙◌, ⊎_elim, arith, if◌then◌else◌}
use Rattle.std.proofs.lemmas.Bool.{leb-true}
use Rattle.dl_kinds.specs.declared.claims.Claim.{Claim}
use Rattle.dl_kinds.specs.declared.gid.Gid.{Gid}
use Rattle.dl_queue.specs.declared.kinds.Added.{Added}
use Rattle.machine_core.specs.Offers.{Credit, gid_credit}
use Rattle.machine_core.specs.Replays.{queue_in}
use Rattle.machine_core.specs.RunLegal.{is_listed}
use Rattle.machine_core.specs.Starts.{Download}
use Rattle.machine_core.specs.declared.events.Event.{Event}
use Rattle.machine_core.specs.declared.offers.Offer.{Offer}
use Rattle.machine_core.specs.declared.offers.Offer.TheVariants.{Whole, Blocks, Probe}
use Rattle.rate_limits.specs.Shared.{RunLevels}
use Rattle.engine_turns.specs.ClaimRows.{DeliverRow, LoseRow, MoreRow, SizedRow, more_said, turn_credit}
use Rattle.engine_turns.specs.NextRows.{NextRow, OfferRow, offers_in, whole_row}
use Rattle.engine_turns.specs.Phases.{TurnStart}
use Rattle.engine_turns.specs.RunTurns.{IsAnswered, OperationRow}
use Rattle.engine_turns.specs.Standings.{AnswersOnly, AnswersUnlessStarved, OfClaim, RunStanding, levels_in}
use Rattle.engine_turns.specs.declared.operations.Operation.{Operation}
use Rattle.engine_turns.specs.declared.operations.Operation.TheVariants as operation
use Rattle.engine_turns.specs.declared.operations.Said.{Said}
use Rattle.engine_turns.specs.declared.operations.Said.TheVariants.{Finished, JournalFull}
use Rattle.engine_turns.specs.declared.outcome.Outcome.{Outcome}
use Rattle.engine_turns.specs.declared.outcome.Outcome.TheVariants.{Went, Over, Starved}
use Rattle.machine_core.specs.declared.offers.Offered.TheVariants as offered
use Rattle.conn_worker.specs.Sound.{AnswersAreSound, IsSoundAnswer}

is_sound : (usual said : Said) → IsSoundAnswer usual → said ≡ usual → IsSoundAnswer said
is_sound usual said sound is = let P : Said → Type 0 = λ s. IsSoundAnswer s in subst P (sym is) sound

only_sound : (usual : Said) (events : List Event) (said : Said) → IsSoundAnswer usual → AnswersOnly usual events said
    → IsSoundAnswer said
only_sound usual events said sound is = is_sound usual said sound is.1

unless_starved : (usual : Said) (outcome : Outcome) (said : Said) → IsSoundAnswer usual
    → AnswersUnlessStarved usual outcome said → IsSoundAnswer said
unless_starved usual Went said sound is = is_sound usual said sound is
unless_starved usual Over said sound is = is_sound usual said sound is
unless_starved usual Starved said sound is = is_sound _ said tt is

-- ---- credits

credit_is : (gids : List Gid) (added : List Added) (levels : RunLevels) (now : ℕ) (before : List Credit) (c : Credit)
    (behind : List Credit) → map (gid_credit added levels now) gids ≡ before ++ c ∷ behind
    → c ≡ gid_credit added levels now c.gid
credit_is [] added levels now [] c behind e = (let n : ◌≡◌ {A = List Credit} [] (c ∷ behind) = e in cc)
credit_is [] added levels now (b ∷ before) c behind e =
    (let n : ◌≡◌ {A = List Credit} [] (b ∷ (before ++ c ∷ behind)) = e in cc)
credit_is (g ∷ gids) added levels now [] c behind e =
    let both : gid_credit added levels now g ∷ map (gid_credit added levels now) gids ≡ c ∷ behind = e in
    let is : gid_credit added levels now g ≡ c = cc in
    subst (λ (x : Credit). x ≡ gid_credit added levels now x.gid) is refl
credit_is (g ∷ gids) added levels now (b ∷ before) c behind e =
    let both : gid_credit added levels now g ∷ map (gid_credit added levels now) gids ≡ b ∷ (before ++ c ∷ behind) = e in
    let rest : map (gid_credit added levels now) gids ≡ before ++ c ∷ behind = cc in
    credit_is gids added levels now before c behind rest

-- blocks are offered only where a byte is let go
blocks_afford : (at : TurnStart) (s : RunStanding) (gid : Gid) (mirror : ℕ) (run : _) (victim : Option ℕ)
    → offers_in at s (offered.Next gid (Blocks mirror run victim)) → 1 ≤ (turn_credit at s gid).bytes
blocks_afford at s gid mirror run victim is =
    let queue = queue_in at.start s.past in
    let same = credit_is queue.active queue.added (levels_in s) at.now.0 is.before is.credit is.behind is.cut in
    let some : 1 ≤ is.credit.bytes = leb-true 1 is.credit.bytes is.afforded in
    let bytes : is.credit.bytes ≡ (turn_credit at s gid).bytes =
    ap (λ (c : Credit). c.bytes) same
    ∙ ap (λ (g : Gid). (gid_credit queue.added (levels_in s) at.now.0 g).bytes) is.gid_is in
    omega (arith, some, bytes)

-- ---- rows

whole_sound : (at : TurnStart) (s : RunStanding) (download : Download) (piece : ℕ) (listed : Bool)
    (events : List Event) (said : Said) → whole_row at s download piece listed events said → IsSoundAnswer said
whole_sound at s download piece true events said row =
    ⊎_elim (λ hash. only_sound _ events said tt hash.is)
    (⊎_elim (λ faulted. is_sound _ said tt faulted.1) (λ starved. only_sound _ events said tt starved)) row
whole_sound at s download piece false events said row = unless_starved _ row.0 said tt row.2

offer_sound : (at : TurnStart) (s : RunStanding) (worker : ℕ) (download : Download) (offer : Offer)
    (events : List Event) (said : Said) → offers_in at s (offered.Next download.gid offer)
    → OfferRow at s worker download offer events said → IsSoundAnswer said
offer_sound at s worker download (Whole piece) events said is row =
    whole_sound at s download piece (is_listed download.subject) events said row
offer_sound at s worker download (Blocks mirror run victim) events said is row =
    let some = blocks_afford at s download.gid mirror run victim is in
    let allow = row.allow_is in
    is_sound _ said (row.job_is.sound, omega (arith, some, allow)) row.is
offer_sound at s worker download (Probe mirror) events said is row = is_sound _ said tt row.is

next_sound : (at : TurnStart) (s : RunStanding) (worker : ℕ) (events : List Event) (said : Said)
    → NextRow at s worker events said → IsSoundAnswer said
next_sound at s worker events said row =
    ⊎_elim (λ opening.
    ⊎_elim (λ clashed. is_sound _ said tt clashed.3) (λ opened. unless_starved _ opened.1.0 said tt opened.1.2)
    opening.row)
    (λ other.
    ⊎_elim (λ given. offer_sound at s worker given.download given.offer events said given.is given.row)
    (⊎_elim (λ held. only_sound _ events said tt held.2) (λ idle. only_sound _ events said tt idle.1))
    other.1) row

more_sound : (at : TurnStart) (s : RunStanding) (gid : Gid) (want credit : ℕ) → credit ≡ (turn_credit at s gid).bytes
    → IsSoundAnswer (more_said at s gid want credit)
more_sound at s gid zero credit is = tt
more_sound at s gid (suc want) zero is = tt
more_sound at s gid (suc want) (suc credit) is = omega (arith, is)

of_claim : (at : TurnStart) (s : RunStanding) (id : ℕ) (Row : Download → Claim → List Event → Said → Type 0)
    (events : List Event) (said : Said)
    → ((download : Download) (claim : Claim) → Row download claim events said → IsSoundAnswer said)
    → OfClaim at s id Row events said → IsSoundAnswer said
of_claim at s id Row events said sound row =
    ⊎_elim (λ none. only_sound _ events said tt none.1) (λ of. sound of.0 of.1 of.3) row

row_sound : (at : TurnStart) (s : RunStanding) (op : Operation) (events : List Event) (said : Said)
    → OperationRow at s op events said → IsSoundAnswer said
row_sound at s (operation.Call session call now) events said row = is_sound _ said tt row.answer
row_sound at s (operation.Next worker now) events said row = next_sound at s worker events said row
row_sound at s (operation.Deliver claim run bytes now) events said row =
    of_claim at s claim (DeliverRow at s run bytes) events said
    (λ download c kept. ⊎_elim (λ is. unless_starved _ is.1.outcome said tt is.1.answer)
    (λ none. only_sound _ events said tt none.1) kept) row
row_sound at s (operation.More claim want now) events said row =
    of_claim at s claim (MoreRow at s want) events said
    (λ download c more. only_sound _ events said (more_sound at s download.gid want _ refl) more) row
row_sound at s (operation.Lose claim mark now) events said row =
    of_claim at s claim (LoseRow at s mark) events said (λ download c lost. is_sound _ said tt lost.2) row
row_sound at s (operation.Sized claim total now) events said row =
    of_claim at s claim (SizedRow at s total) events said
    (λ download c sized. ⊎_elim (λ told. is_sound _ said tt told.1.2) (λ none. only_sound _ events said tt none.1)
    sized) row
row_sound at s (operation.Seal gid sealed now) events said row =
    ⊎_elim (λ none. only_sound _ events said tt none) (λ settled. unless_starved _ settled.1.outcome said tt settled.1.answer)
    row
row_sound at s operation.Pulse events said row = only_sound _ events said tt row
row_sound at s (operation.Notices from) events said row = is_sound _ said tt row.1
row_sound at s operation.Leave events said row = is_sound _ said tt row.1
row_sound at s (operation.Stop now) events said row = unless_starved _ row.outcome said tt row.answer

answered_sound : (at : TurnStart) (s : RunStanding) (op : Operation) (events : List Event) (said : Said) (x y : Bool)
    (n : ℕ) → IsAnswered at s op events said (if x then Some Finished else (if y then Some (JournalFull n) else None))
    → IsSoundAnswer said
answered_sound at s op events said true y n is = only_sound _ events said tt is
answered_sound at s op events said false true n is = only_sound _ events said tt is
answered_sound at s op events said false false n is =
    ⊎_elim (λ starved. only_sound _ events said tt starved.1) (λ row. row_sound at s op events said row) is

pub answers_sound : AnswersAreSound
answers_sound start told t may = answered_sound _ _ t.op t.events t.answer.said _ _ _ may.answered
