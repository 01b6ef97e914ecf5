-- What a turn appends, by its operation and answer.
use Rattle.std.proofs.Common.{◌≡◌, ◌≢◌, ◌⊎◌, inl, inr, ◌≤◌, ◌+◌, ◌∷◌, ℕ, zero, suc, Bool, true, false, List, [], length, Some, None, refl, ap, ◌∙◌, ⊎_elim, arith, length-append, if◌then◌else◌}
use Rattle.dl_kinds.specs.declared.claims.Claim.{Claim}
use Rattle.dl_kinds.specs.declared.gid.Gid.{Gid}
use Rattle.dl_kinds.specs.declared.marks.Mark.{Mark}
use Rattle.dl_kinds.specs.declared.runs.Run.{Run}
use Rattle.machine_core.specs.RunLegal.{is_listed}
use Rattle.machine_core.specs.Starts.{Download}
use Rattle.machine_core.specs.declared.events.Event.{Event}
use Rattle.machine_core.specs.declared.offers.Offer.{Offer}
use Rattle.machine_core.specs.declared.offers.Offer.TheVariants.{Whole, Blocks, Probe}
use Rattle.engine_turns.specs.ClaimRows.{DeliverRow, LoseRow, MoreRow, SizedRow, more_said, turn_credit}
use Rattle.engine_turns.specs.NextRows.{NextRow, OfferRow, OpenRow, whole_row}
use Rattle.engine_turns.specs.Phases.{AfterDisk, AndThen, FindingPhase, JustEvent, OpeningPhase, Phase, SettlingPhase, TurnStart}
use Rattle.engine_turns.specs.RunTurns.{IsAnswered, OperationRow}
use Rattle.engine_turns.specs.SealRows.{SealPhase, SealRow}
use Rattle.engine_turns.specs.Standings.{AnswersUnlessStarved, OfClaim, RunStanding}
use Rattle.engine_turns.specs.declared.operations.Grant.TheVariants as grant
use Rattle.engine_turns.specs.declared.operations.Operation.{Operation}
use Rattle.engine_turns.specs.declared.operations.Said.{Said}
use Rattle.engine_turns.specs.declared.operations.Said.TheVariants as said
use Rattle.engine_turns.specs.declared.outcome.Outcome.{Outcome}
use Rattle.engine_turns.specs.declared.outcome.Outcome.TheVariants.{Went, Over, Starved}
use Rattle.verify_piece.specs.Seals.{PieceBytes}
use Rattle.conn_worker.specs.Ends.{end_of_said}
use Rattle.conn_worker.specs.declared.ends.WorkEnd.{WorkEnd}

-- ---- what comes of a turn

-- the answer ends the work
abbrev pub EndsBy : Said → Type 0
EndsBy answer = (by : WorkEnd) × (end_of_said answer ≡ Some by)

-- an event comes, or the work ends
abbrev pub AppendsOrEnds : List Event → Said → Type 0
AppendsOrEnds events answer = (1 ≤ length events) ⊎ EndsBy answer

-- .. or nothing is done
abbrev pub AppendsOrVoid : List Event → Said → Type 0
AppendsOrVoid events answer = (answer ≡ said.Void) ⊎ AppendsOrEnds events answer

-- a worker is to wait
abbrev pub Holds : Said → Type 0
Holds answer = (ms : ℕ) × (answer ≡ said.Hold ms)

-- .. or to hash a piece
abbrev pub Hashes : Said → Type 0
Hashes answer = (gid : Gid) × (piece : ℕ) × (bytes : List ℕ) × (answer ≡ said.Grant (grant.Hash gid piece bytes))

-- .. or may fetch more
abbrev pub Allows : Said → Type 0
Allows answer = (bytes : ℕ) × (answer ≡ said.Allow bytes)

-- what comes where work is asked for, and where more bytes are
abbrev pub ComesOfNext : List Event → Said → Type 0
ComesOfNext events answer = (answer ≡ said.Idle) ⊎ Holds answer ⊎ Hashes answer ⊎ AppendsOrEnds events answer

abbrev pub ComesOfMore : Said → Type 0
ComesOfMore answer = (answer ≡ said.Void) ⊎ Holds answer ⊎ Allows answer ⊎ EndsBy answer

-- ---- parts of a turn

-- it appends an event, unless memory ran out
abbrev AppendsUnlessStarved : Phase → List Event → Type 0
AppendsUnlessStarved P past =
    (events : List Event) (outcome : Outcome) → P past events outcome → (1 ≤ length events) ⊎ (outcome ≡ Starved)

one_event : (e : Event) (events : List Event) → events ≡ e ∷ [] → 1 ≤ length events
one_event e events is = (let n : length events ≡ 1 = ap length is in omega (arith, n))

-- .. as its first part does
and_then : (P Q : Phase) (past : List Event) → AppendsUnlessStarved P past → AppendsUnlessStarved (AndThen P Q) past
and_then P Q past first events outcome came =
    ⊎_elim (λ broken. first events outcome broken.0)
    (λ whole. ⊎_elim
    (λ some. inl (let n : length events ≡ length whole.front + length whole.rest =
    ap length whole.cut ∙ length-append whole.front whole.rest in omega (arith, n, some)))
    (λ starved. (let no : Went ≡ Starved = starved in cc)) (first whole.front Went whole.first)) came

just_event : (e : Event) (past events : List Event) (outcome : Outcome) → JustEvent e past events outcome
    → 1 ≤ length events
just_event e past events Went is = one_event e events is
just_event e past events Over is = absurd is
just_event e past events Starved is = absurd is

-- a part that begins with this event
begins_with : (e : Event) (Q : Phase) (past events : List Event) (outcome : Outcome)
    → AndThen (JustEvent e) Q past events outcome → 1 ≤ length events
begins_with e Q past events outcome came =
    ⊎_elim (λ broken. just_event e past events outcome broken.0)
    (λ whole. let some = just_event e past whole.front Went whole.first in
    let n : length events ≡ length whole.front + length whole.rest =
    ap length whole.cut ∙ length-append whole.front whole.rest in omega (arith, n, some)) came

opening : (at : TurnStart) (gid : Gid) (past : List Event) → AppendsUnlessStarved (OpeningPhase at gid) past
opening at gid past events Went is = inl (one_event _ events is.2)
opening at gid past events Over is = inl (one_event _ events is.2)
opening at gid past events Starved is = inr refl

finding : (at : TurnStart) (gid : Gid) (piece : ℕ) (right : Bool) (past : List Event)
    → AppendsUnlessStarved (FindingPhase at gid piece right) past
finding at gid piece right past events Went is = inl (one_event _ events is.2)
finding at gid piece right past events Over is = absurd is
finding at gid piece right past events Starved is = absurd is

settling : (at : TurnStart) (download : Download) (piece : ℕ) (right : Bool) (past : List Event)
    → AppendsUnlessStarved (SettlingPhase at download piece right) past
settling at download piece right past = and_then _ _ past (finding at download.gid piece right past)

disk_broken : (at : TurnStart) (gid : Gid) (past events : List Event) (outcome : Outcome)
    → AfterDisk at gid [] past events outcome → outcome ≢ Went → (1 ≤ length events) ⊎ (outcome ≡ Starved)
disk_broken at gid past events Went is broken = absurd (broken refl)
disk_broken at gid past events Over is broken = inl (one_event _ events is.2)
disk_broken at gid past events Starved is broken = inr refl

-- the disk is called, and then an event comes
after_disk : (at : TurnStart) (gid : Gid) (Q : Phase) (past : List Event)
    → ((front : List Event) → AppendsUnlessStarved Q front)
    → AppendsUnlessStarved (AndThen (AfterDisk at gid []) Q) past
after_disk at gid Q past second events outcome came =
    ⊎_elim (λ broken. disk_broken at gid past events outcome broken.0 broken.1)
    (λ whole. ⊎_elim
    (λ some. inl (let n : length events ≡ length whole.front + length whole.rest =
    ap length whole.cut ∙ length-append whole.front whole.rest in omega (arith, n, some)))
    (λ starved. inr starved) (second _ whole.rest outcome whole.second)) came

-- ---- rows

pub ends_starved : (answer : Said) → answer ≡ said.NoMemory → EndsBy answer
ends_starved answer is = (_, ap end_of_said is)

unless_starved : (usual answer : Said) (events : List Event) (outcome : Outcome)
    → (1 ≤ length events) ⊎ (outcome ≡ Starved) → AnswersUnlessStarved usual outcome answer
    → AppendsOrEnds events answer
unless_starved usual answer events Went (inl some) is = inl some
unless_starved usual answer events Went (inr starved) is = (let no : Went ≡ Starved = starved in cc)
unless_starved usual answer events Over (inl some) is = inl some
unless_starved usual answer events Over (inr starved) is = (let no : Over ≡ Starved = starved in cc)
unless_starved usual answer events Starved some is = inr (ends_starved answer is)

open_row : (at : TurnStart) (s : RunStanding) (download : Download) (events : List Event) (answer : Said)
    → OpenRow at s download events answer → AppendsOrEnds events answer
open_row at s download events answer row =
    ⊎_elim (λ clashed. inl (one_event _ events clashed.2))
    (λ opened. unless_starved _ answer events opened.1.0
    (and_then _ _ s.past (opening at download.gid s.past) events opened.1.0 opened.1.1) opened.1.2) row

whole_comes : (at : TurnStart) (s : RunStanding) (download : Download) (piece : ℕ) (listed : Bool)
    (events : List Event) (answer : Said) → whole_row at s download piece listed events answer → ComesOfNext events
    answer
whole_comes at s download piece true events answer row =
    ⊎_elim (λ hash. inr (inr (inl (_, _, hash.bytes, hash.is.1))))
    (⊎_elim (λ faulted. inr (inr (inr (inl (one_event _ events faulted.0.2)))))
    (λ starved. inr (inr (inr (inr (ends_starved answer starved.1)))))) row
whole_comes at s download piece false events answer row =
    inr (inr (inr (unless_starved _ answer events row.0
    (and_then _ _ s.past (settling at download piece true s.past) events row.0 row.1) row.2)))

offer_comes : (at : TurnStart) (s : RunStanding) (worker : ℕ) (download : Download) (offer : Offer)
    (events : List Event) (answer : Said) → OfferRow at s worker download offer events answer → ComesOfNext events
    answer
offer_comes at s worker download (Whole piece) events answer row =
    whole_comes at s download piece (is_listed download.subject) events answer row
offer_comes at s worker download (Blocks mirror run victim) events answer row =
    inr (inr (inr (inl (one_event _ events row.claimed))))
offer_comes at s worker download (Probe mirror) events answer row =
    inr (inr (inr (inl (one_event _ events row.claimed))))

pub next_row : (at : TurnStart) (s : RunStanding) (worker : ℕ) (events : List Event) (answer : Said)
    → NextRow at s worker events answer → ComesOfNext events answer
next_row at s worker events answer row =
    ⊎_elim (λ opening. inr (inr (inr (open_row at s opening.download events answer opening.row))))
    (λ other.
    ⊎_elim (λ given. offer_comes at s worker given.download given.offer events answer given.row)
    (⊎_elim (λ held. inr (inl (held.0, held.2.1))) (λ idle. inl idle.1.1)) other.1) row

-- ---- rows of a claim

pub of_claim : (at : TurnStart) (s : RunStanding) (id : ℕ) (Row : Download → Claim → List Event → Said → Type 0)
    (events : List Event) (answer : Said)
    → ((download : Download) (claim : Claim) → Row download claim events answer → AppendsOrVoid events answer)
    → OfClaim at s id Row events answer → AppendsOrVoid events answer
of_claim at s id Row events answer comes row =
    ⊎_elim (λ none. inl none.1.1) (λ of. comes of.0 of.1 of.3) row

pub lose_row : (at : TurnStart) (s : RunStanding) (mark : Mark) (download : Download) (claim : Claim)
    (events : List Event) (answer : Said) → LoseRow at s mark download claim events answer
    → AppendsOrVoid events answer
lose_row at s mark download claim events answer row = inr (inl (begins_with _ _ s.past events row.0 row.1))

pub sized_row : (at : TurnStart) (s : RunStanding) (total : ℕ) (download : Download) (claim : Claim)
    (events : List Event) (answer : Said) → SizedRow at s total download claim events answer
    → AppendsOrVoid events answer
sized_row at s total download claim events answer row =
    ⊎_elim (λ told. inr (inl (begins_with _ _ s.past events told.1.0 told.1.1))) (λ none. inl none.1.1) row

kept_or_starved : (events : List Event) (answer : Said) (counted repeated : ℕ) (outcome : Outcome)
    → ((c r : ℕ) → answer ≡ said.Kept c r → 1 ≤ length events)
    → AnswersUnlessStarved (said.Kept counted repeated) outcome answer → AppendsOrEnds events answer
kept_or_starved events answer counted repeated Went counts is = inl (counts counted repeated is)
kept_or_starved events answer counted repeated Over counts is = inl (counts counted repeated is)
kept_or_starved events answer counted repeated Starved counts is = inr (ends_starved answer is)

-- blocks that are kept are counted
pub kept_counts : (at : TurnStart) (s : RunStanding) (run : Run) (bytes : List ℕ) (download : Download) (claim : Claim)
    (events : List Event) (answer : Said)
    → ((counted repeated : ℕ) → answer ≡ said.Kept counted repeated → 1 ≤ length events)
    → DeliverRow at s run bytes download claim events answer → AppendsOrVoid events answer
kept_counts at s run bytes download claim events answer counts row =
    ⊎_elim (λ kept. inr (kept_or_starved events answer _ _ kept.1.outcome counts kept.1.answer))
    (λ none. inl none.1.1) row

more_comes : (at : TurnStart) (s : RunStanding) (gid : Gid) (want credit : ℕ) (answer : Said)
    → answer ≡ more_said at s gid want credit → ComesOfMore answer
more_comes at s gid zero credit answer is = inl is
more_comes at s gid (suc want) zero answer is = inr (inl (_, is))
more_comes at s gid (suc want) (suc credit) answer is = inr (inr (inl (_, is)))

pub more_row : (at : TurnStart) (s : RunStanding) (want id : ℕ) (events : List Event) (answer : Said)
    → OfClaim at s id (MoreRow at s want) events answer → ComesOfMore answer
more_row at s want id events answer row =
    ⊎_elim (λ none. inl none.1.1)
    (λ of. more_comes at s of.0.gid want (turn_credit at s of.0.gid).bytes answer of.3.1) row

-- ---- a seal

seal_appends : (at : TurnStart) (download : Download) (sealed : PieceBytes) (past : List Event)
    → AppendsUnlessStarved (SealPhase at download sealed) past
seal_appends at download sealed past =
    after_disk at download.gid _ past (λ front. and_then _ _ front (settling at download sealed.piece _ front))

pub seal_row : (at : TurnStart) (s : RunStanding) (gid : Gid) (sealed : PieceBytes) (events : List Event) (answer :
    Said)
    → (answer ≡ said.Void → ⊥) → SealRow at s gid sealed events answer → AppendsOrEnds events answer
seal_row at s gid sealed events answer taken row =
    ⊎_elim (λ none. absurd (taken none.1))
    (λ settled. unless_starved _ answer events settled.1.outcome
    (seal_appends at settled.1.download sealed s.past events settled.1.outcome settled.1.is) settled.1.answer) row

-- ---- what is answered before anything is done

pub answered : (at : TurnStart) (s : RunStanding) (op : Operation) (events : List Event) (answer : Said) (x y : Bool)
    (n : ℕ) → IsAnswered at s op events answer (if x then Some said.Finished
    else (if y then Some (said.JournalFull n) else None))
    → EndsBy answer ⊎ OperationRow at s op events answer
answered at s op events answer true y n is = inl (_, ap end_of_said is.1)
answered at s op events answer false true n is = inl (_, ap end_of_said is.1)
answered at s op events answer false false n is =
    ⊎_elim (λ starved. inl (ends_starved answer starved.1.1)) (λ row. inr row) is
