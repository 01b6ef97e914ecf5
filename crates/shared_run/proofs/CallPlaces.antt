-- Where the calls of a session stand among events, and which turns it calls by.
use Rattle.std.proofs.Common.{◌≡◌, ⊎_elim, ℕ, zero, suc, Bool, true, false, cond, eqb, List, [], ◌∷◌, ◌++◌, Some, refl, sym, ap, ◌∙◌, subst, append-nil, arith, slice_get}
use Rattle.std.specs.Prelude.{◌+◌, All, Contains, if◌then◌else◌}
use Rattle.std.proofs.lemmas.Bool.{eq-eqb, false≢true}
use Rattle.std.proofs.lemmas.List.Elements.{All-head, All-tail, Contains-append_right, filter-append}
use Rattle.served_runs.proofs.TurnLists.{behind, first_or_later, here, none_there}
use Rattle.console_session.specs.CallTurns.{IsOfSession, call_turns, is_call, reply_places}
use Rattle.console_session.specs.SessionLaws.{call_places_from, calls_by, is_call_of, turns_calling}
use Rattle.dl_kinds.specs.declared.runs.Moment.{Moment}
use Rattle.engine_turns.specs.Told.{RunTurn}
use Rattle.engine_turns.specs.declared.operations.Operation.{Operation}
use Rattle.engine_turns.specs.declared.operations.Operation.TheVariants as operation
use Rattle.machine_core.specs.declared.calls.Call.{Call}
use Rattle.machine_core.specs.declared.events.Event.{Event}
use Rattle.machine_core.specs.declared.events.Event.TheVariants.{Called}
use Rattle.turn_desk.specs.Turns.{turns_by}

-- ---- places

same_event : (x y : Event) → Some x ≡ Some y → x ≡ y
same_event x y is = cc

-- an event of a call of the session stands at one of its places
pub call_placed : (session : ℕ) (call : Call) (now : Moment) (at : ℕ) (events : List Event) (n : ℕ)
    → slice_get events n ≡ Some (Called session call now) → Contains (call_places_from session at events) (at + n)
call_placed session call now at [] n is = absurd cc
call_placed session call now at (e ∷ events) zero is =
    let same : is_call_of session e ≡ true = ap (is_call_of session) (same_event e (Called session call now) is)
    ∙ eq-eqb session session refl in
    subst (λ (b : Bool). Contains (if b then at ∷ call_places_from session (suc at) events
    else call_places_from session (suc at) events) (at + 0)) (sym same)
    (0, omega arith, (let none : at ≡ at + 0 = omega arith in none))
call_placed session call now at (e ∷ events) (suc n) is =
    by (is_call_of session e) (let shift : suc at + n ≡ at + suc n = omega arith in
    subst (λ (m : ℕ). Contains (call_places_from session (suc at) events) m) shift
    (call_placed session call now (suc at) events n is))
  where
    by : (b : Bool) → Contains (call_places_from session (suc at) events) (at + suc n)
        → Contains (if b then at ∷ call_places_from session (suc at) events else call_places_from session (suc at) events)
        (at + suc n)
    by true rest = Contains-append_right (at ∷ []) (call_places_from session (suc at) events) (at + suc n) rest
    by false rest = rest

-- a place where a reply says that a call stands is one of a turn's
pub replied_turn : (ts : List RunTurn) (place : ℕ) → Contains (reply_places ts) place → (t : RunTurn) × Contains ts t
replied_turn [] place there = absurd (let within = there.1 in omega (arith, within))
replied_turn (t ∷ ts) place there = (t, here t ts)

-- ---- turns

-- a turn by which the session calls is one of these, and calls
pub record IsCalling (session : ℕ) (ts : List RunTurn) (t : RunTurn) : Type 0 where
  pub there : Contains ts t
  pub calls : calls_by session t.op ≡ true

pub calling_turn : (session : ℕ) (ts : List RunTurn) (t : RunTurn) → Contains (turns_calling session ts) t
    → IsCalling session ts t
calling_turn session [] t there = none_there t there
calling_turn session (u ∷ ts) t there = by (calls_by session u.op) refl there (calling_turn session ts t)
  where
    later : IsCalling session ts t → IsCalling session (u ∷ ts) t
    later is = record { there = behind u ts t is.there; calls = is.calls }

    by : (b : Bool) → calls_by session u.op ≡ b → Contains (cond b (u ∷ turns_calling session ts) (turns_calling session ts)) t
        → (Contains (turns_calling session ts) t → IsCalling session ts t) → IsCalling session (u ∷ ts) t
    by true is within rest = ⊎_elim
        (λ (same : u ≡ t). record {
          there = subst (λ (v : RunTurn). Contains (u ∷ ts) v) same (here u ts);
          calls = subst (λ (v : RunTurn). calls_by session v.op ≡ true) same is;
        })
        (λ (more : Contains (turns_calling session ts) t). later (rest more))
        (first_or_later u (turns_calling session ts) t within)
    by false is within rest = later (rest within)

-- where it calls by one pass alone, its turns are of that pass
pub calls_of_pass : (session k : ℕ) (ts : List RunTurn)
    → ((t : RunTurn) → Contains ts t → calls_by session t.op ≡ true → t.pass ≡ k)
    → turns_calling session ts ≡ turns_calling session (turns_by k ts)
calls_of_pass session k [] only = refl
calls_of_pass session k (t ∷ ts) only =
    by (calls_by session t.op) refl (eqb t.pass k) refl (calls_of_pass session k ts (λ u there. only u (behind t ts u there)))
  where
    by : (calls : Bool) → calls_by session t.op ≡ calls → (mine : Bool) → eqb t.pass k ≡ mine
        → turns_calling session ts ≡ turns_calling session (turns_by k ts)
        → cond calls (t ∷ turns_calling session ts) (turns_calling session ts)
        ≡ turns_calling session (cond mine (t ∷ turns_by k ts) (turns_by k ts))
    by true is true at rest = (λ i. t ∷ rest i)
        ∙ sym (ap (λ (b : Bool). cond b (t ∷ turns_calling session (turns_by k ts)) (turns_calling session (turns_by k ts))) is)
    by true is false at rest = absurd (false≢true (sym at ∙ eq-eqb t.pass k (only t (here t ts) is)))
    by false is true at rest = rest
        ∙ sym (ap (λ (b : Bool). cond b (t ∷ turns_calling session (turns_by k ts)) (turns_calling session (turns_by k ts))) is)
    by false is false at rest = rest

-- the session calls by all calls among turns of its own
pub session_calls : (session : ℕ) (ts : List RunTurn) → All (λ (t : RunTurn). IsOfSession session t.op) ts
    → turns_calling session ts ≡ call_turns ts
session_calls session [] kinds = refl
session_calls session (t ∷ ts) kinds =
    by t.op refl (All-head (λ (u : RunTurn). IsOfSession session u.op) t ts kinds)
    (session_calls session ts (All-tail (λ (u : RunTurn). IsOfSession session u.op) t ts kinds))
  where
    by : (op : Operation) → t.op ≡ op → IsOfSession session op → turns_calling session ts ≡ call_turns ts
        → cond (calls_by session op) (t ∷ turns_calling session ts) (turns_calling session ts)
        ≡ (if is_call op then t ∷ call_turns ts else call_turns ts)
    by (operation.Call number call now) at is rest =
        ap (λ (b : Bool). cond b (t ∷ turns_calling session ts) (turns_calling session ts)) (eq-eqb number session is)
        ∙ (λ i. t ∷ rest i)
    by operation.Pulse at is rest = rest
    by (operation.Notices from) at is rest = rest
    by other at is rest = absurd is

-- .. behind which it leaves
pub own_calls : (session : ℕ) (before : List RunTurn) (last : RunTurn)
    → All (λ (t : RunTurn). IsOfSession session t.op) before → last.op ≡ operation.Leave
    → turns_calling session (before ++ last ∷ []) ≡ call_turns before
own_calls session before last kinds leaves =
    filter-append (λ (t : RunTurn). calls_by session t.op) before (last ∷ [])
    ∙ (ap (λ (b : Bool). turns_calling session before ++ cond b (last ∷ []) []) (ap (calls_by session) leaves)
    ∙ (append-nil (turns_calling session before) ∙ session_calls session before kinds))

-- it calls by none of these turns
pub calls_none : (session : ℕ) (ts : List RunTurn)
    → ((t : RunTurn) → Contains ts t → calls_by session t.op ≡ true → ⊥) → turns_calling session ts ≡ []
calls_none session [] none = refl
calls_none session (t ∷ ts) none =
    by (calls_by session t.op) refl (calls_none session ts (λ u there. none u (behind t ts u there)))
  where
    by : (b : Bool) → calls_by session t.op ≡ b → turns_calling session ts ≡ []
        → cond b (t ∷ turns_calling session ts) (turns_calling session ts) ≡ []
    by true calls rest = absurd (none t (here t ts) calls)
    by false calls rest = rest

-- .. nor behind these
pub calls_in_front : (session : ℕ) (front back : List RunTurn)
    → ((t : RunTurn) → Contains back t → calls_by session t.op ≡ true → ⊥)
    → turns_calling session (front ++ back) ≡ turns_calling session front
calls_in_front session front back none =
    filter-append (λ (t : RunTurn). calls_by session t.op) front back
    ∙ (ap (λ (ts : List RunTurn). turns_calling session front ++ ts) (calls_none session back none)
    ∙ append-nil (turns_calling session front))
