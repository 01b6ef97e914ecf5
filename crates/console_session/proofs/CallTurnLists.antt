-- Lists of turns, one behind the other.
use Rattle.std.proofs.Common.{◌≡◌, ℕ, Bool, true, false, List, [], ◌∷◌, ◌++◌, Option, refl, sym, ap, ◌∙◌, subst, append_assoc, arith}
use Rattle.std.specs.Prelude.{◌+◌, if◌then◌else◌}
use Rattle.console_http.specs.Visits.{capped}
use Rattle.engine_turns.specs.Told.{RunTurn}
use Rattle.rpc_envelope.specs.Turns.{Invoked}
use Rattle.console_session.specs.CallTurns.{AreReadFrom, CameInOrder, call_turns, is_call, places_by, reply_places, starved_in_reply, starved_replies}
use Rattle.console_session.specs.Sessions.{starved_after}

pub call_turns_on : (ts us : List RunTurn) → call_turns (ts ++ us) ≡ call_turns ts ++ call_turns us
call_turns_on [] us = refl
call_turns_on (t ∷ ts) us = by (is_call t.op) (call_turns (ts ++ us)) (call_turns_on ts us)
  where
    by : (called : Bool) (all : List RunTurn) → all ≡ call_turns ts ++ call_turns us
        → (if called then t ∷ all else all) ≡ (if called then t ∷ call_turns ts else call_turns ts) ++ call_turns us
    by true all is = ap (λ (l : List RunTurn). t ∷ l) is
    by false all is = is

pub places_on : (ts us : List RunTurn) → reply_places (ts ++ us) ≡ reply_places ts ++ reply_places us
places_on [] us = refl
places_on (t ∷ ts) us =
    ap (λ (l : List ℕ). places_by t.answer.said ++ l) (places_on ts us)
    ∙ sym (append_assoc (places_by t.answer.said) (reply_places ts) (reply_places us))

pub starved_on : (count : ℕ) (ts us : List RunTurn)
    → starved_after count (ts ++ us) ≡ starved_after (starved_after count ts) us
starved_on count [] us = refl
starved_on count (t ∷ ts) us = starved_on (capped (count + starved_in_reply t.answer.said)) ts us

pub read_on : {K : Type 0} (reads : K → ℕ → K → Type 0) (first mid last : K) (ts us : List RunTurn)
    → AreReadFrom reads first ts mid → AreReadFrom reads mid us last → AreReadFrom reads first (ts ++ us) last
read_on reads first mid last [] us is later = subst (λ k. AreReadFrom reads k us last) is later
read_on reads first mid last (t ∷ ts) us is later = (is.0, is.1, read_on reads is.0 mid last ts us is.2 later)

pub came_on : (secret : Option (List ℕ)) (session : ℕ) (ts us : List RunTurn) (xs ys : List Invoked)
    → CameInOrder secret session ts xs → CameInOrder secret session us ys
    → CameInOrder secret session (ts ++ us) (xs ++ ys)
came_on secret session ts us [] ys none later =
    subst (λ (l : List RunTurn). CameInOrder secret session (l ++ us) ys) (sym none) later
came_on secret session ts us (x ∷ xs) ys came later = (
  came.0,
  came.1 ++ us,
  ap (λ (l : List RunTurn). l ++ us) came.2 ∙ append_assoc came.0 came.1 us,
  came.3,
  came_on secret session came.1 us xs ys came.4 later,
)

-- ---- counts

capped_sum : (n s : ℕ) → capped (capped n + s) ≡ capped (n + s)
capped_sum n s = omega arith

capped_none : (n : ℕ) → capped n ≡ capped (n + 0)
capped_none n = omega arith

capped_assoc : (n s rest : ℕ) → capped (n + s + rest) ≡ capped (n + (s + rest))
capped_assoc n s rest = omega arith

-- a count that was capped at each turn is the capped sum
starved_sum : (n : ℕ) (ts : List RunTurn) → starved_after (capped n) ts ≡ capped (n + starved_replies ts)
starved_sum n [] = capped_none n
starved_sum n (t ∷ ts) =
    let s = starved_in_reply t.answer.said in
    ap (λ (count : ℕ). starved_after count ts) (capped_sum n s)
    ∙ (starved_sum (n + s) ts ∙ capped_assoc n s (starved_replies ts))

capped_first : (n : ℕ) → capped (0 + n) ≡ capped n
capped_first n = omega arith

pub starved_all : (ts : List RunTurn) → starved_after 0 ts ≡ capped (starved_replies ts)
starved_all ts = starved_sum 0 ts ∙ capped_first (starved_replies ts)
