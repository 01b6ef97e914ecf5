-- Calls of one asker after another.
use Rattle.std.proofs.Common.{◌≡◌, ◌<◌, ◌≤◌, ◌+◌, ℕ, List, [], ◌∷◌, ◌++◌, length, map, take, drop, get_or, Option, Some, None, Result, Ok, Err, IfOk, refl, subst, sym, ap, ◌∙◌, arith, append_assoc, length-append, length-drop}
use Rattle.std.proofs.lemmas.List.{append-nil, map-append, length-map, take_more, take_all, take-append-le, drop-append-le, take-append-drop, drop_more, take-map}
use Rattle.std.proofs.lemmas.List.Concat.{flat_map-append}
use Rattle.std.proofs.lemmas.List.Elements.{All-append, All-nil, All-cons}
use Rattle.std.specs.List.{flat_map}
use Rattle.std.specs.Prelude.{All}
use Rattle.std.specs.Result.{IsErr}
use Rattle.rpc_envelope.specs.Answers.{shared_out, first_outcome}
use Rattle.rpc_envelope.specs.Outcomes.{outcome_view, outcome_if_any}
use Rattle.rpc_envelope.specs.Turns.{Invocation, OutcomeData, Invoked, IsPlain, CamePlain, invocations_in, outcomes_in, Extends, Since, Walks, StopsShort, Walked}
use Rattle.rpc_envelope.specs.declared.caller.Outcome.{Outcome}

-- what is made of the outcomes of one asker
pub shared_out_one : {A C S B : Type 0} (calls : A → List C) (f : A → List S → List B) (a : A) (ss : List S)
    → length ss ≡ length (calls a) → shared_out calls f (a ∷ []) ss ≡ f a ss
shared_out_one calls f a ss e = append-nil _ ∙ ap (f a) (take_all (length (calls a)) ss (omega arith))

-- one more asker, with the outcomes of its calls
pub shared_out_more : {A C S B : Type 0} (calls : A → List C) (f : A → List S → List B) (done : List A) (a : A) (ss more : List S)
    → length ss ≡ length (flat_map calls done) → length more ≡ length (calls a)
    → shared_out calls f (done ++ a ∷ []) (ss ++ more) ≡ shared_out calls f done ss ++ f a more
shared_out_more calls f [] a [] more e e' = shared_out_one calls f a more e'
shared_out_more calls f [] a (s ∷ ss) more e e' = absurd (omega arith)
shared_out_more calls f (d ∷ done) a ss more e e' =
    let n = length (calls d) in
    let both : length ss ≡ n + length (flat_map calls done) = e ∙ length-append (calls d) (flat_map calls done) in
    let fits : n ≤ length ss = omega arith in
    let left : length (drop n ss) ≡ length (flat_map calls done) = length-drop n ss ∙ omega arith in
    rw (take-append-le n ss more fits, drop-append-le n ss more fits, shared_out_more calls f done a (drop n ss) more left e')
    (sym (append_assoc (f d (take n ss)) _ _))

pub extends_none : {S T : Type 0} (W : Since S T) → Extends W W []
extends_none W caller desk earlier h = subst (W caller desk) (sym (append-nil earlier)) h

pub walks_none : {S T : Type 0} (W : Since S T) (P : List (Option OutcomeData) → Type 0) → P [] → Walks W W [] P
walks_none W P p = record { mine = []; extends = extends_none W; asked = refl; came = All-nil CamePlain; holds = p }

pub breaks_none : {S T : Type 0} (W : Since S T) (calls : List Invocation) → StopsShort W W calls
breaks_none W calls = record { mine = []; extends = extends_none W; front = (calls, refl) }

extends_both : {S T : Type 0} (before middle after : Since S T) (xs ys : List Invoked) → Extends before middle xs
    → Extends middle after ys → Extends before after (xs ++ ys)
extends_both before middle after xs ys h k caller desk earlier o =
    subst (after caller desk) (append_assoc earlier xs ys) (k caller desk (earlier ++ xs) (h caller desk earlier o))

-- as many outcomes as calls
outcomes_len : (ts : List Invoked) (calls : List Invocation) → invocations_in ts ≡ calls → length (outcomes_in ts) ≡ length calls
outcomes_len ts calls e = length-map ts _ ∙ (sym (length-map ts _) ∙ ap length e)

-- one call
pub walked_one : {S T E : Type 0} (r : Result Outcome E) (before after : Since S T) (call : Invocation)
    → Extends before after ((call, outcome_if_any r) ∷ [])
    → IfOk r (λ outcome. IsPlain (outcome_view outcome))
    → Walked before after (call ∷ []) r (λ outcome ss. outcome_view outcome ≡ first_outcome ss)
walked_one (Ok outcome) before after call took plain = record {
  mine = (call, Some (outcome_view outcome)) ∷ [];
  extends = took;
  asked = refl;
  came = All-cons CamePlain (Some (outcome_view outcome)) [] plain (All-nil CamePlain);
  holds = refl;
}
walked_one (Err error) before after call took plain = record {
  mine = (call, None) ∷ [];
  extends = took;
  front = ([], refl);
}

module _ {S T A B : Type 0} (calls : A → List Invocation) (f : A → List (Option OutcomeData) → List B) where
  -- what holds of the answers to those before, and of its own, makes what holds of all
  pub walks_both : (before middle after : Since S T) (done : List A) (a : A) (P Q R : List B → Type 0)
      → ((xs ys : List B) → P xs → Q ys → R (xs ++ ys))
      → Walks before middle (flat_map calls done) (λ ss. P (shared_out calls f done ss))
      → Walks middle after (calls a) (λ ss. Q (f a ss))
      → Walks before after (flat_map calls (done ++ a ∷ [])) (λ ss. R (shared_out calls f (done ++ a ∷ []) ss))
  walks_both before middle after done a P Q R both h k =
      let asked : invocations_in (h.mine ++ k.mine) ≡ flat_map calls (done ++ a ∷ []) =
      map-append _ h.mine k.mine
      ∙ (rw (h.asked, k.asked) (sym (flat_map-append calls done (a ∷ []) ∙ ap (λ l. flat_map calls done ++ l) (append-nil (calls a))))) in
      let outcomes : outcomes_in (h.mine ++ k.mine) ≡ outcomes_in h.mine ++ outcomes_in k.mine = map-append _ h.mine k.mine in
      let all : shared_out calls f (done ++ a ∷ []) (outcomes_in (h.mine ++ k.mine))
      ≡ shared_out calls f done (outcomes_in h.mine) ++ f a (outcomes_in k.mine) =
      ap (shared_out calls f (done ++ a ∷ [])) outcomes
      ∙ shared_out_more calls f done a (outcomes_in h.mine) (outcomes_in k.mine)
      (outcomes_len h.mine _ h.asked) (outcomes_len k.mine _ k.asked) in
      record {
        mine = h.mine ++ k.mine;
        extends = extends_both before middle after h.mine k.mine h.extends k.extends;
        asked = asked;
        came = subst (All CamePlain) (sym outcomes) (All-append CamePlain (outcomes_in h.mine) (outcomes_in k.mine) h.came k.came);
        holds = subst R (sym all) (both _ _ h.holds k.holds);
      }

  pub walks_on : (before middle after : Since S T) (done : List A) (a : A) (out out' : List B)
      → Walks before middle (flat_map calls done) (λ ss. out ≡ shared_out calls f done ss)
      → Walks middle after (calls a) (λ ss. out' ≡ out ++ f a ss)
      → Walks before after (flat_map calls (done ++ a ∷ [])) (λ ss. out' ≡ shared_out calls f (done ++ a ∷ []) ss)
  walks_on before middle after done a out out' =
      walks_both before middle after done a (λ xs. out ≡ xs) (λ ys. out' ≡ out ++ ys) (λ zs. out' ≡ zs)
      (λ xs ys e e'. e' ∙ ap (λ l. l ++ ys) e)

  pub breaks_on : (before middle after : Since S T) (done : List A) (a : A) (rest all : List A) (P : List (Option OutcomeData) → Type 0)
      → Walks before middle (flat_map calls done) P
      → StopsShort middle after (calls a)
      → all ≡ done ++ a ∷ rest
      → StopsShort before after (flat_map calls all)
  breaks_on before middle after done a rest all P h k e =
      let left = k.front.0 in
      let asked : flat_map calls all ≡ invocations_in (h.mine ++ k.mine) ++ (left ++ flat_map calls rest) =
      ap (flat_map calls) e
      ∙ (flat_map-append calls done (a ∷ rest) ∙ (rw (map-append (λ t. t.0) h.mine k.mine, h.asked, k.front.1)
      (ap (λ l. flat_map calls done ++ l) (append_assoc (invocations_in k.mine) left (flat_map calls rest))
      ∙ sym (append_assoc (flat_map calls done) (invocations_in k.mine) (left ++ flat_map calls rest))))) in
      record {
        mine = h.mine ++ k.mine;
        extends = extends_both before middle after h.mine k.mine h.extends k.extends;
        front = (left ++ flat_map calls rest, asked);
      }

split_at : {A : Type 0} (xs : List A) (i : ℕ) (d : A) → i < length xs → xs ≡ take i xs ++ get_or xs i d ∷ drop (i + 1) xs
split_at xs i d h = sym (take-append-drop i xs) ∙ ap (λ l. take i xs ++ l) (drop_more xs i d h)

-- what a list of values is seen as, at one of them
pub take_more_seen : {A B : Type 0} (f : A → B) (xs : List A) (i : ℕ) (x : A) → i < length xs → x ≡ get_or xs i x
    → take (i + 1) (map f xs) ≡ take i (map f xs) ++ f x ∷ []
take_more_seen f xs i x h e =
    take-map f (i + 1) xs ∙ (ap (map f) (take_more xs i x h) ∙ (map-append f (take i xs) (get_or xs i x ∷ [])
    ∙ (ap (λ l. l ++ f (get_or xs i x) ∷ []) (sym (take-map f i xs)) ∙ ap (λ y. take i (map f xs) ++ f y ∷ []) (sym e))))

pub split_at_seen : {A B : Type 0} (f : A → B) (xs : List A) (i : ℕ) (x : A) → i < length xs → x ≡ get_or xs i x
    → map f xs ≡ take i (map f xs) ++ f x ∷ map f (drop (i + 1) xs)
split_at_seen f xs i x h e =
    ap (map f) (split_at xs i x h) ∙ (map-append f (take i xs) (get_or xs i x ∷ drop (i + 1) xs)
    ∙ (ap (λ l. l ++ f (get_or xs i x) ∷ map f (drop (i + 1) xs)) (sym (take-map f i xs))
    ∙ ap (λ y. take i (map f xs) ++ f y ∷ map f (drop (i + 1) xs)) (sym e)))

pub err_breaks : {S T V E : Type 0} (r : Result V E) (before after : Since S T) (calls : List Invocation)
    (P : V → List (Option OutcomeData) → Type 0) → IsErr r → StopsShort before after calls → Walked before after calls r P
err_breaks (Ok v) before after calls P e h = cc
err_breaks (Err x) before after calls P e h = h

walks_as : {S T : Type 0} (before after : Since S T) (calls : List Invocation) (P Q : List (Option OutcomeData) → Type 0)
    → (w : Walks before after calls P) → Q (outcomes_in w.mine) → Walks before after calls Q
walks_as before after calls P Q w q = record { mine = w.mine; extends = w.extends; asked = w.asked; came = w.came; holds = q }

pub walked_as : {S T V E : Type 0} (r : Result V E) (before after : Since S T) (calls : List Invocation)
    (P Q : V → List (Option OutcomeData) → Type 0) → ((v : V) (ss : List (Option OutcomeData)) → P v ss → Q v ss)
    → Walked before after calls r P → Walked before after calls r Q
walked_as (Ok v) before after calls P Q f h = walks_as before after calls (P v) (Q v) h (f v (outcomes_in h.mine) h.holds)
walked_as (Err x) before after calls P Q f h = h

-- the text of an answer comes last, and calls nothing
pub text_walked : {S T W V E : Type 0} (r : Result V E) (before after : Since S T) (calls : List Invocation) (o : W)
    (P : W → List (Option OutcomeData) → Type 0) (R : W → V → Type 0) (Q : V → List (Option OutcomeData) → Type 0)
    → ((v : V) (ss : List (Option OutcomeData)) → R o v → P o ss → Q v ss) → IfOk r (R o) → Walks before after calls (P o)
    → Walked before after calls r Q
text_walked (Ok v) before after calls o P R Q f k h = walks_as before after calls (P o) (Q v) h (f v (outcomes_in h.mine) k h.holds)
text_walked (Err x) before after calls o P R Q f k h = record {
  mine = h.mine;
  extends = h.extends;
  front = ([], sym h.asked ∙ sym (append-nil (invocations_in h.mine)));
}
