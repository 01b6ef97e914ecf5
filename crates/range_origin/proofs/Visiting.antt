-- Requests, replies and turns, one behind another.
use Rattle.std.proofs.Common.{◌≡◌, inl, inr, ℕ, List, [], ◌∷◌, ◌++◌, append_assoc, append-nil, drop, refl, ap, sym, ◌∙◌, subst}
use Rattle.std.proofs.lemmas.Grind.{flat_map-append}
use Rattle.std.proofs.lemmas.List.{map-append}
use Rattle.dl_disk.specs.Files.{Files}
use Rattle.origin_replies.specs.Askings.{Asking, AreFrontAskings, IsOneAsking}
use Rattle.range_origin.specs.Answers.{once}
use Rattle.range_origin.specs.Talking.{ShelfTurn, looks_failed}
use Rattle.range_origin.specs.Visits.{Answered, AreFirstAskings, AreTurnsFor, AreTurnsOf, Visit, askings_in, origin_text, reply_to}

-- ---- requests

pub first_of_front : (bytes : List ℕ) (askings : List Asking) (rest : List ℕ) → AreFrontAskings bytes askings rest
    → AreFirstAskings bytes askings
first_of_front bytes [] rest are = tt
first_of_front bytes (asking ∷ askings) rest are =
    (are.0, are.1, inr (are.2, first_of_front (drop are.0 bytes) askings rest are.3))

-- .. with the next one behind them
pub first_with_next : (bytes : List ℕ) (askings : List Asking) (rest : List ℕ) (asking : Asking) (used : ℕ)
    → AreFrontAskings bytes askings rest → IsOneAsking rest asking used → AreFirstAskings bytes (askings ++ asking ∷ [])
first_with_next bytes [] rest asking used are is =
    let P : List ℕ → Type 0 = λ left. IsOneAsking left asking used in
    (used, subst P (sym are) is, inl refl)
first_with_next bytes (other ∷ askings) rest asking used are is =
    (are.0, are.1, inr (are.2, first_with_next (drop are.0 bytes) askings rest asking used are.3 is))

pub askings_behind : (answers : List Answered) (answer : Answered)
    → askings_in (answers ++ answer ∷ []) ≡ askings_in answers ++ answer.asking ∷ []
askings_behind answers answer = map-append (λ (one : Answered). one.asking) answers (answer ∷ [])

-- ---- replies

pub text_behind : (files : Files) (answers : List Answered) (answer : Answered)
    → origin_text files (answers ++ answer ∷ []) ≡ origin_text files answers ++ reply_to files answer
text_behind files answers answer =
    flat_map-append (reply_to files) answers (answer ∷ [])
    ∙ ap (λ text. origin_text files answers ++ text) (append-nil (reply_to files answer))

-- ---- turns

module _ {D : Type 0} where
  pub turns_behind : (answers : List Answered) (answer : Answered) (turns more : List (ShelfTurn D))
      → AreTurnsFor answers turns → looks_failed more ≡ once answer.fault
      → AreTurnsFor (answers ++ answer ∷ []) (turns ++ more)
  turns_behind [] answer turns more are looks =
      (more, [], ap (λ ts. ts ++ more) are ∙ sym (append-nil more), looks, refl)
  turns_behind (other ∷ answers) answer turns more are looks = (
    are.0,
    are.1 ++ more,
    ap (λ ts. ts ++ more) are.2 ∙ append_assoc are.0 are.1 more,
    are.3,
    turns_behind answers answer are.1 more are.4 looks,
  )

  pub visits_behind : (visits others : List Visit) (turns more : List (ShelfTurn D))
      → AreTurnsOf visits turns → AreTurnsOf others more → AreTurnsOf (visits ++ others) (turns ++ more)
  visits_behind [] others turns more are then =
      subst (AreTurnsOf others) (sym (ap (λ ts. ts ++ more) are)) then
  visits_behind (visit ∷ visits) others turns more are then = (
    are.0,
    are.1 ++ more,
    ap (λ ts. ts ++ more) are.2 ∙ append_assoc are.0 are.1 more,
    are.3,
    visits_behind visits others are.1 more are.4 then,
  )
