-- How much of what was asked for an answer gives.
use Rattle.std.specs.Prelude.{◌≡◌, ◌≤◌, ℕ, Bool, List, [], length}
use Rattle.range_http.specs.declared.asked.Asked.{Asked}
use Rattle.reply_reader.specs.Answers.{Given, Away, Answer, Answers, size_to}

-- No more comes than was asked for. What comes ends where the turn says so, and only where all that was asked for came
-- it is as long. Where the resource was moved nothing comes.
pub record AnswerFills (asked : Asked) (answer : Answer) : Type 0 where
  pub few : length answer.got ≤ size_to asked asked.last
  pub given : (last : ℕ) → answer.turn ≡ Given last → (asked.first ≤ last) × (last ≤ asked.last) × (length answer.got ≡ size_to asked last)
  pub full : length answer.got ≡ size_to asked asked.last → answer.turn ≡ Given asked.last
  pub away : (status : ℕ) (location : List ℕ) → answer.turn ≡ Away status location → answer.got ≡ []

-- a stream's answer does, where the asked bytes are in order
abbrev pub AnswersFill : Type 0
AnswersFill = (asked : Asked) (received : List ℕ) (ended : Bool) (answer : Answer) → asked.first ≤ asked.last
    → Answers asked received ended answer → AnswerFills asked answer
