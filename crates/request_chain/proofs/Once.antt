-- The same streams determine one result.
use Rattle.std.proofs.Common.{◌≡◌, ℕ, List, [], ◌∷◌, ◌++◌, sym, ap₂, subst, ◌∙◌, inl, inr}
use Rattle.std.proofs.lemmas.Bool.{true≢false}
use Rattle.link_source.specs.Exchanges.{Exchange}
use Rattle.range_http.specs.declared.asked.Asked.{Asked}
use Rattle.span_map.specs.declared.jobs.JobPart.{JobPart}
use Rattle.reply_reader.specs.Answers.{Answer, AnswersOnce}
use Rattle.request_chain.specs.Exchanges.{Replies}
use Rattle.request_chain.specs.Fetched.{FetchedBy, FetchedIsOne}
use Rattle.request_chain.specs.Plans.{FetchEnding, Done, Open, Lost, NextAsk, Ask, Over, plan_of, asked_of, next_plan, Stands}

module _ (once : AnswersOnce) where
  replies_once : (url : List ℕ) (asked : Asked) (stream : Exchange) (answer other : Answer)
      → Replies url asked stream answer → Replies url asked stream other → answer ≡ other
  replies_once url asked stream answer other a b = once asked stream.received stream.ended answer other a.1 b.1

  stands_once : (url : List ℕ) (part : JobPart) (parts : List JobPart) (count status : ℕ) (how other : FetchEnding)
      → Stands (Ask part parts url count status) how → Stands (Ask part parts url count status) other → how ≡ other
  stands_once url part parts count status how other a b = elim a [
    | inl usable ↦ elim b [
      | inl usable' ↦ usable.1 ∙ sym usable'.1
      | inr unfit ↦ absurd (unfit.0 usable.0)
    ]
    | inr unfit ↦ elim b [
      | inl usable ↦ absurd (unfit.0 usable.0)
      | inr unfit' ↦ unfit.1 ∙ sym unfit'.1
    ]
  ]

  -- one of two tellings, and the other
  abbrev IsSame : List ℕ → List ℕ → FetchEnding → FetchEnding → List Exchange → List Exchange → Type 0
  IsSame bytes other_bytes ending other_ending rest other_rest = (bytes ≡ other_bytes) × (ending ≡ other_ending) × (rest ≡ other_rest)

  fetched_by_once : (streams : List Exchange) (plan : NextAsk) (rest other_rest : List Exchange) (bytes other_bytes : List ℕ) (ending other_ending : FetchEnding)
      → FetchedBy plan streams bytes ending rest → FetchedBy plan streams other_bytes other_ending other_rest
      → IsSame bytes other_bytes ending other_ending rest other_rest
  fetched_by_once streams (Over Done) rest other_rest bytes other_bytes ending other_ending a b =
      (a.0 ∙ sym b.0, a.1 ∙ sym b.1, a.2 ∙ sym b.2)
  fetched_by_once streams (Over Open) rest other_rest bytes other_bytes ending other_ending a b =
      (a.0 ∙ sym b.0, a.1 ∙ sym b.1, a.3 ∙ sym b.3)
  fetched_by_once streams (Over (Lost loss)) rest other_rest bytes other_bytes ending other_ending a b =
      (a.0 ∙ sym b.0, a.1 ∙ sym b.1, a.3 ∙ sym b.3)
  fetched_by_once [] (Ask part parts url count status) rest other_rest bytes other_bytes ending other_ending a b =
      (a.0 ∙ sym b.0, stands_once url part parts count status ending other_ending a.1 b.1, a.2 ∙ sym b.2)
  fetched_by_once (stream ∷ streams) (Ask part parts url count status) rest other_rest bytes other_bytes ending other_ending (inl a) (inl b) =
      fetched_by_once streams (Ask part parts url count status) rest other_rest bytes other_bytes ending other_ending a.1 b.1
  fetched_by_once (stream ∷ streams) (Ask part parts url count status) rest other_rest bytes other_bytes ending other_ending (inl a) (inr b) =
      absurd (true≢false (sym a.0.1 ∙ b.2.2))
  fetched_by_once (stream ∷ streams) (Ask part parts url count status) rest other_rest bytes other_bytes ending other_ending (inr a) (inl b) =
      absurd (true≢false (sym b.0.1 ∙ a.2.2))
  fetched_by_once (stream ∷ streams) (Ask part parts url count status) rest other_rest bytes other_bytes ending other_ending (inr a) (inr b) =
      let same = replies_once url (asked_of part) stream a.0 b.0 a.2 b.2 in
      let next = subst (λ (answer : Answer). FetchedBy (next_plan part parts url count answer.turn) streams b.1 other_ending other_rest) (sym same) b.4 in
      let later = fetched_by_once streams (next_plan part parts url count a.0.turn) rest other_rest a.1 b.1 ending other_ending a.4 next in
      (a.3 ∙ ap₂ (λ (answer : Answer) more. answer.got ++ more) same later.0 ∙ sym b.3, later.1, later.2)

  pub fetched_once : FetchedIsOne
  fetched_once = λ parts streams rest other_rest bytes other_bytes ending other_ending a b.
      fetched_by_once streams (plan_of parts) rest other_rest bytes other_bytes ending other_ending a b
