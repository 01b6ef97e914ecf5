-- What is served comes, where no bad answer was used; and what one bad answer makes of it.
use Rattle.std.proofs.Common.{◌≡◌, ◌⊎◌, ◌==◌, inl, inr, ℕ, ◌+◌, ◌<◌, ◌≤◌, Bool, true, List, [], ◌∷◌, ◌++◌, length, length-append, drop, map, refl, ap, sym, subst, ◌∙◌, arith}
use Rattle.std.proofs.lemmas.Bool.{cases_Bool, cases_lt, cond-false, eqb-true}
use Rattle.std.proofs.lemmas.List.{length-map, map-append}
use Rattle.std.proofs.lemmas.List.Elements.{All-nil, All-cons, All-head, All-tail}
use Rattle.std.specs.Prelude.{All, Some}
use Rattle.link_source.specs.Link.{LinkState}
use Rattle.link_source.specs.Mirrors.{Content}
use Rattle.link_source.specs.Exchanges.{Exchange}
use Rattle.request_chain.specs.Plans.{FetchEnding, Done, Open, Lost}
use Rattle.part_fetches.specs.Fetched.{Fetched}
use Rattle.memory_serving_laws.specs.Charges.{AreKnownOf, BadAnswersPay, DiffersOnce, IsPaidFor, LosesOnly, OneIsNeverBoth, differing, next_known}
use Rattle.memory_serving_laws.specs.Laws.{AreGiven, GainedAnswers, IsRightSoFar, ServedComes, GoodMirrorsStay, GoodMirrorsServe}
use Rattle.memory_serving_laws.specs.Serving.{GivesAll, LeadsAmong, used_among}
use Rattle.span_map.specs.declared.jobs.JobPart.{JobPart}

-- the bytes that mirrors give are known
given-known : (content : Content) (among : ℕ → Bool) (parts : List JobPart) (bytes : List ℕ) → GivesAll content parts bytes → All (LeadsAmong content among) parts
    → AreKnownOf content among parts (map Some bytes)
given-known content among [] bytes none leads = ap (map Some) none
given-known content among (part ∷ parts) bytes (front, rest, serves, is, gives) leads = (
  map Some front,
  map Some rest,
  inl (front, serves, All-head (LeadsAmong content among) part parts leads, refl),
  ap (map Some) is ∙ map-append Some front rest,
  given-known content among parts rest gives (All-tail (LeadsAmong content among) part parts leads),
)

-- where none of the bytes differs, they are the first ones
front-of : (came bytes : List ℕ) → length came ≤ length bytes → differing came (map Some bytes) ≤ 0 → (behind : List ℕ) × (bytes ≡ came ++ behind)
front-of [] bytes few none = (bytes, refl)
front-of (byte ∷ came) [] few none = absurd (omega (arith, few))
front-of (byte ∷ came) (right ∷ bytes) few none = elim (cases_Bool (byte == right)) [
  | inl same ↦
      let rest = front-of came bytes (omega (arith, few)) (omega (arith, none)) in
      let is : byte ≡ right = eqb-true byte right same in
      (rest.0, ap (λ b. b ∷ bytes) (sym is) ∙ ap (λ r. byte ∷ r) rest.1)
  | inr other ↦ absurd (omega (arith, none, cond-false {A = ℕ} (byte == right) 0 1 other))
]

-- the next byte is known
next-some : (came : List ℕ) (bytes : List ℕ) → length came < length bytes → next_known (drop (length came) (map Some bytes)) ≡ 1
next-some came [] short = absurd (omega (arith, short))
next-some [] (right ∷ bytes) short = refl
next-some (byte ∷ came) (right ∷ bytes) short = next-some came bytes (omega (arith, short))

no-more : (came behind bytes : List ℕ) → bytes ≡ came ++ behind → length came ≡ length bytes → behind ≡ []
no-more came [] bytes is same = refl
no-more came (b ∷ behind) bytes is same = absurd (omega (arith, same, ap length is, length-append came (b ∷ behind)))

module _ (pay : BadAnswersPay) where
  paid : (old : Content) (link : LinkState) (gained : List Exchange) (among : ℕ → Bool) (parts : List JobPart) (bytes came : List ℕ) (ending : FetchEnding)
      → GainedAnswers old link gained → AreGiven old parts bytes → All (LeadsAmong old among) parts → Fetched parts gained came ending []
      → IsPaidFor (map Some bytes) came ending (used_among among old) (used_among among link.content)
  paid old link gained among parts bytes came ending has given leads fetched =
      pay old link gained among parts (map Some bytes) came ending has given.sound given.bounded (given-known old among parts bytes given.gives leads) fetched

  right : (bytes came : List ℕ) (ending : FetchEnding) (was : ℕ) → IsPaidFor (map Some bytes) came ending was was → IsRightSoFar bytes came ending
  right bytes came Done was is =
      let all = is.all refl in
      let front = front-of came bytes (omega (arith, is.few, length-map bytes Some)) (omega (arith, is.paid)) in
      record { behind = front.0; front = front.1; on = inr (refl, no-more came front.0 bytes front.1 (all ∙ length-map bytes Some)) }
  right bytes came Open was is =
      let front = front-of came bytes (omega (arith, is.few, length-map bytes Some)) (omega (arith, is.paid)) in
      record { behind = front.0; front = front.1; on = inl refl }
  right bytes came (Lost loss) was is =
      absurd (omega (arith, is.paid, next-some came bytes (omega (arith, is.short loss refl, length-map bytes Some))))

  pub served_comes : ServedComes
  served_comes old link gained among parts bytes came ending has given leads fetched =
      let is = paid old link gained among parts bytes came ending has given leads fetched in
      elim (cases_lt (used_among among old) (used_among among link.content)) [
        | inl used ↦ inr used
        | inr unused ↦
            let same : used_among among link.content ≡ used_among among old = omega (arith, unused, is.paid) in
            inl (right bytes came ending (used_among among old) (subst (λ now. IsPaidFor (map Some bytes) came ending (used_among among old) now) same is))
      ]

  never-both : (bytes came : List ℕ) (ending : FetchEnding) (was now : ℕ) → IsPaidFor (map Some bytes) came ending was now → now ≡ was + 1
      → LosesOnly bytes came ending ⊎ DiffersOnce bytes came ending
  never-both bytes came Done was now is one = inr (record { on = λ loss e. cc; once = omega (arith, is.paid, one) })
  never-both bytes came Open was now is one = inr (record { on = λ loss e. cc; once = omega (arith, is.paid, one) })
  never-both bytes came (Lost loss) was now is one =
      let short : length came < length bytes = omega (arith, is.short loss refl, length-map bytes Some) in
      let front = front-of came bytes (omega (arith, short)) (omega (arith, is.paid, one, next-some came bytes short)) in
      inl (record { loss = loss; lost = refl; behind = front.0; front = front.1 })

  pub one_is_never_both : OneIsNeverBoth
  one_is_never_both old link gained among parts bytes came ending has given leads fetched one =
      never-both bytes came ending _ _ (paid old link gained among parts bytes came ending has given leads fetched) one

all_among : (old : Content) (parts : List JobPart) → All (LeadsAmong old (λ number. true)) parts
all_among old [] = All-nil (LeadsAmong old (λ number. true))
all_among old (part ∷ parts) = All-cons (LeadsAmong old (λ number. true)) part parts (λ number leads. refl) (all_among old parts)

pub good_serve : ServedComes → GoodMirrorsStay → GoodMirrorsServe
good_serve serve stay old link gained parts bytes came ending has given good fetched =
    elim (serve old link gained (λ number. true) parts bytes came ending has given (all_among old parts) fetched) [
      | inl right ↦ right
      | inr used ↦
          let same : used_among (λ number. true) link.content ≡ used_among (λ number. true) old =
          ap (used_among (λ number. true)) (stay old has.before link has.answered good) in
          absurd (omega (arith, used, same))
    ]
