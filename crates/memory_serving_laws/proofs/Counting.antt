-- Bad answers that are used, counted.
use Rattle.std.proofs.Common.{◌≡◌, ◌==◌, ◌≤◌, ◌+◌, ◌∙◌, ℕ, Bool, true, false, cond, List, [], ◌∷◌, ◌++◌, Option, Some, None, inl, inr, refl, ap, sym, subst, arith}
use Rattle.std.proofs.lemmas.Bool.{cond-true, cond-false, eqb-true, cases_Bool}
use Rattle.std.proofs.lemmas.List.Elements.{All-cons, All-head, All-tail}
use Rattle.std.proofs.lemmas.List.Sums.{sum_by-append}
use Rattle.std.proofs.lemmas.Option.{none-some}
use Rattle.std.specs.Prelude.{All, option_and_then, count_by}
use Rattle.link_source.specs.BadAnswers.{IsUsed, next_bad}
use Rattle.link_source.specs.Link.{LinkState}
use Rattle.link_source.specs.Mirrors.{Content, HasReply, bad_at, number_at}
use Rattle.link_source.specs.Exchanges.{Exchange}
use Rattle.link_source.specs.declared.bad_answers.Bad.{Bad}
use Rattle.request_chain.specs.Answered.{Gave, GaveAll, IsAnswered}
use Rattle.memory_serving_laws.proofs.Gained.{GaveEach}
use Rattle.memory_serving_laws.specs.Serving.{used_among}

-- ---- the next bad answer

-- it is one of its mirror
next_of : (left : List Bad) (number : ℕ) (bad : Bad) → next_bad left number ≡ Some bad → bad.mirror ≡ number
next_of [] number bad is = absurd (none-some bad is)
next_of (x ∷ left) number bad is = elim (cases_Bool (x.mirror == number)) [
  | inl here ↦
      let same : Some x ≡ Some bad = sym (cond-true (x.mirror == number) (Some x) (next_bad left number) here) ∙ is in
      let one : x ≡ bad = cc in
      subst (λ (b : Bad). b.mirror ≡ number) one (eqb-true x.mirror number here)
  | inr there ↦ next_of left number bad (sym (cond-false (x.mirror == number) (Some x) (next_bad left number) there) ∙ is)
]

-- the mirror's number, where one is next
pub record NextNumber (content : Content) (host : List ℕ) (port : ℕ) (bad : Bad) : Type 0 where
  pub number : ℕ
  pub number_is : number_at content.mirrors host port ≡ Some number
  pub own : bad.mirror ≡ number

pub next_number : (content : Content) (host : List ℕ) (port : ℕ) (bad : Bad) → bad_at content host port ≡ Some bad → NextNumber content host port bad
next_number content host port bad is = of (number_at content.mirrors host port) refl is
  where
    of : (number : Option ℕ) → number_at content.mirrors host port ≡ number → option_and_then (next_bad content.bad) number ≡ Some bad → NextNumber content host port bad
    of None same next = absurd (none-some bad next)
    of (Some n) same next = record { number = n; number_is = same; own = next_of content.bad n bad next }

-- ---- counts

module _ (among : ℕ → Bool) where
  abbrev pub counts : Bad → ℕ
  counts bad = cond (among bad.mirror) 1 0

  pub one_used : (old new : Content) (bad : Bad) → IsUsed old.bad old.used bad new.bad new.used → used_among among new ≡ used_among among old + counts bad
  one_used old new bad used =
      ap (count_by (λ (b : Bad). among b.mirror)) used.added ∙ sum_by-append counts old.used (bad ∷ []) ∙ omega arith

  -- a reply uses one at most
  pub reply_counts : (old : Content) (host : List ℕ) (port : ℕ) (bytes reply : List ℕ) (new : Content) → HasReply old host port bytes reply new
      → (used_among among old ≤ used_among among new) × (new.mirrors ≡ old.mirrors)
  reply_counts old host port bytes reply new has = elim has.effect [
    | inl same ↦ (omega (arith, ap (used_among among) same), ap (λ (c : Content). c.mirrors) same)
    | inr uses ↦ (omega (arith, one_used old new uses.bad uses.used), uses.mirrors_stay)
  ]

  pub gave_counts : (old : Content) (stream : Exchange) (due : List ℕ) (new : Content) → Gave old stream due new
      → (used_among among old ≤ used_among among new) × (new.mirrors ≡ old.mirrors)
  gave_counts old stream due new (inl none) = (omega (arith, ap (used_among among) none.same), ap (λ (c : Content). c.mirrors) none.same)
  gave_counts old stream due new (inr one) = reply_counts old stream.host stream.port stream.request one.reply new one.answers

  -- the streams used no fewer, and the mirrors hold what they held
  pub each_counts : (old : Content) (streams : List Exchange) (new : Content) → GaveEach old streams new → used_among among old ≤ used_among among new
  each_counts old [] new same = omega (arith, ap (used_among among) same)
  each_counts old (stream ∷ later) new (between, due, gave, gave_later) =
      let rest = each_counts between later new gave_later in
      omega (arith, (gave_counts old stream due between gave).0, rest)

  pub each_mirrors : (old : Content) (streams : List Exchange) (new : Content) → GaveEach old streams new → new.mirrors ≡ old.mirrors
  each_mirrors old [] new same = ap (λ (c : Content). c.mirrors) same
  each_mirrors old (stream ∷ later) new (between, due, gave, gave_later) =
      each_mirrors between later new gave_later ∙ (gave_counts old stream due between gave).1

  -- the streams that a link gained, the newest first
  pub record OnTop (old : Content) (before : List Exchange) (link : LinkState) : Type 0 where
    pub top : List Exchange
    pub on_top : link.exchanges ≡ top ++ before
    pub gave : GaveAll old top link.content

  pub top_of : (old : Content) (before : List Exchange) (link : LinkState) → IsAnswered old before link → OnTop old before link
  top_of old before link is = elim is [
    | inl none ↦ record { top = []; on_top = none.0; gave = none.1 }
    | inr top ↦ record { top = top.newest ∷ top.older; on_top = top.on_top; gave = (top.between, top.due, top.past, top.gave) }
  ]

-- ---- mirrors without bad answers

module _ (among : ℕ → Bool) where
  abbrev IsOther : Bad → Type 0
  IsOther bad = among bad.mirror ≡ false

  -- what is left of a list behind some of it
  others_left : (front : List Bad) (bad : Bad) (rest : List Bad) → All IsOther (front ++ bad ∷ rest) → IsOther bad × All IsOther (front ++ rest)
  others_left [] bad rest all = (All-head IsOther bad rest all, All-tail IsOther bad rest all)
  others_left (x ∷ front) bad rest all =
      let later = others_left front bad rest (All-tail IsOther x (front ++ bad ∷ rest) all) in
      (later.0, All-cons IsOther x (front ++ rest) (All-head IsOther x (front ++ bad ∷ rest) all) later.1)

  reply_clean : (old : Content) (host : List ℕ) (port : ℕ) (bytes reply : List ℕ) (new : Content) → HasReply old host port bytes reply new → All IsOther old.bad
      → (used_among among new ≡ used_among among old) × All IsOther new.bad
  reply_clean old host port bytes reply new has clean = elim has.effect [
    | inl same ↦ (ap (used_among among) same, subst (λ (c : Content). All IsOther c.bad) (sym same) clean)
    | inr uses ↦
        let left = others_left uses.used.front uses.bad uses.used.rest (subst (All IsOther) uses.used.stood clean) in
        let none : counts among uses.bad ≡ 0 = cond-false (among uses.bad.mirror) 1 0 left.0 in
        (omega (arith, one_used among old new uses.bad uses.used, none), subst (All IsOther) (sym uses.used.others) left.1)
  ]

  all_stay : (old : Content) (streams : List Exchange) (new : Content) → GaveAll old streams new → All IsOther old.bad
      → (used_among among new ≡ used_among among old) × All IsOther new.bad
  all_stay old [] new same clean = (ap (used_among among) same, subst (λ (c : Content). All IsOther c.bad) (sym same) clean)
  all_stay old (stream ∷ older) new (between, due, past, gave) clean =
      let first = all_stay old older between past clean in
      elim gave [
        | inl none ↦ (ap (used_among among) none.same ∙ first.0, subst (λ (c : Content). All IsOther c.bad) (sym none.same) first.1)
        | inr one ↦
            let last = reply_clean between stream.host stream.port stream.request one.reply new one.answers first.1 in
            (last.0 ∙ first.0, last.1)
      ]

  pub clean_use_none : (old : Content) (before : List Exchange) (link : LinkState) → IsAnswered old before link → All IsOther old.bad
      → used_among among link.content ≡ used_among among old
  clean_use_none old before link is clean =
      let top = top_of among old before link is in
      (all_stay old top.top link.content top.gave clean).0

-- where none is left, none is next
none_next : (content : Content) (host : List ℕ) (port : ℕ) (bad : Bad) → content.bad ≡ [] → bad_at content host port ≡ Some bad → ⊥
none_next content host port bad none is = nobody (number_at content.mirrors host port)
    (sym (ap (λ (left : List Bad). option_and_then (next_bad left) (number_at content.mirrors host port)) none) ∙ is)
  where
    nobody : (number : Option ℕ) → option_and_then (next_bad []) number ≡ Some bad → ⊥
    nobody None some = none-some bad some
    nobody (Some n) some = none-some bad some

good_all : (old : Content) (streams : List Exchange) (new : Content) → GaveAll old streams new → old.bad ≡ [] → new ≡ old
good_all old [] new same good = same
good_all old (stream ∷ older) new (between, due, past, gave) good =
    let first = good_all old older between past good in
    elim gave [
      | inl none ↦ none.same ∙ first
      | inr one ↦ elim one.answers.effect [
        | inl same ↦ same ∙ first
        | inr uses ↦ absurd (none_next between stream.host stream.port uses.bad (ap (λ (c : Content). c.bad) first ∙ good) uses.next)
      ]
    ]

pub good_stay : (old : Content) (before : List Exchange) (link : LinkState) → IsAnswered old before link → old.bad ≡ [] → link.content ≡ old
good_stay old before link is good =
    let top = top_of (λ number. true) old before link is in
    good_all old top.top link.content top.gave good
