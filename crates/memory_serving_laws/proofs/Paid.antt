-- Bad answers pay for what comes.
use Rattle.std.proofs.Common.{◌≡◌, ◌⊎◌, inl, inr, ℕ, zero, suc, ◌+◌, ◌<◌, ◌≤◌, ◌^◌, Bool, true, false, cond, List, [], ◌∷◌, ◌++◌, append-nil, append_assoc, length, length-append, drop, map, replicate, refl, ap, sym, subst, ◌∙◌, arith}
use Rattle.std.proofs.lemmas.Bool.{cases_lt, cond-true, cond-false, le-ltb, lt-ltb, lt-leb}
use Rattle.std.proofs.lemmas.List.{length-map, length-replicate, replicate-append-replicate}
use Rattle.std.proofs.lemmas.List.Elements.{All-nil, All-cons, All-head, All-tail}
use Rattle.std.specs.Prelude.{All, Option, Some, None, nat_lt, nat_le}
use Rattle.dl_kinds.specs.Lists.{part_at}
use Rattle.link_source.specs.Mirrors.{Content}
use Rattle.link_source.specs.Exchanges.{Exchange}
use Rattle.link_source.specs.Files.{Bytes}
use Rattle.range_http.specs.declared.asked.Asked.{Asked}
use Rattle.reply_reader.specs.Answers.{Turn, Due, Given, Away, Lost as LostTurn, Answer, size_to}
use Rattle.reply_reader.specs.Fills.{AnswerFills}
use Rattle.reply_reader.specs.declared.loss.Loss.{Loss}
use Rattle.reply_reader.specs.declared.loss.Loss.TheVariants as losses
use Rattle.request_chain.specs.Answered.{Gave}
use Rattle.request_chain.specs.Exchanges.{Replies}
use Rattle.request_chain.specs.Fetched.{FetchedBy, Fetched as FetchedByRequests}
use Rattle.request_chain.specs.Plans.{FetchEnding, Done, Open, Lost, NextAsk, Ask, Over, plan_of, asked_of, rest_behind, plan_behind, plan_at, next_plan}
use Rattle.request_chain.specs.Redirects.{moved_to}
use Rattle.request_chain.specs.declared.course.TheConstants.{REDIRECT_LIMIT}
use Rattle.memory_serving_laws.specs.Charges.{AreKnownOf, BadAnswersPay, IsKnownOf, IsPaidFor, differing, lost_known, next_known}
use Rattle.memory_serving_laws.specs.Leads.{StandsAt}
use Rattle.memory_serving_laws.specs.Serving.{NamesMirror, ServesPart, used_among}
use Rattle.memory_serving_laws.proofs.Counting.{each_counts, each_mirrors, gave_counts, top_of}
use Rattle.memory_serving_laws.proofs.Differing.{differing_append, differing_front, differing_nothing, drop_behind, next_nothing, next_one}
use Rattle.memory_serving_laws.proofs.Gained.{GaveEach, gave_each, gave_split}
use Rattle.memory_serving_laws.proofs.Plans.{IsServed, IsExpected, Expects, plan_expects, LeadsOn, leads_on, names_leads, next_leads, usable}
use Rattle.memory_serving_laws.proofs.Replies.{IsInside, wanted, wanted_length}
use Rattle.memory_serving_laws.proofs.Turns.{Laws, resource_turn, moved_turn}
use Rattle.part_fetches.specs.Fetched.{Fetched, FetchedPart}
use Rattle.part_fetches.specs.Laws.{PartFits}
use Rattle.part_fetches.proofs.Following.{came_by_requests, http_no_ftp, part_is_cut}
use Rattle.span_map.specs.Jobs.{IsJobPart}
use Rattle.span_map.specs.declared.jobs.JobPart.{JobPart}

-- ---- one answer

abbrev unknown : Option ℕ
unknown = None

-- more is due of what is known, whose first bytes came
record Opens (known : List (Option ℕ)) (answer : Answer) (was now : ℕ) : Type 0 where
  due : answer.turn ≡ Due
  few : length answer.got ≤ length known
  paid : was + differing answer.got known ≤ now

-- the rest is lost
record Falls (known : List (Option ℕ)) (answer : Answer) (was now : ℕ) : Type 0 where
  loss : Loss
  lost : answer.turn ≡ LostTurn loss
  short : length answer.got < length known
  paid : was + differing answer.got known + next_known (drop (length answer.got) known) ≤ now

-- the bytes came in the place of a front of what is known, and the plan goes on behind it
record GoesOn (content : Content) (among : ℕ → Bool) (plan : NextAsk) (known : List (Option ℕ)) (got : List ℕ) (was now : ℕ) : Type 0 where
  front : List (Option ℕ)
  later : List (Option ℕ)
  known_is : known ≡ front ++ later
  as_long : length got ≡ length front
  expects : Expects content among plan later
  paid : was + differing got front ≤ now

no-bytes : (got : List ℕ) → length got ≤ 0 → got ≡ []
no-bytes [] none = refl
no-bytes (byte ∷ got) none = absurd (omega (arith, none))

module _ (laws : Laws) (among : ℕ → Bool) (content : Content) where
  module _ (part : JobPart) (parts : List JobPart) (url : List ℕ) (count : ℕ) (known : List (Option ℕ)) (stream : Exchange) (answer : Answer)
      (at after : Content) (left_due : List ℕ) (expected : IsExpected content among part parts url count known)
      (replies : Replies url (asked_of part) stream answer) (mirrors : at.mirrors ≡ content.mirrors) (gave : Gave at stream left_due after) where
    abbrev asked : Asked
    asked = asked_of part

    abbrev was : ℕ
    was = used_among among at

    abbrev now : ℕ
    now = used_among among after

    abbrev Next : Type 0
    Next = Opens known answer was now ⊎ Falls known answer was now
        ⊎ GoesOn content among (next_plan part parts url count answer.turn) known answer.got was now

    size : size_to asked asked.last ≡ part.len
    size = omega (arith, expected.is_part.some)

    no-fewer : was ≤ now
    no-fewer = (gave_counts among at stream left_due after gave).0

    fills : AnswerFills asked answer
    fills = laws.fill asked stream.received stream.ended answer (omega (arith, expected.is_part.some)) replies.1

    -- a loss comes before the last byte
    short-of : (loss : Loss) → answer.turn ≡ LostTurn loss → length answer.got < part.len
    short-of loss lost = elim (cases_lt (length answer.got) part.len) [
      | inl short ↦ short
      | inr all ↦
          let full : length answer.got ≡ size_to asked asked.last = omega (arith, all, size, fills.few) in
          let both : LostTurn loss ≡ Given asked.last = sym lost ∙ fills.full full in
          absurd (cc both)
    ]

    -- all of the part came, and the others are asked for
    plan-is : plan_behind part parts asked.last ≡ plan_of parts
    plan-is = cond-false (nat_lt asked.last asked.last) (plan_of (rest_behind part asked.last ∷ parts)) (plan_of parts) (le-ltb asked.last asked.last (omega arith))

    others : Expects content among (plan_of parts) expected.rest
    others = plan_expects content among parts expected.rest expected.parts_are expected.smalls expected.rests

    -- ---- of a part that is served
    module _ (served : IsServed content among part url count expected.front) where
      inside : IsInside served.resource asked
      inside = record {
        bounded = omega (arith, served.size, expected.small);
        ordered = omega (arith, expected.is_part.some);
        ends = omega (arith, served.size, expected.is_part.some, expected.is_part.within);
        total_is = ap Some (sym served.size);
      }

      bounded : asked.last < 2 ^ 64
      bounded = omega (arith, inside.bounded, inside.ends)

      named : (number : ℕ) → NamesMirror content url number → among number ≡ true
      named number names = served.through number (names_leads content served.left url number names)

      abbrev bytes : List ℕ
      bytes = wanted served.resource asked

      front-is : expected.front ≡ map Some bytes
      front-is = served.known_is ∙ ap (λ len. map Some (part_at served.resource part.at len)) (sym size)

      front-length : length expected.front ≡ length bytes
      front-length = ap length front-is ∙ length-map bytes Some

      known-length : length known ≡ length bytes + length expected.rest
      known-length = omega (arith, ap length expected.known_is, length-append expected.front expected.rest, front-length)

      bytes-length : length bytes ≡ part.len
      bytes-length = wanted_length served.resource asked inside ∙ size

      in-front : length answer.got ≤ length bytes → differing answer.got known ≡ differing answer.got (map Some bytes)
      in-front few =
          ap (differing answer.got) expected.known_is ∙ differing_front answer.got expected.front expected.rest (omega (arith, few, front-length))
          ∙ ap (differing answer.got) front-is

      -- the resource stands at the URL
      next-here : StandsAt content url (Bytes served.resource) → Next
      next-here stands =
          let pays = resource_turn laws among content at after url asked stream left_due answer inside.ordered bounded mirrors replies named gave served.resource stands inside in
          elim pays.outcome [
            | inl waits ↦ inl (record {
              due = waits.due;
              few = omega (arith, waits.front.few, known-length);
              paid = omega (arith, in-front waits.front.few, waits.front.apart, pays.paid);
            })
            | inr (inl all) ↦ inr (inr (record {
              front = expected.front;
              later = expected.rest;
              known_is = expected.known_is;
              as_long = all.all ∙ sym front-length;
              expects =
                  subst (λ plan. Expects content among plan expected.rest) (sym (ap (next_plan part parts url count) all.turn_is ∙ plan-is)) others;
              paid = omega (arith, ap (differing answer.got) front-is, all.front.apart, pays.paid);
            }))
            | inr (inr lost) ↦ inr (inl (record {
              loss = lost.loss;
              lost = lost.lost;
              short = omega (arith, short-of lost.loss lost.lost, bytes-length, known-length);
              paid = omega (arith, in-front lost.front.few, lost.front.apart, pays.paid, lost.one, next_one (drop (length answer.got) known));
            }))
          ]

      -- the part is asked for at the next place
      expected-there : (on : LeadsOn content served.left url served.resource) → IsExpected content among part parts on.next (count + 1) known
      expected-there on = record {
        front = expected.front;
        rest = expected.rest;
        known_is = expected.known_is;
        here = inl (record {
          left = on.more;
          counts = omega (arith, served.counts, on.one);
          resource = served.resource;
          leads = on.leads;
          size = served.size;
          through = λ number leads. served.through number (next_leads content served.left url served.resource on number leads);
          known_is = served.known_is;
        });
        is_part = expected.is_part;
        small = expected.small;
        parts_are = expected.parts_are;
        smalls = expected.smalls;
        rests = expected.rests;
      }

      plan-there : (on : LeadsOn content served.left url served.resource)
          → next_plan part parts url count (Away on.redirects.head.status on.redirects.text) ≡ Ask part parts on.next (count + 1) on.redirects.head.status
      plan-there on =
          cond-false (nat_le REDIRECT_LIMIT count) _ _ (lt-leb REDIRECT_LIMIT count (omega (arith, served.counts, on.one)))
          ∙ ap (plan_at part parts (count + 1) on.redirects.head.status) on.redirects.next_is

      -- it has moved from there
      next-there : LeadsOn content served.left url served.resource → Next
      next-there on =
          let some : 0 < part.total = omega (arith, expected.is_part.some, expected.is_part.within) in
          let pays = moved_turn laws among content at after url asked stream left_due answer inside.ordered bounded mirrors replies named gave on.next on.redirects part.total refl some in
          elim pays.outcome [
            | inl waits ↦
                let none = no-bytes answer.got waits.front.few in
                inl (record {
                  due = waits.due;
                  few = omega (arith, ap length none);
                  paid = omega (arith, ap (λ got. differing got known) none, no-fewer);
                })
            | inr (inl all) ↦
                let none = no-bytes answer.got all.front.few in
                inr (inr (record {
                  front = [];
                  later = known;
                  known_is = refl;
                  as_long = ap length none;
                  expects =
                      subst (λ plan. Expects content among plan known) (sym (ap (next_plan part parts url count) all.turn_is ∙ plan-there on)) (expected-there on);
                  paid = omega (arith, ap (λ got. differing got []) none, no-fewer);
                }))
            | inr (inr lost) ↦
                let none = no-bytes answer.got lost.front.few in
                inr (inl (record {
                  loss = lost.loss;
                  lost = lost.lost;
                  short = omega (arith, short-of lost.loss lost.lost, bytes-length, known-length);
                  paid = omega (arith, ap (λ got. differing got known) none, pays.paid, lost.one, next_one (drop (length answer.got) known));
                }))
          ]

      next-served : Next
      next-served = elim (leads_on content served.left url served.resource served.leads) [
        | inl stands ↦ next-here stands
        | inr on ↦ next-there on
      ]

    -- ---- of a part of which nothing is known
    module _ (none : expected.front ≡ replicate part.len None) where
      known-is : known ≡ replicate part.len None ++ expected.rest
      known-is = expected.known_is ∙ ap (λ front. front ++ expected.rest) none

      known-length' : length known ≡ part.len + length expected.rest
      known-length' = omega (arith, ap length known-is, length-append (replicate part.len None) expected.rest, length-replicate part.len unknown)

      got-few : length answer.got ≤ part.len
      got-few = omega (arith, fills.few, size)

      none-apart : differing answer.got known ≡ 0
      none-apart =
          ap (differing answer.got) known-is
          ∙ differing_front answer.got (replicate part.len None) expected.rest (omega (arith, got-few, length-replicate part.len unknown))
          ∙ differing_nothing answer.got part.len

      some-known : 0 < length known
      some-known = omega (arith, known-length', expected.is_part.some)

      none-next : next_known known ≡ 0
      none-next = ap next_known known-is ∙ next_nothing 0 part.len expected.rest expected.is_part.some

      -- behind this many places
      split : (m n : ℕ) → m + n ≡ part.len → known ≡ replicate m None ++ (replicate n None ++ expected.rest)
      split m n is =
          known-is ∙ ap (λ len. replicate len None ++ expected.rest) (sym is)
          ∙ ap (λ front. front ++ expected.rest) (sym (replicate-append-replicate m n None))
          ∙ append_assoc (replicate m None) (replicate n None) expected.rest

      went : (last m : ℕ) → m ≡ size_to asked last → asked.first ≤ last → last ≤ asked.last → length answer.got ≡ m
          → GoesOn content among (plan_behind part parts last) known answer.got was now
      went last m is from upto all = elim (cases_lt last asked.last) [
        | inl before ↦
            let rest = rest_behind part last in
            let plan : plan_behind part parts last ≡ plan_of (rest ∷ parts) = cond-true (nat_lt last asked.last) _ _ (lt-ltb last asked.last before) in
            let expects : Expects content among (plan_of (rest ∷ parts)) (replicate rest.len None ++ expected.rest) = record {
              front = replicate rest.len None;
              rest = expected.rest;
              known_is = refl;
              here = inr refl;
              is_part = record { some = omega (arith, before); within = omega (arith, before, expected.is_part.within, expected.is_part.some) };
              small = expected.small;
              parts_are = expected.parts_are;
              smalls = expected.smalls;
              rests = expected.rests;
            } in
            record {
              front = replicate m None;
              later = replicate rest.len None ++ expected.rest;
              known_is = split m rest.len (omega (arith, is, from, before, expected.is_part.some));
              as_long = all ∙ sym (length-replicate m None);
              expects = subst (λ p. Expects content among p (replicate rest.len None ++ expected.rest)) (sym plan) expects;
              paid = omega (arith, differing_nothing answer.got m, no-fewer);
            }
        | inr end ↦
            let plan : plan_behind part parts last ≡ plan_of parts = cond-false (nat_lt last asked.last) _ _ (le-ltb last asked.last end) in
            record {
              front = replicate m None;
              later = expected.rest;
              known_is = known-is ∙ ap (λ len. replicate len None ++ expected.rest) (omega (arith, is, upto, end, size));
              as_long = all ∙ sym (length-replicate m None);
              expects = subst (λ p. Expects content among p expected.rest) (sym plan) others;
              paid = omega (arith, differing_nothing answer.got m, no-fewer);
            }
      ]

      asks-on : (status : ℕ) (next : Option (List ℕ)) → Expects content among (plan_at part parts (count + 1) status next) known
      asks-on status None = (some-known, none-next)
      asks-on status (Some url') = record {
        front = expected.front;
        rest = expected.rest;
        known_is = expected.known_is;
        here = inr none;
        is_part = expected.is_part;
        small = expected.small;
        parts_are = expected.parts_are;
        smalls = expected.smalls;
        rests = expected.rests;
      }

      moves-on : (often : Bool) (status : ℕ) (location : List ℕ)
          → Expects content among (cond often (Over (Lost losses.Redirects)) (plan_at part parts (count + 1) status (moved_to url location))) known
      moves-on true status location = (some-known, none-next)
      moves-on false status location = asks-on status (moved_to url location)

      by-turn : (turn : Turn) → answer.turn ≡ turn → Next
      by-turn Due is = inl (record {
        due = is;
        few = omega (arith, got-few, known-length');
        paid = omega (arith, none-apart, no-fewer);
      })
      by-turn (Given last) is =
          let given = fills.given last is in
          inr (inr (subst (λ turn. GoesOn content among (next_plan part parts url count turn) known answer.got was now) (sym is)
          (went last (size_to asked last) refl given.0 given.1 given.2)))
      by-turn (Away status location) is =
          let none_came = fills.away status location is in
          inr (inr (subst (λ turn. GoesOn content among (next_plan part parts url count turn) known answer.got was now) (sym is) (record {
            front = [];
            later = known;
            known_is = refl;
            as_long = ap length none_came;
            expects = moves-on (nat_le REDIRECT_LIMIT count) status location;
            paid = omega (arith, ap (λ got. differing got []) none_came, no-fewer);
          })))
      by-turn (LostTurn loss) is =
          let short = short-of loss is in
          let next : next_known (drop (length answer.got) known) ≡ 0 =
          ap (λ k. next_known (drop (length answer.got) k)) known-is ∙ next_nothing (length answer.got) part.len expected.rest short in
          inr (inl (record {
            loss = loss;
            lost = is;
            short = omega (arith, short, known-length');
            paid = omega (arith, none-apart, next, no-fewer);
          }))

    next : Next
    next = elim expected.here [
      | inl served ↦ next-served served
      | inr none ↦ by-turn none answer.turn refl
    ]

-- ---- all answers

paid-open : (known : List (Option ℕ)) (came : List ℕ) (ending : FetchEnding) (was now : ℕ) → ending ≡ Open → length came ≤ length known
    → was + differing came known ≤ now → IsPaidFor known came ending was now
paid-open known came ending was now is few paid =
    subst (λ e. IsPaidFor known came e was now) (sym is)
    (record { few = few; all = λ e. cc; short = λ loss e. cc; paid = omega (arith, paid) })

paid-done : (known : List (Option ℕ)) (came : List ℕ) (ending : FetchEnding) (was now : ℕ) → ending ≡ Done → length came ≡ length known
    → was + differing came known ≤ now → IsPaidFor known came ending was now
paid-done known came ending was now is all paid =
    subst (λ e. IsPaidFor known came e was now) (sym is)
    (record { few = omega (arith, all); all = λ e. all; short = λ loss e. cc; paid = omega (arith, paid) })

paid-lost : (known : List (Option ℕ)) (came : List ℕ) (ending : FetchEnding) (was now : ℕ) (loss : Loss) → ending ≡ Lost loss → length came < length known
    → was + differing came known + next_known (drop (length came) known) ≤ now → IsPaidFor known came ending was now
paid-lost known came ending was now loss is short paid =
    subst (λ e. IsPaidFor known came e was now) (sym is)
    (record { few = omega (arith, short); all = λ e. cc; short = λ other e. short; paid = paid })

-- what came by an answer, and then by those behind it
joined : (got more : List ℕ) (front later : List (Option ℕ)) (ending : FetchEnding) (was mid now : ℕ) → length got ≡ length front
    → was + differing got front ≤ mid → IsPaidFor later more ending mid now → IsPaidFor (front ++ later) (got ++ more) ending was now
joined got more front later ending was mid now same paid rest =
    let come = length-append got more in
    let are = length-append front later in
    record {
      few = omega (arith, come, are, same, rest.few);
      all = λ e. omega (arith, come, are, same, rest.all e);
      short = λ loss e. omega (arith, come, are, same, rest.short loss e);
      paid = omega (arith, differing_append got more front later same, lost ending, paid, rest.paid);
    }
  where
    lost : (e : FetchEnding) → lost_known (got ++ more) (front ++ later) e ≡ lost_known more later e
    lost Done = refl
    lost Open = refl
    lost (Lost loss) = ap next_known (drop_behind got more front later same)

-- the next place of a front is the same where more is known behind it
next-front : (n : ℕ) (known later : List (Option ℕ)) → n < length known → next_known (drop n (known ++ later)) ≡ next_known (drop n known)
next-front n [] later few = absurd (omega (arith, few))
next-front zero (None ∷ known) later few = refl
next-front zero (Some right ∷ known) later few = refl
next-front (suc n) (k ∷ known) later few = next-front n known later (omega (arith, few))

-- what is known behind the bytes that are asked for doesn't matter where not all of them came
paid-front : (known later : List (Option ℕ)) (came : List ℕ) (ending : FetchEnding) (was now : ℕ) → IsPaidFor known came ending was now → (ending ≡ Done → ⊥)
    → IsPaidFor (known ++ later) came ending was now
paid-front known later came Done was now is undone = absurd (undone refl)
paid-front known later came Open was now is undone =
    let are = length-append known later in
    record {
      few = omega (arith, is.few, are);
      all = λ e. cc;
      short = λ loss e. cc;
      paid = omega (arith, is.paid, differing_front came known later is.few);
    }
paid-front known later came (Lost loss) was now is undone =
    let are = length-append known later in
    let short = is.short loss refl in
    record {
      few = omega (arith, is.few, are);
      all = λ e. cc;
      short = λ other e. omega (arith, short, are);
      paid = omega (arith, is.paid, differing_front came known later is.few, next-front (length came) known later short);
    }

module _ (laws : Laws) (among : ℕ → Bool) (content : Content) where
  -- by each plan, stream by stream
  comes : (plan : NextAsk) (streams : List Exchange) (known : List (Option ℕ)) (came : List ℕ) (ending : FetchEnding) (rest : List Exchange) (at new : Content)
      → at.mirrors ≡ content.mirrors → Expects content among plan known → GaveEach at streams new → FetchedBy plan streams came ending rest
      → IsPaidFor known came ending (used_among among at) (used_among among new)
  comes (Over Done) streams known came ending rest at new mirrors none gave (nothing, done, same) =
      paid-done known came ending _ _ done (omega (arith, ap length nothing, ap length none))
      (omega (arith, ap (λ c. differing c known) nothing, each_counts among at streams new gave))
  comes (Over Open) streams known came ending rest at new mirrors more gave (nothing, open_now, none, same) =
      paid-open known came ending _ _ open_now (omega (arith, ap length nothing)) (omega (arith, ap (λ c. differing c known) nothing, each_counts among at streams new gave))
  comes (Over (Lost loss)) streams known came ending rest at new mirrors (some, next) gave (nothing, lost, none, same) =
      paid-lost known came ending _ _ loss lost (omega (arith, some, ap length nothing))
      (omega (arith, ap (λ c. differing c known + next_known (drop (length c) known)) nothing, next, each_counts among at streams new gave))
  comes (Ask part parts url count status) [] known came ending rest at new mirrors expected gave (nothing, stands, same) = elim stands [
    | inl waits ↦
        paid-open known came ending _ _ waits.1 (omega (arith, ap length nothing)) (omega (arith, ap (λ c. differing c known) nothing, each_counts among at [] new gave))
    | inr lost ↦ elim expected.here [
      | inl served ↦ absurd (lost.0 (usable content served.left url served.resource served.leads))
      | inr none ↦
          let is : known ≡ replicate part.len None ++ expected.rest = expected.known_is ∙ ap (λ front. front ++ expected.rest) none in
          let some : 0 < length known =
          omega (arith, ap length is, length-append (replicate part.len None) expected.rest, length-replicate part.len unknown, expected.is_part.some) in
          let next : next_known known ≡ 0 = ap next_known is ∙ next_nothing 0 part.len expected.rest expected.is_part.some in
          paid-lost known came ending _ _ _ lost.1 (omega (arith, some, ap length nothing))
          (omega (arith, ap (λ c. differing c known + next_known (drop (length c) known)) nothing, next, each_counts among at [] new gave))
    ]
  ]
  comes (Ask part parts url count status) (stream ∷ streams) known came ending rest at new mirrors expected (between, due, gave, later) (inl (vain, fetched)) =
      let counted = gave_counts among at stream due between gave in
      let on = comes (Ask part parts url count status) streams known came ending rest between new (counted.1 ∙ mirrors) expected later fetched in
      record { few = on.few; all = on.all; short = on.short; paid = omega (arith, on.paid, counted.0) }
  comes (Ask part parts url count status) (stream ∷ streams) known came ending rest at new mirrors expected (between, due, gave, later) (inr (answer, more, replies, is, fetched)) =
      let counted = gave_counts among at stream due between gave in
      let after : between.mirrors ≡ content.mirrors = counted.1 ∙ mirrors in
      let counts_on = each_counts among between streams new later in
      elim (next laws among content part parts url count known stream answer at between due expected replies mirrors gave) [
        | inl waits ↦
            let over = subst (λ turn. FetchedBy (next_plan part parts url count turn) streams more ending rest) waits.due fetched in
            let all : came ≡ answer.got = is ∙ ap (λ m. answer.got ++ m) over.0 ∙ append-nil answer.got in
            paid-open known came ending _ _ over.1 (omega (arith, ap length all, waits.few)) (omega (arith, ap (λ c. differing c known) all, waits.paid, counts_on))
        | inr (inl falls) ↦
            let over = subst (λ turn. FetchedBy (next_plan part parts url count turn) streams more ending rest) falls.lost fetched in
            let all : came ≡ answer.got = is ∙ ap (λ m. answer.got ++ m) over.0 ∙ append-nil answer.got in
            paid-lost known came ending _ _ falls.loss over.1 (omega (arith, ap length all, falls.short))
            (omega (arith, ap (λ c. differing c known + next_known (drop (length c) known)) all, falls.paid, counts_on))
        | inr (inr on) ↦
            let behind = comes (next_plan part parts url count answer.turn) streams on.later more ending rest between new after on.expects later fetched in
            let both = joined answer.got more on.front on.later ending _ _ _ on.as_long on.paid behind in
            let was = used_among among at in
            let now = used_among among new in
            subst (λ k. IsPaidFor k came ending was now) (sym on.known_is) (subst (λ c. IsPaidFor (on.front ++ on.later) c ending was now) (sym is) both)
      ]

  -- ---- part by part

  -- of a part of which nothing is known, whatever it is asked for by
  unknown_comes : PartFits → (part : JobPart) (streams rest : List Exchange) (known : List (Option ℕ)) (came : List ℕ) (ending : FetchEnding) (was now : ℕ)
      → IsJobPart part → known ≡ replicate part.len None → was ≤ now → FetchedPart part streams came ending rest → IsPaidFor known came ending was now
  unknown_comes fit part streams rest known came ending was now is_part none grows fetched =
      let fits = fit part streams rest came ending is_part fetched in
      let long : length known ≡ part.len = ap length none ∙ length-replicate part.len unknown in
      let short : (loss : Loss) → ending ≡ Lost loss → length came < part.len = λ loss lost. elim (cases_lt (length came) part.len) [
        | inl less ↦ less
        | inr all ↦
            let both : Lost loss ≡ Done = sym lost ∙ fits.full (omega (arith, all, fits.few)) in
            absurd (cc both)
      ] in
      let apart : differing came known ≡ 0 = ap (differing came) none ∙ differing_nothing came part.len in
      let lost : (e : FetchEnding) → ending ≡ e → lost_known came known e ≡ 0 = λ e is. by e (λ loss same. short loss (is ∙ same)) in
      record {
        few = omega (arith, fits.few, long);
        all = λ done. let all = fits.all done in omega (arith, all, long);
        short = λ loss e. let less = short loss e in omega (arith, less, long);
        paid = omega (arith, grows, apart, lost ending refl);
      }
    where
      by : (e : FetchEnding) → ((loss : Loss) → e ≡ Lost loss → length came < part.len) → lost_known came known e ≡ 0
      by Done less = refl
      by Open less = refl
      by (Lost loss) less =
          ap (λ (k : List (Option ℕ)). next_known (drop (length came) k)) (none ∙ sym (append-nil (replicate part.len None)))
          ∙ next_nothing (length came) part.len [] (less loss refl)

  -- what is served is asked for by requests
  served_asked : (part : JobPart) (streams rest : List Exchange) (bytes came : List ℕ) (ending : FetchEnding) → ServesPart content part bytes
      → FetchedPart part streams came ending rest → FetchedByRequests (part ∷ []) streams came ending rest
  served_asked part streams rest bytes came ending serves fetched =
      came_by_requests part streams rest came ending (http_no_ftp part.url (usable content REDIRECT_LIMIT part.url serves.resource serves.leads)) fetched

  part_comes : PartFits → (part : JobPart) (streams rest : List Exchange) (known : List (Option ℕ)) (came : List ℕ) (ending : FetchEnding) (at new : Content)
      → IsJobPart part → part.total < 2 ^ 63 → at.mirrors ≡ content.mirrors → IsKnownOf content among part known → GaveEach at streams new
      → FetchedPart part streams came ending rest → IsPaidFor known came ending (used_among among at) (used_among among new)
  part_comes fit part streams rest known came ending at new is_part small mirrors (inr none) gave fetched =
      unknown_comes fit part streams rest known came ending _ _ is_part none (each_counts among at streams new gave) fetched
  part_comes fit part streams rest known came ending at new is_part small mirrors (inl here) gave fetched =
      let Small : JobPart → Type 0 = λ (p : JobPart). p.total < 2 ^ 63 in
      let expected = plan_expects content among (part ∷ []) known (All-cons IsJobPart part [] is_part (All-nil IsJobPart))
      (All-cons Small part [] small (All-nil Small)) (known, [], inl here, sym (append-nil known), refl) in
      comes (plan_of (part ∷ [])) streams known came ending rest at new mirrors expected gave
      (served_asked part streams rest here.0 came ending here.1 fetched)

  parts_come : PartFits → (parts : List JobPart) (streams rest : List Exchange) (known : List (Option ℕ)) (came : List ℕ) (ending : FetchEnding) (at new : Content)
      → All IsJobPart parts → All (λ (p : JobPart). p.total < 2 ^ 63) parts → at.mirrors ≡ content.mirrors → AreKnownOf content among parts known
      → GaveEach at streams new → Fetched parts streams came ending rest → IsPaidFor known came ending (used_among among at) (used_among among new)
  parts_come fit [] streams rest known came ending at new are smalls mirrors none gave (nothing, done, same) =
      paid-done known came ending _ _ done (omega (arith, ap length nothing, ap length none))
      (omega (arith, ap (λ c. differing c known) nothing, each_counts among at streams new gave))
  parts_come fit (part ∷ parts) streams rest known came ending at new are smalls mirrors (front, later, here, is, others) gave (inl (fetched, undone)) =
      let one = part_comes fit part streams rest front came ending at new (All-head IsJobPart part parts are)
      (All-head (λ (p : JobPart). p.total < 2 ^ 63) part parts smalls) mirrors here gave fetched in
      let was = used_among among at in
      let now = used_among among new in
      subst (λ k. IsPaidFor k came ending was now) (sym is) (paid-front front later came ending was now one undone)
  parts_come fit (part ∷ parts) streams rest known came ending at new are smalls mirrors (front, later, here, is, others) gave (inr (own, more, left, fetched, came_is, next)) =
      let cut = part_is_cut part streams left own fetched in
      let split = gave_split at new cut.0 left (subst (λ (s : List Exchange). GaveEach at s new) cut.1 gave) in
      let one = part_comes fit part cut.0 [] front own Done at split.0 (All-head IsJobPart part parts are)
      (All-head (λ (p : JobPart). p.total < 2 ^ 63) part parts smalls) mirrors here split.1 cut.2 in
      let behind = parts_come fit parts left rest later more ending split.0 new (All-tail IsJobPart part parts are)
      (All-tail (λ (p : JobPart). p.total < 2 ^ 63) part parts smalls) (each_mirrors among at cut.0 split.0 split.1 ∙ mirrors) others split.2 next in
      let both = joined own more front later ending _ _ _ (one.all refl) (omega (arith, one.paid)) behind in
      let was = used_among among at in
      let now = used_among among new in
      subst (λ k. IsPaidFor k came ending was now) (sym is) (subst (λ c. IsPaidFor (front ++ later) c ending was now) (sym came_is) both)

pub bad_answers_pay : Laws → PartFits → BadAnswersPay
bad_answers_pay laws fit old link gained among parts known came ending has parts_are smalls are fetched =
    let top = top_of among old has.before link has.answered in
    let each = gave_each old link.content has.before link.exchanges gained top.top has.gains top.on_top top.gave in
    parts_come laws among old fit parts gained [] known came ending old link.content parts_are smalls refl are each fetched
