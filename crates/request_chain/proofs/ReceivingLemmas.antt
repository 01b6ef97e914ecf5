-- The newest stream of a chain, as it receives.
use Rattle.std.proofs.Common.{◌≡◌, ℕ, ◌+◌, ◌<◌, Bool, true, false, ◌&&◌, ◌==◌, not, List, [], ◌∷◌, ◌++◌, length, refl, sym, ap, subst, ◌∙◌, arith, append-nil, length-append}
use Rattle.std.proofs.lemmas.Bool.{ne_eqb}
use Rattle.link_source.specs.Exchanges.{Exchange, with_received}
use Rattle.span_map.specs.declared.jobs.JobPart.{JobPart}
use Rattle.request_chain.specs.Chains.{Gains, received_by}
use Rattle.request_chain.specs.Exchanges.{is_unheard}
use Rattle.request_chain.specs.Plans.{asked_of}
use Rattle.request_chain.specs.Stages.{IsSent, IsReading, IsHeardAt}
use Rattle.request_chain.specs.declared.course.Course.{Course}
use Rattle.request_chain.specs.declared.stage.Stage.{Stage}
use Rattle.request_chain.specs.declared.stage.Stage.TheVariants.{Asking, Unheard, Head as InHead, Content as InContent}
use Rattle.request_chain.proofs.GainLemmas.{gains_last, gains_one, received_one}
use Rattle.request_chain.proofs.SentLemmas.{with_bytes, same_exchange}

and-false : (a b : Bool) → b ≡ false → (a && b) ≡ false
and-false true b none = none
and-false false b none = refl

module _ (parts : List JobPart) (before used now new : List Exchange) (course : Course) where
  -- the newest stream, on top of the others
  pub on_top : (sent : IsSent parts used course) → Gains before now used → (rest : List Exchange) × (now ≡ sent.newest ∷ rest) × Gains before rest sent.older
  on_top sent gains =
      let P : List Exchange → Type 0 = Gains before now in
      gains_last sent.older before now sent.newest (subst P sent.used_is gains)

  received_used : (sent : IsSent parts used course) → received_by used ≡ received_by sent.older + length sent.newest.received
  received_used sent = ap received_by sent.used_is ∙ received_one sent.older sent.newest

  -- its end was told
  pub ended_gains : (sent : IsSent parts used course) → Gains before now used → new ≡ with_received [] now
      → Gains before new (sent.older ++ with_bytes sent.newest sent.newest.received true ∷ [])
  ended_gains sent gains is =
      let top = on_top sent gains in
      let P : List Exchange → Type 0 = λ streams. Gains before streams (sent.older ++ with_bytes sent.newest sent.newest.received true ∷ []) in
      subst P (sym (is ∙ ap (with_received []) top.1)) (gains_one sent.older before top.0 (with_bytes sent.newest sent.newest.received true) top.2)

  pub ended_received : (sent : IsSent parts used course) → received_by (sent.older ++ with_bytes sent.newest sent.newest.received true ∷ []) ≡ received_by used
  ended_received sent = received_one sent.older (with_bytes sent.newest sent.newest.received true) ∙ sym (received_used sent)

  -- it has received these bytes too
  abbrev pub newer : IsSent parts used course → List ℕ → Exchange
  newer sent came = record sent.newest { received = sent.newest.received ++ came }

  pub more_gains : (sent : IsSent parts used course) (came : List ℕ) → 0 < length came → Gains before now used → new ≡ with_received came now
      → Gains before new (sent.older ++ newer sent came ∷ [])
  more_gains sent [] some gains is = absurd (omega arith)
  more_gains sent (byte ∷ came) some gains is =
      let top = on_top sent gains in
      let P : List Exchange → Type 0 = λ streams. Gains before streams (sent.older ++ newer sent (byte ∷ came) ∷ []) in
      subst P (sym (is ∙ ap (with_received (byte ∷ came)) top.1)) (gains_one sent.older before top.0 (newer sent (byte ∷ came)) top.2)

  pub more_received : (sent : IsSent parts used course) (came : List ℕ) → received_by (sent.older ++ newer sent came ∷ []) ≡ received_by used + length came
  more_received sent came =
      let long = length-append sent.newest.received came in
      let one = received_one sent.older (newer sent came) in
      let was = received_used sent in
      omega arith

  abbrev pub more_sent : (sent : IsSent parts used course) (came : List ℕ) → IsSent parts (sent.older ++ newer sent came ∷ []) course
  more_sent sent came = record {
    part = sent.part;
    others = sent.others;
    url = sent.url;
    count = sent.count;
    status = sent.status;
    asks = sent.asks;
    older = sent.older;
    newest = newer sent came;
    brought = sent.brought;
    leads = sent.leads;
    used_is = refl;
    exchange = same_exchange sent.url (asked_of sent.part) sent.newest (sent.newest.received ++ came) sent.newest.ended sent.exchange;
    not_ended = sent.not_ended;
    ordered = sent.ordered;
    bounded = sent.bounded;
  }

  -- it is heard then
  pub heard_more : (sent : IsSent parts used course) (came : List ℕ) → 0 < length came → is_unheard (newer sent came) ≡ false
  heard_more sent came some =
      let long = length-append sent.newest.received came in
      and-false (not sent.newest.fresh) (length (newer sent came).received == 0) (ne_eqb (length (newer sent came).received) 0 (λ none. omega (arith, long, some, none)))

  -- what came waits
  pub more_reading : (stage : Stage) (came bytes : List ℕ) → 0 < length came → Gains before now used → new ≡ with_received came now → (stage ≡ Asking → ⊥) → IsHeardAt stage
      → IsReading stage course [] parts used bytes
      → (later : List Exchange) × Gains before new later × (received_by later ≡ received_by used + length came) × IsReading stage course came parts later bytes
  more_reading Asking came bytes some gains is sent heard reading = absurd (sent refl)
  more_reading (Unheard reader) came bytes some gains is sent heard reading = absurd (heard tt)
  more_reading (InHead reader) came bytes some gains is sent heard reading = (
    reading.sent.older ++ newer reading.sent came ∷ [],
    more_gains reading.sent came some gains is,
    more_received reading.sent came,
    record {
      sent = more_sent reading.sent came;
      heard = heard_more reading.sent came some;
      bytes_are = reading.bytes_are;
      front = reading.front;
      received_is = ap (λ b. b ++ came) (reading.received_is ∙ append-nil reading.front);
      at = reading.at;
    },
  )
  more_reading (InContent content) came bytes some gains is sent heard reading =
      let read = reading.read in (
        reading.sent.older ++ newer reading.sent came ∷ [],
        more_gains reading.sent came some gains is,
        more_received reading.sent came,
        record {
          sent = more_sent reading.sent came;
          heard = heard_more reading.sent came some;
          got = reading.got;
          bytes_are = reading.bytes_are;
          read = record {
            head = read.head;
            used = read.used;
            slice = read.slice;
            front = read.front;
            received_is = ap (λ b. b ++ came) (read.received_is ∙ append-nil read.front);
            begins = read.begins;
            sliced = read.sliced;
            small = read.small;
            within = read.within;
            at = read.at;
            got_is = read.got_is;
            count_is = read.count_is;
            turn_is = read.turn_is;
            ends_at = read.ends_at;
            behind_is = read.behind_is;
          };
        },
      )
