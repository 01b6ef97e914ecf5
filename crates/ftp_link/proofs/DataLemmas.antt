-- The data of a talk, as it comes.
use Rattle.std.proofs.Common.{◌≡◌, ◌+◌, ◌<◌, ◌≤◌, ℕ, List, [], ◌∷◌, ◌++◌, length, take, refl, sym, ap, subst, ◌∙◌, inl, inr, arith, append-nil, length-append}
use Rattle.std.specs.Prelude.{Option, Some, IfSome}
use Rattle.link_source.specs.Exchanges.{Exchange, with_received}
use Rattle.link_source.specs.Link.{LinkState, DataLink, Dialled, Gives, ReceivesData, data_come}
use Rattle.span_map.specs.declared.jobs.JobPart.{JobPart}
use Rattle.dl_kinds.specs.declared.outside.IoErr.{IoErr}
use Rattle.dl_kinds.specs.declared.outside.IoErr.TheVariants.{Fault, NoMemory}
use Rattle.reply_reader.specs.declared.loss.Loss.{Loss}
use Rattle.reply_reader.specs.declared.loss.Loss.TheVariants.{Short}
use Rattle.request_chain.specs.Sending.{loss_by}
use Rattle.ftp_link.specs.Talks.{TellsFtpLoss}
use Rattle.request_chain.specs.Answered.{KeepsAnswers}
use Rattle.request_chain.specs.Chains.{Gains, received_by}
use Rattle.request_chain.specs.KeptAnswers.{DataKeepsAnswers, MoreDataKeepsAnswers}
use Rattle.request_chain.specs.Plans.{Done, Open, Lost}
use Rattle.ftp_places.specs.declared.place.FtpPlace.{FtpPlace}
use Rattle.ftp_fetches.specs.Dialogues.{Data, FtpFetched}
use Rattle.ftp_link.specs.Heard.{taking}
use Rattle.ftp_link.specs.Stages.{Leads, IsTaking, MayTake}
use Rattle.ftp_link.proofs.DialogueLemmas.{data_done, data_short, ended_taking, taking_tells}
use Rattle.ftp_link.proofs.GainLemmas.{gains_last, more_gains, same_gains, received_one, gains_more}
use Rattle.ftp_link.proofs.StepLemmas.{StepsTo}

pub none_of : (bytes : List ℕ) → length bytes ≡ 0 → bytes ≡ []
none_of [] none = refl
none_of (byte ∷ bytes) none = absurd (omega (arith, none))

-- the data comes on these exchanges, behind what came of it before
pub record ComesOnto (place : FtpPlace) (part : JobPart) (port : ℕ) (before used : List Exchange) (bytes came : List ℕ) (new : List Exchange) : Type 0 where
  pub older : List Exchange
  pub others : List Exchange
  pub gains : Gains before others older
  pub leads : Leads place part older (Data port)
  pub received_is : received_by used ≡ received_by older + length bytes
  pub onto : new ≡ with_received came (taking place port bytes ∷ others)

come_at : (place : FtpPlace) (data_link : DataLink) (came : List ℕ) (link new_link : LinkState) (count : ℕ) (buffer : List ℕ)
    → link.peer ≡ Some (place.host, place.port) → link.data_link ≡ data_link → ReceivesData count buffer link new_link → came ≡ take count buffer
    → new_link.exchanges ≡ data_come data_link place.host came link.exchanges
come_at place data_link came link new_link count buffer peer at receives same =
    let P : Option (List ℕ × ℕ) → Type 0 = λ to. IfSome to (λ p. new_link.exchanges ≡ data_come link.data_link p.0 (take count buffer) link.exchanges) in
    subst P peer receives.exchanges ∙ ap (λ (d : DataLink). data_come d place.host (take count buffer) link.exchanges) at
    ∙ ap (λ c. data_come data_link place.host c link.exchanges) (sym same)

pub comes_onto : (place : FtpPlace) (part : JobPart) (port got : ℕ) (before used : List Exchange) (bytes : List ℕ) (link new_link : LinkState)
    (count : ℕ) (buffer : List ℕ) → IsTaking place part port got used bytes → MayTake place port got link → Gains before link.exchanges used
    → ReceivesData count buffer link new_link → ComesOnto place part port before used bytes (take count buffer) new_link.exchanges
comes_onto place part port got before used bytes link new_link count buffer is may gains receives = elim is.comes [
  | inl first ↦
      let none : bytes ≡ [] = none_of bytes (omega (arith, is.got_is, first.0)) in
      record {
        older = used;
        others = link.exchanges;
        gains = gains;
        leads = first.1;
        received_is = omega (arith, ap length none);
        onto = come_at place (Dialled port) (take count buffer) link new_link count buffer may.peer (may.first first.0) receives refl
            ∙ ap (λ b. with_received (take count buffer) (taking place port b ∷ link.exchanges)) (sym none);
      }
  | inr more ↦
      let top = gains_last more.1 before link.exchanges (taking place port bytes) (subst (λ all. Gains before link.exchanges all) more.2 gains) in
      record {
        older = more.1;
        others = top.0;
        gains = top.2;
        leads = more.3;
        received_is = ap received_by more.2 ∙ received_one more.1 (taking place port bytes);
        onto = come_at place (Gives port) (take count buffer) link new_link count buffer may.peer (may.more more.0) receives refl
            ∙ ap (with_received (take count buffer)) top.1;
      }
]

module _ (place : FtpPlace) (part : JobPart) (port : ℕ) (before used : List Exchange) (bytes came : List ℕ) (new : List Exchange) where
  grown : 0 < length came → (others : List Exchange) → new ≡ with_received came (taking place port bytes ∷ others)
      → new ≡ taking place port (bytes ++ came) ∷ others
  grown some others onto = by_came came some onto
    where
      by_came : (c : List ℕ) → 0 < length c → new ≡ with_received c (taking place port bytes ∷ others) → new ≡ taking place port (bytes ++ c) ∷ others
      by_came [] some onto = absurd (omega (arith, some))
      by_came (byte ∷ c) some onto = onto

  -- some came, of which more is due
  pub taken_more : (got was taken : ℕ) → ComesOnto place part port before used bytes came new → 0 < length came → got ≡ length bytes + length came
      → taken ≡ was + length came → StepsTo before used new was taken (λ later. IsTaking place part port got later (bytes ++ came))
  taken_more got was taken is some got_is count =
      let newest : Exchange = taking place port (bytes ++ came) in
      let long = length-append bytes came in
      record {
        later = is.older ++ newest ∷ [];
        gains = more_gains before is.others new is.older newest (grown some is.others is.onto) is.gains;
        taken_is = omega (arith, is.received_is, received_one is.older newest, long, count);
        holds = record {
          got_is = omega (arith, got_is, long);
          comes = inr (omega (arith, got_is, some), is.older, refl, is.leads);
        };
      }

  -- all came
  pub taken_all : (was taken : ℕ) → ComesOnto place part port before used bytes came new → 0 < length came → part.len ≡ length bytes + length came
      → taken ≡ was + length came → StepsTo before used new was taken (λ later. FtpFetched place part later (bytes ++ came) Done [])
  taken_all was taken is some all count =
      let newest : Exchange = taking place port (bytes ++ came) in
      let long = length-append bytes came in
      record {
        later = is.older ++ newest ∷ [];
        gains = more_gains before is.others new is.older newest (grown some is.others is.onto) is.gains;
        taken_is = omega (arith, is.received_is, received_one is.older newest, long, count);
        holds = data_done place part is.older port (bytes ++ came) is.leads (omega (arith, long, all));
      }

-- the end was told before all came
pub taken_short : (place : FtpPlace) (part : JobPart) (port : ℕ) (before used : List Exchange) (bytes came : List ℕ) (new : List Exchange) (got was taken : ℕ)
    → came ≡ [] → ComesOnto place part port before used bytes came new → got ≡ length bytes → got < part.len → taken ≡ was
    → StepsTo before used new was taken (λ later. FtpFetched place part later (bytes ++ []) (Lost (Short got)) [])
taken_short place part port before used bytes came new got was taken none is got_is short same =
    let newest : Exchange = ended_taking place part port bytes in
    let all : FtpFetched place part (is.older ++ newest ∷ []) bytes (Lost (Short (length bytes))) [] =
    data_short place part is.older port bytes is.leads (omega (arith, short, got_is)) in
    let P : List ℕ → Type 0 = λ b. FtpFetched place part (is.older ++ newest ∷ []) b (Lost (Short got)) [] in
    let Q : ℕ → Type 0 = λ n. FtpFetched place part (is.older ++ newest ∷ []) bytes (Lost (Short n)) [] in
    record {
      later = is.older ++ newest ∷ [];
      gains = more_gains before is.others new is.older newest
          (is.onto ∙ ap (λ c. with_received c (taking place port bytes ∷ is.others)) none) is.gains;
      taken_is = omega (arith, is.received_is, received_one is.older newest, same);
      holds = subst P (sym (append-nil bytes)) (subst Q (sym got_is) all);
    }

-- each exchange has its answer still
pub data_keeps : DataKeepsAnswers → MoreDataKeepsAnswers → (place : FtpPlace) (part : JobPart) (port got : ℕ) (before used : List Exchange) (bytes : List ℕ)
    (link new_link : LinkState) (count : ℕ) (buffer : List ℕ) → IsTaking place part port got used bytes → MayTake place port got link
    → Gains before link.exchanges used → count ≤ length buffer → ReceivesData count buffer link new_link
    → (since : List Exchange) → length since ≤ length before → KeepsAnswers since link new_link
data_keeps keeps keeps_more place part port got before used bytes link new_link count buffer is may gains within receives since few = elim is.comes [
  | inl first ↦ keeps since link new_link (record {
    host = place.host;
    control = place.port;
    peer = may.peer;
    port = port;
    data_link = may.first first.0;
    count = count;
    buffer = buffer;
    within = within;
    receives = receives;
  })
  | inr more ↦
      let top = gains_last more.1 before link.exchanges (taking place port bytes) (subst (λ all. Gains before link.exchanges all) more.2 gains) in
      keeps_more since link new_link (record {
        host = place.host;
        control = place.port;
        peer = may.peer;
        port = port;
        data_link = may.more more.0;
        stream = taking place port bytes;
        others = top.0;
        on_top = top.1;
        behind = omega (arith, few, gains_more before top.0 more.1 top.2);
        request_is = refl;
        fresh_is = refl;
        heard = λ none. omega (arith, ap length none, is.got_is, more.0);
        count = count;
        buffer = buffer;
        within = within;
        receives = receives;
      })
]

-- the link failed
pub data_fails : (place : FtpPlace) (part : JobPart) (port got : ℕ) (before used now new : List Exchange) (bytes : List ℕ) (was taken faults : ℕ) (loss : Loss)
    → IsTaking place part port got used bytes → got < part.len → Gains before now used → new ≡ now → taken ≡ was → (error : IoErr) × (loss ≡ loss_by faults error)
    → StepsTo before used new was taken (λ later. TellsFtpLoss place part later (bytes ++ []) faults loss)
data_fails place part port got before used now new bytes was taken faults loss is short gains same none by =
    let stands = taking_tells place part port got used bytes short is in
    let P : List ℕ → Type 0 = λ b. TellsFtpLoss place part used b faults loss in
    let Q : Loss → Type 0 = λ l. TellsFtpLoss place part used bytes faults l in
    record {
      later = used;
      gains = same_gains before now new used same gains;
      taken_is = omega (arith, none);
      holds = subst P (sym (append-nil bytes)) (subst Q (sym by.1) (by_error by.0 stands));
    }
  where
    by_error : (e : IoErr) → FtpFetched place part used bytes Open [] → TellsFtpLoss place part used bytes faults (loss_by faults e)
    by_error Fault stands = (stands, refl)
    by_error NoMemory stands = tt
