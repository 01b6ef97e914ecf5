-- A call of a talk, by its steps.
use Rattle.std.proofs.Common.{◌≡◌, ℕ, ◌<◌, ◌≤◌, Bool, true, List, [], ◌++◌, length, sym, subst, ◌∙◌, inl, inr, arith, append_assoc, append-nil}
use Rattle.std.proofs.lemmas.Bool.{cases_lt}
use Rattle.std.specs.Prelude.{◌⊎◌, Result, Ok, Err, Some, None}
use Rattle.link_source.specs.Link.{LinkState, Shut, Dialled, Gives, HasData}
use Rattle.link_source.specs.Exchanges.{Exchange}
use Rattle.span_map.specs.declared.jobs.JobPart.{JobPart}
use Rattle.reply_reader.specs.declared.loss.Loss.{Loss}
use Rattle.request_chain.specs.Chains.{Gains}
use Rattle.request_chain.specs.Plans.{FetchEnding, Done}
use Rattle.ftp_places.specs.declared.place.FtpPlace.{FtpPlace}
use Rattle.ftp_fetches.specs.Dialogues.{FtpFetched}
use Rattle.ftp_link.specs.Reads.{ReadsTalk, LosesTalk}
use Rattle.ftp_steps.specs.declared.step.FtpStep.{FtpStep}
use Rattle.ftp_steps.specs.declared.turn.FtpTurn.{FtpTurn}
use Rattle.ftp_steps.specs.declared.turn.FtpTurn.TheVariants.{Due}
use Rattle.ftp_link.specs.Stages.{IsTalkAt, IsHearing, IsTaking, MayGoOnAt, MayHear, MayTake}
use Rattle.ftp_link.specs.Talks.{HasTalked, MayTalk, HearsTurn, TalkSteps, TalkLoses, TalksOrLoses, TellsFtpLoss}
use Rattle.ftp_link.specs.declared.stage.TalkStage.{TalkStage}
use Rattle.ftp_link.specs.declared.stage.TalkStage.TheVariants.{Hearing, Taking, Over}
use Rattle.ftp_link.specs.declared.talk.FtpTalk.{FtpTalk}
use Rattle.ftp_link.proofs.DialogueLemmas.{stage_tells}
use Rattle.ftp_link.proofs.GainLemmas.{same_gains}

-- no step yet
pub no_steps : (talk : FtpTalk) (before used now : List Exchange) (bytes : List ℕ) → talk.taken ≡ 0 → HasTalked talk used bytes → Gains before now used
    → TalkSteps before used bytes now [] 0 talk
no_steps talk before used now bytes none has gains = record {
  later = used;
  gains = gains;
  taken_is = omega (arith, none);
  has_talked = subst (λ b. HasTalked talk used b) (sym (append-nil bytes)) has;
}

-- steps, and one more
pub steps_go_on : (talk next : FtpTalk) (before used now new : List Exchange) (bytes added more : List ℕ) → (steps : TalkSteps before used bytes now added 0 talk)
    → TalkSteps before steps.later (bytes ++ added) new more talk.taken next → TalkSteps before used bytes new (added ++ more) 0 next
steps_go_on talk next before used now new bytes added more steps last = record {
  later = last.later;
  gains = last.gains;
  taken_is = omega (arith, steps.taken_is, last.taken_is);
  has_talked = subst (λ b. HasTalked next last.later b) (append_assoc bytes added more) last.has_talked;
}

-- steps, and a last one that lost the rest
pub steps_lose : (talk next : FtpTalk) (before used now new : List Exchange) (bytes added more : List ℕ) (faults : ℕ) (loss : Loss)
    → (steps : TalkSteps before used bytes now added 0 talk) → TalkLoses before steps.later (bytes ++ added) new more talk.taken faults next loss
    → TalkLoses before used bytes new (added ++ more) 0 faults next loss
steps_lose talk next before used now new bytes added more faults loss steps lost = record {
  later = lost.later;
  gains = lost.gains;
  taken_is = omega (arith, steps.taken_is, lost.taken_is);
  tells = subst (λ b. TellsFtpLoss next.place next.part lost.later b faults loss) (append_assoc bytes added more) lost.tells;
}

-- of the part that the talk was begun for
pub call_loses : (place : FtpPlace) (part : JobPart) (talk : FtpTalk) (before used now new : List Exchange) (bytes added : List ℕ) (allow faults new_faults : ℕ) (loss : Loss)
    → talk.place ≡ place → talk.part ≡ part → talk.taken ≤ allow → new ≡ now → new_faults ≡ faults
    → TalkLoses before used bytes now added 0 faults talk loss → LosesTalk place part before used bytes new added allow new_faults talk loss
call_loses place part talk before used now new bytes added allow faults new_faults loss place_is part_is few same same_faults lost =
    let P : FtpPlace → Type 0 = λ p. TellsFtpLoss p part lost.later (bytes ++ added) faults loss in
    let Q : JobPart → Type 0 = λ q. TellsFtpLoss talk.place q lost.later (bytes ++ added) faults loss in
    record {
      later = lost.later;
      gains = same_gains before now new lost.later same lost.gains;
      taken = omega (arith, lost.taken_is);
      few = few;
      tells = subst (λ n. TellsFtpLoss place part lost.later (bytes ++ added) n loss) (sym same_faults) (subst P place_is (subst Q part_is lost.tells));
    }

pub call_reads : (place : FtpPlace) (part : JobPart) (talk : FtpTalk) (before used now new : List Exchange) (bytes added : List ℕ) (room allow : ℕ) (done : Bool)
    → talk.place ≡ place → talk.part ≡ part → talk.taken ≤ allow → new ≡ now
    → (done ≡ true → talk.stage ≡ Over)
    → ((done ≡ true) ⊎ ((length added ≡ room) ⊎ (talk.taken ≡ allow)))
    → TalkSteps before used bytes now added 0 talk
    → ReadsTalk place part before used bytes new added room allow (record { taken = talk.taken; done = done }) talk
call_reads place part talk before used now new bytes added room allow done place_is part_is few same over full steps =
    let told = stage_tells talk.place talk.part talk.stage talk.port talk.got talk.room.heard.items steps.later (bytes ++ added) talk.due steps.has_talked in
    let of_part : (ending : FetchEnding) → FtpFetched talk.place talk.part steps.later (bytes ++ added) ending []
    → FtpFetched place part steps.later (bytes ++ added) ending [] = λ ending fetched.
    let P : FtpPlace → Type 0 = λ p. FtpFetched p part steps.later (bytes ++ added) ending [] in
    let Q : JobPart → Type 0 = λ q. FtpFetched talk.place q steps.later (bytes ++ added) ending [] in
    subst P place_is (subst Q part_is fetched) in
    let R : TalkStage → Type 0 = λ stage. IsTalkAt stage talk.place talk.part talk.port talk.room.heard.items talk.got steps.later (bytes ++ added) in
    record {
      later = steps.later;
      gains = same_gains before now new steps.later same steps.gains;
      ending = told.0;
      brought = of_part told.0 told.1;
      taken = omega (arith, steps.taken_is);
      few = few;
      full = full;
      goes_on = inr (record { place_is = place_is; part_is = part_is; has_talked = steps.has_talked });
      done = λ all. of_part Done (subst R (over all) steps.has_talked);
    }

-- ---- what a reply led to

-- behind a reply that was heard, so it goes on
pub turn_goes_on : {T : Type 0} → (result : Result T Loss) (before used now : List Exchange) (bytes : List ℕ) (was faults : ℕ) (talk next : FtpTalk) (turn : FtpTurn)
    (link : LinkState) → (heard : HearsTurn before used bytes now was talk turn)
    → TalksOrLoses before heard.later [] [] talk.taken result next link faults → TalksOrLoses before used bytes [] was result next link faults
turn_goes_on (Ok x) before used now bytes was faults talk next turn link heard steps = record {
  later = steps.later;
  gains = steps.gains;
  taken_is = omega (arith, heard.taken_is, steps.taken_is);
  has_talked = subst (λ b. HasTalked next steps.later b) (sym (append-nil bytes ∙ heard.none)) steps.has_talked;
}
turn_goes_on (Err loss) before used now bytes was faults talk next turn link heard lost = record {
  later = lost.later;
  gains = lost.gains;
  taken_is = omega (arith, heard.taken_is, lost.taken_is);
  tells = subst (λ b. TellsFtpLoss next.place next.part lost.later b faults loss) (sym (append-nil bytes ∙ heard.none)) lost.tells;
}

-- where more of it is due
pub turn_due : (before used now : List Exchange) (bytes : List ℕ) (was : ℕ) (talk : FtpTalk) (turn : FtpTurn) → turn ≡ Due
    → HearsTurn before used bytes now was talk turn → TalkSteps before used bytes now [] was talk
turn_due before used now bytes was talk turn due heard = record {
  later = heard.later;
  gains = heard.gains;
  taken_is = heard.taken_is;
  has_talked = subst (λ b. HasTalked talk heard.later b) (sym (append-nil bytes)) (heard.due due);
}

-- ---- the link of a talk

pub may_hear : (talk : FtpTalk) (step : FtpStep) (link : LinkState) → talk.stage ≡ Hearing step → MayTalk talk link → MayHear talk.place talk.port step link
may_hear talk step link at may = subst (λ (stage : TalkStage). MayGoOnAt stage talk.place talk.port talk.got link) at may

pub may_take : (talk : FtpTalk) (link : LinkState) → talk.stage ≡ Taking → MayTalk talk link → MayTake talk.place talk.port talk.got link
may_take talk link at may = subst (λ (stage : TalkStage). MayGoOnAt stage talk.place talk.port talk.got link) at may

pub is_hearing : (talk : FtpTalk) (step : FtpStep) (used : List Exchange) (bytes : List ℕ) → talk.stage ≡ Hearing step → HasTalked talk used bytes
    → IsHearing talk.place talk.part talk.port talk.room.heard.items step used bytes
is_hearing talk step used bytes at has =
    subst (λ (stage : TalkStage). IsTalkAt stage talk.place talk.part talk.port talk.room.heard.items talk.got used bytes) at has

pub is_taking : (talk : FtpTalk) (used : List Exchange) (bytes : List ℕ) → talk.stage ≡ Taking → HasTalked talk used bytes
    → IsTaking talk.place talk.part talk.port talk.got used bytes
is_taking talk used bytes at has =
    subst (λ (stage : TalkStage). IsTalkAt stage talk.place talk.part talk.port talk.room.heard.items talk.got used bytes) at has

-- data may come
pub has_data_link : (place : FtpPlace) (port got : ℕ) (link : LinkState) → MayTake place port got link → HasData link
has_data_link place port got link may = record {
  peer = λ none. let both : Some (place.host, place.port) ≡ None = sym may.peer ∙ none in cc;
  data_link = λ shut. by_got shut (cases_lt 0 got);
}
  where
    by_got : link.data_link ≡ Shut → (0 < got) ⊎ (got ≤ 0) → ⊥
    by_got shut (inl some) = let both : Gives port ≡ Shut = sym (may.more some) ∙ shut in cc
    by_got shut (inr none) = let both : Dialled port ≡ Shut = sym (may.first (omega (arith, none))) ∙ shut in cc

pub has_heard : (talk : FtpTalk) (step : FtpStep) (used : List Exchange) (bytes : List ℕ) → talk.stage ≡ Hearing step
    → IsHearing talk.place talk.part talk.port talk.room.heard.items step used bytes → HasTalked talk used bytes
has_heard talk step used bytes at is =
    subst (λ (stage : TalkStage). IsTalkAt stage talk.place talk.part talk.port talk.room.heard.items talk.got used bytes) (sym at) is

pub has_taken : (talk : FtpTalk) (used : List Exchange) (bytes : List ℕ) → talk.stage ≡ Taking
    → IsTaking talk.place talk.part talk.port talk.got used bytes → HasTalked talk used bytes
has_taken talk used bytes at is =
    subst (λ (stage : TalkStage). IsTalkAt stage talk.place talk.part talk.port talk.room.heard.items talk.got used bytes) (sym at) is
