-- How many bytes are fetched.
use Rattle.std.proofs.Common.{◌≡◌, ◌≢◌, ℕ, ◌+◌, ◌-◌, ◌<◌, ◌≤◌, List, [], ◌∷◌, ◌++◌, length, Option, Some, None, All, refl, sym, ap, subst, ◌∙◌, inl, inr, arith, ⊎_elim}
use Rattle.std.proofs.lemmas.Bool.{cases_lt, cond_both, cond-true, eq-eqb}
use Rattle.std.proofs.lemmas.Bool.Decides.{nat_tests}
use Rattle.std.proofs.lemmas.List.{length-append}
use Rattle.std.proofs.lemmas.List.Elements.{All-nil, All-head, All-tail}
use Rattle.std.proofs.lemmas.List.Sums.{sum_by-cons}
use Rattle.std.specs.Prelude.{nat_lt, nat_le, ◌==◌}
use Rattle.link_source.specs.Exchanges.{Exchange}
use Rattle.span_map.specs.declared.jobs.JobPart.{JobPart}
use Rattle.reply_reader.specs.Answers.{Turn, Due, Given, Away, Lost as LostTurn, Answer}
use Rattle.reply_reader.specs.Fills.{AnswerFills, AnswersFill}
use Rattle.reply_reader.specs.declared.loss.Loss.{Loss}
use Rattle.reply_reader.specs.declared.loss.Loss.TheVariants.{Redirects}
use Rattle.span_map.specs.Jobs.{IsJobPart, parts_len}
use Rattle.request_chain.specs.Exchanges.{Replies}
use Rattle.request_chain.specs.Fetched.{FetchedBy}
use Rattle.request_chain.specs.Plans.{FetchEnding, Done, Open, Lost, NextAsk, Ask, Over, plan_of, plan_behind, plan_at, rest_behind, asked_of, next_plan, unusable}
use Rattle.request_chain.specs.Redirects.{moved_to}
use Rattle.request_chain.specs.declared.course.TheConstants.{REDIRECT_LIMIT}
use Rattle.ftp_fetches.specs.DialogueLaws.{FtpFetchedFits}
use Rattle.ftp_fetches.specs.Dialogues.{Dialogue, data_ending, dialogue_behind, FtpFetchedBy}
use Rattle.ftp_fetches.specs.Dialogues as dialogues
use Rattle.ftp_steps.specs.declared.step.FtpStep.TheVariants.{Greeting}
use Rattle.ftp_places.specs.Places.{ftp_place}
use Rattle.ftp_places.specs.declared.place.FtpPlace.{FtpPlace}
use Rattle.part_fetches.specs.Fetched.{Fetched, FetchedAt, FetchedPart}
use Rattle.part_fetches.specs.Laws.{Fits, FetchedFits, PartFits}

len_of-cons : (part : JobPart) (parts : List JobPart) → parts_len (part ∷ parts) ≡ part.len + parts_len parts
len_of-cons part parts = sum_by-cons (λ (part : JobPart). part.len) part parts

-- what came by a request, and the rest by other parts
joined : (parts others : List JobPart) (got more : List ℕ) (ending : FetchEnding) → length got + parts_len others ≡ parts_len parts → Fits others more ending → Fits parts (got ++ more) ending
joined parts others got more ending is fits =
    let few : length more ≤ parts_len others = fits.few in
    record {
      few = omega (arith, length-append got more, few, is);
      all = λ done. let all = fits.all done in omega (arith, length-append got more, all, is);
      full = λ full. fits.full (omega (arith, length-append got more, full, is));
    }

-- not all came, and nothing more does
cut_short : (part : JobPart) (parts : List JobPart) (got more : List ℕ) (ending : FetchEnding) → more ≡ [] → ending ≢ Done → length got < part.len → Fits (part ∷ parts) (got ++ more) ending
cut_short part parts got more ending none not_done short =
    let no_more : length more ≡ 0 = ap length none in
    record {
      few = omega (arith, length-append got more, no_more, short, len_of-cons part parts);
      all = λ done. absurd (not_done done);
      full = λ full. absurd (omega (arith, length-append got more, no_more, short, full, len_of-cons part parts));
    }

open_not_done : (ending : FetchEnding) → ending ≡ Open → ending ≢ Done
open_not_done ending is done = cc

lost_not_done : (ending : FetchEnding) (loss : Loss) → ending ≡ Lost loss → ending ≢ Done
lost_not_done ending loss is done = cc

-- the parts fit over these streams, whatever is asked first
abbrev FitOver : List Exchange → Type 0
FitOver streams = (part : JobPart) (parts : List JobPart) (url : List ℕ) (count status : ℕ) (bytes : List ℕ) (ending : FetchEnding) (rest : List Exchange)
    → IsJobPart part → All IsJobPart parts → FetchedBy (Ask part parts url count status) streams bytes ending rest → Fits (part ∷ parts) bytes ending

-- the parts, from the first on
plan_fits : (streams : List Exchange) → FitOver streams → (parts : List JobPart) (bytes : List ℕ) (ending : FetchEnding) (rest : List Exchange) → All IsJobPart parts
    → FetchedBy (plan_of parts) streams bytes ending rest → Fits parts bytes ending
plan_fits streams fit [] bytes ending rest are fetched =
    let none : length bytes ≡ 0 = ap length fetched.0 in
    record { few = omega (arith, none); all = λ _. none; full = λ _. fetched.1 }
plan_fits streams fit (part ∷ parts) bytes ending rest are fetched =
    fit part parts part.url 0 0 bytes ending rest (All-head IsJobPart part parts are) (All-tail IsJobPart part parts are) fetched

module _ (streams : List Exchange) (fit : FitOver streams) (part : JobPart) (parts : List JobPart) (url : List ℕ) (count : ℕ) (is_part : IsJobPart part) (are : All IsJobPart parts) (more : List ℕ) (ending : FetchEnding) (left : List Exchange) where
  -- where all came up to a place
  behind_fits : (got : List ℕ) (last : ℕ) → part.at ≤ last → last ≤ part.at + part.len - 1 → length got ≡ last + 1 - part.at
      → FetchedBy (plan_behind part parts last) streams more ending left → Fits (part ∷ parts) (got ++ more) ending
  behind_fits got last begins ends is =
      let some : 0 < part.len = is_part.some in
      let within : part.at + part.len ≤ part.total = is_part.within in
      cond_both (nat_lt last (part.at + part.len - 1)) (plan_of (rest_behind part last ∷ parts)) (plan_of parts)
      (λ (plan : NextAsk). FetchedBy plan streams more ending left → Fits (part ∷ parts) (got ++ more) ending)
      (λ less fetched.
      let below : last < part.at + part.len - 1 = grind (arith, nat_tests) in
      let rest : IsJobPart (rest_behind part last) = record { some = omega arith; within = omega arith } in
      joined (part ∷ parts) (rest_behind part last ∷ parts) got more ending (omega (arith, len_of-cons part parts, len_of-cons (rest_behind part last) parts, is))
      (fit (rest_behind part last) parts part.url 0 0 more ending left rest are fetched))
      (λ all fetched.
      let at : part.at + part.len - 1 ≤ last = grind (arith, nat_tests) in
      joined (part ∷ parts) parts got more ending (omega (arith, len_of-cons part parts, is)) (plan_fits streams fit parts more ending left are fetched))

  -- where it was moved
  at_fits : (got : List ℕ) (status : ℕ) (moved : Option (List ℕ)) → got ≡ [] → FetchedBy (plan_at part parts (count + 1) status moved) streams more ending left
      → Fits (part ∷ parts) (got ++ more) ending
  at_fits got status None none fetched =
      let no_bytes : length got ≡ 0 = ap length none in
      let some : 0 < part.len = is_part.some in
      cut_short part parts got more ending fetched.0 (lost_not_done ending (unusable status) fetched.1) (omega (arith, no_bytes))
  at_fits got status (Some url') none fetched =
      let P : List ℕ → Type 0 = λ bytes. Fits (part ∷ parts) (bytes ++ more) ending in
      subst P (sym none) (fit part parts url' (count + 1) status more ending left is_part are fetched)

  away_fits : (got : List ℕ) (status : ℕ) (location : List ℕ) → got ≡ [] → FetchedBy (next_plan part parts url count (Away status location)) streams more ending left
      → Fits (part ∷ parts) (got ++ more) ending
  away_fits got status location none =
      let no_bytes : length got ≡ 0 = ap length none in
      let some : 0 < part.len = is_part.some in
      cond_both (nat_le REDIRECT_LIMIT count) (Over (Lost Redirects)) (plan_at part parts (count + 1) status (moved_to url location))
      (λ (plan : NextAsk). FetchedBy plan streams more ending left → Fits (part ∷ parts) (got ++ more) ending)
      (λ often fetched. cut_short part parts got more ending fetched.0 (lost_not_done ending Redirects fetched.1) (omega (arith, no_bytes)))
      (λ few fetched. at_fits got status (moved_to url location) none fetched)

  -- less than was asked for
  short_got : (answer : Answer) → AnswerFills (asked_of part) answer → answer.turn ≢ Given (part.at + part.len - 1) → length answer.got < part.len
  short_got answer fills not =
      let some : 0 < part.len = is_part.some in
      let few : length answer.got ≤ part.at + part.len - 1 + 1 - part.at = fills.few in
      ⊎_elim (λ (less : length answer.got < part.len). less) (λ (ge : part.len ≤ length answer.got). absurd (not (fills.full (omega arith)))) (cases_lt (length answer.got) part.len)

  turn_fits : (answer : Answer) (turn : Turn) → answer.turn ≡ turn → AnswerFills (asked_of part) answer
      → FetchedBy (next_plan part parts url count turn) streams more ending left → Fits (part ∷ parts) (answer.got ++ more) ending
  turn_fits answer Due is fills fetched =
      cut_short part parts answer.got more ending fetched.0 (open_not_done ending fetched.1) (short_got answer fills (λ given. cc))
  turn_fits answer (Given last) is fills fetched =
      let given = fills.given last is in behind_fits answer.got last given.0 given.1 given.2 fetched
  turn_fits answer (Away status location) is fills fetched = away_fits answer.got status location (fills.away status location is) fetched
  turn_fits answer (LostTurn loss) is fills fetched =
      cut_short part parts answer.got more ending fetched.0 (lost_not_done ending loss fetched.1) (short_got answer fills (λ given. cc))

-- where as many bytes came as the part has, all came by the dialogue
none_full : {A : Type 0} (part : JobPart) (bytes : List ℕ) → 0 < part.len → length bytes ≡ part.len → bytes ≡ [] → A
none_full part bytes some full none = absurd (omega (arith, some, full, ap length none))

dialogue_full : (place : FtpPlace) (part : JobPart) (streams : List Exchange) (next : Dialogue) (rest : List Exchange) (bytes : List ℕ) (ending : FetchEnding)
    → 0 < part.len → length bytes ≡ part.len → FtpFetchedBy place part next streams bytes ending rest → ending ≡ Done
dialogue_full place part streams (dialogues.Over Done) rest bytes ending some full fetched = fetched.1
dialogue_full place part streams (dialogues.Over Open) rest bytes ending some full fetched = none_full part bytes some full fetched.0
dialogue_full place part streams (dialogues.Over (Lost loss)) rest bytes ending some full fetched = none_full part bytes some full fetched.0
dialogue_full place part [] (dialogues.At step port) rest bytes ending some full fetched = none_full part bytes some full fetched.0
dialogue_full place part (stream ∷ streams) (dialogues.At step port) rest bytes ending some full fetched =
    dialogue_full place part streams (dialogue_behind part port fetched.0) rest bytes ending some full fetched.2
dialogue_full place part [] (dialogues.Data port) rest bytes ending some full fetched = none_full part bytes some full fetched.0
dialogue_full place part (stream ∷ streams) (dialogues.Data port) rest bytes ending some full fetched =
    let all : length stream.received ≡ part.len = sym (ap length fetched.1) ∙ full in
    let done : data_ending part stream ≡ Done = cond-true (length stream.received == part.len) _ _ (eq-eqb (length stream.received) part.len all) in
    let P : FetchEnding → Type 0 = λ how. FtpFetchedBy place part (dialogues.Over how) streams [] ending rest in
    (subst P done fetched.2).1

module _ (fill : AnswersFill) (fit : FtpFetchedFits) where
  reply_fills : (part : JobPart) (url : List ℕ) (stream : Exchange) (answer : Answer) → IsJobPart part → Replies url (asked_of part) stream answer → AnswerFills (asked_of part) answer
  reply_fills part url stream answer is_part replies =
      let some : 0 < part.len = is_part.some in
      fill (asked_of part) stream.received stream.ended answer (omega arith) replies.1

  fit_over : (streams : List Exchange) → FitOver streams
  fit_over [] part parts url count status bytes ending rest is_part are fetched =
      let some : 0 < part.len = is_part.some in
      let none : length bytes ≡ 0 = ap length fetched.0 in
      let not_done : ending ≢ Done = elim fetched.1 [ inl usable ↦ open_not_done ending usable.1 | inr lost ↦ lost_not_done ending (unusable status) lost.1 ] in
      cut_short part parts [] bytes ending fetched.0 not_done some
  fit_over (stream ∷ streams) part parts url count status bytes ending rest is_part are (inl vain) =
      fit_over streams part parts url count status bytes ending rest is_part are vain.1
  fit_over (stream ∷ streams) part parts url count status bytes ending rest is_part are (inr fetched) =
      let answer : Answer = fetched.0 in
      let more : List ℕ = fetched.1 in
      let P : List ℕ → Type 0 = λ all. Fits (part ∷ parts) all ending in
      subst P (sym fetched.3)
      (turn_fits streams (fit_over streams) part parts url count is_part are more ending rest answer answer.turn refl
      (reply_fills part url stream answer is_part fetched.2) fetched.4)

  fits_at : (place : Option FtpPlace) (part : JobPart) (streams rest : List Exchange) (bytes : List ℕ) (ending : FetchEnding) → IsJobPart part
      → FetchedAt place part streams bytes ending rest → Fits (part ∷ []) bytes ending
  fits_at None part streams rest bytes ending is_part fetched =
      fit_over streams part [] part.url 0 0 bytes ending rest is_part (All-nil IsJobPart) fetched
  fits_at (Some place) part streams rest bytes ending is_part fetched =
      let one = fit place part streams rest bytes ending fetched in
      let few : length bytes ≤ part.len = one.few in
      let some : 0 < part.len = is_part.some in
      let alone = len_of-cons part [] in
      record {
        few = omega (arith, few, alone);
        all = λ done. let all : length bytes ≡ part.len = one.all done in omega (arith, all, alone);
        full = λ full. dialogue_full place part streams (dialogues.At Greeting 0) rest bytes ending some (omega (arith, full, alone)) fetched;
      }

  part_fits : (part : JobPart) (streams rest : List Exchange) (bytes : List ℕ) (ending : FetchEnding) → IsJobPart part
      → FetchedPart part streams bytes ending rest → Fits (part ∷ []) bytes ending
  unfolding FetchedPart
  part_fits part streams rest bytes ending is_part fetched =
      fits_at (ftp_place part.url) part streams rest bytes ending is_part fetched

  pub part_fits_own : PartFits
  part_fits_own = λ part streams rest bytes ending is_part fetched.
      let fits = part_fits part streams rest bytes ending is_part fetched in
      let few : length bytes ≤ parts_len (part ∷ []) = fits.few in
      let alone = len_of-cons part [] in
      record {
        few = omega (arith, few, alone);
        all = λ done. let all = fits.all done in omega (arith, all, alone);
        full = λ full. fits.full (omega (arith, full, alone));
      }

  -- where a part isn't done, the parts aren't
  undone_fits : (part : JobPart) (parts : List JobPart) (bytes : List ℕ) (ending : FetchEnding) → ending ≢ Done → Fits (part ∷ []) bytes ending
      → Fits (part ∷ parts) bytes ending
  undone_fits part parts bytes ending undone fits =
      let few : length bytes ≤ parts_len (part ∷ []) = fits.few in
      let one = len_of-cons part [] in
      let short : length bytes < part.len =
      ⊎_elim (λ (less : length bytes < part.len). less) (λ (ge : part.len ≤ length bytes). absurd (undone (fits.full (omega (arith, few, ge, one))))) (cases_lt (length bytes) part.len) in
      record {
        few = omega (arith, short, len_of-cons part parts);
        all = λ done. absurd (undone done);
        full = λ full. absurd (omega (arith, full, short, len_of-cons part parts));
      }

  parts_fit : (parts : List JobPart) (streams rest : List Exchange) (bytes : List ℕ) (ending : FetchEnding) → All IsJobPart parts
      → Fetched parts streams bytes ending rest → Fits parts bytes ending
  parts_fit [] streams rest bytes ending are fetched =
      let none : length bytes ≡ 0 = ap length fetched.0 in
      record { few = omega (arith, none); all = λ _. none; full = λ _. fetched.1 }
  parts_fit (part ∷ parts) streams rest bytes ending are (inl short) =
      undone_fits part parts bytes ending short.1 (part_fits part streams rest bytes ending (All-head IsJobPart part parts are) short.0)
  parts_fit (part ∷ parts) streams rest bytes ending are (inr (own, more, left, came, is, later)) =
      let one : length own ≡ parts_len (part ∷ []) = (part_fits part streams left own Done (All-head IsJobPart part parts are) came).all refl in
      let P : List ℕ → Type 0 = λ all. Fits (part ∷ parts) all ending in
      subst P (sym is) (joined (part ∷ parts) parts own more ending (omega (arith, one, len_of-cons part [], len_of-cons part parts))
      (parts_fit parts left rest more ending (All-tail IsJobPart part parts are) later))

  pub fetched_fits : FetchedFits
  fetched_fits = λ parts streams rest bytes ending are fetched. parts_fit parts streams rest bytes ending are fetched
