-- What a status alone answers: nothing comes.
use Rattle.std.proofs.Common.{◌≡◌, ◌⊎◌, ◌==◌, inl, inr, ℕ, ◌<◌, Bool, true, false, cond, List, [], ◌++◌, length, drop, Some, refl, ap, sym, subst, ◌∙◌, arith}
use Rattle.std.proofs.lemmas.Bool.{cases_Bool, cond-false, ne_eqb}
use Rattle.std.proofs.lemmas.List.{drop_all}
use Rattle.link_source.specs.Replies.{status_head}
use Rattle.range_http.specs.declared.asked.Asked.{Asked}
use Rattle.range_http.specs.declared.framing.Framing.TheVariants.{Length}
use Rattle.http_heads.specs.declared.head.Head.{Head}
use Rattle.range_http.specs.declared.verdict.Verdict.{Verdict}
use Rattle.range_http.specs.declared.verdict.Verdict.TheVariants.{Whole, WrongLength, NotFound}
use Rattle.http_heads.specs.Heads.{IsUnfinished}
use Rattle.range_http.specs.Verdict.{sized, overloaded, unauthorized, unexpected, verdict_of}
use Rattle.memory_reply_laws.specs.BadReplies.{StatusIsReadOrNone, NothingIsUnfinished, bare_verdict}
use Rattle.reply_reader.specs.Answers.{Due, Lost, Answer, Answers, head_due, without_bytes, answer_by}
use Rattle.reply_reader.specs.HeadLaws.{HasOneFinalHead, FinalHeadIsNotDue, FinalHeadIsThere, FinalHeadStays}
use Rattle.reply_reader.specs.Heads.{HasFinalHead, HasInterims, is_interim}
use Rattle.reply_reader.specs.declared.loss.Loss.{Loss}
use Rattle.reply_reader.specs.declared.loss.Loss.TheVariants as losses

-- the laws of final heads and of statuses alone that are used
pub record HeadFacts : Type 0 where
  pub one : HasOneFinalHead
  pub not_due : FinalHeadIsNotDue
  pub there : FinalHeadIsThere
  pub stays : FinalHeadStays
  pub status : StatusIsReadOrNone
  pub nothing : NothingIsUnfinished

-- no byte came, and more is due or the rest is lost
pub record IsLostOrDue (answer : Answer) : Type 0 where
  pub none : answer.got ≡ []
  pub turn : (answer.turn ≡ Due) ⊎ ((loss : Loss) × (answer.turn ≡ Lost loss))

lost : (loss : Loss) → IsLostOrDue (without_bytes (Lost loss))
lost loss = record { none = refl; turn = inr (loss, refl) }

due-head : (ended : Bool) → IsLostOrDue (head_due ended)
due-head true = lost (losses.Short 0)
due-head false = record { none = refl; turn = inl refl }

pub either : (test : Bool) (a b : Verdict) (P : Verdict → Type 0) → P a → P b → P (cond test a b)
either true a b P p q = p
either false a b P p q = q

-- the verdict on such a head gives no byte
verdict-lost : (head : Head) (asked : Asked) (status total : ℕ) (stream : List ℕ) (ended : Bool) → asked.total ≡ Some total → 0 < total
    → IsLostOrDue (answer_by head asked (bare_verdict status asked) stream ended)
verdict-lost head asked status total stream ended known some =
    let P : Verdict → Type 0 = λ verdict. IsLostOrDue (answer_by head asked verdict stream ended) in
    let length : sized asked.total (Some 0) (Whole (Some 0) (Length 0)) ≡ WrongLength 0 =
    ap (λ t. sized t (Some 0) (Whole (Some 0) (Length 0))) known ∙ cond-false (0 == total) _ _ (ne_eqb 0 total (λ e. omega (arith, e, some))) in
    either (status == 404) NotFound _ P (lost losses.NotFound)
    (either (status == 401) unauthorized _ P (lost (losses.Refused head.status _))
    (either (status == 503) overloaded _ P (lost (losses.Refused head.status _))
    (either (status == 200) _ unexpected P (subst P (sym length) (lost (losses.Length 0 _))) (lost (losses.Refused head.status _)))))

module _ (facts : HeadFacts) where
  -- the final head that a status alone has, as it is read
  pub bare_head : (status : ℕ) (asked : Asked) (head : Head) (used : ℕ) → HasFinalHead (status_head status) head used
      → (told : ℕ) × (verdict_of head asked ≡ bare_verdict told asked)
  unfolding HasInterims
  bare_head status asked head used final = elim (facts.status status asked) [
    | inr none ↦
        absurd (facts.there (status_head status) head used final
        (inl (0, record { count = 0; few = omega arith; interims = refl }, none)))
    | inl (told, has) ↦
        let all = length (status_head status) in
        elim (cases_Bool (is_interim has.head)) [
          | inl interim ↦
              let interims : HasInterims (status_head status) 1 all = (has.head, all, 0, has.begins, interim, refl, omega arith) in
              let unfinished : IsUnfinished (drop all (status_head status)) = subst IsUnfinished (sym (drop_all all (status_head status) (omega arith))) facts.nothing in
              absurd (facts.not_due (status_head status) head used final
              (record { before = all; interims = record { count = 1; few = omega arith; interims = interims }; unfinished = unfinished }))
          | inr last ↦
              let other : HasFinalHead (status_head status) has.head all = record {
                before = 0;
                size = all;
                interims = record { count = 0; few = omega arith; interims = refl };
                begins = has.begins;
                final = last;
                takes = omega arith;
              } in
              let same : head ≡ has.head = (facts.one (status_head status) head has.head used all final other).0 in
              (told, ap (λ h. verdict_of h asked) same ∙ has.means)
        ]
  ]

  -- the same of a front of it
  pub bare_front : (status : ℕ) (asked : Asked) (received due : List ℕ) (head : Head) (used : ℕ) → status_head status ≡ received ++ due → HasFinalHead received head used
      → (told : ℕ) × (verdict_of head asked ≡ bare_verdict told asked)
  bare_front status asked received due head used is final =
      bare_head status asked head used (subst (λ r. HasFinalHead r head used) (sym is) (facts.stays received due head used final))

  -- a front of a status alone gives no byte of what is asked for
  pub status_answers : (status total : ℕ) (asked : Asked) (received due : List ℕ) (ended : Bool) (answer : Answer) → asked.total ≡ Some total → 0 < total
      → status_head status ≡ received ++ due → Answers asked received ended answer → IsLostOrDue answer
  status_answers status total asked received due ended answer known some is answers = elim answers [
    | inl (due_head, same) ↦ subst IsLostOrDue (sym same) (due-head ended)
    | inr (inl (none, same)) ↦ subst IsLostOrDue (sym same) (lost losses.BadReply)
    | inr (inr headed) ↦
        let read = bare_front status asked received due headed.head headed.used is headed.begins in
        let means : answer ≡ answer_by headed.head asked (bare_verdict read.0 asked) (drop headed.used received) ended =
        headed.is ∙ ap (λ verdict. answer_by headed.head asked verdict (drop headed.used received) ended) read.1 in
        subst IsLostOrDue (sym means) (verdict-lost headed.head asked read.0 total (drop headed.used received) ended known some)
  ]
