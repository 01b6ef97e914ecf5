-- The laws of the final head of a reply.
use Rattle.std.proofs.Common.{◌≡◌, ℕ, zero, suc, ◌+◌, ◌≤◌, List, ◌++◌, length, drop, false, refl, sym, subst, arith, IsTrue, inl, inr, ⊎_elim}
use Rattle.std.proofs.Math.Seq.{take-append_seam}
use Rattle.std.proofs.lemmas.Bool.{cases_lt}
use Rattle.std.proofs.lemmas.List.{drop-append-le, length-drop}
use Rattle.http_heads.specs.HeadLaws.{HasOneHead, HeadStays, NoHeadStays, HeadIsFinished, FrontIsUnfinished, HeadStoodBefore, HeadComesWhole}
use Rattle.http_heads.specs.Heads.{IsHead, IsUnfinished, IsNoHead}
use Rattle.http_heads.specs.declared.head.Head.{Head}
use Rattle.reply_reader.specs.HeadLaws.{HasOneFinalHead, FinalHeadIsNotDue, FinalHeadIsThere, DueHeadMayCome, FinalHeadStays, NoFinalHeadStays, FrontIsDue, FinalHeadIsWithin, FinalHeadStoodBefore}
use Rattle.reply_reader.specs.Heads.{is_interim, HasInterims, HasFewInterims, HasFinalHead, IsHeadDue, IsHeadless}
use Rattle.reply_reader.specs.declared.heads.TheConstants.{INTERIM_LIMIT}
use Rattle.reply_reader.proofs.Interims.{StopsAt, stops_once, stops_soon, interims_within, interims_stay, interims_before, along, back_along}

not_interim : (head : Head) → is_interim head ≡ false → IsTrue (is_interim head) → ⊥
not_interim head final interim = cc

pub final_stops : HasOneHead → (bytes : List ℕ) (head : Head) (used : ℕ) (is : HasFinalHead bytes head used) → StopsAt bytes is.before
final_stops one bytes head used is = record {
  interims = is.interims;
  stop = λ other more also interim.
      not_interim head is.final (subst (λ (h : Head). IsTrue (is_interim h)) (one (drop is.before bytes) other head more is.size also is.begins).0 interim);
}

pub headless_stops : (bytes : List ℕ) (before : ℕ) → HasFewInterims bytes before → IsHeadless (drop before bytes) → StopsAt bytes before
headless_stops bytes before interims none = record { interims = interims; stop = λ head used is interim. none head used is }

due_stops : HeadIsFinished → (bytes : List ℕ) (is : IsHeadDue bytes) → StopsAt bytes is.before
due_stops finished bytes is = headless_stops bytes is.before is.interims (λ head used also. finished (drop is.before bytes) head used also is.unfinished)

pub one_final_head : HasOneHead → HasOneFinalHead
one_final_head one bytes head other used more a b =
    let same = stops_once one bytes b.before a.before (final_stops one bytes other more b) (final_stops one bytes head used a) in
    let both = one (drop a.before bytes) head other a.size b.size a.begins (subst (λ (n : ℕ). IsHead (drop n bytes) other b.size) same b.begins) in
    (both.0, omega (arith, a.takes, b.takes, both.1, same))

-- a final head stands behind no bytes without a head
pub final_headless : HasOneHead → (bytes : List ℕ) (head : Head) (used before : ℕ) → HasFinalHead bytes head used → HasFewInterims bytes before
    → IsHeadless (drop before bytes) → ⊥
final_headless one bytes head used before is interims none =
    let same = stops_once one bytes is.before before (final_stops one bytes head used is) (headless_stops bytes before interims none) in
    none head is.size (subst (λ (n : ℕ). IsHead (drop n bytes) head is.size) same is.begins)

pub final_head_is_not_due : HasOneHead → HeadIsFinished → FinalHeadIsNotDue
final_head_is_not_due one finished bytes head used is due =
    final_headless one bytes head used due.before is due.interims (λ other more also. finished (drop due.before bytes) other more also due.unfinished)

pub final_head_is_there : HasOneHead → FinalHeadIsThere
final_head_is_there one bytes head used is none = ⊎_elim
    (λ (before, interims, no_head). final_headless one bytes head used before is interims no_head.no_head)
    (λ (before, many). stops_soon one bytes is.before before (final_stops one bytes head used is) many)
    none

pub due_head_may_come : HasOneHead → HeadIsFinished → DueHeadMayCome
due_head_may_come one finished bytes due none =
    let stops = due_stops finished bytes due in
    ⊎_elim
    (λ (before, interims, no_head).
    let same = stops_once one bytes due.before before stops (headless_stops bytes before interims no_head.no_head) in
    no_head.no_front (subst (λ (n : ℕ). IsUnfinished (drop n bytes)) same due.unfinished))
    (λ (before, many). stops_soon one bytes due.before before stops many)
    none

few_within : HeadComesWhole → (bytes : List ℕ) (before : ℕ) → HasFewInterims bytes before → before ≤ length bytes
few_within whole bytes before is = interims_within whole is.count bytes before is.interims

pub few_stay : HeadStays → HeadComesWhole → (bytes more : List ℕ) (before : ℕ) → HasFewInterims bytes before → HasFewInterims (bytes ++ more) before
few_stay stays whole bytes more before is = record {
  count = is.count;
  few = is.few;
  interims = interims_stay stays whole is.count bytes more before is.interims;
}

pub final_head_stays : HeadStays → HeadComesWhole → FinalHeadStays
final_head_stays stays whole bytes more head used is = record {
  before = is.before;
  size = is.size;
  interims = few_stay stays whole bytes more is.before is.interims;
  begins = subst (λ (l : List ℕ). IsHead l head is.size) (sym (drop-append-le is.before bytes more (few_within whole bytes is.before is.interims)))
      (stays (drop is.before bytes) more head is.size is.begins);
  final = is.final;
  takes = is.takes;
}

pub no_final_head_stays : HeadStays → NoHeadStays → HeadComesWhole → NoFinalHeadStays
no_final_head_stays stays none_stays whole bytes more none = ⊎_elim
    (λ (before, interims, no_head). inl (
      before,
      few_stay stays whole bytes more before interims,
      subst IsNoHead (sym (drop-append-le before bytes more (few_within whole bytes before interims))) (none_stays (drop before bytes) more no_head),
    ))
    (λ (before, many). inr (before, interims_stay stays whole (suc INTERIM_LIMIT) bytes more before many))
    none

pub final_head_is_within : HeadComesWhole → FinalHeadIsWithin
final_head_is_within whole bytes head used is =
    omega (arith, is.takes, few_within whole bytes is.before is.interims, (whole (drop is.before bytes) head is.size is.begins).0, length-drop is.before bytes)

-- a final head that takes no more than the front stands in the front
pub final_head_stood : HeadStoodBefore → FinalHeadStoodBefore
final_head_stood stood bytes more head used is fits =
    let front : is.before ≤ length bytes = omega (arith, is.takes, fits) in
    let begins = subst (λ (l : List ℕ). IsHead l head is.size) (drop-append-le is.before bytes more front) is.begins in
    record {
      before = is.before;
      size = is.size;
      interims = record {
        count = is.interims.count;
        few = is.interims.few;
        interims = interims_before stood is.interims.count bytes more is.before is.interims.interims front;
      };
      begins = stood (drop is.before bytes) more head is.size begins (omega (arith, is.takes, fits, length-drop is.before bytes));
      final = is.final;
      takes = is.takes;
    }

-- behind some of the interim heads the next head was unfinished before
record WasDue (bytes : List ℕ) (n : ℕ) : Type 0 where
  before : ℕ
  count : ℕ
  less : count ≤ n
  interims : HasInterims bytes count before
  unfinished : IsUnfinished (drop before bytes)

due_at_once : (bytes : List ℕ) (n : ℕ) → IsUnfinished bytes → WasDue bytes n
unfolding HasInterims
due_at_once bytes n unfinished = record { before = 0; count = 0; less = omega arith; interims = refl; unfinished = unfinished }

due_behind : (bytes : List ℕ) (n : ℕ) (head : Head) (first : ℕ) → IsHead bytes head first → IsTrue (is_interim head) → WasDue (drop first bytes) n → WasDue bytes (suc n)
unfolding HasInterims
due_behind bytes n head first is interim due = record {
  before = first + due.before;
  count = suc due.count;
  less = omega (arith, due.less);
  interims = (head, first, due.before, is, interim, due.interims, refl);
  unfinished = back_along IsUnfinished bytes (first + due.before) first due.before refl due.unfinished;
}

due_before : FrontIsUnfinished → HeadStoodBefore → HeadComesWhole → (n : ℕ) (bytes more : List ℕ) (used : ℕ) → HasInterims (bytes ++ more) n used
    → IsUnfinished (drop used (bytes ++ more)) → WasDue bytes n
unfolding HasInterims
due_before front stood whole zero bytes more used none unfinished =
    due_at_once bytes 0 (front bytes more (subst (λ (n : ℕ). IsUnfinished (drop n (bytes ++ more))) none unfinished))
due_before front stood whole (suc n) bytes more used (head, first, rest, is, interim, others, sum) unfinished =
    elim (cases_lt (length bytes) first) [
      | inl longer ↦ due_at_once bytes (suc n) (subst IsUnfinished (take-append_seam bytes more) ((whole (bytes ++ more) head first is).2 (length bytes) longer))
      | inr fits ↦
          let same = drop-append-le first bytes more fits in
          due_behind bytes n head first (stood bytes more head first is fits) interim
          (due_before front stood whole n (drop first bytes) more rest (subst (λ (l : List ℕ). HasInterims l n rest) same others)
          (subst (λ (l : List ℕ). IsUnfinished (drop rest l)) same (along IsUnfinished (bytes ++ more) used first rest sum unfinished)))
    ]

pub front_is_due : FrontIsUnfinished → HeadStoodBefore → HeadComesWhole → FrontIsDue
front_is_due front stood whole bytes more is =
    let due = due_before front stood whole is.interims.count bytes more is.before is.interims.interims is.unfinished in
    record {
      before = due.before;
      interims = record { count = due.count; few = omega (arith, due.less, is.interims.few); interims = due.interims };
      unfinished = due.unfinished;
    }
