-- Streams that lead from one plan to the next.
use Rattle.std.proofs.Common.{◌≡◌, ℕ, List, [], ◌∷◌, ◌++◌, refl, sym, ap, ◌∙◌, inl, inr, append_assoc, append-nil}
use Rattle.std.proofs.lemmas.Bool.{cases_Bool, false≢true}
use Rattle.std.proofs.lemmas.Slice.Eq.{bytes_eq-Decides}
use Rattle.std.specs.Str.{bytes_eq}
use Rattle.std.specs.Prelude.{◌⊎◌, Ok, Err, None, Result, codes}
use Rattle.link_source.specs.Endpoint.{IsHttp}
use Rattle.link_source.specs.Exchanges.{Exchange}
use Rattle.url.specs.Parser.{parse_url}
use Rattle.url.specs.Parts.{Parts}
use Rattle.url.specs.declared.error.ParseError.{ParseError}
use Rattle.span_map.specs.declared.jobs.JobPart.{JobPart}
use Rattle.reply_reader.specs.Answers.{Answer}
use Rattle.request_chain.specs.Courses.{CarriesOn}
use Rattle.request_chain.specs.Exchanges.{IsSentInVain, Replies}
use Rattle.request_chain.specs.Fetched.{FetchedBy, Fetched}
use Rattle.request_chain.specs.Plans.{FetchEnding, Done, Open, Lost, NextAsk, Ask, Over, plan_of, asked_of, next_plan, unusable}

pub leads_none : (plan : NextAsk) → CarriesOn plan [] [] plan
leads_none plan = λ streams rest more ending fetched. fetched

-- one stream more, with its answer
pub leads_on : (plan : NextAsk) (older : List Exchange) (brought : List ℕ) (part : JobPart) (parts : List JobPart) (url : List ℕ) (count status : ℕ)
    (stream : Exchange) (answer : Answer)
    → CarriesOn plan older brought (Ask part parts url count status) → Replies url (asked_of part) stream answer
    → CarriesOn plan (older ++ stream ∷ []) (brought ++ answer.got) (next_plan part parts url count answer.turn)
leads_on plan older brought part parts url count status stream answer leads replies = λ streams rest more ending fetched.
    rw (append_assoc older (stream ∷ []) streams, append_assoc brought answer.got more)
    (leads (stream ∷ streams) rest (answer.got ++ more) ending (inr (answer, more, replies, refl, fetched)))

-- one stream more, that was sent in vain
pub leads_over : (plan : NextAsk) (older : List Exchange) (brought : List ℕ) (part : JobPart) (parts : List JobPart) (url : List ℕ) (count status : ℕ)
    (stream : Exchange)
    → CarriesOn plan older brought (Ask part parts url count status) → IsSentInVain url (asked_of part) stream
    → CarriesOn plan (older ++ stream ∷ []) brought (Ask part parts url count status)
leads_over plan older brought part parts url count status stream leads vain = λ streams rest more ending fetched.
    rw (append_assoc older (stream ∷ []) streams)
    (leads (stream ∷ streams) rest more ending (inl (vain, fetched)))

-- they tell what the next plan tells without more streams
pub leads_end : (parts : List JobPart) (used : List Exchange) (bytes : List ℕ) (next : NextAsk) (ending : FetchEnding)
    → CarriesOn (plan_of parts) used bytes next → FetchedBy next [] [] ending [] → Fetched parts used bytes ending []
leads_end parts used bytes next ending leads fetched =
    let P : List Exchange → List ℕ → Type 0 = λ streams came. FetchedBy (plan_of parts) streams came ending [] in
    let all : P (used ++ []) (bytes ++ []) = leads [] [] [] ending fetched in
    rw (append-nil, append-nil) at all

-- whether a URL is usable
usable_by : (parsed : Result Parts ParseError) → ((url : Parts) × (parsed ≡ Ok url) × (url.scheme ≡ codes "http"))
    ⊎ (((url : Parts) × (parsed ≡ Ok url) × (url.scheme ≡ codes "http")) → ⊥)
usable_by (Ok url) = elim (cases_Bool (bytes_eq url.scheme (codes "http"))) [
  | inl same ↦ inl (url, refl, (bytes_eq-Decides url.scheme (codes "http")).0 same)
  | inr other ↦ inr (λ usable.
      let is : url ≡ usable.0 = cc in
      let scheme : url.scheme ≡ codes "http" = ap (λ (u : Parts). u.scheme) is ∙ usable.2 in
      false≢true (sym other ∙ (bytes_eq-Decides url.scheme (codes "http")).1 scheme))
]
usable_by (Err error) = inr (λ usable. cc)

pub usable_or_not : (url : List ℕ) → IsHttp url ⊎ (IsHttp url → ⊥)
usable_or_not url = usable_by (parse_url None url)

-- each plan ends somehow where no stream follows
pub ends : (plan : NextAsk) → (ending : FetchEnding) × FetchedBy plan [] [] ending []
ends (Over Done) = (Done, (refl, refl, refl))
ends (Over Open) = (Open, (refl, refl, refl, refl))
ends (Over (Lost loss)) = (Lost loss, (refl, refl, refl, refl))
ends (Ask part parts url count status) = elim (usable_or_not url) [
  | inl usable ↦ (Open, (refl, inl (usable, refl), refl))
  | inr unfit ↦ (Lost (unusable status), (refl, inr (unfit, refl), refl))
]
