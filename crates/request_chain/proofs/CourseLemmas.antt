-- Which part is next.
use Rattle.std.proofs.Common.{◌≡◌, ℕ, suc, ◌+◌, ◌<◌, List, ◌∷◌, length, drop, refl, sym, ap, ap₂, subst, ◌∙◌, inl, inr, arith, add-one}
use Rattle.std.specs.Prelude.{Option, Some, None, slice_get}
use Rattle.std.proofs.lemmas.List.{drop_all}
use Rattle.std.proofs.lemmas.Option.{slice_get_cases, slice_get_within, get_or_from_slice_get}
use Rattle.std.proofs.Math.Seq.{drop-cons}
use Rattle.span_map.specs.declared.jobs.JobPart.{JobPart}
use Rattle.request_chain.specs.Courses.{plan_from, plan_now, IsAsking, IfAsking}
use Rattle.request_chain.specs.Plans.{NextAsk, plan_of}
use Rattle.request_chain.specs.declared.course.Course.{Course}
use Rattle.request_chain.specs.declared.course.Moved.{Moved}

-- the plan of a list, by how the course stands
abbrev pub plan_by : Course → List JobPart → NextAsk
plan_by course parts = plan_from parts course.at course.len course.moved course.redirects

pub drop_at : (parts : List JobPart) (place : ℕ) (part : JobPart) → slice_get parts place ≡ Some part → drop place parts ≡ part ∷ drop (place + 1) parts
drop_at parts place part is =
    let within = slice_get_within parts place part is in
    let got = get_or_from_slice_get parts place part part is in
    let cut = drop-cons parts place part within in
    rw add-one (cut ∙ ap (λ (p : JobPart). p ∷ drop (suc place) parts) got)

-- the plan, where this part is next
pub plan_at_part : (course : Course) (part : JobPart) → slice_get course.parts course.place ≡ Some part
    → plan_now course ≡ plan_by course (part ∷ drop (course.place + 1) course.parts)
plan_at_part course part is = ap (plan_by course) (drop_at course.parts course.place part is)

pub asked_here : (course : Course) (part : JobPart) → slice_get course.parts course.place ≡ Some part
    → (P : JobPart → List JobPart → List ℕ → ℕ → ℕ → Type 0)
    → IfAsking (plan_by course (part ∷ drop (course.place + 1) course.parts)) P → IfAsking (plan_now course) P
asked_here course part is P holds = subst (λ (p : NextAsk). IfAsking p P) (sym (plan_at_part course part is)) holds

pub asking_within : (course : Course) → IsAsking (plan_now course) → course.place < length course.parts
asking_within course asking = elim (slice_get_cases course.parts course.place).1 [
  | inl there ↦ there.1
  | inr past ↦ absurd (subst (λ (ps : List JobPart). IsAsking (plan_by course ps)) (drop_all course.place course.parts past.0) asking)
]

pub within_asking : (course : Course) → course.place < length course.parts → IsAsking (plan_now course)
within_asking course within = elim (slice_get_cases course.parts course.place).1 [
  | inl there ↦ subst IsAsking (sym (plan_at_part course there.0 there.2)) tt
  | inr past ↦ absurd (omega (arith, past.0))
]

pub some_part : (parts : List JobPart) (place : ℕ) → place < length parts → (part : JobPart) × (slice_get parts place ≡ Some part)
some_part parts place within = elim (slice_get_cases parts place).1 [
  | inl there ↦ (there.0, there.2)
  | inr past ↦ absurd (omega (arith, past.0))
]

-- the plan of the parts from a place on, where the first of them is to come whole
pub plan_whole : (parts : List JobPart) (place at len : ℕ) → ((part : JobPart) → slice_get parts place ≡ Some part → (at ≡ part.at) × (len ≡ part.len))
    → plan_from (drop place parts) at len None 0 ≡ plan_of (drop place parts)
plan_whole parts place at len whole = elim (slice_get_cases parts place).1 [
  | inl there ↦
      let part = there.0 in
      let here = drop_at parts place part there.2 in
      let bounds = whole part there.2 in
      ap (λ ps. plan_from ps at len None 0) here
      ∙ ap₂ (λ a l. plan_from (part ∷ drop (place + 1) parts) a l None 0) bounds.0 bounds.1
      ∙ ap plan_of (sym here)
  | inr past ↦ rw (drop_all place parts past.0) refl
]

-- the plan behind a part
pub goes_on : (course : Course) (place at len redirects : ℕ) (moved : Option Moved) → IsAsking (plan_now course)
    → place ≡ course.place + 1 → moved ≡ None → redirects ≡ 0
    → ((part : JobPart) → slice_get course.parts place ≡ Some part → (at ≡ part.at) × (len ≡ part.len))
    → IfAsking (plan_now course) (λ part others url count status. plan_from (drop place course.parts) at len moved redirects ≡ plan_of others)
goes_on course place at len redirects moved asking next unmoved unredirected whole =
    let part = some_part course.parts course.place (asking_within course asking) in
    asked_here course part.0 part.1 _
    (ap₂ (λ m r. plan_from (drop place course.parts) at len m r) unmoved unredirected
    ∙ plan_whole course.parts place at len whole
    ∙ ap (λ k. plan_of (drop k course.parts)) next)
