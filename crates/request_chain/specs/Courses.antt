-- Which request is next, as a chain keeps it.
use Rattle.std.specs.Prelude.{◌≡◌, ℕ, List, [], ◌∷◌, ◌++◌, drop, Option, Some, None, ⊤}
use Rattle.link_source.specs.Exchanges.{Exchange}
use Rattle.span_map.specs.declared.jobs.JobPart.{JobPart}
use Rattle.request_chain.specs.Fetched.{FetchedBy}
use Rattle.request_chain.specs.Plans.{FetchEnding, Done, NextAsk, Ask, Over}
use Rattle.request_chain.specs.declared.course.Course.{Course}
use Rattle.request_chain.specs.declared.course.Moved.{Moved}

-- the part's own URL, or where it was moved to
abbrev pub url_at : JobPart → Option Moved → List ℕ
url_at part None = part.url
url_at part (Some moved) = moved.url

-- the status of the reply by which it was moved
abbrev pub status_at : Option Moved → ℕ
status_at None = 0
status_at (Some moved) = moved.status

-- of the first part these bytes are still to come
abbrev pub plan_from : List JobPart → ℕ → ℕ → Option Moved → ℕ → NextAsk
plan_from [] at len moved redirects = Over Done
plan_from (part ∷ parts) at len moved redirects =
    Ask (record part { at = at; len = len }) parts (url_at part moved) redirects (status_at moved)

-- what is asked next
abbrev pub plan_now : Course → NextAsk
plan_now course = plan_from (drop course.place course.parts) course.at course.len course.moved course.redirects

-- something is asked next
abbrev pub IsAsking : NextAsk → Type 0
IsAsking (Ask part parts url count status) = ⊤
IsAsking (Over ending) = ⊥

-- P of what is asked next
abbrev pub IfAsking : NextAsk → (JobPart → List JobPart → List ℕ → ℕ → ℕ → Type 0) → Type 0
IfAsking (Ask part parts url count status) P = P part parts url count status
IfAsking (Over ending) P = ⊤

-- By the plan these streams brought these bytes, and the next plan is this one: whatever comes by it comes behind them.
abbrev pub CarriesOn : NextAsk → List Exchange → List ℕ → NextAsk → Type 0
CarriesOn plan used bytes next = (streams rest : List Exchange) (more : List ℕ) (ending : FetchEnding)
    → FetchedBy next streams more ending rest → FetchedBy plan (used ++ streams) (bytes ++ more) ending rest

-- the next request is for this URL
abbrev pub AsksAt : NextAsk → List ℕ → Type 0
AsksAt (Ask part parts at_url count status) url = at_url ≡ url
AsksAt (Over ending) url = ⊥
