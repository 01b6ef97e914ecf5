-- What mirrors in memory serve of parts of resources.
use Rattle.std.specs.Prelude.{◌≡◌, ◌⊎◌, ℕ, zero, suc, Bool, true, List, [], ◌∷◌, ◌++◌, length, count_by, Some}
use Rattle.dl_kinds.specs.Lists.{part_at}
use Rattle.memory_serving_laws.specs.Leads.{Leads, Redirects}
use Rattle.link_source.specs.Mirrors.{Content, number_at}
use Rattle.link_source.specs.declared.endpoint.Endpoint.{Endpoint}
use Rattle.request_chain.specs.Exchanges.{LeadsTo}
use Rattle.request_chain.specs.declared.course.TheConstants.{REDIRECT_LIMIT}
use Rattle.span_map.specs.declared.jobs.JobPart.{JobPart}

-- the URL leads within 20 redirects to a resource of the length there, and these are the bytes that are asked for
pub record ServesPart (content : Content) (part : JobPart) (bytes : List ℕ) : Type 0 where
  pub resource : List ℕ
  pub leads : Leads content REDIRECT_LIMIT part.url resource
  pub size : length resource ≡ part.total
  pub bytes_are : bytes ≡ part_at resource part.at part.len

-- so all that is asked, one after the other
abbrev pub GivesAll : Content → List JobPart → List ℕ → Type 0
GivesAll content [] bytes = bytes ≡ []
GivesAll content (part ∷ parts) bytes =
    (front rest : List ℕ) × ServesPart content part front × (bytes ≡ front ++ rest) × GivesAll content parts rest

-- ---- bad answers

-- the URL names the mirror of this number
pub record NamesMirror (content : Content) (url : List ℕ) (number : ℕ) : Type 0 where
  pub endpoint : Endpoint
  pub named : LeadsTo url endpoint
  pub number_is : number_at content.mirrors endpoint.host endpoint.port ≡ Some number

-- within so many redirects the URL leads through the mirror of this number
abbrev pub LeadsThrough : Content → ℕ → List ℕ → ℕ → Type 0
LeadsThrough content zero url number = NamesMirror content url number
LeadsThrough content (suc more) url number =
    NamesMirror content url number ⊎ ((next : List ℕ) × Redirects content url next × LeadsThrough content more next number)

-- each mirror that the URL leads through is one of these
abbrev pub UrlLeadsAmong : Content → (ℕ → Bool) → List ℕ → Type 0
UrlLeadsAmong content among url = (number : ℕ) → LeadsThrough content REDIRECT_LIMIT url number → among number ≡ true

-- so of the URL of a part
abbrev pub LeadsAmong : Content → (ℕ → Bool) → JobPart → Type 0
LeadsAmong content among part = UrlLeadsAmong content among part.url

-- how many bad answers of these mirrors were used
abbrev pub used_among : (ℕ → Bool) → Content → ℕ
used_among among content = count_by (λ bad. among bad.mirror) content.used
