-- What is served comes, by the plan at hand.
use Rattle.std.proofs.Common.{◌≡◌, ◌⊎◌, inl, inr, ℕ, zero, suc, ◌+◌, ◌<◌, ◌^◌, Bool, true, List, [], ◌∷◌, ◌++◌, length, map, replicate, refl, ap, sym, subst, ◌∙◌}
use Rattle.std.proofs.lemmas.List.Elements.{All-head, All-tail}
use Rattle.std.specs.Prelude.{All, Option, Some, None}
use Rattle.memory_serving_laws.specs.Charges.{AreKnownOf, IsKnownOf, next_known}
use Rattle.dl_kinds.specs.Lists.{part_at}
use Rattle.link_source.specs.Endpoint.{IsHttp}
use Rattle.link_source.specs.Files.{MemFile, Bytes}
use Rattle.memory_serving_laws.specs.Leads.{StandsAt, Redirects, Leads}
use Rattle.link_source.specs.Mirrors.{Content}
use Rattle.span_map.specs.Jobs.{IsJobPart}
use Rattle.request_chain.specs.Plans.{Done, Open, Lost, NextAsk, Ask, Over, plan_of}
use Rattle.request_chain.specs.declared.course.TheConstants.{REDIRECT_LIMIT}
use Rattle.memory_serving_laws.specs.Serving.{LeadsThrough, NamesMirror}
use Rattle.span_map.specs.declared.jobs.JobPart.{JobPart}

-- the URL leads within the redirects that are left to a resource with the part, whose bytes are known
pub record IsServed (content : Content) (among : ℕ → Bool) (part : JobPart) (url : List ℕ) (count : ℕ) (known : List (Option ℕ)) : Type 0 where
  pub left : ℕ
  pub counts : count + left ≡ REDIRECT_LIMIT
  pub resource : List ℕ
  pub leads : Leads content left url resource
  pub size : length resource ≡ part.total
  pub through : (number : ℕ) → LeadsThrough content left url number → among number ≡ true
  pub known_is : known ≡ map Some (part_at resource part.at part.len)

-- what is known of the part, which is served or of which nothing is known, and of the others behind it
pub record IsExpected (content : Content) (among : ℕ → Bool) (part : JobPart) (parts : List JobPart) (url : List ℕ) (count : ℕ) (known : List (Option ℕ)) : Type 0 where
  pub front : List (Option ℕ)
  pub rest : List (Option ℕ)
  pub known_is : known ≡ front ++ rest
  pub here : IsServed content among part url count front ⊎ (front ≡ replicate part.len None)
  pub is_part : IsJobPart part
  pub small : part.total < 2 ^ 63
  pub parts_are : All IsJobPart parts
  pub smalls : All (λ (p : JobPart). p.total < 2 ^ 63) parts
  pub rests : AreKnownOf content among parts rest

-- what is known of the bytes that come by the plan
abbrev pub Expects : Content → (ℕ → Bool) → NextAsk → List (Option ℕ) → Type 0
Expects content among (Ask part parts url count status) known = IsExpected content among part parts url count known
Expects content among (Over Done) known = known ≡ []
Expects content among (Over Open) known = Unit {0}
Expects content among (Over (Lost loss)) known = (0 < length known) × (next_known known ≡ 0)

-- by the parts that are asked for
pub plan_expects : (content : Content) (among : ℕ → Bool) (parts : List JobPart) (known : List (Option ℕ)) → All IsJobPart parts
    → All (λ (p : JobPart). p.total < 2 ^ 63) parts → AreKnownOf content among parts known → Expects content among (plan_of parts) known
plan_expects content among [] known parts_are smalls are = are
plan_expects content among (part ∷ parts) known parts_are smalls (front, rest, here, is, rests) = record {
  front = front;
  rest = rest;
  known_is = is;
  here = served here;
  is_part = All-head IsJobPart part parts parts_are;
  small = All-head (λ (p : JobPart). p.total < 2 ^ 63) part parts smalls;
  parts_are = All-tail IsJobPart part parts parts_are;
  smalls = All-tail (λ (p : JobPart). p.total < 2 ^ 63) part parts smalls;
  rests = rests;
}
  where
    served : IsKnownOf content among part front → IsServed content among part part.url 0 front ⊎ (front ≡ replicate part.len None)
    served (inl (bytes, serves, leads, known_is)) = inl (record {
      left = REDIRECT_LIMIT;
      counts = refl;
      resource = serves.resource;
      leads = serves.leads;
      size = serves.size;
      through = leads;
      known_is = known_is ∙ ap (map Some) serves.bytes_are;
    })
    served (inr none) = inr none

-- ---- where a URL leads

-- the next place of a moved resource, and what it leads to
pub record LeadsOn (content : Content) (left : ℕ) (url bytes : List ℕ) : Type 0 where
  pub more : ℕ
  pub one : left ≡ suc more
  pub next : List ℕ
  pub redirects : Redirects content url next
  pub leads : Leads content more next bytes

pub leads_on : (content : Content) (left : ℕ) (url bytes : List ℕ) → Leads content left url bytes
    → StandsAt content url (Bytes bytes) ⊎ LeadsOn content left url bytes
leads_on content zero url bytes stands = inl stands
leads_on content (suc more) url bytes (inl stands) = inl stands
leads_on content (suc more) url bytes (inr (next, redirects, leads)) =
    inr (record { more = more; one = refl; next = next; redirects = redirects; leads = leads })

-- a URL leads through the mirror that it names, and through those that the next one leads through
pub names_leads : (content : Content) (left : ℕ) (url : List ℕ) (number : ℕ) → NamesMirror content url number → LeadsThrough content left url number
names_leads content zero url number names = names
names_leads content (suc more) url number names = inl names

pub next_leads : (content : Content) (left : ℕ) (url bytes : List ℕ) (on : LeadsOn content left url bytes) (number : ℕ)
    → LeadsThrough content on.more on.next number → LeadsThrough content left url number
next_leads content left url bytes on number leads =
    subst (λ n. LeadsThrough content n url number) (sym on.one) (inr (on.next, on.redirects, leads))

pub usable_at : (content : Content) (url : List ℕ) (file : MemFile) → StandsAt content url file → IsHttp url
usable_at content url file stands = (stands.named.0, stands.named.1, stands.named.2)

pub usable : (content : Content) (left : ℕ) (url bytes : List ℕ) → Leads content left url bytes → IsHttp url
usable content left url bytes leads = elim (leads_on content left url bytes leads) [
  | inl stands ↦ usable_at content url _ stands
  | inr on ↦ usable_at content url _ on.redirects.stands
]
