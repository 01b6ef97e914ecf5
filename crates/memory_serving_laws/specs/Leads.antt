-- Which resource a URL leads to, also over redirects (RFC 9110 sections 10.2.2 and 15.4).
use Rattle.std.specs.Prelude.{◌≡◌, ◌⊎◌, ℕ, zero, suc, List, Some, codes}
use Rattle.link_source.specs.Files.{MemFile, Bytes, Moved}
use Rattle.link_source.specs.Mirrors.{Content, Mirror, mirror_at, file_at}
use Rattle.link_source.specs.Replies.{bare_reply, moved, text_of}
use Rattle.link_source.specs.declared.endpoint.Endpoint.{Endpoint}
use Rattle.memory_reply_laws.specs.Reading.{IsReadable}
use Rattle.http_heads.specs.Fields.{sole}
use Rattle.range_http.specs.Fields.{values_of}
use Rattle.range_http.specs.Verdict.{verdict_of}
use Rattle.range_http.specs.declared.asked.Asked.{Asked}
use Rattle.http_heads.specs.declared.head.Head.{Head}
use Rattle.range_http.specs.declared.verdict.Verdict.TheVariants.{Moved as HasMoved}
use Rattle.reply_reader.specs.Heads.{HasFinalHead}
use Rattle.request_chain.specs.Exchanges.{LeadsTo}
use Rattle.request_chain.specs.Redirects.{moved_to}

-- the URL names a mirror and a target at which this stands
pub record StandsAt (content : Content) (url : List ℕ) (file : MemFile) : Type 0 where
  pub endpoint : Endpoint
  pub named : LeadsTo url endpoint
  pub mirror : Mirror
  pub mirror_is : mirror_at content.mirrors endpoint.host endpoint.port ≡ Some mirror
  pub file_is : file_at mirror.files endpoint.target ≡ Some file

-- What stands at the URL has moved, and this is the next one: the mirror's reply is read as one of a moved resource, and
-- its location, as it is read, joined to the URL is the next one.
pub record Redirects (content : Content) (url next : List ℕ) : Type 0 where
  pub location : List ℕ
  pub stands : StandsAt content url (Moved location)
  pub head : Head
  pub used : ℕ
  pub read : HasFinalHead (text_of (bare_reply (moved location))) head used
  pub means : (asked : Asked) → verdict_of head asked ≡ HasMoved
  pub text : List ℕ
  pub told : sole (values_of head (codes "location")) ≡ Some text
  pub next_is : moved_to url text ≡ Some next

-- within so many redirects the URL leads to a resource of these bytes
abbrev pub Leads : Content → ℕ → List ℕ → List ℕ → Type 0
Leads content zero url bytes = StandsAt content url (Bytes bytes)
Leads content (suc more) url bytes =
    StandsAt content url (Bytes bytes) ⊎ ((next : List ℕ) × Redirects content url next × Leads content more next bytes)

-- to no other one, whatever the number of redirects
abbrev pub LeadsOnce : Type 0
LeadsOnce = (content : Content) (most other_most : ℕ) (url bytes other_bytes : List ℕ)
    → Leads content most url bytes → Leads content other_most url other_bytes → bytes ≡ other_bytes

-- a location of visible characters is read as it is
abbrev pub VisibleLocationsLead : Type 0
VisibleLocationsLead = (content : Content) (url location next : List ℕ)
    → StandsAt content url (Moved location) → IsReadable location → moved_to url location ≡ Some next
    → Redirects content url next
