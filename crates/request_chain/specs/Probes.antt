-- How long a resource is, by asking for its first byte (RFC 9110 sections 14.4, 15.3.7 and 15.5.17).
use Rattle.std.specs.Prelude.{◌≡◌, ◌⊎◌, ℕ, ◌+◌, Bool, true, List, [], ◌∷◌, Option, Some, None, unwrap_or, codes, nat_le, if◌then◌else◌}
use Rattle.dl_kinds.specs.ExitStatuses.{exit_code}
use Rattle.dl_kinds.specs.declared.exit_status.ExitStatus.TheVariants.{HttpReply}
use Rattle.link_source.specs.Endpoint.{IsHttp}
use Rattle.link_source.specs.Exchanges.{Exchange}
use Rattle.range_http.specs.declared.asked.Asked.{Asked}
use Rattle.http_heads.specs.declared.head.Head.{Head}
use Rattle.range_http.specs.declared.verdict.Verdict.{Verdict}
use Rattle.range_http.specs.declared.verdict.Verdict.TheVariants.{Part, Whole, Empty, WrongLength, Moved, NotFound, Refused}
use Rattle.http_heads.specs.Fields.{sole}
use Rattle.range_http.specs.Fields.{values_of}
use Rattle.range_http.specs.Verdict.{verdict_of}
use Rattle.reply_reader.specs.Heads.{HasFinalHead, IsHeadDue, HasNoFinalHead}
use Rattle.reply_reader.specs.declared.loss.Loss.{Loss}
use Rattle.reply_reader.specs.declared.loss.Loss.TheVariants as losses
use Rattle.request_chain.specs.Exchanges.{IsExchange}
use Rattle.request_chain.specs.Plans.{unusable}
use Rattle.request_chain.specs.Redirects.{moved_to}
use Rattle.request_chain.specs.declared.course.TheConstants.{REDIRECT_LIMIT}

-- the first byte is asked for, of a resource of any length
abbrev pub probe_asked : Asked
probe_asked = record { first = 0; last = 0; total = None }

-- More is due; the resource is so long; it is where this text, of a reply with this status, says; or the length isn't told.
pub data Probe : Type 0 where
  Due : Probe
  Told : ℕ → Probe
  Away : ℕ → List ℕ → Probe
  Lost : Loss → Probe

-- the length, where it is told
abbrev pub told_by : ℕ → Option ℕ → Probe
told_by status None = Lost (losses.Refused status (exit_code HttpReply))
told_by status (Some total) = Told total

-- what a head of this verdict tells
abbrev pub probe_by : Head → Verdict → Probe
probe_by head (Part last total framing) = told_by head.status total
probe_by head (Whole total framing) = told_by head.status total
probe_by head Empty = Told 0
probe_by head (WrongLength told) = Told told
probe_by head Moved = Away head.status (unwrap_or (sole (values_of head (codes "location"))) [])
probe_by head NotFound = Lost losses.NotFound
probe_by head (Refused code) = Lost (losses.Refused head.status code)

-- what a stream that received these bytes, and whose end was told or not, tells
abbrev pub ProbeAnswers : List ℕ → Bool → Probe → Type 0
ProbeAnswers received ended probe =
    (IsHeadDue received × (probe ≡ (if ended then Lost (losses.Short 0) else Due)))
    ⊎ (HasNoFinalHead received × (probe ≡ Lost losses.BadReply))
    ⊎ ((head : Head) × (used : ℕ) × HasFinalHead received head used × (probe ≡ probe_by head (verdict_of head probe_asked)))

-- what the exchange, on a connection of its own, tells of the resource at the URL
abbrev pub ProbeReplies : List ℕ → Exchange → Probe → Type 0
ProbeReplies url stream probe =
    IsExchange url probe_asked stream × (stream.fresh ≡ true) × ProbeAnswers stream.received stream.ended probe

-- Where the resource is asked for next, with so many redirects before, the last by a reply of this status. Or this is told.
pub data Search : Type 0 where
  At : List ℕ → ℕ → ℕ → Search
  Found : Probe → Search

abbrev pub search_at : Option (List ℕ) → ℕ → ℕ → Search
search_at None count status = Found (Lost (unusable status))
search_at (Some url) count status = At url count status

-- what is next, where this was told
abbrev pub next_search : List ℕ → ℕ → Probe → Search
next_search url count Due = Found Due
next_search url count (Told total) = Found (Told total)
next_search url count (Away status location) =
    if nat_le REDIRECT_LIMIT count then Found (Lost losses.Redirects) else search_at (moved_to url location) (count + 1) status
next_search url count (Lost loss) = Found (Lost loss)

-- what these streams tell, the oldest first
abbrev pub ProbedBy : Search → List Exchange → Probe → Type 0
ProbedBy (Found told) streams probe = (probe ≡ told) × (streams ≡ [])
ProbedBy (At url count status) [] probe =
    (IsHttp url × (probe ≡ Due)) ⊎ ((IsHttp url → ⊥) × (probe ≡ Lost (unusable status)))
ProbedBy (At url count status) (stream ∷ streams) probe =
    (told : Probe) × ProbeReplies url stream told × ProbedBy (next_search url count told) streams probe

-- what they tell of the resource at a URL
abbrev pub Probed : List ℕ → List Exchange → Probe → Type 0
Probed url streams probe = ProbedBy (At url 0 0) streams probe

-- what each loss says of the streams that were used, where so many faults of the link are counted now
abbrev pub TellsProbeLoss : List ℕ → List Exchange → ℕ → Loss → Type 0
TellsProbeLoss url used faults (losses.Link count) = Probed url used Due × (count ≡ faults)
TellsProbeLoss url used faults losses.NoMemory = Unit {0}
TellsProbeLoss url used faults loss = Probed url used (Lost loss)
