-- What probes tell of the length of a resource.
use Rattle.std.specs.Prelude.{◌≡◌, ◌≢◌, ◌⊎◌, ◌==◌, ◌<◌, ◌≤◌, ◌^◌, ℕ, zero, suc, ◌+◌, Bool, List, length, if◌then◌else◌}
use Rattle.link_source.specs.Link.{LinkState}
use Rattle.link_source.specs.Mirrors.{Content}
use Rattle.link_source.specs.Exchanges.{Exchange}
use Rattle.link_source.specs.Files.{Bytes}
use Rattle.link_source.specs.declared.mirrors.Manner.TheVariants.{ToEnd}
use Rattle.request_chain.specs.Probes.{Probe, Due, Told, Away, Lost}
use Rattle.part_fetches.specs.Probes.{Probed}
use Rattle.request_chain.specs.declared.course.TheConstants.{REDIRECT_LIMIT}
use Rattle.memory_serving_laws.specs.Laws.{GainedAnswers}
use Rattle.memory_serving_laws.specs.Leads.{Redirects, StandsAt}
use Rattle.memory_serving_laws.specs.Serving.{UrlLeadsAmong, used_among}

-- a resource of this length stands at the URL, and its mirror tells the length, as one doesn't whose bytes end with the stream
pub record TellsSize (content : Content) (url : List ℕ) (size : ℕ) : Type 0 where
  pub bytes : List ℕ
  pub stands : StandsAt content url (Bytes bytes)
  pub size_is : length bytes ≡ size
  pub small : size < 2 ^ 63
  pub told : stands.mirror.manner ≢ ToEnd

-- within so many redirects the URL leads to such a resource
abbrev pub LeadsToSize : Content → ℕ → List ℕ → ℕ → Type 0
LeadsToSize content zero url size = TellsSize content url size
LeadsToSize content (suc more) url size =
    TellsSize content url size ⊎ ((next : List ℕ) × Redirects content url next × LeadsToSize content more next size)

-- 1 where another length is told than this one, or none is and none is due
abbrev pub misses : ℕ → Probe → ℕ
misses size Due = 0
misses size (Told told) = if told == size then 0 else 1
misses size (Away status location) = 1
misses size (Lost loss) = 1

-- A bad answer pays for a probe that is lost, or that tells another length.
abbrev pub BadAnswersPayProbes : Type 0
BadAnswersPayProbes = (old : Content) (link : LinkState) (gained : List Exchange) (among : ℕ → Bool)
    (url : List ℕ) (size : ℕ) (probe : Probe)
    → GainedAnswers old link gained → LeadsToSize old REDIRECT_LIMIT url size → UrlLeadsAmong old among url
    → Probed url gained probe
    → used_among among old + misses size probe ≤ used_among among link.content

-- So the length is told, or more is due, or a bad answer of the mirrors that the URL leads through was used.
abbrev pub ServedSizeIsTold : Type 0
ServedSizeIsTold = (old : Content) (link : LinkState) (gained : List Exchange) (among : ℕ → Bool)
    (url : List ℕ) (size : ℕ) (probe : Probe)
    → GainedAnswers old link gained → LeadsToSize old REDIRECT_LIMIT url size → UrlLeadsAmong old among url
    → Probed url gained probe
    → ((probe ≡ Due) ⊎ (probe ≡ Told size)) ⊎ (used_among among old < used_among among link.content)
