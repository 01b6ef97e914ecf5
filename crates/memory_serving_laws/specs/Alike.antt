-- Where the mirrors hold the same, URLs lead to the same, whatever bad answers are left.
use Rattle.std.specs.Prelude.{◌≡◌, ◌≤◌, ℕ, Bool, List}
use Rattle.link_source.specs.Link.{LinkState}
use Rattle.link_source.specs.Mirrors.{Content}
use Rattle.link_source.specs.Exchanges.{Exchange}
use Rattle.request_chain.specs.Answered.{IsAnswered}
use Rattle.memory_serving_laws.specs.Leads.{Leads}
use Rattle.memory_serving_laws.specs.Serving.{UrlLeadsAmong, used_among}
use Rattle.memory_serving_laws.specs.Sizes.{LeadsToSize}

-- by answers the mirrors keep what they hold, and bad answers that were used stay used
abbrev pub AnswersKeepMirrors : Type 0
AnswersKeepMirrors = (old : Content) (before : List Exchange) (link : LinkState) (among : ℕ → Bool) → IsAnswered old before link
    → (link.content.mirrors ≡ old.mirrors) × (used_among among old ≤ used_among among link.content)

-- a URL leads to the same resource
abbrev pub LeadsAlike : Type 0
LeadsAlike = (old new : Content) (most : ℕ) (url bytes : List ℕ) → new.mirrors ≡ old.mirrors
    → Leads old most url bytes → Leads new most url bytes

-- to a resource of the same length
abbrev pub LeadsToSizeAlike : Type 0
LeadsToSizeAlike = (old new : Content) (most : ℕ) (url : List ℕ) (size : ℕ) → new.mirrors ≡ old.mirrors
    → LeadsToSize old most url size → LeadsToSize new most url size

-- and through the same mirrors
abbrev pub LeadsAmongAlike : Type 0
LeadsAmongAlike = (old new : Content) (among : ℕ → Bool) (url : List ℕ) → new.mirrors ≡ old.mirrors
    → UrlLeadsAmong old among url → UrlLeadsAmong new among url
