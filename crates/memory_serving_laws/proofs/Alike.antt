-- Where the mirrors hold the same, URLs lead to the same.
use Rattle.std.proofs.Common.{◌≡◌, ℕ, zero, suc, ◌≤◌, Bool, List, [], ◌∷◌, inl, inr, ap, sym, ◌∙◌, arith}
use Rattle.link_source.specs.Mirrors.{Content, mirror_at, number_at}
use Rattle.link_source.specs.Exchanges.{Exchange}
use Rattle.link_source.specs.Files.{MemFile}
use Rattle.request_chain.specs.Answered.{GaveAll}
use Rattle.request_chain.specs.declared.course.TheConstants.{REDIRECT_LIMIT}
use Rattle.memory_serving_laws.specs.Alike.{AnswersKeepMirrors, LeadsAlike, LeadsAmongAlike, LeadsToSizeAlike}
use Rattle.memory_serving_laws.specs.Leads.{StandsAt, Redirects, Leads}
use Rattle.memory_serving_laws.specs.Serving.{LeadsThrough, NamesMirror, used_among}
use Rattle.memory_serving_laws.specs.Sizes.{TellsSize, LeadsToSize}
use Rattle.memory_serving_laws.proofs.Counting.{gave_counts, top_of}

all-kept : (among : ℕ → Bool) (old : Content) (streams : List Exchange) (new : Content) → GaveAll old streams new
    → (new.mirrors ≡ old.mirrors) × (used_among among old ≤ used_among among new)
all-kept among old [] new same = (ap (λ (c : Content). c.mirrors) same, omega (arith, ap (used_among among) same))
all-kept among old (stream ∷ older) new (between, due, past, gave) =
    let first = all-kept among old older between past in
    let last = gave_counts among between stream due new gave in
    (last.1 ∙ first.0, omega (arith, first.1, last.0))

pub answers_keep_mirrors : AnswersKeepMirrors
answers_keep_mirrors old before link among is =
    let top = top_of among old before link is in
    all-kept among old top.top link.content top.gave

module _ (old new : Content) (same : new.mirrors ≡ old.mirrors) where
  stands : (url : List ℕ) (file : MemFile) → StandsAt old url file → StandsAt new url file
  stands url file at = record {
    endpoint = at.endpoint;
    named = at.named;
    mirror = at.mirror;
    mirror_is = ap (λ mirrors. mirror_at mirrors at.endpoint.host at.endpoint.port) same ∙ at.mirror_is;
    file_is = at.file_is;
  }

  redirects : (url next : List ℕ) → Redirects old url next → Redirects new url next
  redirects url next on = record {
    location = on.location;
    stands = stands url _ on.stands;
    head = on.head;
    used = on.used;
    read = on.read;
    means = on.means;
    text = on.text;
    told = on.told;
    next_is = on.next_is;
  }

  leads : (most : ℕ) (url bytes : List ℕ) → Leads old most url bytes → Leads new most url bytes
  leads zero url bytes at = stands url _ at
  leads (suc more) url bytes (inl at) = inl (stands url _ at)
  leads (suc more) url bytes (inr (next, on, behind)) = inr (next, redirects url next on, leads more next bytes behind)

  tells : (url : List ℕ) (size : ℕ) → TellsSize old url size → TellsSize new url size
  unfolding stands
  tells url size is = record {
    bytes = is.bytes;
    stands = stands url _ is.stands;
    size_is = is.size_is;
    small = is.small;
    told = is.told;
  }

  leads-to : (most : ℕ) (url : List ℕ) (size : ℕ) → LeadsToSize old most url size → LeadsToSize new most url size
  leads-to zero url size is = tells url size is
  leads-to (suc more) url size (inl is) = inl (tells url size is)
  leads-to (suc more) url size (inr (next, on, behind)) = inr (next, redirects url next on, leads-to more next size behind)

  names : (url : List ℕ) (number : ℕ) → NamesMirror old url number → NamesMirror new url number
  names url number is = record {
    endpoint = is.endpoint;
    named = is.named;
    number_is = ap (λ mirrors. number_at mirrors is.endpoint.host is.endpoint.port) same ∙ is.number_is;
  }

  through : (most : ℕ) (url : List ℕ) (number : ℕ) → LeadsThrough old most url number → LeadsThrough new most url number
  through zero url number is = names url number is
  through (suc more) url number (inl is) = inl (names url number is)
  through (suc more) url number (inr (next, on, behind)) = inr (next, redirects url next on, through more next number behind)

pub leads_alike : LeadsAlike
leads_alike old new most url bytes same is = leads old new same most url bytes is

pub leads_to_size_alike : LeadsToSizeAlike
leads_to_size_alike old new most url size same is = leads-to old new same most url size is

pub leads_among_alike : LeadsAmongAlike
leads_among_alike old new among url same is number is_through = is number (through new old (sym same) REDIRECT_LIMIT url number is_through)
