-- What comes by streams that gave the answers of mirrors in memory.
use Rattle.std.specs.Prelude.{◌≡◌, ◌⊎◌, ◌<◌, ◌^◌, ℕ, Bool, false, List, [], ◌++◌, All}
use Rattle.link_source.specs.Link.{LinkState}
use Rattle.link_source.specs.Mirrors.{Content}
use Rattle.link_source.specs.Exchanges.{Exchange}
use Rattle.request_chain.specs.Answered.{IsAnswered}
use Rattle.request_chain.specs.Chains.{Gains}
use Rattle.request_chain.specs.Plans.{FetchEnding, Done, Open}
use Rattle.part_fetches.specs.Fetched.{Fetched}
use Rattle.memory_serving_laws.specs.Serving.{GivesAll, LeadsAmong, used_among}
use Rattle.span_map.specs.Jobs.{IsJobPart}
use Rattle.span_map.specs.declared.jobs.JobPart.{JobPart}

-- Nothing is lost, and what came is a front of these bytes: all of them, or more is due.
pub record IsRightSoFar (bytes came : List ℕ) (ending : FetchEnding) : Type 0 where
  pub behind : List ℕ
  pub front : bytes ≡ came ++ behind
  pub on : (ending ≡ Open) ⊎ ((ending ≡ Done) × (behind ≡ []))

-- the parts are sound, and the mirrors give these bytes of them
pub record AreGiven (content : Content) (parts : List JobPart) (bytes : List ℕ) : Type 0 where
  pub sound : All IsJobPart parts
  pub bounded : All (λ part. part.total < 2 ^ 63) parts
  pub gives : GivesAll content parts bytes

-- the link gained these streams since the mirrors had the old content, and each gave one answer to one request
pub record GainedAnswers (old : Content) (link : LinkState) (gained : List Exchange) : Type 0 where
  pub before : List Exchange
  pub answered : IsAnswered old before link
  pub gains : Gains before link.exchanges gained

-- Where mirrors give parts, the streams bring their bytes, or a bad answer of the mirrors that the URLs of the parts lead
-- through was used.
abbrev pub ServedComes : Type 0
ServedComes = (old : Content) (link : LinkState) (gained : List Exchange) (among : ℕ → Bool)
    (parts : List JobPart) (bytes came : List ℕ) (ending : FetchEnding)
    → GainedAnswers old link gained → AreGiven old parts bytes → All (LeadsAmong old among) parts
    → Fetched parts gained came ending []
    → IsRightSoFar bytes came ending ⊎ (used_among among old < used_among among link.content)

-- mirrors that have no bad answers left use none
abbrev pub CleanMirrorsUseNone : Type 0
CleanMirrorsUseNone = (old : Content) (before : List Exchange) (link : LinkState) (among : ℕ → Bool)
    → IsAnswered old before link → All (λ bad. among bad.mirror ≡ false) old.bad
    → used_among among link.content ≡ used_among among old

-- where no mirror has a bad answer left, the mirrors stay as they are
abbrev pub GoodMirrorsStay : Type 0
GoodMirrorsStay = (old : Content) (before : List Exchange) (link : LinkState)
    → IsAnswered old before link → old.bad ≡ [] → link.content ≡ old

-- and the bytes of all parts that they give come
abbrev pub GoodMirrorsServe : Type 0
GoodMirrorsServe = (old : Content) (link : LinkState) (gained : List Exchange)
    (parts : List JobPart) (bytes came : List ℕ) (ending : FetchEnding)
    → GainedAnswers old link gained → AreGiven old parts bytes → old.bad ≡ []
    → Fetched parts gained came ending [] → IsRightSoFar bytes came ending
