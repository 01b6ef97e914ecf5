-- What bad answers pay for: each byte that differs and each loss used one.
use Rattle.std.specs.Prelude.{◌≡◌, ◌⊎◌, ◌==◌, ◌<◌, ◌≤◌, ◌^◌, ℕ, ◌+◌, Bool, List, [], ◌∷◌, ◌++◌, length, drop, map, replicate, All, Option, Some, None, if◌then◌else◌}
use Rattle.link_source.specs.Link.{LinkState}
use Rattle.link_source.specs.Mirrors.{Content}
use Rattle.link_source.specs.Exchanges.{Exchange}
use Rattle.reply_reader.specs.declared.loss.Loss.{Loss}
use Rattle.request_chain.specs.Plans.{FetchEnding, Done, Open, Lost}
use Rattle.part_fetches.specs.Fetched.{Fetched}
use Rattle.memory_serving_laws.specs.Laws.{AreGiven, GainedAnswers}
use Rattle.memory_serving_laws.specs.Serving.{LeadsAmong, ServesPart, used_among}
use Rattle.span_map.specs.Jobs.{IsJobPart}
use Rattle.span_map.specs.declared.jobs.JobPart.{JobPart}

-- Of a part these bytes are known, place by place: those that the mirrors serve, from mirrors among these, or none.
abbrev pub IsKnownOf : Content → (ℕ → Bool) → JobPart → List (Option ℕ) → Type 0
IsKnownOf content among part known =
    ((bytes : List ℕ) × ServesPart content part bytes × LeadsAmong content among part × (known ≡ map Some bytes))
    ⊎ (known ≡ replicate part.len None)

-- so of all parts, one after the other
abbrev pub AreKnownOf : Content → (ℕ → Bool) → List JobPart → List (Option ℕ) → Type 0
AreKnownOf content among [] known = known ≡ []
AreKnownOf content among (part ∷ parts) known =
    (front rest : List (Option ℕ)) × IsKnownOf content among part front × (known ≡ front ++ rest)
    × AreKnownOf content among parts rest

-- at how many places other bytes came than those that are known
abbrev pub differing : List ℕ → List (Option ℕ) → ℕ
differing [] known = 0
differing (byte ∷ came) [] = 0
differing (byte ∷ came) (None ∷ known) = differing came known
differing (byte ∷ came) (Some right ∷ known) = (if byte == right then 0 else 1) + differing came known

-- 1 where a byte is known that is next
abbrev pub next_known : List (Option ℕ) → ℕ
next_known [] = 0
next_known (None ∷ known) = 0
next_known (Some right ∷ known) = 1

-- 1 where what came ended in a loss at a place whose byte is known
abbrev pub lost_known : List ℕ → List (Option ℕ) → FetchEnding → ℕ
lost_known came known Done = 0
lost_known came known Open = 0
lost_known came known (Lost loss) = next_known (drop (length came) known)

-- What came is no longer than what is known of, and as long where nothing more is due. For each byte that differs, and
-- for a loss, a bad answer was used: the count of those that were used was this, and now is that.
pub record IsPaidFor (known : List (Option ℕ)) (came : List ℕ) (ending : FetchEnding) (was now : ℕ) : Type 0 where
  pub few : length came ≤ length known
  pub all : ending ≡ Done → length came ≡ length known
  pub short : (loss : Loss) → ending ≡ Lost loss → length came < length known
  pub paid : was + differing came known + lost_known came known ending ≤ now

-- Bad answers pay for what comes of parts, some of which mirrors serve.
abbrev pub BadAnswersPay : Type 0
BadAnswersPay = (old : Content) (link : LinkState) (gained : List Exchange) (among : ℕ → Bool)
    (parts : List JobPart) (known : List (Option ℕ)) (came : List ℕ) (ending : FetchEnding)
    → GainedAnswers old link gained → All IsJobPart parts → All (λ part. part.total < 2 ^ 63) parts
    → AreKnownOf old among parts known → Fetched parts gained came ending []
    → IsPaidFor known came ending (used_among among old) (used_among among link.content)

-- no byte differs, and the rest is lost
pub record LosesOnly (bytes came : List ℕ) (ending : FetchEnding) : Type 0 where
  pub loss : Loss
  pub lost : ending ≡ Lost loss
  pub behind : List ℕ
  pub front : bytes ≡ came ++ behind

-- nothing is lost, and one byte differs at most
pub record DiffersOnce (bytes came : List ℕ) (ending : FetchEnding) : Type 0 where
  pub on : (loss : Loss) → ending ≡ Lost loss → ⊥
  pub once : differing came (map Some bytes) ≤ 1

-- One bad answer makes one differing byte or one loss, never both.
abbrev pub OneIsNeverBoth : Type 0
OneIsNeverBoth = (old : Content) (link : LinkState) (gained : List Exchange) (among : ℕ → Bool)
    (parts : List JobPart) (bytes came : List ℕ) (ending : FetchEnding)
    → GainedAnswers old link gained → AreGiven old parts bytes → All (LeadsAmong old among) parts
    → Fetched parts gained came ending [] → used_among among link.content ≡ used_among among old + 1
    → LosesOnly bytes came ending ⊎ DiffersOnce bytes came ending
