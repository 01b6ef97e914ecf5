-- Laws of parts that come one after the other.
use Rattle.std.specs.Prelude.{◌≡◌, ◌≢◌, ◌≤◌, ℕ, List, [], ◌++◌, length, All}
use Rattle.link_source.specs.Exchanges.{Exchange}
use Rattle.span_map.specs.declared.jobs.JobPart.{JobPart}
use Rattle.span_map.specs.Jobs.{IsJobPart, parts_len}
use Rattle.request_chain.specs.Plans.{FetchEnding, Done}
use Rattle.part_fetches.specs.Fetched.{Fetched, FetchedPart}

-- the same streams determine one result
abbrev pub FetchedIsOne : Type 0
FetchedIsOne = (parts : List JobPart) (streams rest other_rest : List Exchange) (bytes other_bytes : List ℕ) (ending other_ending : FetchEnding)
    → Fetched parts streams bytes ending rest → Fetched parts streams other_bytes other_ending other_rest
    → (bytes ≡ other_bytes) × (ending ≡ other_ending) × (rest ≡ other_rest)

-- no more than the parts have, and as many exactly where all came
pub record Fits (parts : List JobPart) (bytes : List ℕ) (ending : FetchEnding) : Type 0 where
  pub few : length bytes ≤ parts_len parts
  pub all : ending ≡ Done → length bytes ≡ parts_len parts
  pub full : length bytes ≡ parts_len parts → ending ≡ Done

-- so of what came, whatever streams are left
abbrev pub FetchedFits : Type 0
FetchedFits = (parts : List JobPart) (streams rest : List Exchange) (bytes : List ℕ) (ending : FetchEnding)
    → All IsJobPart parts → Fetched parts streams bytes ending rest → Fits parts bytes ending

-- so of one part
pub record FitsOwn (part : JobPart) (bytes : List ℕ) (ending : FetchEnding) : Type 0 where
  pub few : length bytes ≤ part.len
  pub all : ending ≡ Done → length bytes ≡ part.len
  pub full : length bytes ≡ part.len → ending ≡ Done

abbrev pub PartFits : Type 0
PartFits = (part : JobPart) (streams rest : List Exchange) (bytes : List ℕ) (ending : FetchEnding)
    → IsJobPart part → FetchedPart part streams bytes ending rest → FitsOwn part bytes ending

-- where nothing was asked for a part, nothing came of it, and it isn't done
abbrev pub PartBegins : Type 0
PartBegins = (part : JobPart) → (ending : FetchEnding) × (ending ≢ Done) × FetchedPart part [] [] ending []

-- streams behind those by which all of a part came are left for the next one
abbrev pub PartLeavesMore : Type 0
PartLeavesMore = (part : JobPart) (used more : List Exchange) (bytes : List ℕ)
    → FetchedPart part used bytes Done [] → FetchedPart part (used ++ more) bytes Done more

-- and where streams are left, all of the part came by those before them
abbrev pub PartIsCut : Type 0
PartIsCut = (part : JobPart) (streams rest : List Exchange) (bytes : List ℕ) → FetchedPart part streams bytes Done rest
    → (used : List Exchange) × (streams ≡ used ++ rest) × FetchedPart part used bytes Done []
