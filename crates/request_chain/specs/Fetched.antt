-- What came of the parts of resources, by the streams of one link that were used for them, the oldest first.
use Rattle.std.specs.Prelude.{◌≡◌, ◌⊎◌, ℕ, List, [], ◌∷◌, ◌++◌}
use Rattle.link_source.specs.Exchanges.{Exchange}
use Rattle.span_map.specs.declared.jobs.JobPart.{JobPart}
use Rattle.reply_reader.specs.Answers.{Answer}
use Rattle.request_chain.specs.Exchanges.{IsSentInVain, Replies}
use Rattle.request_chain.specs.Plans.{FetchEnding, Done, Open, Lost, NextAsk, Ask, Over, plan_of, asked_of, next_plan, Stands}

-- By this plan, over these exchanges: the bytes that came, in order, how it ended, and the exchanges behind the last that
-- was used, which there are only where all came. One that was sent in vain is passed over.
abbrev pub FetchedBy : NextAsk → List Exchange → List ℕ → FetchEnding → List Exchange → Type 0
FetchedBy (Over Done) streams bytes ending rest = (bytes ≡ []) × (ending ≡ Done) × (rest ≡ streams)
FetchedBy (Over Open) streams bytes ending rest = (bytes ≡ []) × (ending ≡ Open) × (streams ≡ []) × (rest ≡ [])
FetchedBy (Over (Lost loss)) streams bytes ending rest = (bytes ≡ []) × (ending ≡ Lost loss) × (streams ≡ []) × (rest ≡ [])
FetchedBy (Ask part parts url count status) [] bytes ending rest =
    (bytes ≡ []) × Stands (Ask part parts url count status) ending × (rest ≡ [])
FetchedBy (Ask part parts url count status) (stream ∷ streams) bytes ending rest =
    (IsSentInVain url (asked_of part) stream × FetchedBy (Ask part parts url count status) streams bytes ending rest)
    ⊎ ((answer : Answer) × (more : List ℕ) × Replies url (asked_of part) stream answer × (bytes ≡ answer.got ++ more)
    × FetchedBy (next_plan part parts url count answer.turn) streams more ending rest)

-- the parts, from the first on
abbrev pub Fetched : List JobPart → List Exchange → List ℕ → FetchEnding → List Exchange → Type 0
Fetched parts streams bytes ending rest = FetchedBy (plan_of parts) streams bytes ending rest

-- the same streams determine one result
abbrev pub FetchedIsOne : Type 0
FetchedIsOne = (parts : List JobPart) (streams rest other_rest : List Exchange) (bytes other_bytes : List ℕ) (ending other_ending : FetchEnding)
    → Fetched parts streams bytes ending rest → Fetched parts streams other_bytes other_ending other_rest
    → (bytes ≡ other_bytes) × (ending ≡ other_ending) × (rest ≡ other_rest)
