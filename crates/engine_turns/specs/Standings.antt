-- What a turn goes by: what the turns before it give.
use Rattle.std.specs.Prelude.{◌≡◌, ◌≢◌, ◌⊎◌, ℕ, Some, List, [], All, Contains}
use Rattle.dl_kinds.specs.declared.claims.Claim.{Claim}
use Rattle.dl_kinds.specs.declared.gid.Gid.{Gid}
use Rattle.dl_history.specs.StandingClaims.{standing_claims}
use Rattle.rate_limits.specs.Shared.{RunLevels}
use Rattle.rate_tokens.specs.Level.{Level}
use Rattle.machine_core.specs.OwnParts.{own_of}
use Rattle.machine_core.specs.RunLegal.{download_in}
use Rattle.machine_core.specs.Starts.{Download, RunStart}
use Rattle.machine_core.specs.declared.events.Event.{Event}
use Rattle.machine_core.specs.declared.handed.Handed.{Handed}
use Rattle.engine_turns.specs.Levels.{overall_level, own_levels}
use Rattle.engine_turns.specs.Phases.{TurnStart}
use Rattle.engine_turns.specs.declared.outcome.Outcome.{Outcome}
use Rattle.engine_turns.specs.declared.outcome.Outcome.TheVariants.{Went, Over, Starved}
use Rattle.engine_turns.specs.Told.{RunTurn, handed_in, history_of}
use Rattle.engine_turns.specs.declared.operations.Said.{Said}
use Rattle.engine_turns.specs.declared.operations.Said.TheVariants.{NoMemory, Void}

pub record RunStanding : Type 0 where
  pub past : List Event  -- the history, the newest event first
  pub handed : List Handed  -- the pieces that workers compare now
  pub overall : Level  -- the bucket of all downloads
  pub own : List Level  -- those of the downloads, in the order of adding

abbrev pub standing_after : RunStart → List RunTurn → RunStanding
standing_after start told =
    record {
      past = history_of told;
      handed = handed_in start told;
      overall = overall_level start told;
      own = own_levels start told;
    }

abbrev pub levels_in : RunStanding → RunLevels
levels_in s = record { overall = s.overall; own = s.own; room = 0 }

-- ---- claims

-- the claim stands under this number, of this download
pub record IsHomeOf (start : RunStart) (past : List Event) (id : ℕ) (download : Download) (claim : Claim) : Type 0
  where
    pub added : download_in start past download.gid ≡ Some download
    pub stands : Contains (standing_claims (own_of start past download.gid)) claim
    pub id_is : claim.id ≡ id

abbrev pub HasNoHome : RunStart → List Event → ℕ → Type 0
HasNoHome start past id = (gid : Gid) → All (λ claim. claim.id ≢ id) (standing_claims (own_of start past gid))

-- ---- events and answers

-- no event comes
abbrev pub AnswersOnly : Said → List Event → Said → Type 0
AnswersOnly usual events said = (events ≡ []) × (said ≡ usual)

-- want of memory is answered as such, all else by the usual answer
abbrev pub AnswersUnlessStarved : Said → Outcome → Said → Type 0
AnswersUnlessStarved usual Went said = said ≡ usual
AnswersUnlessStarved usual Over said = said ≡ usual
AnswersUnlessStarved usual Starved said = said ≡ NoMemory

-- what a turn does with a claim that stands; nothing, where none stands under the number
abbrev pub OfClaim : TurnStart → RunStanding → ℕ → (Download → Claim → List Event → Said → Type 0) → List Event → Said
    → Type 0
OfClaim at s id Row events said =
    (HasNoHome at.start s.past id × AnswersOnly Void events said)
    ⊎ ((download : Download) × (claim : Claim) × IsHomeOf at.start s.past id download claim
    × Row download claim events said)
