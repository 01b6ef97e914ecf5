-- Which claims of a download stand, and which of their blocks are open, by its events.
use Rattle.std.specs.Prelude.{ℕ, ◌==◌, ◌&&◌, ◌||◌, Bool, true, false, not, if◌then◌else◌, Option, Some, None, List, [], ◌∷◌, filter, find}
use Rattle.std.specs.Option.{is_some}
use Rattle.std.specs.List.{list_any, list_all, filter_map, range_with_len}
use Rattle.dl_kinds.specs.Plan.{piece_of}
use Rattle.dl_kinds.specs.declared.claims.Claim.{Claim}
use Rattle.dl_kinds.specs.declared.runs.Run.{Run}
use Rattle.piece_table.specs.Changes.{is_in}
use Rattle.dl_history.specs.OwnEvents.{OwnEvent, Grants, Lands, Loses, Sizes, Halts}

-- the events that came after the newest one that passes the test; all, where none does
abbrev pub since : {A : Type 0} → (A → Bool) → List A → List A
since test [] = []
since test (e ∷ before) = if test e then [] else e ∷ since test before

-- ---- kinds of events

abbrev pub grants_claim : ℕ → OwnEvent → Bool
grants_claim id (Grants claim) = claim.id == id
grants_claim id e = false

-- blocks with this one among them come
abbrev pub lands_block : ℕ → OwnEvent → Bool
lands_block b (Lands id mirror run) = is_in b run
lands_block b e = false

-- .. by this claim
abbrev pub lands_block_by : ℕ → ℕ → OwnEvent → Bool
lands_block_by c b (Lands id mirror run) = id == c && is_in b run
lands_block_by c b e = false

-- the claim ends though blocks of it may be open, or as a probe
abbrev pub ends_claim : ℕ → OwnEvent → Bool
ends_claim c (Loses id mirror piece mark) = id == c
ends_claim c (Sizes id total) = id == c
ends_claim c (Halts ends) = true
ends_claim c e = false

-- ---- claims

abbrev pub claim_in : OwnEvent → Option Claim
claim_in (Grants claim) = Some claim
claim_in e = None

-- the claims as they were granted, the newest first
abbrev pub granted_claims : List OwnEvent → List Claim
granted_claims own = filter_map claim_in own

-- a probe is a claim of no block
abbrev pub is_probe : Claim → Bool
is_probe claim = claim.run.count == 0

abbrev pub blocks_in : Run → List ℕ
blocks_in run = range_with_len run.first run.count

-- the block is in the claim's run, and hasn't come since the grant
abbrev pub is_open_since : List OwnEvent → Claim → ℕ → Bool
is_open_since own claim b = is_in b claim.run && not (list_any (lands_block b) (since (grants_claim claim.id) own))

-- the first block of the claim that is open
abbrev pub first_open_since : List OwnEvent → Claim → Option ℕ
first_open_since own claim = find (is_open_since own claim) (blocks_in claim.run)

-- a claim stands: it hasn't ended since its grant, and has an open block or is a probe
abbrev pub is_standing : List OwnEvent → Claim → Bool
is_standing own claim =
    not (list_any (ends_claim claim.id) (since (grants_claim claim.id) own))
    && (is_probe claim || is_some (first_open_since own claim))

-- the claims that stand, the newest first
abbrev pub standing_claims : List OwnEvent → List Claim
standing_claims own = filter (is_standing own) (granted_claims own)

abbrev pub stands_in : List OwnEvent → ℕ → Bool
stands_in own c = list_any (λ claim. claim.id == c) (standing_claims own)

-- a claim's own landings hold its whole run
abbrev pub has_given_all : List OwnEvent → ℕ → Bool
has_given_all own c =
    list_any
    (λ claim. claim.id == c && list_all (λ b. list_any (lands_block_by c b) own) (blocks_in claim.run))
    (granted_claims own)

-- the piece of a block; of none, as of a probe, the first one
abbrev pub piece_of_first : ℕ → Option ℕ → ℕ
piece_of_first piece_len None = 0
piece_of_first piece_len (Some b) = piece_of piece_len b
