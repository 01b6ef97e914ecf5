-- The changes that a download's events make to its table. What a sole piece's claim gave goes where it ends before
-- it is whole.
use Rattle.std.specs.Prelude.{ℕ, ◌&&◌, Bool, not, if◌then◌else◌, Option, Some, None, List, [], ◌∷◌}
use Rattle.dl_kinds.specs.Plan.{piece_of}
use Rattle.dl_kinds.specs.declared.claims.Claim.{Claim}
use Rattle.piece_table.specs.Changes.{Change, Land, Settle, Clear, MakeSole, Source, source_of}
use Rattle.piece_table.specs.declared.giver.Giver.{Giver}
use Rattle.dl_history.specs.OwnEvents.{Checks, Clears, Grants, Halts, Lands, Loses, Opens, OwnEvent, Saves, Settles, Sizes}
use Rattle.dl_history.specs.PayloadParts.{is_mixed, is_sole_in}
use Rattle.dl_history.specs.StandingClaims.{first_open_since, standing_claims}

-- a claim ends at this open block
abbrev pub gone_at : ℕ → List OwnEvent → Option ℕ → List Change → List Change
gone_at len before None changes = changes
gone_at len before (Some b) changes = if is_sole_in before (piece_of len b) then Clear (piece_of len b) ∷ changes
    else changes

abbrev pub gone : ℕ → List OwnEvent → List Claim → List Change → List Change
gone len before [] changes = changes
gone len before (g ∷ others) changes = gone_at len before (first_open_since before g) (gone len before others changes)

abbrev pub with_finding_on : ℕ → Bool → Giver → List Change → List Change
with_finding_on p right giver changes = if not right
    && is_mixed giver then MakeSole p ∷ Settle p right ∷ changes else Settle p right ∷ changes

abbrev pub changes_of : ℕ → List OwnEvent → List Change
changes_of len [] = []
changes_of len (Opens verified blocks now ∷ before) = []
changes_of len (Grants claim ∷ before) = changes_of len before
changes_of len (Lands id mirror run ∷ before) = Land run mirror ∷ changes_of len before
changes_of len (Settles piece right giver ∷ before) = with_finding_on piece right giver (changes_of len before)
changes_of len (Clears piece ∷ before) = Clear piece ∷ changes_of len before
changes_of len (Loses id mirror piece mark ∷ before) = if is_sole_in before piece then Clear piece ∷ changes_of len
    before else changes_of len before
changes_of len (Sizes id total ∷ before) = changes_of len before
changes_of len (Saves now ∷ before) = changes_of len before
changes_of len (Checks right ∷ before) = changes_of len before
changes_of len (Halts ends ∷ before) = gone len before (standing_claims before) (changes_of len before)

-- the blocks that the download was opened with
abbrev pub blocks_at_start : List OwnEvent → List Bool
blocks_at_start [] = []
blocks_at_start (Opens verified blocks now ∷ before) = blocks
blocks_at_start (Grants claim ∷ before) = blocks_at_start before
blocks_at_start (Lands id mirror run ∷ before) = blocks_at_start before
blocks_at_start (Settles piece right giver ∷ before) = blocks_at_start before
blocks_at_start (Clears piece ∷ before) = blocks_at_start before
blocks_at_start (Loses id mirror piece mark ∷ before) = blocks_at_start before
blocks_at_start (Sizes id total ∷ before) = blocks_at_start before
blocks_at_start (Saves now ∷ before) = blocks_at_start before
blocks_at_start (Checks right ∷ before) = blocks_at_start before
blocks_at_start (Halts ends ∷ before) = blocks_at_start before

-- where the table has a block from
abbrev pub table_source : ℕ → List OwnEvent → ℕ → Source
table_source len own b = source_of len (blocks_at_start own) (changes_of len own) b
