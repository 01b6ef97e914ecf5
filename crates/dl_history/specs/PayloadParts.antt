-- Which blocks of a download are landed and who gave them, and which of its pieces are verified, sole, last found wrong
-- or settled since their last landing, by its events.
use Rattle.std.specs.Prelude.{ℕ, ◌==◌, ◌&&◌, ◌||◌, Bool, true, false, not, if◌then◌else◌, Option, Some, None, List, [], ◌∷◌, map, slice_index_or}
use Rattle.std.specs.List.{list_any, filter_map, range_with_len}
use Rattle.dl_kinds.specs.ExitStatuses.{exit_code}
use Rattle.dl_kinds.specs.Plan.{piece_of, blocks_of}
use Rattle.dl_kinds.specs.declared.exit_status.ExitStatus.TheVariants.{Checksum}
use Rattle.dl_kinds.specs.declared.runs.Run.{Run}
use Rattle.dl_kinds.specs.declared.marks.Mark.{Mark}
use Rattle.mirror_blame.specs.declared.blame.Blame.{Blame}
use Rattle.piece_table.specs.Changes.{is_in, Source, Absent, Unknown, From, is_present, is_wrong_last}
use Rattle.piece_table.specs.declared.giver.Giver.{Giver}
use Rattle.piece_table.specs.declared.giver.Giver.TheVariants.{Nobody, One, Mixed}
use Rattle.dl_history.specs.OwnEvents.{OwnEvent, Opens, Lands, Settles, Clears, Loses, Sizes, Checks, Halts}
use Rattle.dl_history.specs.StandingClaims.{since, stands_in, has_given_all, blocks_in}

-- ---- pieces

abbrev pub is_opening : OwnEvent → Bool
is_opening (Opens verified blocks now) = true
is_opening e = false

abbrev pub is_opened : List OwnEvent → Bool
is_opened own = list_any is_opening own

abbrev pub is_mixed : Giver → Bool
is_mixed Nobody = false
is_mixed (One mirror) = false
is_mixed Mixed = true

-- the piece is found wrong, and its blocks came from several mirrors
abbrev pub fails_mixed : ℕ → OwnEvent → Bool
fails_mixed p (Settles piece right giver) = piece == p && not right && is_mixed giver
fails_mixed p e = false

-- one mirror has to give the piece whole: it was found wrong once, given by several
abbrev pub is_sole_in : List OwnEvent → ℕ → Bool
is_sole_in own p = list_any (fails_mixed p) own

abbrev pub verifies : ℕ → OwnEvent → Bool
verifies p (Opens verified blocks now) = slice_index_or verified p false
verifies p (Settles piece right giver) = piece == p && right
verifies p e = false

-- a piece is verified that was so at the opening, or was found right
abbrev pub is_verified_in : List OwnEvent → ℕ → Bool
is_verified_in own p = list_any (verifies p) own

abbrev pub finding_on : ℕ → OwnEvent → Option Bool
finding_on p (Settles piece right giver) = if piece == p then Some right else None
finding_on p e = None

-- it was last found wrong
abbrev pub is_wrong_in : List OwnEvent → ℕ → Bool
is_wrong_in own p = is_wrong_last (filter_map (finding_on p) own)

-- a block of the run is of the piece
abbrev pub is_run_on : ℕ → Run → ℕ → Bool
is_run_on len run p = list_any (λ b. piece_of len b == p) (blocks_in run)

abbrev pub lands_on : ℕ → ℕ → OwnEvent → Bool
lands_on len p (Lands id mirror run) = is_run_on len run p
lands_on len p e = false

abbrev pub settles_piece : ℕ → OwnEvent → Bool
settles_piece p (Settles piece right giver) = piece == p
settles_piece p e = false

-- it was settled since blocks of it last came
abbrev pub is_settled_in : ℕ → List OwnEvent → ℕ → Bool
is_settled_in len own p = list_any (settles_piece p) (since (lands_on len p) own)

-- ---- blocks

-- a landing of a claim in piece p counts: where the piece was sole when it came, only if the claim is one of these
abbrev pub counts : (ℕ → Bool) → List OwnEvent → ℕ → ℕ → Bool
counts alive before p c = not (is_sole_in before p) || alive c

-- where block b of piece p is from: the newest landing that counts, since the last clearing of the piece
abbrev pub source_by : (ℕ → Bool) → ℕ → ℕ → List OwnEvent → Source
source_by alive p b [] = Absent
source_by alive p b (Opens verified blocks now ∷ before) = if slice_index_or blocks b false then Unknown else Absent
source_by alive p b (Lands id mirror run ∷ before) =
    if is_in b run && counts alive before p id then From mirror else source_by alive p b before
source_by alive p b (Clears piece ∷ before) = if piece == p then Absent else source_by alive p b before
source_by alive p b (e ∷ before) = source_by alive p b before

-- in a sole piece the landings of claims count that stand, or that gave all their blocks
abbrev pub is_alive : List OwnEvent → ℕ → Bool
is_alive own c = stands_in own c || has_given_all own c

abbrev pub source_in : ℕ → List OwnEvent → ℕ → Source
source_in len own b = source_by (is_alive own) (piece_of len b) b own

abbrev pub is_landed_in : ℕ → List OwnEvent → ℕ → Bool
is_landed_in len own b = is_present (source_in len own b)

-- where each block is from
abbrev pub sources_in : ℕ → ℕ → List OwnEvent → List Source
sources_in total len own = map (source_in len own) (range_with_len 0 (blocks_of total len))

-- ---- the rest

-- the length that a probe told
abbrev pub told_total : List OwnEvent → Option ℕ
told_total [] = None
told_total (Sizes id total ∷ before) = Some total
told_total (e ∷ before) = told_total before

-- how the last check of the whole payload went
abbrev pub last_check : List OwnEvent → Option Bool
last_check [] = None
last_check (Checks right ∷ before) = Some right
last_check (e ∷ before) = last_check before

abbrev pub is_ending : OwnEvent → Bool
is_ending (Halts ends) = ends
is_ending e = false

abbrev pub is_ended : List OwnEvent → Bool
is_ended own = list_any is_ending own

-- ---- marks

-- what is held against a mirror whose piece doesn't have its digest
abbrev pub checksum_mark : Mark
checksum_mark = record { code = exit_code Checksum; count = 0 }

-- what an event marks
abbrev pub blame_in : OwnEvent → Option Blame
blame_in (Settles piece false (One mirror)) = Some (record { mirror = mirror; piece = piece; mark = checksum_mark })
blame_in (Loses id mirror piece mark) = Some (record { mirror = mirror; piece = piece; mark = mark })
blame_in e = None

-- the marks of the download's mirrors, the newest first
abbrev pub blames_in : List OwnEvent → List Blame
blames_in own = filter_map blame_in own
