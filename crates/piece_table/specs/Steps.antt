-- What a landing, a verdict and the others make of a download's progress.
use Rattle.std.specs.Prelude.{ℕ, ◌+◌, ◌*◌, ◌==◌, nat_lt, ◌++◌, Bool, true, false, not, if◌then◌else◌, List, length, map, take, drop, replicate, slice_set, slice_index_or}
use Rattle.std.specs.List.{range_with_len}
use Rattle.dl_kinds.specs.Plan.{full_blocks, blocks_of_piece}
use Rattle.dl_kinds.specs.declared.runs.Run.{Run}
use Rattle.piece_table.specs.declared.giver.Giver.{Giver}
use Rattle.piece_table.specs.declared.giver.Giver.TheVariants.{Nobody, One, Mixed}
use Rattle.piece_table.specs.Progress.{Progress, landed_count}

-- the list with one value at count places from first on
abbrev pub filled : {A : Type 0} → A → ℕ → ℕ → List A → List A
filled value first count xs = take first xs ++ (replicate count value ++ drop (first + count) xs)

-- blocks that are landed at the start came from nobody known
abbrev pub giver_at_start : ℕ → Giver
giver_at_start landed = if landed == 0 then Nobody else Mixed

-- at the start, with these pieces verified and these blocks landed
abbrev pub started : ℕ → ℕ → List Bool → List Bool → Progress
started total piece_len verified landed =
    record {
      total = total;
      piece_len = piece_len;
      landed = landed;
      verified = verified;
      sole = replicate (length verified) false;
      wrong = replicate (length verified) false;
      givers = map (λ piece. giver_at_start (landed_count total piece_len landed piece)) (range_with_len 0 (length verified));
    }

-- who gave the landed blocks of a piece once the mirror gave one more
abbrev pub with_giver : Giver → ℕ → Giver
with_giver Nobody mirror = One mirror
with_giver (One other) mirror = if other == mirror then One mirror else Mixed
with_giver Mixed mirror = Mixed

-- more blocks of the piece are landed than before
abbrev pub has_gained : ℕ → ℕ → List Bool → List Bool → ℕ → Bool
has_gained total piece_len before after piece =
    nat_lt (landed_count total piece_len before piece) (landed_count total piece_len after piece)

-- the givers once a mirror made the landed blocks before those after
abbrev pub givers_after : Progress → List Bool → ℕ → List Giver
givers_after p after mirror =
    map
    (λ piece.
    let giver = slice_index_or p.givers piece Nobody in
    if has_gained p.total p.piece_len p.landed after piece then with_giver giver mirror else giver)
    (range_with_len 0 (length p.givers))

-- the blocks of the run come from the mirror
abbrev pub landed_by : Progress → Run → ℕ → Progress
landed_by p run mirror =
    let after = filled true run.first run.count p.landed in
    record p { landed = after; givers = givers_after p after mirror }

-- the piece is found right or wrong
abbrev pub settled : Progress → ℕ → Bool → Progress
settled p piece right =
    record p {
      verified = if right then slice_set p.verified piece true else p.verified;
      wrong = slice_set p.wrong piece (not right);
    }

-- the blocks of the piece go
abbrev pub cleared : Progress → ℕ → Progress
cleared p piece =
    record p {
      landed = filled false (piece * full_blocks p.piece_len) (blocks_of_piece p.total p.piece_len piece) p.landed;
      givers = slice_set p.givers piece Nobody;
    }

-- the piece is sole from now on
abbrev pub made_sole : Progress → ℕ → Progress
made_sole p piece = record p { sole = slice_set p.sole piece true }
