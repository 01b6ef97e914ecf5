-- How much work a download may take: limits by its blocks, pieces, mirrors and tries.
use Rattle.std.specs.Prelude.{ℕ, ◌+◌, ◌*◌, ◌==◌, max, Bool, true, false, List, [], ◌∷◌, count_by}
use Rattle.dl_kinds.specs.Plan.{blocks_of, pieces_of}
use Rattle.dl_kinds.specs.declared.gid.Gid.{Gid}
use Rattle.dl_history.specs.OwnEvents.{OwnEvent, Grants, Clears, Checks, Halts}
use Rattle.machine_core.specs.OwnParts.{PayloadLengths, own_of}
use Rattle.machine_core.specs.RunLegal.{known_lengths, mirrors_by, tries_in}
use Rattle.machine_core.specs.Starts.{Download, RunStart}
use Rattle.machine_core.specs.declared.events.Event.{Event}

-- ---- events that are counted

abbrev pub is_halt : OwnEvent → Bool
is_halt (Halts ends) = true
is_halt e = false

abbrev pub is_check : OwnEvent → Bool
is_check (Checks right) = true
is_check e = false

abbrev pub clears_piece : ℕ → OwnEvent → Bool
clears_piece p (Clears piece) = piece == p
clears_piece p e = false

-- how often the download was halted and then went on: the halts before the newest claim
abbrev pub pauses_in : List OwnEvent → ℕ
pauses_in [] = 0
pauses_in (Grants claim ∷ before) = count_by is_halt before
pauses_in (e ∷ before) = pauses_in before

-- what no rule limits: halts, a save after each, and checks of the whole payload
abbrev pub unlimited_events : List OwnEvent → ℕ
unlimited_events own = 2 * count_by is_halt own + count_by is_check own

-- ---- limits

pub record WorkLimits : Type 0 where
  pub blocks : ℕ
  pub pieces : ℕ
  pub mirrors : ℕ
  pub tries : ℕ  -- of each mirror for a piece
  pub pauses : ℕ

-- the marks of all mirrors for a piece
abbrev pub most_marks : WorkLimits → ℕ
most_marks limits = limits.mirrors * limits.tries

-- .. and for all pieces; a probe is held against its mirror as one for the first piece
abbrev pub all_marks : WorkLimits → ℕ
all_marks limits = max limits.pieces 1 * most_marks limits

-- how often a piece is cleared
abbrev pub most_clears : WorkLimits → ℕ
most_clears limits = most_marks limits + 1

-- how often blocks land
abbrev pub most_landings : WorkLimits → ℕ
most_landings limits = limits.blocks * (most_marks limits + 2 + limits.pauses)

-- the claims: by the landings and marks that they end with, one that tells the length, and one that stands
abbrev pub most_claims : WorkLimits → ℕ
most_claims limits =
    most_landings limits + all_marks limits + 2 + limits.pauses

-- all events but those that no rule limits
abbrev pub most_events : WorkLimits → ℕ
most_events limits = 8 * most_landings limits + 2 * most_marks limits + 4 + limits.pauses

-- those of a download with these lengths; the lengths are 0 until they are known
abbrev pub limits_by : PayloadLengths → Download → List OwnEvent → WorkLimits
limits_by lengths download own =
    record {
      blocks = blocks_of lengths.total lengths.piece_len;
      pieces = pieces_of lengths.total lengths.piece_len;
      mirrors = mirrors_by download.subject;
      tries = tries_in download;
      pauses = pauses_in own;
    }

abbrev pub limits_in : RunStart → List Event → Gid → Download → WorkLimits
limits_in start past gid download =
    limits_by (known_lengths start past gid) download (own_of start past gid)
