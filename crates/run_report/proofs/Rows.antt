-- What a row of verified pieces says.
use Rattle.std.proofs.Common.{◌≡◌, ◌∙◌, ℕ, Bool, true, false, cond, Option, Some, None, ◌<◌, List, get_or, refl, sym, ap}
use Rattle.std.specs.Option.{is_some, option_and_then, unwrap_or}
use Rattle.bit_rows.specs.Row.{row_bytes}
use Rattle.hex.specs.Hex.{encode_lower}
use Rattle.machine_core.specs.Starts.{Download}
use Rattle.run_report.specs.Statuses.{bitfield_text}
use Rattle.dl_history.specs.AccountLaws.{MatchesEvents}
use Rattle.dl_history.specs.Accounts.{Account}
use Rattle.dl_history.specs.OwnEvents.{OwnEvent}
use Rattle.dl_history.specs.PayloadParts.{is_opened, is_verified_in}
use Rattle.dl_kinds.specs.Plan.{pieces_of}
use Rattle.piece_table.specs.Progress.{Progress}
use Rattle.machine_core.specs.OwnParts.{PayloadLengths, no_lengths}
use Rattle.machine_core.proofs.Reading.{row_by}
use Rattle.run_report.specs.Files.{shared_bytes, verified_bytes_in, verified_row}
use Rattle.run_report.proofs.Shares.{none_true}

-- of a download that is opened
pub opened_row : (l : PayloadLengths) (own : List OwnEvent) (k : Account) → MatchesEvents l.total l.piece_len own k
    → is_opened own ≡ true → k.progress.verified ≡ verified_row l own
opened_row l own k m opened =
    row_by k.progress.verified (is_verified_in own) (pieces_of l.total l.piece_len) (m.rows opened).verified
    (λ piece below. (m.pieces piece below).verified)

-- of one that isn't no piece is verified
unopened : (l : PayloadLengths) (own : List OwnEvent) (k : Account) → MatchesEvents l.total l.piece_len own k
    → is_opened own ≡ false → (piece : ℕ) → piece < pieces_of l.total l.piece_len → is_verified_in own piece ≡ false
unopened l own k m un piece below =
    sym (m.pieces piece below).verified ∙ ap (λ (p : Progress). get_or p.verified piece false) (m.nothing un)

pub unopened_bytes : (l : PayloadLengths) (own : List OwnEvent) (k : Account) (first len : ℕ)
    → MatchesEvents l.total l.piece_len own k → is_opened own ≡ false
    → 0 ≡ verified_bytes_in l (verified_row l own) first len
unopened_bytes l own k first len m un =
    sym (none_true (shared_bytes l first len) (is_verified_in own) (pieces_of l.total l.piece_len)
    (unopened l own k m un))

-- while the lengths aren't known there is no piece
pub unknown_bytes : (o : Option PayloadLengths) (own : List OwnEvent) (first len : ℕ) → None ≡ o
    → 0 ≡ verified_bytes_in (unwrap_or o no_lengths) (verified_row (unwrap_or o no_lengths) own) first len
unknown_bytes None own first len is = refl
unknown_bytes (Some l) own first len is = absurd cc

-- the bits of a download that is opened are told
pub opened_bits : (l : PayloadLengths) (own : List OwnEvent) → is_opened own ≡ true
    → Some (encode_lower (row_bytes (verified_row l own))) ≡ bitfield_text l own
opened_bits l own opened =
    sym (ap (λ (b : Bool). cond b (Some (encode_lower (row_bytes (verified_row l own)))) None) opened)

-- a download whose lengths are known was added
pub known_added : (f : Download → Option PayloadLengths) (o : Option Download) (l : PayloadLengths)
    → Some l ≡ option_and_then f o → is_some o ≡ true
known_added f None l is = absurd (let e : None ≡ Some l = sym is in cc)
known_added f (Some download) l is = refl
