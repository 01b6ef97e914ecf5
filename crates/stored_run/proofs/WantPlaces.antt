-- What the disk is to keep of a download that goes on, as it is read by the download's place.
use Rattle.std.proofs.Common.{◌≡◌, ◌<◌, ◌∙◌, ℕ, Option, Some, None, List, get_or, length, slice_get, refl, sym, ap, arith, Bor}
use Rattle.std.specs.Prelude.{IfNone, IfSome, IsSome, option_copied}
use Rattle.std.specs.Option.{option_and_then}
use Rattle.std.proofs.lemmas.Option.{slice_get_read, slice_get_within}
use Rattle.control_file.specs.Wants.{IsWant}
use Rattle.control_file.specs.declared.want.Want.{Want}
use Rattle.dl_kinds.specs.Plan.{pieces_of}
use Rattle.dl_kinds.specs.declared.gid.Gid.{Gid}
use Rattle.machine_core.specs.DownloadWants.{HasWant}
use Rattle.machine_core.specs.MachineViews.{place_in}
use Rattle.machine_core.specs.OwnParts.{PayloadLengths}
use Rattle.machine_core.specs.RunLegal.{download_in, known_lengths}
use Rattle.machine_core.specs.Starts.{Download, RunStart}
use Rattle.machine_core.specs.declared.events.Event.{Event}
use Rattle.machine_core.proofs.Begun.{copied_is, copied_some}
use Rattle.machine_core.proofs.Here.{told_some}
use Rattle.stored_run.proofs.Endings.{GoingFacts}
use Rattle.stored_run.proofs.Own.{lengths_known}

some_by : (o : Option ℕ) (d : Option Download) (download : Download) → d ≡ Some download → IfNone o (d ≡ None) → IsSome o
some_by None d download is none = absurd (let f : None ≡ Some download = sym none ∙ is in cc)
some_by (Some n) d download is none = refl

within_by : (wants : List (Option Want)) (n : ℕ) (want : Want) (o : Option (Option Want)) → slice_get wants n ≡ o
    → option_and_then (λ (w : Option Want). w) o ≡ Some want → n < length wants
within_by wants n want None read is = absurd cc
within_by wants n want (Some x) read is = slice_get_within wants n x read

module _ (start : RunStart) (past : List Event) (wants : List (Option Want)) (gid : Gid)
    (facts : GoingFacts start past wants gid) (o : Option ℕ) where
  pub place_some : IfNone o (download_in start past gid ≡ None) → IsSome o
  place_some none = some_by o (download_in start past gid) facts.has.download facts.has.added none

  module _ (n : ℕ) (is : o ≡ Some n) (first : IfSome o (λ (p : ℕ). p ≡ place_in start past gid)) where
    kept_there : option_and_then (λ (w : Option Want). w) (slice_get wants n) ≡ Some facts.want
    kept_there =
        ap (λ (p : ℕ). option_and_then (λ (w : Option Want). w) (slice_get wants p))
        (told_some (λ (p : ℕ). p ≡ place_in start past gid) o n is first) ∙ facts.kept

    pub want_within : n < length wants
    want_within = within_by wants n facts.want (slice_get wants n) refl kept_there

    want_at : (x : Option Want) → x ≡ get_or wants n x → x ≡ Some facts.want
    want_at x x_is =
        sym (ap (option_and_then (λ (w : Option Want). w)) (slice_get_read wants (length wants) n x refl want_within x_is))
        ∙ kept_there

    pub want_some : (x : Option Want) (r : Option (Bor Want)) → x ≡ get_or wants n x → option_copied r ≡ x → IsSome r
    want_some x r x_is r_is = copied_some r facts.want (r_is ∙ want_at x x_is)

    pub want_is : (x : Option Want) (r : Option (Bor Want)) (w : Bor Want) → x ≡ get_or wants n x
        → option_copied r ≡ x → r ≡ Some w → w.now ≡ facts.want
    want_is x r w x_is r_is there = copied_is r w facts.want there (r_is ∙ want_at x x_is)

-- a piece of the download is one of its want
pub piece_of_want : (start : RunStart) (past : List Event) (gid : Gid) (want : Want) (piece : ℕ)
    → HasWant start past gid want → IsWant want
    → piece < pieces_of (known_lengths start past gid).total (known_lengths start past gid).piece_len
    → piece < want.plan.pieces
piece_of_want start past gid want piece has is below =
    let same : pieces_of (known_lengths start past gid).total (known_lengths start past gid).piece_len
    ≡ pieces_of want.plan.total want.plan.piece_len =
    ap (λ (l : PayloadLengths). pieces_of l.total l.piece_len) (lengths_known start past gid want has) in
    omega (arith, below, same, is.pieces)
