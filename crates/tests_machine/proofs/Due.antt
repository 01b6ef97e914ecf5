-- What a rig asks of a machine is due.
use Rattle.std.proofs.Common.{◌≡◌, ◌∙◌, ◌<◌, ◌≤◌, ◌+◌, ℕ, Bool, true, false, cond, Option, Some, None, List, ◌∷◌, inl, inr, Bor, ◌-◌, length, get_or, slice_get, refl, sym, ap, subst, arith}
use Rattle.std.specs.Prelude.{◌&&◌, IfSome, nat_le, nat_lt, option_copied, replicate}
use Rattle.std.specs.Option.{is_some, option_map, unwrap_or}
use Rattle.std.proofs.lemmas.Bool.{eq-eqb}
use Rattle.std.proofs.lemmas.List.{get_or-replicate, length-replicate}
use Rattle.std.proofs.lemmas.Bool.Decides.{nat_tests}
use Rattle.std.proofs.lemmas.Option.{get_or_from_slice_get, same_Some, slice_get_within}
use Rattle.dl_kinds.specs.Plan.{blocks_of, pieces_of}
use Rattle.dl_kinds.specs.declared.claims.Claim.{Claim}
use Rattle.dl_kinds.specs.declared.gid.Gid.{Gid}
use Rattle.dl_kinds.specs.declared.marks.Mark.{Mark}
use Rattle.dl_kinds.specs.declared.runs.Moment.{Moment}
use Rattle.dl_kinds.specs.declared.runs.Run.{Run}
use Rattle.control_file.specs.declared.want.Want.{Want}
use Rattle.dl_history.specs.OwnEvents.{OwnEvent, Settles}
use Rattle.dl_history.specs.OwnLegal.{IsLossOf, MayClear}
use Rattle.dl_history.specs.StandingClaims.{first_open_since, is_probe, piece_of_first}
use Rattle.piece_table.specs.Progress.{IsStart}
use Rattle.piece_table.specs.declared.giver.Giver.{Giver}
use Rattle.machine_core.specs.Claiming.{AreOpenIn, AreOpenRuns}
use Rattle.machine_core.specs.DownloadWants.{HasWant}
use Rattle.machine_core.specs.MachineViews.{Appends, HasMarkRoomAt, IsFindingOf, IsLandingOf, IsLossOfClaim, IsNext, IsSizingBy, MachineView, StandsUnder, mark_spare_in}
use Rattle.machine_core.specs.OwnParts.{PayloadLengths, no_lengths, own_of, payload_lengths_of}
use Rattle.machine_core.specs.Reads.{IsUnlistedIn}
use Rattle.machine_core.specs.Replays.{is_active_in}
use Rattle.machine_core.specs.RunLegal.{IsLaterThan, IsLegal, LengthsStay, MayBeCleared, MayBeSettled, MayFollow, download_in, info_hash_by, is_listed, known_lengths}
use Rattle.machine_core.specs.Starts.{Download, Listed, RunStart, Subject, Unlisted}
use Rattle.machine_core.specs.TurnRooms.{HasTurnMarkRoom, IsRoomierRun}
use Rattle.machine_core.specs.declared.events.Event.{Event}
use Rattle.machine_core.specs.declared.events.Event.TheVariants.{Cleared, Landed, Lost, Settled, Sized}

-- ---- moments

-- a run with more room has the same moments
pub later_same : (old new : MachineView) (now : Moment) → IsRoomierRun old new → IsLaterThan old.past now
    → IsLaterThan new.past now
later_same old new now same later = subst (λ (past : List Event). IsLaterThan past now) (sym same.past_is) later

-- ---- claims that stand

pub record HasDownload (m : MachineView) (gid : Gid) : Type 0 where
  pub download : Download
  pub added : download_in m.start m.past gid ≡ Some download

added_by : {A : Type 0} (m : MachineView) (gid : Gid) (f : Download → A) (o : Option (Bor A)) (d : Option Download)
    → download_in m.start m.past gid ≡ d → option_copied o ≡ option_map f d → is_some o ≡ true → HasDownload m gid
added_by m gid f o (Some d) e is some = record { download = d; added = e }
added_by m gid f None None e is some = absurd cc
added_by m gid f (Some x) None e is some = absurd cc

-- a download that has options was added
pub has_download : {A : Type 0} (m : MachineView) (gid : Gid) (f : Download → A) (o : Option (Bor A))
    → option_copied o ≡ option_map f (download_in m.start m.past gid) → is_some o ≡ true → HasDownload m gid
has_download m gid f o is some = added_by m gid f o (download_in m.start m.past gid) refl is some

pub told_some : {A : Type 0} (P : A → Type 0) (o : Option A) (x : A) → o ≡ Some x → IfSome o P → P x
told_some P o x is h = rw is at h

pub may_lose : (m : MachineView) (id : ℕ) (gid : Gid) (claim : Claim) (mark : Mark) → StandsUnder m id gid claim
    → HasDownload m gid → IsNext m (IsLossOfClaim id mark)
may_lose m id gid claim mark s d =
    let own = own_of m.start m.past gid in
    let piece = piece_of_first (known_lengths m.start m.past gid).piece_len (first_open_since own claim) in (
      Lost gid id claim.mirror piece mark,
      (gid, claim.mirror, piece, refl),
      record {
        download = d.download;
        added = d.added;
        may = record { claim = claim; stands = s.stands; id_is = s.id_is; mirror_is = refl; piece_is = refl };
      },
    )

pub may_size : (m : MachineView) (id : ℕ) (gid : Gid) (claim : Claim) (total : ℕ) → StandsUnder m id gid claim
    → HasDownload m gid → is_probe claim ≡ true → IsNext m (IsSizingBy id total)
may_size m id gid claim total s d probe = (
  Sized gid id total,
  (gid, refl),
  record {
    download = d.download;
    added = d.added;
    may = record { claim = claim; stands = s.stands; id_is = s.id_is; probe = probe };
  },
)

-- a turn has room for a mark of an active download
pub mark_room : (m : MachineView) (id : ℕ) (gid : Gid) (claim : Claim) → StandsUnder m id gid claim
    → is_active_in m.start m.past gid ≡ true → HasTurnMarkRoom m → HasMarkRoomAt m id
mark_room m id gid claim s active room other twin t =
    let same : other ≡ gid = (s.one other twin t.stands t.id_is).0 in
    let some = room gid active in
    subst (λ (g : Gid). 1 ≤ mark_spare_in m g) (sym same) (omega arith)

in_from : (block first count : ℕ) → (nat_le first block && nat_lt block (first + count)) ≡ true → first ≤ block
in_from block first count is = grind (arith, nat_tests)

in_before : (block first count : ℕ) → (nat_le first block && nat_lt block (first + count)) ≡ true
    → block < first + count
in_before block first count is = grind (arith, nat_tests)

-- the blocks of a run that is open in a claim land
pub may_land : (m : MachineView) (id : ℕ) (run first : Run) (runs : List Run) (now : Moment) (gid : Gid) (claim : Claim)
    → StandsUnder m id gid claim → AreOpenRuns m id run runs → slice_get runs 0 ≡ Some first → HasDownload m gid
    → IsLaterThan m.past now → IsNext m (IsLandingOf id first now)
may_land m id run first runs now gid claim s cut at d later =
    let own = own_of m.start m.past gid in
    let are : AreOpenIn own claim run runs = cut.stands gid claim s in
    let within : 0 < length runs = slice_get_within runs 0 first at in
    let read : get_or runs 0 first ≡ first = get_or_from_slice_get runs 0 first first at in
    let some : 0 < first.count = subst (λ (r : Run). 0 < r.count) read (are.some 0 first within) in (
      Landed gid id claim.mirror first now,
      (gid, claim.mirror, refl),
      (
        record {
          download = d.download;
          added = d.added;
          may = record {
            claim = claim;
            stands = s.stands;
            id_is = s.id_is;
            mirror_is = refl;
            some = omega arith;
            open_in = λ b is.
                ((are.exact b).0 (
                  0,
                  first,
                  within,
                  read,
                  record { from = in_from b first.first first.count is; before = in_before b first.first first.count is },
                )).1;
          };
        },
        later,
      ),
    )

-- .. and it has no more blocks than the run
pub first_few : (m : MachineView) (id : ℕ) (run first : Run) (runs : List Run) (gid : Gid) (claim : Claim)
    → StandsUnder m id gid claim → AreOpenRuns m id run runs → slice_get runs 0 ≡ Some first → first.count ≤ run.count
first_few m id run first runs gid claim s cut at =
    let are : AreOpenIn (own_of m.start m.past gid) claim run runs = cut.stands gid claim s in
    let within : 0 < length runs = slice_get_within runs 0 first at in
    let read : get_or runs 0 first ≡ first = get_or_from_slice_get runs 0 first first at in
    let some : 0 < first.count = subst (λ (r : Run). 0 < r.count) read (are.some 0 first within) in
    let last = first.first + (first.count - 1) in
    let low = ((are.exact first.first).0
    (0, first, within, read, record { from = omega arith; before = omega arith })).0 in
    let high = ((are.exact last).0 (0, first, within, read, record { from = omega arith; before = omega arith })).0 in
    let from = low.from in
    let before = high.before in
    omega arith

-- ---- rows

not_verified : (n piece : ℕ) → slice_get (replicate n false) piece ≡ Some true → ⊥
not_verified n piece is =
    let row = replicate n false in
    let within : piece < length row = slice_get_within row piece true is in
    let read : get_or row piece true ≡ true = get_or_from_slice_get row piece true true is in
    let long : length row ≡ n = length-replicate n false in
    let none : get_or row piece true ≡ false = get_or-replicate n piece false true (omega arith) in
    let f : true ≡ false = sym read ∙ none in
    cc

pub bare_start : (total len : ℕ) (verified blocks : List Bool) → verified ≡ replicate (pieces_of total len) false
    → length blocks ≡ blocks_of total len → IsStart total len verified blocks
bare_start total len verified blocks none many =
    let n = pieces_of total len in
    record {
      pieces = ap (λ (row : List Bool). length row) none ∙ length-replicate n false;
      blocks = many;
      full = λ piece is. absurd (not_verified n piece (ap (λ (row : List Bool). slice_get row piece) (sym none) ∙ is));
    }
