-- What an operation took from the disk, from its beginning on.
use Rattle.std.proofs.Common.{◌≡◌, ℕ, true, false, List, Option, Some, sym, subst}
use Rattle.control_file.specs.declared.want.Want.{Want}
use Rattle.dl_disk.specs.Files.{Files}
use Rattle.dl_disk.specs.State.{DiskState}
use Rattle.dl_history.specs.PayloadParts.{is_opened}
use Rattle.dl_kinds.specs.declared.gid.Gid.{Gid}
use Rattle.engine_turns.specs.declared.operations.Grant.{Grant}
use Rattle.engine_turns.specs.declared.operations.Grant.TheVariants.{Fetch, Hash, Probe}
use Rattle.engine_turns.specs.declared.operations.Said.{Said}
use Rattle.engine_turns.specs.declared.operations.Said.TheVariants.{Replied, Grant as Granted, Kept, Allow, Void, Hold, Idle, Done, Finished, JournalFull, NoMemory, Notices}
use Rattle.machine_core.specs.Offers.{is_handed_out}
use Rattle.machine_core.specs.OwnParts.{own_of}
use Rattle.machine_core.specs.Starts.{RunStart}
use Rattle.machine_core.specs.declared.events.Event.{Event}
use Rattle.machine_core.specs.declared.handed.Handed.{Handed}
use Rattle.resume_core.specs.Runs.{ReadsPiece}
use Rattle.stored_run.proofs.Between.{came_none}
use Rattle.stored_run.specs.Settlings.{IsSettledBetween, ReadsPieceOf}
use Rattle.stored_run.specs.Views.{kept_want, own_in}
use Rattle.stored_run.specs.declared.run.StoredView.{StoredView}
use Rattle.verify_piece.specs.Seals.{PieceBytes}
use Rattle.engine_core.specs.Disks.{IsAlike}
use Rattle.engine_core.specs.Readings.{GivesRead, IsPieceOf, ReadsOpened, TakesSeal}
use Rattle.engine_core.proofs.Letting.{lets_go}

-- ---- the same said of another view of the run

record Viewed : Type 0 where
  start : RunStart
  past : List Event
  wants : List (Option Want)
  seen : Files

abbrev viewed : {D : Type 0} → StoredView D → Files → Viewed
viewed r files = record { start = r.machine.start; past = r.machine.past; wants = r.wants.items; seen = files }

abbrev OpenedIn : Gid → Viewed → Type 0
OpenedIn gid v = is_opened (own_of v.start v.past gid) ≡ true

abbrev ReadsIn : Gid → ℕ → List ℕ → Viewed → Type 0
ReadsIn gid piece bytes v =
    (want : Want) → kept_want v.wants v.start v.past gid ≡ Some want → ReadsPiece want piece v.seen bytes

module _ {D : Type 0} (state : D → DiskState) (old mid : StoredView D) (alike : IsAlike old mid) where
  same_view : viewed mid (state mid.disk).seen ≡ viewed old (state old.disk).seen
  same_view i = record {
    start = alike.start i;
    past = alike.past i;
    wants = (alike.wants i).items;
    seen = (state (alike.disk i)).seen;
  }

  pub reads_before : (gid : Gid) (piece : ℕ) (bytes : List ℕ) → ReadsPieceOf mid gid piece (state mid.disk).seen bytes
      → ReadsPieceOf old gid piece (state old.disk).seen bytes
  reads_before gid piece bytes is = subst (ReadsIn gid piece bytes) same_view is

  reads_then : (gid : Gid) (piece : ℕ) (bytes : List ℕ) → ReadsPieceOf old gid piece (state old.disk).seen bytes
      → ReadsPieceOf mid gid piece (state mid.disk).seen bytes
  reads_then gid piece bytes is = subst (ReadsIn gid piece bytes) (sym same_view) is

  opened_before : (gid : Gid) (piece : ℕ) (bytes : List ℕ)
      → ReadsOpened mid gid piece (state mid.disk).seen bytes → ReadsOpened old gid piece (state old.disk).seen bytes
  opened_before gid piece bytes is = record {
    opened = subst (OpenedIn gid) same_view is.opened;
    reads = reads_before gid piece bytes is.reads;
  }

  by_grant : (grant : Grant) → GivesRead mid (Granted grant) (state mid.disk).seen
      → GivesRead old (Granted grant) (state old.disk).seen
  by_grant (Hash gid piece bytes) is = opened_before gid piece bytes is
  by_grant (Fetch given) is = tt
  by_grant (Probe claim gid url) is = tt

  -- what was handed out
  pub gives_before : (said : Said) → GivesRead mid said (state mid.disk).seen → GivesRead old said (state old.disk).seen
  gives_before (Granted grant) is = by_grant grant is
  gives_before (Allow bytes) is = tt
  gives_before (Replied place reply starved) is = tt
  gives_before (Kept counted repeated) is = tt
  gives_before Void is = tt
  gives_before (Hold ms) is = tt
  gives_before Idle is = tt
  gives_before Done is = tt
  gives_before Finished is = tt
  gives_before (JournalFull count) is = tt
  gives_before (Notices list upto) is = tt
  gives_before NoMemory is = tt

  -- what was sealed
  pub takes_seal : (gid : Gid) (sealed : PieceBytes) (handed : List Handed) (new : StoredView D) (said : Said)
      → is_opened (own_in old gid) ≡ true
      → (IsSettledBetween mid.machine.past new.machine.past gid sealed.piece
      → ReadsPieceOf mid gid sealed.piece (state mid.disk).seen sealed.bytes)
      → (said ≡ Void → ¬ ReadsPieceOf mid gid sealed.piece (state mid.disk).seen sealed.bytes)
      → (is_handed_out handed gid sealed.piece ≡ true → IsPieceOf old gid sealed.piece)
      → TakesSeal gid sealed handed old new said (state old.disk).seen
  takes_seal gid sealed handed new said opened settled void within = record {
    within = within;
    settled = λ came. record {
      opened = opened;
      reads = reads_before gid sealed.piece sealed.bytes
          (settled (subst (λ (p : List Event). IsSettledBetween p new.machine.past gid sealed.piece) (sym alike.past) came));
    };
    void = λ out is. record {
      opened = opened;
      other = λ reads. void is (reads_then gid sealed.piece sealed.bytes reads);
    };
  }

  -- nothing was
  pub seals_nothing : (gid : Gid) (sealed : PieceBytes) (handed : List Handed) (said : Said) (seen : Files)
      → (is_handed_out handed gid sealed.piece ≡ true → said ≡ Void → ⊥)
      → (is_handed_out handed gid sealed.piece ≡ true → IsPieceOf old gid sealed.piece)
      → TakesSeal gid sealed handed old mid said seen
  seals_nothing gid sealed handed said seen never within = record {
    within = within;
    settled = λ came. came_none old.machine.past mid.machine.past _ alike.past came.2;
    void = λ out is. absurd (never out is);
  }

-- nothing is handed out
pub gives_none : {D : Type 0} (r : StoredView D) (said : Said) (seen : Files) → lets_go said ≡ false → GivesRead r said seen
gives_none r (Granted grant) seen none = absurd cc
gives_none r (Allow bytes) seen none = tt
gives_none r (Replied place reply starved) seen none = tt
gives_none r (Kept counted repeated) seen none = tt
gives_none r Void seen none = tt
gives_none r (Hold ms) seen none = tt
gives_none r Idle seen none = tt
gives_none r Done seen none = tt
gives_none r Finished seen none = tt
gives_none r (JournalFull count) seen none = tt
gives_none r (Notices list upto) seen none = tt
gives_none r NoMemory seen none = tt
