-- A run that was refused left all as it was.
use Rattle.std.proofs.Common.{◌≡◌, inl, inr, ℕ, List, [], Some, length, refl, sym, ap, subst, arith, slice_get}
use Rattle.dl_clock.specs.declared.clock.Clock.{Ghosts as ClockSays}
use Rattle.dl_disk.specs.Files.{Files}
use Rattle.dl_disk.specs.Passes.{passes_none}
use Rattle.dl_disk.specs.declared.disk.Disk.{Ghosts as DiskSays}
use Rattle.dl_kinds.specs.declared.outside.Sink.{Ghosts as SinkSays}
use Rattle.door_source.specs.declared.Doors.{Ghosts as DoorSays}
use Rattle.link_source.specs.declared.Links.{Ghosts as LinkSays}
use Rattle.machine_core.specs.declared.events.Event.{Event}
use Rattle.run_lifecycle.specs.Begins.{IsRead}
use Rattle.run_lifecycle.specs.Finishes.{NeverBegan}
use Rattle.run_report.specs.declared.endings.RunEnding.TheVariants.{NoMemory}
use Rattle.shared_run.specs.DoorsCauses.{ShowsDoors}
use Rattle.shared_run.specs.LinksLeft.{LeavesLinks}
use Rattle.shared_run.specs.RunsTogether.{edges}
use Rattle.shared_run.proofs.Untouched.{same_go_on}
use Rattle.aria_top.specs.OneRun.{OneRun}
use Rattle.aria_top.specs.Went.{WasRefused}

pub unread : {D : Type 0} (says : DiskSays D) (disk : D) → IsRead says disk disk
unread says disk = record {
  later = omega arith;
  stays = λ told. record { seen = λ name. refl; images = λ image left. left };
  passes = λ told. passes_none _ (says.state disk) (λ (image : Files) (name : List ℕ). refl);
  folders = λ told. refl;
}

pub none_at : {P : Type 0} (place : ℕ) (e : Event) → slice_get [] place ≡ Some e → P
none_at place e is = absurd cc

module _ {D L K A O : Type 0} (says : DiskSays D) (links : LinkSays L) (doors : DoorSays A) (sinks : SinkSays O)
    (run : OneRun D L K A O) (was : WasRefused sinks run) where
  pub refused_read : IsRead says run.given.disk run.came.ended.disk
  refused_read = subst (IsRead says run.given.disk) (sym was.disk) (unread says run.given.disk)

  pub refused_never : was.refusal ≡ NoMemory
      → NeverBegan says sinks run.given.words run.given.disk run.given.out run.came.ended run.came.out
  refused_never starved = record {
    refusal = was.refusal;
    is_read = refused_read;
    ends = inr (inr starved);
    prints = was.printed;
    journal = was.left.none;
  }

  pub refused_links : LeavesLinks says links run.given.disk run.given.links run.came.ended run.came.links
  refused_links = record {
    reads = record {
      meaning = λ is. (was.disk, was.left.none);
      metainfo = λ why is. was.left.none;
      disk_read = λ none. refused_read;
    };
    all = λ none. was.left.links;
    many = ap length was.left.links;
    places = same_go_on links run.given.links run.came.links was.left.links;
  }

  module _ (clocks : ClockSays K) where
    pub refused_doors : ShowsDoors doors clocks run.given.words run.given.gids (edges run.given.links run.given.doors)
        run.came.ended (edges run.came.links run.came.doors) run.came.transcripts
    refused_doors = inl (record { same = was.left.doors; untold = was.left.untold; none = was.left.none })
