-- Whole checks that came: each tells whether the payload has the digest that it is to have.
use Rattle.std.specs.Prelude.{◌≡◌, Bool, Contains, List, ◌++◌, Some}
use Rattle.control_file.specs.declared.want.Want.{Want}
use Rattle.dl_disk.specs.Files.{Files}
use Rattle.dl_kinds.specs.ChecksumView.{ChecksumView}
use Rattle.dl_kinds.specs.declared.gid.Gid.{Gid}
use Rattle.machine_core.specs.RunLegal.{download_in}
use Rattle.machine_core.specs.Starts.{Download}
use Rattle.machine_core.specs.declared.events.Event.{Event}
use Rattle.machine_core.specs.declared.events.Event.TheVariants.{Checked}
use Rattle.stored_run.specs.Settlings.{CameBetween, IsTruly, SpellsCheckOf}
use Rattle.stored_run.specs.Views.{kept_want_of}
use Rattle.stored_run.specs.declared.run.StoredView.{StoredView}

module _ {D : Type 0} where
  -- A check of the download is right just where its payload in the files has the digest that an option of it spells.
  pub record IsCheckedBy (r : StoredView D) (gid : Gid) (right : Bool) (files : Files) : Type 0 where
    pub download : Download
    pub added : download_in r.machine.start r.machine.past gid ≡ Some download
    pub check : ChecksumView
    pub spelled : SpellsCheckOf download check
    pub want : Want
    pub kept : kept_want_of r gid ≡ Some want
    pub truly : IsTruly right check want files

  -- checks came of this download alone, and each of them is so
  pub record ChecksOnly (gid : Gid) (old new : StoredView D) (files : Files) : Type 0 where
    pub newer : List Event
    pub grown : new.machine.past ≡ newer ++ old.machine.past
    pub checks : (other : Gid) (right : Bool) → Contains newer (Checked other right)
        → (other ≡ gid) × IsCheckedBy new gid right files

  -- each check that came is so, of whatever download
  abbrev pub ChecksTruly : (old new : StoredView D) → Files → Type 0
  ChecksTruly old new files =
      (gid : Gid) (right : Bool) → CameBetween old.machine.past new.machine.past (Checked gid right)
      → IsCheckedBy new gid right files
