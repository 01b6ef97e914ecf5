-- What a run that didn't begin leaves as it was.
use Rattle.std.specs.Prelude.{◌≡◌, []}
use Rattle.dl_disk.specs.declared.disk.Disk.{Ghosts as DiskSays}
use Rattle.run_report.specs.declared.endings.MetainfoFault.{MetainfoFault}
use Rattle.run_report.specs.declared.endings.RunEnding.TheVariants.{NoMeaning, NoMetainfo}
use Rattle.run_lifecycle.specs.Begins.{IsRead}
use Rattle.run_lifecycle.specs.declared.ended.Ended.{Ended}

-- Where nothing happened the disk was read at most, and where the words have no meaning it wasn't called.
pub record OnlyReads {D : Type 0} (says : DiskSays D) (disk : D) (ended : Ended D) : Type 0 where
  pub meaning : ended.ending ≡ NoMeaning → (ended.disk ≡ disk) × (ended.journal.events.items ≡ [])
  pub metainfo : (why : MetainfoFault) → ended.ending ≡ NoMetainfo why → ended.journal.events.items ≡ []
  pub disk_read : ended.journal.events.items ≡ [] → IsRead says disk ended.disk
