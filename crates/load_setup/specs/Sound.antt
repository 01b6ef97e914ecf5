-- A disk and links in memory of which no call is a fault.
use Rattle.dl_disk.specs.Files.{Files}
use Rattle.dl_disk.specs.MemDisk.{reading}
use Rattle.dl_disk.specs.MemState.{state_of}
use Rattle.dl_disk.specs.State.{DiskState}
use Rattle.dl_disk.specs.declared.memory.MemDisk.{MemDisk}
use Rattle.link_source.specs.Link.{LinkState}
use Rattle.link_source.specs.MemLinks.{link_state}
use Rattle.load_setup.specs.declared.sound_disk.SoundDisk.{SoundDisk}
use Rattle.load_setup.specs.declared.sound_links.SoundLinks.{SoundLinks}

abbrev pub inner_disk : SoundDisk → MemDisk
inner_disk disk = disk.disk

abbrev pub sound_disk_state : SoundDisk → DiskState
sound_disk_state disk = state_of disk.disk

-- what a read gives
abbrev pub sound_reading : SoundDisk → Files
sound_reading disk = reading disk.disk

abbrev pub sound_links_state : SoundLinks → LinkState
sound_links_state links = link_state links.links
