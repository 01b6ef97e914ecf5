-- The disk of a load.
use Rattle.std.specs.Prelude.{ℕ, List, [], ◌∷◌, codes, unwrap_or}
use Rattle.dl_disk.specs.Contents.{files_listed}
use Rattle.dl_disk.specs.Files.{Files}
use Rattle.dl_disk.specs.MemDisk.{IsFresh}
use Rattle.load_setup.specs.Metainfo.{metainfo_by}
use Rattle.load_setup.specs.Sound.{inner_disk}
use Rattle.load_setup.specs.declared.sound_disk.SoundDisk.{SoundDisk}

-- the metainfo file of these digests stands there alone
abbrev pub IsLoadDisk : List (List ℕ) → SoundDisk → Type 0
IsLoadDisk digests disk =
    IsFresh (files_listed ((codes "load.torrent", metainfo_by digests) ∷ [])) (inner_disk disk)

-- the payload, and nothing where there is none
abbrev pub payload_read : Files → List ℕ
payload_read seen = unwrap_or (seen (codes "load.bin")) []
