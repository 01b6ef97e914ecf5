use Rattle.dl_disk.specs.Contents.{files_of}
use Rattle.dl_disk.specs.MemDisk.{calls_of}
use Rattle.dl_disk.proofs.CrashImages.{crash_is_image}
use Rattle.dl_disk.proofs.memory.MemDisk.crash.Goals as goal

pub returns-clause-image : goal.returns-clause-image
returns-clause-image c = crash_is_image (files_of c.args.self.start) (calls_of c.args.self) c.args.choices.now c.args.self.possible
