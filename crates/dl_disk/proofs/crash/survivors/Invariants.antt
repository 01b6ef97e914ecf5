use Rattle.std.proofs.Common.{drop}
use Rattle.dl_disk.specs.Contents.{files_of}
use Rattle.dl_disk.specs.Crash.{crashed}
use Rattle.dl_disk.specs.Files.{IsSame}
use Rattle.dl_disk.proofs.crash.survivors.Given as goal

abbrev pub invariant-loop-index : goal.invariant-loop-index
invariant-loop-index l =
    IsSame (crashed (files_of l.start) (files_of l.start) l.fn.choices l.calls) (crashed (files_of l.files) (files_of l.left) l.choices (drop l.index l.calls))
