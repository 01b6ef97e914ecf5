use Rattle.std.proofs.Common.{◌≡◌, drop}
use denote.Text.{Utf8}
use denote.Shadow.{shadow}
use Rattle.dl_disk.specs.Crash.{lasts_by}
use Rattle.dl_disk.proofs.crash.lasts_by.Given as goal

abbrev pub invariant-loop-call : goal.invariant-loop-call
invariant-loop-call l = shadow (Utf8 l.name) × (lasts_by l.name (drop l.call-index l.later) ≡ lasts_by l.fn.name l.later)
