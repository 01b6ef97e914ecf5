use Rattle.std.proofs.Common.{◌<◌, ◌≤◌, ℕ}
use Rattle.one_download.specs.DownloadViews.{IsToSettle}
use Rattle.one_download.proofs.payload.Payload.next_full.Given as goal

abbrev pub invariant-loop-piece : goal.invariant-loop-piece
invariant-loop-piece l = (piece : ℕ) → l.from ≤ piece → piece < l.piece → ¬ IsToSettle l.self.account piece
