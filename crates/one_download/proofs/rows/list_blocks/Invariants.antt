use Rattle.std.proofs.Common.{length}
use Rattle.one_download.proofs.Written.{IsWritten, lists_block}
use Rattle.one_download.proofs.rows.list_blocks.Given as goal

abbrev pub invariant-loop-block : goal.invariant-loop-block
invariant-loop-block l = IsWritten (lists_block l.table) (length l.table.landed) l.block l.into
