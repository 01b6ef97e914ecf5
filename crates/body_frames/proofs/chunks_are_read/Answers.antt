use Rattle.body_frames.proofs.ChunkText.{chunk_is_read, last_chunk_is_read}
use Rattle.body_frames.proofs.chunks_are_read.Goals as goal

pub returns : goal.returns
returns c = record { chunk = chunk_is_read; last = last_chunk_is_read }
