use Rattle.std.proofs.Common.{arith, ◌-◌, length}
use Rattle.body_frames.specs.Bodies.{Length, body_of}
use Rattle.body_frames.specs.Reading.{Means, chunk_data}
use Rattle.body_frames.proofs.Runs.{length_moves, chunk_moves, to_end_moves}
use Rattle.body_frames.proofs.phase.Run.take.Goals as goal

pub returns-in-Length-clause-moves : goal.returns-in-Length-clause-moves
returns-in-Length-clause-moves c = λ bytes len.
    let means : Means c.length.result (body_of (Length (c.get-left.result - length bytes))) = rw len c.length.ensures.means in
    rw c.in-Length.is (length_moves bytes c.in-Length.left c.get-left.result c.length.result c.get-left.ensures.value c.length.ensures.goes_on means (omega arith))

pub returns-in-Chunk-clause-moves : goal.returns-in-Chunk-clause-moves
returns-in-Chunk-clause-moves c = λ bytes len.
    let means : Means c.chunk.result (chunk_data (c.get-left-in-Chunk.result - length bytes)) = rw len c.chunk.ensures.means in
    rw c.in-Chunk.is (chunk_moves bytes c.in-Chunk.left c.get-left-in-Chunk.result c.chunk.result c.get-left-in-Chunk.ensures.value c.chunk.ensures.goes_on means (omega arith))

pub returns-in-ToEnd-clause-moves : goal.returns-in-ToEnd-clause-moves
returns-in-ToEnd-clause-moves c = λ bytes len. rw c.in-ToEnd.is (to_end_moves bytes)
