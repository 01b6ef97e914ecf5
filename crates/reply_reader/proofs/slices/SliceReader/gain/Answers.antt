use Rattle.std.proofs.Common.{arith, length-take-le}
use Rattle.reply_reader.proofs.SliceLemmas.{slice_gains}
use Rattle.reply_reader.proofs.slices.SliceReader.gain.Goals as goal

pub returns-then-self-eq0-clause-gained : goal.returns-then-self-eq0-clause-gained
returns-then-self-eq0-clause-gained c = λ slice stream is.
    slice_gains slice stream _ _ _ c.args.self.now.left (omega (arith, is.skip_is)) is.left_is c.requires.due
    (c.feed-state.ensures.content slice.framing stream is.fed)
    (omega (arith, c.feed-state.ensures.len, length-take-le c.min-used.result c.args.piece.now (omega arith)))

pub returns-else-self-eq0-clause-gained : goal.returns-else-self-eq0-clause-gained
returns-else-self-eq0-clause-gained c = λ slice stream is.
    slice_gains slice stream _ _ _ c.args.self.now.left (omega (arith, is.skip_is)) is.left_is c.requires.due
    (c.feed-state.ensures.content slice.framing stream is.fed)
    (omega (arith, c.feed-state.ensures.len, length-take-le c.min-used.result c.args.piece.now (omega arith)))
