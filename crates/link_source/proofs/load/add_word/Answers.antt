use Rattle.std.proofs.Common.{arith, refl}
use Rattle.link_source.proofs.Loads.{part_of_word}
use Rattle.link_source.proofs.load.add_word.Goals as goal

pub returns-clause-added : goal.returns-clause-added
returns-clause-added c = rw (c.in_ok-extend_from_slice.ensures.items, c.to_le_bytes-word.ensures, c.load_word.ensures, part_of_word c.args.n c.args.place c.min-count.result (omega arith)) refl
