use Rattle.bencode_core.proofs.Whole.{is_found, reading_again}
use Rattle.bencode_core.proofs.ben.Ben.read.Goals as goal

pub returns-clause-found : goal.returns-clause-found
returns-clause-found c = is_found c.args.bytes.now c.whole.result c.requires c.whole.ensures.exact

pub returns-clause-only : goal.returns-clause-only
returns-clause-only c = λ v spells. rw (reading_again c.args.bytes.now v spells) at c.whole.ensures.exact
