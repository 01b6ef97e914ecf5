use Rattle.dl_disk.proofs.ContentsLemmas.{copied}
use Rattle.dl_disk.proofs.contents.Contents.copy.Goals as goal

pub returns : goal.returns
returns c = copied c.args.self.now (record { files = c.in_ok-clone.field-0 }) c.in_ok-clone.ensures.cases
