use Rattle.payload_files.proofs.Contents.{same_files_hold}
use Rattle.payload_files.proofs.laws.same_files_hold.Goals as goal

pub returns : goal.returns
returns c = same_files_hold
