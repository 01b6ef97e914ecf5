use Rattle.payload_files.proofs.Contents.{files_fill}
use Rattle.payload_files.proofs.laws.files_fill.Goals as goal

pub returns : goal.returns
returns c = files_fill
