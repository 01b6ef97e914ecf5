use Rattle.payload_files.proofs.FileNames.{names_differ}
use Rattle.payload_files.proofs.laws.names_differ.Goals as goal

pub returns : goal.returns
returns c = names_differ
