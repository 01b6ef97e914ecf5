use Rattle.load_setup.proofs.Said.{files_read, files_say}
use Rattle.load_setup.proofs.laws.metainfo_files_say_payloads.Goals as goal

pub returns-clause-said : goal.returns-clause-said
returns-clause-said c = files_say c.reads_what_is_spelled.ensures

pub returns-clause-read : goal.returns-clause-read
returns-clause-read c = files_read c.reads_what_is_spelled.ensures
