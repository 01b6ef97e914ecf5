use Rattle.std.proofs.Common.{refl}
use Rattle.reply_reader.proofs.HeadsKept.{begun, due_none}
use Rattle.reply_reader.proofs.heads.HeadReader.new.Goals as goal

pub returns : goal.returns
returns c = record { at = begun _ refl refl c.new.ensures.items; due = due_none }
