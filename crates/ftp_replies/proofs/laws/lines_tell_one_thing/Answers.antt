use Rattle.ftp_replies.proofs.LawLemmas.{one_size, one_told_port}
use Rattle.ftp_replies.proofs.laws.lines_tell_one_thing.Goals as goal

pub returns : goal.returns
returns c = record {
  size = one_size;
  port = one_told_port;
}
