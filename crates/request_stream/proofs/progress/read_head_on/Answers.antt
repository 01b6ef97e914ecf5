use Rattle.std.proofs.Common.{length, sym, subst, arith}
use Rattle.std.proofs.lemmas.List.{take_all}
use Rattle.request_stream.proofs.HeadParts.{unfinished_head}
use Rattle.request_stream.proofs.OneRequest.{unfinished_by_head}
use Rattle.request_stream.specs.HeadParts.{EndsIn}
use Rattle.request_stream.proofs.progress.read_head_on.Goals as goal

pub returns-in-Some : goal.returns-in-Some
returns-in-Some c = λ most.
    let bytes = c.args.bytes.now in
    let head = unfinished_head c.in-Some.part bytes c.in-Some.ensures c.if-bytes-ge-MAX_HEAD_BYTES.false in record {
      unfinished = unfinished_by_head c.ask_heads_are_one_and_stay.ensures.finished most bytes head;
      read = (omega arith, subst (EndsIn c.in-Some.part) (sym (take_all (length bytes) bytes (omega arith))) c.in-Some.ensures);
    }
