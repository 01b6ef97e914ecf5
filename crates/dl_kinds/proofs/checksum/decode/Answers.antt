use Rattle.std.proofs.Common.{sym, ◌∙◌}
use Rattle.dl_kinds.proofs.Checksums.{fills, refuses}
use Rattle.dl_kinds.proofs.checksum.decode.Goals as goal

pub returns : goal.returns
returns c = record {
  written = λ ok. fills c.args.digits.now c.decode_to_slice.new.out c.decode_to_slice.result _
      c.decode_to_slice.ensures.value (sym c.is_ok.ensures.value ∙ ok);
  refused = λ not_ok. refuses c.args.digits.now c.decode_to_slice.new.out c.decode_to_slice.result _
      c.decode_to_slice.ensures.value (sym c.is_ok.ensures.value ∙ not_ok);
}
