-- The line of a check, as it is written part by part, and what a sink took of it.
use Rattle.std.proofs.Common.{◌≡◌, ℕ, List, [], ◌++◌, append_assoc, refl, sym, arith}
use Rattle.std.specs.Fmt.{decimal}
use Rattle.std.specs.Prelude.{Err, codes}
use Rattle.std.proofs.lemmas.List.{append-nil}
use Rattle.dl_kinds.specs.declared.outside.IoErr.TheVariants.{NoMemory}
use Rattle.dl_kinds.specs.declared.outside.Sink.{Ghosts as SinkSays}
use Rattle.payload_repair.specs.declared.counts.Counts.{Counts}
use Rattle.run_report.specs.Writing.{Writes}
use Rattle.check_run.specs.Endings.{counts_line}

pub counts-text : (counts : Counts)
    → codes "pieces " ++ (decimal counts.pieces ++ (codes " right " ++ (decimal counts.right ++ (codes " repaired " ++ (decimal counts.repaired ++ (codes " blocks " ++ (decimal counts.blocks ++ codes "\n")))))))
    ≡ counts_line counts
unfolding counts_line
counts-text counts =
    joined (codes "pieces ") (decimal counts.pieces) (codes " right ") (decimal counts.right) (codes " repaired ") (decimal counts.repaired) (codes " blocks ") (decimal counts.blocks) (codes "\n")
  where
    joined : (a b c d e f g h i : List ℕ) → a ++ (b ++ (c ++ (d ++ (e ++ (f ++ (g ++ (h ++ i))))))) ≡ a ++ b ++ c ++ d ++ e ++ f ++ g ++ h ++ i
    joined a b c d e f g h i = simp append_assoc

-- memory was wanting before anything was written
pub unwritten : {O : Type 0} (sinks : SinkSays O) (text : List ℕ) (out : O) → Writes sinks text out out (Err NoMemory)
unwritten sinks text out = record {
  front = [];
  rest = text;
  is = refl;
  taken = λ told. sym (append-nil (sinks.taken out));
  all = tt;
  cause = record { later = omega arith; done = tt; fault = λ e. cc; none = λ e. refl };
}
