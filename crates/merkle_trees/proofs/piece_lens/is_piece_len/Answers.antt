use Rattle.std.proofs.Common.{◌≡◌, eq-eqb, sym, arith, ◌∙◌}
use Rattle.std.proofs.lemmas.Bool.{eqb-true}
use Rattle.merkle_trees.proofs.Heights.{next-power}
use Rattle.merkle_trees.proofs.piece_lens.is_piece_len.Goals as goal

pub returns : goal.returns
returns c = (
  λ is.
      let same : c.next_power_of_two.result ≡ c.args.piece_len = eqb-true c.next_power_of_two.result c.args.piece_len is in
      record {
        power = (c.next_power_of_two.ensures.power.0, sym same ∙ c.next_power_of_two.ensures.power.1);
        least = omega arith;
        most = omega arith;
      },
  λ len.
      eq-eqb c.next_power_of_two.result c.args.piece_len
      (next-power c.args.piece_len c.next_power_of_two.result len.power c.next_power_of_two.ensures.power
      c.next_power_of_two.ensures.lower_bound c.next_power_of_two.ensures.upper_bound),
)
