use Rattle.std.proofs.Common.{◌∙◌, ap}
use Rattle.rand_core.specs.Steps.{stream_of}
use Rattle.rand_core.specs.Stream.{next_u64}
use Rattle.rand_xoshiro.specs.SplitMix64.{mix_u64}
use Rattle.link_source.proofs.Loads.{word-of_seed}
use Rattle.link_source.proofs.load.load_word.Goals as goal

pub returns : goal.returns
unfolding stream_of next_u64
returns c =
    ap (λ step. step.0) c.next_u64.ensures ∙ ap (λ state. (mix_u64 state).0) c.seed_from_u64.ensures.same
    ∙ word-of_seed c.args.n c.args.number
