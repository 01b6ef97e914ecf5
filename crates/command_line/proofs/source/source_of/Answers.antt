use Rattle.std.proofs.Common.{ap, sym}
use Rattle.std.specs.Option.{option_map}
use Rattle.command_line.proofs.Parsed.{first_word}
use Rattle.command_line.proofs.source.source_of.Goals as goal

pub source_from-requires : goal.source_from-requires
source_from-requires c =
    first_word c.unwrap_or-words.result.now c.in-Some.first.now.now (ap (option_map (λ w. w.now)) (sym c.in-Some.ensures.value))
