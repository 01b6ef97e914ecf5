use Rattle.std.proofs.Common.{◌≡◌, All, map, take}
use Rattle.link_source.specs.Endpoint.{IsUsable}
use Rattle.command_line.proofs.source.uris_of.Given as goal

abbrev pub invariant-loop-word : goal.invariant-loop-word
invariant-loop-word l = (l.uris ≡ map (λ word. word.now) (take l.word-index l.words)) × All IsUsable l.uris
