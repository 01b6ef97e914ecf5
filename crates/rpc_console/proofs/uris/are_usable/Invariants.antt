use Rattle.std.proofs.Common.{All, take}
use Rattle.link_source.specs.Endpoint.{IsUsable}
use Rattle.rpc_console.proofs.uris.are_usable.Given as goal

abbrev pub invariant-loop-place : goal.invariant-loop-place
invariant-loop-place l = All IsUsable (take l.place l.uris)
