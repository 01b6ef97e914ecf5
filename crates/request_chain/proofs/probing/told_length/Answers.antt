use Rattle.std.proofs.Common.{sym}
use Rattle.request_chain.specs.Probes.{probe_asked}
use Rattle.request_chain.proofs.KnownLemmas.{refused_known}
use Rattle.request_chain.proofs.probing.told_length.Goals as goal

pub returns-in-Refused-clause-known : goal.returns-in-Refused-clause-known
returns-in-Refused-clause-known c =
    refused_known c.args.head.now probe_asked c.in-Refused.code c.args.head.now.status (sym c.in-Refused.ensures.value)
