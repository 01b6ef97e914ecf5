use Rattle.std.proofs.Common.{false}
use Rattle.run_report.proofs.Mirrors.{used_at}
use Rattle.run_report.proofs.uris.uri_view.Goals as goal

pub returns : goal.returns
returns c = λ standing row.
    let used = used_at standing c.args.used.now c.args.mirror false row c.requires.mirror in
    cc (used, c.uri_status.ensures, c.in_ok-file_url.ensures)
