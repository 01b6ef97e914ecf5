use Rattle.std.proofs.Common.{◌≡◌, subst, sym}
use Rattle.std.specs.Prelude.{Some, string_bytes}
use Rattle.machine_core.specs.MachineParts.{subject_of_call}
use Rattle.run_report.specs.Paths.{IsPathOf, IsRootName}
use Rattle.run_report.proofs.LineFacts.{if_ok_map, known_path, torrent_path}
use Rattle.run_report.proofs.paths.path_of.Goals as goal

pub returns-in-AddTorrent : goal.returns-in-AddTorrent
returns-in-AddTorrent c = λ download subject options.
    if_ok_map c.root_name.result (λ path. IsRootName download (string_bytes path))
    (λ path. IsPathOf download c.args.is_known (string_bytes path))
    (λ path is. torrent_path download _ _ c.args.is_known (string_bytes path)
    (subst (λ call. subject_of_call call ≡ Some download.subject) c.in-AddTorrent.is subject) is)
    (c.root_name.ensures download subject options)

pub returns-then-is_known : goal.returns-then-is_known
returns-then-is_known c = λ download subject options.
    if_ok_map c.root_name-then-is_known.result (λ path. IsRootName download (string_bytes path))
    (λ path. IsPathOf download c.args.is_known (string_bytes path))
    (λ path is. subst (λ known. IsPathOf download known (string_bytes path)) (sym c.if-is_known.true)
    (known_path download (string_bytes path) is))
    (c.root_name-then-is_known.ensures download subject options)
