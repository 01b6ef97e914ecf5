use Rattle.std.proofs.Common.{◌∙◌, ap, refl}
use Rattle.machine_core.specs.OwnParts.{payload_lengths_of}
use Rattle.machine_core.specs.RunLegal.{download_in}
use Rattle.run_report.specs.Lines.{fields_of, line_with}
use Rattle.run_report.proofs.LineFacts.{is_line, told_known}
use Rattle.run_report.proofs.lines.line_of.Goals as goal

pub returns : goal.returns
returns c =
    let m = c.args.machine.now in
    let gid = c.args.gid in
    is_line m.start m.past gid c.in-Some-Some.call.now c.in-Some-Some.begun.now c.is_some-is_known.result _
    c.in_ok-line.line.items (download_in m.start m.past gid) refl c.in-Some-Some.ensures.subject
    c.in-Some-Some.ensures'
    (c.is_some-is_known.ensures ∙ told_known c.lengths.result (payload_lengths_of m.start m.past gid) c.lengths.ensures.known)
    (λ download subject options. c.in_ok-path.ensures download subject options)
    (c.in_ok-line.ensures ∙ ap (line_with gid (fields_of m.start m.past gid)) c.as_str.ensures.value)
