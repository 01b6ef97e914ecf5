use Rattle.std.proofs.Common.{◌∙◌, length, refl, ap}
use Rattle.std.specs.Prelude.{Some}
use Rattle.std.specs.Option.{option_map}
use Rattle.dl_kinds.specs.declared.status.Status.{Status}
use Rattle.machine_core.specs.MachineViews.{standing_in}
use Rattle.machine_core.specs.Openings.{landed_bytes_of}
use Rattle.run_report.specs.Failures.{end_of}
use Rattle.dl_kinds.specs.ExitStatuses.{words_of_code}
use Rattle.run_report.specs.Ends.{error_code}
use Rattle.run_report.specs.Speeds.{speed_in}
use Rattle.run_report.specs.Statuses.{status_view}
use Rattle.run_report.specs.Told.{ToldView}
use Rattle.run_report.proofs.Fields.{view_is}
use Rattle.run_report.proofs.told.Told.status_view.Goals as goal

pub returns : goal.returns
returns c =
    let t = c.args.self.now in
    let code = c.error_code-code.ensures
    ∙ (ap (λ (s : ToldView). error_code c.status-status.result (end_of s.machine.past s.download.gid)) c.self.view_is
    ∙ ap (λ (reached : Status). error_code reached (end_of t.machine.past t.download.gid)) c.status-status.ensures) in
    view_is (status_view t.machine.start t.machine.past c.args.now t.name t.download.gid t.download)
    _ _ _ _ _ _ _ _ _ _ _ _ _ _ _ _
    c.in_ok-bitfield.ensures
    (c.landed_bytes.ensures ∙ ap (λ (s : ToldView). landed_bytes_of s.machine s.download.gid) c.self.view_is)
    (c.standing.ensures ∙ ap (λ (s : ToldView). length (standing_in s.machine s.download.gid)) c.self.view_is)
    (c.in_ok-of.ensures ∙ c.folder.ensures)
    (c.speed.ensures
    ∙ ap (λ (s : ToldView). speed_in s.machine.start s.machine.past (Some s.download.gid) c.args.now) c.self.view_is)
    (c.told_code.ensures ∙ code)
    (c.in_ok-error_message.ensures ∙ ap (option_map words_of_code) code)
    c.in_ok-file_views.ensures
    (ap (λ (s : ToldView). s.download.gid) c.self.view_is)
    c.in_ok-info_hash.ensures
    c.num_pieces.ensures
    c.piece_length.ensures
    c.status-status.ensures
    c.total_length.ensures
    refl
    refl
