use Rattle.std.proofs.Common.{◌≡◌, ◌∙◌, Bool, List, Option, ap, subst}
use Rattle.std.specs.Option.{unwrap_or}
use Rattle.piece_table.specs.Progress.{Progress}
use Rattle.machine_core.specs.Asked.{known_by}
use Rattle.machine_core.specs.MachineViews.{account_of_gid}
use Rattle.machine_core.specs.OwnParts.{PayloadLengths, lengths_by, no_lengths, own_of}
use Rattle.machine_core.specs.RunLegal.{download_in, known_lengths}
use Rattle.machine_core.specs.Starts.{Download}
use Rattle.run_report.specs.Files.{verified_bytes_in, verified_row}
use Rattle.run_report.specs.Told.{ToldView, lengths_told, own_told}
use Rattle.run_report.proofs.Rows.{known_added, opened_row, unopened_bytes}
use Rattle.run_report.proofs.told.Told.verified_bytes.Goals as goal

pub returns-in-Some-table : goal.returns-in-Some-table
returns-in-Some-table c =
    let m = c.self.inside.machine.now in
    let gid = c.self.inside.gid in
    let lengths = known_lengths m.start m.past gid in
    let own = own_of m.start m.past gid in
    let row = c.verified.ensures.row ∙ (ap (λ (p : Progress). p.verified) c.in-Some-table.ensures.some
    ∙ opened_row lengths own (account_of_gid m gid)
    (c.accounts_match_runs.ensures.accounts m.start m.past gid c.journal.ensures.legal)
    c.in-Some-table.ensures.opened) in
    subst (λ (t : ToldView). c.verified_bytes_in.result
    ≡ verified_bytes_in (lengths_told t) (verified_row (lengths_told t) (own_told t)) c.args.first c.args.len)
    c.self.view_is
    (c.verified_bytes_in.ensures
    ∙ (ap (λ (bits : List Bool). verified_bytes_in (known_by c.in-Some.lengths) bits c.args.first c.args.len) row
    ∙ ap (λ (o : Option PayloadLengths). verified_bytes_in (unwrap_or o no_lengths) (verified_row lengths own)
    c.args.first c.args.len) c.in-Some.ensures.known))

pub returns-in-None : goal.returns-in-None
returns-in-None c =
    let m = c.self.inside.machine.now in
    let gid = c.self.inside.gid in
    let own = own_of m.start m.past gid in
    subst (λ (t : ToldView). 0
    ≡ verified_bytes_in (lengths_told t) (verified_row (lengths_told t) (own_told t)) c.args.first c.args.len)
    c.self.view_is
    (unopened_bytes (known_lengths m.start m.past gid) own (account_of_gid m gid) c.args.first c.args.len
    (c.accounts_match_runs.ensures.accounts m.start m.past gid c.journal.ensures.legal)
    (c.in-None.ensures.none
    (known_added (λ (d : Download). lengths_by d d.subject own) (download_in m.start m.past gid)
    (known_by c.in-Some.lengths) c.in-Some.ensures.known)))
