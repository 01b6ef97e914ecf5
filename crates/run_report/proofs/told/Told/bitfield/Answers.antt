use Rattle.std.proofs.Common.{◌≡◌, ◌∙◌, Some, ap, subst}
use Rattle.bit_rows.specs.Row.{row_bytes}
use Rattle.hex.specs.Hex.{encode_lower}
use Rattle.piece_table.specs.Progress.{Progress}
use Rattle.machine_core.specs.MachineViews.{account_of_gid}
use Rattle.machine_core.specs.OwnParts.{own_of}
use Rattle.machine_core.specs.RunLegal.{known_lengths}
use Rattle.run_report.specs.Statuses.{bitfield_text}
use Rattle.run_report.specs.Told.{ToldView, lengths_told, own_told}
use Rattle.run_report.proofs.Rows.{opened_bits, opened_row}
use Rattle.run_report.proofs.told.Told.bitfield.Goals as goal

pub returns-in_ok-hex_text-in-Some : goal.returns-in_ok-hex_text-in-Some
returns-in_ok-hex_text-in-Some c =
    let m = c.self.inside.machine.now in
    let gid = c.self.inside.gid in
    let lengths = known_lengths m.start m.past gid in
    let own = own_of m.start m.past gid in
    let row = c.verified.ensures.row ∙ (ap (λ (p : Progress). p.verified) c.in-Some.ensures.some
    ∙ opened_row lengths own (account_of_gid m gid)
    (c.accounts_match_runs.ensures.accounts m.start m.past gid c.journal.ensures.legal) c.in-Some.ensures.opened) in
    subst (λ (t : ToldView). Some c.in_ok-hex_text-in-Some.field-0 ≡ bitfield_text (lengths_told t) (own_told t))
    c.self.view_is
    (ap (λ text. Some text) (c.in_ok-hex_text-in-Some.ensures ∙ ap encode_lower (c.bytes.ensures.packed ∙ ap row_bytes row))
    ∙ opened_bits lengths own c.in-Some.ensures.opened)
