use Rattle.std.proofs.Common.{◌≡◌, ◌∙◌, ap, sym}
use Rattle.std.specs.Option.{is_some}
use Rattle.std.proofs.lemmas.Option.{same_Some}
use Rattle.control_file.specs.declared.want.Want.{Want}
use Rattle.machine_core.proofs.Begun.{copied_is, copied_some}
use Rattle.machine_core.specs.RunLegal.{info_hash_by}
use Rattle.machine_core.specs.Starts.{Download}
use Rattle.stored_run.proofs.Completing.{hash_listed, hash_unlisted}
use Rattle.stored_run.proofs.Failing.{opened_want}
use Rattle.stored_run.proofs.FilledPieces.{hash_none}
use Rattle.stored_run.proofs.Findings.{one_download}
use Rattle.stored_run.proofs.run.StoredRun.has_digests.Goals as goal

pub unwrap-requires : goal.unwrap-requires
unwrap-requires g c =
    let v = c.args.self.now in
    let w = opened_want v.machine.start v.machine.past v.wants.items c.args.gid c.tells_stored.ensures.wants_are c.requires in
    copied_some c.want.result w.want (c.want.ensures.value ∙ w.kept)

pub returns : goal.returns
returns g c =
    let v = c.args.self.now in
    let w = opened_want v.machine.start v.machine.past v.wants.items c.args.gid c.tells_stored.ensures.wants_are c.requires in
    let same = copied_is c.want.result c.unwrap.result w.want c.unwrap.ensures (c.want.ensures.value ∙ w.kept) in
    let here : is_some w.want.info_hash ≡ c.is_some.result =
    sym (ap (λ (x : Want). is_some x.info_hash) same) ∙ sym c.is_some.ensures in
    let hash = λ (download : Download) (added : _).
    w.has.is.info_hash ∙ ap (λ (e : Download). info_hash_by e.subject)
    (one_download v.machine.start v.machine.past c.args.gid w.has.download download w.has.added added) in
    record {
      listed = λ is download added. hash_listed download.subject (sym (ap is_some (hash download added)) ∙ (here ∙ is));
      unlisted = λ is download added. hash_unlisted download.subject (sym (ap is_some (hash download added)) ∙ (here ∙ is));
      none = λ is want kept. hash_none want.info_hash
          (ap (λ (x : Want). is_some x.info_hash) (same_Some want w.want (sym kept ∙ w.kept)) ∙ (here ∙ is));
    }
