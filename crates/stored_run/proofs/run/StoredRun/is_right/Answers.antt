use Rattle.std.proofs.Common.{◌∙◌, ap, sym}
use Rattle.control_file.specs.declared.want.Want.{Want}
use Rattle.machine_core.proofs.Begun.{copied_is, copied_some}
use Rattle.std.proofs.lemmas.Option.{same_Some}
use Rattle.stored_run.specs.Settlings.{has_digest_in}
use Rattle.stored_run.proofs.Endings.{going_facts}
use Rattle.stored_run.proofs.SealedPieces.{right_listed, right_there}
use Rattle.stored_run.proofs.WantPlaces.{piece_of_want}
use Rattle.stored_run.proofs.run.StoredRun.is_right.Goals as goal

pub unwrap-requires : goal.unwrap-requires
unwrap-requires g c =
    let v = c.args.self.now in
    let w = going_facts v.machine.start v.machine.past v.wants.items c.args.gid c.tells_stored.ensures.wants_are
    c.requires.going in
    copied_some c.want.result w.want (c.want.ensures.value ∙ w.kept)

pub returns-clause-listed : goal.returns-clause-listed
returns-clause-listed g c download added =
    let v = c.args.self.now in
    let kept = c.tells_stored.ensures.wants_are in
    let w = going_facts v.machine.start v.machine.past v.wants.items c.args.gid kept c.requires.going in
    let same = copied_is c.want.result c.unwrap.result w.want c.unwrap.ensures (c.want.ensures.value ∙ w.kept) in
    let sound = kept.sound c.args.gid w.want w.kept in
    c.has_its_digest.ensures ∙ (ap (λ (x : Want). has_digest_in x.digests c.args.sealed.now) same
    ∙ right_listed v.machine.start v.machine.past c.args.gid w.want c.args.sealed.now download w.has sound
    (piece_of_want v.machine.start v.machine.past c.args.gid w.want c.args.sealed.now.piece w.has sound c.requires.piece)
    added)

pub returns-clause-digest : goal.returns-clause-digest
returns-clause-digest g c right want is listed =
    let v = c.args.self.now in
    let kept = c.tells_stored.ensures.wants_are in
    let w = going_facts v.machine.start v.machine.past v.wants.items c.args.gid kept c.requires.going in
    let same = copied_is c.want.result c.unwrap.result w.want c.unwrap.ensures (c.want.ensures.value ∙ w.kept) in
    let one = same_Some w.want want (sym w.kept ∙ is) in
    let has = kept.has c.args.gid want is in
    let sound = kept.sound c.args.gid want is in
    right_there want c.args.sealed.now sound
    (piece_of_want v.machine.start v.machine.past c.args.gid want c.args.sealed.now.piece has sound c.requires.piece)
    (sym (c.has_its_digest.ensures ∙ ap (λ (x : Want). has_digest_in x.digests c.args.sealed.now) (same ∙ one)) ∙ right)
    listed
