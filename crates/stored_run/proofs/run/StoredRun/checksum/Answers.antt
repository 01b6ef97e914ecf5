use Rattle.std.proofs.Common.{◌≡◌, ◌∙◌, Option, Some, ap, subst, sym}
use Rattle.std.specs.Prelude.{option_copied}
use Rattle.std.specs.Option.{is_some, option_map}
use Rattle.std.proofs.lemmas.Option.{IfSome_then, same_Some}
use Rattle.machine_core.specs.RunLegal.{download_in, info_hash_by}
use Rattle.machine_core.specs.Starts.{Download}
use Rattle.option_set.specs.Values.{OptionValues, text_of_word}
use Rattle.option_set.specs.declared.kinds.Word.TheVariants as word
use Rattle.stored_run.specs.declared.run.StoredView.{StoredView}
use Rattle.stored_run.proofs.Completing.{hash_listed, hash_unlisted, listed_none}
use Rattle.stored_run.proofs.Findings.{one_download}
use Rattle.stored_run.proofs.run.StoredRun.checksum.Goals as goal

pub returns-then-is_some-clause-none : goal.returns-then-is_some-clause-none
returns-then-is_some-clause-none g c download added =
    let v = c.args.self.now in
    let want = c.in_ok-want.field-0.now in
    let kept = sym c.want.ensures.value ∙ ap option_copied c.in_ok-want.was in
    let has = c.tells_stored.ensures.wants_are.has c.args.gid want kept in
    let same = one_download v.machine.start v.machine.past c.args.gid has.download download has.added added in
    let hash = has.is.info_hash ∙ ap (λ (d : Download). info_hash_by d.subject) same in
    listed_none download
    (hash_listed download.subject (sym (ap is_some hash) ∙ (sym c.is_some.ensures ∙ c.if-is_some.true)))

pub returns-clause-found : goal.returns-clause-found
returns-clause-found g c download added =
    let v = c.args.self.now in
    let want = c.in_ok-want.field-0.now in
    let kept = sym c.want.ensures.value ∙ ap option_copied c.in_ok-want.was in
    let has = c.tells_stored.ensures.wants_are.has c.args.gid want kept in
    let same = one_download v.machine.start v.machine.past c.args.gid has.download download has.added added in
    let hash = has.is.info_hash ∙ ap (λ (d : Download). info_hash_by d.subject) same in
    let here = subst (λ (w : StoredView _). download_in w.machine.start w.machine.past c.args.gid ≡ Some download)
    (sym c.self.view_is) added in
    let options = same_Some c.in_ok-begun.field-0.now download.options
    (sym (ap option_copied c.in_ok-begun.was) ∙ (c.begun.ensures
    ∙ ap (λ (o : Option Download). option_map (λ (d : Download). d.options) o) here)) in
    let text = sym (ap option_copied c.in_ok-text.was) ∙ (c.text.ensures.value
    ∙ ap (λ (o : OptionValues). text_of_word o word.Checksum) options) in
    IfSome_then c.read.result c.read.ensures.value (λ check spelled. record {
      unlisted = hash_unlisted download.subject
          (sym (ap is_some hash) ∙ (sym c.is_some.ensures ∙ c.if-is_some.false));
      text = c.in_ok-text.text.now;
      option = sym text;
      spelled = spelled;
    })
