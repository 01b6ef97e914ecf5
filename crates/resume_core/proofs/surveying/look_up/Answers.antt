use Rattle.std.proofs.Common.{◌≡◌, ◌∙◌, ℕ, List, Option, Some, None, sym, subst}
use Rattle.std.proofs.lemmas.Result.{IfOk-weaker, on_ok_weaker}
use Rattle.resume_core.specs.Lens.{first_len, lens_in}
use Rattle.resume_core.specs.Openings.{AnyFile, IsNoControl}
use Rattle.resume_core.specs.Refusals.{in_the_way}
use Rattle.resume_core.specs.Rows.{IsSurvey}
use Rattle.resume_core.specs.Wants.{control_name}
use Rattle.resume_core.specs.declared.surveying.Survey.{Survey}
use Rattle.resume_core.proofs.Past.{past_on, past_fewer}
use Rattle.resume_core.proofs.Surveys.{err_both, lens_same, refused_none, refused_some}
use Rattle.resume_core.proofs.surveying.look_up.Goals as goal

pub returns-in_err-lens-clause-looks : goal.returns-in_err-lens-clause-looks
returns-in_err-lens-clause-looks g c told =
    let d = g.D.Disk in
    past_on (IsNoControl c.args.want.now) (d.state c.args.disk.now) (d.state c.read_control.new.disk)
    (d.state c.file_lens.new.disk)
    (c.read_control.ensures.looks told)
    (past_fewer AnyFile (IsNoControl c.args.want.now) (d.state c.read_control.new.disk) (d.state c.file_lens.new.disk)
    (λ name is. tt) (c.file_lens.ensures.looks told))

pub returns-clause-survey : goal.returns-clause-survey
returns-clause-survey g c =
    let d = g.D.Disk in
    let want = c.args.want.now in
    let seen = (d.state c.args.disk.now).seen in
    IfOk-weaker c.guarded.result _ _
    (λ survey is told. subst (λ (s : Survey). IsSurvey want s seen) (sym is)
    (record {
      control = c.in_ok-control.ensures.usable told;
      lens = rw c.as_str-2.ensures at c.in_ok-lens.ensures.lens told
          ∙ sym (lens_same want.dir want.layout seen (d.state c.read_control.new.disk).seen
          (c.read_control.ensures.looks told).stays.seen);
    }))
    c.guarded.ensures.survey

pub returns-clause-looks : goal.returns-clause-looks
returns-clause-looks g c told =
    let d = g.D.Disk in
    past_on (IsNoControl c.args.want.now) (d.state c.args.disk.now) (d.state c.read_control.new.disk)
    (d.state c.file_lens.new.disk)
    (c.read_control.ensures.looks told)
    (past_fewer AnyFile (IsNoControl c.args.want.now) (d.state c.read_control.new.disk) (d.state c.file_lens.new.disk)
    (λ name is. tt) (c.file_lens.ensures.looks told))

pub returns-clause-refuses : goal.returns-clause-refuses
returns-clause-refuses g c told =
    let d = g.D.Disk in
    let want = c.args.want.now in
    let seen = (d.state c.args.disk.now).seen in
    let file = seen (control_name want) in
    let standing = first_len (lens_in want seen) in
    let usable = c.in_ok-control.ensures.usable told in
    let lens : c.in_ok-lens.lens.items ≡ lens_in want seen =
    rw c.as_str-2.ensures at c.in_ok-lens.ensures.lens told
    ∙ sym (lens_same want.dir want.layout seen (d.state c.read_control.new.disk).seen
    (c.read_control.ensures.looks told).stays.seen) in
    record {
      opened = on_ok_weaker c.guarded.result
          (λ free. refused_none want file standing c.in_ok-control.control usable
          (λ none. subst (λ (l : List (Option ℕ)). in_the_way want (first_len l) ≡ None) lens (free none)))
          c.guarded.ensures.free;
      refused = err_both c.guarded.result _ _ _
          (λ err none refused plain. refused_some want file standing c.in_ok-control.control err usable none
          (subst (λ (l : List (Option ℕ)). in_the_way want (first_len l) ≡ Some err) lens refused))
          c.guarded.ensures.stands c.guarded.ensures.refused;
    }
