use Rattle.std.proofs.Common.{◌≡◌, ◌∙◌, ℕ, List, sym, subst, ap}
use Rattle.span_map.specs.declared.files.FileLen.{FileLen}
use Rattle.control_file.proofs.want.Want.is_consistent.Goals as goal

pub returns : goal.returns
returns c =
    let want = c.args.self.now in
    let digests = c.has_digests.ensures.0 c.if-not-has_digests.false in (
      λ behind. record {
        layout = c.files.ensures.layout;
        total = sym c.total.ensures.value ∙ c.if-total-self.false;
        plan = want.plan.is_plan;
        pieces = want.plan.pieces_are;
        hash = digests.size;
        digests = digests.listed;
        unlisted = digests.unlisted;
        behind = rw c.files.ensures.value at c.are_behind.ensures.0 behind;
      },
      λ is. c.are_behind.ensures.1 (rw c.files.ensures.value is.behind),
    )
