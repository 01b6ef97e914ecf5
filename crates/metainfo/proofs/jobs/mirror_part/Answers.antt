use Rattle.std.proofs.Common.{◌∙◌, List, get_or, ap}
use Rattle.span_map.specs.declared.files.FileLen.{FileLen}
use Rattle.metainfo.proofs.Asked.{part_is_range, file_is_bounded}
use Rattle.metainfo.proofs.jobs.mirror_part.Goals as goal

pub returns-clause-range : goal.returns-clause-range
returns-clause-range c =
    let file = c.index-files-part.result in
    let here = c.index-files-part.is ∙ ap (λ (files : List FileLen). get_or files c.args.part.now.file file) c.files.ensures.value in
    part_is_range c.args.layout.now c.args.part.now file c.in_ok-of.field-0 c.requires here

pub returns-clause-bounded : goal.returns-clause-bounded
returns-clause-bounded c =
    let file = c.index-files-part.result in
    let here = c.index-files-part.is ∙ ap (λ (files : List FileLen). get_or files c.args.part.now.file file) c.files.ensures.value in
    file_is_bounded c.args.layout.now c.args.part.now file c.files.ensures.layout c.requires here
