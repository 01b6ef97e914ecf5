use Rattle.std.proofs.Common.{◌≡◌, ◌∙◌, sym, ap, true, false, rules, Some}
use Rattle.std.specs.Prelude.{string_bytes, option_map}
use Rattle.origin_replies.specs.Segments.{IsPartOf, HavePutBehind, segments_in}
use Rattle.origin_replies.proofs.Cutting.{whole}
use Rattle.origin_replies.proofs.name.name_of_path.Goals as goal

pub returns-then-not-branch : goal.returns-then-not-branch
returns-then-not-branch c =
    let part : IsPartOf c.cut.result.0.now (Some c.in-Some.first) = search rules in
    let put : HavePutBehind (segments_in (option_map (λ rest. rest.now) c.cut.result.1)) c.in-Some.first false
    (string_bytes c.put_others.new.name) = search rules in
    sym (whole c.args.path.now c.cut.result.0.now (option_map (λ rest. rest.now) c.cut.result.1) c.in-Some.first (string_bytes c.put_others.new.name) false
    c.cut.ensures.cuts part put)

pub returns : goal.returns
returns c =
    let part : IsPartOf c.cut.result.0.now (Some c.in-Some.first) = search rules in
    let put : HavePutBehind (segments_in (option_map (λ rest. rest.now) c.cut.result.1)) c.in-Some.first true
    (string_bytes c.put_others.new.name) = search rules in
    let text : c.in_ok-of.field-0 ≡ string_bytes c.put_others.new.name = search rules in
    ap Some text
    ∙ sym (whole c.args.path.now c.cut.result.0.now (option_map (λ rest. rest.now) c.cut.result.1) c.in-Some.first (string_bytes c.put_others.new.name) true
    c.cut.ensures.cuts part put)
