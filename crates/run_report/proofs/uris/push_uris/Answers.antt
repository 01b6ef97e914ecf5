use Rattle.std.proofs.Common.{ℕ, ◌∙◌, ◌+◌, ◌∷◌, ◌++◌, List, [], ap, append_assoc, arith, map, sym, take}
use Rattle.std.specs.Prelude.{option_copied}
use Rattle.std.specs.List.{enumerate_from}
use Rattle.run_report.specs.Uris.{uri_view}
use Rattle.run_report.specs.declared.views.UriView.{UriView}
use Rattle.run_report.proofs.Mirrors.{all_views, more_views}
use Rattle.run_report.proofs.uris.push_uris.Goals as goal

pub loop-place-preserved : goal.loop-place-preserved
loop-place-preserved c = λ standing row.
    let f = uri_view standing (option_copied c.args.meta) c.args.file in
    let place = c.loop-place.place in
    let before = map f (take place (enumerate_from c.args.first c.args.urls.now)) in
    let view = c.in_ok-uri_view.ensures standing row
    ∙ ap (λ (url : List ℕ). uri_view standing (option_copied c.args.meta) c.args.file (c.args.first + place, url))
    c.as_str-url.ensures in
    c.in_ok-push.ensures.ok
    ∙ (ap (λ (views : List UriView). views ++ c.in_ok-uri_view.field-0 ∷ []) (c.loop-place.invariant standing row)
    ∙ (append_assoc c.args.views.now before (c.in_ok-uri_view.field-0 ∷ [])
    ∙ ap (λ (views : List UriView). c.args.views.now ++ views)
    (ap (λ (v : UriView). before ++ v ∷ []) view
    ∙ sym (more_views f c.args.first c.args.urls.now place c.at.result.now c.at.ensures))))

pub returns : goal.returns
returns c = λ standing row.
    c.loop-place.invariant standing row
    ∙ ap (λ (views : List UriView). c.args.views.now ++ views)
    (all_views (uri_view standing (option_copied c.args.meta) c.args.file) c.args.first c.args.urls.now
    c.loop-place.place (omega arith))
