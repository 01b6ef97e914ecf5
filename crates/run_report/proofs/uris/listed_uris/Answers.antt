use Rattle.std.proofs.Common.{ℕ, ◌∙◌, ◌++◌, List, Some, ap, map, sym}
use Rattle.std.specs.List.{enumerate_from}
use Rattle.run_report.specs.Uris.{uri_view}
use Rattle.run_report.specs.declared.views.UriView.{UriView}
use Rattle.run_report.proofs.Mirrors.{joined_views}
use Rattle.run_report.proofs.uris.listed_uris.Goals as goal

pub returns : goal.returns
returns c = λ standing row.
    let f = uri_view standing (Some c.args.meta.now) c.args.file in
    let seeds = c.args.meta.now.seeds in
    let uris = c.args.uris.now in
    c.in_ok-push_uris-2.ensures standing row
    ∙ (ap (λ (views : List UriView). views ++ map f (enumerate_from c.len-first.result uris))
    (c.in_ok-push_uris.ensures standing row
    ∙ ap (λ (views : List UriView). views ++ map f (enumerate_from 0 seeds)) c.new-views.ensures)
    ∙ (ap (λ (n : ℕ). map f (enumerate_from 0 seeds) ++ map f (enumerate_from n uris)) c.len-first.ensures
    ∙ sym (joined_views f seeds uris)))
