use Rattle.std.proofs.Common.{◌≡◌, ◌∙◌, Bool, Bor, List, Option, ap, arith, length, length-append, subst, sym}
use Rattle.std.specs.Prelude.{IfOk, option_copied}
use Rattle.metainfo.specs.declared.meta.Meta.{Meta}
use Rattle.machine_core.specs.Choices.{mirror_urls}
use Rattle.machine_core.specs.MachineViews.{standing_in}
use Rattle.run_report.specs.Told.{ToldView, subject_by}
use Rattle.run_report.specs.Uris.{uri_views}
use Rattle.run_report.specs.declared.views.UriView.{UriView}
use Rattle.run_report.proofs.Mirrors.{row_itself, row_long}
use Rattle.run_report.proofs.told.Told.uri_views.Goals as goal

pub listed_uris-requires-clause-within : goal.listed_uris-requires-clause-within
listed_uris-requires-clause-within c =
    let t = c.self.inside in
    let many = ap (λ (bits : List Bool). length bits) c.as_slice-used.ensures.value
    ∙ (row_long (standing_in t.machine.now t.gid) (length (mirror_urls (subject_by (option_copied t.meta) t.uris.now)))
    t.used.items c.self.invariant.used
    ∙ ap (λ (o : Option (Bor Meta)). length (mirror_urls (subject_by (option_copied o) t.uris.now))) c.in-Some.is) in
    let long = length-append c.in-Some.meta.now.seeds t.uris.now in
    omega (arith, many, long)

pub unlisted_uris-requires : goal.unlisted_uris-requires
unlisted_uris-requires c =
    let t = c.self.inside in
    let many = ap (λ (bits : List Bool). length bits) c.as_slice-used.ensures.value
    ∙ (row_long (standing_in t.machine.now t.gid) (length (mirror_urls (subject_by (option_copied t.meta) t.uris.now)))
    t.used.items c.self.invariant.used
    ∙ ap (λ (o : Option (Bor Meta)). length (mirror_urls (subject_by (option_copied o) t.uris.now))) c.in-None.is) in
    omega (arith, many)

pub returns-in-Some : goal.returns-in-Some
returns-in-Some c =
    let t = c.self.inside in
    let standing = standing_in t.machine.now t.gid in
    let row = row_itself standing (length (mirror_urls (subject_by (option_copied t.meta) t.uris.now)))
    c.as_slice-used.result.now (c.as_slice-used.ensures.value ∙ c.self.invariant.used) in
    subst (λ (v : List UriView). IfOk c.listed_uris.result (λ views. views ≡ v))
    (sym (ap (λ (o : Option (Bor Meta)). uri_views standing (subject_by (option_copied o) t.uris.now) c.args.file) c.in-Some.is)
    ∙ ap (λ (s : ToldView). uri_views (standing_in s.machine s.download.gid) s.download.subject c.args.file) c.self.view_is)
    (c.listed_uris.ensures standing row)

pub returns-in-None : goal.returns-in-None
returns-in-None c =
    let t = c.self.inside in
    let standing = standing_in t.machine.now t.gid in
    let row = row_itself standing (length (mirror_urls (subject_by (option_copied t.meta) t.uris.now)))
    c.as_slice-used.result.now (c.as_slice-used.ensures.value ∙ c.self.invariant.used) in
    subst (λ (v : List UriView). IfOk c.unlisted_uris.result (λ views. views ≡ v))
    (sym (ap (λ (o : Option (Bor Meta)). uri_views standing (subject_by (option_copied o) t.uris.now) c.args.file) c.in-None.is)
    ∙ ap (λ (s : ToldView). uri_views (standing_in s.machine s.download.gid) s.download.subject c.args.file) c.self.view_is)
    (c.unlisted_uris.ensures standing row)
