use Rattle.std.proofs.Common.{◌≡◌, List, Bool, [], false, refl, sym, ap, subst, ◌∙◌}
use Rattle.dl_history.specs.Accounts.{Account, at_opening}
use Rattle.one_download.specs.DownloadParts.{IsOfMirrors}
use Rattle.one_download.specs.DownloadViews.{DownloadView, is_opened_by}
use Rattle.one_download.specs.PayloadViews.{account_before}
use Rattle.one_download.proofs.Mirrors.{of_opening}
use Rattle.one_download.proofs.Unopened.{unopened_account}
use Rattle.one_download.proofs.download.OneDownload.open.Goals as goal

pub invariant_of-self : goal.invariant_of-self
invariant_of-self c =
    let d = c.self.inside in
    subst (IsOfMirrors d.marks.mirrors) (sym c.in_ok-payload.ensures.account)
    (of_opening d.marks.mirrors c.args.plan.total c.args.plan.piece_len (account_before d.before)
    c.in_ok-verified.verified c.in_ok-blocks.blocks c.args.now refl)

pub returns-clause-account : goal.returns-clause-account
returns-clause-account c =
    let d = c.self.inside in
    let first = subst (λ (v : DownloadView). is_opened_by v.account ≡ false) (sym c.self.view_is) c.requires.first in
    let idle = subst (λ (v : DownloadView). v.account.standing ≡ []) (sym c.self.view_is) c.requires.idle in
    let before : account_before d.before ≡ c.args.self.now.account =
    sym (unopened_account d.marks.mirrors d.payload d.probe d.before c.self.invariant first idle)
    ∙ ap (λ (v : DownloadView). v.account) c.self.view_is in
    let start : Account → List Bool → List Bool → Account = λ k verified blocks.
    at_opening c.args.plan.total c.args.plan.piece_len k verified blocks c.args.now in
    c.in_ok-payload.ensures.account
    ∙ ap (λ (k : Account). start k c.in_ok-verified.verified c.in_ok-blocks.blocks) before
    ∙ ap (λ (r : List Bool). start c.args.self.now.account r c.in_ok-blocks.blocks) c.in_ok-verified.ensures
    ∙ ap (start c.args.self.now.account c.args.verified.now) c.in_ok-blocks.ensures
