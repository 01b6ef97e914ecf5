use Rattle.std.proofs.Common.{◌≡◌, ◌↔◌, ◌<◌, ℕ, Some, length, take, replicate, subst}
use Rattle.mirror_blame.specs.Choice.{IsChoice}
use Rattle.one_download.specs.DownloadViews.{DownloadView}
use Rattle.one_download.specs.Grants.{IsProbeMirror, situation_with}
use Rattle.one_download.proofs.Unopened.{if_none, if_some, probe_by, probe_from}
use Rattle.one_download.proofs.download.OneDownload.probe_mirror.Goals as goal

pub returns-clause-mirror : goal.returns-clause-mirror
returns-clause-mirror c =
    let hosts = c.args.hosts.now in
    let split = c.args.split in
    let v : DownloadView = c.args.self.now in
    let h : (m : ℕ) → (c.choose.result ≡ Some m)
    ↔ IsChoice v.mirrors v.max_tries v.marks 0 0 (take (length hosts) (replicate 256 0)) split.per_host m =
    subst (λ (w : DownloadView). (m : ℕ) → (c.choose.result ≡ Some m)
    ↔ IsChoice w.mirrors w.max_tries w.marks 0 0 (take (length hosts) (replicate 256 0)) split.per_host m)
    c.self.view_is c.choose.ensures.choice in
    if_some c.choose.result (IsProbeMirror (situation_with v split hosts))
    (λ m e. probe_by v split hosts m c.requires.alone c.requires.split.each c.requires.split.few ((h m).0 e))

pub returns-clause-known : goal.returns-clause-known
returns-clause-known c =
    let hosts = c.args.hosts.now in
    let split = c.args.split in
    let v : DownloadView = c.args.self.now in
    let h : (m : ℕ) → (c.choose.result ≡ Some m)
    ↔ IsChoice v.mirrors v.max_tries v.marks 0 0 (take (length hosts) (replicate 256 0)) split.per_host m =
    subst (λ (w : DownloadView). (m : ℕ) → (c.choose.result ≡ Some m)
    ↔ IsChoice w.mirrors w.max_tries w.marks 0 0 (take (length hosts) (replicate 256 0)) split.per_host m)
    c.self.view_is c.choose.ensures.choice in
    if_some c.choose.result (λ m. m < v.mirrors) (λ m e. ((h m).0 e).candidate.known)

pub returns-clause-none : goal.returns-clause-none
returns-clause-none c =
    let hosts = c.args.hosts.now in
    let split = c.args.split in
    let v : DownloadView = c.args.self.now in
    let h : (m : ℕ) → (c.choose.result ≡ Some m)
    ↔ IsChoice v.mirrors v.max_tries v.marks 0 0 (take (length hosts) (replicate 256 0)) split.per_host m =
    subst (λ (w : DownloadView). (m : ℕ) → (c.choose.result ≡ Some m)
    ↔ IsChoice w.mirrors w.max_tries w.marks 0 0 (take (length hosts) (replicate 256 0)) split.per_host m)
    c.self.view_is c.choose.ensures.choice in
    if_none c.choose.result ((m : ℕ) → ¬ IsProbeMirror (situation_with v split hosts) m)
    (λ none m is.
    let some : c.choose.result ≡ Some m =
    (h m).1 (probe_from v split hosts m c.requires.alone c.requires.split.each c.requires.split.few is) in
    absurd cc)
