-- Each claim of a download without a metainfo file is at one of its mirrors.
use Rattle.std.proofs.Common.{◌≡◌, ⊎_elim, ℕ, List, [], ◌∷◌, Option, None, Some, length, ap, ◌∙◌, subst, arith}
use Rattle.std.specs.Prelude.{◌<◌, Contains}
use Rattle.blameless_mirrors.proofs.Marks.{first_or}
use Rattle.dl_kinds.specs.declared.claims.Claim.{Claim}
use Rattle.dl_kinds.specs.declared.gid.Gid.{Gid}
use Rattle.machine_core.proofs.Hosted.{count_hosts}
use Rattle.machine_core.specs.Choices.{IsBlockGrant, IsGrantBy, IsTheftGrant, mirror_urls, situation_in}
use Rattle.machine_core.specs.OwnParts.{PayloadLengths, payload_lengths_of}
use Rattle.machine_core.specs.RunLegal.{DownloadsStay, IsLegal, MayBeClaimed, MayFollow, download_in}
use Rattle.machine_core.specs.Starts.{Download, RunStart, Subject, Unlisted}
use Rattle.machine_core.specs.declared.events.Event.{Event}
use Rattle.machine_core.specs.declared.events.Event.TheVariants.{Claimed}
use Rattle.mirror_hosts.specs.Hosts.{host_numbers}
use Rattle.segment_claim.specs.Free.{IsFreeGrant}
use Rattle.segment_claim.specs.Situation.{Situation}

block_mirror : (s : Situation) (claim : Claim) → IsBlockGrant s claim → claim.mirror < length s.hosts
block_mirror s claim g = ⊎_elim
    (λ (free : IsFreeGrant s claim.id claim.worker claim.since.0 claim). free.free.grantable.chosen.candidate.known)
    (λ (theft : IsTheftGrant s claim). theft.theft.chosen.candidate.known) g.grant

granted_known : (start : RunStart) (past : List Event) (gid : Gid) (d : Download) (o : Option PayloadLengths) (claim : Claim)
    → IsGrantBy start past gid d o claim → claim.mirror < length (host_numbers (mirror_urls d.subject))
granted_known start past gid d None claim g = g.mirror.candidate.known
granted_known start past gid d (Some l) claim g = block_mirror (situation_in start past gid d l) claim g.1

pub claimed_known : DownloadsStay → (start : RunStart) (past : List Event) (gid : Gid) (download : Download)
    (uris : List (List ℕ)) → download.subject ≡ Unlisted uris → IsLegal start past
    → ((d : Download) → download_in start past gid ≡ Some d → d ≡ download) → (claim : Claim)
    → Contains past (Claimed gid claim) → claim.mirror < length uris
claimed_known stay start [] gid download uris subject legal same claim there =
    absurd (let within = there.1 in omega (arith, within))
claimed_known stay start (e ∷ past) gid download uris subject legal same claim there = ⊎_elim
    (λ (here : e ≡ Claimed gid claim).
    let may : MayBeClaimed start past gid claim = subst (MayFollow start past) here legal.1 in
    let its = same may.download (stay start past e gid may.download may.added) in
    let known = granted_known start past gid may.download (payload_lengths_of start past gid) claim may.granted in
    let many : length (host_numbers (mirror_urls may.download.subject)) ≡ length uris =
    count_hosts (mirror_urls may.download.subject)
    ∙ ap (λ (s : Subject). length (mirror_urls s)) (ap (λ (x : Download). x.subject) its ∙ subject) in
    omega (arith, known, many))
    (λ (was : Contains past (Claimed gid claim)).
    claimed_known stay start past gid download uris subject legal.0 (λ d added. same d (stay start past e gid d added))
    claim was)
    (first_or e (Claimed gid claim) past there)
