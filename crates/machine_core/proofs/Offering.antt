-- What one download's choice is to the run.
use Rattle.std.proofs.Common.{◌≡◌, ◌<◌, ℕ, false, Option, None, List, [], refl, sym, ap, ◌∙◌, inl, inr, ⊎_elim}
use Rattle.std.specs.Int.{div_ceil}
use Rattle.std.proofs.lemmas.Option.{get_or_from_slice_get}
use Rattle.dl_kinds.specs.Plan.{pieces_of}
use Rattle.dl_kinds.specs.declared.claims.Claim.{Claim}
use Rattle.dl_kinds.specs.declared.plan.TheConstants.{BLOCK_LEN}
use Rattle.mirror_blame.specs.Marks.{counted}
use Rattle.option_set.specs.Values.{OptionValues, number_value}
use Rattle.option_set.specs.declared.kinds.Num.TheVariants as num
use Rattle.segment_claim.specs.Free.{IsFreeGrant}
use Rattle.segment_claim.specs.Situation.{Situation}
use Rattle.dl_history.specs.AccountLaws.{MatchesEvents}
use Rattle.dl_history.specs.Accounts.{Account, account_of}
use Rattle.dl_history.specs.OwnEvents.{OwnEvent}
use Rattle.dl_history.specs.PayloadParts.{blames_in}
use Rattle.mirror_hosts.specs.Hosts.{host_numbers}
use Rattle.one_download.specs.DownloadViews.{DownloadView, IsToSettle}
use Rattle.one_download.specs.Grants.{HasNoChoice, IsBlockChoice, IsFreeChoice, IsProbeMirror, IsTheftChoice, claim_by, situation_with, steal_by}
use Rattle.one_download.specs.declared.choices.Choice.{Choice}
use Rattle.one_download.specs.declared.choices.Split.{Split}
use Rattle.machine_core.specs.Choices.{IsBlockGrant, IsProbeGrant, IsTheftGrant, mirror_urls, situation_by}
use Rattle.machine_core.specs.Offers.{AwaitsFinding, no_blocks, offered_claim}
use Rattle.machine_core.specs.OwnParts.{PayloadLengths}
use Rattle.machine_core.specs.Starts.{Download}
use Rattle.machine_core.specs.Wanted.{wanted_pieces}

-- how the options split a payload
pub record SplitsBy (options : OptionValues) (split : Split) : Type 0 where
  pub claims : split.claims ≡ number_value options num.Split
  pub per_host : split.per_host ≡ number_value options num.MaxConnectionPerServer
  pub min_blocks : split.min_blocks ≡ div_ceil (number_value options num.MinSplitSize) BLOCK_LEN

-- what is kept of a download, as far as a choice goes by it
pub record KeepsChoice (download : Download) (lengths : PayloadLengths) (own : List OwnEvent) (options : OptionValues)
    (d : DownloadView) (split : Split) (hosts : List ℕ) : Type 0 where
  pub account : d.account ≡ account_of lengths.total lengths.piece_len own
  pub total : d.account.progress.total ≡ lengths.total
  pub piece_len : d.account.progress.piece_len ≡ lengths.piece_len
  pub wanted : d.wanted ≡ wanted_pieces download lengths
  pub max_tries : d.max_tries ≡ number_value download.options num.MaxTries
  pub marks : d.marks ≡ counted (number_value download.options num.MaxTries) (blames_in own)
  pub hosts_are : hosts ≡ host_numbers (mirror_urls download.subject)
  pub split_is : SplitsBy options split

-- the choice goes by the same
pub same_situation : (download : Download) (lengths : PayloadLengths) (own : List OwnEvent) (options : OptionValues)
    (d : DownloadView) (split : Split) (hosts : List ℕ) → KeepsChoice download lengths own options d split hosts
    → situation_with d split hosts
    ≡ situation_by (account_of lengths.total lengths.piece_len own) lengths download own options
same_situation download lengths own options d split hosts k =
    rw (
      k.total,
      k.piece_len,
      k.wanted,
      k.max_tries,
      k.marks,
      k.hosts_are,
      k.split_is.claims,
      k.split_is.per_host,
      k.split_is.min_blocks,
      k.account,
    ) refl

-- a choice of blocks is a grant, under each number
pub block_grant : (s : Situation) (now : ℕ) (choice : Choice) (id worker : ℕ) → IsBlockChoice s now choice
    → IsBlockGrant s (claim_by choice id worker now)
block_grant s now choice id worker is =
    let claim : Claim = claim_by choice id worker now in
    record {
      few = is.few;
      grant =
          ⊎_elim
          (λ (free : IsFreeChoice s choice). inl (record {
            free = free.free;
            number = refl;
            to = refl;
            at = refl;
            stolen_of_none = free.stolen_of_none;
          }))
          (λ (theft : IsTheftChoice s now choice). inr (record {
            steal = steal_by choice theft.victim;
            theft = theft.theft;
            is = ap (λ (v : Option ℕ). offered_claim choice.mirror choice.run v id worker now) theft.of_victim;
          }))
          is.blocks;
    }

-- .. and the other way round
abbrev pub choice_in : Claim → Choice
choice_in claim = record { run = claim.run; mirror = claim.mirror; victim = claim.victim }

pub grant_choice : (s : Situation) (claim : Claim) → IsBlockGrant s claim
    → IsBlockChoice s claim.since.0 (choice_in claim)
grant_choice s claim is =
    record {
      few = is.few;
      blocks =
          ⊎_elim
          (λ (free : IsFreeGrant s claim.id claim.worker claim.since.0 claim). inl (record {
            free = free.free;
            stolen_of_none = free.stolen_of_none;
          }))
          (λ (theft : IsTheftGrant s claim). inr (record {
            victim = theft.steal.victim;
            of_victim = ap (λ (c : Claim). c.victim) theft.is;
            theft = rw (ap (λ (c : Claim). c.run) theft.is) theft.theft;
          }))
          is.grant;
    }

pub no_grant : (s : Situation) (claim : Claim) → HasNoChoice s claim.since.0 → ¬ IsBlockGrant s claim
no_grant s claim none is = none (choice_in claim) (grant_choice s claim is)

-- a mirror to probe is a grant of a probe
pub probe_grant : (s : Situation) (now mirror id worker : ℕ) → s.standing ≡ [] → IsProbeMirror s mirror
    → IsProbeGrant s (offered_claim mirror no_blocks None id worker now)
probe_grant s now mirror id worker alone is =
    record { alone = alone; first = refl; count = refl; mirror = is; victim = refl }

-- a piece that is to be settled by what is kept awaits its finding by the events
pub awaits_finding : (total len : ℕ) (own : List OwnEvent) (k : Account) (piece : ℕ) → MatchesEvents total len own k
    → k.progress.total ≡ total → k.progress.piece_len ≡ len → IsToSettle k piece
    → AwaitsFinding total len own piece
awaits_finding total len own k piece m et el is =
    let known : piece < pieces_of total len = rw (← et, ← el) is.full.unverified.known in
    let row = m.pieces piece known in
    record {
      within = known;
      full = λ b below of.
          sym (m.blocks b below) ∙ is.full.full b (rw (et, el) below) (rw el of);
      unverified = sym row.verified ∙ get_or_from_slice_get k.progress.verified piece false false is.full.unverified.unverified;
      anew = sym row.settled ∙ is.anew;
    }
