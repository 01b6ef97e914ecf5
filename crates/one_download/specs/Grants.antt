-- Which claim a download is granted next.
use Rattle.std.specs.Prelude.{◌≡◌, ◌⊎◌, ℕ, ◌<◌, ◌≤◌, Bool, Some, None, List, length}
use Rattle.dl_kinds.specs.declared.claims.Claim.{Claim}
use Rattle.dl_kinds.specs.declared.claims.TheConstants.{MAX_MIRRORS}
use Rattle.mirror_blame.specs.Choice.{IsChoice}
use Rattle.mirror_blame.specs.declared.blame.Blame.{Blame}
use Rattle.dl_history.specs.Accounts.{Account}
use Rattle.segment_claim.specs.Free.{IsFreeClaim}
use Rattle.segment_claim.specs.Situation.{Situation, host_loads}
use Rattle.segment_claim.specs.Theft.{IsTheft}
use Rattle.segment_claim.specs.declared.limits.TheConstants.{MAX_SPLIT}
use Rattle.slow_steal.specs.declared.theft.Steal.{Steal}
use Rattle.one_download.specs.DownloadViews.{DownloadView, IsClaimOf}
use Rattle.one_download.specs.declared.choices.Choice.{Choice}
use Rattle.one_download.specs.declared.choices.Split.{Split}

-- what the choice of a claim goes by, with the number of each mirror's host
abbrev pub situation_for : Account → List Bool → ℕ → List Blame → Split → List ℕ → Situation
situation_for k wanted max_tries marks split hosts =
    record {
      total = k.progress.total;
      piece_len = k.progress.piece_len;
      landed = k.progress.landed;
      sole = k.progress.sole;
      wanted = wanted;
      standing = k.standing;
      closed = k.closed;
      max_tries = max_tries;
      marks = marks;
      hosts = hosts;
      per_host = split.per_host;
      split = split.claims;
      min_blocks = split.min_blocks;
    }

abbrev pub situation_with : DownloadView → Split → List ℕ → Situation
situation_with d split hosts = situation_for d.account d.wanted d.max_tries d.marks split hosts

-- the numbers are within bounds, and each of so many mirrors has a host
pub record MaySplit (mirrors : ℕ) (split : Split) (hosts : List ℕ) : Type 0 where
  pub each : length hosts ≡ mirrors
  pub few : length hosts ≤ MAX_MIRRORS
  pub some : 1 ≤ split.claims
  pub most : split.claims ≤ MAX_SPLIT

abbrev pub steal_by : Choice → ℕ → Steal
steal_by choice victim = record { victim = victim; run = choice.run }

-- blocks stolen where nothing is free
pub record IsTheftChoice (s : Situation) (now : ℕ) (choice : Choice) : Type 0 where
  pub victim : ℕ
  pub of_victim : choice.victim ≡ Some victim
  pub theft : IsTheft s now (steal_by choice victim) choice.mirror

-- the free claim, stolen of none
pub record IsFreeChoice (s : Situation) (choice : Choice) : Type 0 where
  pub free : IsFreeClaim s choice.run choice.mirror
  pub stolen_of_none : choice.victim ≡ None

-- fewer claims stand than the payload is split into: the free claim, and without one the theft
pub record IsBlockChoice (s : Situation) (now : ℕ) (choice : Choice) : Type 0 where
  pub few : length s.standing < s.split
  pub blocks : IsFreeChoice s choice ⊎ IsTheftChoice s now choice

abbrev pub HasNoTheft : Situation → ℕ → Type 0
HasNoTheft s now = (choice : Choice) → ¬ IsTheftChoice s now choice

abbrev pub HasNoChoice : Situation → ℕ → Type 0
HasNoChoice s now = (choice : Choice) → ¬ IsBlockChoice s now choice

-- the mirror that is chosen to probe the whole payload
abbrev pub IsProbeMirror : Situation → ℕ → Type 0
IsProbeMirror s mirror =
    IsChoice (length s.hosts) s.max_tries s.marks 0 0 (host_loads s) s.per_host mirror

abbrev pub HasNoProbe : Situation → Type 0
HasNoProbe s = (mirror : ℕ) → ¬ IsProbeMirror s mirror

-- what is granted: the choice, under a number, to a worker, at a moment
abbrev pub claim_by : Choice → ℕ → ℕ → ℕ → Claim
claim_by choice id worker now =
    record {
      id = id;
      worker = worker;
      mirror = choice.mirror;
      run = choice.run;
      victim = choice.victim;
      since = record { 0 = now };
    }

-- under each number, to each worker, the choice is a claim that the download may have
abbrev pub MayBeGranted : DownloadView → ℕ → Choice → Type 0
MayBeGranted d now choice = (id worker : ℕ) → IsClaimOf d (claim_by choice id worker now)
