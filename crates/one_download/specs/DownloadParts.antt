-- What the parts of a download make of it, and what holds of them.
use Rattle.std.specs.Prelude.{◌≡◌, ◌<◌, ℕ, Bool, true, Option, Some, None, List, [], ◌∷◌, All}
use Rattle.std.specs.Option.{is_some}
use Rattle.dl_kinds.specs.declared.claims.Claim.{Claim}
use Rattle.dl_history.specs.Accounts.{Account}
use Rattle.piece_table.specs.declared.giver.Giver.{Giver}
use Rattle.piece_table.specs.declared.giver.Giver.TheVariants.{Nobody, One, Mixed}
use Rattle.one_download.specs.DownloadViews.{DownloadView, IsProbeAt}
use Rattle.one_download.specs.PayloadViews.{PayloadView, account_before}
use Rattle.one_download.specs.declared.download.OneDownload.TheInside.{Inside}
use Rattle.one_download.specs.declared.payload.Before.{Before}

-- a value that there may be, as a list
abbrev pub some_of : {A : Type 0} → Option A → List A
some_of None = []
some_of (Some x) = x ∷ []

-- ---- what is seen

abbrev pub account_in : Option PayloadView → Option Claim → Before → Account
account_in None probe before = record (account_before before) { standing = some_of probe }
account_in (Some payload) probe before = payload.account

abbrev pub wanted_in : Option PayloadView → List Bool
wanted_in None = []
wanted_in (Some payload) = payload.wanted

-- a probe needs no room
abbrev pub spare_in : Option PayloadView → ℕ
spare_in None = 1
spare_in (Some payload) = payload.spare

abbrev pub download_by : Inside → DownloadView
download_by d =
    record {
      account = account_in d.payload d.probe d.before;
      wanted = wanted_in d.payload;
      mirrors = d.marks.mirrors;
      max_tries = d.marks.max_tries;
      marks = d.marks.marks;
      spare = spare_in d.payload;
      mark_spare = d.marks.spare;
    }

-- ---- what holds

-- a giver that is known is a mirror of the download
abbrev pub IsGiverAmong : ℕ → Giver → Type 0
IsGiverAmong mirrors Nobody = Unit {0}
IsGiverAmong mirrors (One mirror) = mirror < mirrors
IsGiverAmong mirrors Mixed = Unit {0}

-- once it is opened: it was saved, and its claims and givers are of its mirrors
pub record IsOfMirrors (mirrors : ℕ) (k : Account) : Type 0 where
  pub saved : is_some k.saved ≡ true
  pub claims : All (λ claim. claim.mirror < mirrors) k.standing
  pub givers : All (IsGiverAmong mirrors) k.progress.givers

abbrev pub HoldsIn : ℕ → Option PayloadView → Option Claim → Type 0
HoldsIn mirrors None probe = All (IsProbeAt mirrors) (some_of probe)
HoldsIn mirrors (Some payload) probe = IsOfMirrors mirrors payload.account

abbrev pub IsSoundDownload : Inside → Type 0
IsSoundDownload d = HoldsIn d.marks.mirrors d.payload d.probe
