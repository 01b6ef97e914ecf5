-- What is kept of a download, by its events.
use Rattle.std.specs.Prelude.{◌≡◌, ℕ, ◌<◌, ◌≤◌, List, ◌∷◌, All}
use Rattle.mirror_blame.specs.Marks.{counted}
use Rattle.dl_history.specs.Accounts.{account_of}
use Rattle.dl_history.specs.OwnEvents.{OwnEvent}
use Rattle.dl_history.specs.OwnLegal.{LegalOwn}
use Rattle.dl_history.specs.PayloadParts.{blames_in, is_opened}
use Rattle.dl_history.specs.StandingClaims.{granted_claims}
use Rattle.one_download.specs.DownloadViews.{is_opened_by, marks_after}

-- the marks that are kept, step by step, are those that count
abbrev pub MarksAreCounted : Type 0
MarksAreCounted =
    (max_tries : ℕ) (own : List OwnEvent) (e : OwnEvent)
    → marks_after max_tries (counted max_tries (blames_in own)) e ≡ counted max_tries (blames_in (e ∷ own))

-- a number above those of all claims is one that a claim may have
abbrev pub NewNumbersMayBeGranted : Type 0
NewNumbersMayBeGranted =
    (total len : ℕ) (own : List OwnEvent) (id : ℕ)
    → All (λ claim. claim.id < id) (granted_claims own) → (account_of total len own).next ≤ id

-- a download is opened where what is kept of it says so
abbrev pub AccountsTellOpening : Type 0
AccountsTellOpening =
    (total len : ℕ) (own : List OwnEvent)
    → LegalOwn total len own → is_opened_by (account_of total len own) ≡ is_opened own
