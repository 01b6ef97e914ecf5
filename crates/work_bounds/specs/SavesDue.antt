-- Saves that have something new to list.
use Rattle.std.specs.Prelude.{◌≡◌, ◌≢◌, ℕ, Bool, true, false, List, [], ◌∷◌}
use Rattle.std.specs.List.{list_any}
use Rattle.dl_history.specs.Listings.{last_listing, listing_in}
use Rattle.dl_history.specs.OwnEvents.{OwnEvent, Opens, Lands, Settles, Clears, Loses, Saves, Halts}
use Rattle.dl_history.specs.OwnLegal.{LegalOwn}
use Rattle.dl_history.specs.PayloadParts.{is_opened}
use Rattle.dl_history.specs.StandingClaims.{since}

-- the progress is listed anew
abbrev pub lists_progress : OwnEvent → Bool
lists_progress (Opens verified blocks now) = true
lists_progress (Saves now) = true
lists_progress e = false

-- blocks come or may go, or a piece is found right or wrong
abbrev pub may_change_listing : OwnEvent → Bool
may_change_listing (Lands id mirror run) = true
may_change_listing (Settles piece right giver) = true
may_change_listing (Clears piece) = true
may_change_listing (Loses id mirror piece mark) = true
may_change_listing (Halts ends) = true
may_change_listing e = false

-- such an event came since the last save, or the opening
abbrev pub has_news : List OwnEvent → Bool
has_news own = list_any may_change_listing (since lists_progress own)

-- .. before each save
abbrev pub SavesHaveNews : List OwnEvent → Type 0
SavesHaveNews [] = Unit {0}
SavesHaveNews (Saves now ∷ before) = SavesHaveNews before × (has_news before ≡ true)
SavesHaveNews (e ∷ before) = SavesHaveNews before

-- where a save would list something else than the last one, there is news
abbrev pub UnsavedHaveNews : Type 0
UnsavedHaveNews =
    (total len : ℕ) (own : List OwnEvent) → LegalOwn total len own → is_opened own ≡ true
    → last_listing total len own ≢ listing_in total len own → has_news own ≡ true
