-- What is stolen belongs to a standing claim.
use Rattle.std.specs.Prelude.{◌≡◌, ℕ, List}
use Rattle.dl_kinds.specs.declared.claims.ClaimView.{ClaimView}
use Rattle.slow_steal.specs.Theft.{IsSteal}
use Rattle.slow_steal.specs.declared.theft.Steal.{Steal}
use Rattle.segment_claim.specs.Book.{ClaimBook}
use Rattle.segment_claim.specs.Free.{IsMirrorFor}
use Rattle.segment_claim.specs.Situation.{Situation}
use Rattle.segment_claim.specs.Theft.{AreViews, IsStealOf}

-- what the views of claims give to steal is some blocks of a standing claim ..
abbrev pub StealsAreOfClaims : Type 0
StealsAreOfClaims =
    (book : ClaimBook) (s : Situation) (views : List ClaimView) (now : ℕ) (steal : Steal)
    → s.standing ≡ book.standing → AreViews s views → IsSteal now views steal → IsStealOf book steal

-- .. for which a mirror is found
abbrev pub StealsHaveMirrors : Type 0
StealsHaveMirrors =
    (s : Situation) (views : List ClaimView) (now : ℕ) (steal : Steal)
    → AreViews s views → IsSteal now views steal → (mirror : ℕ) × IsMirrorFor s steal.run mirror
