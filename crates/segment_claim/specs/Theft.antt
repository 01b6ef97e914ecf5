-- What is stolen where nothing is free.
use Rattle.std.specs.Prelude.{◌≡◌, ℕ, ◌+◌, ◌≤◌, List, Some, Contains}
use Rattle.std.specs.List.{AllZip}
use Rattle.dl_kinds.specs.declared.claims.Claim.{Claim}
use Rattle.dl_kinds.specs.declared.claims.ClaimView.{ClaimView}
use Rattle.slow_steal.specs.Theft.{IsSteal}
use Rattle.slow_steal.specs.declared.theft.Steal.{Steal}
use Rattle.segment_claim.specs.Book.{ClaimBook}
use Rattle.segment_claim.specs.Free.{HasNoFreeClaim, IsMirrorFor}
use Rattle.segment_claim.specs.Situation.{Situation}
use Rattle.segment_claim.specs.Views.{IsViewOf}

-- what is seen of the standing claims, one after the other
abbrev pub AreViews : Situation → List ClaimView → Type 0
AreViews s views = AllZip (IsViewOf s) s.standing views

-- The theft: only where no free claim is found, of the slowest claim that is able, at the mirror that is chosen
pub record IsTheft (s : Situation) (now : ℕ) (steal : Steal) (mirror : ℕ) : Type 0 where
  pub nothing_free : HasNoFreeClaim s
  pub views : List ClaimView
  pub seen : AreViews s views
  pub slowest : IsSteal now views steal
  pub chosen : IsMirrorFor s steal.run mirror

-- the steal is of some blocks of a standing claim
pub record IsStealOf (book : ClaimBook) (steal : Steal) : Type 0 where
  pub claim : Claim
  pub stands : Contains book.standing claim
  pub number : claim.id ≡ steal.victim
  pub some : 1 ≤ steal.run.count
  pub from : claim.run.first ≤ steal.run.first
  pub to : steal.run.first + steal.run.count ≤ claim.run.first + claim.run.count

-- what is granted: the stolen blocks, under this number, to this worker, at this mirror and moment
abbrev pub stolen_claim : ℕ → ℕ → Steal → ℕ → ℕ → Claim
stolen_claim id worker steal mirror now =
    record {
      id = id;
      worker = worker;
      mirror = mirror;
      run = steal.run;
      victim = Some steal.victim;
      since = record { 0 = now };
    }
