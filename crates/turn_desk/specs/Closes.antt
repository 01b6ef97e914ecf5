-- What closing a desk gives.
use Rattle.std.specs.Prelude.{◌≡◌, ◌<◌, ◌-◌, ℕ, Vec, vec_len}
use Rattle.std.specs.declared.alloc.Global.{Global}
use Rattle.turn_desk.specs.declared.served.Served.{Ghosts as ServedSays}
use Rattle.turn_desk.specs.declared.close.Closed.{Closed}
use Rattle.turn_desk.specs.declared.close.Closed.TheVariants.{Whole, StillOut}
use Rattle.turn_desk.specs.Passes.{TurnDeskView, PassView, ClosesWith}

-- fewer passes came than the desk has: it stays as it was, and so do they
pub record IsStillOut {T O A E : Type 0} (desk : TurnDeskView T E) (passes : Vec (PassView T O A E) Global) (out : ℕ)
    (desk' : TurnDeskView T E) (passes' : Vec (PassView T O A E) Global) : Type 0 where
  pub few : vec_len passes < desk.passes
  pub missing : out ≡ desk.passes - vec_len passes
  pub desk_is : desk' ≡ desk
  pub passes_are : passes' ≡ passes

-- the state where all passes came; else all that was handed in
abbrev pub Closes : {S T O A E : Type 0} → ServedSays S T O A E → TurnDeskView T E → Vec (PassView T O A E) Global
    → Closed S T O A E → Type 0
Closes says desk passes (Whole served) = ClosesWith says desk passes.items served
Closes says desk passes (StillOut out desk' passes') = IsStillOut desk passes out desk' passes'
