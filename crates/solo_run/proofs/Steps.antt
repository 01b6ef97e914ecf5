-- What is so of each event of a run whose claims are taken by one worker, with the history before it.
use Rattle.std.proofs.Common.{◌≡◌, ◌++◌, List, [], ◌∷◌, false, true}
use Rattle.std.specs.List.{list_any}
use Rattle.dl_kinds.specs.declared.gid.Gid.{Gid}
use Rattle.dl_history.specs.StandingClaims.{standing_claims}
use Rattle.engine_turns.specs.Told.{history_after}
use Rattle.machine_core.specs.OwnParts.{own_of}
use Rattle.machine_core.specs.RunLegal.{is_stop}
use Rattle.machine_core.specs.Starts.{RunStart}
use Rattle.machine_core.specs.declared.calls.Call.{Call}
use Rattle.machine_core.specs.declared.calls.Call.TheVariants.{AddTorrent, AddUri}
use Rattle.machine_core.specs.declared.events.Event.{Event}
use Rattle.machine_core.specs.declared.events.Event.TheVariants.{Called, Claimed, Saved}
use Rattle.work_bounds.specs.SavesDue.{has_news}

-- the call adds a download
abbrev pub Adds : Call → Type 0
Adds (AddUri uris options position) = Unit {0}
Adds (AddTorrent meta uris options position) = Unit {0}
Adds other = ⊥

-- A claim comes where none stands and no stop came, a save has news, and the only call is the first event, which adds a
-- download.
abbrev pub IsOrderly : RunStart → List Event → Event → Type 0
IsOrderly start before (Called session call now) = (before ≡ []) × Adds call
IsOrderly start before (Claimed gid claim) =
    ((g : Gid) → standing_claims (own_of start before g) ≡ []) × (list_any is_stop before ≡ false)
IsOrderly start before (Saved gid now) = has_news (own_of start before gid) ≡ true
IsOrderly start before e = Unit {0}

-- it holds of each event of a history ..
abbrev pub EachBefore : (List Event → Event → Type 0) → List Event → Type 0
EachBefore P [] = Unit {0}
EachBefore P (e ∷ before) = EachBefore P before × P before e

-- .. and of each of these that come behind one, in order
abbrev pub EachAfter : (List Event → Event → Type 0) → (past events : List Event) → Type 0
EachAfter P past [] = Unit {0}
EachAfter P past (e ∷ events) = P past e × EachAfter P (e ∷ past) events

pub each_after_append : (P : List Event → Event → Type 0) (past front rest : List Event) → EachAfter P past front
    → EachAfter P (history_after past front) rest → EachAfter P past (front ++ rest)
each_after_append P past [] rest first then = then
each_after_append P past (e ∷ front) rest first then =
    (first.0, each_after_append P (e ∷ past) front rest first.1 then)

pub each_grown : (P : List Event → Event → Type 0) (past events : List Event) → EachBefore P past
    → EachAfter P past events → EachBefore P (history_after past events)
each_grown P past [] before after = before
each_grown P past (e ∷ events) before after = each_grown P (e ∷ past) events (before, after.0) after.1

abbrev pub OrderlyRun : RunStart → List Event → Type 0
OrderlyRun start past = EachBefore (IsOrderly start) past
