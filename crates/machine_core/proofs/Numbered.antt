-- Claims are numbered in order.
use Rattle.std.proofs.Common.{◌≡◌, ℕ, suc, Bool, true, false, cond, ◌<◌, List, [], ◌∷◌, length, refl, sym, subst, arith}
use Rattle.std.specs.Prelude.{Contains}
use Rattle.std.specs.List.{filter_map}
use Rattle.std.proofs.lemmas.List.Elements.{All-cons, All-nil}
use Rattle.std.proofs.lemmas.Option.{slice_get_within}
use Rattle.dl_kinds.specs.declared.claims.Claim.{Claim}
use Rattle.dl_kinds.specs.declared.gid.Gid.{Gid}
use Rattle.dl_history.specs.OwnEvents.{OwnEvent, Opens, Grants, Lands, Settles, Clears, Loses, Sizes, Saves, Checks, Halts}
use Rattle.dl_history.specs.StandingClaims.{granted_claims}
use Rattle.machine_core.specs.MachineParts.{KeepsHomes}
use Rattle.machine_core.specs.OwnParts.{halted_where, halts_by, own_of}
use Rattle.machine_core.specs.Replays.{is_same_gid}
use Rattle.machine_core.specs.RunLegal.{IsNewNumber, claim_of_event}
use Rattle.machine_core.specs.Starts.{RunStart}
use Rattle.machine_core.specs.declared.events.Event.{Event}
use Rattle.machine_core.specs.declared.events.Event.TheVariants.{Called, Opened, Sized, Claimed, Landed, Settled, Cleared, Lost, Checked, Saved, Ended, Left, Stopped}
use Rattle.machine_core.proofs.Steps.{own_here}

behind : {A : Type 0} (y : A) (ys : List A) (x : A) → Contains ys x → Contains (y ∷ ys) x
behind y ys x there = (suc there.0, (let w = there.1 in omega arith), there.2)

-- ---- a claim that was granted stays so

same_where : (t : Bool) (own : List OwnEvent) (o : OwnEvent) (c : Claim) → granted_claims (o ∷ own) ≡ granted_claims own
    → Contains (granted_claims own) c → Contains (granted_claims (cond t (o ∷ own) own)) c
same_where true own o c same there = subst (λ (cs : List Claim). Contains cs c) (sym same) there
same_where false own o c same there = there

more_where : (t : Bool) (own : List OwnEvent) (claim c : Claim) → Contains (granted_claims own) c
    → Contains (granted_claims (cond t (Grants claim ∷ own) own)) c
more_where true own claim c there = behind claim (granted_claims own) c there
more_where false own claim c there = there

halted_there : (t : Bool) (own : List OwnEvent) (c : Claim) → Contains (granted_claims own) c
    → Contains (granted_claims (halted_where t own)) c
halted_there true own c there = there
halted_there false own c there = there

pub stays_granted : (start : RunStart) (past : List Event) (e : Event) (g : Gid) (c : Claim)
    → Contains (granted_claims (own_of start past g)) c → Contains (granted_claims (own_of start (e ∷ past) g)) c
stays_granted start past (Called session asked now) g c there =
    halted_there (halts_by start past (Called session asked now) asked g) (own_of start past g) c there
stays_granted start past (Opened gid verified blocks now) g c there =
    same_where (is_same_gid g gid) (own_of start past g) (Opens verified blocks now) c refl there
stays_granted start past (Sized gid id total) g c there =
    same_where (is_same_gid g gid) (own_of start past g) (Sizes id total) c refl there
stays_granted start past (Claimed gid claim) g c there =
    more_where (is_same_gid g gid) (own_of start past g) claim c there
stays_granted start past (Landed gid id mirror run now) g c there =
    same_where (is_same_gid g gid) (own_of start past g) (Lands id mirror run) c refl there
stays_granted start past (Settled gid piece right giver) g c there =
    same_where (is_same_gid g gid) (own_of start past g) (Settles piece right giver) c refl there
stays_granted start past (Cleared gid piece) g c there =
    same_where (is_same_gid g gid) (own_of start past g) (Clears piece) c refl there
stays_granted start past (Lost gid id mirror piece mark) g c there =
    same_where (is_same_gid g gid) (own_of start past g) (Loses id mirror piece mark) c refl there
stays_granted start past (Checked gid right) g c there =
    same_where (is_same_gid g gid) (own_of start past g) (Checks right) c refl there
stays_granted start past (Saved gid now) g c there =
    same_where (is_same_gid g gid) (own_of start past g) (Saves now) c refl there
stays_granted start past (Ended gid how) g c there =
    same_where (is_same_gid g gid) (own_of start past g) (Halts true) c refl there
stays_granted start past Left g c there = there
stays_granted start past Stopped g c there = there

-- ---- a number above those of all downloads' claims is new

abbrev IsAbove : RunStart → List Event → ℕ → Type 0
IsAbove start past n = (g : Gid) (c : Claim) → Contains (granted_claims (own_of start past g)) c → c.id < n

above_before : (start : RunStart) (past : List Event) (e : Event) (n : ℕ) → IsAbove start (e ∷ past) n
    → IsAbove start past n
above_before start past e n above g c there = above g c (stays_granted start past e g c there)

pub new_above : (start : RunStart) (past : List Event) (n : ℕ) → IsAbove start past n → IsNewNumber past n
new_above start [] n above = All-nil (λ (m : ℕ). m < n)
new_above start (Claimed gid claim ∷ past) n above =
    let own = own_of start past gid in
    let there : Contains (granted_claims (own_of start (Claimed gid claim ∷ past) gid)) claim =
    subst (λ (os : List OwnEvent). Contains (granted_claims os) claim) (sym (own_here gid (Grants claim) own))
    (0, omega arith, refl) in
    All-cons (λ (m : ℕ). m < n) claim.id (filter_map claim_of_event past) (above gid claim there)
    (new_above start past n (above_before start past (Claimed gid claim) n above))
new_above start (Called session asked now ∷ past) n above =
    new_above start past n (above_before start past (Called session asked now) n above)
new_above start (Opened gid verified blocks now ∷ past) n above =
    new_above start past n (above_before start past (Opened gid verified blocks now) n above)
new_above start (Sized gid id total ∷ past) n above =
    new_above start past n (above_before start past (Sized gid id total) n above)
new_above start (Landed gid id mirror run now ∷ past) n above =
    new_above start past n (above_before start past (Landed gid id mirror run now) n above)
new_above start (Settled gid piece right giver ∷ past) n above =
    new_above start past n (above_before start past (Settled gid piece right giver) n above)
new_above start (Cleared gid piece ∷ past) n above =
    new_above start past n (above_before start past (Cleared gid piece) n above)
new_above start (Lost gid id mirror piece mark ∷ past) n above =
    new_above start past n (above_before start past (Lost gid id mirror piece mark) n above)
new_above start (Checked gid right ∷ past) n above =
    new_above start past n (above_before start past (Checked gid right) n above)
new_above start (Saved gid now ∷ past) n above =
    new_above start past n (above_before start past (Saved gid now) n above)
new_above start (Ended gid how ∷ past) n above =
    new_above start past n (above_before start past (Ended gid how) n above)
new_above start (Left ∷ past) n above = new_above start past n (above_before start past Left n above)
new_above start (Stopped ∷ past) n above = new_above start past n (above_before start past Stopped n above)

pub homes_new : (start : RunStart) (past : List Event) (homes : List Gid) → KeepsHomes start past homes
    → IsNewNumber past (length homes)
homes_new start past homes k =
    new_above start past (length homes) (λ g c there. slice_get_within homes c.id g (k.own g c there))
