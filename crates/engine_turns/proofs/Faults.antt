-- What the counts of a disk's faults follow by the events that tell them.
use Rattle.std.proofs.Common.{◌≡◌, ◌≤◌, ◌<◌, ⊎_elim, ℕ, zero, suc, List, [], ◌∷◌, ◌++◌, Option, None, Some, refl, ap, ◌∙◌, subst, arith}
use Rattle.std.specs.Prelude.{Contains, IfSome}
use Rattle.std.specs.Option.{unwrap_or}
use Rattle.std.proofs.lemmas.Bool.{cases_lt}
use Rattle.std.proofs.lemmas.Option.{same_Some}
use Rattle.dl_kinds.specs.declared.gid.Gid.{Gid}
use Rattle.machine_core.specs.RunLegal.{disk_fault_of}
use Rattle.machine_core.specs.declared.ends.End.TheVariants as end
use Rattle.machine_core.specs.declared.events.Event.{Event}
use Rattle.machine_core.specs.declared.events.Event.TheVariants.{Called, Opened, Sized, Claimed, Landed, Settled, Cleared, Lost, Checked, Saved, Ended, Left, Stopped}
use Rattle.engine_turns.specs.Faults.{CountsFaults, CountsNeverFall, RisesAreTold, RisesTo, TellsFault, count_behind}

-- ---- one event

-- an event with a count is the end of a download by a fault
fault_is : (e : Event) (count : ℕ) → disk_fault_of e ≡ Some count → (gid : Gid) × (e ≡ Ended gid (end.Disk count))
fault_is (Ended gid (end.Disk n)) count is = (gid, ap (λ (m : ℕ). Ended gid (end.Disk m)) (same_Some n count is))
fault_is (Ended gid end.Complete) count is = absurd (let s = is in cc)
fault_is (Ended gid (end.Dead piece mark)) count is = absurd (let s = is in cc)
fault_is (Ended gid (end.Exists length)) count is = absurd (let s = is in cc)
fault_is (Ended gid (end.PieceLength have want)) count is = absurd (let s = is in cc)
fault_is (Ended gid (end.Length have want)) count is = absurd (let s = is in cc)
fault_is (Ended gid end.InfoHash) count is = absurd (let s = is in cc)
fault_is (Ended gid (end.Unreadable at)) count is = absurd (let s = is in cc)
fault_is (Ended gid (end.TooLarge total)) count is = absurd (let s = is in cc)
fault_is (Ended gid end.Checksum) count is = absurd (let s = is in cc)
fault_is (Ended gid (end.SameFile other)) count is = absurd (let s = is in cc)
fault_is (Ended gid (end.SameHash other)) count is = absurd (let s = is in cc)
fault_is (Called session call now) count is = absurd (let s = is in cc)
fault_is (Opened gid verified blocks now) count is = absurd (let s = is in cc)
fault_is (Sized gid id total) count is = absurd (let s = is in cc)
fault_is (Claimed gid claim) count is = absurd (let s = is in cc)
fault_is (Landed gid id mirror run now) count is = absurd (let s = is in cc)
fault_is (Settled gid piece right giver) count is = absurd (let s = is in cc)
fault_is (Cleared gid piece) count is = absurd (let s = is in cc)
fault_is (Lost gid id mirror piece mark) count is = absurd (let s = is in cc)
fault_is (Checked gid right) count is = absurd (let s = is in cc)
fault_is (Saved gid now) count is = absurd (let s = is in cc)
fault_is Left count is = absurd (let s = is in cc)
fault_is Stopped count is = absurd (let s = is in cc)

-- an event that tells no fault leaves the count
pub counts_still : (e : Event) (f f' : ℕ) → disk_fault_of e ≡ None → f' ≡ f → CountsFaults f (e ∷ []) f'
counts_still e f f' none same = rw none (tt, same)

-- an event that tells one tells the count behind it
pub counts_risen : (e : Event) (count f f' : ℕ) → disk_fault_of e ≡ Some count → RisesTo f count → f' ≡ count
    → CountsFaults f (e ∷ []) f'
counts_risen e count f f' is rises same = rw is (rises, same)

-- ---- several events

-- those of one part, and then those of another
pub counts_on : (f f' f'' : ℕ) (xs ys : List Event) → CountsFaults f xs f' → CountsFaults f' ys f''
    → CountsFaults f (xs ++ ys) f''
counts_on f f' f'' [] ys front back = subst (λ (n : ℕ). CountsFaults n ys f'') front back
counts_on f f' f'' (e ∷ xs) ys front back = (front.0, counts_on (count_behind f e) f' f'' xs ys front.1 back)

later_on : (events : List Event) (f f' : ℕ) (o : Option ℕ) → ((n : ℕ) → CountsFaults n events f' → n ≤ f')
    → IfSome o (RisesTo f) → CountsFaults (unwrap_or o f) events f' → f ≤ f'
later_on events f f' None then rises rest = then f rest
later_on events f f' (Some count) then rises rest = omega (arith, rises.later, then count rest)

pub counts_later : (f f' : ℕ) (events : List Event) → CountsFaults f events f' → f ≤ f'
counts_later f f' [] is = omega (arith, is)
counts_later f f' (e ∷ events) is =
    later_on events f f' (disk_fault_of e) (λ n rest. counts_later n f' events rest) is.0 is.1

pub counts_within : (f f' : ℕ) (events : List Event) → CountsFaults f events f' → (gid : Gid) (count : ℕ)
    → Contains events (Ended gid (end.Disk count)) → count ≤ f'
counts_within f f' [] is gid count there = absurd (let within = there.1 in omega arith)
counts_within f f' (e ∷ events) is gid count (zero, within, same) =
    counts_later count f' events (subst (λ (x : Event). CountsFaults (count_behind f x) events f') same is.1)
counts_within f f' (e ∷ events) is gid count (suc k, within, same) =
    counts_within (count_behind f e) f' events is.1 gid count (k, omega (arith, within), same)

-- ---- a rise

told_behind : (e : Event) (events : List Event) (count : ℕ) → TellsFault events count → TellsFault (e ∷ events) count
told_behind e events count told =
    let within = told.ended.1 in
    record { gid = told.gid; ended = (suc told.ended.0, omega (arith, within), told.ended.2) }

told_first : (e : Event) (events : List Event) (count f' : ℕ) → disk_fault_of e ≡ Some count → count ≡ f'
    → TellsFault (e ∷ events) f'
told_first e events count f' is same =
    let fault = fault_is e count is in
    record { gid = fault.0; ended = (0, omega arith, fault.1 ∙ ap (λ (n : ℕ). Ended fault.0 (end.Disk n)) same) }

rise_told : (e : Event) (events : List Event) (f f' : ℕ) (o : Option ℕ) → disk_fault_of e ≡ o
    → ((n : ℕ) → CountsFaults n events f' → n < f' → TellsFault events f')
    → CountsFaults (unwrap_or o f) events f' → f < f' → TellsFault (e ∷ events) f'
rise_told e events f f' None is then rest less = told_behind e events f' (then f rest less)
rise_told e events f f' (Some count) is then rest less = ⊎_elim
    (λ (more : count < f'). told_behind e events f' (then count rest more))
    (λ (most : f' ≤ count). told_first e events count f' is (omega (arith, most, counts_later count f' events rest)))
    (cases_lt count f')

pub rises_are_told : RisesAreTold
rises_are_told f f' [] is less = absurd (omega (arith, is, less))
rises_are_told f f' (e ∷ events) is less =
    rise_told e events f f' (disk_fault_of e) refl (λ n rest more. rises_are_told n f' events rest more) is.1 less

pub counts_never_fall : CountsNeverFall
counts_never_fall f f' events is = record {
  later = counts_later f f' events is;
  within = λ count told. counts_within f f' events is told.gid count told.ended;
}
