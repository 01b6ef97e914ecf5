-- What a machine's look-ups tell, and what a step needs of them.
use Rattle.std.proofs.Common.{◌≡◌, ◌≢◌, ℕ, Option, Some, None, ◌<◌, List, length, get_or, slice_get, refl, sym, ap, ◌∙◌, subst, arith}
use Rattle.std.specs.Prelude.{Contains, IfNone, IfSome, IsSome}
use Rattle.std.proofs.lemmas.List.Elements.{All-contains}
use Rattle.std.proofs.lemmas.Option.{slice_get_read, slice_get_within}
use Rattle.dl_kinds.specs.declared.claims.Claim.{Claim}
use Rattle.dl_kinds.specs.declared.gid.Gid.{Gid}
use Rattle.dl_kinds.specs.declared.marks.Mark.{Mark}
use Rattle.dl_kinds.specs.declared.runs.Moment.{Moment}
use Rattle.dl_kinds.specs.declared.runs.Run.{Run}
use Rattle.dl_queue.specs.Calls.{adding_place}
use Rattle.dl_history.specs.OwnEvents.{Lands, Loses, Sizes}
use Rattle.machine_core.specs.MachineParts.{KeepsRun, MachineState}
use Rattle.machine_core.specs.MachineViews.{IsLandingOf, IsLossOfClaim, IsNext, IsPlaceOf, IsSizingBy, MachineView, StandsNowhere, StandsUnder, place_in, standing_in}
use Rattle.machine_core.specs.Replays.{replay_of}
use Rattle.machine_core.specs.RunLegal.{IsLaterThan, MayFollow, MayOwn, download_in}
use Rattle.machine_core.specs.Starts.{Download}
use Rattle.machine_core.specs.declared.entries.Entry.{Entry}
use Rattle.machine_core.specs.declared.events.Event.{Event}
use Rattle.machine_core.specs.declared.events.Event.TheVariants.{Landed, Lost, Sized}
use Rattle.machine_core.proofs.Homes.{place_first, place_found, place_none}
use Rattle.machine_core.proofs.Steps.{IsAt}

abbrev pub view_of : List Event → MachineState → ℕ → List ℕ → MachineView
view_of past s spare marks = record { start = s.start; past = past; spare = spare; mark_spares = marks }

-- ---- places

pub told_found : (past : List Event) (s : MachineState) (spare : ℕ) (marks : List ℕ) (gid : Gid) (o : Option ℕ)
    → KeepsRun past s → o ≡ adding_place s.queue.added gid → IfSome o (IsPlaceOf (view_of past s spare marks) gid)
told_found past s spare marks gid None k is = tt
told_found past s spare marks gid (Some n) k is =
    let f = place_found gid (replay_of s.start past).downloads s.queue.added n
    (ap (λ q. q.added) k.queue.queue_is ∙ k.queue.added) (sym is) in
    record { download = f.0; added = f.1; gid_is = f.2 }

pub told_first : (past : List Event) (s : MachineState) (spare : ℕ) (marks : List ℕ) (gid : Gid) (o : Option ℕ)
    → KeepsRun past s → o ≡ adding_place s.queue.added gid
    → IfSome o (λ n. n ≡ place_in (view_of past s spare marks).start (view_of past s spare marks).past gid)
told_first past s spare marks gid None k is = tt
told_first past s spare marks gid (Some n) k is =
    place_first gid (replay_of s.start past).downloads s.queue.added n
    (ap (λ q. q.added) k.queue.queue_is ∙ k.queue.added) (sym is)

pub told_none : (past : List Event) (s : MachineState) (gid : Gid) (o : Option ℕ)
    → KeepsRun past s → o ≡ adding_place s.queue.added gid → IfNone o (download_in s.start past gid ≡ None)
told_none past s gid None k is =
    place_none gid (replay_of s.start past).downloads s.queue.added
    (ap (λ q. q.added) k.queue.queue_is ∙ k.queue.added) (sym is)
told_none past s gid (Some n) k is = tt

-- a download that was added has a place
pub placed : (o : Option ℕ) (m : MachineView) (gid : Gid) (d : Download) → IfNone o (download_in m.start m.past gid ≡ None)
    → download_in m.start m.past gid ≡ Some d → IsSome o
placed None m gid d none added = absurd (let n = none in cc)
placed (Some n) m gid d none added = refl

-- the entry at a place
pub entry_at : (past : List Event) (s : MachineState) (gid : Gid) (at : ℕ) (x : Entry) (m : MachineView)
    → m.start ≡ s.start → m.past ≡ past → KeepsRun past s → (p : IsPlaceOf m gid at) → x ≡ get_or s.entries at x
    → IsAt s.start past s.entries gid at p.download x
entry_at past s gid at x m start_is past_is k p is =
    let added : slice_get (replay_of s.start past).downloads at ≡ Some p.download =
    rw (← start_is, ← past_is) p.added in
    let w = slice_get_within (replay_of s.start past).downloads at p.download added in
    let many = k.downloads.many in
    record {
      added = added;
      there = slice_get_read s.entries (length s.entries) at x refl (omega arith) is;
      gid_is = p.gid_is;
    }

pub place_within : (past : List Event) (s : MachineState) (gid : Gid) (at : ℕ) (m : MachineView)
    → m.start ≡ s.start → m.past ≡ past → KeepsRun past s → IsPlaceOf m gid at → at < length s.entries
place_within past s gid at m start_is past_is k p =
    let added : slice_get (replay_of s.start past).downloads at ≡ Some p.download =
    rw (← start_is, ← past_is) p.added in
    let w = slice_get_within (replay_of s.start past).downloads at p.download added in
    let many = k.downloads.many in
    omega arith

-- ---- claims

-- a claim stands under the number
pub record Stands (m : MachineView) (id : ℕ) : Type 0 where
  pub gid : Gid
  pub claim : Claim
  pub there : Contains (standing_in m gid) claim
  pub id_is : claim.id ≡ id

pub stands_somewhere : {A : Type 0} (o : Option A) (m : MachineView) (id : ℕ) → IfNone o (StandsNowhere m id) → Stands m id
    → IsSome o
stands_somewhere None m id none s =
    absurd (All-contains (λ (c : Claim). c.id ≢ id) (standing_in m s.gid) s.claim (none s.gid) s.there s.id_is)
stands_somewhere (Some x) m id none s = refl

pub landing_stands : (m : MachineView) (id : ℕ) (run : Run) (now : Moment) → IsNext m (IsLandingOf id run now)
    → Stands m id
landing_stands m id run now (e, is, may) =
    let own : MayOwn m.start m.past is.0 (Lands id is.1 run) × IsLaterThan m.past now =
    subst (λ (x : Event). MayFollow m.start m.past x) is.2 may in
    record { gid = is.0; claim = own.0.may.claim; there = own.0.may.stands; id_is = own.0.may.id_is }

-- the event is that of the claim that was found
pub landing_is : (m : MachineView) (id : ℕ) (run : Run) (now : Moment) (gid : Gid) (claim : Claim)
    → IsNext m (IsLandingOf id run now) → StandsUnder m id gid claim
    → MayFollow m.start m.past (Landed gid id claim.mirror run now)
landing_is m id run now gid claim (e, is, may) stands =
    let first : MayFollow m.start m.past (Landed is.0 id is.1 run now) =
    subst (λ (x : Event). MayFollow m.start m.past x) is.2 may in
    let own : MayOwn m.start m.past is.0 (Lands id is.1 run) × IsLaterThan m.past now = first in
    let one = stands.one is.0 own.0.may.claim own.0.may.stands own.0.may.id_is in
    let mirror : is.1 ≡ claim.mirror = sym own.0.may.mirror_is ∙ ap (λ (c : Claim). c.mirror) one.1 in
    subst (λ (g : Gid). MayFollow m.start m.past (Landed g id claim.mirror run now)) one.0
    (subst (λ (n : ℕ). MayFollow m.start m.past (Landed is.0 id n run now)) mirror first)

pub sizing_stands : (m : MachineView) (id total : ℕ) → IsNext m (IsSizingBy id total) → Stands m id
sizing_stands m id total (e, is, may) =
    let own : MayOwn m.start m.past is.0 (Sizes id total) =
    subst (λ (x : Event). MayFollow m.start m.past x) is.1 may in
    record { gid = is.0; claim = own.may.claim; there = own.may.stands; id_is = own.may.id_is }

pub sizing_is : (m : MachineView) (id total : ℕ) (gid : Gid) (claim : Claim)
    → IsNext m (IsSizingBy id total) → StandsUnder m id gid claim → MayFollow m.start m.past (Sized gid id total)
sizing_is m id total gid claim (e, is, may) stands =
    let own : MayOwn m.start m.past is.0 (Sizes id total) =
    subst (λ (x : Event). MayFollow m.start m.past x) is.1 may in
    let one = stands.one is.0 own.may.claim own.may.stands own.may.id_is in
    subst (λ (g : Gid). MayOwn m.start m.past g (Sizes id total)) one.0 own

-- its download has a place
pub landing_placed : (m : MachineView) (gid : Gid) (id mirror : ℕ) (run : Run) (now : Moment) (o : Option ℕ)
    → MayFollow m.start m.past (Landed gid id mirror run now) → IfNone o (download_in m.start m.past gid ≡ None)
    → IsSome o
landing_placed m gid id mirror run now o may none =
    let own : MayOwn m.start m.past gid (Lands id mirror run) × IsLaterThan m.past now = may in
    placed o m gid own.0.download none own.0.added

pub sizing_placed : (m : MachineView) (gid : Gid) (id total : ℕ) (o : Option ℕ)
    → MayFollow m.start m.past (Sized gid id total) → IfNone o (download_in m.start m.past gid ≡ None) → IsSome o
sizing_placed m gid id total o may none =
    let own : MayOwn m.start m.past gid (Sizes id total) = may in placed o m gid own.download none own.added

-- ---- losses

pub losing_stands : (m : MachineView) (id : ℕ) (mark : Mark) → IsNext m (IsLossOfClaim id mark) → Stands m id
losing_stands m id mark (e, is, may) =
    let own : MayOwn m.start m.past is.0 (Loses id is.1 is.2 mark) =
    subst (λ (x : Event). MayFollow m.start m.past x) is.3 may in
    record { gid = is.0; claim = own.may.claim; there = own.may.stands; id_is = own.may.id_is }

pub record Losing (m : MachineView) (id : ℕ) (gid : Gid) (mirror : ℕ) (mark : Mark) : Type 0 where
  pub piece : ℕ
  pub may : MayFollow m.start m.past (Lost gid id mirror piece mark)

pub losing_is : (m : MachineView) (id : ℕ) (mark : Mark) (gid : Gid) (claim : Claim)
    → IsNext m (IsLossOfClaim id mark) → StandsUnder m id gid claim → Losing m id gid claim.mirror mark
losing_is m id mark gid claim (e, is, may) stands =
    let first : MayFollow m.start m.past (Lost is.0 id is.1 is.2 mark) =
    subst (λ (x : Event). MayFollow m.start m.past x) is.3 may in
    let own : MayOwn m.start m.past is.0 (Loses id is.1 is.2 mark) = first in
    let one = stands.one is.0 own.may.claim own.may.stands own.may.id_is in
    let mirror : is.1 ≡ claim.mirror = sym own.may.mirror_is ∙ ap (λ (c : Claim). c.mirror) one.1 in
    record {
      piece = is.2;
      may = subst (λ (g : Gid). MayFollow m.start m.past (Lost g id claim.mirror is.2 mark)) one.0
          (subst (λ (n : ℕ). MayFollow m.start m.past (Lost is.0 id n is.2 mark)) mirror first);
    }

pub losing_placed : (m : MachineView) (gid : Gid) (id mirror piece : ℕ) (mark : Mark) (o : Option ℕ)
    → MayFollow m.start m.past (Lost gid id mirror piece mark) → IfNone o (download_in m.start m.past gid ≡ None)
    → IsSome o
losing_placed m gid id mirror piece mark o may none =
    let own : MayOwn m.start m.past gid (Loses id mirror piece mark) = may in
    placed o m gid own.download none own.added
