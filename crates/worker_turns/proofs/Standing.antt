-- What each event of a run leaves of the claims that stand.
use Rattle.std.proofs.Common.{◌≡◌, ◌≢◌, ◌⊎◌, inl, inr, ◌<◌, ◌∷◌, ◌++◌, ℕ, Bool, true, false, cond, List, [], refl, sym, ap, subst, ◌∙◌, ⊎_elim, arith, eq-eqb}
use Rattle.std.specs.Prelude.{◌&&◌, not}
use Rattle.std.specs.List.{list_any}
use Rattle.dl_kinds.specs.declared.claims.Claim.{Claim}
use Rattle.dl_kinds.specs.declared.gid.Gid.{Gid}
use Rattle.piece_table.specs.Changes.{is_in}
use Rattle.dl_history.specs.OwnEvents.{OwnEvent, Opens, Grants, Lands, Settles, Clears, Loses, Sizes, Saves, Checks, Halts}
use Rattle.dl_history.specs.StandingClaims.{ends_claim, granted_claims, grants_claim, is_open_since, is_standing, lands_block, since, standing_claims}
use Rattle.dl_history.proofs.Ends.{standing_after_grant, stood_before_landing, stood_before_loss, stood_before_sizing}
use Rattle.dl_history.proofs.Members.{Has, has_all, has_filter, in_filter}
use Rattle.machine_core.proofs.Legal.{fresh_in}
use Rattle.machine_core.proofs.Parts.{gid_is}
use Rattle.machine_core.specs.OwnParts.{halted_where, halts_by, own_of}
use Rattle.machine_core.specs.Replays.{is_same_gid}
use Rattle.machine_core.specs.RunLegal.{IsNewNumber, makes_claim}
use Rattle.machine_core.specs.Starts.{RunStart}
use Rattle.machine_core.specs.declared.events.Event.{Event}
use Rattle.machine_core.specs.declared.events.Event.TheVariants.{Called, Opened, Sized, Claimed, Landed, Settled, Cleared, Lost, Checked, Saved, Ended, Left, Stopped}
use Rattle.engine_turns.specs.Told.{history_after}

-- ---- one event of a download

abbrev pub is_grant : OwnEvent → Bool
is_grant (Grants claim) = true
is_grant e = false

abbrev pub is_landing : OwnEvent → Bool
is_landing (Lands id mirror run) = true
is_landing e = false

stood_before : (e : OwnEvent) (own : List OwnEvent) (c : Claim) → is_grant e ≡ false → is_standing (e ∷ own) c ≡ true
    → is_standing own c ≡ true
stood_before (Opens verified blocks now) own c none h = h
stood_before (Grants claim) own c none h = absurd cc
stood_before (Lands id mirror run) own c none h = stood_before_landing own id mirror run c h
stood_before (Settles piece right giver) own c none h = h
stood_before (Clears piece) own c none h = h
stood_before (Loses id mirror piece mark) own c none h = stood_before_loss own id mirror piece mark c h
stood_before (Sizes id total) own c none h = stood_before_sizing own id total c h
stood_before (Saves now) own c none h = h
stood_before (Checks right) own c none h = h
stood_before (Halts ends) own c none h = absurd cc

granted_before : (e : OwnEvent) (own : List OwnEvent) (c : Claim) → is_grant e ≡ false
    → Has (granted_claims (e ∷ own)) c → Has (granted_claims own) c
granted_before (Opens verified blocks now) own c none h = h
granted_before (Grants claim) own c none h = absurd cc
granted_before (Lands id mirror run) own c none h = h
granted_before (Settles piece right giver) own c none h = h
granted_before (Clears piece) own c none h = h
granted_before (Loses id mirror piece mark) own c none h = h
granted_before (Sizes id total) own c none h = h
granted_before (Saves now) own c none h = h
granted_before (Checks right) own c none h = h
granted_before (Halts ends) own c none h = h

has_before : (e : OwnEvent) (own : List OwnEvent) (c : Claim) → is_grant e ≡ false
    → Has (standing_claims (e ∷ own)) c → Has (standing_claims own) c
has_before e own c none h =
    let parts = has_filter (is_standing (e ∷ own)) (granted_claims (e ∷ own)) c h in
    in_filter (is_standing own) (granted_claims own) c (granted_before e own c none parts.0)
    (stood_before e own c none parts.1)

open_before : (e : OwnEvent) (own : List OwnEvent) (c : Claim) (b : ℕ) → is_grant e ≡ false → is_landing e ≡ false
    → is_open_since (e ∷ own) c b ≡ is_open_since own c b
open_before (Opens verified blocks now) own c b none dry = refl
open_before (Grants claim) own c b none dry = absurd cc
open_before (Lands id mirror run) own c b none dry = absurd cc
open_before (Settles piece right giver) own c b none dry = refl
open_before (Clears piece) own c b none dry = refl
open_before (Loses id mirror piece mark) own c b none dry = refl
open_before (Sizes id total) own c b none dry = refl
open_before (Saves now) own c b none dry = refl
open_before (Checks right) own c b none dry = refl
open_before (Halts ends) own c b none dry = refl

-- ---- one event of a run

abbrev pub is_landed : Event → Bool
is_landed (Landed gid id mirror run now) = true
is_landed e = false

-- the download's own events are as before, or one more came
abbrev OwnStep : Event → (old new : List OwnEvent) → Type 0
OwnStep e old new =
    (new ≡ old) ⊎ ((x : OwnEvent) × (new ≡ x ∷ old) × (is_grant x ≡ makes_claim e) × (is_landing x ≡ is_landed e))

with_step : (e : Event) (x : OwnEvent) (own : List OwnEvent) (t : Bool) → is_grant x ≡ makes_claim e
    → is_landing x ≡ is_landed e → OwnStep e own (cond t (x ∷ own) own)
with_step e x own true grants lands = inr (x, refl, grants, lands)
with_step e x own false grants lands = inl refl

halted_step : (e : Event) (own : List OwnEvent) (t : Bool) → makes_claim e ≡ false → is_landed e ≡ false
    → OwnStep e own (halted_where t own)
halted_step e own true none dry = inr (Halts false, refl, sym none, sym dry)
halted_step e own false none dry = inl refl

own_step : (start : RunStart) (past : List Event) (g : Gid) (e : Event)
    → OwnStep e (own_of start past g) (own_of start (e ∷ past) g)
own_step start past g (Called session asked now) =
    halted_step (Called session asked now) (own_of start past g)
    (halts_by start past (Called session asked now) asked g) refl refl
own_step start past g (Opened gid verified blocks now) =
    with_step (Opened gid verified blocks now) (Opens verified blocks now) (own_of start past g) (is_same_gid g gid)
    refl refl
own_step start past g (Sized gid id total) =
    with_step (Sized gid id total) (Sizes id total) (own_of start past g) (is_same_gid g gid) refl refl
own_step start past g (Claimed gid claim) =
    with_step (Claimed gid claim) (Grants claim) (own_of start past g) (is_same_gid g gid) refl refl
own_step start past g (Landed gid id mirror run now) =
    with_step (Landed gid id mirror run now) (Lands id mirror run) (own_of start past g) (is_same_gid g gid) refl refl
own_step start past g (Settled gid piece right giver) =
    with_step (Settled gid piece right giver) (Settles piece right giver) (own_of start past g) (is_same_gid g gid)
    refl refl
own_step start past g (Cleared gid piece) =
    with_step (Cleared gid piece) (Clears piece) (own_of start past g) (is_same_gid g gid) refl refl
own_step start past g (Lost gid id mirror piece mark) =
    with_step (Lost gid id mirror piece mark) (Loses id mirror piece mark) (own_of start past g) (is_same_gid g gid)
    refl refl
own_step start past g (Checked gid right) =
    with_step (Checked gid right) (Checks right) (own_of start past g) (is_same_gid g gid) refl refl
own_step start past g (Saved gid now) =
    with_step (Saved gid now) (Saves now) (own_of start past g) (is_same_gid g gid) refl refl
own_step start past g (Ended gid how) =
    with_step (Ended gid how) (Halts true) (own_of start past g) (is_same_gid g gid) refl refl
own_step start past g Left = inl refl
own_step start past g Stopped = inr (Halts false, refl, refl, refl)

-- a claim that stands behind an event that makes none stood before
stood_in : (start : RunStart) (past : List Event) (g : Gid) (e : Event) (c : Claim) → makes_claim e ≡ false
    → Has (standing_claims (own_of start (e ∷ past) g)) c → Has (standing_claims (own_of start past g)) c
stood_in start past g e c none h =
    ⊎_elim (λ same. subst (λ (own : List OwnEvent). Has (standing_claims own) c) same h)
    (λ more. has_before more.0 (own_of start past g) c (more.2 ∙ none)
    (subst (λ (own : List OwnEvent). Has (standing_claims own) c) more.1 h)) (own_step start past g e)

opened_by : (e : Event) (old new : List OwnEvent) (c : Claim) (b : ℕ) → makes_claim e ≡ false → is_landed e ≡ false
    → OwnStep e old new → is_open_since new c b ≡ is_open_since old c b
opened_by e old new c b none dry (inl same) = ap (λ (own : List OwnEvent). is_open_since own c b) same
opened_by e old new c b none dry (inr more) =
    ap (λ (own : List OwnEvent). is_open_since own c b) more.1
    ∙ open_before more.0 old c b (more.2 ∙ none) (more.3 ∙ dry)

-- .. and its open blocks are the same, where none came
opened_in : (start : RunStart) (past : List Event) (g : Gid) (e : Event) (c : Claim) (b : ℕ) → makes_claim e ≡ false
    → is_landed e ≡ false
    → is_open_since (own_of start (e ∷ past) g) c b ≡ is_open_since (own_of start past g) c b
opened_in start past g e c b none dry =
    opened_by e (own_of start past g) (own_of start (e ∷ past) g) c b none dry (own_step start past g e)

-- ---- events of a turn

abbrev pub EachEvent : (Event → Type 0) → List Event → Type 0
EachEvent P [] = Unit {0}
EachEvent P (e ∷ es) = P e × EachEvent P es

abbrev pub Unclaiming : Event → Type 0
Unclaiming e = makes_claim e ≡ false

-- it claims nothing, and no block comes
abbrev pub Plain : Event → Type 0
Plain e = (makes_claim e ≡ false) × (is_landed e ≡ false)

pub each_append : (P : Event → Type 0) (xs ys : List Event) → EachEvent P xs → EachEvent P ys → EachEvent P (xs ++ ys)
each_append P [] ys first then = then
each_append P (x ∷ xs) ys first then = (first.0, each_append P xs ys first.1 then)

pub each_unclaiming : (es : List Event) → EachEvent Plain es → EachEvent Unclaiming es
each_unclaiming [] plain = tt
each_unclaiming (e ∷ es) plain = (plain.0.0, each_unclaiming es plain.1)

pub stood_since : (start : RunStart) (past : List Event) (g : Gid) (c : Claim) (es : List Event) → EachEvent Unclaiming
    es
    → Has (standing_claims (own_of start (history_after past es) g)) c → Has (standing_claims (own_of start past g)) c
stood_since start past g c [] none h = h
stood_since start past g c (e ∷ es) none h = stood_in start past g e c none.0
    (stood_since start (e ∷ past) g c es none.1 h)

pub opened_since : (start : RunStart) (past : List Event) (g : Gid) (c : Claim) (b : ℕ) (es : List Event)
    → EachEvent Plain es
    → is_open_since (own_of start (history_after past es) g) c b ≡ is_open_since (own_of start past g) c b
opened_since start past g c b [] plain = refl
opened_since start past g c b (e ∷ es) plain =
    opened_since start (e ∷ past) g c b es plain.1 ∙ opened_in start past g e c b plain.0.0 plain.0.1

-- ---- claims that stand

abbrev pub NothingStands : RunStart → List Event → Type 0
NothingStands start past = (g : Gid) (c : Claim) → Has (standing_claims (own_of start past g)) c → ⊥

-- no other claim stands, of any download
abbrev pub OnlyStands : RunStart → List Event → Gid → Claim → Type 0
OnlyStands start past gid claim =
    (g : Gid) (c : Claim) → Has (standing_claims (own_of start past g)) c → (g ≡ gid) × (c ≡ claim)

pub nothing_since : (start : RunStart) (past : List Event) (es : List Event) → EachEvent Unclaiming es
    → NothingStands start past → NothingStands start (history_after past es)
nothing_since start past es none nothing = λ g c h. nothing g c (stood_since start past g c es none h)

pub only_since : (start : RunStart) (past : List Event) (gid : Gid) (claim : Claim) (es : List Event)
    → EachEvent Unclaiming es → OnlyStands start past gid claim → OnlyStands start (history_after past es) gid claim
only_since start past gid claim es none only = λ g c h. only g c (stood_since start past g c es none h)

-- ---- a claim is granted

claimed_own : (own : List OwnEvent) (gid g : Gid) (claim c : Claim) (t : Bool) → is_same_gid g gid ≡ t
    → ((x : Claim) → Has (granted_claims own) x → claim.id ≢ x.id) → ((x : Claim) → Has (standing_claims own) x → ⊥)
    → Has (standing_claims (cond t (Grants claim ∷ own) own)) c → (g ≡ gid) × (c ≡ claim)
claimed_own own gid g claim c false is fresh none h = absurd (none c h)
claimed_own own gid g claim c true is fresh none h =
    let parts = has_filter (is_standing (Grants claim ∷ own)) (claim ∷ granted_claims own) c h in
    ⊎_elim (λ same. (sym (gid_is g gid is), sym same))
    (λ older. absurd (none c (in_filter (is_standing own) (granted_claims own) c older
    (sym (standing_after_grant own claim c (fresh c older)) ∙ parts.1)))) parts.0

pub only_claimed : (start : RunStart) (past : List Event) (gid : Gid) (claim : Claim) → IsNewNumber past claim.id
    → NothingStands start past → OnlyStands start (Claimed gid claim ∷ past) gid claim
only_claimed start past gid claim new nothing = λ g c h.
    claimed_own (own_of start past g) gid g claim c (is_same_gid g gid) refl
    (λ x there same. let less : x.id < claim.id = has_all (λ (y : Claim). y.id < claim.id)
    (granted_claims (own_of start past g)) x (fresh_in start past g claim.id new) there in
    omega (arith, less, same))
    (λ x there. nothing g x there) h

open_new : (own : List OwnEvent) (claim : Claim) (b : ℕ) → is_open_since (Grants claim ∷ own) claim b ≡ is_in b
    claim.run
open_new own claim b =
    ap (λ (t : Bool). is_in b claim.run && not (list_any (lands_block b)
    (cond t [] (Grants claim ∷ since (grants_claim claim.id) own)))) (eq-eqb claim.id claim.id refl)
    ∙ as_it_is (is_in b claim.run)
  where
    as_it_is : (t : Bool) → (t && true) ≡ t
    as_it_is true = refl
    as_it_is false = refl

same_itself : (gid : Gid) → is_same_gid gid gid ≡ true
same_itself gid = eq-eqb gid.0 gid.0 refl

pub own_claimed : (start : RunStart) (past : List Event) (gid : Gid) (claim : Claim)
    → own_of start (Claimed gid claim ∷ past) gid ≡ Grants claim ∷ own_of start past gid
own_claimed start past gid claim =
    ap (λ (t : Bool). cond t (Grants claim ∷ own_of start past gid) (own_of start past gid)) (same_itself gid)

pub open_claimed : (start : RunStart) (past : List Event) (gid : Gid) (claim : Claim) (b : ℕ)
    → is_open_since (own_of start (Claimed gid claim ∷ past) gid) claim b ≡ is_in b claim.run
open_claimed start past gid claim b =
    ap (λ (own : List OwnEvent). is_open_since own claim b) (own_claimed start past gid claim)
    ∙ open_new (own_of start past gid) claim b

-- ---- a claim ends

pub own_lost : (start : RunStart) (past : List Event) (gid : Gid) (e : Event) (x : OwnEvent)
    → own_of start (e ∷ past) gid ≡ cond (is_same_gid gid gid) (x ∷ own_of start past gid) (own_of start past gid)
    → own_of start (e ∷ past) gid ≡ x ∷ own_of start past gid
own_lost start past gid e x is =
    is ∙ ap (λ (t : Bool). cond t (x ∷ own_of start past gid) (own_of start past gid)) (same_itself gid)

-- an event that ends the claim
ends_standing : (own : List OwnEvent) (x : OwnEvent) (c : Claim) → is_grant x ≡ false → ends_claim c.id x ≡ true
    → Has (standing_claims (x ∷ own)) c → ⊥
ends_standing own (Opens verified blocks now) c none ends h = absurd cc
ends_standing own (Grants claim) c none ends h = absurd cc
ends_standing own (Lands id mirror run) c none ends h = absurd cc
ends_standing own (Settles piece right giver) c none ends h = absurd cc
ends_standing own (Clears piece) c none ends h = absurd cc
ends_standing own (Loses id mirror piece mark) c none ends h =
    let parts = has_filter (is_standing (Loses id mirror piece mark ∷ own)) (granted_claims own) c h in
    let now = rw ends at parts.1 in absurd cc
ends_standing own (Sizes id total) c none ends h =
    let parts = has_filter (is_standing (Sizes id total ∷ own)) (granted_claims own) c h in
    let now = rw ends at parts.1 in absurd cc
ends_standing own (Saves now) c none ends h = absurd cc
ends_standing own (Checks right) c none ends h = absurd cc
ends_standing own (Halts by) c none ends h =
    let parts = has_filter (is_standing (Halts by ∷ own)) (granted_claims own) c h in absurd cc

-- no claim stands behind an event that ends the only one
pub nothing_behind : (start : RunStart) (past : List Event) (gid : Gid) (claim : Claim) (e : Event) (x : OwnEvent)
    → OnlyStands start past gid claim → makes_claim e ≡ false → is_grant x ≡ false
    → own_of start (e ∷ past) gid ≡ x ∷ own_of start past gid → ends_claim claim.id x ≡ true
    → NothingStands start (e ∷ past)
nothing_behind start past gid claim e x only none grants own ends = λ g c h.
    let is = only g c (stood_in start past g e c none h) in
    ends_standing (own_of start past gid) x claim grants ends
    (subst (λ (d : Claim). Has (standing_claims (x ∷ own_of start past gid)) d) is.1
    (subst (λ (o : List OwnEvent). Has (standing_claims o) c) own
    (subst (λ (o : Gid). Has (standing_claims (own_of start (e ∷ past) o)) c) is.0 h)))
