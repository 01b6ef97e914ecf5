-- The pieces that workers compare, from one turn to the next.
use Rattle.std.proofs.Common.{◌≡◌, ℕ, ◌+◌, ◌-◌, ◌<◌, suc, Bool, true, false, Some, List, [], ◌∷◌, ◌++◌, drop, take, length, get_or, refl, sym, ap, ◌∙◌, arith}
use Rattle.std.specs.Prelude.{◌&&◌, ◌||◌, filter, not, slice_get}
use Rattle.std.specs.List.{list_any}
use Rattle.std.proofs.Math.Seq.{take-suc}
use Rattle.std.proofs.lemmas.List.{get_or-drop, length-drop}
use Rattle.std.proofs.lemmas.List.Elements.{filter_agree}
use Rattle.std.proofs.lemmas.List.Folds.{list_any-append}
use Rattle.std.proofs.lemmas.Option.{get_or_from_slice_get}
use Rattle.dl_kinds.specs.declared.gid.Gid.{Gid}
use Rattle.machine_core.specs.declared.events.Event.{Event}
use Rattle.machine_core.specs.declared.events.Event.TheVariants.{Called, Opened, Sized, Claimed, Landed, Settled, Cleared, Lost, Checked, Saved, Ended, Left, Stopped}
use Rattle.machine_core.specs.declared.handed.Handed.{Handed}
use Rattle.engine_turns.specs.Told.{settles_handed}
use Rattle.piece_table.specs.declared.giver.Giver.{Giver}
use Rattle.engine_core.specs.Handing.{settle_none}

-- ---- filters

pub filter_all : (p : Handed → Bool) (hs : List Handed) → ((h : Handed) → p h ≡ true) → filter p hs ≡ hs
filter_all p [] all = refl
filter_all p (h ∷ hs) all = let is = all h in rw is (ap (λ (rest : List Handed). h ∷ rest) (filter_all p hs all))

pub filter_twice : (p q : Handed → Bool) (hs : List Handed) → filter p (filter q hs) ≡ filter (λ h. p h && q h) hs
filter_twice p q [] = refl
filter_twice p q (h ∷ hs) = by (p h) (q h) refl refl (filter_twice p q hs)
  where
    by : (a b : Bool) → p h ≡ a → q h ≡ b → filter p (filter q hs) ≡ filter (λ h. p h && q h) hs
        → filter p (filter q (h ∷ hs)) ≡ filter (λ h. p h && q h) (h ∷ hs)
    by true true is is_q rest = rw is_q (rw is (ap (λ (hs : List Handed). h ∷ hs) rest))
    by true false is is_q rest = rw is_q (rw is rest)
    by false true is is_q rest = rw is_q (rw is rest)
    by false false is is_q rest = rw is_q (rw is rest)

-- ---- one event

pub of_event : (e : Event) (hs new : List Handed) → filter (λ h. not (settles_handed h e)) hs ≡ new
    → filter (settle_none (e ∷ [])) hs ≡ new
of_event e hs new is =
    filter_agree (settle_none (e ∷ [])) (λ h. not (settles_handed h e)) (λ h. one (settles_handed h e)) hs ∙ is
  where
    one : (b : Bool) → not (b || false) ≡ not b
    one true = refl
    one false = refl

both_ways : (x y : Bool) → not (x || y) ≡ (not y && not x)
both_ways true true = refl
both_ways true false = refl
both_ways false true = refl
both_ways false false = refl

-- more events
pub settle_more : (events more : List Event) (hs : List Handed)
    → filter (settle_none more) (filter (settle_none events) hs) ≡ filter (settle_none (events ++ more)) hs
settle_more events more hs =
    filter_twice (settle_none more) (settle_none events) hs
    ∙ filter_agree (λ h. settle_none more h && settle_none events h) (settle_none (events ++ more))
    (λ h. sym (ap not (list_any-append (settles_handed h) events more)
    ∙ both_ways (list_any (settles_handed h) events) (list_any (settles_handed h) more))) hs

-- one event further on
pub next_event : (events : List Event) (from n at : ℕ) (e : Event) → from + n ≡ at → at < length events
    → slice_get events at ≡ Some e → take (suc n) (drop from events) ≡ take n (drop from events) ++ e ∷ []
next_event events from n at e sum within there =
    let here : get_or (drop from events) n e ≡ e =
    get_or-drop from events n e ∙ (ap (λ (i : ℕ). get_or events i e) sum ∙ get_or_from_slice_get events at e e there) in
    take-suc (drop from events) n e (let len = length-drop from events in omega arith)
    ∙ ap (λ (x : Event). take n (drop from events) ++ x ∷ []) here

-- an event that settles nothing
pub other_event : (e : Event) (hs : List Handed) → ((h : Handed) → settles_handed h e ≡ false)
    → filter (settle_none (e ∷ [])) hs ≡ hs
other_event e hs none = of_event e hs hs (filter_all (λ h. not (settles_handed h e)) hs (λ h. ap not (none h)))

pub take_none : (n : ℕ) (events : List Event) → take (n - n) events ≡ []
take_none n events = let zero_is : n - n ≡ 0 = omega arith in ap (λ (i : ℕ). take i events) zero_is

-- an event that is no finding settles nothing
pub unsettling : (e : Event)
    → ((gid : Gid) (piece : ℕ) (right : Bool) (giver : Giver) → e ≡ Settled gid piece right giver → ⊥) → (h : Handed)
    → settles_handed h e ≡ false
unsettling (Called session asked now) none h = refl
unsettling (Opened gid verified blocks now) none h = refl
unsettling (Sized gid id total) none h = refl
unsettling (Claimed gid claim) none h = refl
unsettling (Landed gid id mirror run now) none h = refl
unsettling (Settled gid piece right giver) none h = absurd (none gid piece right giver refl)
unsettling (Cleared gid piece) none h = refl
unsettling (Lost gid id mirror piece mark) none h = refl
unsettling (Checked gid right) none h = refl
unsettling (Saved gid now) none h = refl
unsettling (Ended gid how) none h = refl
unsettling Left none h = refl
unsettling Stopped none h = refl
