-- Ends and queues in histories, and the events of turns.
use Rattle.std.proofs.Common.{◌≡◌, ◌⊎◌, inl, inr, ⊎_elim, Bool, true, false, List, [], ◌∷◌, ◌++◌, refl, sym, ap, ◌∙◌, subst, arith}
use Rattle.std.specs.Prelude.{Contains, reverse}
use Rattle.std.specs.List.{list_any}
use Rattle.std.proofs.lemmas.List.{reverse-reverse}
use Rattle.std.proofs.lemmas.List.Elements.{Contains-append_right}
use Rattle.blameless_mirrors.proofs.Marks.{first_or}
use Rattle.served_runs.specs.Ends.{HasNoCall}
use Rattle.served_runs.proofs.Endings.{in_reverse}
use Rattle.served_runs.proofs.Finishing.{no_call_behind}
use Rattle.dl_kinds.specs.declared.gid.Gid.{Gid}
use Rattle.engine_turns.specs.Told.{RunTurn, history_of}
use Rattle.engine_turns.specs.TurnLaws.{TurnsAppend}
use Rattle.machine_core.specs.Replays.{queue_in}
use Rattle.machine_core.specs.RunLegal.{is_stop}
use Rattle.machine_core.specs.Starts.{RunStart}
use Rattle.machine_core.specs.declared.ends.End.{End}
use Rattle.machine_core.specs.declared.events.Event.{Event}
use Rattle.machine_core.specs.declared.events.Event.TheVariants as event
use Rattle.turn_desk.specs.Turns.{events_of}

-- ---- ends

-- an end among events, or none
abbrev pub HasEnd : List Event → Type 0
HasEnd events = (gid : Gid) × (how : End) × Contains events (event.Ended gid how)

abbrev pub HasNoEnd : List Event → Type 0
HasNoEnd events = (gid : Gid) (how : End) → ¬ Contains events (event.Ended gid how)

abbrev is_end : Event → Bool
is_end (event.Ended gid how) = true
is_end e = false

pub end_or_none : (events : List Event) → HasEnd events ⊎ HasNoEnd events
end_or_none [] = inr (λ gid how there. absurd (let within = there.1 in omega (arith, within)))
end_or_none (e ∷ events) = by e refl (end_or_none events)
  where
    later : HasEnd events → HasEnd (e ∷ events)
    later has = (has.0, has.1, Contains-append_right (e ∷ []) events (event.Ended has.0 has.1) has.2)

    not_here : is_end e ≡ false → HasNoEnd events → HasNoEnd (e ∷ events)
    not_here not_it none gid how there = ⊎_elim
        (λ (same : e ≡ event.Ended gid how).
        let never : false ≡ true = sym not_it ∙ ap is_end same in absurd cc)
        (λ (within : Contains events (event.Ended gid how)). none gid how within)
        (first_or e (event.Ended gid how) events there)

    by : (x : Event) → e ≡ x → HasEnd events ⊎ HasNoEnd events → HasEnd (e ∷ events) ⊎ HasNoEnd (e ∷ events)
    by (event.Ended gid how) is rest = inl (gid, how, (0, omega arith, is))
    by x is (inl has) = inl (later has)
    by x is (inr none) = inr (not_here (ap is_end is) none)

-- where no call comes and no download ends, the queue stays
pub queue_stays : (start : RunStart) (base newer : List Event) → HasNoCall newer → HasNoEnd newer
    → queue_in start (newer ++ base) ≡ queue_in start base
queue_stays start base [] none endless = refl
queue_stays start base (event.Called session asked now ∷ newer) none endless =
    absurd (none session asked now (0, omega arith, refl))
queue_stays start base (event.Ended g how ∷ newer) none endless = absurd (endless g how (0, omega arith, refl))
queue_stays start base (e ∷ newer) none endless =
    queue_stays start base newer (no_call_behind e newer none)
    (λ gid how there. endless gid how (Contains-append_right (e ∷ []) newer (event.Ended gid how) there))

-- ---- events of turns

-- the history of turns holds what they brought
turned : TurnsAppend → (ts : List RunTurn) → history_of (reverse ts) ≡ reverse (events_of ts)
turned append ts = sym (reverse-reverse (history_of (reverse ts))) ∙ ap reverse (append ts)

pub brought_there : TurnsAppend → (ts : List RunTurn) (e : Event) → Contains (history_of (reverse ts)) e
    → Contains (events_of ts) e
brought_there append ts e there =
    subst (λ (es : List Event). Contains es e) (append ts) (in_reverse (history_of (reverse ts)) e there)

pub there_brought : TurnsAppend → (ts : List RunTurn) (e : Event) → Contains (events_of ts) e
    → Contains (history_of (reverse ts)) e
there_brought append ts e there =
    subst (λ (es : List Event). Contains es e) (sym (turned append ts)) (in_reverse (events_of ts) e there)

pub no_stop : (events : List Event) → ¬ Contains events event.Stopped → list_any is_stop events ≡ false
no_stop [] none = refl
no_stop (event.Stopped ∷ events) none = absurd (none (0, omega arith, refl))
no_stop (e ∷ events) none = no_stop events (λ there. none (Contains-append_right (e ∷ []) events event.Stopped there))
