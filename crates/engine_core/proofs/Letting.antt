-- Answers that let nothing go: no piece is handed out, and no bytes are let through.
use Rattle.std.proofs.Common.{◌≡◌, ℕ, Bool, true, false, None, List, [], length, refl, sym, ap, ◌∙◌, subst}
use Rattle.std.specs.Prelude.{◌&&◌, All}
use Rattle.std.proofs.lemmas.List.Elements.{All-nil}
use Rattle.machine_core.specs.Reads.{is_finished_in}
use Rattle.machine_core.specs.Starts.{RunStart}
use Rattle.machine_core.specs.declared.events.Event.{Event}
use Rattle.machine_core.specs.declared.handed.Handed.{Handed}
use Rattle.engine_turns.specs.Levels.{spent_by}
use Rattle.engine_turns.specs.RunTurns.{answer_to, is_nearly_full}
use Rattle.engine_turns.specs.Told.{handed_by}
use Rattle.engine_turns.specs.declared.operations.Operation.{Operation}
use Rattle.engine_turns.specs.declared.operations.Said.{Said}
use Rattle.engine_turns.specs.declared.operations.Said.TheVariants.{Allow, Done, Finished, Grant, Hold, Idle, JournalFull, Kept, NoMemory, Notices, Replied, Void}
use Rattle.engine_core.specs.Beginning.{IsBrokenOff}

-- a piece is handed out, or bytes are let through
abbrev pub lets_go : Said → Bool
lets_go (Grant grant) = true
lets_go (Allow bytes) = true
lets_go said = false

pub nothing_handed : (said : Said) → lets_go said ≡ false → handed_by said ≡ []
nothing_handed (Grant grant) none = absurd cc
nothing_handed (Allow bytes) none = absurd cc
nothing_handed (Replied place reply starved) none = refl
nothing_handed (Kept counted repeated) none = refl
nothing_handed Void none = refl
nothing_handed (Hold ms) none = refl
nothing_handed Idle none = refl
nothing_handed Done none = refl
nothing_handed Finished none = refl
nothing_handed (JournalFull count) none = refl
nothing_handed (Notices list upto) none = refl
nothing_handed NoMemory none = refl

pub nothing_spent : (start : RunStart) (past : List Event) (op : Operation) (said : Said) → lets_go said ≡ false
    → spent_by start past op said ≡ None
nothing_spent start past op (Grant grant) none = absurd cc
nothing_spent start past op (Allow bytes) none = absurd cc
nothing_spent start past op (Replied place reply starved) none = refl
nothing_spent start past op (Kept counted repeated) none = refl
nothing_spent start past op Void none = refl
nothing_spent start past op (Hold ms) none = refl
nothing_spent start past op Idle none = refl
nothing_spent start past op Done none = refl
nothing_spent start past op Finished none = refl
nothing_spent start past op (JournalFull count) none = refl
nothing_spent start past op (Notices list upto) none = refl
nothing_spent start past op NoMemory none = refl

-- what holds of Finished, JournalFull and NoMemory holds of what is answered before an operation
pub front_none : (f : Said → Bool) → f Finished ≡ false → ((count : ℕ) → f (JournalFull count) ≡ false)
    → f NoMemory ≡ false → (asks needs : Bool) (start : RunStart) (past : List Event) (said : Said)
    → IsBrokenOff (answer_to asks needs start past) said → f said ≡ false
front_none f finished full memory asks needs start past said is =
    by (asks && is_finished_in start past) (needs && is_nearly_full past) refl refl
  where
    by : (a b : Bool) → (asks && is_finished_in start past) ≡ a → (needs && is_nearly_full past) ≡ b → f said ≡ false
    by true b at_end nearly = let said_is = (rw at_end at is) in ap f said_is ∙ finished
    by false true at_end nearly = let said_is = (rw nearly at (rw at_end at is)) in ap f said_is ∙ full (length past)
    by false false at_end nearly = let said_is = (rw nearly at (rw at_end at is)) in ap f said_is ∙ memory

-- it lets nothing go
pub front_lets_none : (asks needs : Bool) (start : RunStart) (past : List Event) (said : Said)
    → IsBrokenOff (answer_to asks needs start past) said → lets_go said ≡ false
front_lets_none = front_none lets_go refl (λ count. refl) refl

-- .. and what it hands out, of which there is nothing, meets any condition
pub none_out : (P : Handed → Type 0) (said : Said) → lets_go said ≡ false → All P (handed_by said)
none_out P said none = subst (All P) (sym (nothing_handed said none)) (All-nil P)
