-- Calls of methods, and what came of them.
use Rattle.std.specs.Prelude.{◌≡◌, ℕ, List, ◌++◌, All, map, false, Option, Some, None, Result, Ok, Err}
use Rattle.serde_json.specs.Data.{Data}
use Rattle.serde_json.specs.Written.{has_float}
use Rattle.rpc_envelope.specs.declared.fault.RpcFault.{RpcFault}

-- a method, and the list of its parameters, which is none where they are an object
pub record Invocation : Type 0 where
  pub method : List ℕ
  pub params : Option (List Data)

-- a value, or why the call was refused
pub data OutcomeData : Type 0 where
  given : Data → OutcomeData
  failed : RpcFault → OutcomeData

-- what came of a call; none where memory ran out
abbrev pub Invoked : Type 0
Invoked = Invocation × Option OutcomeData

abbrev pub invocations_in : List Invoked → List Invocation
invocations_in turns = map (λ turn. turn.0) turns

abbrev pub outcomes_in : List Invoked → List (Option OutcomeData)
outcomes_in turns = map (λ turn. turn.1) turns

-- the value has no float
abbrev pub IsPlain : OutcomeData → Type 0
IsPlain (given data_) = has_float data_ ≡ false
IsPlain (failed fault) = Unit {0}

-- memory sufficed for the call
abbrev pub CamePlain : Option OutcomeData → Type 0
CamePlain None = ⊥
CamePlain (Some came) = IsPlain came

abbrev pub BeginsWith : {A : Type 0} → List A → List A → Type 0
BeginsWith {A} whole front = (rest : List A) × (whole ≡ front ++ rest)

-- what holds since a caller and a desk were these, by the calls that were carried out since
abbrev pub Since : Type 0 → Type 0 → Type 1
Since S T = S → T → List Invoked → Type 0

-- whatever held before, since any caller and desk, holds with these turns behind
abbrev pub Extends : {S T : Type 0} → Since S T → Since S T → List Invoked → Type 0
Extends {S} {T} before after mine =
    (caller : S) (desk : T) (earlier : List Invoked) → before caller desk earlier → after caller desk (earlier ++ mine)

-- just these calls were carried out, in order, memory sufficed for each, and P holds of what came of them
pub record Walks {S T : Type 0} (before after : Since S T) (calls : List Invocation)
    (P : List (Option OutcomeData) → Type 0) : Type 0 where
  pub mine : List Invoked
  pub extends : Extends before after mine
  pub asked : invocations_in mine ≡ calls
  pub came : All CamePlain (outcomes_in mine)
  pub holds : P (outcomes_in mine)

-- just the first ones of these calls were carried out, in order
pub record StopsShort {S T : Type 0} (before after : Since S T) (calls : List Invocation) : Type 0 where
  pub mine : List Invoked
  pub extends : Extends before after mine
  pub front : BeginsWith calls (invocations_in mine)

-- the one, or the other for want of memory
abbrev pub Walked : {S T V E : Type 0} → Since S T → Since S T → List Invocation → Result V E
    → (V → List (Option OutcomeData) → Type 0) → Type 0
Walked before after calls (Ok value) P = Walks before after calls (P value)
Walked before after calls (Err error) P = StopsShort before after calls
