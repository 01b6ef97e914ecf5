-- Options of an object, one after the other.
use Rattle.std.proofs.Common.{◌≡◌, inl, inr, List, [], ◌∷◌, ◌++◌, true, false, Result, Ok, Err, refl, ap, sym, subst, ◌∙◌}
use Rattle.std.proofs.lemmas.Bool.{and_parts}
use Rattle.std.proofs.lemmas.List.Elements.{All-nil, All-cons}
use Rattle.std.specs.Prelude.{All, ◌&&◌, is_some, string_bytes}
use Rattle.option_set.specs.Assignments.{option_of}
use Rattle.option_set.specs.declared.setting.Assigned.{Assigned}
use Rattle.rpc_console.specs.Options.{IfRefused, takes_option, are_texts, Sets, RefusesOption, AreSettings, RefusesSettings}
use Rattle.rpc_console.specs.declared.errors.RpcErr.{RpcErr}
use Rattle.rpc_console.specs.declared.errors.RpcErr.TheVariants.{Refused, NoMemory}
use Rattle.rpc_console.specs.declared.options.OptionUse.{OptionUse}
use Rattle.rpc_envelope.specs.declared.fault.RpcFault.{RpcFault}
use Rattle.serde_json.proofs.Views.{Entry}
use Rattle.serde_json.specs.Data.{Members, no_members, member}
use Rattle.serde_json.specs.Find.{as_str}
use Rattle.serde_json.specs.View.{view, members_view}

pub settings_more : (call : OptionUse) (done : List Entry) (e : Entry) (settings : List Assigned) (next : Assigned)
    → AreSettings call (members_view done) settings → Sets call (string_bytes e.0) (view e.1) next
    → AreSettings call (members_view (done ++ e ∷ [])) (settings ++ next ∷ [])
settings_more call [] e settings next are sets = (next, [], ap (λ front. front ++ next ∷ []) are, sets, refl)
settings_more call (d ∷ done) e settings next (first, others, is, one, rest) sets =
    (first, others ++ next ∷ [], ap (λ front. front ++ next ∷ []) is, one, settings_more call done e others next rest sets)

pub refused_at : (call : OptionUse) (done : List Entry) (e : Entry) (left : List Entry) (settings : List Assigned) (fault : RpcFault)
    → AreSettings call (members_view done) settings → RefusesOption call (string_bytes e.0) (view e.1) fault
    → RefusesSettings call (members_view (done ++ e ∷ left)) fault
refused_at call [] e left settings fault are refuses = inl refuses
refused_at call (d ∷ done) e left settings fault (first, others, is, one, rest) refuses =
    inr (first, one, refused_at call done e left others fault rest refuses)

texts_front : (done : List Entry) (e : Entry) (left : List Entry) → are_texts (members_view done) ≡ true
    → are_texts (members_view (done ++ e ∷ left)) ≡ (is_some (as_str (view e.1)) && are_texts (members_view left))
texts_front [] e left all = refl
texts_front (d ∷ done) e left all =
    let parts = and_parts (is_some (as_str (view d.1))) (are_texts (members_view done)) all in
    ap (λ first. first && are_texts (members_view (done ++ e ∷ left))) parts.0 ∙ texts_front done e left parts.1

pub texts_more : (done : List Entry) (e : Entry) → are_texts (members_view done) ≡ true → is_some (as_str (view e.1)) ≡ true
    → are_texts (members_view (done ++ e ∷ [])) ≡ true
texts_more done e all text = texts_front done e [] all ∙ ap (λ first. first && true) text

pub texts_broken : (done : List Entry) (e : Entry) (left : List Entry) → are_texts (members_view done) ≡ true → is_some (as_str (view e.1)) ≡ false
    → are_texts (members_view (done ++ e ∷ left)) ≡ false
texts_broken done e left all none = texts_front done e left all ∙ ap (λ first. first && are_texts (members_view left)) none

-- the same fault has the consequence
pub refused_as : (T : Type 0) (error : RpcErr) (P Q : RpcFault → Type 0) → ((fault : RpcFault) → P fault → Q fault)
    → IfRefused {T = T} (Err error) P → IfRefused {T = T} (Err error) Q
refused_as T (Refused fault) P Q step holds = step fault holds
refused_as T NoMemory P Q step holds = tt

pub refused_by : (T : Type 0) (answer : Result T RpcErr) (P Q : RpcFault → Type 0) → ((fault : RpcFault) → P fault → Q fault)
    → IfRefused answer P → IfRefused answer Q
refused_by T (Ok value) P Q step holds = tt
refused_by T (Err error) P Q step holds = refused_as T error P Q step holds

-- a call takes each option that it sets
pub all_taken : (call : OptionUse) (members : Members) (settings : List Assigned) → AreSettings call members settings
    → All (λ setting. takes_option call (option_of setting) ≡ true) settings
all_taken call no_members settings are = subst (All (λ setting. takes_option call (option_of setting) ≡ true)) (sym are) (All-nil _)
all_taken call (member name d members) settings (first, others, is, sets, rest) =
    subst (All (λ setting. takes_option call (option_of setting) ≡ true)) (sym is)
    (All-cons (λ setting. takes_option call (option_of setting) ≡ true) first others sets.2.1 (all_taken call members others rest))
