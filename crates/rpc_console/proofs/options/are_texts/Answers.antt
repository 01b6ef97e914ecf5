use Rattle.std.proofs.Common.{◌≡◌, [], ◌∷◌, ◌++◌, true, false, sym, ap, ◌∙◌, append_assoc}
use Rattle.std.specs.Prelude.{is_some}
use Rattle.serde_json.proofs.Views.{Entry}
use Rattle.serde_json.specs.Find.{as_str}
use Rattle.serde_json.specs.View.{view}
use Rattle.rpc_console.proofs.OptionLemmas.{texts_more, texts_broken}
use Rattle.rpc_console.proofs.options.are_texts.Goals as goal

pub returns-then-not-is_string : goal.returns-then-not-is_string
returns-then-not-is_string c =
    let e : Entry = (c.in-Some.field-0-0.now, c.in-Some.value.now) in
    let left = c.next.new.self in
    let before = c.loop-value.invariant in
    let all : c.args.members.now.entries ≡ before.0 ++ e ∷ left = before.1 ∙ ap (λ es. before.0 ++ es) c.in-Some.ensures.steps in
    let none : is_some (as_str (view e.1)) ≡ false = sym c.is_string.ensures ∙ c.if-not-is_string.true in
    rw all (sym (texts_broken before.0 e left before.2 none))

pub loop-value-preserved : goal.loop-value-preserved
loop-value-preserved c =
    let e : Entry = (c.in-Some.field-0-0.now, c.in-Some.value.now) in
    let left = c.next.new.self in
    let before = c.loop-value.invariant in
    let all : c.args.members.now.entries ≡ before.0 ++ e ∷ left = before.1 ∙ ap (λ es. before.0 ++ es) c.in-Some.ensures.steps in
    let some : is_some (as_str (view e.1)) ≡ true = sym c.is_string.ensures ∙ c.if-not-is_string.false in (
      before.0 ++ e ∷ [],
      all ∙ sym (append_assoc before.0 (e ∷ []) left),
      texts_more before.0 e before.2 some,
    )
