use Rattle.std.proofs.Common.{◌≡◌, [], ◌∷◌, ◌++◌, sym, ap, ◌∙◌, subst, append_assoc}
use Rattle.serde_json.proofs.Views.{Entry}
use Rattle.serde_json.specs.View.{view, members_view}
use Rattle.std.specs.Prelude.{string_bytes}
use Rattle.rpc_console.specs.Options.{AreSettings, Sets, RefusesOption, RefusesSettings}
use Rattle.rpc_console.proofs.OptionLemmas.{settings_more, refused_at, refused_as}
use Rattle.rpc_console.proofs.options.settings_in.Goals as goal
use Rattle.option_set.specs.declared.settings.Settings.{Settings}

pub returns-in-Err-clause-refused : goal.returns-in-Err-clause-refused
returns-in-Err-clause-refused c =
    let call = c.args.call in
    let e : Entry = (c.in-Some.name.now, c.in-Some.value.now) in
    let left = c.next.new.self in
    let before = c.loop-name.invariant in
    let all : c.args.members.now.entries ≡ before.0 ++ e ∷ left = before.1 ∙ ap (λ es. before.0 ++ es) c.in-Some.ensures.steps in
    rw all (refused_as Settings c.in-Err.error (RefusesOption call c.as_str.result.now (view c.in-Some.value.now))
    (RefusesSettings call (members_view (before.0 ++ e ∷ left)))
    (λ fault refuses. refused_at call before.0 e left c.loop-name.settings fault before.2
    (subst (λ name. RefusesOption call name (view c.in-Some.value.now) fault) c.as_str.ensures.value refuses))
    c.in-Err.ensures.refused)

pub loop-name-preserved : goal.loop-name-preserved
loop-name-preserved c =
    let call = c.args.call in
    let e : Entry = (c.in-Some.name.now, c.in-Some.value.now) in
    let left = c.next.new.self in
    let before = c.loop-name.invariant in
    let all : c.args.members.now.entries ≡ before.0 ++ e ∷ left = before.1 ∙ ap (λ es. before.0 ++ es) c.in-Some.ensures.steps in
    let next = c.in-Ok.ensures.ok in
    let sets : Sets call (string_bytes e.0) (view e.1) next.0 =
    subst (λ name. Sets call name (view c.in-Some.value.now) next.0) c.as_str.ensures.value next.1 in (
      before.0 ++ e ∷ [],
      all ∙ sym (append_assoc before.0 (e ∷ []) left),
      subst (AreSettings call (members_view (before.0 ++ e ∷ []))) (sym next.2) (settings_more call before.0 e c.loop-name.settings next.0 before.2 sets),
    )
