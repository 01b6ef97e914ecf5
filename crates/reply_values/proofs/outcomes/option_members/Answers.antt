use Rattle.std.proofs.Common.{◌≡◌, ◌∙◌, ◌<◌, ◌≤◌, ℕ, List, ap, get_or, length, map, sym, subst, take, arith}
use Rattle.std.proofs.lemmas.List.{take_all}
use Rattle.serde_json.specs.Data.{no_members, put, string}
use Rattle.reply_values.proofs.Placing.{put_more}
use Rattle.reply_values.specs.Members.{put_all}
use Rattle.reply_values.specs.Outcomes.{named_text}
use Rattle.reply_values.proofs.outcomes.option_members.Goals as goal

pub loop-name-preserved : goal.loop-name-preserved
loop-name-preserved c =
    let pairs = c.args.pairs.now in
    let i = c.loop-name.name-index in
    let pair = c.loop-name-item.result in
    let same = c.as_slice-name-items.ensures in
    let within = subst (λ (all : List (List ℕ × List ℕ)). i < length all) same c.loop-name-test.true in
    let at : pair ≡ get_or pairs i pair = subst (λ (all : List (List ℕ × List ℕ)). pair ≡ get_or all i pair) same c.loop-name-item.is in
    c.in_ok-put_text.ensures
    ∙ ((λ k. put (c.as_str.ensures k) (string (c.as_str-in-loop-name.ensures k)) (c.loop-name.invariant k))
    ∙ (ap (λ (p : List ℕ × List ℕ). put p.0 (string p.1) (put_all (map named_text (take i pairs)) no_members)) at
    ∙ sym (put_more named_text pairs i pair no_members within)))

pub returns : goal.returns
returns c =
    let pairs = c.args.pairs.now in
    let i = c.loop-name.name-index in
    let whole = take_all i pairs (subst (λ (all : List (List ℕ × List ℕ)). length all ≤ i) c.as_slice-name-items.ensures (omega (arith, c.loop-name-test.false))) in
    c.loop-name.invariant ∙ ap (λ (some : List (List ℕ × List ℕ)). put_all (map named_text some) no_members) whole
