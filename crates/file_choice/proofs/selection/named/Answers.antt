use Rattle.std.proofs.Common.{◌≡◌, ◌∙◌, ◌+◌, ◌-◌, ◌<◌, Bool, List, [], ◌∷◌, ◌++◌, Some, ap, sym, subst, arith, length, get_or, map, max, nat_le}
use Rattle.std.specs.List.{range_with_len}
use Rattle.std.proofs.lemmas.List.{get_or_read}
use Rattle.std.proofs.lemmas.List.FromFn.{map-range_with_len_more}
use Rattle.option_set.specs.Files.{file_members}
use Rattle.file_choice.specs.Selected.{is_named_file}
use Rattle.file_choice.specs.Sweeps.{IsFarthest}
use Rattle.file_choice.proofs.Members.{farthest_more, max_is, named_by_reach}
use Rattle.file_choice.proofs.selection.named.Goals as goal

pub loop-number-preserved : goal.loop-number-preserved
loop-number-preserved c =
    let reach = c.in_ok-reach.reach.items in
    let number = c.loop-number.number in
    let range = c.loop-number.auto in
    let test = c.loop-number-test.true in
    let within : number < length reach = omega (arith, c.in_ok-reach.ensures.long) in
    let read : c.index.result.now ≡ get_or reach number 0 = get_or_read reach number c.index.result.now within c.index.ensures 0 in
    let far_is : c.max-far.result ≡ max c.loop-number.far (get_or reach number 0) =
    c.max-far.ensures ∙ (max_is c.loop-number.far c.index.result.now ∙ ap (max c.loop-number.far) read) in
    let far : IsFarthest reach (number + 1) c.max-far.result =
    subst (λ n. IsFarthest reach (number + 1) n) (sym far_is) (farthest_more reach number c.loop-number.far c.loop-number.invariant.far) in
    let flag : is_named_file (Some c.args.text.now) number ≡ nat_le number c.max-far.result =
    named_by_reach (file_members c.args.text.now) c.args.files reach number c.max-far.result c.in_ok-reach.ensures far (omega arith) (omega arith) in
    let more = map-range_with_len_more (is_named_file (Some c.args.text.now)) 1 (number - 1) number (omega arith) in
    record {
      far = far;
      named =
          c.in_ok-push.ensures.items
          ∙ (ap (λ (flags : List Bool). flags ++ nat_le number c.max-far.result ∷ []) c.loop-number.invariant.named
          ∙ (ap (λ (b : Bool). map (is_named_file (Some c.args.text.now)) (range_with_len 1 (number - 1)) ++ b ∷ []) (sym flag)
          ∙ (sym more
          ∙ ap (λ n. map (is_named_file (Some c.args.text.now)) (range_with_len 1 n)) (let e : number - 1 + 1 ≡ number + 1 - 1 = omega arith in e))));
    }
