use Rattle.std.proofs.Common.{rules, arith, ◌≡◌, ◌<◌, length, Vec, Global, [], ◌∷◌, ◌++◌, ◌+◌, leb, ltb, leb-true, ltb-false, ap, subst, sym, ◌∙◌, append-nil, List, take}
use Rattle.std.specs.List.{All, sum_by}
use Rattle.std.specs.Option.{option_to_list}
use Rattle.std.proofs.lemmas.List.Sorted.{IsPartitionPoint-from_clause, IsPartitionedBy-leb, IsPartitionedBy-ltb}
use Rattle.span_map.specs.Slices.{IsPart, parts_from, slice_of}
use Rattle.span_map.specs.declared.files.Part.{Part}
use Rattle.span_map.proofs.Starts.{rising, none_in_front, all_of_slice, slice_more, AreStarts-same}
use Rattle.span_map.proofs.Windows.{slice_parts, slice_len}
use Rattle.span_map.proofs.layout.Layout.parts.Goals as goal
use Rattle.span_map.proofs.layout.Layout.parts.Goals.{in-Some+in_ok-push, in_default}

pub loop-number-init : goal.loop-number-init
loop-number-init c =
    let starts = c.as_slice-starts.result.now in
    let are = AreStarts-same c.self.inside.files.items c.args.self.now c.self.inside.starts.items starts c.self.invariant.starts c.self.view_is c.as_slice-starts.ensures.value in
    let point = IsPartitionPoint-from_clause (λ start. leb start c.args.at) starts c.partition_point.result c.partition_point.ensures.partitioned (IsPartitionedBy-leb (λ x. x) starts c.args.at (rising c.args.self.now starts are)) (λ a r q k. search rules) in
    c.new-parts.ensures.items
    ∙ sym (none_in_front c.args.self.now starts c.args.at (c.args.at + c.args.len) c.partition_point.result are c.partition_point.ensures.bound (λ k below. leb-true _ _ (point.0 k 0 (omega arith) below)))
    ∙ ap (λ n. parts_from 0 0 (take n c.args.self.now) c.args.at (c.args.at + c.args.len)) (sym c.saturating_sub-first.ensures)

pub loop-number-preserved : goal.loop-number-preserved
loop-number-preserved c =
    let starts = c.as_slice-starts.result.now in
    let are = AreStarts-same c.self.inside.files.items c.args.self.now c.self.inside.starts.items starts c.self.invariant.starts c.self.view_is c.as_slice-starts.ensures.value in
    let within : c.loop-number.number < length c.args.self.now = omega (arith, are.long, c.loop-number-test.true, c.partition_point-until.ensures.bound) in
    let more = slice_more c.args.self.now c.as_slice-files.result.now starts c.args.at (c.args.at + c.args.len) c.loop-number.number c.index-files-number.result (option_to_list c.shared-part.result) are within
    (c.as_slice-files.ensures.value ∙ c.self.view_is) c.shared-part.ensures in
    elim c.match-part.branch [
      | in-Some+in_ok-push w ↦
          ap (λ (v : Vec Part Global). v.items) w.parts-is ∙ w.in_ok-push.ensures.items ∙ ap (λ l. l ++ w.in-Some.part ∷ []) c.loop-number.invariant
          ∙ ap (λ o. parts_from 0 0 (take c.loop-number.number c.args.self.now) c.args.at (c.args.at + c.args.len) ++ option_to_list o) (sym w.in-Some.is) ∙ more
      | in_default w ↦
          ap (λ (v : Vec Part Global). v.items) w.parts-is ∙ c.loop-number.invariant
          ∙ sym (append-nil (parts_from 0 0 (take c.loop-number.number c.args.self.now) c.args.at (c.args.at + c.args.len)))
          ∙ ap (λ o. parts_from 0 0 (take c.loop-number.number c.args.self.now) c.args.at (c.args.at + c.args.len) ++ option_to_list o) (sym w.in_default.is) ∙ more
    ]

whole : (c : goal.After-loop-number) → c.loop-number.parts.items ≡ slice_of c.args.self.now c.args.at c.args.len
whole c =
    let starts = c.as_slice-starts.result.now in
    let are = AreStarts-same c.self.inside.files.items c.args.self.now c.self.inside.starts.items starts c.self.invariant.starts c.self.view_is c.as_slice-starts.ensures.value in
    let point = IsPartitionPoint-from_clause (λ start. ltb start (c.args.at + c.args.len)) starts c.partition_point-until.result c.partition_point-until.ensures.partitioned (IsPartitionedBy-ltb (λ x. x) starts (c.args.at + c.args.len) (rising c.args.self.now starts are)) (λ a r q k. search rules) in
    c.loop-number.invariant
    ∙ all_of_slice c.args.self.now starts c.args.at c.args.len c.partition_point-until.result c.loop-number.number are c.loop-number-test.false (λ k past below. ltb-false _ _ (point.1 k 0 past below))

pub returns-clause-parts : goal.returns-clause-parts
returns-clause-parts c = whole c

pub returns-clause-each : goal.returns-clause-each
returns-clause-each c = subst (λ (parts : List Part). All (IsPart c.args.self.now) parts) (sym (whole c)) (slice_parts c.args.self.now c.args.at c.args.len)

pub returns-clause-len : goal.returns-clause-len
returns-clause-len c = ap (λ (parts : List Part). sum_by (λ part. part.len) parts) (whole c) ∙ slice_len c.args.self.now c.args.at c.args.len c.requires
