use Rattle.std.specs.Prelude.{slice_set}
use Rattle.std.proofs.lemmas.List.{get_or_read}
use Rattle.std.proofs.Common.{◌≡◌, max, get_or, sym, ◌∙◌, ◌+◌, ℕ, ap, subst, map, take, arith, Vec, Global}
use Rattle.file_choice.specs.Sweeps.{AreReaches}
use Rattle.file_choice.proofs.Members.{is_member, max_is, reaches_next, reaches_past, reaches_all}
use Rattle.file_choice.proofs.selection.reaches.Goals as goal
use Rattle.file_choice.proofs.selection.reaches.Goals.{then-first-files, else-first-files}

pub loop-member-preserved-in_default : goal.loop-member-preserved-in_default
loop-member-preserved-in_default c =
    let m = is_member c.deref-member-items.result.now c.args.text.now c.loop-member.member-index _ c.loop-member-test.true
    (ap (map (λ m. m.now)) c.deref-member-items.ensures.value ∙ c.in_ok-members.ensures) c.requires.text in
    absurd (c.in_default.ensures m.0 m.1 m.2)

pub loop-member-preserved : goal.loop-member-preserved
loop-member-preserved c =
    elim c.if-first-files.branch [
      | then-first-files w ↦
          let h = reaches_next c.deref-member-items.result.now c.loop-member.member-index c.args.files _ c.loop-member.reach.items
          c.in-Some.range.first c.in-Some.range.last c.loop-member-test.true c.loop-member.invariant c.in-Some.ensures w.if-first-files.true in
          let was : w.index.result.now ≡ get_or c.loop-member.reach.items c.in-Some.range.first 0 =
          get_or_read c.loop-member.reach.items c.in-Some.range.first w.index.result.now (omega (arith, c.loop-member.invariant.long, w.if-first-files.true)) w.index.ensures 0 in
          let is : max (get_or c.loop-member.reach.items c.in-Some.range.first 0) c.in-Some.range.last ≡ w.max.result =
          ap (λ n. max n c.in-Some.range.last) (sym was) ∙ sym (w.max.ensures ∙ max_is w.index.result.now c.in-Some.range.last) in
          subst (λ (v : Vec ℕ Global). AreReaches (map (λ m. m.now) (take (c.loop-member.member-index + 1) c.deref-member-items.result.now)) c.args.files v.items)
          (sym w.reach-is)
          (subst (λ n. AreReaches (map (λ m. m.now) (take (c.loop-member.member-index + 1) c.deref-member-items.result.now)) c.args.files (slice_set c.loop-member.reach.items c.in-Some.range.first n)) is h)
      | else-first-files w ↦
          subst (λ (v : Vec ℕ Global). AreReaches (map (λ m. m.now) (take (c.loop-member.member-index + 1) c.deref-member-items.result.now)) c.args.files v.items)
          (sym w.reach-is)
          (reaches_past c.deref-member-items.result.now c.loop-member.member-index c.args.files _ c.loop-member.reach.items
          c.in-Some.range.first c.in-Some.range.last c.loop-member-test.true c.loop-member.invariant c.in-Some.ensures w.if-first-files.false)
    ]

pub returns : goal.returns
returns c =
    reaches_all c.deref-member-items.result.now c.args.text.now c.loop-member.member-index c.args.files c.loop-member.reach.items
    c.loop-member-test.false (ap (map (λ m. m.now)) c.deref-member-items.ensures.value ∙ c.in_ok-members.ensures) c.loop-member.invariant
