use Rattle.std.proofs.Common.{◌≡◌, ◌≤◌, ℕ, length, refl, sym, ap, ◌∙◌, subst, inl, inr}
use Rattle.std.specs.Prelude.{◌⊎◌, vec_len, vec_capacity, ◌-◌}
use Rattle.dl_kinds.specs.Plan.{pieces_of}
use Rattle.segment_claim.specs.Book.{ClaimBook}
use Rattle.segment_claim.specs.Kept.{room_of}
use Rattle.segment_claim.specs.Rules.{Rules}
use Rattle.segment_claim.specs.Situation.{loads_of}
use Rattle.dl_kinds.specs.declared.claims.TheConstants.{MAX_MIRRORS}
use Rattle.segment_claim.proofs.Standing.{closed_same, full_where_room, full_where_some}
use Rattle.segment_claim.proofs.claims.Claims.scene.Goals as goal
use Rattle.segment_claim.proofs.claims.Claims.scene.Goals.{After-way_told-1}

-- each piece has a number
full : (c : goal.After-way_told-1)
    → length c.self.inside.closed.items ≡ pieces_of c.self.inside.plan.total c.self.inside.plan.piece_len
full c =
    let inside = c.self.inside in
    let room : ℕ = vec_capacity inside.standing - vec_len inside.standing in
    let made : (1 ≤ room_of inside.plan.pieces (vec_len inside.closed) room) ⊎ (1 ≤ length inside.standing.items) =
    subst (λ (b : ClaimBook). (1 ≤ b.spare) ⊎ (1 ≤ length b.standing)) (sym c.self.view_is) c.requires.made in
    elim made [
      | inl spare ↦ full_where_room _ _ inside.next inside.plan.pieces room inside.standing.items inside.closed.items
          c.self.invariant inside.plan.pieces_are
          (subst (λ (n : ℕ). 1 ≤ room_of inside.plan.pieces n room) inside.closed.ok.0 spare)
      | inr some ↦ full_where_some _ _ inside.next inside.standing.items inside.closed.items c.self.invariant some
    ]

pub invariant_of-result : goal.invariant_of-result
invariant_of-result c =
    let inside = c.self.inside in
    let kept = c.self.invariant in
    let fit = c.requires.fit in
    let total : c.args.table.now.total ≡ inside.plan.total =
    fit.total ∙ ap (λ (b : ClaimBook). b.total) (sym c.self.view_is) in
    let piece_len : c.args.table.now.piece_len ≡ inside.plan.piece_len =
    fit.piece_len ∙ ap (λ (b : ClaimBook). b.piece_len) (sym c.self.view_is) in
    let hosts : length c.limits.inside.hosts.now ≡ c.args.marks.now.mirrors =
    ap (λ (r : Rules). length r.hosts) c.limits.view_is ∙ fit.hosts in
    let wanted : length c.limits.inside.wanted.now ≡ pieces_of inside.plan.total inside.plan.piece_len =
    ap (λ (r : Rules). length r.wanted) c.limits.view_is ∙ fit.wanted
    ∙ ap (λ (b : ClaimBook). pieces_of b.total b.piece_len) (sym c.self.view_is) in
    let valid = c.blocks-landed.ensures.valid in
    rw (
      c.as_slice-standing.ensures.value,
      c.as_slice-closed.ensures.value,
      c.blocks-landed.ensures.row,
      c.sole-sole.ensures.row,
    ) (record {
      sound = record {
        plan = kept.plan;
        within = kept.within;
        newer = kept.newer;
        few = kept.few;
        landed = valid.start.blocks ∙ rw (total, piece_len) refl;
        sole = valid.sole ∙ rw (total, piece_len) refl;
        wanted = wanted;
        closed = full c;
        mirrors = subst (λ (r : Rules). length r.hosts ≤ MAX_MIRRORS) (sym c.limits.view_is) fit.few;
        split = subst (λ (r : Rules). 1 ≤ r.split) (sym c.limits.view_is) fit.some;
      };
      marks = sym hosts;
      room = c.host_loads-loads.ensures.room;
      loads_are = c.host_loads-loads.ensures.loads
          ∙ ap (loads_of c.limits.inside.hosts.now) c.as_slice-standing.ensures.value;
    })

pub returns : goal.returns
returns c =
    let same = closed_same c.self.inside.plan.pieces c.self.inside.closed.items
    (full c ∙ sym c.self.inside.plan.pieces_are) in
    rw (
      ← c.self.view_is,
      ← c.limits.view_is,
      same,
      c.as_slice-standing.ensures.value,
      c.as_slice-closed.ensures.value,
      c.blocks-landed.ensures.row,
      c.sole-sole.ensures.row,
    ) refl
