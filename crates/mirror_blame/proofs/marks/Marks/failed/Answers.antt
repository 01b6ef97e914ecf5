use Rattle.std.proofs.Common.{◌≡◌, ℕ, ◌<◌, ◌≤◌, ◌∷◌, ◌∙◌, length, sym, subst, arith}
use Rattle.std.specs.Prelude.{filter, reverse, ◌==◌, if◌then◌else◌}
use Rattle.mirror_blame.specs.Book.{MarkBook}
use Rattle.mirror_blame.specs.Marks.{IsEligible}
use Rattle.mirror_blame.specs.Places.{stands_at}
use Rattle.mirror_blame.proofs.KeptLemmas.{kept_more, total_fits, room_ready}
use Rattle.mirror_blame.proofs.marks.Marks.failed.Goals as goal

pub overflow_add-index_mut : goal.overflow_add-index_mut
overflow_add-index_mut c =
    let known : c.args.mirror < c.self.inside.mirrors = subst (λ (b : MarkBook). c.args.mirror < b.mirrors) (sym c.self.view_is) c.requires.mirror in
    let ready = room_ready c.self.inside.mirrors _ _ _ (subst (λ (b : MarkBook). 1 ≤ b.spare) (sym c.self.view_is) c.requires.room) in
    let within : c.args.mirror < length c.self.inside.totals.items = omega (arith, known, ready, c.self.inside.totals.ok.0) in
    omega (arith, total_fits c.self.inside.mirrors c.self.inside.max_tries c.self.inside.log.items c.self.inside.order.items c.self.inside.totals.items c.args.mirror c.index_mut.result.now c.self.invariant within c.index_mut.ensures.value)

pub invariant_of-self : goal.invariant_of-self
invariant_of-self c =
    let known : c.args.mirror < c.self.inside.mirrors = subst (λ (b : MarkBook). c.args.mirror < b.mirrors) (sym c.self.view_is) c.requires.mirror in
    let ready = room_ready c.self.inside.mirrors _ _ _ (subst (λ (b : MarkBook). 1 ≤ b.spare) (sym c.self.view_is) c.requires.room) in
    let left : IsEligible c.self.inside.max_tries (reverse c.self.inside.log.items) c.args.mirror c.args.piece =
    subst (λ (b : MarkBook). IsEligible b.max_tries b.marks c.args.mirror c.args.piece) (sym c.self.view_is) c.requires.eligible in
    let at : c.len-at.result ≡ length c.self.inside.log.items = c.len-at.ensures ∙ c.self.inside.log.ok.0 in
    let each = subst (λ (n : ℕ). (piece : ℕ) → filter (stands_at piece) c.put.new.places.items ≡ (if c.args.piece == piece then record { piece = c.args.piece; mirror = c.args.mirror; at = n } ∷ filter (stands_at piece) c.self.inside.order.items else filter (stands_at piece) c.self.inside.order.items)) at c.put.ensures.each in
    rw c.push_reserved.ensures.items (kept_more c.self.inside.mirrors c.self.inside.max_tries c.self.inside.log.items c.self.inside.order.items c.put.new.places.items c.self.inside.totals.items
    (record { mirror = c.args.mirror; piece = c.args.piece; mark = c.args.mark }) c.index_mut.result.now c.self.invariant known c.requires.piece left (omega (arith, ready, c.self.inside.totals.ok.0)) c.put.ensures.sorted each c.index_mut.ensures.value)
