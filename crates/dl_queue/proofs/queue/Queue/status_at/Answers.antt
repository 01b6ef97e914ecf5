use Rattle.std.proofs.Common.{◌≡◌, ◌∙◌, ◌-◌, ◌+◌, ◌<◌, ◌≤◌, ℕ, zero, suc, List, [], ◌∷◌, Some, None, Option, get_or, length, map, refl, sym, ap, arith}
use Rattle.std.specs.Prelude.{slice_get}
use Rattle.std.proofs.lemmas.List.{get_or_default}
use Rattle.std.proofs.lemmas.Option.{same_Some, slice_get_within}
use Rattle.dl_kinds.specs.declared.gid.Gid.{Gid}
use Rattle.dl_kinds.specs.declared.status.Status.{Status}
use Rattle.dl_queue.specs.declared.kinds.Added.{Added}
use Rattle.dl_queue.specs.Lists.{QueueLists}
use Rattle.dl_queue.specs.Places.{status_of}
use Rattle.dl_queue.specs.Held.{gid_numbered, standing_at}
use Rattle.dl_queue.proofs.Inside.{parts_of}
use Rattle.dl_queue.proofs.Standing.{status_is}
use Rattle.dl_queue.proofs.queue.Queue.status_at.Goals as goal

gid_there : (added : List Added) (place : ℕ) (d : Added) → slice_get added place ≡ Some d
    → get_or (map (λ (e : Added). e.gid) added) place record { 0 = 0 } ≡ d.gid
gid_there [] place d is = absurd (let s = is in cc)
gid_there (e ∷ added) zero d is = ap (λ (x : Added). x.gid) (same_Some e d is)
gid_there (e ∷ added) (suc place) d is = gid_there added place d is

gid_at : (added : List Added) (place : ℕ) (d : Added) → slice_get added place ≡ Some d
    → gid_numbered added (place + 1) ≡ d.gid
gid_at added place d is =
    let one : place + 1 - 1 ≡ place = omega arith in
    ap (λ (n : ℕ). get_or (map (λ (e : Added). e.gid) added) n record { 0 = 0 }) one ∙ gid_there added place d is

pub returns : goal.returns
returns c = λ download there.
    let added = c.self.inside.added.items in
    let here : slice_get added c.args.place ≡ Some download =
    ap (λ (v : QueueLists). slice_get v.added c.args.place) c.self.view_is ∙ there in
    let within = slice_get_within added c.args.place download here in
    let standing = status_is c.self.inside.limit (parts_of c.self.inside) c.self.invariant.parts_are download.gid
    (c.args.place + 1)
    (record { counts = omega arith; within = omega arith; gid_is = gid_at added c.args.place download here }) in
    let many = c.self.invariant.parts_are.many in
    let one : c.args.place + 1 - 1 ≡ c.args.place = omega arith in
    c.index.ensures
    ∙ get_or_default c.self.inside.standings.items c.args.place c.index.result.now None (omega arith)
    ∙ sym (ap (λ (v : QueueLists). status_of v download.gid) (sym c.self.view_is) ∙ standing
    ∙ ap (λ (n : ℕ). get_or c.self.inside.standings.items n None) one)
