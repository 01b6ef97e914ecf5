use Rattle.std.proofs.Common.{◌≡◌, ◌∙◌, ◌-◌, ◌+◌, ◌<◌, ◌≤◌, ◌*◌, ◌++◌, ◌∷◌, [], Some, None, List, Bool, Option, length, map, true, false, sym, ap, subst, arith, cond, refl, get_or, option_copied}
use Rattle.std.specs.Prelude.{remove, slice_get}
use Rattle.dl_kinds.specs.declared.gid.Gid.{Gid}
use Rattle.dl_kinds.specs.declared.status.Status.{Status}
use Rattle.number_list.specs.Order.{NumberOrder, lists_number, number_place}
use Rattle.dl_queue.specs.declared.kinds.Added.{Added}
use Rattle.dl_queue.specs.declared.kinds.TheConstants.{MAX_DOWNLOADS}
use Rattle.dl_queue.specs.Lists.{QueueLists}
use Rattle.dl_queue.specs.Places.{queued_place, status_of}
use Rattle.dl_queue.specs.Calls.{options_in}
use Rattle.dl_queue.specs.Held.{number_in, gid_numbered, lists_of, standing_at, stands_queued, queued_download}
use Rattle.dl_queue.specs.Named.{AreNamed, AreNamedIn}
use Rattle.dl_queue.specs.NextUp.{IsNextUp, MovesUp}
use Rattle.dl_queue.proofs.Inside.{parts_of, placed, seen_so}
use Rattle.dl_queue.proofs.Standing.{number_is, status_is, queued_place_is, place_tells, active_numbers, waiting_numbers, stopped_numbers, of_added}
use borrow.Author.Tests.{ltb-true}
use Rattle.std.specs.Option.{option_map}
use Rattle.std.proofs.lemmas.Option.{slice_get_read}
use Rattle.dl_queue.proofs.Finds.{options_at, no_options}
use Rattle.dl_queue.proofs.queue.Queue.options.Goals as goal

pub returns-in_err-number : goal.returns-in_err-number
returns-in_err-number c =
    let none = sym c.in_err-number.ensures in
    sym (no_options c.args.self.now.added c.args.gid none ∙ sym (ap option_copied c.from_residual.ensures))

pub returns-in-Some : goal.returns-in-Some
returns-in-Some c =
    let added = c.self.inside.added.items in
    let n = c.in_ok-number.number in
    let download = c.in-Some.download.now in
    let look = c.in-Some.ensures.lookup in
    let within : n - 1 < length added =
    omega (arith, ltb-true (n - 1) (length c.deref.result.now) (sym look.0), ap length c.deref.ensures.value) in
    let at = look.1 ∙ ap (λ l. get_or l (n - 1) download) c.deref.ensures.value in
    let number = ap (λ (q : QueueLists). number_in q.added c.args.gid) c.self.view_is ∙ sym c.in_ok-number.ensures in
    ap (option_map (λ (a : Added). a.options)) (sym (slice_get_read added (length added) (n - 1) download refl within at))
    ∙ sym (options_at added c.args.gid n number)
    ∙ ap (λ (q : QueueLists). options_in q.added c.args.gid) c.self.view_is
