use Rattle.std.proofs.Common.{sym, ap, ◌∙◌, take}
use Rattle.metainfo.specs.Rules.{strings_among, seeds_among}
use Rattle.metainfo.proofs.Steps.{seeds_bound, seed_more, string_found, no_string}
use Rattle.metainfo.proofs.seeds.seeds_among.Goals as goal
use Rattle.metainfo.proofs.seeds.seeds_among.Goals.{in-Some+in_ok-push_seed, in_default}

pub push_seed-requires : goal.push_seed-requires
push_seed-requires c = rw c.loop-item.invariant (seeds_bound (strings_among (take c.loop-item.item-index c.args.items.now)))

pub loop-item-preserved : goal.loop-item-preserved
loop-item-preserved c =
    let before = strings_among (take c.loop-item.item-index c.args.items.now) in
    elim c.match-string.branch [
      | in-Some+in_ok-push_seed w ↦
          rw (w.seeds-is, w.in_ok-push_seed.ensures, c.loop-item.invariant)
          (seed_more before w.in-Some.url.now
          ∙ ap seeds_among (sym (string_found c.args.items.now c.loop-item.item-index c.item-item.result w.in-Some.url.now c.loop-item-test.true c.item-item.is (sym w.in-Some.ensures))))
      | in_default w ↦
          rw w.seeds-is
          (c.loop-item.invariant
          ∙ ap seeds_among (sym (no_string c.args.items.now c.loop-item.item-index c.item-item.result c.loop-item-test.true c.item-item.is (sym w.in_default.ensures))))
    ]
