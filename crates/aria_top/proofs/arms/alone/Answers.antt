use Rattle.std.proofs.Common.{◌≡◌, [], ap, inl, inr, length, map, string_bytes, subst, sym, ◌∙◌}
use Rattle.std.specs.Prelude.{true, IsTrue}
use Rattle.run_lifecycle.specs.Results.{ended_of}
use Rattle.served_runs.specs.Over.{IsRunOver}
use Rattle.solo_run.specs.Bounded.{BoundsFirst}
use Rattle.solo_run.specs.Pieces.{CompletesPieces}
use Rattle.run_lifecycle.specs.Consoles.{is_console_on}
use Rattle.aria_top.proofs.AloneRuns.{alone_one, calls_are_own, of_takes, one_goes_on, one_item, turn_none_on}
use Rattle.aria_top.proofs.arms.alone.Goals as goal

pub returns : goal.returns
returns g c line means alone =
    let ran = c.run_alone-ending in
    let words = map string_bytes c.args.words.now in
    let olds = c.args.links.items in
    let news = ran.result.links.items in
    let ended = ended_of ran.result in
    let is = alone_one (length olds) (is_console_on line.globals) alone in
    let one : length olds ≡ 1 = is.0 in
    let other : length news ≡ 1 = ran.ensures.untouched.many ∙ one in
    let off = turn_none_on c.lines_are_one.ensures words line means is.1 in
    let link = one_item olds one in
    let does = ran.ensures.does link.0 [] link.1 in
    let over = of_takes
    (λ before behind. IsRunOver g.D.Disk g.O.Sink true g.L.Links words c.args.gids (length c.args.doors.items) c.args.disk
    before c.args.out.now ended behind ran.new.out) olds news one other
    (ran.ensures.over off (length c.args.doors.items)) in
    record {
      means = means;
      alone = alone;
      ran = record {
        link = link.0;
        link' = does.link';
        given = link.1;
        left = does.links_are;
        doors = ap (λ doors. doors.items) ran.ensures.doors;
        untold = c.new.ensures.items;
        runs = does.runs;
      };
      over = subst
          (λ limited. IsRunOver g.D.Disk g.O.Sink limited g.L.Links words c.args.gids (length c.args.doors.items) c.args.disk
          olds c.args.out.now ended news ran.new.out) (sym alone) over;
      pieces = of_takes
          (λ before behind. IsTrue g.D.Disk.tells → IsTrue g.L.Links.tells → CompletesPieces g.D.Disk g.L.Links g.O.Sink words
          c.args.gids 0 c.args.disk before c.args.out.now ended behind ran.new.out) olds news one other ran.ensures.completes_pieces;
      bounds = of_takes
          (λ before behind. BoundsFirst g.D.Disk g.O.Sink g.L.Links words c.args.gids c.args.disk before c.args.out.now ended
          behind ran.new.out) olds news one other ran.ensures.bounds;
      untouched = record {
        reads = ran.ensures.untouched.reads;
        all = ran.ensures.untouched.all;
        many = ran.ensures.untouched.many;
        places = one_goes_on olds news link.0 does.link' c.turns_bring_what_came.ensures.links link.1 does.links_are does.runs;
      };
      shown = inr (inl (record {
        same = ap (λ doors. doors.items) ran.ensures.doors;
        untold = c.new.ensures.items;
        why = inl (line, means, is.1);
        calls = calls_are_own c.replies_are_of_the_history.ensures c.calls_stand_where_replied.ensures off over;
      }));
    }
