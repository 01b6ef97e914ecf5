use Rattle.std.proofs.Common.{ℕ, [], sym, ap, ◌∙◌}
use Rattle.machine_core.specs.Starts.{RunStart}
use Rattle.rate_tokens.specs.Level.{full_level}
use Rattle.engine_turns.specs.Levels.{overall_rate}
use Rattle.engine_core.proofs.DiskTaken.{no_promises}
use Rattle.engine_core.proofs.GoingOn.{goes_on_now}
use Rattle.engine_core.proofs.engine.Engine.new.Goals as goal

pub returns-clause-engine : goal.returns-clause-engine
returns-clause-engine g c =
    let run = c.in_ok-run.ensures.run in
    let overall = c.new-limits.ensures.overall
    ∙ ap (λ (rate : ℕ). full_level rate 0) (c.number-rate.ensures.value ∙ sym (ap (λ (s : RunStart). overall_rate s []) run.start)) in
    let disk = c.of-given.ensures in
    let same = run.disk_is ∙ sym disk in
    record {
      given = disk;
      disk_is = run.disk_is;
      start = run.start;
      stands = record {
        stands = record {
          now = run.now;
          is = λ i. record {
            past = run.past i;
            handed = c.new-2.ensures i;
            overall = overall i;
            own = c.new-limits.ensures.own i;
          };
          disk = λ told. no_promises c.in_ok-run.run'.machine.start (g.D.Disk.state c.in_ok-run.run'.disk);
          reads = λ told. tt;
        };
        goes_on = λ told. goes_on_now g.D.Disk.state c.in_ok-run.run'.disk _ same;
        untouched = λ none. same;
      };
    }
