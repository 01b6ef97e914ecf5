use Rattle.aria_cli.proofs.exit_status.Goals as goal

pub returns : goal.returns
returns g c =
    let ran = c.run-ending in (
      ran.result,
      record {
        code_is = c.code.ensures;
        began = ran.ensures.began;
        ending = ran.ensures.ending;
        does = ran.ensures.does;
        loads = ran.ensures.load;
        serves = ran.ensures.serves;
        checks = ran.ensures.checks;
      },
    )
