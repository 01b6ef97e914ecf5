use Rattle.std.proofs.Common.{true, refl, arith}
use Rattle.ftp_steps.specs.declared.turn.FtpTurn.TheVariants.{Lost}
use Rattle.reply_reader.specs.declared.loss.Loss.TheVariants.{Short}
use Rattle.ftp_link.specs.Heard.{hearing}
use Rattle.ftp_link.proofs.StepLemmas.{hearing_keeps, received_end}
use Rattle.ftp_link.proofs.dialogue.hear.Goals as goal

pub returns-in-Ok-eq0-clause-hears : goal.returns-in-Ok-eq0-clause-hears
returns-in-Ok-eq0-clause-hears g c told place at others on_top due =
    let came = c.in-Ok-eq0.ensures.hears in
    record {
      stream = record (hearing place at c.args.step c.args.room.now.heard.items) { ended = true };
      on_top = received_end place at c.args.step c.args.room.now.heard.items came.0 _ others _ _ (omega arith) (came.2 told) on_top;
      received_is = refl;
      turn = Lost (Short 0);
      is_step = record {
        host_is = refl;
        port_is = refl;
        request_is = refl;
        fresh_is = refl;
        answers = c.answers_follow_their_step.ensures.ends c.args.step c.args.room.now.heard.items due;
      };
      loses = refl;
    }

pub returns-in-Ok-eq0-clause-answered : goal.returns-in-Ok-eq0-clause-answered
returns-in-Ok-eq0-clause-answered g c told place at before others on_top behind =
    let came = c.in-Ok-eq0.ensures.hears in
    hearing_keeps c.links_keep_answers.ensures.other_reply place at c.args.step c.args.room.now.heard.items before others _ _ _ came.0 on_top behind
    (c.requires.listens told) came.1.within (omega (arith, c.requires.few)) (came.2 told)

pub returns-in-Ok-clause-follows : goal.returns-in-Ok-clause-follows
returns-in-Ok-clause-follows g c =
    c.answers_follow_their_step.ensures.follows c.args.step _ _ c.answer.result c.answer.ensures

pub returns-in-Ok-clause-answered : goal.returns-in-Ok-clause-answered
returns-in-Ok-clause-answered g c told place at before others on_top behind =
    let came = c.in-Ok.ensures.hears in
    hearing_keeps c.links_keep_answers.ensures.other_reply place at c.args.step c.args.room.now.heard.items before others _ _ _ came.0 on_top behind
    (c.requires.listens told) came.1.within (omega (arith, c.requires.few, c.in-Ok.ensures.most)) (came.2 told)
