use Rattle.run_report.proofs.Taking.{written}
use Rattle.run_report.proofs.writing.put.Goals as goal

pub returns : goal.returns
returns g c =
    written g.O.Sink c.args.text.now c.args.out.now c.write.new.self c.write.result c.write.ensures.bytes
    c.write.ensures.cause
