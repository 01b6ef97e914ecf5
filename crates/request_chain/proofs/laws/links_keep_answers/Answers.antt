use Rattle.request_chain.proofs.AnsweredLemmas.{answered_quiet, answered_closed, answered_sent, answered_still, answered_few}
use Rattle.request_chain.proofs.KeptLemmas.{other_reply_keeps, data_keeps, more_data_keeps}
use Rattle.request_chain.proofs.laws.links_keep_answers.Goals as goal

pub returns : goal.returns
returns c = record {
  dial = λ before link new_link host port dials. answered_quiet before link new_link dials.exchanges dials.content dials.listens;
  hang_up = answered_closed;
  send = λ before link new_link host port request peer how sends.
      answered_sent c.replies_are_read_short.ensures.nothing before link new_link host port request peer how sends;
  other_reply = other_reply_keeps;
  data_dial = λ before link new_link port listens dials.
      answered_still before link new_link listens dials.content dials.exchanges dials.due;
  first_data = data_keeps;
  more_data = more_data_keeps;
  few = answered_few;
}
