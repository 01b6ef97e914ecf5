use Rattle.std.proofs.Common.{◌≡◌, sym, ◌∙◌, inl, inr, false, [], Result, Ok, Err}
use Rattle.std.specs.Result.{OnOk, is_err}
use Rattle.console_socket.proofs.hearing.read.Goals as goal

went_well : {A E : Type 0} (P : Type 0) (result : Result A E) → is_err result ≡ false → OnOk result P → P
went_well {A} {E} P (Ok x) is on = on
went_well {A} {E} P (Err error) is on = absurd (cc is)

pub returns-in-Ok-flush : goal.returns-in-Ok-flush
returns-in-Ok-flush g c = inl (record {
  message = c.in-Ok.message;
  middle = c.read.new.self;
  reads = record {
    middle = c.flush.new.self;
    flushed = c.flush.ensures.sent;
    empty = went_well (c.flush.new.self.output ≡ []) c.flush.result (sym c.is_err.ensures.value ∙ c.if-is_err.false) c.flush.ensures.empty;
    reads = c.in-Ok.ensures;
  };
  came_is = c.came_by_message.ensures;
  replies = c.flush-in-Ok.ensures.sent;
  empty = c.in-Ok-flush.ensures.empty;
})

pub returns-in-Err : goal.returns-in-Err
returns-in-Err g c = inr (inl (record {
  error = c.in-Err.error;
  reads = record {
    middle = c.flush.new.self;
    flushed = c.flush.ensures.sent;
    empty = went_well (c.flush.new.self.output ≡ []) c.flush.result (sym c.is_err.ensures.value ∙ c.if-is_err.false) c.flush.ensures.empty;
    reads = c.in-Err.ensures;
  };
  came_is = c.came_by_error.ensures;
}))
