use Rattle.std.proofs.Common.{◌≡◌, ◌∙◌, sym, ap, true, Some}
use Rattle.option_set.specs.Numbers.{is_decimal}
use Rattle.option_set.proofs.Decimals.{number_read}
use Rattle.option_set.proofs.numbers.decimal.Goals as goal

pub returns : goal.returns
returns c =
    let is : is_decimal c.args.text.now ≡ true = sym c.if-not-is_decimal.ensures in
    let read = c.unwrap_or.ensures ∙ number_read c.args.text.now c.numeral_value.result is c.numeral_value.ensures in
    rw is (ap Some read)
