-- What the console of a run goes by.
use Rattle.std.specs.Prelude.{◌==◌, ℕ, Bool, if◌then◌else◌}
use Rattle.option_set.specs.Values.{OptionValues, number_value, text_of_word}
use Rattle.option_set.specs.declared.kinds.Num.TheVariants.{EnableRpc, RpcMaxRequestSize}
use Rattle.option_set.specs.declared.kinds.Word.TheVariants.{RpcSecret}
use Rattle.run_lifecycle.specs.declared.console.ConsoleTerms.{ConsoleTerms}

abbrev pub is_console_on : OptionValues → Bool
is_console_on values = number_value values EnableRpc == 1

-- how many of these doors clients may come to
abbrev pub doors_used : OptionValues → ℕ → ℕ
doors_used values doors = if is_console_on values then doors else 0

abbrev pub console_of : OptionValues → ConsoleTerms
console_of values = record {
  is_on = is_console_on values;
  secret = text_of_word values RpcSecret;
  most = number_value values RpcMaxRequestSize;
}
