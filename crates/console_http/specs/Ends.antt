-- How connections end.
use Rattle.dl_kinds.specs.declared.outside.IoErr.{IoErr}
use Rattle.dl_kinds.specs.declared.outside.IoErr.TheVariants.{Fault, NoMemory}
use Rattle.console_http.specs.declared.ends.ConnectionEnd.{ConnectionEnd}
use Rattle.console_http.specs.declared.ends.ConnectionEnd.TheVariants.{Failed, Starved}

abbrev pub end_by_error : IoErr → ConnectionEnd
end_by_error Fault = Failed
end_by_error NoMemory = Starved
