-- What a run needs of the outside.
use Rattle.std.specs.Prelude.{◌≡◌, ◌≤◌, ◌*◌, ℕ, List, min, if◌then◌else◌}
use Rattle.command_meanings.specs.Meanings.{HaveMeaning}
use Rattle.command_meanings.specs.declared.meanings.Meaning.{Meaning}
use Rattle.command_meanings.specs.declared.meanings.Meaning.TheVariants.{Check, Download, Load, Serve}
use Rattle.option_set.specs.Values.{OptionValues, number_value}
use Rattle.option_set.specs.declared.kinds.Num.TheVariants.{MaxConcurrentDownloads, RpcListenPort, Split}
use Rattle.run_lifecycle.specs.Consoles.{is_console_on}
use Rattle.shared_run.specs.declared.limits.TheConstants.{MAX_LINKS}
use Rattle.aria_top.specs.declared.limits.TheConstants.{CONSOLE_DOORS}
use Rattle.aria_top.specs.declared.needs.Needs.{Needs}

-- as many as may work for one download; with a console, for all that may be active
abbrev pub links_by : OptionValues → ℕ
links_by values =
    if is_console_on values
    then min (number_value values Split * number_value values MaxConcurrentDownloads) MAX_LINKS
    else number_value values Split

abbrev pub doors_by : OptionValues → ℕ
doors_by values = if is_console_on values then CONSOLE_DOORS else 0

abbrev pub port_by : OptionValues → ℕ
port_by values = number_value values RpcListenPort

-- a load has links of its own in memory; a folder is served at as many doors as a console has
abbrev pub needs_by : Meaning → Needs
needs_by (Download line) = record {
  links = links_by line.globals;
  doors = doors_by line.globals;
  port = port_by line.globals;
}
needs_by (Load n) = record { links = 1; doors = 0; port = 0 }
needs_by (Serve line) = record { links = 1; doors = CONSOLE_DOORS; port = line.port }
needs_by (Check line) = record { links = 1; doors = 0; port = 0 }

-- the words mean something that needs this
pub record AreNeeds (words : List (List ℕ)) (needs : Needs) : Type 0 where
  pub meaning : Meaning
  pub means : HaveMeaning words meaning
  pub is : needs ≡ needs_by meaning
  pub some : 1 ≤ needs.links
  pub few : needs.links ≤ MAX_LINKS
