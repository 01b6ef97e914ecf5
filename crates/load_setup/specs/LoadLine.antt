-- What the words of a load's run mean.
use Rattle.std.specs.Prelude.{◌≡◌, false, [], None, Some, codes}
use Rattle.command_line.specs.Lines.{IsLine, has_console}
use Rattle.command_line.specs.declared.line.CommandLine.{CommandLine}
use Rattle.command_line.specs.declared.source.Source.TheVariants.{Metainfo}
use Rattle.option_set.specs.Values.{text_of_word}
use Rattle.option_set.specs.declared.kinds.Word.TheVariants.{Dir, SelectFile}
use Rattle.load_setup.specs.Words.{run_words}

-- The line names the load's metainfo file alone. Its payload lies in the folder of the run, and all of it is wanted.
pub record NamesLoad (line : CommandLine) : Type 0 where
  pub source : line.source ≡ Metainfo (codes "load.torrent") []
  pub settings : line.settings ≡ []
  pub folder : text_of_word line.globals Dir ≡ Some (codes ".")
  pub files : text_of_word line.globals SelectFile ≡ None

-- The words of a load's run have a meaning, and ask for no console; and each line that they mean is so.
pub record WordsNameLoad : Type 0 where
  pub some : (line : CommandLine) × IsLine run_words line
  pub off : has_console run_words ≡ false
  pub line : (line : CommandLine) → IsLine run_words line → NamesLoad line
