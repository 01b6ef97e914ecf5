-- A run whose words name a metainfo file with mirrors, or URIs, ends before it begins for want of memory alone, where the disk
-- did not fail.
use Rattle.std.proofs.Common.{◌≡◌, ⊎_elim, ℕ, IsTrue, List, Some, None, Ok, Err, length, refl, sym, ap, ◌∙◌, subst, arith}
use Rattle.std.specs.Prelude.{◌+◌, ◌-◌, ◌≤◌, ◌<◌, ◌^◌}
use Rattle.command_line.specs.LineLaws.{LinesAreOne}
use Rattle.command_line.specs.Lines.{IsLine}
use Rattle.command_line.specs.declared.line.CommandLine.{CommandLine}
use Rattle.command_line.specs.declared.source.Source.{Source}
use Rattle.command_line.specs.declared.source.Source.TheVariants as source
use Rattle.dl_disk.specs.Files.{Files}
use Rattle.dl_disk.specs.declared.disk.Disk.{Ghosts as DiskSays}
use Rattle.dl_kinds.specs.declared.claims.TheConstants.{MAX_MIRRORS}
use Rattle.dl_kinds.specs.declared.outside.Sink.{Ghosts as SinkSays}
use Rattle.dl_kinds.specs.Counts.{Rose}
use Rattle.command_call.specs.Sources.{RefusesSource}
use Rattle.command_call.specs.declared.refusals.SourceErr.{SourceErr}
use Rattle.command_call.specs.declared.refusals.SourceErr.TheVariants.{Fault, Meta as MetaError, Mirrors, Missing, NoMemory as Starved, TooLarge}
use Rattle.metainfo.specs.Info.{Info, info_of}
use Rattle.metainfo.specs.Rules.{metainfo_of}
use Rattle.metainfo.specs.declared.meta.Meta.{Meta}
use Rattle.run_lifecycle.specs.Begins.{LacksCall, RefusesWords}
use Rattle.run_lifecycle.specs.Ends.{ending_of_source}
use Rattle.run_lifecycle.specs.Finishes.{NeverBegan, PrintsRefusal}
use Rattle.run_lifecycle.specs.declared.ended.Ended.{Ended}
use Rattle.run_report.specs.declared.endings.RunEnding.{RunEnding}
use Rattle.run_report.specs.declared.endings.RunEnding.TheVariants.{NoMeaning, NoMemory}
use Rattle.served_runs.specs.Completes.{HadNoFault, NamesPayload}
use Rattle.served_runs.proofs.FileCalls.{says_one}

-- ---- counts

pub not_risen : (before after count : ℕ) → after ≡ before → before < 2 ^ 64 - 1 → Rose before count → count ≤ after → ⊥
not_risen before after count same few rose within = absurd (omega (arith, same, few, rose, within))

pub no_rise : (old since at now : ℕ) → now ≡ old → old < 2 ^ 64 - 1 → old ≤ since → Rose since at → at ≤ now → ⊥
no_rise old since at now same few from rose to = absurd (omega (arith, same, few, from, rose, to))

-- ---- a run that didn't begin

refused_words : (words : List (List ℕ)) (ending : RunEnding) (line : CommandLine) → IsLine words line → RefusesWords words ending → ending ≡ NoMemory
refused_words words NoMeaning line means refuses = absurd (refuses line means)
refused_words words NoMemory line means refuses = refl
refused_words words other line means refuses = absurd refuses

no_memory_printed : {O : Type 0} (sinks : SinkSays O) (out out' : O) (refusal ending : RunEnding)
    → refusal ≡ NoMemory → PrintsRefusal sinks refusal out out' ending → ending ≡ NoMemory
no_memory_printed {O} sinks out out' refusal ending at prints =
    (subst (λ (r : RunEnding). PrintsRefusal sinks r out out' ending) at prints).0

refused_source : (words : List (List ℕ)) (seen : Files) (line : CommandLine) (meta : Meta) (uris : List (List ℕ)) (error : SourceErr)
    → (names : NamesPayload words seen line meta uris) → 1 ≤ length meta.seeds + length uris → (error ≡ Fault → ⊥)
    → RefusesSource seen (source.Metainfo names.file uris) error → ending_of_source error ≡ NoMemory
refused_source words seen line meta uris Missing names some unfailed refuses =
    absurd (let never : None ≡ Some names.says.bytes = sym refuses ∙ names.says.has.holds in cc)
refused_source words seen line meta uris Fault names some unfailed refuses = absurd (unfailed refl)
refused_source words seen line meta uris TooLarge names some unfailed refuses =
    let both : Some refuses.bytes ≡ Some names.says.bytes = sym refuses.holds ∙ names.says.has.holds in
    let same : refuses.bytes ≡ names.says.bytes = cc in
    let many = refuses.many in
    let few = names.says.has.few in
    let len = ap length same in
    absurd (omega (arith, many, few, len))
refused_source words seen line meta uris (MetaError why) names some unfailed refuses =
    let both : Some refuses.0 ≡ Some names.says.bytes = sym refuses.1.holds ∙ names.says.has.holds in
    let same : refuses.0 ≡ names.says.bytes = cc in
    absurd (let never : Err why ≡ Ok (info_of meta) = sym refuses.2 ∙ (ap metainfo_of same ∙ names.says.says) in cc)
refused_source words seen line meta uris (Mirrors count) names some unfailed refuses =
    let infos = says_one (seen names.file) refuses.info (info_of meta) refuses.says names.says in
    let counts : count ≡ length meta.seeds + length uris =
    refuses.count_is ∙ ap (λ (i : Info). length i.seeds + length uris) infos in
    let few = names.few in
    absurd (⊎_elim (λ (none : count ≡ 0). omega (arith, counts, none, some))
    (λ (many : MAX_MIRRORS < count). omega (arith, counts, many, few)) refuses.wrong)
refused_source words seen line meta uris Starved names some unfailed refuses = refl

module _ {D O : Type 0} {says : DiskSays D} {sinks : SinkSays O} {words : List (List ℕ)} {disk : D}
    {out : O} {ended : Ended D} {out' : O} where
  pub never_began : LinesAreOne → IsTrue says.tells → NeverBegan says sinks words disk out ended out'
      → (named : CommandLine) (meta : Meta) (uris : List (List ℕ)) → NamesPayload words (says.state disk).seen named meta uris
      → 1 ≤ length meta.seeds + length uris → HadNoFault (says.faults disk) (says.faults ended.disk)
      → ended.ending ≡ NoMemory
  never_began lines tells never named meta uris its some well =
      no_memory_printed sinks out out' never.refusal ended.ending (⊎_elim
      (λ (wrong : RefusesWords words never.refusal × (ended.disk ≡ disk)).
      refused_words words never.refusal named its.means wrong.0)
      (λ more. ⊎_elim
      (λ (lacks : LacksCall says words disk ended.disk never.refusal).
      let names : NamesPayload words (says.state disk).seen lacks.line meta uris =
      subst (λ (l : CommandLine). NamesPayload words (says.state disk).seen l meta uris)
      (lines words named lacks.line its.means lacks.means) its in
      lacks.ending_is ∙ refused_source words (says.state disk).seen lacks.line meta uris lacks.error names some
      (λ fault. not_risen (says.faults disk) (says.faults ended.disk) (says.faults ended.disk) well.0 well.1
      (lacks.fault fault) (omega arith))
      (subst (λ (s : Source). RefusesSource (says.state disk).seen s lacks.error) names.named (lacks.told tells)))
      (λ (starved : never.refusal ≡ NoMemory). starved) more) never.ends) never.prints

  -- .. nor where they name URIs
  pub never_began_uris : LinesAreOne → IsTrue says.tells → NeverBegan says sinks words disk out ended out' → (named : CommandLine)
      (uris : List (List ℕ)) → IsLine words named → named.source ≡ source.Mirrors uris → ended.ending ≡ NoMemory
  never_began_uris lines tells never named uris means is =
      no_memory_printed sinks out out' never.refusal ended.ending (⊎_elim
      (λ (wrong : RefusesWords words never.refusal × (ended.disk ≡ disk)).
      refused_words words never.refusal named means wrong.0)
      (λ more. ⊎_elim
      (λ (lacks : LacksCall says words disk ended.disk never.refusal).
      let same = lines words named lacks.line means lacks.means in
      let its : lacks.line.source ≡ source.Mirrors uris = ap (λ (l : CommandLine). l.source) (sym same) ∙ is in
      let starved : lacks.error ≡ Starved =
      subst (λ (s : Source). RefusesSource (says.state disk).seen s lacks.error) its (lacks.told tells) in
      lacks.ending_is ∙ ap ending_of_source starved)
      (λ (starved : never.refusal ≡ NoMemory). starved) more) never.ends) never.prints
