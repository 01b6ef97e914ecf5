-- The same exchanges determine one result.
use Rattle.std.proofs.Common.{◌≡◌, ℕ, List, [], ◌∷◌, sym, subst, ◌∙◌}
use Rattle.link_source.specs.Exchanges.{Exchange}
use Rattle.span_map.specs.declared.jobs.JobPart.{JobPart}
use Rattle.request_chain.specs.Plans.{FetchEnding, Done, Open, Lost}
use Rattle.request_chain.specs.Probes.{Probe}
use Rattle.ftp_places.specs.declared.place.FtpPlace.{FtpPlace}
use Rattle.ftp_steps.specs.AnswerLaws.{HasOneAnswer}
use Rattle.ftp_steps.specs.declared.step.FtpStep.TheVariants.{Greeting}
use Rattle.ftp_steps.specs.declared.turn.FtpTurn.{FtpTurn}
use Rattle.ftp_fetches.specs.Dialogues.{Dialogue, At, Data, Over, dialogue_behind, data_ending, FtpFetchedBy}
use Rattle.ftp_fetches.specs.SizeDialogues.{SizeDialogue, At as AtStep, Found, size_dialogue_behind, FtpProbedBy}
use Rattle.ftp_fetches.specs.DialogueLaws.{FtpFetchedIsOne, FtpProbedIsOne}

module _ (once : HasOneAnswer) where
  -- one of two tellings, and the other
  abbrev IsSame : List ℕ → List ℕ → FetchEnding → FetchEnding → List Exchange → List Exchange → Type 0
  IsSame bytes other_bytes ending other_ending rest other_rest = (bytes ≡ other_bytes) × (ending ≡ other_ending) × (rest ≡ other_rest)

  fetched_by_once : (place : FtpPlace) (part : JobPart) (streams : List Exchange) (next : Dialogue) (rest other_rest : List Exchange)
      (bytes other_bytes : List ℕ) (ending other_ending : FetchEnding)
      → FtpFetchedBy place part next streams bytes ending rest
      → FtpFetchedBy place part next streams other_bytes other_ending other_rest
      → IsSame bytes other_bytes ending other_ending rest other_rest
  fetched_by_once place part streams (Over Done) rest other_rest bytes other_bytes ending other_ending a b =
      (a.0 ∙ sym b.0, a.1 ∙ sym b.1, a.2 ∙ sym b.2)
  fetched_by_once place part streams (Over Open) rest other_rest bytes other_bytes ending other_ending a b =
      (a.0 ∙ sym b.0, a.1 ∙ sym b.1, a.3 ∙ sym b.3)
  fetched_by_once place part streams (Over (Lost loss)) rest other_rest bytes other_bytes ending other_ending a b =
      (a.0 ∙ sym b.0, a.1 ∙ sym b.1, a.3 ∙ sym b.3)
  fetched_by_once place part [] (At step port) rest other_rest bytes other_bytes ending other_ending a b =
      (a.0 ∙ sym b.0, a.1 ∙ sym b.1, a.2 ∙ sym b.2)
  fetched_by_once place part (stream ∷ streams) (At step port) rest other_rest bytes other_bytes ending other_ending a b =
      let same = once step stream.received stream.ended a.0 b.0 a.1.answers b.1.answers in
      let P : FtpTurn → Type 0 = λ turn.
      FtpFetchedBy place part (dialogue_behind part port turn) streams other_bytes other_ending other_rest in
      fetched_by_once place part streams (dialogue_behind part port a.0) rest other_rest bytes other_bytes ending other_ending
      a.2 (subst P (sym same) b.2)
  fetched_by_once place part [] (Data port) rest other_rest bytes other_bytes ending other_ending a b =
      (a.0 ∙ sym b.0, a.1 ∙ sym b.1, a.2 ∙ sym b.2)
  fetched_by_once place part (stream ∷ streams) (Data port) rest other_rest bytes other_bytes ending other_ending a b =
      let later = fetched_by_once place part streams (Over (data_ending part stream)) rest other_rest [] [] ending other_ending
      a.2 b.2 in
      (a.1 ∙ sym b.1, later.1, later.2)

  pub fetched_once : FtpFetchedIsOne
  fetched_once = λ place part streams rest other_rest bytes other_bytes ending other_ending a b.
      fetched_by_once place part streams (At Greeting 0) rest other_rest bytes other_bytes ending other_ending a b

  probed_by_once : (place : FtpPlace) (streams : List Exchange) (next : SizeDialogue) (probe other : Probe)
      → FtpProbedBy place next streams probe → FtpProbedBy place next streams other → probe ≡ other
  probed_by_once place streams (Found told) probe other a b = a.0 ∙ sym b.0
  probed_by_once place [] (AtStep step) probe other a b = a ∙ sym b
  probed_by_once place (stream ∷ streams) (AtStep step) probe other a b =
      let same = once step stream.received stream.ended a.0 b.0 a.1.answers b.1.answers in
      let P : FtpTurn → Type 0 = λ turn. FtpProbedBy place (size_dialogue_behind turn) streams other in
      probed_by_once place streams (size_dialogue_behind a.0) probe other a.2 (subst P (sym same) b.2)

  pub probed_once : FtpProbedIsOne
  probed_once = λ place streams probe other a b. probed_by_once place streams (AtStep Greeting) probe other a b
