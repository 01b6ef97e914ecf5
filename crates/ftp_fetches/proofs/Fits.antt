-- How many bytes of a part come.
use Rattle.std.proofs.Common.{◌≡◌, ◌≢◌, ℕ, Bool, true, false, List, [], ◌∷◌, length, refl, sym, ap, ◌∙◌, arith}
use Rattle.std.proofs.lemmas.Bool.{eqb-true}
use Rattle.std.specs.Prelude.{if◌then◌else◌, ◌==◌}
use Rattle.link_source.specs.Exchanges.{Exchange}
use Rattle.span_map.specs.declared.jobs.JobPart.{JobPart}
use Rattle.reply_reader.specs.declared.loss.Loss.{Loss}
use Rattle.reply_reader.specs.declared.loss.Loss.TheVariants.{Length, Short}
use Rattle.request_chain.specs.Plans.{FetchEnding, Done, Open, Lost}
use Rattle.ftp_places.specs.declared.place.FtpPlace.{FtpPlace}
use Rattle.ftp_steps.specs.declared.step.FtpStep.{FtpStep}
use Rattle.ftp_steps.specs.declared.step.FtpStep.TheVariants.{Greeting, Passive}
use Rattle.ftp_steps.specs.declared.turn.FtpTurn.{FtpTurn}
use Rattle.ftp_steps.specs.declared.turn.FtpTurn.TheVariants as turns
use Rattle.ftp_fetches.specs.Dialogues.{At, Data, Over, dialogue_behind, first_with_data, data_ending, FtpFetchedBy}
use Rattle.ftp_fetches.specs.DialogueLaws.{FitsPart, FtpFetchedFits}

none_fits : (part : JobPart) (bytes : List ℕ) (ending : FetchEnding) → bytes ≡ [] → ending ≢ Done → FitsPart part bytes ending
none_fits part bytes ending none not_done = record {
  few = omega (arith, ap length none);
  all = λ done. absurd (not_done done);
}

open_not_done : (ending : FetchEnding) → ending ≡ Open → ending ≢ Done
open_not_done ending is done = cc

lost_not_done : (ending : FetchEnding) (loss : Loss) → ending ≡ Lost loss → ending ≢ Done
lost_not_done ending loss is done = cc

-- so where it is known to be over
over_ending : (place : FtpPlace) (part : JobPart) (how : FetchEnding) (streams rest : List Exchange) (bytes : List ℕ) (ending : FetchEnding)
    → FtpFetchedBy place part (Over how) streams bytes ending rest → ending ≡ how
over_ending place part Done streams rest bytes ending a = a.1
over_ending place part Open streams rest bytes ending a = a.1
over_ending place part (Lost loss) streams rest bytes ending a = a.1

done_only : (all ended : Bool) (loss : Loss) → (if all then Done else if ended then Lost loss else Open) ≡ Done → all ≡ true
done_only true ended loss is = refl
done_only false true loss is = cc
done_only false false loss is = cc

-- the data that came
data_fits : (place : FtpPlace) (part : JobPart) (port : ℕ) (streams rest : List Exchange) (bytes : List ℕ) (ending : FetchEnding)
    → FtpFetchedBy place part (Data port) streams bytes ending rest → FitsPart part bytes ending
data_fits place part port [] rest bytes ending a = none_fits part bytes ending a.0 (open_not_done ending a.1)
data_fits place part port (stream ∷ streams) rest bytes ending a =
    let few = a.0.few in
    let long = ap length a.1 in
    let how = over_ending place part (data_ending part stream) streams rest [] ending a.2 in
    record {
      few = omega (arith, few, long);
      all = λ done.
          let test = done_only (length stream.received == part.len) stream.ended (Short (length stream.received)) (sym how ∙ done) in
          long ∙ eqb-true (length stream.received) part.len test;
    }

-- whatever step is next
abbrev FitsFrom : FtpPlace → JobPart → List Exchange → Type 0
FitsFrom place part streams = (step : FtpStep) (port : ℕ) (rest : List Exchange) (bytes : List ℕ) (ending : FetchEnding)
    → FtpFetchedBy place part (At step port) streams bytes ending rest → FitsPart part bytes ending

sized_fits : (place : FtpPlace) (part : JobPart) (port : ℕ) (loss : Loss) (same : Bool) (streams rest : List Exchange) (bytes : List ℕ) (ending : FetchEnding)
    → FitsFrom place part streams
    → FtpFetchedBy place part (if same then At Passive port else Over (Lost loss)) streams bytes ending rest → FitsPart part bytes ending
sized_fits place part port loss true streams rest bytes ending fits a = fits Passive port rest bytes ending a
sized_fits place part port loss false streams rest bytes ending fits a = none_fits part bytes ending a.0 (lost_not_done ending loss a.1)

behind_fits : (place : FtpPlace) (part : JobPart) (port : ℕ) (turn : FtpTurn) (streams rest : List Exchange) (bytes : List ℕ) (ending : FetchEnding)
    → FitsFrom place part streams
    → FtpFetchedBy place part (dialogue_behind part port turn) streams bytes ending rest → FitsPart part bytes ending
behind_fits place part port turns.Due streams rest bytes ending fits a = none_fits part bytes ending a.0 (open_not_done ending a.1)
behind_fits place part port (turns.Next step) streams rest bytes ending fits a = fits step port rest bytes ending a
behind_fits place part port (turns.Sized size) streams rest bytes ending fits a =
    sized_fits place part port (Length size part.total) (size == part.total) streams rest bytes ending fits a
behind_fits place part port (turns.Dials told) streams rest bytes ending fits a = fits (first_with_data part) told rest bytes ending a
behind_fits place part port turns.Opens streams rest bytes ending fits a = data_fits place part port streams rest bytes ending a
behind_fits place part port (turns.Lost loss) streams rest bytes ending fits a = none_fits part bytes ending a.0 (lost_not_done ending loss a.1)

step_fits : (place : FtpPlace) (part : JobPart) (streams : List Exchange) → FitsFrom place part streams
step_fits place part [] step port rest bytes ending a = none_fits part bytes ending a.0 (open_not_done ending a.1)
step_fits place part (stream ∷ streams) step port rest bytes ending a =
    behind_fits place part port a.0 streams rest bytes ending (step_fits place part streams) a.2

pub fetched_fits : FtpFetchedFits
fetched_fits = λ place part streams rest bytes ending a. step_fits place part streams Greeting 0 rest bytes ending a
