-- What the history of a run tells of the events of a worker's turn.
use Rattle.std.proofs.Common.{◌≡◌, ◌∷◌, ◌++◌, ℕ, Bool, IsTrue, List, [], Some, sym, ap, subst, ◌∙◌}
use Rattle.std.specs.Prelude.{Contains}
use Rattle.std.proofs.lemmas.Bool.{true≢false}
use Rattle.conn_worker.specs.Hands.{Fetching, Hand, Fetches, LinkAt}
use Rattle.dl_kinds.specs.Plan.{piece_of}
use Rattle.dl_kinds.specs.declared.gid.Gid.{Gid}
use Rattle.dl_kinds.specs.declared.marks.Mark.{Mark}
use Rattle.dl_kinds.specs.declared.runs.Run.{Run}
use Rattle.engine_turns.specs.NextRows.{IsJobOf, mirror_url}
use Rattle.engine_turns.specs.RunTurns.{MayComeAfter}
use Rattle.engine_turns.specs.Told.{AllTurns, RunTurn, history_of}
use Rattle.engine_turns.specs.declared.operations.Grant.TheVariants as grant
use Rattle.machine_core.specs.OwnParts.{PayloadLengths}
use Rattle.machine_core.specs.RunLegal.{DownloadsStay, IsLegal, LengthsStay, download_in, is_listed, known_lengths}
use Rattle.machine_core.specs.Starts.{Download, Listed, RunStart, Subject}
use Rattle.machine_core.specs.declared.events.Event.{Event}
use Rattle.machine_core.specs.declared.events.Event.TheVariants.{Claimed, Landed, Lost}
use Rattle.metainfo.specs.declared.meta.Meta.{Meta}
use Rattle.run_lifecycle.proofs.Claims.{standing_came}
use Rattle.run_lifecycle.proofs.Rows.{turn_brings}
use Rattle.span_map.specs.declared.jobs.Job.{Job}
use Rattle.blameless_mirrors.specs.Blameless.{HasFailedLink}
use Rattle.blameless_mirrors.proofs.ListedLengths.{known_listed}
use Rattle.served_runs.proofs.ServedHistories.{CameAt, brought_there, granted_at, landed_came, may_at, probe_unlisted, there_on}
use Rattle.served_runs.proofs.Working.{OfGrant}
use Rattle.mark_costs.specs.Holding.{HoldsPiece}
use Rattle.mark_costs.specs.Paid.{lengths_of_meta}
use Rattle.mark_costs.proofs.Fetch.{IsJobFor, PayingLaws}
use Rattle.mark_costs.proofs.Paying.{TurnFacts}

module _ (laws : PayingLaws) (tells : Bool) (true_is : IsTrue tells) (first : LinkAt) (gid : Gid) (meta : Meta)
    (uris : List (List ℕ)) (mirror : ℕ) (held : List ℕ) (among : ℕ → Bool) (piece : ℕ)
    (holds : HoldsPiece first.state.content meta (mirror_url (Listed meta uris) mirror) held among piece)
    (stay : DownloadsStay) (lengths_stay : LengthsStay) (start : RunStart) (told : List RunTurn) (download : Download)
    (legal : IsLegal start (history_of told)) (ties : AllTurns (MayComeAfter start) told)
    (added : download_in start (history_of told) gid ≡ Some download) (subject : download.subject ≡ Listed meta uris)
    (none_failed : ¬ HasFailedLink (history_of told) gid mirror) where
  module _ (newer : List RunTurn) (t : RunTurn) (before : List RunTurn) (cut : told ≡ newer ++ t ∷ before)
      (turns : List RunTurn) (within : (u : RunTurn) → Contains turns u → Contains told u) where
    pub may : MayComeAfter start before t
    may = may_at stay lengths_stay start told legal ties gid download added newer t before cut

    whole_has : (e : Event) → Contains t.events e → Contains (history_of told) e
    whole_has e there = subst (λ (l : List RunTurn). Contains (history_of l) e) (sym cut) (brought_there newer t before e there)

    before_has : (e : Event) → Contains (history_of before) e → Contains (history_of told) e
    before_has e there = subst (λ (l : List RunTurn). Contains (history_of l) e) (sym cut)
        (there_on newer (t ∷ before) e (there_on (t ∷ []) before e there))

    job_at : (f : Fetching) → OfGrant tells first turns f → CameAt (history_of told) gid f.claim mirror
        → (whole : Run) × IsJobFor laws tells true_is first.state.content meta uris mirror held among piece holds whole f.job
    job_at f of its =
        let g = granted_at stay lengths_stay start told legal ties gid download added f.claim mirror its of.by.turn
        (grant.Fetch of.granted) (within of.by.turn of.by.there) of.by.said_is (ap (λ (n : ℕ). Some n) (sym of.claim)) in
        let one = subst (λ (m : ℕ). IsJobOf (known_lengths start (history_of told) gid) download.subject m g.claim.run of.granted.job)
        g.mirror_is g.asks in
        let two = subst (λ (s : Subject). IsJobOf (known_lengths start (history_of told) gid) s mirror g.claim.run of.granted.job)
        subject one in
        let three = subst (λ (l : PayloadLengths). IsJobOf l (Listed meta uris) mirror g.claim.run of.granted.job)
        (known_listed start (history_of told) gid download meta uris added subject) two in
        (g.claim.run, subst (λ (j : Job). IsJobOf (lengths_of_meta meta) (Listed meta uris) mirror g.claim.run j) (sym of.job) three)

    came_of_loss : (id : ℕ) (mark : Mark) → Contains t.events (Lost gid id mirror piece mark)
        → CameAt (history_of told) gid id mirror
    came_of_loss id mark there =
        let stands = (turn_brings start before t may (Lost gid id mirror piece mark) there).2 in
        record {
          claim = stands.claim;
          came = before_has (Claimed gid stands.claim) (standing_came start gid stands.claim (history_of before) stands.stands);
          id_is = stands.id_is;
          mirror_is = stands.so;
        }

    pub turn_facts : (hand : Hand) (link : LinkAt)
        → ((f : Fetching) (mark : Mark) → hand ≡ Fetches f → Contains t.events (Lost gid f.claim mirror piece mark)
        → piece_of meta.plan.piece_len f.rest.first ≡ piece)
        → TurnFacts laws tells true_is first gid meta uris mirror held among piece holds turns hand link t
    turn_facts hand link ends = record {
      lost_op = λ id mark there.
          let brought = turn_brings start before t may (Lost gid id mirror piece mark) there in (brought.0, brought.1);
      landed_job = λ f run part bytes now when of op there.
          job_at f of (landed_came start (history_of told) gid f.claim mirror part when legal
          (whole_has (Landed gid f.claim mirror part when) there));
      lost_job = λ f mark of there. job_at f of (came_of_loss f.claim mark there);
      no_probe = λ p mark has there.
          let unlisted = probe_unlisted stay lengths_stay start told legal ties gid download added p.claim mirror
          (came_of_loss p.claim mark there) has.by.turn has.gid p.url (within has.by.turn has.by.there) has.by.said_is in
          absurd (true≢false (ap is_listed (sym subject) ∙ unlisted));
      uncounted = λ id mark there some. none_failed (id, piece, mark, whole_has (Lost gid id mirror piece mark) there, some);
      ends = ends;
    }
