-- The bounds, of a download of a run.
use Rattle.std.proofs.Common.{◌≡◌, Some, List, [], ◌∷◌, refl, sym, ◌∙◌, inl, inr, arith}
use Rattle.std.specs.Prelude.{All}
use Rattle.std.proofs.lemmas.List.Elements.{All-cons, All-nil}
use Rattle.dl_kinds.specs.declared.gid.Gid.{Gid}
use Rattle.mirror_blame.specs.Marks.{is_of}
use Rattle.dl_history.proofs.Members.{Has}
use Rattle.dl_history.specs.PayloadParts.{blames_in}
use Rattle.dl_history.specs.StandingClaims.{granted_claims}
use Rattle.machine_core.proofs.Legal.{parts}
use Rattle.machine_core.specs.OwnParts.{own_of}
use Rattle.machine_core.specs.RunLegal.{known_lengths, mirrors_by, tries_in}
use Rattle.machine_core.specs.Starts.{Download, RunStart}
use Rattle.machine_core.specs.declared.events.Event.{Event}
use Rattle.work_bounds.proofs.ClaimCounts.{claims_end, few_claims}
use Rattle.work_bounds.proofs.Findings.{few_clears}
use Rattle.work_bounds.proofs.MarkSums.{few_marks}
use Rattle.work_bounds.proofs.Marks.{marks_fit}
use Rattle.work_bounds.proofs.Ordered.{Ordered}
use Rattle.work_bounds.proofs.Pauses.{pauses_so}
use Rattle.work_bounds.proofs.RunGrants.{RunLaws, run_grants}
use Rattle.work_bounds.proofs.Tallies.{counted_so}
use Rattle.work_bounds.proofs.Totals.{events_fit}
use Rattle.work_bounds.specs.BoundLaws.{ClaimsAreBounded, ClaimsEnd, ClearsAreBounded, EventsAreBounded, IsTakenInTurn, MarksAreTries, StandsOrEnded}
use Rattle.work_bounds.specs.WorkLimits.{clears_piece, is_check, is_halt}

all_from : {A : Type 0} (P : A → Type 0) (xs : List A) → ((x : A) → Has xs x → P x) → All P xs
all_from P [] each = All-nil P
all_from P (y ∷ ys) each = All-cons P y ys (each y (inl refl)) (all_from P ys (λ x h. each x (inr h)))

module _ (laws : RunLaws) where
  ordered : (start : RunStart) (past : List Event) (gid : Gid) (download : Download)
      → IsTakenInTurn start past gid download
      → Ordered (known_lengths start past gid).total (known_lengths start past gid).piece_len
      (mirrors_by download.subject)
      (tries_in download) (own_of start past gid)
  ordered start past gid download taken =
      record {
        legal = (parts laws.legal start past gid taken.legal).legal;
        grants = run_grants laws start past gid download taken.legal
            (λ x is. let same : Some x ≡ Some download = sym is ∙ taken.added in cc);
        one = taken.one;
        plan = laws.plans start past gid taken.legal;
      }

  pub marks_are_tries : MarksAreTries
  marks_are_tries start past gid download taken =
      let own = own_of start past gid in
      let l = known_lengths start past gid in
      let o = ordered start past gid download taken in
      record {
        each = λ mirror piece.
            let c = counted_so (is_of mirror piece) (blames_in own) in
            let f = (marks_fit l.total l.piece_len (mirrors_by download.subject)
            (tries_in download) own o).each mirror piece
            in omega arith;
        all = few_marks l.total l.piece_len (mirrors_by download.subject) (tries_in download) own o;
      }

  pub clears_are_bounded : ClearsAreBounded
  clears_are_bounded start past gid download piece taken =
      let own = own_of start past gid in
      let l = known_lengths start past gid in
      let o = ordered start past gid download taken in
      let c = counted_so (clears_piece piece) own in
      let f = few_clears l.total l.piece_len (mirrors_by download.subject) (tries_in download) own o piece in
      omega arith

  pub claims_are_bounded : ClaimsAreBounded
  claims_are_bounded start past gid download taken =
      let own = own_of start past gid in
      let l = known_lengths start past gid in
      let o = ordered start past gid download taken in
      let p = pauses_so own in
      let f = few_claims l.total l.piece_len (mirrors_by download.subject) (tries_in download) own o in
      rw p f

  pub claims_all_end : ClaimsEnd
  claims_all_end start past gid download taken =
      let own = own_of start past gid in
      let l = known_lengths start past gid in
      let o = ordered start past gid download taken in
      all_from (StandsOrEnded own) (granted_claims own)
      (claims_end l.total l.piece_len (mirrors_by download.subject) (tries_in download) own o)

  pub events_are_bounded : EventsAreBounded
  events_are_bounded start past gid download taken due =
      let own = own_of start past gid in
      let l = known_lengths start past gid in
      let o = ordered start past gid download taken in
      let p = pauses_so own in
      let h = counted_so is_halt own in
      let c = counted_so is_check own in
      let f = events_fit l.total l.piece_len (mirrors_by download.subject) (tries_in download) own o due in
      rw (p, h, c) f
