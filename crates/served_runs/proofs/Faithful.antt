-- Claims that are served bring what is right.
use Rattle.std.proofs.Common.{◌≡◌, ◌<◌, ◌∷◌, ◌++◌, ⊎_elim, ℕ, List, [], length, Option, Some, refl, sym, ap, subst, ◌∙◌, arith}
use Rattle.std.specs.Prelude.{Contains, unwrap_or}
use Rattle.std.proofs.lemmas.List.Elements.{Contains-append_right}
use Rattle.blameless_mirrors.specs.Chosen.{ClaimsAreOfChosen}
use Rattle.dl_kinds.specs.PlanLaws.{BlocksFollow}
use Rattle.dl_kinds.specs.declared.claims.Claim.{Claim}
use Rattle.dl_kinds.specs.declared.gid.Gid.{Gid}
use Rattle.dl_kinds.specs.declared.marks.Mark.{Mark}
use Rattle.dl_kinds.specs.declared.runs.Moment.{Moment}
use Rattle.dl_kinds.specs.declared.runs.Run.{Run}
use Rattle.engine_turns.specs.NextRows.{IsJobOf, mirror_url}
use Rattle.engine_turns.specs.RunTurns.{MayComeAfter}
use Rattle.engine_turns.specs.Told.{AllTurns, RunTurn, history_of}
use Rattle.engine_turns.specs.declared.operations.FetchGrant.{FetchGrant}
use Rattle.engine_turns.specs.declared.operations.Grant.TheVariants as grant
use Rattle.engine_turns.specs.declared.operations.Operation.TheVariants as operation
use Rattle.engine_turns.specs.declared.operations.Said.TheVariants as said
use Rattle.link_source.specs.Mirrors.{Content}
use Rattle.machine_core.specs.OwnParts.{PayloadLengths, lengths_by, no_lengths, own_of, payload_lengths_of}
use Rattle.machine_core.specs.RunLegal.{DownloadsStay, IsLegal, LengthsStay, download_in, known_lengths}
use Rattle.machine_core.specs.Starts.{Download, RunStart, Subject, Listed, Unlisted}
use Rattle.machine_core.specs.declared.events.Event.{Event}
use Rattle.machine_core.specs.declared.events.Event.TheVariants.{Claimed, Landed, Lost}
use Rattle.mirror_payloads.specs.Faithful.{IsFaithful, IsFaithfulTurn, run_bytes}
use Rattle.option_set.specs.Values.{OptionValues}
use Rattle.span_map.specs.declared.jobs.Job.{Job}
use Rattle.run_lifecycle.proofs.Claims.{claims_one, standing_came}
use Rattle.run_lifecycle.proofs.Rows.{turn_brings}
use Rattle.served_runs.specs.ServingLaws.{IsChosenJob, IsToldRight, ServedClaimsAreFaithful, UsesClaim}
use Rattle.served_runs.specs.Serving.{ServesPayload}
use Rattle.served_runs.proofs.Chosen.{job_chosen}
use Rattle.served_runs.proofs.ServedHistories.{CameAt, brought_there, deliver_home, granted_at, landed_came, legal_on, lengths_known, lengths_on, listed_known, may_at, probe_unlisted, there_on}
use Rattle.served_runs.proofs.Owned.{RightFetchLoss, RightProbeLoss, RightTurn, right_turn}
use Rattle.served_runs.proofs.Rightly.{ServingLaws}

-- it holds of each turn where it holds at each place
pub all_at_places : (P : List RunTurn → RunTurn → Type 0) (told : List RunTurn)
    → ((newer : List RunTurn) (t : RunTurn) (before : List RunTurn) → told ≡ newer ++ t ∷ before → P before t)
    → AllTurns P told
all_at_places P [] at = tt
all_at_places P (t ∷ before) at =
    (at [] t before refl, all_at_places P before (λ newer u older cut. at (t ∷ newer) u older (λ i. t ∷ cut i)))

-- lengths that are known alike are the same
same_known : (one other : Option PayloadLengths) (lengths : PayloadLengths) → one ≡ Some lengths → other ≡ Some lengths
    → unwrap_or one no_lengths ≡ unwrap_or other no_lengths
same_known one other lengths is also = ap (λ (o : Option PayloadLengths). unwrap_or o no_lengths) (is ∙ sym also)

-- the length that is known is the payload's
total_by : (start : RunStart) (past : List Event) (gid : Gid) (download : Download) (subject : Subject)
    (options : OptionValues) (payload : List ℕ) (content : Content) (mirror : ℕ) (lengths : PayloadLengths)
    → payload_lengths_of start past gid ≡ lengths_by download subject (own_of start past gid)
    → payload_lengths_of start past gid ≡ Some lengths → ServesPayload content subject options mirror payload
    → IsToldRight start past gid payload subject → lengths.total ≡ length payload
total_by start past gid download (Listed meta uris) options payload content mirror lengths by known serves told =
    let same : Some (record { total = meta.plan.total; piece_len = meta.plan.piece_len }) ≡ Some lengths = sym by ∙ known in
    let one : record { total = meta.plan.total; piece_len = meta.plan.piece_len } ≡ lengths = cc in
    sym (ap (λ (l : PayloadLengths). l.total) one) ∙ sym serves.total
total_by start past gid download (Unlisted uris) options payload content mirror lengths by known serves told = told lengths known

total_known : (known : Option PayloadLengths) (lengths : PayloadLengths) (size : ℕ) → known ≡ Some lengths → lengths.total ≡ size
    → (unwrap_or known no_lengths).total ≡ size
total_known known lengths size is size_is = ap (λ (o : Option PayloadLengths). (unwrap_or o no_lengths).total) is ∙ size_is

module _ (stay : DownloadsStay) (lengths_stay : LengthsStay) (follow : BlocksFollow) (claims : ClaimsAreOfChosen) (start : RunStart)
    (told : List RunTurn) (gid : Gid) (download : Download) (mirror : ℕ) (payload : List ℕ)
    (legal : IsLegal start (history_of told)) (ties : AllTurns (MayComeAfter start) told)
    (added : download_in start (history_of told) gid ≡ Some download)
    (right : IsToldRight start (history_of told) gid payload download.subject)
    (served : (t : RunTurn) → Contains told t → UsesClaim t.op
    → RightTurn told download.subject download.options mirror payload t) where
  abbrev lengths : PayloadLengths
  lengths = known_lengths start (history_of told) gid

  -- the job that was granted for a claim of the mirror is its own
  record JobAt (id : ℕ) (job : Job) : Type 0 where
    claim : Claim
    came : Contains (history_of told) (Claimed gid claim)
    id_is : claim.id ≡ id
    is : IsJobOf lengths download.subject mirror claim.run job

  job_at : (id : ℕ) (granted : FetchGrant) → CameAt (history_of told) gid id mirror → (u : RunTurn) → Contains told u
      → u.answer.said ≡ said.Grant (grant.Fetch granted) → granted.claim ≡ id → JobAt id granted.job
  job_at id granted its u there is claim_is =
      let g = granted_at stay lengths_stay start told legal ties gid download added id mirror its u (grant.Fetch granted) there is
      (ap Some claim_is) in
      record {
        claim = g.claim;
        came = g.came;
        id_is = g.id_is;
        is = subst (λ (m : ℕ). IsJobOf lengths download.subject m g.claim.run granted.job) g.mirror_is g.asks;
      }

  has_blocks : (id : ℕ) (job : Job) → (at : JobAt id job) → 0 < at.claim.run.count
  has_blocks id job at =
      let some = at.is.sound.some in
      let same : job.run.count ≡ at.claim.run.count = ap (λ (r : Run). r.count) at.is.run_is in
      omega (arith, some, same)

  chosen_job : (id : ℕ) (job : Job) → (at : JobAt id job)
      → IsChosenJob download.options lengths download.subject mirror at.claim.run job
  chosen_job id job at =
      job_chosen follow claims start (history_of told) gid download legal added mirror at.claim job at.came at.is

  total_is : (content : Content) → ServesPayload content download.subject download.options mirror payload → (claim : Claim)
      → Contains (history_of told) (Claimed gid claim) → 0 < claim.run.count → lengths.total ≡ length payload
  total_is content serves claim came some =
      let known = lengths_known lengths_stay start (history_of told) gid claim legal came some in
      total_known (payload_lengths_of start (history_of told) gid) known.0 (length payload) known.1
      (total_by start (history_of told) gid download download.subject download.options payload content mirror known.0
      (listed_known start (history_of told) gid download added) known.1 serves right)

  -- ---- one place

  module _ (newer : List RunTurn) (t : RunTurn) (before : List RunTurn) (cut : told ≡ newer ++ t ∷ before) where
    may : MayComeAfter start before t
    may = may_at stay lengths_stay start told legal ties gid download added newer t before cut

    t_there : Contains told t
    t_there = subst (λ (l : List RunTurn). Contains l t) (sym cut)
        (Contains-append_right newer (t ∷ before) t (0, omega arith, refl))

    -- what came before it is in the whole history
    before_there : (e : Event) → Contains (history_of before) e → Contains (history_of told) e
    before_there e there = subst (λ (l : List RunTurn). Contains (history_of l) e) (sym cut)
        (there_on newer (t ∷ before) e (there_on (t ∷ []) before e there))

    legal_cut : IsLegal start (history_of (newer ++ t ∷ before))
    legal_cut = subst (λ (l : List RunTurn). IsLegal start (history_of l)) cut legal

    legal_here : IsLegal start (history_of (t ∷ before))
    legal_here = legal_on start newer (t ∷ before) legal_cut

    -- the lengths were known where blocks are delivered
    same_lengths : (id : ℕ) (run : Run) (bytes : List ℕ) (now : Moment) (e : Event) (claim : Claim)
        → t.op ≡ operation.Deliver id run bytes now → Contains t.events e
        → Contains (history_of told) (Claimed gid claim) → claim.id ≡ id → 0 < claim.run.count
        → lengths ≡ known_lengths start (history_of before) gid
    same_lengths id run bytes now e claim op there came id_is some =
        let home = deliver_home start before t id run bytes now e may op there in
        let stood = standing_came start home.0.gid home.1 (history_of before) home.2.stands in
        let same = claims_one start (history_of told) home.0.gid gid home.1 claim legal
        (before_there (Claimed home.0.gid home.1) stood) came (home.2.id_is ∙ sym id_is) in
        let came_before : Contains (history_of before) (Claimed gid claim) =
        subst (λ (c : Claim). Contains (history_of before) (Claimed gid c)) same.claims
        (subst (λ (g : Gid). Contains (history_of before) (Claimed g home.1)) same.gids stood) in
        let known = lengths_known lengths_stay start (history_of before) gid claim (legal_on start (t ∷ []) before legal_here)
        came_before some in
        let later = lengths_on lengths_stay start newer (t ∷ before) gid known.0 legal_cut
        (lengths_on lengths_stay start (t ∷ []) before gid known.0 legal_here known.1) in
        let at_end = subst (λ (l : List RunTurn). payload_lengths_of start (history_of l) gid ≡ Some known.0) (sym cut) later in
        same_known (payload_lengths_of start (history_of told) gid) (payload_lengths_of start (history_of before) gid) known.0 at_end
        known.1

    landed_right : (id : ℕ) (run part : Run) (bytes : List ℕ) (now at : Moment) → t.op ≡ operation.Deliver id run bytes now
        → Contains t.events (Landed gid id mirror part at)
        → bytes ≡ run_bytes (known_lengths start (history_of before) gid) payload run
    landed_right id run part bytes now at op there =
        let e = Landed gid id mirror part at in
        let its = landed_came start (history_of told) gid id mirror part at legal
        (subst (λ (l : List RunTurn). Contains (history_of l) e) (sym cut) (brought_there newer t before e there)) in
        let one = served t t_there (subst UsesClaim (sym op) tt) in
        let b = one.blocks id run bytes now op in
        let job = job_at id b.granted its b.by.turn (one.within b.by.turn b.by.there) b.by.said_is b.claim_is in
        let some = has_blocks id b.granted.job job in
        b.right lengths job.claim.run (total_is one.content one.serves job.claim job.came some) (chosen_job id b.granted.job job)
        ∙ ap (λ (l : PayloadLengths). run_bytes l payload run)
        (same_lengths id run bytes now e job.claim op there job.came job.id_is some)

    lost_right : (id piece : ℕ) (mark : Mark) → Contains t.events (Lost gid id mirror piece mark) → 0 < mark.count
    lost_right id piece mark there =
        let brought = turn_brings start before t may (Lost gid id mirror piece mark) there in
        let op = brought.1 in
        let stands = brought.2 in
        let its : CameAt (history_of told) gid id mirror = record {
          claim = stands.claim;
          came = before_there (Claimed gid stands.claim)
              (standing_came start gid stands.claim (history_of before) stands.stands);
          id_is = stands.id_is;
          mirror_is = stands.so;
        } in
        let one = served t t_there (subst UsesClaim (sym op) tt) in
        ⊎_elim
        (λ (l : RightFetchLoss one.before download.subject download.options mirror payload id mark).
        let job = job_at id l.granted its l.by.turn (one.within l.by.turn l.by.there) l.by.said_is l.claim_is in
        l.right lengths job.claim.run
        (total_is one.content one.serves job.claim job.came (has_blocks id l.granted.job job)) (chosen_job id l.granted.job job))
        (λ (l : RightProbeLoss one.before download.subject download.options mirror payload id mark).
        let granted_there = one.within l.by.turn l.by.there in
        let g = granted_at stay lengths_stay start told legal ties gid download added id mirror its l.by.turn
        (grant.Probe id l.gid l.url) granted_there l.by.said_is refl in
        l.right
        (probe_unlisted stay lengths_stay start told legal ties gid download added id mirror its l.by.turn l.gid l.url
        granted_there l.by.said_is)
        (g.asks ∙ ap (mirror_url download.subject) g.mirror_is))
        (one.losses id mark brought.0 op)

    faithful_turn : IsFaithfulTurn start gid mirror payload before t
    faithful_turn = record { landed = landed_right; lost = lost_right }

  pub faithful : IsFaithful start gid mirror payload told
  faithful = all_at_places (IsFaithfulTurn start gid mirror payload) told faithful_turn

pub served_faithfully : ServingLaws → DownloadsStay → LengthsStay → BlocksFollow → ClaimsAreOfChosen → ServedClaimsAreFaithful
served_faithfully laws stay lengths_stay follow claims tells start told gid download mirror payload true_is legal ties added right
    served =
    faithful stay lengths_stay follow claims start told gid download mirror payload legal ties added right
    (λ t there uses. right_turn laws tells true_is told download.subject download.options mirror payload t (served t there uses))
