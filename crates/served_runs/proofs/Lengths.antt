-- Lengths that probes told are right where their mirrors serve.
use Rattle.std.proofs.Common.{◌≡◌, ◌⊎◌, ◌∷◌, ◌++◌, ⊎_elim, inl, inr, ℕ, Bool, true, false, if◌then◌else◌, IsTrue, List, [], length, Option, None, Some, refl, sym, ap, subst, ◌∙◌, arith}
use Rattle.std.specs.Prelude.{Contains}
use Rattle.std.proofs.lemmas.Bool.{eqb-true}
use Rattle.std.proofs.lemmas.List.Elements.{Contains-append_right}
use Rattle.std.proofs.lemmas.Option.{none-some}
use Rattle.dl_kinds.specs.declared.claims.Claim.{Claim}
use Rattle.dl_kinds.specs.declared.gid.Gid.{Gid}
use Rattle.dl_history.specs.OwnEvents.{OwnEvent, Opens, Grants, Lands, Settles, Clears, Loses, Sizes, Saves, Checks, Halts}
use Rattle.dl_history.specs.PayloadParts.{told_total}
use Rattle.engine_turns.specs.NextRows.{mirror_url}
use Rattle.engine_turns.specs.RunTurns.{MayComeAfter}
use Rattle.engine_turns.specs.Told.{AllTurns, RunTurn, history_after, history_of}
use Rattle.engine_turns.specs.declared.operations.Grant.TheVariants as grant
use Rattle.machine_core.specs.OwnParts.{PayloadLengths, halted_where, halts_by, lengths_by, own_of, payload_lengths_of, told_lengths}
use Rattle.machine_core.specs.Replays.{is_same_gid}
use Rattle.machine_core.specs.RunLegal.{DownloadsStay, IsLegal, LengthsStay, download_in, is_listed}
use Rattle.machine_core.specs.Starts.{Download, RunStart, Subject, Listed, Unlisted}
use Rattle.machine_core.specs.declared.events.Event.{Event}
use Rattle.machine_core.specs.declared.events.Event.TheVariants.{Called, Opened, Sized, Claimed, Landed, Settled, Cleared, Lost, Checked, Saved, Ended, Left, Stopped}
use Rattle.run_lifecycle.proofs.Claims.{first_or_later, later_there, standing_came}
use Rattle.run_lifecycle.proofs.Rows.{turn_brings}
use Rattle.run_lifecycle.proofs.Turns.{none_there}
use Rattle.served_runs.specs.ServingLaws.{ComesOfServing, IsToldRight, ServedLengthsAreRight, TellsSize}
use Rattle.served_runs.proofs.ServedHistories.{CameAt, granted_at, listed_known, may_at, there_on}
use Rattle.served_runs.proofs.Owned.{length_turn}
use Rattle.served_runs.proofs.Rightly.{ServingLaws}

-- ---- a length in a history

pub record SizedIn (past : List Event) (gid : Gid) (total : ℕ) : Type 0 where
  pub id : ℕ
  pub there : Contains past (Sized gid id total)

sized_later : (e : Event) (past : List Event) (gid : Gid) (total : ℕ) → SizedIn past gid total → SizedIn (e ∷ past) gid total
sized_later e past gid total is = record { id = is.id; there = later_there e past (Sized gid is.id total) is.there }

-- what tells no length leaves the one that was told
total_where : (same : Bool) (x : OwnEvent) (own : List OwnEvent) → told_total (x ∷ own) ≡ told_total own
    → told_total (if same then x ∷ own else own) ≡ told_total own
total_where true x own skips = skips
total_where false x own skips = refl

total_halted : (halts : Bool) (own : List OwnEvent) → told_total (halted_where halts own) ≡ told_total own
total_halted true own = refl
total_halted false own = refl

module _ (start : RunStart) (gid : Gid) (total : ℕ) where
  -- an event that tells no length
  other_sized : (e : Event) (past : List Event) (told now : Option ℕ) → now ≡ told → now ≡ Some total
      → (told ≡ Some total → SizedIn past gid total) → SizedIn (e ∷ past) gid total
  other_sized e past told now same is before = sized_later e past gid total (before (sym same ∙ is))

  sized_here : (past : List Event) (other : Gid) (id said : ℕ) (own : List OwnEvent) (same : Bool)
      → is_same_gid gid other ≡ same → told_total (if same then Sizes id said ∷ own else own) ≡ Some total
      → (told_total own ≡ Some total → SizedIn past gid total) → SizedIn (Sized other id said ∷ past) gid total
  sized_here past other id said own true same is before =
      let gids : other ≡ gid = ap (λ (n : ℕ). record { 0 = n }) (eqb-true other.0 gid.0 same) in
      let totals : said ≡ total = (let some : Some said ≡ Some total = is in cc) in
      record { id = id; there = (0, omega arith, λ i. Sized (gids i) id (totals i)) }
  sized_here past other id said own false same is before =
      sized_later (Sized other id said) past gid total (before is)

  pub total_sized : (past : List Event) → told_total (own_of start past gid) ≡ Some total → SizedIn past gid total
  total_sized [] is = absurd (none-some total is)
  total_sized (Called session asked now ∷ past) is =
      other_sized (Called session asked now) past (told_total (own_of start past gid)) _
      (total_halted (halts_by start past (Called session asked now) asked gid) (own_of start past gid)) is (total_sized past)
  total_sized (Opened other verified blocks now ∷ past) is =
      other_sized (Opened other verified blocks now) past (told_total (own_of start past gid)) _
      (total_where (is_same_gid gid other) (Opens verified blocks now) (own_of start past gid) refl) is (total_sized past)
  total_sized (Sized other id said ∷ past) is =
      sized_here past other id said (own_of start past gid) (is_same_gid gid other) refl is (total_sized past)
  total_sized (Claimed other claim ∷ past) is =
      other_sized (Claimed other claim) past (told_total (own_of start past gid)) _
      (total_where (is_same_gid gid other) (Grants claim) (own_of start past gid) refl) is (total_sized past)
  total_sized (Landed other id mirror run now ∷ past) is =
      other_sized (Landed other id mirror run now) past (told_total (own_of start past gid)) _
      (total_where (is_same_gid gid other) (Lands id mirror run) (own_of start past gid) refl) is (total_sized past)
  total_sized (Settled other piece right giver ∷ past) is =
      other_sized (Settled other piece right giver) past (told_total (own_of start past gid)) _
      (total_where (is_same_gid gid other) (Settles piece right giver) (own_of start past gid) refl) is (total_sized past)
  total_sized (Cleared other piece ∷ past) is =
      other_sized (Cleared other piece) past (told_total (own_of start past gid)) _
      (total_where (is_same_gid gid other) (Clears piece) (own_of start past gid) refl) is (total_sized past)
  total_sized (Lost other id mirror piece mark ∷ past) is =
      other_sized (Lost other id mirror piece mark) past (told_total (own_of start past gid)) _
      (total_where (is_same_gid gid other) (Loses id mirror piece mark) (own_of start past gid) refl) is (total_sized past)
  total_sized (Checked other right ∷ past) is =
      other_sized (Checked other right) past (told_total (own_of start past gid)) _
      (total_where (is_same_gid gid other) (Checks right) (own_of start past gid) refl) is (total_sized past)
  total_sized (Saved other now ∷ past) is =
      other_sized (Saved other now) past (told_total (own_of start past gid)) _
      (total_where (is_same_gid gid other) (Saves now) (own_of start past gid) refl) is (total_sized past)
  total_sized (Ended other how ∷ past) is =
      other_sized (Ended other how) past (told_total (own_of start past gid)) _
      (total_where (is_same_gid gid other) (Halts true) (own_of start past gid) refl) is (total_sized past)
  total_sized (Left ∷ past) is = sized_later Left past gid total (total_sized past is)
  total_sized (Stopped ∷ past) is = sized_later Stopped past gid total (total_sized past is)

told_total_is : (piece_len : ℕ) (told : Option ℕ) (lengths : PayloadLengths) → told_lengths piece_len told ≡ Some lengths
    → told ≡ Some lengths.total
told_total_is piece_len None lengths is = absurd (none-some lengths is)
told_total_is piece_len (Some total) lengths is =
    let one : record { total = total; piece_len = piece_len } ≡ lengths =
    (let some : Some (record { total = total; piece_len = piece_len }) ≡ Some lengths = is in cc) in
    ap (λ (l : PayloadLengths). Some l.total) one

total_by_lengths : (download : Download) (uris : List (List ℕ)) (own : List OwnEvent) (known : Option PayloadLengths)
    (lengths : PayloadLengths) → known ≡ lengths_by download (Unlisted uris) own → known ≡ Some lengths
    → told_total own ≡ Some lengths.total
total_by_lengths download uris own known lengths by is = told_total_is _ (told_total own) lengths (sym by ∙ is)

-- ---- the turn that brought an event, the newest turn first

pub record BroughtIn (told : List RunTurn) (e : Event) : Type 0 where
  pub newer : List RunTurn
  pub turn : RunTurn
  pub before : List RunTurn
  pub cut : told ≡ newer ++ turn ∷ before
  pub there : Contains turn.events e

old_or_new : (past events : List Event) (x : Event) → Contains (history_after past events) x → Contains past x ⊎ Contains events x
old_or_new past [] x there = inl there
old_or_new past (e ∷ events) x there = ⊎_elim
    (λ (old : Contains (e ∷ past) x). ⊎_elim (λ (is : e ≡ x). inr (0, omega arith, is)) (λ (older : Contains past x). inl older)
    (first_or_later e past x old))
    (λ (new : Contains events x). inr (later_there e events x new)) (old_or_new (e ∷ past) events x there)

pub brought_in : (told : List RunTurn) (e : Event) → Contains (history_of told) e → BroughtIn told e
brought_in [] e there = none_there e there
brought_in (t ∷ before) e there = ⊎_elim
    (λ (old : Contains (history_of before) e).
    let rest = brought_in before e old in
    record {
      newer = t ∷ rest.newer;
      turn = rest.turn;
      before = rest.before;
      cut = λ i. t ∷ rest.cut i;
      there = rest.there;
    })
    (λ (new : Contains t.events e). record { newer = []; turn = t; before = before; cut = refl; there = new })
    (old_or_new (history_of before) t.events e there)

-- ---- the whole

module _ (laws : ServingLaws) (stay : DownloadsStay) (lengths_stay : LengthsStay) (tells : Bool) (start : RunStart)
    (told : List RunTurn) (gid : Gid) (download : Download) (payload : List ℕ) (true_is : IsTrue tells)
    (legal : IsLegal start (history_of told)) (ties : AllTurns (MayComeAfter start) told)
    (added : download_in start (history_of told) gid ≡ Some download)
    (served : (t : RunTurn) (claim : Claim) → Contains told t → TellsSize t.op → Contains (history_of told) (Claimed gid claim)
    → ComesOfServing tells told download.subject download.options claim.mirror payload t) where
  sized_right : is_listed download.subject ≡ false → (id total : ℕ) → Contains (history_of told) (Sized gid id total)
      → total ≡ length payload
  sized_right unlisted id total there =
      let by = brought_in told (Sized gid id total) there in
      let t = by.turn in
      let may = may_at stay lengths_stay start told legal ties gid download added by.newer t by.before by.cut in
      let brought = turn_brings start by.before t may (Sized gid id total) by.there in
      let op = brought.1 in
      let stands = brought.2 in
      let claim = stands.claim in
      let came : Contains (history_of told) (Claimed gid claim) =
      subst (λ (l : List RunTurn). Contains (history_of l) (Claimed gid claim)) (sym by.cut)
      (there_on by.newer (t ∷ by.before) (Claimed gid claim)
      (there_on (t ∷ []) by.before (Claimed gid claim)
      (standing_came start gid claim (history_of by.before) stands.stands))) in
      let its : CameAt (history_of told) gid id claim.mirror =
      record { claim = claim; came = came; id_is = stands.id_is; mirror_is = refl } in
      let t_there : Contains told t = subst (λ (l : List RunTurn). Contains l t) (sym by.cut)
      (Contains-append_right by.newer (t ∷ by.before) t (0, omega arith, refl)) in
      length_turn laws tells true_is told download.subject download.options claim.mirror payload t
      (served t claim t_there (subst TellsSize (sym op) tt) came) unlisted id total brought.0 op (λ u url granted_there said_is.
      let g = granted_at stay lengths_stay start told legal ties gid download added id claim.mirror its u
      (grant.Probe id url.0 url.1) granted_there said_is refl in
      g.asks ∙ ap (mirror_url download.subject) g.mirror_is)

  told_right : (subject : Subject) → download.subject ≡ subject
      → IsToldRight start (history_of told) gid payload subject
  told_right (Listed meta uris) is = tt
  told_right (Unlisted uris) is = λ lengths known.
      let own = own_of start (history_of told) gid in
      let by : payload_lengths_of start (history_of told) gid ≡ lengths_by download (Unlisted uris) own =
      listed_known start (history_of told) gid download added
      ∙ ap (λ (s : Subject). lengths_by download s own) is in
      let sized = total_sized start gid lengths.total (history_of told)
      (total_by_lengths download uris own (payload_lengths_of start (history_of told) gid) lengths by known) in
      sized_right (ap is_listed is) sized.id lengths.total sized.there

pub lengths_right : ServingLaws → DownloadsStay → LengthsStay → ServedLengthsAreRight
lengths_right laws stay lengths_stay tells start told gid download payload true_is legal ties added served =
    told_right laws stay lengths_stay tells start told gid download payload true_is legal ties added served download.subject refl
