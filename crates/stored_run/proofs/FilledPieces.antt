-- Pieces that a delivery fills, one after another.
use Rattle.std.proofs.Common.{◌≡◌, ◌⊎◌, inl, inr, ⊎_elim, ℕ, ◌<◌, ◌≤◌, ◌+◌, Bool, true, false, Option, Some, None, List, [], ◌∷◌, ◌++◌, length, refl, sym, ap, ◌∙◌, subst, arith}
use Rattle.std.specs.Prelude.{◌↔◌, All, AllPairs, Contains, IsTrue, slice_index_or}
use Rattle.std.specs.Option.{is_some}
use Rattle.std.proofs.lemmas.Bool.{cases_eq}
use Rattle.std.proofs.lemmas.List.{append-nil, append_assoc}
use Rattle.std.proofs.lemmas.List.Elements.{All-get_or, All-push, All-weaker, Contains-append_left, Contains-push}
use Rattle.std.proofs.lemmas.List.Quantifiers.{all_pairs_push}
use Rattle.dl_history.specs.AccountLaws.{AccountsMatchEvents, MatchesEvents}
use Rattle.dl_history.specs.Accounts.{Account, account_of}
use Rattle.dl_history.specs.HistoryLaws.{IsFullIn}
use Rattle.dl_history.specs.OwnEvents.{OwnEvent, Settles}
use Rattle.dl_history.specs.OwnLegal.{LegalOwn, MaySettle}
use Rattle.dl_history.specs.PayloadParts.{is_opened, is_settled_in, is_verified_in}
use Rattle.dl_history.proofs.Bools.{not_true, true_not_false}
use Rattle.dl_kinds.specs.Plan.{IsPlan, blocks_of, piece_of, pieces_of}
use Rattle.dl_kinds.specs.PlanLaws.{BlocksAreOfPieces, PlacesAreNumbered}
use Rattle.dl_kinds.specs.declared.gid.Gid.{Gid}
use Rattle.dl_kinds.specs.declared.runs.Run.{Run}
use Rattle.engine_turns.specs.ClaimRows.{AreFilled, IsFilled, filled_phase}
use Rattle.engine_turns.specs.Phases.{AllRightPhase, AndThen, FindingPhase, NoEvent, TurnStart}
use Rattle.engine_turns.specs.Told.{history_after}
use Rattle.engine_turns.specs.declared.outcome.Outcome.{Outcome}
use Rattle.engine_turns.specs.declared.outcome.Outcome.TheVariants.{Went}
use Rattle.machine_core.specs.OwnParts.{PayloadLengths, own_of}
use Rattle.machine_core.specs.Reads.{lengths_of_gid}
use Rattle.machine_core.specs.RunLegal.{download_in, is_listed, known_lengths}
use Rattle.machine_core.specs.Starts.{Download, RunStart}
use Rattle.machine_core.specs.declared.events.Event.{Event}
use Rattle.machine_core.specs.declared.events.Event.TheVariants.{Settled}
use Rattle.one_download.proofs.Blocks.{blocks_of_full, full_of_blocks}
use Rattle.piece_table.specs.Progress.{IsFull, Progress}
use Rattle.piece_table.specs.declared.giver.Giver.{Giver}
use Rattle.piece_table.specs.declared.giver.Giver.TheVariants.{Nobody}
use Rattle.stored_run.specs.Deliveries.{AreFullBeside, AreUnsettled, CountsFilled, CountsPiece, FillsPieces, IsAmong, IsFullBeside, IsUnsettledWhereFull, MarksFilled, filling_phase, last_piece, mark_at}
use Rattle.stored_run.specs.RunFollows.{RunFollows}
use Rattle.stored_run.specs.Steps.{Continues, DoesPart, turn_from}
use Rattle.stored_run.specs.Views.{own_in}
use Rattle.stored_run.specs.declared.run.StoredView.{StoredView}
use Rattle.stored_run.proofs.Doing.{IsGrown, did_wider, grown_none, history_on, part_on}
use Rattle.stored_run.proofs.Findings.{gid_found, same_lengths, settled_own}
use Rattle.stored_run.proofs.OwnFindings.{TellsSame, tells_after}
use Rattle.stored_run.proofs.Parts.{grown_by}
use Rattle.stored_run.proofs.Single.{moved, own_then}

-- ---- what a table tells

pub full_told : BlocksAreOfPieces → PlacesAreNumbered → AccountsMatchEvents → (total len : ℕ) (own : List OwnEvent)
    (piece : ℕ) (full : Bool) → IsPlan total len → LegalOwn total len own → is_opened own ≡ true
    → piece < pieces_of total len
    → IsTrue full ↔ IsFull (account_of total len own).progress.total (account_of total len own).progress.piece_len
    (account_of total len own).progress.landed piece
    → IsTrue full ↔ IsFullIn total len own piece
full_told of_pieces numbered accounts total len own piece full plan legal opened below says =
    let k : Account = account_of total len own in
    let matches : MatchesEvents total len own k = accounts total len own (λ is. plan) legal in
    let rows = matches.rows opened in
    let p : Progress = k.progress in
    let plan_is : IsPlan p.total p.piece_len = rw (rows.total_is, rows.piece_len_is) plan in
    let long : length p.landed ≡ blocks_of p.total p.piece_len = rw (rows.total_is, rows.piece_len_is) rows.landed in
    let below_is : piece < pieces_of p.total p.piece_len = rw (rows.total_is, rows.piece_len_is) below in (
      λ is b within of.
          sym (matches.blocks b within)
          ∙ blocks_of_full p piece of_pieces plan_is long (says.0 is) b
          (rw (rows.total_is, rows.piece_len_is) within) (rw rows.piece_len_is of),
      λ all. says.1 (full_of_blocks p piece numbered plan_is below_is
          (λ b within of.
          let here : b < blocks_of total len =
          subst (λ (n : ℕ). b < blocks_of total n) rows.piece_len_is
          (subst (λ (n : ℕ). b < blocks_of n p.piece_len) rows.total_is within) in
          matches.blocks b here
          ∙ all b here (subst (λ (n : ℕ). piece_of n b ≡ piece) rows.piece_len_is of))),
    )

-- ---- the phase

module _ (at : TurnStart) (download : Download) where
  right_on : (xs ys : List ℕ) (past front rest : List Event) (o : Outcome)
      → AllRightPhase at download xs past front Went → AllRightPhase at download ys (history_after past front) rest o
      → AllRightPhase at download (xs ++ ys) past (front ++ rest) o
  right_on [] ys past front rest o none next =
      subst (λ (f : List Event). AllRightPhase at download ys past (f ++ rest) o) (sym none)
      (subst (λ (f : List Event). AllRightPhase at download ys (history_after past f) rest o) none next)
  right_on (x ∷ xs) ys past front rest o (inl stopped) next = absurd (stopped.1 refl)
  right_on (x ∷ xs) ys past front rest o (inr went) next = inr (record {
    front = went.front;
    rest = went.rest ++ rest;
    cut = ap (λ (f : List Event). f ++ rest) went.cut ∙ append_assoc went.front went.rest rest;
    first = went.first;
    second = right_on xs ys (history_after past went.front) went.rest rest o went.second
        (subst (λ (p : List Event). AllRightPhase at download ys p rest o)
        (ap (history_after past) went.cut ∙ history_on past went.front went.rest) next);
  })

  pub right_seam : (xs ys : List ℕ) (past events : List Event)
      → AndThen (AllRightPhase at download xs) (AllRightPhase at download ys) past events Went
      → AllRightPhase at download (xs ++ ys) past events Went
  right_seam xs ys past events (inl stopped) = absurd (stopped.1 refl)
  right_seam xs ys past events (inr went) =
      subst (λ (f : List Event). AllRightPhase at download (xs ++ ys) past f Went) (sym went.cut)
      (right_on xs ys past went.front went.rest Went went.first went.second)

  -- a single piece
  pub right_one : (piece : ℕ) (past events : List Event) → FindingPhase at download.gid piece true past events Went
      → AllRightPhase at download (piece ∷ []) past events Went
  right_one piece past events is = inr (record {
    front = events;
    rest = [];
    cut = sym (append-nil events);
    first = inr (record { front = events; rest = []; cut = sym (append-nil events); first = is; second = refl });
    second = refl;
  })

-- ---- a finding

module _ {D : Type 0} (old new : StoredView D) (gid : Gid) (piece : ℕ) (f f' : ℕ)
    (start : new.machine.start ≡ old.machine.start)
    (did : DoesPart (λ at. FindingPhase at gid piece true) old f new f' Went) where
  pub record FoundRight : Type 0 where
    pub giver : Giver
    pub own : own_in new gid ≡ Settles piece true giver ∷ own_in old gid
    pub lengths : lengths_of_gid new.machine gid ≡ lengths_of_gid old.machine gid

  pub found_right : FoundRight
  found_right =
      let is = did.is f (omega arith) in
      let e = Settled gid piece true is.0 in
      let s = old.machine.start in
      let p = old.machine.past in
      let past : new.machine.past ≡ e ∷ p = did.grown ∙ ap (history_after p) is.2 in
      record {
        giver = is.0;
        own = moved (λ (s' : RunStart) (p' : List Event). own_of s' p' gid ≡ Settles piece true is.0 ∷ own_in old gid) s
            new.machine.start (e ∷ p) new.machine.past start past
            (own_then e gid (Settles piece true is.0) s p (settled_own gid piece true is.0));
        lengths = moved (λ (s' : RunStart) (p' : List Event). known_lengths s' p' gid ≡ lengths_of_gid old.machine gid) s
            new.machine.start (e ∷ p) new.machine.past start past
            (same_lengths s p gid e (Settles piece true is.0) (settled_own gid piece true is.0) refl refl);
      }

-- a piece that is full, unverified and not settled since may be found right
pub right_may : RunFollows → (start : RunStart) (past : List Event) (gid : Gid) (piece : ℕ) (download : Download)
    → download_in start past gid ≡ Some download
    → IsPlan (known_lengths start past gid).total (known_lengths start past gid).piece_len
    → LegalOwn (known_lengths start past gid).total (known_lengths start past gid).piece_len (own_of start past gid)
    → is_opened (own_of start past gid) ≡ true
    → piece < pieces_of (known_lengths start past gid).total (known_lengths start past gid).piece_len
    → IsFullIn (known_lengths start past gid).total (known_lengths start past gid).piece_len (own_of start past gid) piece
    → is_verified_in (own_of start past gid) piece ≡ false
    → is_settled_in (known_lengths start past gid).piece_len (own_of start past gid) piece ≡ false
    → (giver : Giver) × MaySettle (known_lengths start past gid).total (known_lengths start past gid).piece_len
    (own_of start past gid) piece giver
right_may laws start past gid piece download added plan legal opened below full unverified anew =
    let l = known_lengths start past gid in
    let own = own_of start past gid in
    let matches = laws.accounts l.total l.piece_len own (λ is. plan) legal in
    let giver = slice_index_or (account_of l.total l.piece_len own).progress.givers piece Nobody in (
      giver,
      record {
        opened = opened;
        within = below;
        full = full;
        unverified = unverified;
        anew = anew;
        givers = (matches.pieces piece below).giver;
      },
    )

-- ---- the loop

-- of the pieces before a place those that are full beside the row count as right
pub record FilledUpTo (lengths : PayloadLengths) (was own : List OwnEvent) (run : Run) (row : List Bool) (place : ℕ)
    (pieces : List ℕ) : Type 0 where
  pub exact : (p : ℕ) → p < place → IsFullBeside lengths was run row p → Contains pieces p
  pub only : All (IsFullBeside lengths was run row) pieces
  pub below : All (λ p. p < place) pieces
  pub ascending : AllPairs (λ earlier later. earlier < later) pieces
  pub rest : (p : ℕ) → place ≤ p → TellsSame lengths.total lengths.piece_len was own p

pub filled_none : (lengths : PayloadLengths) (was : List OwnEvent) (run : Run) (row : List Bool) (place : ℕ)
    → ((p : ℕ) → p < place → IsFullBeside lengths was run row p → ⊥) → FilledUpTo lengths was was run row place []
filled_none lengths was run row place none = record {
  exact = λ p less is. absurd (none p less is);
  only = λ i d within. absurd (omega arith);
  below = λ i d within. absurd (omega arith);
  ascending = λ i j d less within. absurd (omega arith);
  rest = λ p more. record { full = λ h. h; still = λ h. h; verified = refl; settled = refl };
}

one_of : (place p : ℕ) → p < place + 1 → (p < place) ⊎ (p ≡ place)
one_of place p less = ⊎_elim (λ here. inr here) (λ other. inl (omega (arith, less, other))) (cases_eq p place)

module _ (lengths : PayloadLengths) (was own : List OwnEvent) (run : Run) (row : List Bool) (place : ℕ)
    (pieces : List ℕ) (so : FilledUpTo lengths was own run row place pieces) where
  pub filled_past : (IsFullBeside lengths was run row place → ⊥) → FilledUpTo lengths was own run row (place + 1) pieces
  filled_past none = record {
    exact = λ p less is. ⊎_elim (λ below. so.exact p below is)
        (λ (here : p ≡ place). absurd (none (subst (IsFullBeside lengths was run row) here is))) (one_of place p less);
    only = so.only;
    below = All-weaker (λ (p : ℕ). p < place) (λ (p : ℕ). p < place + 1) (λ p less. omega (arith, less)) pieces so.below;
    ascending = so.ascending;
    rest = λ p more. so.rest p (omega (arith, more));
  }

  pub filled_next : (giver : Giver) → IsFullBeside lengths was run row place
      → FilledUpTo lengths was (Settles place true giver ∷ own) run row (place + 1) (pieces ++ place ∷ [])
  filled_next giver here = record {
    exact = λ p less is. ⊎_elim
        (λ below. Contains-append_left pieces (place ∷ []) p (so.exact p below is))
        (λ (at : p ≡ place). subst (λ (q : ℕ). Contains (pieces ++ place ∷ []) q) (sym at) (Contains-push pieces place))
        (one_of place p less);
    only = All-push (IsFullBeside lengths was run row) pieces place so.only here;
    below = All-push (λ (p : ℕ). p < place + 1) pieces place
        (All-weaker (λ (p : ℕ). p < place) (λ (p : ℕ). p < place + 1) (λ p less. omega (arith, less)) pieces so.below)
        (omega arith);
    ascending = all_pairs_push (λ earlier later. earlier < later) pieces place so.ascending
        (λ k d within. All-get_or (λ (p : ℕ). p < place) pieces k d within so.below);
    rest = λ p more. tells_after lengths.total lengths.piece_len was own place p giver
        (λ is. absurd (omega (arith, is, more))) (so.rest p (omega (arith, more)));
  }

  pub filled_all : last_piece lengths run < place → AreFullBeside lengths was run row pieces
  filled_all behind = record {
    exact = λ p is. so.exact p (let to = is.among.to in omega (arith, to, behind)) is;
    only = so.only;
    ascending = so.ascending;
  }

-- ---- since an earlier history

pub are_filled : (lengths : PayloadLengths) (before own : List OwnEvent) (run : Run) (row : List Bool) (pieces : List ℕ)
    → last_piece lengths run < pieces_of lengths.total lengths.piece_len
    → MarksFilled lengths before own run row → AreFullBeside lengths own run row pieces
    → AreFilled lengths before own pieces
are_filled lengths before own run row pieces last marks are = record {
  exact = λ piece below filled.
      let among = marks.only piece below filled in
      are.exact piece (record {
        among = among;
        full = filled.0;
        unmarked = not_true (mark_at lengths run row piece) (λ is. filled.1 ((marks.told piece among).0 is));
      });
  only = All-weaker (IsFullBeside lengths own run row)
      (λ piece. (piece < pieces_of lengths.total lengths.piece_len) × IsFilled lengths before own piece)
      (λ piece is. (
        let to = is.among.to in omega (arith, to, last),
        (is.full, λ full. true_not_false (mark_at lengths run row piece) ((marks.told piece is.among).1 full) is.unmarked),
      ))
      pieces are.only;
  ascending = are.ascending;
}

filled_by : (at : TurnStart) (before past events : List Event) (download : Download) (listed : Bool) (pieces : List ℕ)
    → (listed ≡ false → AreFilled (known_lengths at.start past download.gid) (own_of at.start before download.gid)
    (own_of at.start past download.gid) pieces)
    → filling_phase at download listed pieces past events Went → filled_phase at before download listed past events Went
filled_by at before past events download true pieces are is = is
filled_by at before past events download false pieces are is = (pieces, are refl, is)

pub filled_since : {D : Type 0} (old new : StoredView D) (gid : Gid) (run : Run) (row : List Bool) (f f' : ℕ)
    (download : Download) (before : List Event) → download.gid ≡ gid
    → last_piece (lengths_of_gid old.machine gid) run
    < pieces_of (lengths_of_gid old.machine gid).total (lengths_of_gid old.machine gid).piece_len
    → MarksFilled (lengths_of_gid old.machine gid) (own_of old.machine.start before gid) (own_in old gid) run row
    → FillsPieces old f new f' gid run row download
    → DoesPart (λ at. filled_phase at before download (is_listed download.subject)) old f new f' Went
filled_since old new gid run row f f' download before gid_is last marks fills =
    did_wider (λ n. filling_phase (turn_from old n) download (is_listed download.subject) fills.pieces)
    (λ n. filled_phase (turn_from old n) before download (is_listed download.subject)) old.machine.past f new.machine.past f'
    Went
    (λ n events came. filled_by (turn_from old n) before old.machine.past events download (is_listed download.subject)
    fills.pieces
    (λ un. subst (λ (g : Gid). AreFilled (known_lengths old.machine.start old.machine.past g)
    (own_of old.machine.start before g) (own_of old.machine.start old.machine.past g) fills.pieces) (sym gid_is)
    (are_filled (lengths_of_gid old.machine gid) (own_of old.machine.start before gid) (own_in old gid) run row fills.pieces
    last marks (fills.are un)))
    came)
    fills.did

-- ---- with digests, and without

module _ {D : Type 0} (old new : StoredView D) (f f' : ℕ) (gid : Gid) (run : Run) (row : List Bool)
    (download : Download) where
  pub fills_counted : is_listed download.subject ≡ false → CountsFilled old f new f' gid run row download
      → FillsPieces old f new f' gid run row download
  fills_counted un counted = record {
    pieces = counted.pieces;
    are = λ is. counted.are;
    did = subst (λ (b : Bool). DoesPart (λ at. filling_phase at download b counted.pieces) old f new f' Went) (sym un)
        counted.did;
  }

  pub fills_listed : is_listed download.subject ≡ true → DoesPart (λ at. NoEvent) old f new f' Went
      → FillsPieces old f new f' gid run row download
  fills_listed is did = record {
    pieces = [];
    are = λ un. true_not_false (is_listed download.subject) is un;
    did = subst (λ (b : Bool). DoesPart (λ at. filling_phase at download b []) old f new f' Went) (sym is) did;
  }

pub hash_none : (o : Option (List ℕ)) → is_some o ≡ false → o ≡ None
hash_none None is = refl
hash_none (Some h) is = absurd cc

-- ---- from one place of the loop to the next

module _ {D : Type 0} (F : D → ℕ) (gid : Gid) (run : Run) (row : List Bool) where
  -- the full pieces before the place count as right
  abbrev pub FilledSo : (old now : StoredView D) → ℕ → Type 0
  FilledSo old now place =
      (pieces : List ℕ)
      × FilledUpTo (lengths_of_gid old.machine gid) (own_in old gid) (own_in now gid) run row place pieces
      × ((download : Download) → download_in old.machine.start old.machine.past gid ≡ Some download
      → DoesPart (λ at. AllRightPhase at download pieces) old (F old.disk) now (F now.disk) Went)

  module _ (old mid new : StoredView D) (place n : ℕ) (marked : Bool) (on : Continues n old mid)
      (start : new.machine.start ≡ mid.machine.start)
      (lengths : lengths_of_gid mid.machine gid ≡ lengths_of_gid old.machine gid)
      (among : IsAmong (lengths_of_gid old.machine gid) run place)
      (mark : mark_at (lengths_of_gid old.machine gid) run row place ≡ marked) (so : FilledSo old mid place) where
    tells : TellsSame (lengths_of_gid old.machine gid).total (lengths_of_gid old.machine gid).piece_len (own_in old gid)
        (own_in mid gid) place
    tells = so.1.rest place (omega arith)

    full_then : IsFullIn (lengths_of_gid mid.machine gid).total (lengths_of_gid mid.machine gid).piece_len (own_in mid gid)
        place → IsFullIn (lengths_of_gid old.machine gid).total (lengths_of_gid old.machine gid).piece_len (own_in old gid)
        place
    full_then full =
        tells.full (subst (λ (l : PayloadLengths). IsFullIn l.total l.piece_len (own_in mid gid) place) lengths full)

    pub full_beside : marked ≡ false
        → IsFullIn (lengths_of_gid mid.machine gid).total (lengths_of_gid mid.machine gid).piece_len (own_in mid gid) place
        → IsFullBeside (lengths_of_gid old.machine gid) (own_in old gid) run row place
    full_beside un full = record { among = among; full = full_then full; unmarked = mark ∙ un }

    pub unsettled_here : AreUnsettled (lengths_of_gid old.machine gid) (own_in old gid) run row
        → IsUnsettledWhereFull (lengths_of_gid mid.machine gid) (own_in mid gid) place marked
    unsettled_here un = record {
      unverified = λ is full. tells.verified ∙ un.unverified place (full_beside is full);
      anew = λ is full. subst (λ (l : PayloadLengths). is_settled_in l.piece_len (own_in mid gid) place ≡ false) (sym lengths)
          (tells.settled ∙ un.anew place (full_beside is full));
    }

    counted_more : CountsPiece mid (F mid.disk) new (F new.disk) gid place marked → FilledSo old new (place + 1)
    counted_more counts =
        let found = found_right mid new gid place (F mid.disk) (F new.disk) start counts.did in (
          so.0 ++ place ∷ [],
          subst (λ (own : List OwnEvent). FilledUpTo (lengths_of_gid old.machine gid) (own_in old gid) own run row (place + 1)
              (so.0 ++ place ∷ [])) (sym found.own)
              (filled_next (lengths_of_gid old.machine gid) (own_in old gid) (own_in mid gid) run row place so.0 so.1
              found.giver (full_beside counts.unmarked counts.full)),
          λ download added.
              let gid_is = gid_found old.machine.start old.machine.past gid download added in
              let one = did_wider (λ k. FindingPhase (turn_from mid k) gid place true)
              (λ k. AllRightPhase (turn_from mid k) download (place ∷ [])) mid.machine.past (F mid.disk) new.machine.past
              (F new.disk) Went
              (λ k events came. right_one (turn_from mid k) download place mid.machine.past events
              (subst (λ (g : Gid). FindingPhase (turn_from mid k) g place true mid.machine.past events Went) (sym gid_is) came))
              counts.did in
              let both = part_on (λ at. AllRightPhase at download so.0) (λ at. AllRightPhase at download (place ∷ [])) old mid
              new n (F old.disk) (F mid.disk) (F new.disk) Went on (so.2 download added) one in
              did_wider (λ k. AndThen (AllRightPhase (turn_from old k) download so.0)
              (AllRightPhase (turn_from old k) download (place ∷ [])))
              (λ k. AllRightPhase (turn_from old k) download (so.0 ++ place ∷ [])) old.machine.past (F old.disk)
              new.machine.past (F new.disk) Went
              (λ k events came. right_seam (turn_from old k) download so.0 (place ∷ []) old.machine.past events came)
              both,
        )

    passed_by : (marked ≡ false → IsFullIn (lengths_of_gid mid.machine gid).total
        (lengths_of_gid mid.machine gid).piece_len (own_in mid gid) place → ⊥)
        → FilledSo old mid (place + 1)
    passed_by none = (
      so.0,
      filled_past (lengths_of_gid old.machine gid) (own_in old gid) (own_in mid gid) run row place so.0 so.1
          (λ is. none (sym mark ∙ is.unmarked)
          (subst (λ (l : PayloadLengths). IsFullIn l.total l.piece_len (own_in mid gid) place) (sym lengths)
          (tells.still is.full))),
      so.2,
    )

    pub filled_step : (b : Bool) → (b ≡ true → CountsPiece mid (F mid.disk) new (F new.disk) gid place marked)
        → (b ≡ false → new ≡ mid)
        → (b ≡ false → marked ≡ false → IsFullIn (lengths_of_gid mid.machine gid).total
        (lengths_of_gid mid.machine gid).piece_len (own_in mid gid) place → ⊥)
        → FilledSo old new (place + 1)
    filled_step true counts same none = counted_more (counts refl)
    filled_step false counts same none =
        subst (λ (w : StoredView D). FilledSo old w (place + 1)) (sym (same refl)) (passed_by (none refl))

    pub lengths_step : (b : Bool) → (b ≡ true → CountsPiece mid (F mid.disk) new (F new.disk) gid place marked)
        → (b ≡ false → new ≡ mid) → lengths_of_gid new.machine gid ≡ lengths_of_gid old.machine gid
    lengths_step true counts same =
        (found_right mid new gid place (F mid.disk) (F new.disk) start (counts refl).did).lengths ∙ lengths
    lengths_step false counts same =
        subst (λ (w : StoredView D). lengths_of_gid w.machine gid ≡ lengths_of_gid old.machine gid) (sym (same refl)) lengths

    pub grown_step : (b : Bool) → (b ≡ true → CountsPiece mid (F mid.disk) new (F new.disk) gid place marked)
        → (b ≡ false → new ≡ mid) → Continues 1 mid new → IsGrown (own_in mid gid) (own_in new gid)
    grown_step true counts same next =
        grown_by (λ at. FindingPhase at gid place true) mid new 1 (F mid.disk) (F new.disk) Went next (counts refl).did gid
    grown_step false counts same next =
        subst (λ (w : StoredView D). IsGrown (own_in mid gid) (own_in w gid)) (sym (same refl)) (grown_none (own_in mid gid))
