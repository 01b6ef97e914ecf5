-- A piece is found wrong and cleared.
use Rattle.std.proofs.Common.{◌≡◌, ◌∙◌, ◌≤◌, ◌<◌, ℕ, Bool, true, false, cond, Option, Some, None, List, [], ◌∷◌, inl, inr, refl, sym, ap, subst, arith}
use Rattle.std.specs.Prelude.{◌&&◌, ◌||◌, ◌==◌, not}
use Rattle.std.specs.Option.{is_some, unwrap_or}
use Rattle.std.proofs.lemmas.Bool.{eq-eqb}
use Rattle.std.proofs.lemmas.List.FromFn.{get_or-map-range_with_len}
use Rattle.std.proofs.lemmas.Option.{same_Some}
use Rattle.control_file.specs.declared.want.Want.{Want}
use Rattle.dl_history.specs.Listings.{ListsNone, is_block_listed, last_listing}
use Rattle.dl_history.specs.OwnEvents.{OwnEvent, Halts, Saves, Settles}
use Rattle.dl_history.specs.OwnLegal.{IsLossOf, MayClear, MaySave}
use Rattle.dl_history.specs.PayloadParts.{is_landed_in, is_sole_in, is_verified_in, is_wrong_in}
use Rattle.dl_kinds.specs.Plan.{blocks_of, piece_of}
use Rattle.dl_kinds.specs.declared.gid.Gid.{Gid}
use Rattle.dl_kinds.specs.declared.runs.Moment.{Moment}
use Rattle.piece_table.specs.declared.giver.Giver.{Giver}
use Rattle.machine_core.specs.DownloadWants.{HasWant}
use Rattle.machine_core.specs.MachineViews.{Appends, IsFindingOf, IsNext, MachineView}
use Rattle.machine_core.specs.OwnParts.{PayloadLengths, no_lengths, own_of, payload_lengths_of, with_own}
use Rattle.machine_core.specs.Reads.{IsUnlistedIn}
use Rattle.machine_core.specs.RunLegal.{IsLaterThan, IsLegal, LengthsStay, MayBeCleared, MayBeSettled, MayFollow, MayOwn, info_hash_by, is_listed, known_lengths}
use Rattle.machine_core.specs.Starts.{Download, Listed, RunStart, Subject, Unlisted}
use Rattle.machine_core.specs.declared.events.Event.{Event}
use Rattle.machine_core.specs.declared.events.Event.TheVariants.{Cleared, Saved, Settled}

pub own_here : (gid : Gid) (x : OwnEvent) (own : List OwnEvent) → with_own gid gid x own ≡ x ∷ own
own_here gid x own = rw (eq-eqb gid.0 gid.0 refl) refl

abbrev finding_at : MachineView → Gid → ℕ → Bool → Giver → Type 0
finding_at m gid piece right giver = MayFollow m.start m.past (Settled gid piece right giver)

pub found_may : (m : MachineView) (gid : Gid) (piece : ℕ) → (n : IsNext m (IsFindingOf gid piece true))
    → finding_at m gid piece true n.1.0
found_may m gid piece n = subst (MayFollow m.start m.past) n.1.1 n.2

hash_listed : (subject : Subject) → is_some (info_hash_by subject) ≡ true → is_listed subject ≡ true
hash_listed (Listed meta uris) is = refl
hash_listed (Unlisted uris) is = absurd cc

pub may_be_wrong : (m : MachineView) (gid : Gid) (piece : ℕ) (want : Want) → IsNext m (IsFindingOf gid piece true)
    → HasWant m.start m.past gid want → is_some want.info_hash ≡ true → IsNext m (IsFindingOf gid piece false)
may_be_wrong m gid piece want n h some =
    let giver = n.1.0 in
    let may : MayBeSettled m.start m.past gid (Settles piece true giver) true = found_may m gid piece n in
    let listed : is_listed h.download.subject ≡ true =
    hash_listed h.download.subject (ap is_some (sym h.is.info_hash) ∙ some) in
    let same : may.own.download ≡ h.download = same_Some may.own.download h.download (sym may.own.added ∙ h.added) in (
      Settled gid piece false giver,
      (giver, refl),
      record {
        own = record { download = may.own.download; added = may.own.added; may = may.own.may };
        right_is = λ unlisted. absurd (let f : true ≡ false =
            sym listed ∙ (ap (λ (d : Download). is_listed d.subject) (sym same) ∙ unlisted) in cc);
      },
    )

-- the piece is cleared after it was found wrong, where no save lists a block of it
cleared_by : (start : RunStart) (past : List Event) (gid : Gid) (piece : ℕ) (giver : Giver) (l : PayloadLengths)
    → MayBeSettled start past gid (Settles piece false giver) false
    → known_lengths start past gid ≡ l → known_lengths start (Settled gid piece false giver ∷ past) gid ≡ l
    → IsUnlistedIn start past gid piece → MayBeCleared start (Settled gid piece false giver ∷ past) gid piece
cleared_by start past gid piece giver l may before after unlisted =
    let own = own_of start past gid in
    let now : own_of start (Settled gid piece false giver ∷ past) gid ≡ Settles piece false giver ∷ own =
    ap (λ (b : Bool). cond b (Settles piece false giver ∷ own) own) (eq-eqb gid.0 gid.0 refl) in
    let same : known_lengths start past gid ≡ known_lengths start (Settled gid piece false giver ∷ past) gid =
    before ∙ sym after in
    let clears : MayClear (known_lengths start past gid).total (known_lengths start past gid).piece_len
    (Settles piece false giver ∷ own) piece =
    record {
      within = may.own.may.within;
      cause = inr (inl (refl, refl));
      unlisted = unlisted;
    } in
    record {
      own = record {
        download = may.own.download;
        added = may.own.added;
        may = subst (λ (o : List OwnEvent). MayClear
            (known_lengths start (Settled gid piece false giver ∷ past) gid).total
            (known_lengths start (Settled gid piece false giver ∷ past) gid).piece_len o piece) (sym now)
            (subst (λ (k : PayloadLengths). MayClear k.total k.piece_len (Settles piece false giver ∷ own) piece) same clears);
      };
      direct = λ loss. absurd (subst (IsLossOf piece) now loss);
    }

pub may_clear : LengthsStay → (old new : MachineView) (gid : Gid) (piece : ℕ) (lengths : PayloadLengths)
    → IsLegal old.start old.past → payload_lengths_of old.start old.past gid ≡ Some lengths
    → IsUnlistedIn old.start old.past gid piece → Appends old new (IsFindingOf gid piece false)
    → MayFollow new.start new.past (Cleared gid piece)
may_clear stay old new gid piece lengths legal known unlisted a =
    let giver = a.is.0 in
    let past = Settled gid piece false giver ∷ old.past in
    let may : MayBeSettled old.start old.past gid (Settles piece false giver) false =
    subst (MayFollow old.start old.past) a.is.1 a.may in
    let next : payload_lengths_of old.start past gid ≡ Some lengths =
    stay old.start old.past (Settled gid piece false giver) gid lengths (legal, may) known in
    let past_is : new.past ≡ past = a.past_is ∙ ap (λ (e : Event). e ∷ old.past) a.is.1 in
    subst (λ (start : RunStart). MayBeCleared start new.past gid piece) (sym a.start_is)
    (subst (λ (p : List Event). MayBeCleared old.start p gid piece) (sym past_is)
    (cleared_by old.start old.past gid piece giver lengths may (ap (λ (o : Option PayloadLengths). unwrap_or o no_lengths) known)
    (ap (λ (o : Option PayloadLengths). unwrap_or o no_lengths) next) unlisted))

-- ---- a wrong piece that a save lists

-- the event that came
pub finding_is : (old new : MachineView) (gid : Gid) (piece : ℕ) → (a : Appends old new (IsFindingOf gid piece false))
    → MayBeSettled old.start old.past gid (Settles piece false a.is.0) false
finding_is old new gid piece a = subst (MayFollow old.start old.past) a.is.1 a.may

pub finding_past : (old new : MachineView) (gid : Gid) (piece : ℕ) → (a : Appends old new (IsFindingOf gid piece false))
    → new.past ≡ Settled gid piece false a.is.0 ∷ old.past
finding_past old new gid piece a = a.past_is ∙ ap (λ (e : Event). e ∷ old.past) a.is.1

save_after : (start : RunStart) (past : List Event) (gid : Gid) (piece : ℕ) (giver : Giver) (now : Moment)
    → MayOwn start past gid (Halts true) → MayBeSettled start past gid (Settles piece false giver) false
    → IsLaterThan past now → MayFollow start (Settled gid piece false giver ∷ past) (Saved gid now)
save_after start past gid piece giver now going may later = (
  record {
    download = may.own.download;
    added = may.own.added;
    may = subst MaySave (sym (own_here gid (Settles piece false giver) (own_of start past gid)))
        (record { opened = may.own.may.opened; going = going.may refl });
  },
  later,
)

-- what was found wrong may be saved
pub may_save : (old new : MachineView) (gid : Gid) (piece : ℕ) (now : Moment)
    → MayOwn old.start old.past gid (Halts true) → IsLaterThan old.past now → Appends old new (IsFindingOf gid piece false)
    → MayFollow new.start new.past (Saved gid now)
may_save old new gid piece now going later a =
    subst (λ (start : RunStart). MayFollow start new.past (Saved gid now)) (sym a.start_is)
    (subst (λ (p : List Event). MayFollow old.start p (Saved gid now)) (sym (finding_past old new gid piece a))
    (save_after old.start old.past gid piece a.is.0 now going (finding_is old new gid piece a) later))

here_true : (piece : ℕ) → (piece == piece) ≡ true
here_true piece = eq-eqb piece piece refl

unlisted_block : (landed verified sole wrong : Bool) → verified ≡ false → wrong ≡ true
    → (landed && (verified || not sole && not wrong)) ≡ false
unlisted_block true verified true wrong un is = rw un refl
unlisted_block true verified false wrong un is = rw (un, is) refl
unlisted_block false verified sole wrong un is = refl

-- the save lists no block of it
unlists : (total len : ℕ) (own : List OwnEvent) (piece : ℕ) (giver : Giver) (now : Moment)
    → is_verified_in own piece ≡ false
    → ListsNone total len (last_listing total len (Saves now ∷ Settles piece false giver ∷ own)) piece
unlists total len own piece giver now un b below of =
    let after : List OwnEvent = Settles piece false giver ∷ own in
    let verified : is_verified_in after piece ≡ false = rw (here_true piece) un in
    let wrong : is_wrong_in after piece ≡ true = rw (here_true piece) refl in
    get_or-map-range_with_len (is_block_listed len after) 0 (blocks_of total len) b b false below (omega arith)
    ∙ unlisted_block (is_landed_in len after b) (is_verified_in after (piece_of len b)) (is_sole_in after (piece_of len b))
    (is_wrong_in after (piece_of len b)) (ap (is_verified_in after) of ∙ verified) (ap (is_wrong_in after) of ∙ wrong)

saved_own : (start : RunStart) (past : List Event) (gid : Gid) (piece : ℕ) (giver : Giver) (now : Moment)
    → own_of start (Saved gid now ∷ Settled gid piece false giver ∷ past) gid
    ≡ Saves now ∷ Settles piece false giver ∷ own_of start past gid
saved_own start past gid piece giver now =
    own_here gid (Saves now) (own_of start (Settled gid piece false giver ∷ past) gid)
    ∙ ap (λ (own : List OwnEvent). Saves now ∷ own) (own_here gid (Settles piece false giver) (own_of start past gid))

saved_clears : (start : RunStart) (past : List Event) (gid : Gid) (piece : ℕ) (giver : Giver) (now : Moment)
    → MayBeSettled start past gid (Settles piece false giver) false
    → known_lengths start past gid ≡ known_lengths start (Saved gid now ∷ Settled gid piece false giver ∷ past) gid
    → MayBeCleared start (Saved gid now ∷ Settled gid piece false giver ∷ past) gid piece
saved_clears start past gid piece giver now may same =
    let k = known_lengths start past gid in
    let after = Saved gid now ∷ Settled gid piece false giver ∷ past in
    let is = saved_own start past gid piece giver now in
    let clears : MayClear k.total k.piece_len (Saves now ∷ Settles piece false giver ∷ own_of start past gid) piece =
    record {
      within = may.own.may.within;
      cause = inr (inl (refl, refl));
      unlisted = unlists k.total k.piece_len (own_of start past gid) piece giver now may.own.may.unverified;
    } in
    record {
      own = record {
        download = may.own.download;
        added = may.own.added;
        may = subst (λ (o : List OwnEvent). MayClear (known_lengths start after gid).total
            (known_lengths start after gid).piece_len o piece) (sym is)
            (subst (λ (l : PayloadLengths). MayClear l.total l.piece_len
            (Saves now ∷ Settles piece false giver ∷ own_of start past gid) piece) same clears);
      };
      direct = λ loss. absurd (subst (IsLossOf piece) is loss);
    }

pub both_lengths : (start : RunStart) (past after : List Event) (gid : Gid) (l : PayloadLengths)
    → payload_lengths_of start past gid ≡ Some l → payload_lengths_of start after gid ≡ Some l
    → known_lengths start past gid ≡ known_lengths start after gid
both_lengths start past after gid l before is = ap (λ (o : Option PayloadLengths). unwrap_or o no_lengths) (before ∙ sym is)

pub record IsSized (start : RunStart) (past : List Event) (gid : Gid) : Type 0 where
  pub lengths : PayloadLengths
  pub known : payload_lengths_of start past gid ≡ Some lengths

sized_as : (o : Option PayloadLengths) → is_some o ≡ true → (l : PayloadLengths) × (o ≡ Some l)
sized_as (Some l) is = (l, refl)
sized_as None is = absurd cc

pub is_sized : (start : RunStart) (past : List Event) (gid : Gid) → is_some (payload_lengths_of start past gid) ≡ true
    → IsSized start past gid
is_sized start past gid is =
    let found = sized_as (payload_lengths_of start past gid) is in
    record { lengths = found.0; known = found.1 }

-- once it is saved, it may be cleared
pub may_clear_saved : LengthsStay → (old found new : MachineView) (gid : Gid) (piece : ℕ) (now : Moment)
    → IsLegal old.start old.past → IsSized old.start old.past gid → MayOwn old.start old.past gid (Halts true)
    → IsLaterThan old.past now → Appends old found (IsFindingOf gid piece false)
    → Appends found new (λ e. e ≡ Saved gid now) → MayFollow new.start new.past (Cleared gid piece)
may_clear_saved stay old found new gid piece now legal sized going later a s =
    let giver = a.is.0 in
    let may = finding_is old found gid piece a in
    let next = stay old.start old.past (Settled gid piece false giver) gid sized.lengths (legal, may) sized.known in
    let saves = save_after old.start old.past gid piece giver now going may later in
    let last = stay old.start (Settled gid piece false giver ∷ old.past) (Saved gid now) gid sized.lengths
    ((legal, may), saves) next in
    let past_is : new.past ≡ Saved gid now ∷ Settled gid piece false giver ∷ old.past =
    s.past_is ∙ (ap (λ (e : Event). e ∷ found.past) s.is
    ∙ ap (λ (p : List Event). Saved gid now ∷ p) (finding_past old found gid piece a)) in
    let start_is : new.start ≡ old.start = s.start_is ∙ a.start_is in
    subst (λ (start : RunStart). MayBeCleared start new.past gid piece) (sym start_is)
    (subst (λ (p : List Event). MayBeCleared old.start p gid piece) (sym past_is)
    (saved_clears old.start old.past gid piece giver now may
    (both_lengths old.start old.past (Saved gid now ∷ Settled gid piece false giver ∷ old.past) gid sized.lengths
    sized.known last)))
