-- What stays of a download, whatever comes next.
use Rattle.std.proofs.Common.{◌≡◌, ℕ, Bool, true, false, cond, Option, Some, None, List, [], ◌∷◌, refl, ap, sym, inl, inr, ◌∙◌, ⊎_elim, ◌<◌, ◌≤◌, length, subst, arith}
use Rattle.std.specs.Prelude.{Contains, eqb}
use Rattle.std.specs.List.{position_or_len}
use Rattle.std.proofs.lemmas.Bool.{cases_lt}
use Rattle.std.proofs.lemmas.List.Folds.{find_at, position_or_len_push}
use Rattle.std.proofs.lemmas.List.{length-append}
use Rattle.std.proofs.lemmas.Option.{slice_get_past}
use Rattle.std.specs.Option.{is_some, option_and_then}
use Rattle.dl_kinds.specs.declared.gid.Gid.{Gid}
use Rattle.dl_kinds.specs.declared.claims.Claim.{Claim}
use Rattle.dl_history.specs.OwnEvents.{OwnEvent, Opens, Grants, Lands, Settles, Clears, Loses, Sizes, Saves, Checks, Halts}
use Rattle.dl_history.specs.OwnLegal.{MayHappen, MaySize}
use Rattle.dl_history.specs.PayloadParts.{told_total}
use Rattle.dl_history.specs.StandingClaims.{standing_claims}
use Rattle.machine_core.specs.Starts.{RunStart, Download}
use Rattle.machine_core.specs.MachineViews.{NoneGoes, PlacesAreBehind, PlacesStay}
use Rattle.machine_core.specs.Replays.{replay_of, download_of, is_download, is_same_gid}
use Rattle.machine_core.specs.OwnParts.{PayloadLengths, own_of, with_own, halted_where, halts_by, lengths_by, payload_lengths_of}
use Rattle.machine_core.specs.RunLegal.{IsLegal, MayOwn, known_lengths, DownloadsStay, LengthsStay}
use Rattle.machine_core.specs.declared.events.Event.{Event}
use Rattle.machine_core.specs.declared.events.Event.TheVariants.{Called, Opened, Sized, Claimed, Landed, Settled, Cleared, Lost, Checked, Saved, Ended, Left, Stopped}
use Rattle.machine_core.proofs.Lists.{element_at}
use Rattle.machine_core.proofs.Parts.{Adds, call_adds, stays_added, gid_is, place_stays}
use Rattle.machine_core.proofs.Legal.{Laws, parts, idle, known_in, known_found, told_where}

some_is : (o : Option Download) (d : Download) → o ≡ Some d → is_some o ≡ true
some_is o d is = ap is_some is

pub downloads_stay : DownloadsStay
downloads_stay start past (Called session asked now) gid d is =
    stays_added gid (replay_of start past).downloads (replay_of start (Called session asked now ∷ past)).downloads
    (call_adds start (replay_of start past) asked) (some_is (download_of (replay_of start past).downloads gid) d is)
    ∙ is
downloads_stay start past (Opened other verified blocks now) gid d is = is
downloads_stay start past (Sized other id total) gid d is = is
downloads_stay start past (Claimed other claim) gid d is = is
downloads_stay start past (Landed other id mirror run now) gid d is = is
downloads_stay start past (Settled other piece right giver) gid d is = is
downloads_stay start past (Cleared other piece) gid d is = is
downloads_stay start past (Lost other id mirror piece mark) gid d is = is
downloads_stay start past (Checked other right) gid d is = is
downloads_stay start past (Saved other now) gid d is = is
downloads_stay start past (Ended other how) gid d is = is
downloads_stay start past Left gid d is = is
downloads_stay start past Stopped gid d is = is

-- ---- places

place_there : (gid : Gid) (ds : List Download) → is_some (download_of ds gid) ≡ true
    → position_or_len (is_download gid) ds < length ds
place_there gid ds there = ⊎_elim (λ within. within)
    (λ (past : length ds ≤ position_or_len (is_download gid) ds).
    let none : download_of ds gid ≡ None =
    find_at (is_download gid) ds ∙ slice_get_past ds (position_or_len (is_download gid) ds) past in
    absurd (let f : true ≡ false = sym there ∙ ap is_some none in cc))
    (cases_lt (position_or_len (is_download gid) ds) (length ds))

pub places_stay : PlacesStay
places_stay start past (Called session asked now) gid d is =
    place_stays (replay_of start past).downloads (replay_of start (Called session asked now ∷ past)).downloads gid
    (call_adds start (replay_of start past) asked)
    (place_there gid (replay_of start past).downloads (some_is (download_of (replay_of start past).downloads gid) d is))
places_stay start past (Opened other verified blocks now) gid d is = refl
places_stay start past (Sized other id total) gid d is = refl
places_stay start past (Claimed other claim) gid d is = refl
places_stay start past (Landed other id mirror run now) gid d is = refl
places_stay start past (Settled other piece right giver) gid d is = refl
places_stay start past (Cleared other piece) gid d is = refl
places_stay start past (Lost other id mirror piece mark) gid d is = refl
places_stay start past (Checked other right) gid d is = refl
places_stay start past (Saved other now) gid d is = refl
places_stay start past (Ended other how) gid d is = refl
places_stay start past Left gid d is = refl
places_stay start past Stopped gid d is = refl

none_below : (gid : Gid) (ds : List Download) → download_of ds gid ≡ None
    → length ds ≤ position_or_len (is_download gid) ds
none_below gid ds none = ⊎_elim
    (λ (within : position_or_len (is_download gid) ds < length ds).
    let e = element_at ds (position_or_len (is_download gid) ds) within in
    let found : download_of ds gid ≡ Some e.0 = find_at (is_download gid) ds ∙ e.1 in
    absurd (let f : None ≡ Some e.0 = sym none ∙ found in cc))
    (λ past. past)
    (cases_lt (position_or_len (is_download gid) ds) (length ds))

behind_where : (m n : ℕ) (last : ℕ) → m ≤ n → m ≤ last → m ≤ cond (eqb n m) last n
behind_where m n last one other = behind_by (eqb n m) m n last one other
  where
    behind_by : (t : Bool) (m n last : ℕ) → m ≤ n → m ≤ last → m ≤ cond t last n
    behind_by true m n last one other = other
    behind_by false m n last one other = one

added_behind : (gid : Gid) (old new : List Download) → Adds old new → download_of old gid ≡ None
    → length old ≤ position_or_len (is_download gid) new
added_behind gid old new (inl same) none =
    subst (λ (ds : List Download). length old ≤ position_or_len (is_download gid) ds) (sym same) (none_below gid old none)
added_behind gid old new (inr more) none =
    subst (λ (ds : List Download). length old ≤ position_or_len (is_download gid) ds) (sym more.1)
    (subst (λ (n : ℕ). length old ≤ n) (sym (position_or_len_push (is_download gid) old more.0))
    (behind_where (length old) (position_or_len (is_download gid) old) _ (none_below gid old none) (omega arith)))

pub places_behind : PlacesAreBehind
places_behind start past (Called session asked now) gid none =
    added_behind gid (replay_of start past).downloads (replay_of start (Called session asked now ∷ past)).downloads
    (call_adds start (replay_of start past) asked) none
places_behind start past (Opened other verified blocks now) gid none = none_below gid (replay_of start past).downloads none
places_behind start past (Sized other id total) gid none = none_below gid (replay_of start past).downloads none
places_behind start past (Claimed other claim) gid none = none_below gid (replay_of start past).downloads none
places_behind start past (Landed other id mirror run now) gid none = none_below gid (replay_of start past).downloads none
places_behind start past (Settled other piece right giver) gid none = none_below gid (replay_of start past).downloads none
places_behind start past (Cleared other piece) gid none = none_below gid (replay_of start past).downloads none
places_behind start past (Lost other id mirror piece mark) gid none = none_below gid (replay_of start past).downloads none
places_behind start past (Checked other right) gid none = none_below gid (replay_of start past).downloads none
places_behind start past (Saved other now) gid none = none_below gid (replay_of start past).downloads none
places_behind start past (Ended other how) gid none = none_below gid (replay_of start past).downloads none
places_behind start past Left gid none = none_below gid (replay_of start past).downloads none
places_behind start past Stopped gid none = none_below gid (replay_of start past).downloads none

no_fewer : (old new : List Download) → Adds old new → length old ≤ length new
no_fewer old new (inl same) = let n = ap length same in omega arith
no_fewer old new (inr more) = let n = ap length more.1 in let m = length-append old (more.0 ∷ []) in omega arith

pub none_goes : NoneGoes
none_goes start past (Called session asked now) =
    no_fewer (replay_of start past).downloads (replay_of start (Called session asked now ∷ past)).downloads
    (call_adds start (replay_of start past) asked)
none_goes start past (Opened other verified blocks now) = omega arith
none_goes start past (Sized other id total) = omega arith
none_goes start past (Claimed other claim) = omega arith
none_goes start past (Landed other id mirror run now) = omega arith
none_goes start past (Settled other piece right giver) = omega arith
none_goes start past (Cleared other piece) = omega arith
none_goes start past (Lost other id mirror piece mark) = omega arith
none_goes start past (Checked other right) = omega arith
none_goes start past (Saved other now) = omega arith
none_goes start past (Ended other how) = omega arith
none_goes start past Left = omega arith
none_goes start past Stopped = omega arith

-- an event of one download that tells no length
same_lengths : (start : RunStart) (past : List Event) (gid other : Gid) (e : OwnEvent) (lengths : PayloadLengths)
    → told_total (e ∷ own_of start past gid) ≡ told_total (own_of start past gid)
    → payload_lengths_of start past gid ≡ Some lengths
    → known_in (replay_of start past).downloads gid (with_own other gid e (own_of start past gid)) ≡ Some lengths
same_lengths start past gid other e lengths told is =
    known_found (download_of (replay_of start past).downloads gid) (own_of start past gid)
    (with_own other gid e (own_of start past gid))
    (told_where (is_same_gid gid other) (own_of start past gid) e told) ∙ is

pub halted_told : (t : Bool) (own : List OwnEvent) → told_total (halted_where t own) ≡ told_total own
halted_told true own = refl
halted_told false own = refl

-- none of its claims stands, so no probe tells a length
no_sizing : {P : Type 0} (own : List OwnEvent) (id : ℕ) → standing_claims own ≡ [] → MaySize own id → P
no_sizing own id none may =
    absurd (let c : Contains [] may.claim = subst (λ (cs : List Claim). Contains cs may.claim) none may.stands in
    let w = c.1 in omega arith)

sized_stays : (laws : Laws) (start : RunStart) (past : List Event) (gid other : Gid) (id total : ℕ)
    (lengths : PayloadLengths) → IsLegal start past
    → MayOwn start past other (Sizes id total) → payload_lengths_of start past gid ≡ Some lengths → (t : Bool)
    → is_same_gid gid other ≡ t
    → known_in (replay_of start past).downloads gid
    (cond t (Sizes id total ∷ own_of start past gid) (own_of start past gid)) ≡ Some lengths
sized_stays laws start past gid other id total lengths legal may is false same = is
sized_stays laws start past gid other id total lengths legal may is true same =
    let part = parts laws start past gid legal in
    let own = own_of start past gid in
    let mine : MaySize own id =
    subst (λ (g : Gid). MayHappen (known_lengths start past g).total (known_lengths start past g).piece_len
    (own_of start past g) (Sizes id total))
    (gid_is gid other same) may.may in
    let un = laws.sound.sized (known_lengths start past gid).total (known_lengths start past gid).piece_len own id
    part.legal mine in
    no_sizing own id (idle laws.sound start past gid part un lengths is) mine

known_some : (o : Option Download) (own : List OwnEvent) (lengths : PayloadLengths)
    → option_and_then (λ (d : Download). lengths_by d d.subject own) o ≡ Some lengths → is_some o ≡ true
known_some None own lengths is = absurd cc
known_some (Some d) own lengths is = refl

pub lengths_stay : Laws → LengthsStay
lengths_stay laws start past (Called session asked now) gid lengths legal is =
    let own = own_of start past gid in
    let new = (replay_of start (Called session asked now ∷ past)).downloads in
    known_found (download_of new gid) own
    (halted_where (halts_by start past (Called session asked now) asked gid) own)
    (halted_told (halts_by start past (Called session asked now) asked gid) own)
    ∙ (ap (option_and_then (λ (d : Download). lengths_by d d.subject own))
    (stays_added gid (replay_of start past).downloads new (call_adds start (replay_of start past) asked)
    (known_some (download_of (replay_of start past).downloads gid) own lengths is)) ∙ is)
lengths_stay laws start past (Opened other verified blocks now) gid lengths legal is =
    same_lengths start past gid other (Opens verified blocks now) lengths refl is
lengths_stay laws start past (Sized other id total) gid lengths legal is =
    sized_stays laws start past gid other id total lengths legal.0 legal.1 is (is_same_gid gid other) refl
lengths_stay laws start past (Claimed other claim) gid lengths legal is =
    same_lengths start past gid other (Grants claim) lengths refl is
lengths_stay laws start past (Landed other id mirror run now) gid lengths legal is =
    same_lengths start past gid other (Lands id mirror run) lengths refl is
lengths_stay laws start past (Settled other piece right giver) gid lengths legal is =
    same_lengths start past gid other (Settles piece right giver) lengths refl is
lengths_stay laws start past (Cleared other piece) gid lengths legal is =
    same_lengths start past gid other (Clears piece) lengths refl is
lengths_stay laws start past (Lost other id mirror piece mark) gid lengths legal is =
    same_lengths start past gid other (Loses id mirror piece mark) lengths refl is
lengths_stay laws start past (Checked other right) gid lengths legal is =
    same_lengths start past gid other (Checks right) lengths refl is
lengths_stay laws start past (Saved other now) gid lengths legal is =
    same_lengths start past gid other (Saves now) lengths refl is
lengths_stay laws start past (Ended other how) gid lengths legal is =
    same_lengths start past gid other (Halts true) lengths refl is
lengths_stay laws start past Left gid lengths legal is = is
lengths_stay laws start past Stopped gid lengths legal is =
    known_found (download_of (replay_of start past).downloads gid) (own_of start past gid)
    (Halts false ∷ own_of start past gid) refl ∙ is
