-- Where a download and a claim are found.
use Rattle.std.proofs.Common.{◌≡◌, ℕ, Bool, true, false, cond, Some, None, ◌<◌, ◌≤◌, List, [], ◌∷◌, length, slice_get, refl, sym, ap, ◌∙◌, subst, arith}
use Rattle.std.specs.Prelude.{◌==◌, Contains, find, map}
use Rattle.std.specs.List.{position_or_len}
use Rattle.std.proofs.lemmas.Bool.{eqb-true, eq-eqb}
use Rattle.std.proofs.lemmas.Bool.Decides.{nat_tests}
use Rattle.std.proofs.lemmas.List.Folds.{find_at}
use Rattle.std.proofs.lemmas.Option.{cond_some, same_Some, slice_get_past, slice_get_within}
use Rattle.dl_kinds.specs.declared.claims.Claim.{Claim}
use Rattle.dl_kinds.specs.declared.gid.Gid.{Gid}
use Rattle.dl_queue.specs.Calls.{added_place}
use Rattle.dl_queue.specs.Calls.{adding_place}
use Rattle.dl_queue.specs.declared.kinds.Added.{Added}
use Rattle.dl_history.specs.OwnEvents.{OwnEvent}
use Rattle.dl_history.specs.StandingClaims.{granted_claims, is_standing, standing_claims}
use Rattle.one_download.specs.DownloadLaws.{AccountsTellOpening}
use Rattle.one_download.specs.DownloadViews.{standing_under}
use Rattle.machine_core.specs.OwnParts.{own_of}
use Rattle.machine_core.specs.Replays.{replay_of, is_download, download_of}
use Rattle.machine_core.specs.RunLegal.{known_lengths}
use Rattle.machine_core.specs.Starts.{Download}
use Rattle.machine_core.specs.MachineParts.{KeepsRun, MachineState, added_as}
use Rattle.machine_core.specs.declared.entries.Entry.{Entry}
use Rattle.machine_core.specs.declared.events.Event.{Event}
use Rattle.machine_core.proofs.Fitting.{known}
use Rattle.machine_core.proofs.Legal.{Laws}
use Rattle.machine_core.proofs.Lists.{contains_filter, element_at, found, not_found}
use Rattle.machine_core.proofs.Parts.{gid_is}
use Rattle.machine_core.proofs.Steps.{IsAt}

-- ---- a download by its gid

pub place_same : (gid : Gid) (ds : List Download)
    → added_place gid (map added_as ds) ≡ position_or_len (is_download gid) ds
place_same gid [] = refl
place_same gid (d ∷ ds) = rw (place_same gid ds) refl

pub length_added : (ds : List Download) → length (map added_as ds) ≡ length ds
length_added [] = refl
length_added (d ∷ ds) = rw (length_added ds) refl

pub place_found : (gid : Gid) (ds : List Download) (added : List Added) (n : ℕ) → added ≡ map added_as ds
    → adding_place added gid ≡ Some n → (d : Download) × (slice_get ds n ≡ Some d) × (d.gid ≡ gid)
place_found gid ds added n added_is number =
    let parts = cond_some _ _ n number in
    let same : added_place gid added ≡ position_or_len (is_download gid) ds =
    ap (added_place gid) added_is ∙ place_same gid ds in
    let many : length added ≡ length ds = ap (λ (xs : List Added). length xs) added_is ∙ length_added ds in
    let at : position_or_len (is_download gid) ds ≡ n = sym same ∙ parts.1 in
    let below = parts.0 in
    let within : n < length ds = grind (arith, nat_tests) in
    let e = element_at ds n within in
    let f = found (is_download gid) ds e.0 (find_at (is_download gid) ds ∙ (ap (slice_get ds) at ∙ e.1)) in
    (e.0, e.1, gid_is gid e.0.gid f.passes)

pub place_first : (gid : Gid) (ds : List Download) (added : List Added) (n : ℕ) → added ≡ map added_as ds
    → adding_place added gid ≡ Some n → n ≡ position_or_len (is_download gid) ds
place_first gid ds added n added_is number =
    let same : added_place gid added ≡ position_or_len (is_download gid) ds =
    ap (added_place gid) added_is ∙ place_same gid ds in
    sym (cond_some _ _ n number).1 ∙ same

not_added : (b : Bool) (n : ℕ) → cond b (Some n) None ≡ None → b ≡ false
not_added true n is = absurd cc
not_added false n is = refl

pub place_none : (gid : Gid) (ds : List Download) (added : List Added) → added ≡ map added_as ds
    → adding_place added gid ≡ None → download_of ds gid ≡ None
place_none gid ds added added_is number =
    let none = not_added _ _ number in
    let same : added_place gid added ≡ position_or_len (is_download gid) ds =
    ap (added_place gid) added_is ∙ place_same gid ds in
    let many : length added ≡ length ds = ap (λ (xs : List Added). length xs) added_is ∙ length_added ds in
    let past : length ds ≤ position_or_len (is_download gid) ds = grind (arith, nat_tests) in
    find_at (is_download gid) ds ∙ slice_get_past ds (position_or_len (is_download gid) ds) past

-- an entry stands where the download does
pub at_place : (past : List Event) (s : MachineState) (gid : Gid) (at : ℕ) (d : Download) (x : Entry)
    → KeepsRun past s → slice_get (replay_of s.start past).downloads at ≡ Some d → d.gid ≡ gid
    → slice_get s.entries at ≡ Some x → IsAt s.start past s.entries gid at d x
at_place past s gid at d x k added is there = record { added = added; there = there; gid_is = is }

pub entry_within : (past : List Event) (s : MachineState) (at : ℕ) (d : Download) → KeepsRun past s
    → slice_get (replay_of s.start past).downloads at ≡ Some d → at < length s.entries
entry_within past s at d k added =
    let w = slice_get_within (replay_of s.start past).downloads at d added in
    let m = k.downloads.many in omega arith

-- ---- a claim by its number

pub standing_granted : (own : List OwnEvent) (claim : Claim) → Contains (standing_claims own) claim
    → Contains (granted_claims own) claim
standing_granted own claim there = contains_filter (is_standing own) (granted_claims own) claim there

pub record IsHome (past : List Event) (s : MachineState) (gid : Gid) (claim : Claim) (id : ℕ) : Type 0 where
  pub stands : Contains (standing_claims (own_of s.start past gid)) claim
  pub id_is : claim.id ≡ id
  pub one : (other : Gid) (twin : Claim) → Contains (standing_claims (own_of s.start past other)) twin → twin.id ≡ id
      → (other ≡ gid) × (twin ≡ claim)

-- a claim that stands under a number is of the download at the number's home
home_of : (past : List Event) (s : MachineState) (gid other : Gid) (twin : Claim) (id : ℕ) → KeepsRun past s
    → slice_get s.homes id ≡ Some gid → Contains (standing_claims (own_of s.start past other)) twin → twin.id ≡ id
    → other ≡ gid
home_of past s gid other twin id k home there id_is =
    same_Some other gid
    (sym (k.homes.own other twin (standing_granted (own_of s.start past other) twin there))
    ∙ (ap (slice_get s.homes) id_is ∙ home))

pub home_stands : Laws → AccountsTellOpening → (past : List Event) (s : MachineState) (gid : Gid) (at : ℕ)
    (d : Download) (x : Entry) (claim : Claim) (id : ℕ) → KeepsRun past s → IsAt s.start past s.entries gid at d x
    → slice_get s.homes id ≡ Some gid → standing_under x.state.account id ≡ Some claim → IsHome past s gid claim id
home_stands laws tells past s gid at d x claim id k here home is =
    let own = own_of s.start past gid in
    let l = known_lengths s.start past gid in
    let kn = known laws tells past s gid at d x k here in
    let f = found (λ (c : Claim). c.id == id) (standing_claims own) claim
    (subst (λ (cs : List Claim). find (λ (c : Claim). c.id == id) cs ≡ Some claim) kn.matches.claims.standing is) in
    let id_is : claim.id ≡ id = eqb-true claim.id id f.passes in
    record {
      stands = f.there;
      id_is = id_is;
      one = λ other twin there same.
          let gid_same : other ≡ gid = home_of past s gid other twin id k home there same in
          let here_too : Contains (standing_claims own) twin =
          subst (λ (g : Gid). Contains (standing_claims (own_of s.start past g)) twin) gid_same there in (
            gid_same,
            laws.sound.apart l.total l.piece_len own twin claim kn.legal (standing_granted own twin here_too)
                (standing_granted own claim f.there) (same ∙ sym id_is),
          );
    }

-- none stands that isn't found at its home
pub home_none : Laws → AccountsTellOpening → (past : List Event) (s : MachineState) (gid : Gid) (at : ℕ)
    (d : Download) (x : Entry) (id : ℕ) → KeepsRun past s → IsAt s.start past s.entries gid at d x
    → slice_get s.homes id ≡ Some gid → standing_under x.state.account id ≡ None → (other : Gid) (twin : Claim)
    → Contains (standing_claims (own_of s.start past other)) twin → twin.id ≡ id → ⊥
home_none laws tells past s gid at d x id k here home is other twin there same =
    let own = own_of s.start past gid in
    let kn = known laws tells past s gid at d x k here in
    let gid_same : other ≡ gid = home_of past s gid other twin id k home there same in
    let here_too : Contains (standing_claims own) twin =
    subst (λ (g : Gid). Contains (standing_claims (own_of s.start past g)) twin) gid_same there in
    let none : find (λ (c : Claim). c.id == id) (standing_claims own) ≡ None =
    subst (λ (cs : List Claim). find (λ (c : Claim). c.id == id) cs ≡ None) kn.matches.claims.standing is in
    let no : (twin.id == id) ≡ false = not_found (λ (c : Claim). c.id == id) (standing_claims own) twin none here_too in
    let yes : (twin.id == id) ≡ true = eq-eqb twin.id id same in
    cc
