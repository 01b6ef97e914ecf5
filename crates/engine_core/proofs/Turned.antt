-- What a turn keeps of a want, whatever downloads have it.
use Rattle.std.proofs.Common.{◌≡◌, inl, inr, ℕ, Bool, true, false, List, [], ◌∷◌, ◌++◌, Option, Some, None, length, refl, sym, ap, ◌∙◌, subst}
use Rattle.std.specs.Prelude.{◌⊎◌, ◌≢◌, ◌==◌, ◌&&◌, ◌||◌, IsSomeAnd, codes, find, map}
use Rattle.std.specs.List.{list_any}
use Rattle.std.proofs.lemmas.Bool.{and_parts, eq-eqb, eqb-true}
use Rattle.std.proofs.lemmas.List.Elements.{All-cons, All-head, All-nil, All-tail}
use Rattle.control_file.specs.declared.want.Want.{Want}
use Rattle.dl_disk.specs.Files.{Files}
use Rattle.dl_disk.specs.Passes.{passes_wider}
use Rattle.dl_disk.specs.State.{DiskState, LeftSince}
use Rattle.dl_history.proofs.Bools.{or_cases, or_later}
use Rattle.dl_kinds.specs.declared.gid.Gid.{Gid}
use Rattle.machine_core.specs.DownloadWants.{HasWant}
use Rattle.machine_core.specs.FileNames.{IsPayloadName, ShareName, WritesName, folder_in}
use Rattle.machine_core.specs.Replays.{is_download, replay_of}
use Rattle.machine_core.specs.RunLegal.{download_in, goes_on_in}
use Rattle.machine_core.specs.Starts.{Download, RunStart}
use Rattle.machine_core.specs.declared.events.Event.{Event}
use Rattle.machine_core.proofs.Sharing.{wants_share}
use Rattle.engine_turns.specs.Told.{RunTurn}
use Rattle.payload_files.specs.Names.{name_of}
use Rattle.payload_files.specs.Payload.{HasFiles}
use Rattle.span_map.specs.declared.files.FileLen.{FileLen}
use Rattle.resume_core.specs.Openings.{KeepsBesides}
use Rattle.resume_core.specs.Resume.{Agrees, Sound}
use Rattle.resume_core.specs.Sharing.{share_names}
use Rattle.resume_core.specs.States.{KeepsFor}
use Rattle.resume_core.specs.Steps.{SameBesides, SameFor}
use Rattle.stored_run.specs.RunFollows.{RunFollows}
use Rattle.stored_run.specs.Views.{GoesOpened}
use Rattle.stored_run.proofs.PlainEvents.{gid_added}
use Rattle.engine_core.specs.Askings.{is_opened_in}
use Rattle.engine_core.specs.Durable.{AllHold, HoldSince}

-- where every image was sound for the want, what a turn keeps of it
pub record TurnKeeps (start : RunStart) (told : List RunTurn) (t : RunTurn) (want : Want) (old new : DiskState) : Type 0 where
  pub sound : (image : Files) → LeftSince new old.moment image → Sound want image
  pub agrees : (image : Files) → new.may_leave image → Agrees want new.seen image
  pub now : AllHold start told want old.seen old.may_leave → AllHold start (t ∷ told) want new.seen new.may_leave
  pub since : AllHold start told want old.seen old.may_leave → HoldSince start told (t ∷ told) want old.moment new

or_first : (a b : Bool) → (a || b) ≡ false → a ≡ false
or_first true b none = absurd cc
or_first false b none = refl

-- ---- gids

pub same_gid : (a b : Gid) → (a.0 == b.0) ≡ true → a ≡ b
same_gid a b is = ap (λ (n : ℕ). record { 0 = n }) (eqb-true a.0 b.0 is)

pub gid_or_not : (a b : Gid) → (a ≡ b) ⊎ (a ≢ b)
gid_or_not a b = by (a.0 == b.0) refl
  where
    by : (c : Bool) → (a.0 == b.0) ≡ c → (a ≡ b) ⊎ (a ≢ b)
    by true is = inl (same_gid a b is)
    by false is = inr (λ same. absurd (let no : true ≡ false = sym (eq-eqb a.0 b.0 (ap (λ (g : Gid). g.0) same)) ∙ is in cc))

-- ---- wants of one download

own_name : (d : Download) (base : List ℕ) → IsPayloadName d d.subject base → ShareName d d
own_name d base named =
    let writes : WritesName d (name_of (folder_in d) (base ∷ []) ++ codes ".aria2") = record {
      base = base;
      named = named;
      is = inr (inl refl);
    } in
    record { name = name_of (folder_in d) (base ∷ []) ++ codes ".aria2"; first = writes; second = writes }

pub same_download : (start : RunStart) (past : List Event) (gid : Gid) (a b : Download) → download_in start past gid ≡ Some a
    → download_in start past gid ≡ Some b → a ≡ b
same_download start past gid a b is his = let some : Some a ≡ Some b = sym is ∙ his in cc

pub wants_of_one_share : (start : RunStart) (past : List Event) (gid : Gid) (v w : Want) → HasWant start past gid v
    → HasWant start past gid w → share_names v w ≡ true
wants_of_one_share start past gid v w one other =
    let same = same_download start past gid one.download other.download one.added other.added in
    wants_share one.download other.download one.lengths other.lengths v w one.is other.is
    (subst (λ (d : Download). ShareName one.download d) same (own_name one.download v.base one.is.base))

-- ---- lengths of files

same_lengths : (dir : List ℕ) (files : List FileLen) (old new : Files)
    → map (λ (f : FileLen). new (name_of dir f.path)) files ≡ map (λ (f : FileLen). old (name_of dir f.path)) files
    → HasFiles dir files old → HasFiles dir files new
same_lengths dir [] old new same has = All-nil _
same_lengths dir (f ∷ files) old new same has =
    let first : new (name_of dir f.path) ≡ old (name_of dir f.path) = cc in
    let rest : map (λ (f : FileLen). new (name_of dir f.path)) files ≡ map (λ (f : FileLen). old (name_of dir f.path)) files = cc in
    All-cons (λ (file : FileLen). IsSomeAnd (new (name_of dir file.path)) (λ bytes. length bytes ≡ file.len)) f files
    (subst (λ o. IsSomeAnd o (λ bytes. length bytes ≡ f.len)) (sym first)
    (All-head (λ (file : FileLen). IsSomeAnd (old (name_of dir file.path)) (λ bytes. length bytes ≡ file.len)) f files has))
    (same_lengths dir files old new rest
    (All-tail (λ (file : FileLen). IsSomeAnd (old (name_of dir file.path)) (λ bytes. length bytes ≡ file.len)) f files has))

pub kept_lengths : (want : Want) (old new : DiskState) → KeepsFor want old new → HasFiles want.dir want.layout old.seen
    → HasFiles want.dir want.layout new.seen
kept_lengths want old new keeps has = same_lengths want.dir want.layout old.seen new.seen keeps.seen.files has

-- the files of a want that shares no name with one whose files alone changed
pub keeps_apart : RunFollows → (one want : Want) (old new : DiskState) → share_names one want ≡ false
    → KeepsBesides one old new → KeepsFor want old new
keeps_apart laws one want old new apart besides = record {
  seen = laws.files one want old.seen new.seen (record { apart = apart; besides = besides.seen });
  passes = passes_wider (SameBesides one) (SameFor want) old new
      (λ x y same. laws.files one want x y (record { apart = apart; besides = same })) besides.passes;
}

-- ---- whether a download that goes on shares a name with the want

module _ (start : RunStart) (past : List Event) (kept : Gid → Option Want) (want : Want) where
  abbrev shares_with : Option Want → Bool
  shares_with None = false
  shares_with (Some v) = share_names v want

  abbrev stands_in_way : Download → Bool
  stands_in_way d = (goes_on_in start past d.gid && is_opened_in start past d.gid) && shares_with (kept d.gid)

  -- such a download
  pub record IsInWay (star : Gid) : Type 0 where
    pub going : GoesOpened start past star
    pub other : Want
    pub kept_is : kept star ≡ Some other
    pub shares : share_names other want ≡ true

  some_shares : (o : Option Want) → shares_with o ≡ true → (v : Want) × (o ≡ Some v) × (share_names v want ≡ true)
  some_shares None is = absurd cc
  some_shares (Some v) is = (v, refl, is)

  in_way : (d : Download) → stands_in_way d ≡ true → IsInWay d.gid
  in_way d is =
      let parts = and_parts (goes_on_in start past d.gid && is_opened_in start past d.gid) (shares_with (kept d.gid)) is in
      let both = and_parts (goes_on_in start past d.gid) (is_opened_in start past d.gid) parts.0 in
      let v = some_shares (kept d.gid) parts.1 in
      record {
        going = record { opened = both.1; goes = both.0 };
        other = v.0;
        kept_is = v.1;
        shares = v.2;
      }

  any_in_way : (ds : List Download) → list_any stands_in_way ds ≡ true → (star : Gid) × IsInWay star
  any_in_way [] is = absurd cc
  any_in_way (d ∷ ds) is = or_cases (stands_in_way d) (list_any stands_in_way ds) is
      (λ here. (d.gid, in_way d here)) (λ there. any_in_way ds there)

  none_of : (ds : List Download) → list_any stands_in_way ds ≡ false → (p : Download → Bool) (d : Download)
      → find p ds ≡ Some d → stands_in_way d ≡ false
  none_of [] none p d is = absurd cc
  none_of (x ∷ ds) none p d is = by (p x) refl (none_of ds (or_later (stands_in_way x) _ none) p d)
    where
      by : (b : Bool) → p x ≡ b → (find p ds ≡ Some d → stands_in_way d ≡ false) → stands_in_way d ≡ false
      by true here rest =
          let some : Some x ≡ Some d = rw here at is in
          let same : x ≡ d = cc in
          subst (λ (y : Download). stands_in_way y ≡ false) same (or_first (stands_in_way x) (list_any stands_in_way ds) none)
      by false here rest = rest (rw here at is)

  and_then_false : (a b : Bool) (o : Option Want) (v : Want) → a ≡ true → b ≡ true → o ≡ Some v
      → ((a && b) && shares_with o) ≡ false → share_names v want ≡ false
  and_then_false a b o v first second some none =
      subst (λ (x : Option Want). shares_with x ≡ false) some (rw second at (rw first at none))

  pub in_way_or_none : ((gid : Gid) → GoesOpened start past gid → (d : Download) × (download_in start past gid ≡ Some d))
      → ((star : Gid) × IsInWay star)
      ⊎ ((gid : Gid) (v : Want) → GoesOpened start past gid → kept gid ≡ Some v → share_names v want ≡ false)
  in_way_or_none added = by (list_any stands_in_way (replay_of start past).downloads) refl
    where
      by : (b : Bool) → list_any stands_in_way (replay_of start past).downloads ≡ b
          → ((star : Gid) × IsInWay star)
          ⊎ ((gid : Gid) (v : Want) → GoesOpened start past gid → kept gid ≡ Some v → share_names v want ≡ false)
      by true is = inl (any_in_way (replay_of start past).downloads is)
      by false is = inr (λ gid v going kept_is.
          let here = added gid going in
          let same = gid_added start past gid here.0 here.1 in
          let none = none_of (replay_of start past).downloads is (is_download gid) here.0 here.1 in
          let goes : goes_on_in start past here.0.gid ≡ true = subst (λ (g : Gid). goes_on_in start past g ≡ true) (sym same) going.goes in
          let opens : is_opened_in start past here.0.gid ≡ true = subst (λ (g : Gid). is_opened_in start past g ≡ true) (sym same) going.opened in
          let keeps : kept here.0.gid ≡ Some v = subst (λ (g : Gid). kept g ≡ Some v) (sym same) kept_is in
          and_then_false (goes_on_in start past here.0.gid) (is_opened_in start past here.0.gid) (kept here.0.gid) v goes opens keeps none)
