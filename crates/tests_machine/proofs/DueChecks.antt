-- A probe tells too long a payload, and a whole payload is compared with its checksum.
use Rattle.std.proofs.Common.{◌≡◌, ◌∙◌, ◌<◌, ℕ, Bool, true, false, Option, Some, None, List, [], ◌∷◌, get_or, refl, sym, ap, subst, arith}
use Rattle.std.specs.Prelude.{IfSome}
use Rattle.std.specs.Option.{is_some, option_map_or}
use Rattle.std.proofs.lemmas.List.FromFn.{get_or-map-range_with_len}
use Rattle.dl_history.specs.OwnEvents.{OwnEvent, Checks, Halts, Sizes}
use Rattle.dl_history.specs.PayloadParts.{is_ended, is_verified_in, last_check, told_total}
use Rattle.dl_kinds.specs.Plan.{IsPlan, pieces_of}
use Rattle.dl_kinds.specs.declared.claims.Claim.{Claim}
use Rattle.dl_kinds.specs.declared.gid.Gid.{Gid}
use Rattle.control_file.specs.declared.want.Want.{Want}
use Rattle.machine_core.specs.Done.{IsDoneGid}
use Rattle.machine_core.specs.DownloadWants.{HasWant}
use Rattle.machine_core.specs.MachineViews.{Appends, IsSizingBy, MachineView, StandsUnder}
use Rattle.machine_core.specs.Openings.{wanted_of_gid}
use Rattle.machine_core.specs.OwnParts.{PayloadLengths, own_of}
use Rattle.machine_core.specs.Reads.{IsOpenedGid, lengths_of_gid}
use Rattle.machine_core.specs.RunLegal.{IsLegal, LengthsStay, MayFollow, MayOwn, download_in, has_checksum, info_hash_by, is_listed, known_lengths}
use Rattle.machine_core.specs.Starts.{Download, Listed, RunStart, Subject, Unlisted}
use Rattle.machine_core.specs.Wanted.{wanted_by, wanted_pieces}
use Rattle.machine_core.specs.declared.ends.End.TheVariants as end
use Rattle.machine_core.specs.declared.events.Event.{Event}
use Rattle.machine_core.specs.declared.events.Event.TheVariants.{Checked, Ended, Sized}
use Rattle.option_set.specs.Values.{number_value, text_of_word}
use Rattle.option_set.specs.declared.kinds.Num.TheVariants as num
use Rattle.option_set.specs.declared.kinds.Word.TheVariants as word
use Rattle.tests_machine.proofs.DueEnds.{gid_found}
use Rattle.tests_machine.proofs.DueWrong.{IsSized, both_lengths, own_here}

-- ---- a probe

sizing_of : (old : MachineView) (gid other : Gid) (claim total : ℕ) (probe : Claim) → StandsUnder old claim gid probe
    → MayOwn old.start old.past other (Sizes claim total) → other ≡ gid
sizing_of old gid other claim total probe home may =
    (home.one other may.may.claim may.may.stands may.may.id_is).0

too_long : (start : RunStart) (past : List Event) (gid : Gid) (claim total : ℕ) → MayOwn start past gid (Halts true)
    → ((download : Download) → download_in start past gid ≡ Some download
    → ¬ IsPlan total (number_value download.options num.PieceLength))
    → MayFollow start (Sized gid claim total ∷ past) (Ended gid (end.TooLarge total))
too_long start past gid claim total going long =
    let after = Sized gid claim total ∷ past in
    let is : own_of start after gid ≡ Sizes claim total ∷ own_of start past gid =
    own_here gid (Sizes claim total) (own_of start past gid) in
    let gid_is = gid_found start past gid going.download going.added in
    record {
      own = record {
        download = going.download;
        added = going.added;
        may = subst (λ (own : List OwnEvent). true ≡ true → is_ended own ≡ false)
            (sym is) going.may;
      };
      cause = record {
        told = ap (λ (g : Gid). told_total (own_of start after g)) gid_is ∙ ap told_total is;
        none = long going.download going.added;
      };
    }

-- a download ends of which no plan has pieces of its length
pub may_outgrow : (old new : MachineView) (gid : Gid) (claim total : ℕ) (probe : Claim) → StandsUnder old claim gid probe
    → MayOwn old.start old.past gid (Halts true)
    → ((download : Download) → download_in old.start old.past gid ≡ Some download
    → ¬ IsPlan total (number_value download.options num.PieceLength))
    → Appends old new (IsSizingBy claim total) → MayFollow new.start new.past (Ended gid (end.TooLarge total))
may_outgrow old new gid claim total probe home going long a =
    let may = subst (MayFollow old.start old.past) a.is.1 a.may in
    let same = sizing_of old gid a.is.0 claim total probe home may in
    let event_is = a.is.1 ∙ ap (λ (g : Gid). Sized g claim total) same in
    let past_is = a.past_is ∙ ap (λ (e : Event). e ∷ old.past) event_is in
    subst (λ (start : RunStart). MayFollow start new.past (Ended gid (end.TooLarge total))) (sym a.start_is)
    (subst (λ (p : List Event). MayFollow old.start p (Ended gid (end.TooLarge total))) (sym past_is)
    (too_long old.start old.past gid claim total going long))

-- ---- a check

hash_unlisted : (subject : Subject) → is_some (info_hash_by subject) ≡ false → is_listed subject ≡ false
hash_unlisted (Listed meta uris) is = absurd cc
hash_unlisted (Unlisted uris) is = refl

all_wanted : (subject : Subject) (text : Option (List ℕ)) (lengths : PayloadLengths) (piece : ℕ)
    → is_listed subject ≡ false → wanted_by subject text lengths piece ≡ true
all_wanted (Listed meta uris) text lengths piece un = absurd cc
all_wanted (Unlisted uris) text lengths piece un = refl

-- each piece of a payload without a metainfo file is wanted
wanted_at : (download : Download) (lengths : PayloadLengths) (piece : ℕ) → is_listed download.subject ≡ false
    → piece < pieces_of lengths.total lengths.piece_len → get_or (wanted_pieces download lengths) piece false ≡ true
wanted_at download lengths piece un below =
    get_or-map-range_with_len (wanted_by download.subject (text_of_word download.options word.SelectFile) lengths) 0
    (pieces_of lengths.total lengths.piece_len) piece piece false below (omega arith)
    ∙ all_wanted download.subject (text_of_word download.options word.SelectFile) lengths piece un

wanted_is : (m : MachineView) (gid : Gid) (download : Download) → download_in m.start m.past gid ≡ Some download
    → wanted_of_gid m gid ≡ wanted_pieces download (known_lengths m.start m.past gid)
wanted_is m gid download added =
    ap (λ (o : Option Download). option_map_or (λ (d : Download). wanted_pieces d (lengths_of_gid m gid)) o []) added

-- a payload without a metainfo file that has a checksum may be compared with it, once each piece is verified
pub may_check : (m : MachineView) (gid : Gid) (right : Bool) (want : Want) → HasWant m.start m.past gid want
    → is_some want.info_hash ≡ false
    → ((download : Download) → download_in m.start m.past gid ≡ Some download
    → is_some (text_of_word download.options word.Checksum) ≡ true)
    → IsOpenedGid m gid → IsDoneGid m gid → MayFollow m.start m.past (Checked gid right)
may_check m gid right want h none sum opened done =
    let unlisted = hash_unlisted h.download.subject (ap is_some (sym h.is.info_hash) ∙ none) in
    record {
      own = record {
        download = h.download;
        added = h.added;
        may = record {
          opened = opened;
          verified = λ piece below. done piece
              (ap (λ (row : List Bool). get_or row piece false) (wanted_is m gid h.download h.added)
              ∙ wanted_at h.download (known_lengths m.start m.past gid) piece unlisted below);
        };
      };
      unlisted = unlisted;
      checksum = sum h.download h.added;
    }

checked_own : (start : RunStart) (past : List Event) (gid : Gid) (right : Bool)
    → own_of start (Checked gid right ∷ past) gid ≡ Checks right ∷ own_of start past gid
checked_own start past gid right = own_here gid (Checks right) (own_of start past gid)

-- its own events, under the gid that it has
own_under : (start : RunStart) (past : List Event) (gid : Gid) (right : Bool) (download : Download)
    → download_in start past gid ≡ Some download
    → own_of start (Checked gid right ∷ past) download.gid ≡ Checks right ∷ own_of start past gid
own_under start past gid right download added =
    ap (λ (g : Gid). own_of start (Checked gid right ∷ past) g) (gid_found start past gid download added)
    ∙ checked_own start past gid right

goes_on_checked : (start : RunStart) (past : List Event) (gid : Gid) (right : Bool) → (g : MayOwn start past gid (Halts true))
    → true ≡ true
    → is_ended (own_of start (Checked gid right ∷ past) gid) ≡ false
goes_on_checked start past gid right going =
    subst (λ (own : List OwnEvent). true ≡ true → is_ended own ≡ false)
    (sym (checked_own start past gid right)) going.may

wrong_ends : (start : RunStart) (past : List Event) (gid : Gid) → MayOwn start past gid (Halts true)
    → MayFollow start (Checked gid false ∷ past) (Ended gid end.Checksum)
wrong_ends start past gid going = record {
  own = record {
    download = going.download;
    added = going.added;
    may = goes_on_checked start past gid false going;
  };
  cause = ap last_check (own_under start past gid false going.download going.added);
}

-- a wrong payload ends its download
pub may_end_wrong : (old new : MachineView) (gid : Gid) → MayOwn old.start old.past gid (Halts true)
    → Appends old new (λ e. e ≡ Checked gid false) → MayFollow new.start new.past (Ended gid end.Checksum)
may_end_wrong old new gid going a =
    subst (λ (start : RunStart). MayFollow start new.past (Ended gid end.Checksum)) (sym a.start_is)
    (subst (λ (p : List Event). MayFollow old.start p (Ended gid end.Checksum))
    (sym (a.past_is ∙ ap (λ (e : Event). e ∷ old.past) a.is)) (wrong_ends old.start old.past gid going))

right_ends : (m : MachineView) (gid : Gid) → MayOwn m.start m.past gid (Halts true) → IsDoneGid m gid
    → known_lengths m.start m.past gid ≡ known_lengths m.start (Checked gid true ∷ m.past) gid
    → MayFollow m.start (Checked gid true ∷ m.past) (Ended gid end.Complete)
right_ends m gid going done same =
    let own = own_under m.start m.past gid true going.download going.added in
    record {
      own = record {
        download = going.download;
        added = going.added;
        may = goes_on_checked m.start m.past gid true going;
      };
      cause = record {
        verified = λ piece is.
            ap (λ (xs : List OwnEvent). is_verified_in xs piece) own
            ∙ done piece
            (ap (λ (row : List Bool). get_or row piece false) (wanted_is m gid going.download going.added)
            ∙ (ap (λ (l : PayloadLengths). get_or (wanted_pieces going.download l) piece false) same ∙ is));
        checked = λ has. ap last_check own;
      };
    }

-- a right one is complete
pub may_end_right : LengthsStay → (old new : MachineView) (gid : Gid) → IsLegal old.start old.past
    → IsSized old.start old.past gid → MayOwn old.start old.past gid (Halts true) → IsDoneGid old gid
    → Appends old new (λ e. e ≡ Checked gid true) → MayFollow new.start new.past (Ended gid end.Complete)
may_end_right stay old new gid legal sized going done a =
    let may = subst (MayFollow old.start old.past) a.is a.may in
    let next = stay old.start old.past (Checked gid true) gid sized.lengths (legal, may) sized.known in
    let same = both_lengths old.start old.past (Checked gid true ∷ old.past) gid sized.lengths sized.known next in
    subst (λ (start : RunStart). MayFollow start new.past (Ended gid end.Complete)) (sym a.start_is)
    (subst (λ (p : List Event). MayFollow old.start p (Ended gid end.Complete))
    (sym (a.past_is ∙ ap (λ (e : Event). e ∷ old.past) a.is)) (right_ends old gid going done same))

-- what a look-up told
pub told_when : {A : Type 0} (P : Type 0) (o : Option A) → IfSome o (λ x. P) → is_some o ≡ true → P
told_when P (Some x) h is = h
told_when P None h is = absurd cc
