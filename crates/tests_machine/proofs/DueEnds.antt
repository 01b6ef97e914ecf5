-- What a rig saves and ends is due.
use Rattle.std.proofs.Common.{◌≡◌, ◌∙◌, ℕ, Bool, true, false, cond, Option, Some, None, List, [], ◌∷◌, get_or, refl, sym, ap}
use Rattle.std.specs.Prelude.{◌&&◌, MatchBool, not, find}
use Rattle.std.specs.Option.{is_some, option_map_or}
use Rattle.std.proofs.lemmas.Bool.{and_right, eqb-true}
use Rattle.std.proofs.lemmas.Option.{same_Some}
use Rattle.dl_history.specs.OwnEvents.{OwnEvent, Halts}
use Rattle.dl_history.specs.PayloadParts.{is_opened, is_verified_in}
use Rattle.dl_kinds.specs.declared.gid.Gid.{Gid}
use Rattle.dl_kinds.specs.declared.marks.Mark.{Mark}
use Rattle.machine_core.specs.Claiming.{is_to_open, next_to_open}
use Rattle.machine_core.specs.Clashes.{IsBeforeOpening}
use Rattle.machine_core.specs.Done.{IsDoneGid}
use Rattle.machine_core.specs.MachineViews.{MachineView}
use Rattle.machine_core.specs.Openings.{wanted_of_gid}
use Rattle.machine_core.specs.OwnParts.{own_of, payload_lengths_of}
use Rattle.machine_core.specs.Reads.{IsDeadPiece, lengths_of_gid}
use Rattle.machine_core.specs.Replays.{is_active_in, is_download, queue_in, replay_of}
use Rattle.machine_core.specs.RunLegal.{MayFollow, MayOwn, download_in, has_checksum, is_listed, known_lengths}
use Rattle.machine_core.specs.Starts.{Download, RunStart}
use Rattle.machine_core.specs.Wanted.{wanted_pieces}
use Rattle.machine_core.specs.declared.ends.End.TheVariants as end
use Rattle.machine_core.specs.declared.events.Event.{Event}
use Rattle.machine_core.specs.declared.events.Event.TheVariants.{Ended}
use Rattle.option_set.specs.Values.{text_of_word}
use Rattle.option_set.specs.declared.kinds.Word.TheVariants as word

-- ---- finding

found_head : {A : Type 0} (p : A → Bool) (x : A) (o : Option A) (y : A) (b : Bool) → p x ≡ b
    → (o ≡ Some y → p y ≡ true) → cond b (Some x) o ≡ Some y → p y ≡ true
found_head p x o y true is rest e = ap p (sym (same_Some x y e)) ∙ is
found_head p x o y false is rest e = rest e

-- what is found passes
passes_found : {A : Type 0} (p : A → Bool) (xs : List A) (y : A) → find p xs ≡ Some y → p y ≡ true
passes_found p [] y e = absurd cc
passes_found p (x ∷ xs) y e = found_head p x (find p xs) y (p x) refl (passes_found p xs y) e

pub gid_found : (start : RunStart) (past : List Event) (gid : Gid) (download : Download)
    → download_in start past gid ≡ Some download → download.gid ≡ gid
gid_found start past gid download is =
    let passes = passes_found (is_download gid) (replay_of start past).downloads download is in
    ap (λ (n : ℕ). record { 0 = n }) (eqb-true download.gid.0 gid.0 passes)

-- ---- ends

no_checksum : (download : Download) → is_some (text_of_word download.options word.Checksum) ≡ false
    → has_checksum download ≡ false
no_checksum download none =
    and_right (not (is_listed download.subject)) (is_some (text_of_word download.options word.Checksum)) none

pub may_complete : (m : MachineView) (gid : Gid) → MayOwn m.start m.past gid (Halts true) → IsDoneGid m gid
    → ((download : Download) → download_in m.start m.past gid ≡ Some download
    → is_some (text_of_word download.options word.Checksum) ≡ false) → MayFollow m.start m.past (Ended gid end.Complete)
may_complete m gid own done none =
    let download = own.download in
    let gid_is : download.gid ≡ gid = gid_found m.start m.past gid download own.added in
    let same : own_of m.start m.past download.gid ≡ own_of m.start m.past gid =
    ap (λ (g : Gid). own_of m.start m.past g) gid_is in
    let wanted : wanted_of_gid m gid ≡ wanted_pieces download (known_lengths m.start m.past gid) =
    ap (λ (o : Option Download). option_map_or (λ (d : Download). wanted_pieces d (lengths_of_gid m gid)) o []) own.added in
    let lacks : has_checksum download ≡ false = no_checksum download (none download own.added) in
    record {
      own = own;
      cause = record {
        verified = λ piece is.
            ap (λ (xs : List OwnEvent). is_verified_in xs piece) same
            ∙ done piece (ap (λ (row : List Bool). get_or row piece false) wanted ∙ is);
        checked = λ has. absurd (let f : true ≡ false = sym has ∙ lacks in cc);
      };
    }

pub may_die : (m : MachineView) (gid : Gid) (piece : ℕ) (mark : Mark) → MayOwn m.start m.past gid (Halts true)
    → IsDeadPiece m gid piece mark → MayFollow m.start m.past (Ended gid (end.Dead piece mark))
may_die m gid piece mark own dead = record {
  own = record { download = dead.download; added = dead.added; may = own.may };
  cause = dead.dead;
}

pub done_by : (m : MachineView) (gid : Gid) (done : Bool) → MatchBool done (IsDoneGid m gid) (¬ IsDoneGid m gid)
    → done ≡ true → IsDoneGid m gid
done_by m gid true is told = is
done_by m gid false is told = absurd cc

-- ---- openings

both : (a b : Bool) → (a && not b) ≡ true → (a ≡ true) × (b ≡ false)
both true true is = absurd cc
both true false is = (refl, refl)
both false b is = absurd cc

pub before_opening : (m : MachineView) (gid : Gid) → MayOwn m.start m.past gid (Halts true)
    → is_active_in m.start m.past gid ≡ true → next_to_open m.start m.past ≡ Some gid → IsBeforeOpening m gid
before_opening m gid own active next =
    let due = both (is_some (payload_lengths_of m.start m.past gid)) (is_opened (own_of m.start m.past gid))
    (passes_found (is_to_open m.start m.past) (queue_in m.start m.past).active gid next) in
    record { going = own; opening = record { active = active; known = due.0; unopened = due.1 } }
