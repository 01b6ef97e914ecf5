-- In every legal history what is kept of a download is what its events say.
use Rattle.std.proofs.Common.{◌≡◌, ◌⊎◌, ℕ, ◌+◌, ◌*◌, ◌<◌, ◌≤◌, Bool, true, false, List, [], ◌∷◌, length, get_or, drop, refl, sym, ap, ◌∙◌, subst, inl, inr, ⊎_elim, arith}
use Rattle.std.specs.Prelude.{◌&&◌, ◌||◌, not, nat_le, All}
use Rattle.std.specs.List.{range_with_len}
use Rattle.std.proofs.lemmas.List.{length-map}
use Rattle.std.proofs.lemmas.List.FromFn.{length-map-range_with_len}
use Rattle.std.proofs.lemmas.List.Elements.{All-nil, All-cons, All-take, All-drop, All-map}
use Rattle.dl_kinds.specs.Plan.{pieces_of, blocks_of, piece_of, full_blocks, blocks_of_piece, IsPlan}
use Rattle.dl_kinds.specs.declared.claims.Claim.{Claim}
use Rattle.piece_table.specs.Changes.{IsGiver, Source, Absent, is_present, is_in, is_wrong_last, source_of, sources_of}
use Rattle.piece_table.specs.Progress.{Progress, piece_part}
use Rattle.piece_table.specs.declared.giver.Giver.TheVariants.{Nobody}
use Rattle.dl_history.proofs.Below.{Below}
use Rattle.dl_history.proofs.Bools.{not_true, true_not_false}
use Rattle.dl_history.proofs.Early.{Early, early, probe_shut}
use Rattle.dl_history.proofs.Ends.{has_come}
use Rattle.dl_history.proofs.Facts.{facts}
use Rattle.dl_history.proofs.Following.{follows, from_start}
use Rattle.dl_history.proofs.Follows.{opens_same}
use Rattle.dl_history.proofs.Keeping.{afresh, blocks_at, changed_right, giver_is, rows, soles, verified_at, verifieds, wrongs}
use Rattle.dl_history.proofs.Listed.{values}
use Rattle.dl_history.proofs.Members.{Has, has_filter}
use Rattle.dl_history.proofs.Settled.{settled_row}
use Rattle.dl_history.proofs.TableChanges.{changes_of}
use Rattle.dl_history.proofs.Unopened.{account_any, any_lengths, as_from_start, bare}
use Rattle.dl_history.specs.AccountLaws.{AccountsMatchEvents, MatchesEvents}
use Rattle.dl_history.specs.Accounts.{Account, account_of, is_still_open}
use Rattle.dl_history.specs.OwnEvents.{OwnEvent}
use Rattle.dl_history.specs.OwnLegal.{LegalOwn}
use Rattle.dl_history.specs.PayloadParts.{is_alive, is_landed_in, is_opened, source_in, sources_in}
use Rattle.dl_history.specs.StandingClaims.{granted_claims, is_open_since, is_probe, is_standing, standing_claims}

all_from : {A : Type 0} (P : A → Type 0) (xs : List A) → ((x : A) → Has xs x → P x) → All P xs
all_from P [] each = All-nil P
all_from P (y ∷ ys) each = All-cons P y ys (each y (inl refl)) (all_from P ys (λ x h. each x (inr h)))

either_way : (t : Bool) → (t ≡ true) ⊎ (t ≡ false)
either_way true = inl refl
either_way false = inr refl

-- ---- once it is opened

matches_opened : (laws : Below) (total len : ℕ) (own : List OwnEvent) → IsPlan total len → LegalOwn total len own
    → is_opened own ≡ true
    → MatchesEvents total len own (from_start total len own)
matches_opened laws total len own plan legal opened =
    let k = from_start total len own in
    let f = follows laws total len own plan legal in
    let a = afresh laws total len own plan legal in
    let fs = facts total len own legal in
    let row = settled_row laws total len own plan legal in
    let v = values laws total len own plan legal in
    let len_is : k.progress.piece_len ≡ len = ap (λ (p : Progress). p.piece_len) f.table ∙ a.piece_len_is in
    let landed : (b : ℕ) → b < blocks_of total len → get_or k.progress.landed b false ≡ is_landed_in len own b =
    λ b below. ap (λ (p : Progress). get_or p.landed b false) f.table ∙ rows laws total len own plan legal b below in
    record {
      rows = λ o. record {
        total_is = ap (λ (p : Progress). p.total) f.table ∙ a.total_is;
        piece_len_is = len_is;
        landed = ap (λ (p : Progress). length p.landed) f.table ∙ (ap length a.blocks
            ∙ (length-map (sources_of total len (blocks_at total len own) (changes_of len own)) is_present
            ∙ length-map-range_with_len (source_of len (blocks_at total len own) (changes_of len own)) 0
            (blocks_of total len)));
        verified = ap (λ (p : Progress). length p.verified) f.table ∙ (ap length a.pieces
            ∙ length-map-range_with_len
            (λ x. get_or (verified_at total len own) x false || changed_right (changes_of len own) x) 0
            (pieces_of total len));
        givers = ap (λ (p : Progress). length p.givers) f.table ∙ a.as_many;
        closed = f.long;
        settled = row.long;
      };
      nothing = λ un. true_not_false (is_opened own) opened un;
      blocks = landed;
      pieces = λ p below. record {
        verified = ap (λ (q : Progress). get_or q.verified p false) f.table
            ∙ verifieds laws total len own plan legal p below;
        sole = ap (λ (q : Progress). get_or q.sole p false) f.table ∙ soles laws total len own plan legal p below;
        wrong = ap (λ (q : Progress). get_or q.wrong p false) f.table ∙ wrongs laws total len own plan legal p below;
        settled = row.each p below;
        giver =
            subst (λ (q : Progress). IsGiver (piece_part total len (sources_in total len own) p)
            (get_or q.givers p Nobody)) (sym f.table)
            (giver_is laws total len own plan legal p below);
      };
      claims = record {
        standing = f.standing_are;
        open_blocks = all_from (λ (g : Claim). (b : ℕ) → is_still_open k g b ≡ is_open_since own g b)
            (standing_claims own)
            (λ g h.
            let there = has_filter (is_standing own) (granted_claims own) g h in
            opens_same total len own k g (fs.within g there.0) len_is landed
            (λ b below. f.open_is g b there.0 there.1 below));
        within = all_from (λ (g : Claim). g.run.first + g.run.count ≤ blocks_of total len) (standing_claims own)
            (λ g h. fs.within g (has_filter (is_standing own) (granted_claims own) g h).0);
      };
      listing = v.listing;
      saved = v.saved;
      told = v.told;
      checked = v.checked;
      ended = v.ended;
    }

-- ---- before

no_giver : (total len p : ℕ) (own : List OwnEvent) → Early len own
    → IsGiver (piece_part total len (sources_in total len own) p) Nobody
no_giver total len p own e =
    All-take (λ (s : Source). s ≡ Absent) (blocks_of_piece total len p)
    (drop (p * full_blocks len) (sources_in total len own))
    (All-drop (λ (s : Source). s ≡ Absent) (p * full_blocks len) (sources_in total len own)
    (All-map (λ (s : Source). s ≡ Absent) (source_in len own) (range_with_len 0 (blocks_of total len))
    (all_from (λ (b : ℕ). source_in len own b ≡ Absent) (range_with_len 0 (blocks_of total len))
    (λ b h. e.absent (is_alive own) (piece_of len b) b))))

shut_both : (i a b x : Bool) → i ≡ false → (i && a && b) ≡ (i && x)
shut_both true a b x is = absurd cc
shut_both false a b x is = refl

probe_alike : (own : List OwnEvent) (k : Account) (g : Claim) → is_probe g ≡ true → (b : ℕ)
    → is_still_open k g b ≡ is_open_since own g b
probe_alike own k g is b =
    shut_both (is_in b g.run) (not (get_or k.progress.landed b false))
    (nat_le (get_or k.closed (piece_of k.progress.piece_len b) 0) g.id)
    (not (has_come own g b)) (not_true (is_in b g.run) (λ inside. probe_shut g b is inside))

-- a plan of nothing
no_plan : IsPlan 0 1
no_plan = record { some = omega arith; piece = omega arith; pieces = omega arith; blocks = omega arith }

matches_unopened : (laws : Below) (total len : ℕ) (own : List OwnEvent) → LegalOwn total len own
    → is_opened own ≡ false
    → MatchesEvents total len own (account_of total len own)
matches_unopened laws total len own legal un =
    let k = account_of total len own in
    let e = early total len own legal un in
    let b = bare total len own legal un in
    let other = any_lengths total len 0 1 own legal un in
    let f = follows laws 0 1 own no_plan other in
    let v = values laws 0 1 own no_plan other in
    let n = bare 0 1 own other un in
    let same = account_any total len 0 1 own legal un in
    let fs = facts total len own legal in
    record {
      rows = λ opened. true_not_false (is_opened own) opened un;
      nothing = λ u. b.progress;
      blocks = λ x below. ap (λ (q : Progress). get_or q.landed x false) b.progress
          ∙ sym (ap is_present (e.absent (is_alive own) (piece_of len x) x));
      pieces = λ p below. record {
        verified = ap (λ (q : Progress). get_or q.verified p false) b.progress ∙ sym (e.verified p);
        sole = ap (λ (q : Progress). get_or q.sole p false) b.progress ∙ sym (e.sole p);
        wrong = ap (λ (q : Progress). get_or q.wrong p false) b.progress ∙ sym (ap is_wrong_last (e.findings p));
        settled = ap (λ (xs : List Bool). get_or xs p false) b.settled ∙ sym (e.unsettled p);
        giver =
            subst (λ (q : Progress). IsGiver (piece_part total len (sources_in total len own) p)
            (get_or q.givers p Nobody)) (sym b.progress)
            (no_giver total len p own e);
      };
      claims = record {
        standing = ap (λ (a : Account). a.standing) same ∙ n.standing ∙ f.standing_are;
        open_blocks = all_from (λ (g : Claim). (x : ℕ) → is_still_open k g x ≡ is_open_since own g x)
            (standing_claims own)
            (λ g h. probe_alike own k g (e.probes g (has_filter (is_standing own) (granted_claims own) g h).0));
        within = all_from (λ (g : Claim). g.run.first + g.run.count ≤ blocks_of total len) (standing_claims own)
            (λ g h. fs.within g (has_filter (is_standing own) (granted_claims own) g h).0);
      };
      listing = b.listing ∙ sym (e.listing total);
      saved = b.saved ∙ sym e.saved;
      told = ap (λ (a : Account). a.told) same ∙ n.told ∙ v.told;
      checked = ap (λ (a : Account). a.checked) same ∙ n.checked ∙ v.checked;
      ended = ap (λ (a : Account). a.ended) same ∙ n.ended ∙ v.ended;
    }

pub matches : (laws : Below) → AccountsMatchEvents
matches laws total len own plan legal =
    ⊎_elim
    (λ (opened : is_opened own ≡ true).
    subst (λ (k : Account). MatchesEvents total len own k) (sym (as_from_start total len own legal opened))
    (matches_opened laws total len own (plan opened) legal opened))
    (λ (un : is_opened own ≡ false). matches_unopened laws total len own legal un)
    (either_way (is_opened own))
