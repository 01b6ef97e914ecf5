-- A mirror that gave a block was granted a claim.
use Rattle.std.proofs.Common.{◌≡◌, ℕ, Bool, true, false, cond, eqb, List, [], ◌∷◌, ◌∙◌, inr}
use Rattle.std.specs.Prelude.{◌&&◌, ◌||◌, ◌==◌, not, nat_lt, nat_le, All, find}
use Rattle.std.specs.Option.{is_some}
use Rattle.std.specs.List.{list_any, list_all, range_with_len}
use Rattle.piece_table.specs.Changes.{is_in, Source, Absent}
use Rattle.dl_kinds.specs.declared.claims.Claim.{Claim}
use Rattle.piece_table.specs.Changes.{From, Unknown}
use Rattle.dl_history.proofs.Members.{Has}
use Rattle.dl_history.proofs.Whole.{granted_there}
use Rattle.dl_history.specs.OwnEvents.{Checks, Clears, Grants, Halts, Lands, Loses, Opens, OwnEvent, Saves, Settles, Sizes}
use Rattle.dl_history.specs.OwnLegal.{LegalOwn}
use Rattle.dl_history.specs.PayloadParts.{is_sole_in, source_by}
use Rattle.dl_history.specs.StandingClaims.{granted_claims}

abbrev pub GrantedTo : List OwnEvent → ℕ → Type 0
GrantedTo own m = (g : Claim) × Has (granted_claims own) g × (g.mirror ≡ m)

opens_from : {P : Type 0} (t : Bool) (m : ℕ) → cond t Unknown Absent ≡ From m → P
opens_from true m h = absurd cc
opens_from false m h = absurd cc

clears_from : (t : Bool) (m : ℕ) (x : Source) {P : Type 0} → (x ≡ From m → P) → cond t Absent x ≡ From m → P
clears_from true m x rest h = absurd cc
clears_from false m x rest h = rest h

lands_from : (t : Bool) (n m : ℕ) (x : Source) {P : Type 0} → (n ≡ m → P) → (x ≡ From m → P)
    → cond t (From n) x ≡ From m → P
lands_from true n m x now rest h = now cc
lands_from false n m x now rest h = rest h

pub from_granted : (total len : ℕ) (own : List OwnEvent) → LegalOwn total len own → (f : ℕ → Bool) (p b m : ℕ)
    → source_by f p b own ≡ From m → GrantedTo own m
from_granted total len [] legal f p b m h = absurd cc
from_granted total len (Opens verified blocks now ∷ own) legal f p b m h =
    opens_from (Rattle.std.specs.Prelude.slice_index_or blocks b false) m h
from_granted total len (Grants cl ∷ own) legal f p b m h = let r = from_granted total len own legal.0 f p b m h in
    (r.0, inr r.1, r.2)
from_granted total len (Lands c n run ∷ own) legal f p b m h =
    lands_from (is_in b run && (not (is_sole_in own p) || f c)) n m (source_by f p b own)
    (λ (is : n ≡ m). (legal.1.claim, (granted_there own c n run legal.1).0, legal.1.mirror_is ∙ is))
    (from_granted total len own legal.0 f p b m) h
from_granted total len (Settles q right giver ∷ own) legal f p b m h = from_granted total len own legal.0 f p b m h
from_granted total len (Clears q ∷ own) legal f p b m h = clears_from (eqb q p) m (source_by f p b own)
    (from_granted total len own legal.0 f p b m) h
from_granted total len (Loses c n q mark ∷ own) legal f p b m h = from_granted total len own legal.0 f p b m h
from_granted total len (Sizes c told ∷ own) legal f p b m h = from_granted total len own legal.0 f p b m h
from_granted total len (Saves now ∷ own) legal f p b m h = from_granted total len own legal.0 f p b m h
from_granted total len (Checks right ∷ own) legal f p b m h = from_granted total len own legal.0 f p b m h
from_granted total len (Halts ends ∷ own) legal f p b m h = from_granted total len own legal.0 f p b m h
