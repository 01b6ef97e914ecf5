-- What holds in every legal history of a download, as its laws state it.
use Rattle.std.proofs.Common.{◌≡◌, suc, [], ◌∷◌, inl, inr, true, List, arith}
use Rattle.std.specs.Prelude.{Contains, not}
use Rattle.dl_kinds.specs.Plan.{piece_of}
use Rattle.dl_kinds.specs.declared.claims.Claim.{Claim}
use Rattle.piece_table.specs.Changes.{is_in}
use Rattle.dl_history.proofs.Below.{Below}
use Rattle.dl_history.proofs.Bools.{and_left}
use Rattle.dl_history.proofs.Early.{below_end, early}
use Rattle.dl_history.proofs.Ends.{has_come}
use Rattle.dl_history.proofs.Facts.{facts}
use Rattle.dl_history.proofs.Givers.{from_granted}
use Rattle.dl_history.proofs.Idle.{told_idle}
use Rattle.dl_history.proofs.Keeping.{run_within}
use Rattle.dl_history.proofs.Lasting.{full_stays, listed_stays, sole_unlisted}
use Rattle.dl_history.proofs.Members.{Has, has_filter, has_from}
use Rattle.dl_history.proofs.Sole.{apart, real_claim}
use Rattle.dl_history.proofs.Table.{sized_early}
use Rattle.dl_history.proofs.Unopened.{any_lengths, cleared_opened, landed_opened}
use Rattle.dl_history.proofs.Wrong.{clear_unverified, verified_full}
use Rattle.dl_history.specs.HistoryLaws.{HistoriesAreSound, OpenBlocksAreUnlanded}
use Rattle.dl_history.specs.OwnEvents.{OwnEvent}
use Rattle.dl_history.specs.PayloadParts.{is_alive}
use Rattle.dl_history.specs.StandingClaims.{granted_claims, is_standing, standing_claims}

-- a claim that a list contains is one of its elements
pub has_of : (xs : List Claim) (claim : Claim) → Contains xs claim → Has xs claim
has_of xs claim c = has_from xs claim c.0 c.1 c.2

pub contains_of : (xs : List Claim) (claim : Claim) → Has xs claim → Contains xs claim
contains_of [] claim h = absurd h
contains_of (x ∷ xs) claim (inl is) = (0, omega arith, is)
contains_of (x ∷ xs) claim (inr h) = let c = contains_of xs claim h in (suc c.0, (let w = c.1 in omega arith), c.2)

stood : (own : List OwnEvent) (claim : Claim) → Contains (standing_claims own) claim
    → Has (granted_claims own) claim × (is_standing own claim ≡ true)
stood own claim c = has_filter (is_standing own) (granted_claims own) claim (has_of (standing_claims own) claim c)

open_unlanded : OpenBlocksAreUnlanded
open_unlanded total len own claim b legal stands opened =
    let f = facts total len own legal in
    let there = stood own claim stands in
    record {
      within =
          let w = f.within claim there.0 in
          let e = below_end b claim.run (and_left (is_in b claim.run) (not (has_come own claim b)) opened) in
          omega arith;
      unlanded = f.unlanded claim b there.0 there.1 opened;
    }

pub sound : Below → HistoriesAreSound
sound laws =
    record {
      open_blocks = open_unlanded;
      verified = λ total len own piece plan legal below is. verified_full laws total len own piece plan legal below
          is;
      cleared = λ total len own piece plan legal may. record {
        opened = cleared_opened total len own piece legal may;
        unverified = clear_unverified laws total len own piece plan legal may;
      };
      apart = λ total len own claim other legal hc ho same.
          apart total len own legal claim other (has_of (granted_claims own) claim hc)
          (has_of (granted_claims own) other ho) same;
      landings = λ total len own id mirror run legal may. record {
        opened = landed_opened total len own id mirror run legal may;
        within = run_within total len own (facts total len own legal) may.claim (stood own may.claim may.stands).0 run
            may.some may.open_in;
      };
      givers = λ total len own b mirror legal is.
          let g = from_granted total len own legal (is_alive own) (piece_of len b) b mirror is in
          (g.0, contains_of (granted_claims own) g.0 g.1, g.2);
      probes = λ total len own claim legal stands.
          let there = stood own claim stands in
          record {
            probe = λ un. (early total len own legal un).probes claim there.0;
            blocks = λ opened. real_claim total len own claim legal opened there.0 there.1;
          };
      full = full_stays;
      listed = listed_stays laws;
      sole = sole_unlisted laws;
      sized = sized_early;
      told = told_idle;
      unopened = any_lengths;
    }
