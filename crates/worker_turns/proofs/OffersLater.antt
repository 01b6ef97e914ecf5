-- What a download offers a worker is offered later as well, where no claim stands and nothing happened meanwhile.
use Rattle.std.proofs.Common.{◌≡◌, inl, ◌∷◌, ℕ, List, [], Option, Some, None, refl, ap, subst, ◌∙◌, ⊎_elim, arith}
use Rattle.std.specs.List.{AllZip}
use Rattle.dl_kinds.specs.declared.claims.Claim.{Claim}
use Rattle.dl_kinds.specs.declared.claims.ClaimView.{ClaimView}
use Rattle.dl_kinds.specs.declared.gid.Gid.{Gid}
use Rattle.dl_kinds.specs.declared.runs.Run.{Run}
use Rattle.dl_history.specs.StandingClaims.{standing_claims}
use Rattle.machine_core.specs.Choices.{IsBlockGrant, situation_in}
use Rattle.machine_core.specs.Offers.{IsOffer, IsOfferBy, offered_claim}
use Rattle.machine_core.specs.OwnParts.{PayloadLengths, own_of, payload_lengths_of}
use Rattle.machine_core.specs.RunLegal.{IsLegal}
use Rattle.machine_core.specs.RunSteps.{AccountsMatchRuns}
use Rattle.machine_core.specs.Starts.{Download, RunStart}
use Rattle.machine_core.specs.declared.events.Event.{Event}
use Rattle.machine_core.specs.declared.handed.Handed.{Handed}
use Rattle.machine_core.specs.declared.offers.Offer.TheVariants.{Blocks}
use Rattle.segment_claim.specs.Situation.{Situation}
use Rattle.segment_claim.specs.Theft.{IsTheft}
use Rattle.segment_claim.specs.Views.{IsViewOf}
use Rattle.slow_steal.specs.Theft.{IsSteal}
use Rattle.slow_steal.specs.declared.theft.Steal.{Steal}
use Rattle.offered_work.proofs.Added.{added_gid}
use Rattle.worker_turns.specs.Alone.{NoClaimStands}
use Rattle.worker_turns.proofs.Tracking.{known_are}

-- ---- nothing is stolen of nobody

no_steal : (s : Situation) (views : List ClaimView) (now : ℕ) (steal : Steal) → AllZip (IsViewOf s) [] views
    → IsSteal now views steal → ⊥
no_steal s [] now steal seen is = (let listed = is.is.listed.1 in omega (arith, listed))
no_steal s (v ∷ views) now steal seen is = absurd seen

no_theft : (s : Situation) (now : ℕ) (steal : Steal) (mirror : ℕ) → s.standing ≡ [] → IsTheft s now steal mirror → ⊥
no_theft s now steal mirror none theft =
    no_steal s theft.views now steal (subst (λ (cs : List Claim). AllZip (IsViewOf s) cs theft.views) none theft.seen)
    theft.slowest

later_grant : (s : Situation) (mirror : ℕ) (run : Run) (victim : Option ℕ) (id worker now later : ℕ) → s.standing ≡ []
    → IsBlockGrant s (offered_claim mirror run victim id worker now)
    → IsBlockGrant s (offered_claim mirror run victim id worker later)
later_grant s mirror run victim id worker now later none g = record {
  few = g.few;
  grant = ⊎_elim
      (λ free. inl (record {
        free = free.free;
        number = refl;
        to = refl;
        at = refl;
        stolen_of_none = free.stolen_of_none;
      }))
      (λ theft. absurd (no_theft s now theft.steal mirror none theft.theft)) g.grant;
}

-- ---- a download's offer

module _ (matches : AccountsMatchRuns) (start : RunStart) (past : List Event) (legal : IsLegal start past)
    (none : NoClaimStands start past) where
  -- no claim stands in what the choice goes by
  no_standing : (gid : Gid) (download : Download) (l : PayloadLengths) → payload_lengths_of start past gid ≡ Some l
      → (situation_in start past gid download l).standing ≡ []
  no_standing gid download l known =
      let kept = (matches start past gid legal).claims.standing in
      subst (λ (x : PayloadLengths). (situation_in start past gid download x).standing ≡ standing_claims (own_of start
      past gid))
      (known_are start past gid l known) kept ∙ none gid

  blocks_later : (handed : List Handed) (download : Download) (o : Option PayloadLengths) (now later mirror : ℕ) (run :
      Run)
      (victim : Option ℕ) → payload_lengths_of start past download.gid ≡ o
      → IsOfferBy handed start past download o now (Blocks mirror run victim)
      → IsOfferBy handed start past download o later (Blocks mirror run victim)
  blocks_later handed download None now later mirror run victim is offer = absurd offer
  blocks_later handed download (Some l) now later mirror run victim is offer = (
    offer.0,
    (
      offer.1.0,
      λ id worker. later_grant (situation_in start past download.gid download l) mirror run victim id worker
          now later (no_standing download.gid download l is) (offer.1.1 id worker),
    ),
  )

  -- blocks that are offered are offered later
  pub offer_later : (handed : List Handed) (now later : ℕ) (gid : Gid) (mirror : ℕ) (run : Run) (victim : Option ℕ)
      → IsOffer handed start past now gid (Blocks mirror run victim)
      → IsOffer handed start past later gid (Blocks mirror run victim)
  offer_later handed now later gid mirror run victim offer = record {
    download = offer.download;
    added = offer.added;
    is = blocks_later handed offer.download (payload_lengths_of start past gid) now later mirror run victim
        (ap (λ (g : Gid). payload_lengths_of start past g) (added_gid start past gid offer.download offer.added))
        offer.is;
  }
