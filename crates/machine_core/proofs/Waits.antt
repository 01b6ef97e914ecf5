-- What the active downloads offer, of those that were asked so far.
use Rattle.std.proofs.Common.{◌≡◌, ℕ, ◌<◌, ◌≤◌, true, false, Option, Some, None, List, [], ◌∷◌, ◌++◌, min, refl, sym, ap, ◌∙◌, subst, ⊎_elim, append-nil, append_assoc, arith}
use Rattle.std.specs.Prelude.{◌↔◌, All}
use Rattle.std.proofs.lemmas.Bool.{cases_lt}
use Rattle.std.proofs.lemmas.List.Elements.{All-nil, All-push, All-weaker}
use Rattle.dl_kinds.specs.declared.gid.Gid.{Gid}
use Rattle.machine_core.specs.Offers.{Credit, HasNoOffer, HasNoneAfforded, IsHeldUp, IsIdle, IsNextOffer, IsOffered, WaitsNoLonger, affords, least_wait}
use Rattle.machine_core.specs.declared.offers.Offer.{Offer}
use Rattle.machine_core.specs.declared.offers.Offered.{Offered}
use Rattle.machine_core.specs.declared.offers.Offered.TheVariants.{Next, Held, Idle}

-- the least wait of those that have an offer; none has, where there is none
abbrev pub IsWait : (Gid → Offer → Type 0) → List Credit → Option ℕ → Type 0
IsWait Offers asked None = IsIdle Offers asked
IsWait Offers asked (Some wait) = IsHeldUp Offers asked wait

-- of all credits those in front were asked, and these are left
pub record IsSoFar (Offers : Gid → Offer → Type 0) (all left : List Credit) (wait : Option ℕ) : Type 0 where
  pub asked : List Credit
  pub cut : all ≡ asked ++ left
  pub is : IsWait Offers asked wait

pub none_asked : (Offers : Gid → Offer → Type 0) (all : List Credit) → IsSoFar Offers all all None
none_asked Offers all = record { asked = []; cut = refl; is = All-nil (HasNoOffer Offers) }

-- the next one joins them
joins : (asked : List Credit) (c : Credit) (rest : List Credit) → asked ++ c ∷ rest ≡ (asked ++ c ∷ []) ++ rest
joins asked c rest = sym (append_assoc asked (c ∷ []) rest)

idle_more : (Offers : Gid → Offer → Type 0) (asked : List Credit) (c : Credit) (wait : Option ℕ) → HasNoOffer Offers c
    → IsWait Offers asked wait → IsWait Offers (asked ++ c ∷ []) wait
idle_more Offers asked c None none is = All-push (HasNoOffer Offers) asked c is none
idle_more Offers asked c (Some wait) none is =
    record {
      before = is.before;
      credit = is.credit;
      behind = is.behind ++ c ∷ [];
      cut = ap (λ (cs : List Credit). cs ++ c ∷ []) is.cut ∙ append_assoc is.before (is.credit ∷ is.behind) (c ∷ []);
      offer = is.offer;
      is = is.is;
      wait_is = is.wait_is;
      least = All-push (WaitsNoLonger Offers wait) asked c is.least (λ offer has. absurd (none offer has));
    }

pub asks_none : (Offers : Gid → Offer → Type 0) (all left : List Credit) (c : Credit) (rest : List Credit)
    (wait : Option ℕ) → left ≡ c ∷ rest → HasNoOffer Offers c → IsSoFar Offers all left wait
    → IsSoFar Offers all rest wait
asks_none Offers all left c rest wait steps none so =
    record {
      asked = so.asked ++ c ∷ [];
      cut = so.cut ∙ (ap (λ (cs : List Credit). so.asked ++ cs) steps ∙ joins so.asked c rest);
      is = idle_more Offers so.asked c wait none so.is;
    }

-- none of the offers of a download is afforded
record IsUnafforded (Offers : Gid → Offer → Type 0) (c : Credit) : Type 0 where
  offer : Offer
  is : Offers c.gid offer
  each : (other : Offer) → Offers c.gid other → affords c.bytes other ≡ false

held_none : (Offers : Gid → Offer → Type 0) (asked : List Credit) (c : Credit) → IsUnafforded Offers c
    → IsIdle Offers asked → IsHeldUp Offers (asked ++ c ∷ []) c.wait
held_none Offers asked c un idle =
    record {
      before = asked;
      credit = c;
      behind = [];
      cut = refl;
      offer = un.offer;
      is = un.is;
      wait_is = refl;
      least = All-push (WaitsNoLonger Offers c.wait) asked c
          (All-weaker (HasNoOffer Offers) (WaitsNoLonger Offers c.wait)
          (λ d none offer has. absurd (none offer has)) asked idle)
          (λ offer has. (un.each offer has, omega arith));
    }

longer : (Offers : Gid → Offer → Type 0) (wait less : ℕ) (asked : List Credit) → less ≤ wait
    → All (WaitsNoLonger Offers wait) asked → All (WaitsNoLonger Offers less) asked
longer Offers wait less asked below all =
    All-weaker (WaitsNoLonger Offers wait) (WaitsNoLonger Offers less)
    (λ d waits offer has. ((waits offer has).0, (let w = (waits offer has).1 in omega arith))) asked all

held_more : (Offers : Gid → Offer → Type 0) (asked : List Credit) (c : Credit) (wait : ℕ) → IsUnafforded Offers c
    → IsHeldUp Offers asked wait → IsHeldUp Offers (asked ++ c ∷ []) (min wait c.wait)
held_more Offers asked c wait un is =
    ⊎_elim
    (λ (sooner : wait < c.wait).
    let same : wait ≡ min wait c.wait = omega arith in
    subst (λ (w : ℕ). IsHeldUp Offers (asked ++ c ∷ []) w) same
    (record {
      before = is.before;
      credit = is.credit;
      behind = is.behind ++ c ∷ [];
      cut = ap (λ (cs : List Credit). cs ++ c ∷ []) is.cut ∙ append_assoc is.before (is.credit ∷ is.behind) (c ∷ []);
      offer = is.offer;
      is = is.is;
      wait_is = is.wait_is;
      least = All-push (WaitsNoLonger Offers wait) asked c is.least (λ offer has. (un.each offer has, omega arith));
    }))
    (λ (later : c.wait ≤ wait).
    let same : c.wait ≡ min wait c.wait = omega arith in
    subst (λ (w : ℕ). IsHeldUp Offers (asked ++ c ∷ []) w) same
    (record {
      before = asked;
      credit = c;
      behind = [];
      cut = refl;
      offer = un.offer;
      is = un.is;
      wait_is = refl;
      least = All-push (WaitsNoLonger Offers c.wait) asked c (longer Offers wait c.wait asked later is.least)
          (λ offer has. (un.each offer has, omega arith));
    }))
    (cases_lt wait c.wait)

wait_more : (Offers : Gid → Offer → Type 0) (asked : List Credit) (c : Credit) (wait : Option ℕ) → IsUnafforded Offers c
    → IsWait Offers asked wait → IsHeldUp Offers (asked ++ c ∷ []) (least_wait wait c.wait)
wait_more Offers asked c None un is = held_none Offers asked c un is
wait_more Offers asked c (Some wait) un is = held_more Offers asked c wait un is

-- an offer that isn't afforded, as none of its download is
pub asks_unafforded : (Offers : Gid → Offer → Type 0) (all left : List Credit) (c : Credit) (rest : List Credit)
    (wait : Option ℕ) (offer : Offer) → left ≡ c ∷ rest → Offers c.gid offer
    → ((other : Offer) → Offers c.gid other → affords c.bytes other ≡ affords c.bytes offer)
    → affords c.bytes offer ≡ false → IsSoFar Offers all left wait
    → IsSoFar Offers all rest (Some (least_wait wait c.wait))
asks_unafforded Offers all left c rest wait offer steps has alike un so =
    record {
      asked = so.asked ++ c ∷ [];
      cut = so.cut ∙ (ap (λ (cs : List Credit). so.asked ++ cs) steps ∙ joins so.asked c rest);
      is = wait_more Offers so.asked c wait
          (record { offer = offer; is = has; each = λ other its. alike other its ∙ un }) so.is;
    }

none_afforded : (Offers : Gid → Offer → Type 0) (asked : List Credit) (wait : Option ℕ) → IsWait Offers asked wait
    → All (HasNoneAfforded Offers) asked
none_afforded Offers asked None is =
    All-weaker (HasNoOffer Offers) (HasNoneAfforded Offers) (λ d none offer has. absurd (none offer has)) asked is
none_afforded Offers asked (Some wait) is =
    All-weaker (WaitsNoLonger Offers wait) (HasNoneAfforded Offers) (λ d waits offer has. (waits offer has).0) asked
    is.least

-- an offer that is afforded is the first
pub asks_afforded : (Offers : Gid → Offer → Type 0) (all left : List Credit) (c : Credit) (rest : List Credit)
    (wait : Option ℕ) (offer : Offer) → left ≡ c ∷ rest → Offers c.gid offer → affords c.bytes offer ≡ true
    → IsSoFar Offers all left wait → IsNextOffer Offers all c.gid offer
asks_afforded Offers all left c rest wait offer steps has afforded so =
    record {
      before = so.asked;
      credit = c;
      behind = rest;
      cut = so.cut ∙ ap (λ (cs : List Credit). so.asked ++ cs) steps;
      gid_is = refl;
      is = has;
      afforded = afforded;
      first = none_afforded Offers so.asked wait so.is;
    }

-- all were asked
asked_all : (Offers : Gid → Offer → Type 0) (all left : List Credit) (wait : Option ℕ) → left ≡ []
    → IsSoFar Offers all left wait → IsWait Offers all wait
asked_all Offers all left wait none so =
    subst (λ (cs : List Credit). IsWait Offers cs wait)
    (sym (so.cut ∙ (ap (λ (cs : List Credit). so.asked ++ cs) none ∙ append-nil so.asked))) so.is

pub ends_held : (Offers : Gid → Offer → Type 0) (all left : List Credit) (wait : Option ℕ) (ms : ℕ) → left ≡ []
    → wait ≡ Some ms → IsSoFar Offers all left wait → IsHeldUp Offers all ms
ends_held Offers all left wait ms none is so =
    subst (λ (o : Option ℕ). IsWait Offers all o) is (asked_all Offers all left wait none so)

pub ends_idle : (Offers : Gid → Offer → Type 0) (all left : List Credit) (wait : Option ℕ) → left ≡ []
    → wait ≡ None → IsSoFar Offers all left wait → IsIdle Offers all
ends_idle Offers all left wait none is so =
    subst (λ (o : Option ℕ). IsWait Offers all o) is (asked_all Offers all left wait none so)

-- ---- the same offers in other words

record SaysSame (P Q : Gid → Offer → Type 0) : Type 0 where
  none : (c : Credit) → HasNoOffer P c → HasNoOffer Q c
  afforded : (c : Credit) → HasNoneAfforded P c → HasNoneAfforded Q c
  waits : (wait : ℕ) (c : Credit) → WaitsNoLonger P wait c → WaitsNoLonger Q wait c

says_same : (P Q : Gid → Offer → Type 0) → ((gid : Gid) (offer : Offer) → P gid offer ↔ Q gid offer) → SaysSame P Q
says_same P Q same =
    record {
      none = λ c none offer has. none offer ((same c.gid offer).1 has);
      afforded = λ c none offer has. none offer ((same c.gid offer).1 has);
      waits = λ wait c waits offer has. waits offer ((same c.gid offer).1 has);
    }

pub offered_same : (P Q : Gid → Offer → Type 0) → ((gid : Gid) (offer : Offer) → P gid offer ↔ Q gid offer)
    → (credits : List Credit) (offered : Offered) → IsOffered P credits offered → IsOffered Q credits offered
offered_same P Q same credits (Next gid offer) is =
    let s = says_same P Q same in
    record {
      before = is.before;
      credit = is.credit;
      behind = is.behind;
      cut = is.cut;
      gid_is = is.gid_is;
      is = (same gid offer).0 is.is;
      afforded = is.afforded;
      first = All-weaker (HasNoneAfforded P) (HasNoneAfforded Q) s.afforded is.before is.first;
    }
offered_same P Q same credits (Held wait) is =
    let s = says_same P Q same in
    record {
      before = is.before;
      credit = is.credit;
      behind = is.behind;
      cut = is.cut;
      offer = is.offer;
      is = (same is.credit.gid is.offer).0 is.is;
      wait_is = is.wait_is;
      least = All-weaker (WaitsNoLonger P wait) (WaitsNoLonger Q wait) (s.waits wait) credits is.least;
    }
offered_same P Q same credits Idle is =
    let s = says_same P Q same in All-weaker (HasNoOffer P) (HasNoOffer Q) s.none credits is
