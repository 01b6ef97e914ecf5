-- What of a history stands in a download's part of it: its opening and its claims; and which blocks its opening found.
use Rattle.std.proofs.Common.{◌≡◌, ◌⊎◌, ⊎_elim, inl, inr, ℕ, Bool, true, false, cond, List, [], ◌∷◌, refl, sym, ap, ◌∙◌, subst, arith}
use Rattle.std.specs.Prelude.{◌&&◌, ◌==◌, Contains, slice_index_or}
use Rattle.blameless_mirrors.proofs.Marks.{behind, first_or}
use Rattle.dl_history.specs.OwnEvents.{Checks, Clears, Grants, Halts, Lands, Loses, Opens, OwnEvent, Saves, Settles, Sizes}
use Rattle.dl_history.specs.PayloadParts.{counts, is_opened, source_by}
use Rattle.dl_history.specs.StandingClaims.{granted_claims}
use Rattle.dl_kinds.specs.declared.claims.Claim.{Claim}
use Rattle.dl_kinds.specs.declared.gid.Gid.{Gid}
use Rattle.dl_kinds.specs.declared.runs.Moment.{Moment}
use Rattle.machine_core.proofs.Parts.{gid_is, opened_cases, opened_where}
use Rattle.machine_core.specs.OwnParts.{halted_where, halts_by, own_of}
use Rattle.machine_core.specs.Replays.{is_same_gid}
use Rattle.machine_core.specs.Starts.{RunStart}
use Rattle.machine_core.specs.declared.events.Event.{Event}
use Rattle.machine_core.specs.declared.events.Event.TheVariants.{Called, Checked, Claimed, Cleared, Ended, Landed, Left, Lost, Opened, Saved, Settled, Sized, Stopped}
use Rattle.piece_table.specs.Changes.{Absent, From, Unknown, is_in}

-- ---- its opening

-- the event opens it
pub record OpensIt (gid : Gid) (e : Event) : Type 0 where
  pub verified : List Bool
  pub blocks : List Bool
  pub now : Moment
  pub is : e ≡ Opened gid verified blocks now

opened_halted : (t : Bool) (own : List OwnEvent) → is_opened (halted_where t own) ≡ true → is_opened own ≡ true
opened_halted true own h = h
opened_halted false own h = h

pub opening_event : (start : RunStart) (past : List Event) (gid : Gid) (e : Event)
    → is_opened (own_of start (e ∷ past) gid) ≡ true → OpensIt gid e ⊎ (is_opened (own_of start past gid) ≡ true)
opening_event start past gid (Called session asked now) h =
    inr (opened_halted (halts_by start past (Called session asked now) asked gid) (own_of start past gid) h)
opening_event start past gid (Opened other verified blocks now) h =
    opened_cases (is_same_gid gid other) (own_of start past gid) (Opens verified blocks now)
    (λ same. inl (record {
      verified = verified;
      blocks = blocks;
      now = now;
      is = ap (λ (g : Gid). Opened g verified blocks now) (gid_is gid other same);
    }))
    (λ was. inr was) h
opening_event start past gid (Sized other id total) h =
    inr (opened_where (is_same_gid gid other) (own_of start past gid) (Sizes id total) refl h)
opening_event start past gid (Claimed other claim) h =
    inr (opened_where (is_same_gid gid other) (own_of start past gid) (Grants claim) refl h)
opening_event start past gid (Landed other id mirror run now) h =
    inr (opened_where (is_same_gid gid other) (own_of start past gid) (Lands id mirror run) refl h)
opening_event start past gid (Settled other piece right giver) h =
    inr (opened_where (is_same_gid gid other) (own_of start past gid) (Settles piece right giver) refl h)
opening_event start past gid (Cleared other piece) h =
    inr (opened_where (is_same_gid gid other) (own_of start past gid) (Clears piece) refl h)
opening_event start past gid (Lost other id mirror piece mark) h =
    inr (opened_where (is_same_gid gid other) (own_of start past gid) (Loses id mirror piece mark) refl h)
opening_event start past gid (Checked other right) h =
    inr (opened_where (is_same_gid gid other) (own_of start past gid) (Checks right) refl h)
opening_event start past gid (Saved other now) h =
    inr (opened_where (is_same_gid gid other) (own_of start past gid) (Saves now) refl h)
opening_event start past gid (Ended other how) h =
    inr (opened_where (is_same_gid gid other) (own_of start past gid) (Halts true) refl h)
opening_event start past gid Left h = inr h
opening_event start past gid Stopped h = inr h

-- ---- its opening and its claims, as events of the history

-- an opening or a claim
abbrev pub IsTold : OwnEvent → Type 0
IsTold (Opens verified blocks now) = Unit {0}
IsTold (Grants claim) = Unit {0}
IsTold x = ⊥

-- as an event of the history
abbrev pub told_as : Gid → OwnEvent → Event
told_as gid (Opens verified blocks now) = Opened gid verified blocks now
told_as gid (Grants claim) = Claimed gid claim
told_as gid x = Left

-- the event came, or stood before
step_there : (gid : Gid) (e : Event) (past : List Event) (t : Bool) (x y : OwnEvent) (own : List OwnEvent)
    → (t ≡ true → x ≡ y → e ≡ told_as gid y) → (Contains own y → Contains past (told_as gid y))
    → Contains (cond t (x ∷ own) own) y → Contains (e ∷ past) (told_as gid y)
step_there gid e past false x y own came was there = behind e (told_as gid y) past (was there)
step_there gid e past true x y own came was there = ⊎_elim
    (λ (here : x ≡ y). (0, omega arith, came refl here))
    (λ (later : Contains own y). behind e (told_as gid y) past (was later)) (first_or x y own there)

halted_there : (gid : Gid) (e : Event) (past : List Event) (t : Bool) (y : OwnEvent) (own : List OwnEvent) → IsTold y
    → (Contains own y → Contains past (told_as gid y)) → Contains (halted_where t own) y
    → Contains (e ∷ past) (told_as gid y)
halted_there gid e past t y own told was there =
    step_there gid e past t (Halts false) y own (λ same is. absurd (subst IsTold (sym is) told)) was (by t there)
  where
    by : (t : Bool) → Contains (halted_where t own) y → Contains (cond t (Halts false ∷ own) own) y
    by true there = there
    by false there = there

-- what stands of these in the download's part of a history came
pub told_there : (start : RunStart) (gid : Gid) (y : OwnEvent) → IsTold y → (past : List Event)
    → Contains (own_of start past gid) y → Contains past (told_as gid y)
told_there start gid y told [] there = absurd (let within = there.1 in omega (arith, within))
told_there start gid y told (Called session asked now ∷ past) there =
    halted_there gid (Called session asked now) past (halts_by start past (Called session asked now) asked gid) y
    (own_of start past gid) told (told_there start gid y told past) there
told_there start gid y told (Opened other verified blocks now ∷ past) there =
    step_there gid (Opened other verified blocks now) past (is_same_gid gid other) (Opens verified blocks now) y
    (own_of start past gid) (λ same is.
    ap (λ (g : Gid). Opened g verified blocks now) (gid_is gid other same) ∙ ap (told_as gid) is)
    (told_there start gid y told past) there
told_there start gid y told (Sized other id total ∷ past) there =
    step_there gid (Sized other id total) past (is_same_gid gid other) (Sizes id total) y (own_of start past gid)
    (λ same is. absurd (subst IsTold (sym is) told)) (told_there start gid y told past) there
told_there start gid y told (Claimed other claim ∷ past) there =
    step_there gid (Claimed other claim) past (is_same_gid gid other) (Grants claim) y (own_of start past gid)
    (λ same is.
    ap (λ (g : Gid). Claimed g claim) (gid_is gid other same) ∙ ap (told_as gid) is)
    (told_there start gid y told past) there
told_there start gid y told (Landed other id mirror run now ∷ past) there =
    step_there gid (Landed other id mirror run now) past (is_same_gid gid other) (Lands id mirror run) y (own_of start past gid)
    (λ same is. absurd (subst IsTold (sym is) told)) (told_there start gid y told past) there
told_there start gid y told (Settled other piece right giver ∷ past) there =
    step_there gid (Settled other piece right giver) past (is_same_gid gid other) (Settles piece right giver) y
    (own_of start past gid) (λ same is. absurd (subst IsTold (sym is) told)) (told_there start gid y told past) there
told_there start gid y told (Cleared other piece ∷ past) there =
    step_there gid (Cleared other piece) past (is_same_gid gid other) (Clears piece) y (own_of start past gid)
    (λ same is. absurd (subst IsTold (sym is) told)) (told_there start gid y told past) there
told_there start gid y told (Lost other id mirror piece mark ∷ past) there =
    step_there gid (Lost other id mirror piece mark) past (is_same_gid gid other) (Loses id mirror piece mark) y
    (own_of start past gid) (λ same is. absurd (subst IsTold (sym is) told)) (told_there start gid y told past) there
told_there start gid y told (Checked other right ∷ past) there =
    step_there gid (Checked other right) past (is_same_gid gid other) (Checks right) y (own_of start past gid)
    (λ same is. absurd (subst IsTold (sym is) told)) (told_there start gid y told past) there
told_there start gid y told (Saved other now ∷ past) there =
    step_there gid (Saved other now) past (is_same_gid gid other) (Saves now) y (own_of start past gid)
    (λ same is. absurd (subst IsTold (sym is) told)) (told_there start gid y told past) there
told_there start gid y told (Ended other how ∷ past) there =
    step_there gid (Ended other how) past (is_same_gid gid other) (Halts true) y (own_of start past gid)
    (λ same is. absurd (subst IsTold (sym is) told)) (told_there start gid y told past) there
told_there start gid y told (Left ∷ past) there = behind Left (told_as gid y) past (told_there start gid y told past there)
told_there start gid y told (Stopped ∷ past) there =
    halted_there gid Stopped past true y (own_of start past gid) told (told_there start gid y told past) there

-- a claim that was granted to it
pub granted_there : (own : List OwnEvent) (claim : Claim) → Contains (granted_claims own) claim → Contains own (Grants claim)
granted_there [] claim there = absurd (let within = there.1 in omega (arith, within))
granted_there (Grants c ∷ own) claim there = ⊎_elim
    (λ (here : c ≡ claim). (0, omega arith, ap Grants here))
    (λ (was : Contains (granted_claims own) claim). behind (Grants c) (Grants claim) own (granted_there own claim was))
    (first_or c claim (granted_claims own) there)
granted_there (Opens verified blocks now ∷ own) claim there =
    behind (Opens verified blocks now) (Grants claim) own (granted_there own claim there)
granted_there (Lands id mirror run ∷ own) claim there =
    behind (Lands id mirror run) (Grants claim) own (granted_there own claim there)
granted_there (Settles piece right giver ∷ own) claim there =
    behind (Settles piece right giver) (Grants claim) own (granted_there own claim there)
granted_there (Clears piece ∷ own) claim there = behind (Clears piece) (Grants claim) own (granted_there own claim there)
granted_there (Loses id mirror piece mark ∷ own) claim there =
    behind (Loses id mirror piece mark) (Grants claim) own (granted_there own claim there)
granted_there (Sizes id told ∷ own) claim there = behind (Sizes id told) (Grants claim) own (granted_there own claim there)
granted_there (Saves now ∷ own) claim there = behind (Saves now) (Grants claim) own (granted_there own claim there)
granted_there (Checks right ∷ own) claim there = behind (Checks right) (Grants claim) own (granted_there own claim there)
granted_there (Halts ends ∷ own) claim there = behind (Halts ends) (Grants claim) own (granted_there own claim there)

-- ---- its blocks

-- an opening found the block
pub record FindsBlock (own : List OwnEvent) (b : ℕ) : Type 0 where
  pub verified : List Bool
  pub blocks : List Bool
  pub now : Moment
  pub there : Contains own (Opens verified blocks now)
  pub has : slice_index_or blocks b false ≡ true

found_behind : (x : OwnEvent) (own : List OwnEvent) (b : ℕ) → FindsBlock own b → FindsBlock (x ∷ own) b
found_behind x own b f = record {
  verified = f.verified;
  blocks = f.blocks;
  now = f.now;
  there = behind x (Opens f.verified f.blocks f.now) own f.there;
  has = f.has;
}

-- what nobody gave an opening found
pub unknown_found : (alive : ℕ → Bool) (p b : ℕ) (own : List OwnEvent) → source_by alive p b own ≡ Unknown
    → FindsBlock own b
unknown_found alive p b [] is = absurd cc
unknown_found alive p b (Opens verified blocks now ∷ own) is = by (slice_index_or blocks b false) refl is
  where
    by : (t : Bool) → slice_index_or blocks b false ≡ t → cond t Unknown Absent ≡ Unknown
        → FindsBlock (Opens verified blocks now ∷ own) b
    by true has same = record { verified = verified; blocks = blocks; now = now; there = (0, omega arith, refl); has = has }
    by false has same = absurd cc
unknown_found alive p b (Lands id mirror run ∷ own) is =
    by (is_in b run && counts alive own p id) (unknown_found alive p b own) is
  where
    by : (t : Bool) → (source_by alive p b own ≡ Unknown → FindsBlock own b)
        → cond t (From mirror) (source_by alive p b own) ≡ Unknown → FindsBlock (Lands id mirror run ∷ own) b
    by true was same = absurd cc
    by false was same = found_behind (Lands id mirror run) own b (was same)
unknown_found alive p b (Clears piece ∷ own) is = by (piece == p) (unknown_found alive p b own) is
  where
    by : (t : Bool) → (source_by alive p b own ≡ Unknown → FindsBlock own b)
        → cond t Absent (source_by alive p b own) ≡ Unknown → FindsBlock (Clears piece ∷ own) b
    by true was same = absurd cc
    by false was same = found_behind (Clears piece) own b (was same)
unknown_found alive p b (Grants claim ∷ own) is = found_behind (Grants claim) own b (unknown_found alive p b own is)
unknown_found alive p b (Settles piece right giver ∷ own) is =
    found_behind (Settles piece right giver) own b (unknown_found alive p b own is)
unknown_found alive p b (Loses id mirror piece mark ∷ own) is =
    found_behind (Loses id mirror piece mark) own b (unknown_found alive p b own is)
unknown_found alive p b (Sizes id told ∷ own) is = found_behind (Sizes id told) own b (unknown_found alive p b own is)
unknown_found alive p b (Saves now ∷ own) is = found_behind (Saves now) own b (unknown_found alive p b own is)
unknown_found alive p b (Checks right ∷ own) is = found_behind (Checks right) own b (unknown_found alive p b own is)
unknown_found alive p b (Halts ends ∷ own) is = found_behind (Halts ends) own b (unknown_found alive p b own is)
