-- The steps of a source, from part to part.
use Rattle.std.proofs.Common.{◌≡◌, ◌⊎◌, ℕ, ◌+◌, ◌-◌, ◌<◌, ◌≤◌, Bool, true, false, cond, List, [], ◌∷◌, ◌++◌, length, drop, Option, Some, None, refl, sym, ap, subst, ◌∙◌, inl, inr, arith, append_assoc, append-nil, length-append}
use Rattle.std.proofs.lemmas.Bool.{cases_Bool, cases_lt, false≢true, true≢false}
use Rattle.std.proofs.lemmas.List.{drop_all, drop-drop}
use Rattle.std.proofs.lemmas.List.Sums.{sum_by-append}
use Rattle.std.specs.Prelude.{slice_get, OnOk, Result, Ok, Err}
use Rattle.link_source.specs.Endpoint.{IsUsable}
use Rattle.link_source.specs.Exchanges.{Exchange}
use Rattle.link_source.specs.Link.{LinkState}
use Rattle.span_map.specs.declared.jobs.JobPart.{JobPart}
use Rattle.reply_reader.specs.declared.loss.Loss.{Loss}
use Rattle.reply_reader.specs.declared.loss.Loss.TheVariants.{Link, NotFound, Refused, BadReply, Length, Short, Redirects, NoMemory}
use Rattle.request_chain.specs.Chains.{Gains, received_by}
use Rattle.request_chain.specs.Plans.{FetchEnding, Done, Lost, Open}
use Rattle.request_chain.specs.declared.chain.ChainRead.{ChainRead}
use Rattle.request_chain.proofs.CourseLemmas.{drop_at}
use Rattle.part_fetches.specs.Fetched.{AreBrought, Fetched, FetchedPart, LeadOn}
use Rattle.part_fetches.specs.Losses.{TellsLoss}
use Rattle.part_fetches.proofs.Following.{leads_on, leads_part, leads_whole, part_brought, parts_begin}
use Rattle.fetch_session.specs.Sources.{AsksPart, IfUnusableNext, IsAtPart, IsSource, LosesParts, LosesStep, MayReadAt, ReadsParts, RestsAt, SourceAsks, StepsOn}
use Rattle.part_readers.specs.Readers.{IsReading, LosesPart, ReaderAsks, ReadsPart, TellsPartLoss}
use Rattle.part_readers.specs.declared.reader.PartReader.{PartReader}
use Rattle.part_readers.specs.declared.rooms.PartRooms.{PartRooms}
use Rattle.part_readers.proofs.Telling.{may_rest, reading_tells}
use Rattle.fetch_session.specs.declared.source.Reader.{Reader}
use Rattle.fetch_session.specs.declared.source.Reader.TheVariants.{Next, Part}
use Rattle.fetch_session.specs.declared.source.Source.{Source}

pub may_rests : (reader : Option Reader) (link : LinkState) → MayReadAt reader link → RestsAt reader link
may_rests None link may = tt
may_rests (Some (Next rooms)) link may = may
may_rests (Some (Part reader)) link may = may_rest reader link may

-- ---- streams that came on top of others

gains_split : (older newer : List Exchange) (before now : List Exchange) → Gains before now (older ++ newer)
    → (between : List Exchange) × Gains before between older × Gains between now newer
gains_split [] newer before now gains = (before, refl, gains)
gains_split (stream ∷ older) newer before now gains = gains_split older newer (stream ∷ before) now gains

gains_join : (older newer : List Exchange) (before between now : List Exchange) → Gains before between older → Gains between now newer
    → Gains before now (older ++ newer)
gains_join [] newer before between now first gains = subst (λ (streams : List Exchange). Gains streams now newer) first gains
gains_join (stream ∷ older) newer before between now first gains = gains_join older newer (stream ∷ before) between now first gains

gains_few : (older : List Exchange) (before between : List Exchange) → Gains before between older → length before ≤ length between
gains_few [] before between same = omega (arith, ap length same)
gains_few (stream ∷ older) before between gains = omega (arith, gains_few older (stream ∷ before) between gains)

received_all : (older newer : List Exchange) → received_by (older ++ newer) ≡ received_by older + received_by newer
received_all older newer = sum_by-append (λ (stream : Exchange). length stream.received) older newer

-- ---- the part that is next

-- nothing is left of the parts
none_left : (reader : Option Reader) (newer : List Exchange) (own waiting : List ℕ) → IsAtPart reader [] newer own waiting
    → (newer ≡ []) × (own ≡ []) × (waiting ≡ [])
none_left None newer own waiting at = absurd at
none_left (Some (Next rooms)) newer own waiting at = at
none_left (Some (Part reader)) newer own waiting at = absurd at

module _ (parts : List JobPart) (used : List Exchange) (bytes : List ℕ) (source : Source) (is : IsSource parts used bytes source) where
  no_more : length source.parts ≤ source.place → drop source.place parts ≡ []
  no_more over = drop_all source.place parts (subst (λ (ps : List JobPart). length ps ≤ source.place) is.parts_are over)

  none_at : length source.parts ≤ source.place → (is.newer ≡ []) × (is.own ≡ []) × (is.waiting ≡ [])
  none_at over =
      let P : List JobPart → Type 0 = λ left. IsAtPart source.reader left is.newer is.own is.waiting in
      none_left source.reader is.newer is.own is.waiting (subst P (no_more over) is.at)

  -- all came
  pub source_whole : length source.parts ≤ source.place → Fetched parts used bytes Done []
  source_whole over =
      let none = none_at over in
      let P : List JobPart → Type 0 = λ left. LeadOn parts is.older is.front left in
      let whole : Fetched parts is.older is.front Done [] = leads_whole parts is.older is.front (subst P (no_more over) is.leads) in
      let streams : used ≡ is.older = is.used_is ∙ ap (λ more. is.older ++ more) none.0 ∙ append-nil is.older in
      let came : bytes ≡ is.front = is.bytes_are ∙ ap (λ more. is.front ++ more) none.1 ∙ append-nil is.front in
      let S : List Exchange → Type 0 = λ s. Fetched parts s bytes Done [] in
      let B : List ℕ → Type 0 = λ b. Fetched parts is.older b Done [] in
      subst S (sym streams) (subst B (sym came) whole)

-- what the streams of the part tell
part_tells : (reader : Option Reader) (left : List JobPart) (newer : List Exchange) (own waiting : List ℕ) → IsAtPart reader left newer own waiting
    → (how : FetchEnding) × Fetched left newer (own ++ waiting) how []
part_tells None left newer own waiting at = absurd at
part_tells (Some (Next rooms)) left newer own waiting at =
    let begun = parts_begin left in
    let O : List ℕ → Type 0 = λ o. Fetched left [] (o ++ []) begun.0 [] in
    let W : List ℕ → Type 0 = λ w. Fetched left [] (own ++ w) begun.0 [] in
    let S : List Exchange → Type 0 = λ s. Fetched left s (own ++ waiting) begun.0 [] in
    (begun.0, subst S (sym at.0) (subst W (sym at.2) (subst O (sym at.1) begun.1)))
part_tells (Some (Part reader)) [] newer own waiting at = absurd at
part_tells (Some (Part reader)) (part ∷ parts) newer own waiting at =
    let told = reading_tells part newer own waiting reader at in
    part_brought part parts newer (own ++ waiting) told.0 told.1

pub source_brought : (parts : List JobPart) (used : List Exchange) (bytes : List ℕ) (source : Source) (is : IsSource parts used bytes source)
    → AreBrought parts used bytes is.waiting
source_brought parts used bytes source is =
    let told = part_tells source.reader (drop source.place parts) is.newer is.own is.waiting is.at in
    let all : Fetched parts (is.older ++ is.newer) (is.front ++ (is.own ++ is.waiting)) told.0 [] = is.leads is.newer [] (is.own ++ is.waiting) told.0 told.1 in
    let same : bytes ++ is.waiting ≡ is.front ++ (is.own ++ is.waiting) =
    ap (λ (b : List ℕ). b ++ is.waiting) is.bytes_are ∙ append_assoc is.front is.own is.waiting in
    let S : List Exchange → Type 0 = λ s. Fetched parts s (bytes ++ is.waiting) told.0 [] in
    let B : List ℕ → Type 0 = λ b. Fetched parts (is.older ++ is.newer) b told.0 [] in
    record { ending = told.0; fetched = subst S (sym is.used_is) (subst B (sym same) all) }

-- ---- what is asked next

none_asks : (reader : Option Reader) (url : List ℕ) → AsksPart reader [] url → ⊥
none_asks None url asks = asks
none_asks (Some (Next rooms)) url asks = asks
none_asks (Some (Part reader)) url asks = asks

-- there is a part that is next
pub asks_within : (source : Source) (url : List ℕ) → SourceAsks source url → source.place < length source.parts
asks_within source url asks = elim (cases_lt source.place (length source.parts)) [
  | inl within ↦ within
  | inr over ↦
      let P : List JobPart → Type 0 = λ left. AsksPart source.reader left url in
      absurd (none_asks source.reader url (subst P (drop_all source.place source.parts over) asks))
]

pub begun_asks : (parts : List JobPart) (rooms : PartRooms) (part : JobPart) (others : List JobPart) → parts ≡ part ∷ others
    → AsksPart (Some (Next rooms)) parts part.url
begun_asks parts rooms part others is =
    let P : List JobPart → Type 0 = λ left. AsksPart (Some (Next rooms)) left part.url in
    subst P (sym is) refl

reader_asks_by : (left : List JobPart) (reader : PartReader) (url : List ℕ) → AsksPart (Some (Part reader)) left url → ReaderAsks reader url
reader_asks_by [] reader url asks = absurd asks
reader_asks_by (part ∷ parts) reader url asks = asks

pub reader_asks : (source : Source) (reader : PartReader) (url : List ℕ) → source.reader ≡ Some (Part reader) → SourceAsks source url → ReaderAsks reader url
reader_asks source reader url reader_is asks =
    let P : Option Reader → Type 0 = λ it. AsksPart it (drop source.place source.parts) url in
    reader_asks_by (drop source.place source.parts) reader url (subst P reader_is asks)

-- a reader asks for the part, unless its URL can be asked
pub part_asks : (source : Source) (rooms : PartRooms) (reader : PartReader) (part : JobPart) (url : List ℕ)
    → source.reader ≡ Some (Next rooms) → slice_get source.parts source.place ≡ Some part → ReaderAsks reader part.url ⊎ IsUsable part.url → SourceAsks source url
    → AsksPart (Some (Part reader)) (drop source.place source.parts) url ⊎ IsUsable url
part_asks source rooms reader part url reader_is here first asks =
    let left : drop source.place source.parts ≡ part ∷ drop (source.place + 1) source.parts = drop_at source.parts source.place part here in
    let P : Option Reader → Type 0 = λ it. AsksPart it (drop source.place source.parts) url in
    let Q : List JobPart → Type 0 = λ ps. AsksPart (Some (Next rooms)) ps url in
    let same : part.url ≡ url = subst Q left (subst P reader_is asks) in
    let R : List JobPart → Type 0 = λ ps. AsksPart (Some (Part reader)) ps url in
    let U : List ℕ → Type 0 = λ at. ReaderAsks reader at in
    elim first [
      | inl asked ↦ inl (subst R (sym left) (subst U same asked))
      | inr usable ↦ inr (subst IsUsable same usable)
    ]

-- where one asks for what the other does, or that can be asked, neither can ask for what can't be
pub usable_on : {T : Type 0} (old first : Source) (result : Result T Loss) → ((url : List ℕ) → SourceAsks first url → SourceAsks old url ⊎ IsUsable url)
    → OnOk result (IfUnusableNext old ⊥) → OnOk result (IfUnusableNext first ⊥)
usable_on old first (Ok came) asks usable = λ url is unusable. elim (asks url is) [
  | inl asked ↦ usable url asked unusable
  | inr can ↦ unusable can
]
usable_on old first (Err loss) asks usable = tt

-- ---- a reader for a part

at_reader : (part : JobPart) (parts : List JobPart) (newer : List Exchange) (own waiting : List ℕ) (reader : PartReader)
    → newer ≡ [] → own ≡ [] → waiting ≡ [] → IsReading part [] [] [] reader → IsAtPart (Some (Part reader)) (part ∷ parts) newer own waiting
at_reader part parts newer own waiting reader newer_is own_is waiting_is reading =
    let N : List Exchange → Type 0 = λ n. IsReading part n own waiting reader in
    let O : List ℕ → Type 0 = λ o. IsReading part [] o waiting reader in
    let W : List ℕ → Type 0 = λ w. IsReading part [] [] w reader in
    subst N (sym newer_is) (subst O (sym own_is) (subst W (sym waiting_is) reading))

pub asks_part : (parts : List JobPart) (used : List Exchange) (bytes : List ℕ) (old new : Source) (rooms : PartRooms) (reader : PartReader) (part : JobPart)
    → old.reader ≡ Some (Next rooms) → slice_get old.parts old.place ≡ Some part
    → new.reader ≡ Some (Part reader) → new.parts ≡ old.parts → new.place ≡ old.place
    → IsReading part [] [] [] reader → IsSource parts used bytes old → IsSource parts used bytes new
asks_part parts used bytes old new rooms reader part old_is here new_is parts_is place_is reading is =
    let R : Option Reader → Type 0 = λ it. IsAtPart it (drop old.place parts) is.newer is.own is.waiting in
    let none : (is.newer ≡ []) × (is.own ≡ []) × (is.waiting ≡ []) = subst R old_is is.at in
    let S : List JobPart → Type 0 = λ ps. slice_get ps old.place ≡ Some part in
    let left : drop old.place parts ≡ part ∷ drop (old.place + 1) parts = drop_at parts old.place part (subst S is.parts_are here) in
    let base = at_reader part (drop (old.place + 1) parts) is.newer is.own is.waiting reader none.0 none.1 none.2 reading in
    let P : List JobPart → Type 0 = λ ps. IsAtPart (Some (Part reader)) ps is.newer is.own is.waiting in
    let N : Option Reader → Type 0 = λ it. IsAtPart it (drop new.place parts) is.newer is.own is.waiting in
    let next : drop new.place parts ≡ drop old.place parts = ap (λ n. drop n parts) place_is in
    let L : List JobPart → Type 0 = λ ps. LeadOn parts is.older is.front ps in
    record {
      parts_are = parts_is ∙ is.parts_are;
      older = is.older;
      newer = is.newer;
      used_is = is.used_is;
      front = is.front;
      own = is.own;
      bytes_are = is.bytes_are;
      leads = subst L (sym next) is.leads;
      waiting = is.waiting;
      at = subst N (sym new_is) (subst P (sym (next ∙ left)) base);
    }

-- the reader reads the part that is next
pub record AtReader (parts : List JobPart) (place : ℕ) (newer : List Exchange) (own waiting : List ℕ) (reader : PartReader) : Type 0 where
  pub part : JobPart
  pub others : List JobPart
  pub left_is : drop place parts ≡ part ∷ others
  pub reading : IsReading part newer own waiting reader

reader_at : (left : List JobPart) (newer : List Exchange) (own waiting : List ℕ) (reader : PartReader) → IsAtPart (Some (Part reader)) left newer own waiting
    → (part : JobPart) × (others : List JobPart) × (left ≡ part ∷ others) × IsReading part newer own waiting reader
reader_at [] newer own waiting reader at = absurd at
reader_at (part ∷ others) newer own waiting reader at = (part, others, refl, at)

pub at_part : (parts : List JobPart) (used : List Exchange) (bytes : List ℕ) (source : Source) (reader : PartReader) → source.reader ≡ Some (Part reader)
    → (is : IsSource parts used bytes source) → AtReader parts source.place is.newer is.own is.waiting reader
at_part parts used bytes source reader reader_is is =
    let R : Option Reader → Type 0 = λ it. IsAtPart it (drop source.place parts) is.newer is.own is.waiting in
    let at = reader_at (drop source.place parts) is.newer is.own is.waiting reader (subst R reader_is is.at) in
    record { part = at.0; others = at.1; left_is = at.2; reading = at.3 }

-- the streams before those of the part
pub record StreamsBetween (before now older newer : List Exchange) : Type 0 where
  pub between : List Exchange
  pub first : Gains before between older
  pub behind : Gains between now newer
  pub few : length before ≤ length between

pub between_of : (parts : List JobPart) (used : List Exchange) (bytes : List ℕ) (source : Source) (is : IsSource parts used bytes source) (before now : List Exchange)
    → Gains before now used → StreamsBetween before now is.older is.newer
between_of parts used bytes source is before now gains =
    let P : List Exchange → Type 0 = λ streams. Gains before now streams in
    let split = gains_split is.older is.newer before now (subst P is.used_is gains) in
    record { between = split.0; first = split.1; behind = split.2; few = gains_few is.older before split.0 split.1 }

-- what each loss of a part says of all parts
module _ (all : List JobPart) (older newer : List Exchange) (front own : List ℕ) (part : JobPart) (parts : List JobPart)
    (leads : LeadOn all older front (part ∷ parts)) (faults : ℕ) where
  lost_on : (loss : Loss) → FetchedPart part newer own (Lost loss) [] → Fetched all (older ++ newer) (front ++ own) (Lost loss) []
  lost_on loss fetched = leads_part all older newer front own part parts (Lost loss) leads fetched (λ done. cc)

  loss_on : (loss : Loss) → TellsPartLoss part newer own faults loss → TellsLoss all (older ++ newer) (front ++ own) faults loss
  loss_on (Link count) tells = (leads_part all older newer front own part parts Open leads tells.0 (λ done. cc), tells.1)
  loss_on NoMemory tells = tt
  loss_on NotFound tells = lost_on NotFound tells
  loss_on (Refused status code) tells = lost_on (Refused status code) tells
  loss_on BadReply tells = lost_on BadReply tells
  loss_on (Length told want) tells = lost_on (Length told want) tells
  loss_on (Short got) tells = lost_on (Short got) tells
  loss_on Redirects tells = lost_on Redirects tells

-- ---- a read of that part

module _ (parts : List JobPart) (used : List Exchange) (bytes : List ℕ) (old new : Source) (reader new_reader : PartReader) (is : IsSource parts used bytes old)
    (at : AtReader parts old.place is.newer is.own is.waiting reader) (parts_is : new.parts ≡ old.parts)
    (before now then_now : List Exchange) (between : StreamsBetween before now is.older is.newer) (added : List ℕ) (room allow : ℕ) (some : old.taken < allow) where
  joined : bytes ++ added ≡ is.front ++ (is.own ++ added)
  joined = ap (λ came. came ++ added) is.bytes_are ∙ append_assoc is.front is.own added

  counts : (later : List Exchange) (read : ℕ) → received_by later ≡ received_by is.newer + read → new.taken ≡ old.taken + read
      → received_by (is.older ++ later) + old.taken ≡ received_by used + new.taken
  counts later read more taken_is =
      let was : received_by used ≡ received_by is.older + received_by is.newer = ap received_by is.used_is ∙ received_all is.older is.newer in
      omega (arith, was, received_all is.older later, more, taken_is)

  module _ (read : ChainRead) (reads : ReadsPart at.part between.between is.newer is.own then_now added room (allow - old.taken) read new_reader)
      (taken_is : new.taken ≡ old.taken + read.taken) where
    waits : (reads.waiting ≡ []) ⊎ (room ≤ length added)
    waits = elim (cases_lt (length added) room) [
      | inl less ↦ inl (reads.none_waits less)
      | inr all ↦ inr all
    ]

    full : read.done ≡ false → (length added ≡ room) ⊎ (new.taken ≡ allow)
    full undone = elim reads.full [
      | inl done ↦ absurd (false≢true (sym undone ∙ done))
      | inr (inl all) ↦ inl all
      | inr (inr took) ↦ inr (omega (arith, took, taken_is, some))
    ]

    -- more of the part is to come
    pub steps_within : read.done ≡ false → new.place ≡ old.place → new.reader ≡ Some (Part new_reader)
        → StepsOn parts before used bytes then_now added room allow old.taken new false
    steps_within undone place_is reader_is =
        let reading : IsReading at.part reads.later (is.own ++ added) reads.waiting new_reader = elim reads.goes_on [
          | inl done ↦ absurd (false≢true (sym undone ∙ done))
          | inr more ↦ more
        ] in
        let next : drop new.place parts ≡ drop old.place parts = ap (λ n. drop n parts) place_is in
        let P : List JobPart → Type 0 = λ ps. IsAtPart (Some (Part new_reader)) ps reads.later (is.own ++ added) reads.waiting in
        let N : Option Reader → Type 0 = λ reader. IsAtPart reader (drop new.place parts) reads.later (is.own ++ added) reads.waiting in
        let L : List JobPart → Type 0 = λ ps. LeadOn parts is.older is.front ps in
        record {
          later = is.older ++ reads.later;
          gains = gains_join is.older reads.later before between.between then_now between.first reads.gains;
          taken_is = counts reads.later read.taken reads.taken taken_is;
          source_is = record {
            parts_are = parts_is ∙ is.parts_are;
            older = is.older;
            newer = reads.later;
            used_is = refl;
            front = is.front;
            own = is.own ++ added;
            bytes_are = joined;
            leads = subst L (sym next) is.leads;
            waiting = reads.waiting;
            at = subst N (sym reader_is) (subst P (sym (next ∙ at.left_is)) reading);
          };
          waits = waits;
          full = λ _. full undone;
        }

    -- all of the part came
    pub steps_over : read.done ≡ true → new.place ≡ old.place + 1 → (rooms_behind : PartRooms) → new.reader ≡ Some (Next rooms_behind)
        → StepsOn parts before used bytes then_now added room allow old.taken new true
    steps_over done place_is rooms_behind reader_is =
        let next : drop new.place parts ≡ at.others =
        ap (λ n. drop n parts) place_is ∙ sym (drop-drop 1 old.place parts) ∙ ap (drop 1) at.left_is in
        let L : List JobPart → Type 0 = λ ps. LeadOn parts is.older is.front ps in
        let M : List JobPart → Type 0 = λ ps. LeadOn parts (is.older ++ reads.later) (is.front ++ (is.own ++ added)) ps in
        let N : Option Reader → Type 0 = λ reader. IsAtPart reader (drop new.place parts) [] [] [] in
        record {
          later = is.older ++ reads.later;
          gains = gains_join is.older reads.later before between.between then_now between.first reads.gains;
          taken_is = counts reads.later read.taken reads.taken taken_is;
          source_is = record {
            parts_are = parts_is ∙ is.parts_are;
            older = is.older ++ reads.later;
            newer = [];
            used_is = sym (append-nil (is.older ++ reads.later));
            front = is.front ++ (is.own ++ added);
            own = [];
            bytes_are = joined ∙ sym (append-nil (is.front ++ (is.own ++ added)));
            leads = subst M (sym next) (leads_on parts is.older reads.later is.front (is.own ++ added) at.part at.others
                (subst L at.left_is is.leads) (reads.done done));
            waiting = [];
            at = subst N (sym reader_is) (refl, refl, refl);
          };
          waits = inl refl;
          full = λ no. absurd (true≢false no);
        }

  -- the rest was lost
  pub loses_step : (faults : ℕ) (taken : ℕ) (loss : Loss) → LosesPart at.part between.between is.newer is.own then_now added (allow - old.taken) taken faults loss
      → new.taken ≡ old.taken + taken → LosesStep parts before used bytes then_now added old.taken faults new loss
  loses_step faults taken loss loses taken_is =
      let L : List JobPart → Type 0 = λ ps. LeadOn parts is.older is.front ps in
      let T : List ℕ → Type 0 = λ came. TellsLoss parts (is.older ++ loses.later) came faults loss in
      record {
        later = is.older ++ loses.later;
        gains = gains_join is.older loses.later before between.between then_now between.first loses.gains;
        taken_is = counts loses.later taken loses.taken_is taken_is;
        tells = subst T (sym joined) (loss_on parts is.older loses.later is.front (is.own ++ added) at.part at.others
            (subst L at.left_is is.leads) faults loss loses.tells);
      }

-- ---- a read of a source

-- the state after some steps of a read
pub record ReadSoFar (parts : List JobPart) (before used : List Exchange) (bytes : List ℕ) (now : List Exchange) (added : List ℕ) (room allow : ℕ) (source : Source) (came : Bool) : Type 0 where
  pub later : List Exchange
  pub gains : Gains before now later
  pub taken_is : received_by later ≡ received_by used + source.taken
  pub source_is : IsSource parts later (bytes ++ added) source
  -- or nothing was read yet
  pub waits : (source_is.waiting ≡ []) ⊎ (room ≤ length added) ⊎ ((added ≡ []) × (source.taken ≡ 0) × (source.place < length source.parts) × (came ≡ true))
  pub full : came ≡ false → (length added ≡ room) ⊎ (source.taken ≡ allow)

pub reads_none : (parts : List JobPart) (before used : List Exchange) (bytes : List ℕ) (now : List Exchange) (room allow : ℕ) (old new : Source)
    → new.parts ≡ old.parts → new.place ≡ old.place → new.reader ≡ old.reader → new.taken ≡ 0
    → IsSource parts used bytes old → Gains before now used → ReadSoFar parts before used bytes now [] room allow new true
reads_none parts before used bytes now room allow old new parts_is place_is reader_is taken_is is gains =
    let next : drop new.place parts ≡ drop old.place parts = ap (λ n. drop n parts) place_is in
    let P : List JobPart → Type 0 = λ ps. IsAtPart old.reader ps is.newer is.own is.waiting in
    let N : Option Reader → Type 0 = λ reader. IsAtPart reader (drop new.place parts) is.newer is.own is.waiting in
    let L : List JobPart → Type 0 = λ ps. LeadOn parts is.older is.front ps in
    let new_is : IsSource parts used (bytes ++ []) new = record {
      parts_are = parts_is ∙ is.parts_are;
      older = is.older;
      newer = is.newer;
      used_is = is.used_is;
      front = is.front;
      own = is.own;
      bytes_are = append-nil bytes ∙ is.bytes_are;
      leads = subst L (sym next) is.leads;
      waiting = is.waiting;
      at = subst N (sym reader_is) (subst P (sym next) is.at);
    } in
    record {
      later = used;
      gains = gains;
      taken_is = omega (arith, taken_is);
      source_is = new_is;
      waits = elim (cases_lt new.place (length new.parts)) [
        | inl left ↦ inr (inr (refl, taken_is, left, refl))
        | inr over ↦ inl (none_at parts used (bytes ++ []) new new_is over).2
      ];
      full = λ no. absurd (true≢false no);
    }

-- one step more
pub reads_more : (parts : List JobPart) (before used : List Exchange) (bytes : List ℕ) (was now : List Exchange) (added more : List ℕ) (room left allow : ℕ) (old new : Source) (first came : Bool)
    → (far : ReadSoFar parts before used bytes was added room allow old first) → room ≡ left + length added
    → StepsOn parts before far.later (bytes ++ added) now more left allow old.taken new came
    → ReadSoFar parts before used bytes now (added ++ more) room allow new came
reads_more parts before used bytes was now added more room left allow old new first came far fits steps =
    let same : (bytes ++ added) ++ more ≡ bytes ++ (added ++ more) = append_assoc bytes added more in
    let is : IsSource parts steps.later ((bytes ++ added) ++ more) new = steps.source_is in
    record {
      later = steps.later;
      gains = steps.gains;
      taken_is = omega (arith, far.taken_is, steps.taken_is);
      source_is = record {
        parts_are = is.parts_are;
        older = is.older;
        newer = is.newer;
        used_is = is.used_is;
        front = is.front;
        own = is.own;
        bytes_are = sym same ∙ is.bytes_are;
        leads = is.leads;
        waiting = is.waiting;
        at = is.at;
      };
      waits = elim steps.waits [
        | inl none ↦ inl none
        | inr all ↦ inr (inl (omega (arith, all, fits, length-append added more)))
      ];
      full = λ undone. elim (steps.full undone) [
        | inl all ↦ inl (omega (arith, all, fits, length-append added more))
        | inr took ↦ inr took
      ];
    }

-- the rest was lost by the last step
pub reads_lose : (parts : List JobPart) (before used : List Exchange) (bytes : List ℕ) (was now : List Exchange) (added more : List ℕ) (room allow faults : ℕ) (old new : Source) (first : Bool) (loss : Loss)
    → (far : ReadSoFar parts before used bytes was added room allow old first) → new.taken ≤ allow
    → LosesStep parts before far.later (bytes ++ added) now more old.taken faults new loss
    → LosesParts parts before used bytes now (added ++ more) allow faults new loss
reads_lose parts before used bytes was now added more room allow faults old new first loss far few loses =
    let T : List ℕ → Type 0 = λ came. TellsLoss parts loses.later came faults loss in
    record {
      later = loses.later;
      gains = loses.gains;
      taken = omega (arith, far.taken_is, loses.taken_is);
      few = few;
      tells = subst T (append_assoc bytes added more) loses.tells;
    }

-- where it doesn't go on
pub reads_end : (parts : List JobPart) (before used : List Exchange) (bytes : List ℕ) (now : List Exchange) (added : List ℕ) (room allow : ℕ) (source : Source) (came done : Bool)
    → ReadSoFar parts before used bytes now added room allow source came → source.taken ≤ allow → length added ≤ room → 0 < room → 0 < allow
    → (came ≡ false) ⊎ (length source.parts ≤ source.place) ⊎ (room ≤ length added) ⊎ (allow ≤ source.taken)
    → (done ≡ true → length source.parts ≤ source.place) → (done ≡ false → source.place < length source.parts)
    → ReadsParts parts before used bytes now added room allow (record { taken = source.taken; done = done }) source
reads_end parts before used bytes now added room allow source came done far few within some_room some off over left = record {
  later = far.later;
  gains = far.gains;
  waiting = far.source_is.waiting;
  brought = source_brought parts far.later (bytes ++ added) source far.source_is;
  none_waits = λ short. elim far.waits [
    | inl none ↦ none
    | inr (inl full) ↦ absurd (omega (arith, short, full))
    | inr (inr start) ↦ absurd (elim off [
      | inl undone ↦ false≢true (sym undone ∙ start.3)
      | inr (inl none) ↦ omega (arith, none, start.2)
      | inr (inr (inl full)) ↦ omega (arith, short, full)
      | inr (inr (inr all)) ↦ omega (arith, all, start.1, some)
    ])
  ];
  taken = far.taken_is;
  few = few;
  full = elim off [
    | inl undone ↦ inr (far.full undone)
    | inr (inl none) ↦ elim (cases_Bool done) [
      | inl whole ↦ inl whole
      | inr undone ↦ absurd (omega (arith, none, left undone))
    ]
    | inr (inr (inl full)) ↦ inr (inl (omega (arith, full, within)))
    | inr (inr (inr all)) ↦ inr (inr (omega (arith, all, few)))
  ];
  goes_on = far.source_is;
  done = λ whole. source_whole parts far.later (bytes ++ added) source far.source_is (over whole);
}

-- ---- how many turns a read has yet

abbrev pub turns_left : List JobPart → ℕ → Bool → ℕ
turns_left parts place came = length parts - place + cond came 1 0

pub turns_fall : (parts : List JobPart) (place next : ℕ) (came now : Bool) → place < length parts → came ≡ true
    → ((now ≡ true) × (next ≡ place + 1)) ⊎ ((now ≡ false) × (next ≡ place)) → turns_left parts next now < turns_left parts place came
turns_fall parts place next came now within first (inl (over, next_is)) =
    let C : Bool → ℕ = λ b. cond b 1 0 in
    omega (arith, within, ap C first, ap C over, next_is)
turns_fall parts place next came now within first (inr (undone, next_is)) =
    let C : Bool → ℕ = λ b. cond b 1 0 in
    omega (arith, within, ap C first, ap C undone, next_is)
