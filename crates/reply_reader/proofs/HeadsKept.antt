-- What the reader of heads keeps.
use Rattle.std.proofs.Common.{◌≡◌, ℕ, suc, ◌+◌, ◌-◌, ◌<◌, ◌≤◌, List, [], ◌++◌, length, drop, false, None, codes, append-nil, refl, sym, ◌∙◌, ap, subst, arith, rules, IsTrue, inl, inr, length-append}
use Rattle.std.proofs.lemmas.Bool.{cases_lt, true≢false}
use Rattle.std.proofs.lemmas.List.Elements.{Contains-append_left, Contains-append_right, Contains-append_cases}
use Rattle.std.specs.Prelude.{◌⊎◌, ◌↔◌, Bool, Contains}
use Rattle.std.proofs.lemmas.List.{drop-append-le, drop-drop, length-drop}
use Rattle.httparse.specs.Grammar.{ResponseHead, IsResponseHead, lf, print_response}
use Rattle.http_heads.specs.HeadLaws.{HasOneHead, HeadStays, HeadStoodBefore, HeadComesWhole}
use Rattle.http_heads.specs.Heads.{IsHead, IsUnfinished, IsNoHead}
use Rattle.http_heads.specs.declared.head.Head.{Head}
use Rattle.reply_reader.specs.Heads.{is_interim, line_feed, HasInterims, HasFewInterims, HasFinalHead, IsHeadDue, HasNoFinalHead, IsHeadless, IsBehindInterims, IsAtHead}
use Rattle.reply_reader.specs.declared.heads.TheConstants.{INTERIM_LIMIT}
use Rattle.reply_reader.specs.declared.heads.HeadReader.{HeadReader}
use Rattle.reply_reader.proofs.Interims.{interims_within, interims_stay, interims_more}
use Rattle.reply_reader.proofs.FinalHeads.{final_headless, final_head_stood}

-- ---- no bytes

-- a head has bytes
pub headless_none : IsHeadless []
unfolding print_response
headless_none head used is = absurd (omega (arith, ap length is.reads.1, length-append {A = ℕ}))

abbrev short_head : ResponseHead
short_head = record { blank = []; minor = 1; digits = codes "200"; reason = None; line_end = lf; fields = []; last = lf }

short_head_is : IsResponseHead short_head
short_head_is = record {
  minor = omega arith;
  digits = (refl, search rules);
  reason = search rules;
  fields = search rules;
}

pub unfinished_none : IsUnfinished []
unfolding print_response
unfinished_none = record {
  short = omega arith;
  none = λ text rest reads. absurd (omega (arith, ap length reads.1, length-append {A = ℕ}));
  some = (print_response short_head, short_head, (short_head_is, sym (append-nil (print_response short_head))));
}

no_interims : HasInterims [] 0 0
unfolding HasInterims
no_interims = refl

pub due_none : IsHeadDue []
due_none = record { before = 0; interims = record { count = 0; few = omega arith; interims = no_interims }; unfinished = unfinished_none }

pub begun : (reader : HeadReader) → reader.interims ≡ 0 → reader.line ≡ false → reader.bytes.items ≡ [] → IsAtHead [] reader
begun reader none no_line empty = record {
  behind = record {
    before = 0;
    interims = subst (λ (n : ℕ). HasInterims [] n 0) (sym none) no_interims;
    few = omega (arith, none);
    waiting = empty;
  };
  line = (λ is. absurd (true≢false (sym is ∙ no_line)), λ some. absurd (nothing some));
  headless = subst IsHeadless (sym empty) headless_none;
  short = omega (arith, ap length empty);
}
  where
    nothing : Contains [] line_feed → ⊥
    nothing some = omega (arith, some.1)

-- ---- the first line

-- a reader of which only the line is another stands where it stood
pub behind_same : (received : List ℕ) (old new : HeadReader) → new.interims ≡ old.interims → new.bytes ≡ old.bytes
    → IsBehindInterims received old → IsBehindInterims received new
behind_same received old new interims bytes was = record {
  before = was.before;
  interims = subst (λ (n : ℕ). HasInterims received n was.before) (sym interims) was.interims;
  few = omega (arith, interims, was.few);
  waiting = ap (λ v. v.items) bytes ∙ was.waiting;
}

-- a line ended in what came before, or in the next piece
pub line_later : (received piece : List ℕ) (was now : Bool) → IsTrue was ↔ Contains received line_feed
    → IsTrue now ↔ (IsTrue was ⊎ Contains piece line_feed) → IsTrue now ↔ Contains (received ++ piece) line_feed
line_later received piece was now before after = (
  λ is. elim (after.0 is) [
    | inl earlier ↦ Contains-append_left received piece line_feed (before.0 earlier)
    | inr here ↦ Contains-append_right received piece line_feed here
  ],
  λ some. after.1 (elim (Contains-append_cases received piece line_feed some) [
    | inl earlier ↦ inl (before.1 earlier)
    | inr here ↦ inr here
  ]),
)

-- and so in a reader that kept the piece since
pub line_on : (received piece : List ℕ) (was between now : Bool) → now ≡ between → IsTrue was ↔ Contains received line_feed
    → IsTrue between ↔ (IsTrue was ⊎ Contains piece line_feed) → IsTrue now ↔ Contains (received ++ piece) line_feed
line_on received piece was between now same before after =
    subst (λ (b : Bool). IsTrue b ↔ Contains (received ++ piece) line_feed) (sym same) (line_later received piece was between before after)

-- behind interim heads a head is due where it is unfinished
pub due_behind : (received : List ℕ) (reader : HeadReader) → IsBehindInterims received reader → IsUnfinished reader.bytes.items → IsHeadDue received
due_behind received reader was unfinished = record {
  before = was.before;
  interims = record { count = reader.interims; few = was.few; interims = was.interims };
  unfinished = subst IsUnfinished was.waiting unfinished;
}

-- an unfinished head has not come
pub at_unfinished : (received : List ℕ) (reader : HeadReader) → IsBehindInterims received reader → IsUnfinished reader.bytes.items
    → IsTrue reader.line ↔ Contains received line_feed → IsAtHead received reader
at_unfinished received reader was unfinished line = record {
  behind = was;
  line = line;
  headless = λ head used is. unfinished.none is.text is.rest is.reads;
  short = omega (arith, unfinished.short);
}

-- ---- behind interim heads

few_of : (received : List ℕ) (reader : HeadReader) (is : IsBehindInterims received reader) → HasFewInterims received is.before
few_of received reader is = record { count = reader.interims; few = is.few; interims = is.interims }

-- an interim head is passed over
pub passes : (received : List ℕ) (reader later : HeadReader) (head : Head) (size : ℕ) → IsHead reader.bytes.items head size → IsTrue (is_interim head)
    → reader.interims < INTERIM_LIMIT → later.interims ≡ reader.interims + 1 → later.bytes.items ≡ drop size reader.bytes.items
    → IsBehindInterims received reader → IsBehindInterims received later
passes received reader later head size begins interim few counted dropped is =
    let next : suc reader.interims ≡ later.interims = omega (arith, counted) in
    let more = interims_more reader.interims received is.before head size is.interims (subst (λ (l : List ℕ). IsHead l head size) is.waiting begins) interim in
    record {
      before = is.before + size;
      interims = subst (λ (n : ℕ). HasInterims received n (is.before + size)) next more;
      few = omega (arith, counted, few);
      waiting = dropped ∙ ap (λ (l : List ℕ). drop size l) is.waiting ∙ drop-drop size is.before received;
    }

-- one interim head too many
pub too_many : (received : List ℕ) (reader : HeadReader) (head : Head) (size : ℕ) → IsHead reader.bytes.items head size → IsTrue (is_interim head)
    → INTERIM_LIMIT ≤ reader.interims → IsBehindInterims received reader → HasNoFinalHead received
too_many received reader head size begins interim many is =
    let limit : reader.interims ≡ INTERIM_LIMIT = omega (arith, many, is.few) in
    inr (
      is.before + size,
      interims_more INTERIM_LIMIT received is.before head size (subst (λ (n : ℕ). HasInterims received n is.before) limit is.interims)
          (subst (λ (l : List ℕ). IsHead l head size) is.waiting begins) interim,
    )

pub no_head_behind : (received : List ℕ) (reader : HeadReader) → IsNoHead reader.bytes.items → IsBehindInterims received reader → HasNoFinalHead received
no_head_behind received reader none is = inl (is.before, few_of received reader is, subst IsNoHead is.waiting none)

-- the next piece came
pub behind_grows : HeadStays → HeadComesWhole → (received piece : List ℕ) (reader later : HeadReader) → later.interims ≡ reader.interims
    → later.bytes.items ≡ reader.bytes.items ++ piece → IsBehindInterims received reader → IsBehindInterims (received ++ piece) later
behind_grows stays whole received piece reader later same longer is =
    let within = interims_within whole reader.interims received is.before is.interims in
    record {
      before = is.before;
      interims = subst (λ (n : ℕ). HasInterims (received ++ piece) n is.before) (sym same) (interims_stay stays whole reader.interims received piece is.before is.interims);
      few = omega (arith, same, is.few);
      waiting = longer ∙ ap (λ (l : List ℕ). l ++ piece) is.waiting ∙ sym (drop-append-le is.before received piece within);
    }

final_behind : (received : List ℕ) (reader : HeadReader) (head : Head) (size : ℕ) → IsHead reader.bytes.items head size → is_interim head ≡ false
    → (is : IsBehindInterims received reader) → HasFinalHead received head (is.before + size)
final_behind received reader head size begins final is = record {
  before = is.before;
  size = size;
  interims = few_of received reader is;
  begins = subst (λ (l : List ℕ). IsHead l head size) is.waiting begins;
  final = final;
  takes = refl;
}

-- a final head that came with the piece ends in it
ends_in_piece : HasOneHead → HeadStoodBefore → (received piece : List ℕ) (reader : HeadReader) (head : Head) (used : ℕ) → IsAtHead received reader
    → HasFinalHead (received ++ piece) head used → length received < used
ends_in_piece one stood received piece reader head used at final =
    elim (cases_lt (length received) used) [
      | inl later ↦ later
      | inr before ↦
          let old = final_head_stood stood received piece head used final before in
          absurd (final_headless one received head used at.behind.before old (few_of received reader at.behind) (subst IsHeadless at.behind.waiting at.headless))
    ]

pub final_in_piece : HasOneHead → HeadStoodBefore → HeadComesWhole → (received piece : List ℕ) (reader now : HeadReader) (head : Head) (size : ℕ)
    → IsHead now.bytes.items head size → is_interim head ≡ false → size ≤ length now.bytes.items → IsAtHead received reader
    → IsBehindInterims (received ++ piece) now
    → HasFinalHead (received ++ piece) head (length received + (length piece - (length now.bytes.items - size)))
final_in_piece one stood whole received piece reader now head size begins final fits at is =
    let has = final_behind (received ++ piece) now head size begins final is in
    let later = ends_in_piece one stood received piece reader head (is.before + size) at has in
    let within = interims_within whole now.interims (received ++ piece) is.before is.interims in
    let place : is.before + size ≡ length received + (length piece - (length now.bytes.items - size)) =
    omega (arith, later, within, fits, ap length is.waiting, length-drop is.before (received ++ piece), length-append received piece) in
    subst (HasFinalHead (received ++ piece) head) place has
