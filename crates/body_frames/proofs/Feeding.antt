-- What a piece makes of a body.
use Rattle.std.proofs.Common.{◌≡◌, ◌≢◌, ℕ, ◌+◌, ◌-◌, ◌≤◌, ◌⊎◌, List, [], ◌∷◌, ◌++◌, length, take, drop, refl, sym, ap, subst, ◌∙◌, inl, inr, arith, append-nil, append_assoc, length-append, length-drop, take-append-drop}
use Rattle.std.proofs.lemmas.List.{drop_all, take_rest}
use Rattle.std.proofs.Math.Seq.{take-add}
use Rattle.body_frames.specs.Lines.{Standing, Whole, Wrong}
use Rattle.body_frames.specs.Bodies.{Framing, ToEnd, StreamBody, bare, with_front, body_of, content_of, standing_of, used_of, IsOver, IsWrong, GainAlike}
use Rattle.body_frames.specs.Reading.{Means, Moves, Stops, Reads, ReadsWrong, IsFed}
use Rattle.body_frames.specs.declared.BodyErr.{BodyErr}
use Rattle.body_frames.specs.declared.body.Body.{Body}
use Rattle.body_frames.specs.declared.phase.Phase.{Phase}
use Rattle.body_frames.specs.declared.phase.Phase.TheVariants.{Content, Line as InLine, Over, Stopped}
use Rattle.body_frames.specs.declared.phase.Run.TheVariants.{Length as RunLength, Chunk, ToEnd as RunToEnd}
use Rattle.body_frames.proofs.Law.{goes_on}
use Rattle.body_frames.proofs.Runs.{with_front-append}
use Rattle.body_frames.proofs.Still.{StandsAt, IsStill, still}

-- two steps
pub moves_twice : (old mid new : Phase) (a b x y : List ℕ) → Moves old a x mid → Moves mid b y new → Moves old (a ++ b) (x ++ y) new
moves_twice old mid new a b x y first second = record {
  goes_on = second.goes_on;
  brings = λ later m.
      let p = first.brings later m in
      let q = second.brings p.0 p.1 in
      (q.0, q.1, λ more. ap later (append_assoc a b more) ∙ (p.2 (b ++ more) ∙ (ap (with_front x) (q.2 more) ∙ sym (with_front-append x y (q.0 more)))));
}

pub stays : (phase : Phase) → phase ≢ Stopped → Moves phase [] [] phase
stays phase going = record { goes_on = going; brings = λ later m. (later, m, λ more. refl) }

-- a step, and then a fault
pub moves_then_stops : (old mid : Phase) (a b c x : List ℕ) (error : BodyErr) → Moves old a x mid → Stops mid b [] error → Stops old (a ++ (b ++ c)) x error
moves_then_stops old mid a b c x error first then = record {
  fault = then.fault;
  wrong = λ later m more.
      let p = first.brings later m in
      ap later (append_assoc a (b ++ c) more) ∙ (p.2 ((b ++ c) ++ more) ∙ ap (with_front x) (ap p.0 (append_assoc b c more) ∙ then.wrong p.0 p.1 (c ++ more)));
}

to_end_rest : (stream : List ℕ) → (body_of ToEnd stream).rest ≡ []
unfolding body_of
to_end_rest stream = refl

whole_phase : (phase : Phase) (standing : Standing) → StandsAt phase standing → standing ≡ Whole → (phase ≡ Over) ⊎ (phase ≡ Content RunToEnd)
whole_phase (Content (RunLength left)) standing stands whole = cc
whole_phase (Content (Chunk left)) standing stands whole = cc
whole_phase (Content RunToEnd) standing stands whole = inr refl
whole_phase (InLine line) standing stands whole = cc
whole_phase Over standing stands whole = inl refl
whole_phase Stopped standing stands whole = absurd (let e = stands.1 in cc)

wrong_phase : (phase : Phase) (standing : Standing) → StandsAt phase standing → (error : BodyErr) → standing ≡ Wrong error → phase ≡ Stopped
wrong_phase (Content (RunLength left)) standing stands error wrong = cc
wrong_phase (Content (Chunk left)) standing stands error wrong = cc
wrong_phase (Content RunToEnd) standing stands error wrong = cc
wrong_phase (InLine line) standing stands error wrong = cc
wrong_phase Over standing stands error wrong = cc
wrong_phase Stopped standing stands error wrong = refl

module _ (framing : Framing) (stream : List ℕ) (body : Body) (is : IsFed framing stream body) where
  pub now : body_of framing stream ≡ with_front is.front (is.later is.unused)
  now = ap (body_of framing) (sym (append-nil stream)) ∙ (is.brings [] ∙ ap (λ t. with_front is.front (is.later t)) (append-nil is.unused))

  rests : IsStill body.phase (is.later is.unused) is.unused
  rests = still body.phase is.later is.unused is.means is.used_all

  pub content_is : content_of framing stream ≡ is.front
  content_is = ap (λ (b : StreamBody). b.content) now ∙ (ap (λ t. is.front ++ t) rests.content ∙ append-nil is.front)

  pub rest_is : (body_of framing stream).rest ≡ is.unused
  rest_is = ap (λ (b : StreamBody). b.rest) now ∙ rests.rest_is

  pub stands : StandsAt body.phase (standing_of framing stream)
  stands = let P : Standing → Type 0 = λ s. StandsAt body.phase s in subst P (sym (ap (λ (b : StreamBody). b.standing) now)) rests.stands

  at_phase : (phase : Phase) → body.phase ≡ phase → StandsAt phase (standing_of framing stream)
  at_phase phase at = let P : Phase → Type 0 = λ p. StandsAt p (standing_of framing stream) in subst P at stands

  pub means_at : (phase : Phase) → body.phase ≡ phase → Means phase is.later
  means_at phase at = let P : Phase → Type 0 = λ p. Means p is.later in subst P at is.means

  later_rest : (more : List ℕ) → (body_of framing (stream ++ more)).rest ≡ (is.later (is.unused ++ more)).rest
  later_rest more = ap (λ (b : StreamBody). b.rest) (is.brings more)

  -- a body that is over
  pub over : body.phase ≡ Over → IsOver framing stream
  over at = (
    at_phase Over at,
    λ to_end.
        let none : (body_of framing (stream ++ 0 ∷ [])).rest ≡ [] = ap (λ f. (body_of f (stream ++ 0 ∷ [])).rest) to_end ∙ to_end_rest (stream ++ 0 ∷ []) in
        let some : (body_of framing (stream ++ 0 ∷ [])).rest ≡ is.unused ++ 0 ∷ [] = later_rest (0 ∷ []) ∙ ap (λ (b : StreamBody). b.rest) (means_at Over at (is.unused ++ 0 ∷ [])) in
        omega (arith, ap length (sym none ∙ some), length-append is.unused (0 ∷ [])),
  )

  not_to_end : IsOver framing stream → body.phase ≡ Content RunToEnd → ⊥
  not_to_end is_over at =
      let none : (body_of framing (stream ++ 0 ∷ [])).rest ≡ [] = later_rest (0 ∷ []) ∙ (ap (λ (b : StreamBody). b.rest) (means_at (Content RunToEnd) at (is.unused ++ 0 ∷ [])) ∙ to_end_rest (is.unused ++ 0 ∷ [])) in
      let some : (body_of framing (stream ++ 0 ∷ [])).rest ≡ (body_of framing stream).rest ++ 0 ∷ [] = ap (λ (b : StreamBody). b.rest) ((goes_on framing stream (0 ∷ []) is_over.1).whole is_over.0) in
      omega (arith, ap length (sym none ∙ some), length-append (body_of framing stream).rest (0 ∷ []))

  pub when_over : IsOver framing stream → body.phase ≡ Over
  when_over is_over = elim (whole_phase body.phase (standing_of framing stream) stands is_over.0) [ inl at ↦ at | inr at ↦ absurd (not_to_end is_over at) ]

  pub wrong : body.phase ≡ Stopped → IsWrong framing stream
  wrong at = at_phase Stopped at

  pub when_wrong : IsWrong framing stream → body.phase ≡ Stopped
  when_wrong is_wrong = wrong_phase body.phase (standing_of framing stream) stands is_wrong.0 is_wrong.1

  -- how it ends
  pub whole_at : (body.phase ≡ Over) ⊎ (body.phase ≡ Content RunToEnd) → standing_of framing stream ≡ Whole
  whole_at (inl at) = at_phase Over at
  whole_at (inr at) = at_phase (Content RunToEnd) at

  pub when_whole : standing_of framing stream ≡ Whole → (body.phase ≡ Over) ⊎ (body.phase ≡ Content RunToEnd)
  when_whole whole = whole_phase body.phase (standing_of framing stream) stands whole

-- A piece that was read, of which so many bytes are the body's.
module _ (framing : Framing) (stream piece : List ℕ) (old new : Body) (is : IsFed framing stream old) (going : old.phase ≢ Over) where
  pub none_unused : is.unused ≡ []
  none_unused = elim is.used_all [ inl none ↦ none | inr at ↦ absurd (going at) ]

  pub brings_piece : (more : List ℕ) → body_of framing ((stream ++ piece) ++ more) ≡ with_front is.front (is.later (piece ++ more))
  brings_piece more =
      ap (body_of framing) (append_assoc stream piece more) ∙ (is.brings (piece ++ more) ∙ ap (λ t. with_front is.front (is.later (t ++ (piece ++ more)))) none_unused)

  module _ (used : ℕ) (before after : List ℕ) (reads : Reads old.phase (take used piece) before after new.phase) (all : (used ≡ length piece) ⊎ (new.phase ≡ Over)) where
    pub next : (later : List ℕ → StreamBody) × Means new.phase later × ((more : List ℕ) → is.later (take used piece ++ more) ≡ with_front reads.0 (later more))
    next = reads.1.brings is.later is.means

    pub split_piece : (more : List ℕ) → is.later (piece ++ more) ≡ is.later (take used piece ++ (drop used piece ++ more))
    split_piece more = ap (λ t. is.later (t ++ more)) (sym (take-append-drop used piece)) ∙ ap is.later (append_assoc (take used piece) (drop used piece) more)

    abbrev pub read_on : IsFed framing (stream ++ piece) new
    read_on = record {
      front = is.front ++ reads.0;
      unused = drop used piece;
      later = next.0;
      means = next.1;
      used_all = elim all [ inl whole ↦ inl (drop_all used piece (omega (arith, whole))) | inr at ↦ inr at ];
      brings = λ more. brings_piece more ∙ (ap (with_front is.front) (split_piece more ∙ next.2 (drop used piece ++ more)) ∙ sym (with_front-append is.front reads.0 (next.0 (drop used piece ++ more))));
    }

    pub content_gained : GainAlike (content_of framing stream) (content_of framing (stream ++ piece)) before after
    content_gained = (reads.0, content_is framing (stream ++ piece) new read_on ∙ ap (λ t. t ++ reads.0) (sym (content_is framing stream old is)), reads.2)

    pub used_is : used ≤ length piece → used ≡ used_of framing (stream ++ piece) - used_of framing stream
    used_is bound =
        omega (arith, bound, length-append stream piece, length-drop used piece, ap length (rest_is framing (stream ++ piece) new read_on), ap length (rest_is framing stream old is ∙ none_unused))

    pub right : IsWrong framing (stream ++ piece) → ⊥
    right is_wrong = reads.1.goes_on (when_wrong framing (stream ++ piece) new read_on is_wrong)

  module _ (before after : List ℕ) (error : BodyErr) (reads : ReadsWrong old.phase piece before after error) (at : new.phase ≡ Stopped) where
    abbrev pub read_wrong : IsFed framing (stream ++ piece) new
    read_wrong = record {
      front = is.front ++ reads.0;
      unused = [];
      later = λ _. bare (Wrong error);
      means = let P : Phase → Type 0 = λ p. Means p (λ _. bare (Wrong error)) in subst P (sym at) (error, λ _. refl);
      used_all = inl refl;
      brings = λ more. brings_piece more ∙ (ap (with_front is.front) (reads.1.wrong is.later is.means more) ∙ sym (with_front-append is.front reads.0 (bare (Wrong error))));
    }

    pub standing_wrong : standing_of framing (stream ++ piece) ≡ Wrong error
    standing_wrong = ap (λ (b : StreamBody). b.standing) (now framing (stream ++ piece) new read_wrong)

    pub content_before : GainAlike (content_of framing stream) (content_of framing (stream ++ piece)) before after
    content_before = (reads.0, content_is framing (stream ++ piece) new read_wrong ∙ ap (λ t. t ++ reads.0) (sym (content_is framing stream old is)), reads.2)

-- A piece that is read in steps.
module _ (old mid : Phase) (piece before between : List ℕ) (used : ℕ) (reads : Reads old (take used piece) before between mid) where
  rest_of : take (length piece - used) (drop used piece) ≡ drop used piece
  rest_of = take_rest piece used

  pub reads_more : (new : Phase) (after : List ℕ) (taken : ℕ) → Reads mid (take taken (take (length piece - used) (drop used piece))) between after new → Reads old (take (used + taken) piece) before after new
  reads_more new after taken then =
      let all : take used piece ++ take taken (take (length piece - used) (drop used piece)) ≡ take (used + taken) piece = ap (λ t. take used piece ++ take taken t) rest_of ∙ sym (take-add used taken piece) in
      let P : List ℕ → Type 0 = λ t. Moves old t (reads.0 ++ then.0) new in
      (reads.0 ++ then.0, subst P all (moves_twice old mid new _ _ reads.0 then.0 reads.1 then.1), then.2 ∙ (ap (λ t. t ++ then.0) reads.2 ∙ append_assoc before reads.0 then.0))

  pub reads_stops : (after : List ℕ) (error : BodyErr) → Stops mid (take 1 (take (length piece - used) (drop used piece))) [] error → after ≡ between → ReadsWrong old piece before after error
  reads_stops after error then same =
      let rest = take (length piece - used) (drop used piece) in
      let all : take used piece ++ (take 1 rest ++ drop 1 rest) ≡ piece = ap (λ t. take used piece ++ t) (take-append-drop 1 rest ∙ rest_of) ∙ take-append-drop used piece in
      let P : List ℕ → Type 0 = λ t. Stops old t reads.0 error in
      (reads.0, subst P all (moves_then_stops old mid _ _ (drop 1 rest) reads.0 error reads.1 then), same ∙ reads.2)

-- A piece behind a body.
module _ (framing : Framing) (stream piece : List ℕ) (body : Body) (is : IsFed framing stream body) (at : body.phase ≡ Over) where
  abbrev pub fed_over : IsFed framing (stream ++ piece) body
  fed_over = record {
    front = is.front;
    unused = is.unused ++ piece;
    later = is.later;
    means = is.means;
    used_all = inr at;
    brings = λ more. ap (body_of framing) (append_assoc stream piece more) ∙ (is.brings (piece ++ more) ∙ ap (λ t. with_front is.front (is.later t)) (sym (append_assoc is.unused piece more)));
  }

  pub over_gains : (out : List ℕ) → GainAlike (content_of framing stream) (content_of framing (stream ++ piece)) out out
  over_gains out = ([], content_is framing (stream ++ piece) body fed_over ∙ (sym (content_is framing stream body is) ∙ sym (append-nil (content_of framing stream))), sym (append-nil out))

  pub over_uses : 0 ≡ used_of framing (stream ++ piece) - used_of framing stream
  over_uses = omega (arith, length-append stream piece, length-append is.unused piece, ap length (rest_is framing (stream ++ piece) body fed_over), ap length (rest_is framing stream body is))

-- A piece behind a fault.
module _ (framing : Framing) (stream piece : List ℕ) (body : Body) (is : IsFed framing stream body) (at : body.phase ≡ Stopped) where
  pub still_wrong : (a b : List ℕ) → is.later a ≡ is.later b
  still_wrong a b = let m = means_at framing stream body is Stopped at in m.1 a ∙ sym (m.1 b)

  abbrev pub fed_stopped : IsFed framing (stream ++ piece) body
  fed_stopped = record {
    front = is.front;
    unused = is.unused;
    later = is.later;
    means = is.means;
    used_all = is.used_all;
    brings = λ more. ap (body_of framing) (append_assoc stream piece more) ∙ (is.brings (piece ++ more) ∙ ap (with_front is.front) (still_wrong (is.unused ++ (piece ++ more)) (is.unused ++ more)));
  }

  pub stopped_gains : (out : List ℕ) → GainAlike (content_of framing stream) (content_of framing (stream ++ piece)) out out
  stopped_gains out = ([], content_is framing (stream ++ piece) body fed_stopped ∙ (sym (content_is framing stream body is) ∙ sym (append-nil (content_of framing stream))), sym (append-nil out))
