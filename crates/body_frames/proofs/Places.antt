-- One step of each place in a body.
use Rattle.std.proofs.Common.{◌≡◌, ◌≢◌, ℕ, zero, suc, ◌-◌, ◌<◌, ◌≤◌, ◌==◌, cond, List, [], ◌∷◌, ◌++◌, length, Ok, Err, refl, sym, ap, ◌∙◌, inl, inr, arith, append_assoc}
use Rattle.std.proofs.lemmas.Bool.{eq-eqb, ne_eqb, eqb-true, cond_both}
use Rattle.body_frames.specs.Lines.{Whole, Wrong, IsFault, line_text, line_at, size_line}
use Rattle.body_frames.specs.Bodies.{Chunked, StreamBody, behind, trailers, body_of}
use Rattle.body_frames.specs.Open.{IsOpenLine, LineGoesOn, IsOpenSize, SizeLineGoesOn}
use Rattle.body_frames.specs.Reading.{Means, Moves, Stops, chunk_end, chunk_data}
use Rattle.body_frames.specs.declared.BodyErr.{BodyErr}
use Rattle.body_frames.specs.declared.BodyErr.TheVariants.{BadChunk, LineTooLong}
use Rattle.body_frames.specs.declared.line.OpenLine.{OpenLine}
use Rattle.body_frames.specs.declared.line.LineStep.TheVariants.{Open, Ended, TooLong}
use Rattle.body_frames.specs.declared.line.SizeLine.{SizeLine}
use Rattle.body_frames.specs.declared.line.SizeStep.TheVariants.{Ended as SizeEnded}
use Rattle.body_frames.specs.declared.phase.Phase.{Phase}
use Rattle.body_frames.specs.declared.phase.Phase.TheVariants.{Line as InLine, Over, Stopped}
use Rattle.body_frames.specs.declared.phase.Line.TheVariants.{Size, ChunkEnd, Trailer}
use Rattle.body_frames.proofs.LineAt.{line_at-long, line_at-just_ended}
use Rattle.body_frames.proofs.Steady.{line_at-ok_fits, line_at-append_ok, line_at-append_wrong, size_line-append_ok, size_line-append_wrong}
use Rattle.body_frames.proofs.Chunks.{behind_same, chunk_of, chunked_step}

push : (came : List ℕ) (byte : ℕ) (more : List ℕ) → came ++ (byte ∷ more) ≡ (came ++ byte ∷ []) ++ more
push came byte more = sym (append_assoc came (byte ∷ []) more)

-- Size lines.
size_ends_body : (came : List ℕ) (byte : ℕ) (more text : List ℕ) → size_line (came ++ byte ∷ []) ≡ Ok (text, []) → body_of Chunked (came ++ (byte ∷ more)) ≡ chunk_of (text, more)
size_ends_body came byte more text ok =
    ap (body_of Chunked) (push came byte more) ∙ (chunked_step ((came ++ byte ∷ []) ++ more) ∙ ap (λ p. behind p chunk_of) (size_line-append_ok (came ++ byte ∷ []) more (text, []) ok))

pub size_opens : (byte : ℕ) (old new : SizeLine) → ((came : List ℕ) → IsOpenSize came old → IsOpenSize (came ++ byte ∷ []) new) → Moves (InLine (Size old)) (byte ∷ []) [] (InLine (Size new))
size_opens byte old new step = record {
  goes_on = λ e. cc;
  brings = λ later m. (λ more. body_of Chunked ((m.0 ++ byte ∷ []) ++ more), (m.0 ++ byte ∷ [], step m.0 m.1, λ more. refl), λ more. m.2 (byte ∷ more) ∙ ap (body_of Chunked) (push m.0 byte more));
}

pub size_ends : (byte size : ℕ) (old : SizeLine) (new : Phase) → new ≢ Stopped → Means new (chunk_data size) → 0 < size → ((came : List ℕ) → IsOpenSize came old → SizeLineGoesOn (came ++ byte ∷ []) (Ok (SizeEnded size))) → Moves (InLine (Size old)) (byte ∷ []) [] new
size_ends byte size old new going means some step = record {
  goes_on = going;
  brings = λ later m.
      let ended = step m.0 m.1 in
      (chunk_data size, means, λ more. m.2 (byte ∷ more) ∙ (size_ends_body m.0 byte more ended.0 ended.1 ∙ (ap (λ n. cond (n == 0) (trailers 64 more) (chunk_data n more)) (sym ended.2) ∙ ap (λ b. cond b (trailers 64 more) (chunk_data size more)) (ne_eqb size 0 (λ e. omega (arith, e))))));
}

pub last_size_ends : (byte : ℕ) (old : SizeLine) (line : OpenLine) → IsOpenLine [] line → ((came : List ℕ) → IsOpenSize came old → SizeLineGoesOn (came ++ byte ∷ []) (Ok (SizeEnded 0))) → Moves (InLine (Size old)) (byte ∷ []) [] (InLine (Trailer line 64))
last_size_ends byte old line is step = record {
  goes_on = λ e. cc;
  brings = λ later m.
      let ended = step m.0 m.1 in
      (trailers 64, ([], is, λ e. absurd (omega (arith, e)), λ more. refl), λ more. m.2 (byte ∷ more) ∙ (size_ends_body m.0 byte more ended.0 ended.1 ∙ ap (λ n. cond (n == 0) (trailers 64 more) (chunk_data n more)) (sym ended.2)));
}

pub size_stops : (byte : ℕ) (old : SizeLine) (error : BodyErr) → IsFault error → ((came : List ℕ) → IsOpenSize came old → SizeLineGoesOn (came ++ byte ∷ []) (Err error)) → Stops (InLine (Size old)) (byte ∷ []) [] error
size_stops byte old error fault step = record {
  fault = fault;
  wrong = λ later m more. m.2 (byte ∷ more) ∙ (ap (body_of Chunked) (push m.0 byte more) ∙ (chunked_step ((m.0 ++ byte ∷ []) ++ more) ∙ ap (λ p. behind p chunk_of) (size_line-append_wrong (m.0 ++ byte ∷ []) more error (step m.0 m.1))));
}

-- A line that ended, or that is too long.
just_ended : (most : ℕ) (error : BodyErr) (came : List ℕ) (byte : ℕ) (old : OpenLine) (more : List ℕ) → IsOpenLine came old → old.len ≤ most → LineGoesOn most came byte Ended → line_at most error (came ++ (byte ∷ more)) ≡ Ok (line_text came, more)
just_ended most error came byte old more is fits ended =
    ap (line_at most error) (push came byte more) ∙ line_at-append_ok most error (came ++ byte ∷ []) more (line_text came, [])
    (line_at-just_ended most error (came ++ byte ∷ []) (omega (arith, ap length ended.0, is.len)) (omega (arith, ap length ended.0, ended.1)) ∙ ap (λ text. Ok (text, [])) ended.0)

too_long : (most : ℕ) (error : BodyErr) (came : List ℕ) (byte : ℕ) (more : List ℕ) → LineGoesOn most came byte TooLong → line_at most error (came ++ (byte ∷ more)) ≡ Err (Wrong error)
too_long most error came byte more long =
    ap (line_at most error) (push came byte more) ∙ line_at-append_wrong most error (came ++ byte ∷ []) more error (line_at-long most error (came ++ byte ∷ []) long)

-- The CR LF behind a chunk.
abbrev pub after_end : List ℕ × List ℕ → StreamBody
after_end end = body_of Chunked end.1

module _ (byte : ℕ) (old : OpenLine) where
  pub end_opens : (new : OpenLine) → ((came : List ℕ) → IsOpenLine came old → LineGoesOn 0 came byte (Open new)) → Moves (InLine (ChunkEnd old)) (byte ∷ []) [] (InLine (ChunkEnd new))
  end_opens new step = record {
    goes_on = λ e. cc;
    brings = λ later m.
        let next = step m.0 m.1 in
        (λ more. chunk_end ((m.0 ++ byte ∷ []) ++ more), (m.0 ++ byte ∷ [], next.0, omega (arith, next.1), λ more. refl), λ more. m.3 (byte ∷ more) ∙ ap chunk_end (push m.0 byte more));
  }

  pub end_ends : (size : SizeLine) → IsOpenSize [] size → ((came : List ℕ) → IsOpenLine came old → LineGoesOn 0 came byte Ended) → Moves (InLine (ChunkEnd old)) (byte ∷ []) [] (InLine (Size size))
  end_ends size is step = record {
    goes_on = λ e. cc;
    brings = λ later m.
        (body_of Chunked, ([], is, λ more. refl), λ more. m.3 (byte ∷ more) ∙ ap (λ p. behind p after_end) (just_ended 0 BadChunk m.0 byte old more m.1 (omega (arith, m.2)) (step m.0 m.1)));
  }

  pub end_stops : ((came : List ℕ) → IsOpenLine came old → LineGoesOn 0 came byte TooLong) → Stops (InLine (ChunkEnd old)) (byte ∷ []) [] BadChunk
  end_stops step = record {
    fault = inl refl;
    wrong = λ later m more. m.3 (byte ∷ more) ∙ ap (λ p. behind p after_end) (too_long 0 BadChunk m.0 byte more (step m.0 m.1));
  }

-- Trailer lines.
abbrev pub limit_of : ℕ → ℕ
limit_of left = cond (left == 0) 0 256

pub fits_limit : (left : ℕ) (line : OpenLine) → (left ≡ 0 → line.len ≡ 0) → line.len ≤ limit_of left
fits_limit left line empty = cond_both (left == 0) 0 256 (λ n. line.len ≤ n) (λ e. omega (arith, empty (eqb-true left 0 e))) (λ _. line.in_limit)

abbrev pub whole_before : List ℕ → StreamBody
whole_before rest = record { content = []; rest = rest; standing = Whole }

abbrev pub trailer_line : (ℕ → List ℕ → StreamBody) → ℕ → List ℕ × List ℕ → StreamBody
trailer_line next left line = cond (length line.0 == 0) (whole_before line.1) (next left line.1)

pub trailers_step : (left : ℕ) (stream : List ℕ) → trailers left stream ≡ behind (line_at (limit_of left) LineTooLong stream) (trailer_line trailers (left - 1))
unfolding trailers
trailers_step zero stream =
    behind_same (line_at 0 LineTooLong stream) (λ line. whole_before line.1) (trailer_line trailers 0)
    (λ line ok. ap (λ b. cond b (whole_before line.1) (trailers 0 line.1)) (sym (eq-eqb (length line.0) 0 (omega (arith, line_at-ok_fits 0 LineTooLong stream [] line ok)))))
trailers_step (suc left) stream =
    let same : left ≡ suc left - 1 = omega arith in
    let limit : 256 ≡ limit_of (suc left) = sym (ap (λ b. cond b 0 256) (ne_eqb (suc left) 0 (λ e. omega (arith, e)))) in
    ap (λ n. behind (line_at 256 LineTooLong stream) (trailer_line trailers n)) same ∙ ap (λ n. behind (line_at n LineTooLong stream) (trailer_line trailers (suc left - 1))) limit

nothing_came : (line : OpenLine) → IsOpenLine [] line → line.len ≡ 0
unfolding line_text
nothing_came line is = is.len

module _ (byte : ℕ) (old : OpenLine) (left : ℕ) where
  pub trailer_opens : (new : OpenLine) → ((came : List ℕ) → IsOpenLine came old → LineGoesOn (limit_of left) came byte (Open new)) → Moves (InLine (Trailer old left)) (byte ∷ []) [] (InLine (Trailer new left))
  trailer_opens new step = record {
    goes_on = λ e. cc;
    brings = λ later m.
        let next = step m.0 m.1 in
        (λ more. trailers left ((m.0 ++ byte ∷ []) ++ more), (m.0 ++ byte ∷ [], next.0, λ e. omega (arith, next.1, ap limit_of e), λ more. refl), λ more. m.3 (byte ∷ more) ∙ ap (trailers left) (push m.0 byte more));
  }

  pub trailer_ends : (new : OpenLine) → IsOpenLine [] new → 0 < old.len → ((came : List ℕ) → IsOpenLine came old → LineGoesOn (limit_of left) came byte Ended) → Moves (InLine (Trailer old left)) (byte ∷ []) [] (InLine (Trailer new (left - 1)))
  trailer_ends new is some step = record {
    goes_on = λ e. cc;
    brings = λ later m.
        (trailers (left - 1), ([], is, λ _. nothing_came new is, λ more. refl), λ more. m.3 (byte ∷ more) ∙ (trailers_step left (m.0 ++ (byte ∷ more)) ∙ (ap (λ p. behind p (trailer_line trailers (left - 1))) (just_ended (limit_of left) LineTooLong m.0 byte old more m.1 (fits_limit left old m.2) (step m.0 m.1)) ∙ ap (λ b. cond b (whole_before more) (trailers (left - 1) more)) (ne_eqb (length (line_text m.0)) 0 (λ e. omega (arith, e, m.1.len, some))))));
  }

  pub body_ends : old.len ≡ 0 → ((came : List ℕ) → IsOpenLine came old → LineGoesOn (limit_of left) came byte Ended) → Moves (InLine (Trailer old left)) (byte ∷ []) [] Over
  body_ends none step = record {
    goes_on = λ e. cc;
    brings = λ later m.
        (whole_before, λ more. refl, λ more. m.3 (byte ∷ more) ∙ (trailers_step left (m.0 ++ (byte ∷ more)) ∙ (ap (λ p. behind p (trailer_line trailers (left - 1))) (just_ended (limit_of left) LineTooLong m.0 byte old more m.1 (fits_limit left old m.2) (step m.0 m.1)) ∙ ap (λ b. cond b (whole_before more) (trailers (left - 1) more)) (eq-eqb (length (line_text m.0)) 0 (omega (arith, m.1.len, none))))));
  }

  pub trailer_stops : ((came : List ℕ) → IsOpenLine came old → LineGoesOn (limit_of left) came byte TooLong) → Stops (InLine (Trailer old left)) (byte ∷ []) [] LineTooLong
  trailer_stops step = record {
    fault = inr refl;
    wrong = λ later m more. m.3 (byte ∷ more) ∙ (trailers_step left (m.0 ++ (byte ∷ more)) ∙ ap (λ p. behind p (trailer_line trailers (left - 1))) (too_long (limit_of left) LineTooLong m.0 byte more (step m.0 m.1)));
  }
