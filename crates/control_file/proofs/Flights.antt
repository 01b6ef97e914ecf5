-- Reading pieces in flight one after the other, as a loop does.
use Rattle.std.proofs.Common.{◌≡◌, ℕ, suc, ◌-◌, ◌+◌, ◌≤◌, ◌<◌, Bool, true, List, [], ◌∷◌, ◌++◌, Option, Some, None, Result, Ok, Err, slice_set, refl, sym, ap, ◌∙◌, append_assoc, arith}
use Rattle.std.specs.Prelude.{IfSome}
use Rattle.std.proofs.lemmas.List.{append-nil}
use Rattle.control_file.specs.declared.control.InFlight.{InFlight}
use Rattle.control_file.specs.declared.fault.ControlErr.{ControlErr}
use Rattle.control_file.specs.declared.fields.ByteOrder.{ByteOrder}
use Rattle.control_file.specs.Unread.{Unread}
use Rattle.control_file.specs.Reading.{◌>>=◌, control_fault, in_flight_at, flight_at}

-- what was read before, and what is still read
abbrev pub with_front : List InFlight → Result (List InFlight × Unread) ControlErr
    → Result (List InFlight × Unread) ControlErr
with_front front read = read >>= λ x. Ok (front ++ x.0, x.1)

regroup : (front : List InFlight) (piece : InFlight) (read : Result (List InFlight × Unread) ControlErr)
    → with_front front (read >>= λ x. Ok (piece ∷ x.0, x.1)) ≡ with_front (front ++ piece ∷ []) read
regroup front piece (Ok x) = ap (λ (pieces : List InFlight). Ok (pieces, x.1)) (simp append_assoc)
regroup front piece (Err e) = refl

module _ (order : ByteOrder) (total piece_len : ℕ) where
  pub goes_on : (front : List InFlight) (count i : ℕ) (taken : List Bool) (from after : Unread) (piece : InFlight)
      (whole : Result (List InFlight × Unread) ControlErr)
      → i < count → in_flight_at order total piece_len taken from ≡ Ok (piece, after)
      → with_front front (flight_at order total piece_len (count - i) taken from) ≡ whole
      → with_front (front ++ piece ∷ []) (flight_at order total piece_len (count - (i + 1))
      (slice_set taken piece.index true) after) ≡ whole
  unfolding flight_at
  goes_on front count i taken from after piece whole below read so_far =
      let k : count - i ≡ suc (count - (i + 1)) = omega arith in
      let rest = flight_at order total piece_len (count - (i + 1)) (slice_set taken piece.index true) after in
      let one : with_front front (flight_at order total piece_len (count - i) taken from) ≡ with_front
      (front ++ piece ∷ []) rest = rw (k, read) (regroup front piece rest) in
      sym one ∙ so_far

  pub ends : (e : ControlErr) (front : List InFlight) (count i : ℕ) (taken : List Bool) (from : Unread)
      (whole : Result (List InFlight × Unread) ControlErr)
      → i < count → IfSome (control_fault e) (λ f. in_flight_at order total piece_len taken from ≡ Err f)
      → with_front front (flight_at order total piece_len (count - i) taken from) ≡ whole
      → IfSome (control_fault e) (λ f. whole ≡ Err f)
  unfolding flight_at
  ends e front count i taken from whole below failed so_far = at (control_fault e) failed
    where
      at : (fault : Option ControlErr) → IfSome fault (λ f. in_flight_at order total piece_len taken from ≡ Err f)
          → IfSome fault (λ f. whole ≡ Err f)
      at None h = h
      at (Some f) h =
          let k : count - i ≡ suc (count - (i + 1)) = omega arith in
          let one : with_front front (flight_at order total piece_len (count - i) taken from) ≡ Err f =
          rw (k, h) refl in
          sym so_far ∙ one

  pub is_done : (front : List InFlight) (count i : ℕ) (taken : List Bool) (from : Unread)
      (whole : Result (List InFlight × Unread) ControlErr)
      → count ≤ i → with_front front (flight_at order total piece_len (count - i) taken from) ≡ whole
      → whole ≡ Ok (front, from)
  unfolding flight_at
  is_done front count i taken from whole past so_far =
      let k : count - i ≡ 0 = omega arith in
      let one : with_front front (flight_at order total piece_len (count - i) taken from) ≡ Ok (front, from) =
      rw k (ap (λ (pieces : List InFlight). Ok (pieces, from)) (append-nil front)) in
      sym so_far ∙ one
