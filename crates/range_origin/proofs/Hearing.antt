-- Bytes come, or none can be received.
use Rattle.std.proofs.Common.{◌≡◌, ℕ, List, [], ◌++◌, false, true, take}
use Rattle.std.specs.Prelude.{◌==◌, IsTrue, Ok, Err}
use Rattle.dl_kinds.specs.Causes.{HasCause}
use Rattle.dl_kinds.specs.declared.outside.IoErr.{IoErr}
use Rattle.door_source.specs.DoorLaws.{NewestIsOne}
use Rattle.door_source.specs.Doors.{ReceivesFromPeer}
use Rattle.door_source.specs.declared.Doors.{Ghosts as DoorSays}
use Rattle.range_origin.specs.Conversations.{HasTakenIn}
use Rattle.range_origin.specs.Ends.{visit_end_by}
use Rattle.range_origin.specs.declared.ends.VisitEnd.TheVariants.{Starved}
use Rattle.range_origin.proofs.Growing.{grows_received, grows_still, grows_weaker}
use Rattle.range_origin.proofs.SentTexts.{cause_by, kind_by}

module _ {A : Type 0} (says : DoorSays A) where
  pub took_in : NewestIsOne → (count : ℕ) (buffer was now : List ℕ) (old new : A)
      → (IsTrue says.tells → ReceivesFromPeer count buffer (says.state old) (says.state new)) → says.faults new ≡ says.faults old
      → now ≡ was ++ take count buffer → HasTakenIn says old was new now (Ok count)
  took_in one count buffer was now old new received calm behind = (
    take count buffer,
    record {
      told = λ tells. grows_received one count buffer (says.state old) (says.state new) (received tells);
      cause = calm;
      kind = tt;
    },
    behind,
  )

  pub lost : NewestIsOne → (count : ℕ) (buffer was now : List ℕ) (old new : A)
      → (IsTrue says.tells → ReceivesFromPeer count buffer (says.state old) (says.state new)) → says.faults new ≡ says.faults old
      → now ≡ was → HasTakenIn says old was new now (Err Starved)
  lost one count buffer was now old new received calm still = (
    take count buffer,
    record {
      told = λ tells.
          grows_weaker ((count == 0) ≡ true) (false ≡ true) (take count buffer) [] (says.state old) (says.state new) (λ no. absurd (never no))
          (grows_received one count buffer (says.state old) (says.state new) (received tells));
      cause = calm;
      kind = tt;
    },
    still,
  )
    where
      never : false ≡ true → ⊥
      never e = cc

  pub took_none_in : (was now : List ℕ) (old new : A) (error : IoErr) → (IsTrue says.tells → says.state new ≡ says.state old)
      → HasCause {T = ℕ} (says.faults old) (says.faults new) (Err error) → now ≡ was
      → HasTakenIn says old was new now (Err (visit_end_by error))
  took_none_in was now old new error same cause still = (
    [],
    record {
      told = λ tells.
          grows_weaker ⊥ (false ≡ true) [] [] (says.state old) (says.state new) (λ no. never no)
          (grows_still (says.state old) (says.state new) (same tells));
      cause = cause_by says error (says.faults old) (says.faults new) cause;
      kind = kind_by says error;
    },
    still,
  )
    where
      never : false ≡ true → ⊥
      never e = cc
