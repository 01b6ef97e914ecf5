-- What the head of a reply means for what was asked: a table with one case a line (RFC 9110 sections 14 and 15; the
-- exit statuses of refusals are the aria2 manual's). A probe is a request that doesn't know the length of the resource.
use Rattle.std.specs.Prelude.{◌≡◌, ◌≢◌, ℕ, ◌⊎◌, ◌+◌, ◌-◌, ◌≤◌, codes, Option, Some, None, IsSome, IsTrue, IsFalse, ⊤}
use Rattle.range_http.specs.declared.asked.Asked.{Asked}
use Rattle.range_http.specs.declared.framing.Framing.{Framing}
use Rattle.range_http.specs.declared.framing.Framing.TheVariants.{Length, Chunked, ToEnd}
use Rattle.http_heads.specs.declared.head.Head.{Head}
use Rattle.range_http.specs.declared.verdict.Verdict.{Verdict}
use Rattle.range_http.specs.declared.verdict.Verdict.TheVariants.{Part, Whole, Empty, WrongLength, Moved, NotFound}
use Rattle.http_heads.specs.Fields.{sole}
use Rattle.range_http.specs.Fields.{values_of}
use Rattle.range_http.specs.Framing.{framing_of}
use Rattle.range_http.specs.Verdict.{is_encoded, told_range, told_length, unexpected, unauthorized, overloaded}

-- the statuses of a resource that is elsewhere (RFC 9110 sections 15.4.2 to 15.4.9)
pub data IsMovedStatus (status : ℕ) : Type 0 where
  moved_permanently : status ≡ 301 → IsMovedStatus status
  found : status ≡ 302 → IsMovedStatus status
  see_other : status ≡ 303 → IsMovedStatus status
  temporary_redirect : status ≡ 307 → IsMovedStatus status
  permanent_redirect : status ≡ 308 → IsMovedStatus status

-- a redirect, which says by one Location where to (RFC 9110 section 15.4)
pub record IsRedirect (head : Head) : Type 0 where
  pub status : IsMovedStatus head.status
  pub place : IsSome (sole (values_of head (codes "location")))

-- `bytes */0`, and a probe asked (RFC 9110 section 15.5.17)
pub record IsEmptyProbe (head : Head) (asked : Asked) : Type 0 where
  pub status : head.status ≡ 416
  pub probe : asked.total ≡ None
  pub range : told_range head ≡ Some (record { span = None; total = Some 0 })

-- none of the lines above the contents of 200 and 206 fits
pub record IsUnexpected (head : Head) (asked : Asked) : Type 0 where
  pub no_content : (head.status ≢ 200) × (head.status ≢ 206)
  pub found : head.status ≢ 404
  pub allowed : head.status ≢ 401
  pub ready : head.status ≢ 503
  pub stays : IsRedirect head → ⊥
  pub full : IsEmptyProbe head asked → ⊥

-- content as it is, of this framing (RFC 9110 section 8.4, RFC 9112 section 6.3)
pub record HasContent (head : Head) (status : ℕ) (framing : Framing) : Type 0 where
  pub status_is : head.status ≡ status
  pub plain : IsFalse (is_encoded head)
  pub framed : framing_of head ≡ Some framing

-- content that can't be taken: in another coding, or of no good framing
pub record HasBadContent (head : Head) : Type 0 where
  pub status_is : (head.status ≡ 200) ⊎ (head.status ≡ 206)
  pub bad : IsTrue (is_encoded head) ⊎ (framing_of head ≡ None)

-- Content-Length, where it counts, doesn't say another length than this
abbrev pub MayHaveLength : Framing → ℕ → Type 0
MayHaveLength (Length told) length = told ≡ length
MayHaveLength Chunked length = ⊤
MayHaveLength ToEnd length = ⊤

-- the part from the first asked byte to this one, and the length of the resource where that is told (RFC 9110 section
-- 14.4)
pub record TellsPart (head : Head) (asked : Asked) (framing : Framing) (last : ℕ) (total : Option ℕ) : Type 0 where
  pub range : told_range head ≡ Some (record { span = Some (asked.first, last); total = total })
  pub within : last ≤ asked.last
  pub length : MayHaveLength framing (last - asked.first + 1)

-- the length of the whole resource is known or told, and where it is both, it is one
abbrev pub AgreesOnLength : Option ℕ → Option ℕ → Type 0
AgreesOnLength None None = ⊥
AgreesOnLength None (Some told) = ⊤
AgreesOnLength (Some known) None = ⊤
AgreesOnLength (Some known) (Some told) = told ≡ known

-- another length is told than is known
abbrev pub Differs : Option ℕ → ℕ → Type 0
Differs known told = (length : ℕ) × (known ≡ Some length) × (told ≢ length)

-- the head means this for what was asked
pub data IsVerdict (head : Head) (asked : Asked) : Verdict → Type 0 where
  not_found : head.status ≡ 404 → IsVerdict head asked NotFound
  not_allowed : head.status ≡ 401 → IsVerdict head asked unauthorized
  not_ready : head.status ≡ 503 → IsVerdict head asked overloaded
  moved : IsRedirect head → IsVerdict head asked Moved
  empty : IsEmptyProbe head asked → IsVerdict head asked Empty
  other : IsUnexpected head asked → IsVerdict head asked unexpected
  bad_content : HasBadContent head → IsVerdict head asked unexpected
  other_part : (framing : Framing) → HasContent head 206 framing
      → ((last : ℕ) (total : Option ℕ) → TellsPart head asked framing last total → ⊥)
      → IsVerdict head asked unexpected
  part_of_other : (framing : Framing) (last told : ℕ) → HasContent head 206 framing
      → TellsPart head asked framing last (Some told) → Differs asked.total told
      → IsVerdict head asked (WrongLength told)
  part_of_any : (framing : Framing) (last : ℕ) → HasContent head 206 framing
      → TellsPart head asked framing last None → asked.total ≡ None
      → IsVerdict head asked unexpected
  part : (framing : Framing) (last : ℕ) (total : Option ℕ) → HasContent head 206 framing
      → TellsPart head asked framing last total → AgreesOnLength asked.total total
      → IsVerdict head asked (Part last total framing)
  other_whole : (framing : Framing) (told : ℕ) → HasContent head 200 framing
      → told_length framing ≡ Some told → Differs asked.total told
      → IsVerdict head asked (WrongLength told)
  whole_of_any : (framing : Framing) → HasContent head 200 framing
      → told_length framing ≡ None → asked.total ≡ None
      → IsVerdict head asked unexpected
  whole : (framing : Framing) → HasContent head 200 framing
      → AgreesOnLength asked.total (told_length framing)
      → IsVerdict head asked (Whole (told_length framing) framing)

-- each head means one thing
abbrev pub HasOneVerdict : Head → Asked → Verdict → Type 0
HasOneVerdict head asked verdict = IsVerdict head asked verdict × ((other : Verdict) → IsVerdict head asked other → other ≡ verdict)
