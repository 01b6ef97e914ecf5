-- A whole request at the front of bytes, by the laws of heads.
use Rattle.std.proofs.Common.{◌≡◌, ◌⊎◌, inl, inr, ℕ, ◌+◌, ◌-◌, ◌<◌, ◌≤◌, Bool, List, ◌++◌, append_assoc, length, take, drop, ap, sym, subst, ◌∙◌, arith, length-append, length-drop}
use Rattle.std.proofs.lemmas.List.{take-append-le, drop-append-le}
use Rattle.std.specs.Prelude.{Some, None, slice_range}
use Rattle.http_heads.specs.Content.{content_length}
use Rattle.http_heads.specs.AskHeadLaws.{HasOneAskHead, AskHeadIsFinished, AskHeadStays, NoAskHeadStays, AskHeadComesWhole}
use Rattle.http_heads.specs.AskHeads.{IsAskHead, IsAskUnfinished}
use Rattle.http_heads.specs.Persistence.{hangs_up}
use Rattle.http_heads.specs.declared.content.ContentLength.TheVariants.{Bytes}
use Rattle.http_heads.specs.declared.ask_head.AskHead.{AskHead}
use Rattle.http_heads.specs.declared.limits.TheConstants.{MAX_HEAD_BYTES}
use Rattle.request_stream.specs.HeadParts.{EndsIn}
use Rattle.request_stream.specs.Next.{IsUnfinishedRequest}
use Rattle.request_stream.specs.Progress.{LastsUntil, ProgressStays}
use Rattle.request_stream.specs.Requests.{Request, served, turned_away, IsAllowed, IsServedAt, IsRefusedHead, NeverHasHead, IsOneRequest, refusal_by_head}
use Rattle.request_stream.specs.Streams.{HasNoWholeRequest}
use Rattle.request_stream.specs.declared.progress.RequestProgress.TheVariants.{Unread, InHead, InContent}
use Rattle.request_stream.specs.declared.refusal.Refusal.{Refusal}

same_length : (m n : ℕ) → Bytes m ≡ Bytes n → m ≡ n
same_length m n e = cc

same_refusal : (r s : Refusal) → Some r ≡ Some s → r ≡ s
same_refusal r s e = cc

unlike : (r : Refusal) → None ≡ Some r → ⊥
unlike r e = cc

-- what stands between two places stays there, whatever follows
between_stays : (bytes more : List ℕ) (from to : ℕ) → from ≤ to → to ≤ length bytes
    → slice_range (bytes ++ more) from to ≡ slice_range bytes from to
between_stays bytes more from to ordered within =
    let left : length (drop from bytes) ≡ length bytes - from = length-drop from bytes in
    ap (take (to - from)) (drop-append-le from bytes more (omega (arith, ordered, within)))
    ∙ take-append-le (to - from) (drop from bytes) more (omega (arith, ordered, within, left))

module _ (one : HasOneAskHead) where
  -- by a head a request is served, or it is turned away
  head_decides : (most : ℕ) (bytes : List ℕ) (head other : AskHead) (m n : ℕ) (r : Refusal) → IsAskHead bytes head m
      → refusal_by_head most head ≡ None → IsAskHead bytes other n → refusal_by_head most other ≡ Some r → ⊥
  head_decides most bytes head other m n r a none b some =
      unlike r (sym none ∙ (ap (refusal_by_head most) (one bytes head other m n a b).0 ∙ some))

  served_one : (most : ℕ) (bytes body other : List ℕ) (last again : Bool) (m n : ℕ) → IsServedAt most bytes body last m
      → IsServedAt most bytes other again n → (served body last ≡ served other again) × (m ≡ n)
  served_one most bytes body other last again m n a b =
      let same = one bytes a.head b.head a.size b.size a.begins b.begins in
      let sizes : a.size ≡ b.size = same.1 in
      let lens : a.len ≡ b.len = same_length a.len b.len (sym a.len_is ∙ (ap content_length same.0 ∙ b.len_is)) in
      let ends : m ≡ n = a.takes ∙ ((λ i. sizes i + lens i) ∙ sym b.takes) in
      let bodies : body ≡ other = a.body_is ∙ ((λ i. slice_range bytes (sizes i) (ends i)) ∙ sym b.body_is) in
      let lasts : last ≡ again = a.last_is ∙ (ap hangs_up same.0 ∙ sym b.last_is) in
      ((λ i. served (bodies i) (lasts i)), ends)

  refused_one : (most : ℕ) (bytes : List ℕ) (r s : Refusal) (m n : ℕ) → IsRefusedHead most bytes r m ⊎ NeverHasHead bytes r m
      → IsRefusedHead most bytes s n ⊎ NeverHasHead bytes s n → (turned_away r ≡ turned_away s) × (m ≡ n)
  refused_one most bytes r s m n (inl a) (inl b) =
      let same = one bytes a.head b.head m n a.begins b.begins in
      (ap turned_away (same_refusal r s (sym a.refused ∙ (ap (refusal_by_head most) same.0 ∙ b.refused))), same.1)
  refused_one most bytes r s m n (inl a) (inr b) = absurd (b.none.no_head a.head m a.begins)
  refused_one most bytes r s m n (inr a) (inl b) = absurd (a.none.no_head b.head n b.begins)
  refused_one most bytes r s m n (inr a) (inr b) =
      (ap turned_away (a.refusal_is ∙ sym b.refusal_is), a.takes ∙ sym b.takes)

  served_unrefused : (most : ℕ) (bytes body : List ℕ) (last : Bool) (r : Refusal) (m n : ℕ) → IsServedAt most bytes body last m
      → IsRefusedHead most bytes r n ⊎ NeverHasHead bytes r n → ⊥
  served_unrefused most bytes body last r m n a (inl b) =
      head_decides most bytes a.head b.head a.size n r a.begins a.unrefused b.begins b.refused
  served_unrefused most bytes body last r m n a (inr b) = b.none.no_head a.head a.size a.begins

  -- bytes begin with one request at most
  pub request_one : (most : ℕ) (bytes : List ℕ) (request other : Request) (m n : ℕ) → IsOneRequest most bytes request m
      → IsOneRequest most bytes other n → (request ≡ other) × (m ≡ n)
  request_one most bytes (served body last) (served other again) m n a b = served_one most bytes body other last again m n a b
  request_one most bytes (served body last) (turned_away s) m n a b =
      absurd (served_unrefused most bytes body last s m n a b)
  request_one most bytes (turned_away r) (served other again) m n a b =
      absurd (served_unrefused most bytes other again r n m b a)
  request_one most bytes (turned_away r) (turned_away s) m n a b = refused_one most bytes r s m n a b

  -- ---- no whole request

  -- a head whose content has not all come
  no_whole_by_len : (most : ℕ) (bytes : List ℕ) (head : AskHead) (size len : ℕ) → IsAskHead bytes head size
      → IsAllowed most head len → length bytes < size + len → HasNoWholeRequest most bytes
  no_whole_by_len most bytes head size len begins allowed short (served body last) used a =
      let same = one bytes head a.head size a.size begins a.begins in
      let sizes : size ≡ a.size = same.1 in
      let lens : len ≡ a.len = same_length len a.len (sym allowed.len_is ∙ (ap content_length same.0 ∙ a.len_is)) in
      let within = a.within in
      let takes = a.takes in
      omega (arith, short, within, takes, sizes, lens)
  no_whole_by_len most bytes head size len begins allowed short (turned_away r) used (inl b) =
      head_decides most bytes head b.head size used r begins allowed.unrefused b.begins b.refused
  no_whole_by_len most bytes head size len begins allowed short (turned_away r) used (inr b) = b.none.no_head head size begins

  pub unfinished_by_len : (most : ℕ) (bytes : List ℕ) (head : AskHead) (size len : ℕ) → IsAskHead bytes head size
      → IsAllowed most head len → length bytes < size + len → IsUnfinishedRequest most bytes
  unfinished_by_len most bytes head size len begins allowed short =
      let fit : size ≤ MAX_HEAD_BYTES = begins.bytes_fit in
      let few : len ≤ most = allowed.few in
      record {
        none = no_whole_by_len most bytes head size len begins allowed short;
        few = omega (arith, short, fit, few);
      }

  -- .. until all of it has come, whatever it is
  pub lasts_until : AskHeadStays → (most : ℕ) (bytes : List ℕ) (head : AskHead) (size len : ℕ) → IsAskHead bytes head size
      → IsAllowed most head len → LastsUntil most bytes (size + len)
  lasts_until stays most bytes head size len begins allowed more short =
      unfinished_by_len most (bytes ++ more) head size len (stays bytes more head size begins) allowed short

-- ---- a head that isn't whole

-- no whole request stands where the head is unfinished
pub unfinished_by_head : AskHeadIsFinished → (most : ℕ) (bytes : List ℕ) → IsAskUnfinished bytes → IsUnfinishedRequest most bytes
unfinished_by_head finished most bytes front = record { none = none; few = omega (arith, front.short) }
  where
    none : HasNoWholeRequest most bytes
    none (served body last) used a = finished bytes a.head a.size a.begins front
    none (turned_away r) used (inl b) = finished bytes b.head used b.begins front
    none (turned_away r) used (inr b) = b.none.no_front front

-- ---- more bytes

-- what is known of bytes is known of them whatever follows
pub progress_stays : ProgressStays
progress_stays most bytes more Unread known = tt
progress_stays most bytes more (InHead read part) known = (
  omega (arith, known.0, length-append bytes more),
  subst (EndsIn part) (sym (take-append-le read bytes more known.0)) known.1,
)
progress_stays most bytes more (InContent until) known = λ others short.
    let P : List ℕ → Type 0 = IsUnfinishedRequest most in
    let one : (bytes ++ more) ++ others ≡ bytes ++ (more ++ others) = append_assoc bytes more others in
    subst P (sym one) (known (more ++ others) (omega (arith, short, ap (λ text. length text) one)))

served_stays : AskHeadStays → (most : ℕ) (bytes more body : List ℕ) (last : Bool) (used : ℕ) → IsServedAt most bytes body last used
    → IsServedAt most (bytes ++ more) body last used
served_stays stays most bytes more body last used a =
    let takes = a.takes in
    let within = a.within in
    let both : length (bytes ++ more) ≡ length bytes + length more = length-append bytes more in
    record {
      head = a.head;
      size = a.size;
      len = a.len;
      begins = stays bytes more a.head a.size a.begins;
      unrefused = a.unrefused;
      len_is = a.len_is;
      takes = takes;
      within = omega (arith, within, both);
      body_is = a.body_is ∙ sym (between_stays bytes more a.size used (omega (arith, takes)) within);
      last_is = a.last_is;
    }

-- a whole request stays, whatever follows
pub request_stays : AskHeadStays → NoAskHeadStays → (most : ℕ) (bytes more : List ℕ) (request : Request) (used : ℕ)
    → IsOneRequest most bytes request used → IsOneRequest most (bytes ++ more) request used
request_stays stays none_stays most bytes more (served body last) used a = served_stays stays most bytes more body last used a
request_stays stays none_stays most bytes more (turned_away r) used (inl b) =
    inl (record { head = b.head; begins = stays bytes more b.head used b.begins; refused = b.refused })
request_stays stays none_stays most bytes more (turned_away r) used (inr b) =
    inr (record { none = none_stays bytes more b.none; refusal_is = b.refusal_is; takes = b.takes })

-- .. and lies within the bytes
pub request_within : AskHeadComesWhole → (most : ℕ) (bytes : List ℕ) (request : Request) (used : ℕ)
    → IsOneRequest most bytes request used → used ≤ length bytes
request_within whole most bytes (served body last) used a = a.within
request_within whole most bytes (turned_away r) used (inl b) = (whole bytes b.head used b.begins).0
request_within whole most bytes (turned_away r) used (inr b) = let takes = b.takes in omega (arith, takes)
