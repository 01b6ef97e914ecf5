-- Requests that ask for no WebSocket.
use Rattle.std.proofs.Common.{◌≡◌, ◌∙◌, inl, inr, ℕ, Bool, true, false, List, ◌++◌, codes, bytes_eq, refl, ap, sym, subst, true≢false}
use Rattle.std.proofs.lemmas.Slice.Eq.{bytes_eq-Decides}
use Rattle.std.specs.Prelude.{◌&&◌, Some}
use Rattle.http_heads.specs.AskHeadLaws.{HasOneAskHead, AskHeadStays, NoAskHeadStays}
use Rattle.http_heads.specs.AskHeads.{IsAskHead}
use Rattle.http_heads.specs.declared.ask_head.AskHead.{AskHead}
use Rattle.request_stream.specs.Requests.{Request, served, turned_away, IsOneRequest, refusal_by_head}
use Rattle.request_stream.specs.StreamLaws.{HasOneRequest}
use Rattle.request_stream.specs.declared.refusal.Refusal.TheVariants.{MethodNotAllowed}
use Rattle.console_http.specs.Upgrading.{HasNoUpgrade, NoUpgradeStays, UpgradesAreRefusedOverHttp, is_for_method}
use Rattle.console_socket.specs.Upgrades.{IsUpgradeAt, is_upgrade}

-- ---- as a request of HTTP alone

both_true : (a b c : Bool) → (a && b && c) ≡ true → (a ≡ true) × (b ≡ true)
both_true true true c e = (refl, refl)
both_true true false c e = absurd (true≢false (sym e))
both_true false b c e = absurd (true≢false (sym e))

other_method : (method : List ℕ) → bytes_eq method (codes "GET") ≡ true → bytes_eq method (codes "POST") ≡ false
other_method method is =
    let same : method ≡ codes "GET" = (bytes_eq-Decides method (codes "GET")).0 is in
    subst (λ (text : List ℕ). bytes_eq text (codes "POST") ≡ false) (sym same) refl

refused : (most : ℕ) (head : AskHead) → is_upgrade head ≡ true → refusal_by_head most head ≡ Some MethodNotAllowed
refused most head asks =
    let both = both_true (bytes_eq head.method (codes "GET")) (bytes_eq head.target (codes "/jsonrpc")) _ asks in
    rw (both.1, other_method head.method both.0) refl

pub refused_over_http : UpgradesAreRefusedOverHttp
refused_over_http most bytes used is =
    inl (record { head = is.head; begins = is.begins; refused = refused most is.head is.asks })

abbrev pub is_refused : Request → Bool
is_refused (served body last) = false
is_refused (turned_away refusal) = is_for_method refusal

-- a request that isn't turned away for its method asks for none
pub plain_unless : HasOneRequest → (most : ℕ) (bytes : List ℕ) (request : Request) (used : ℕ)
    → IsOneRequest most bytes request used → is_refused request ≡ false → HasNoUpgrade bytes
plain_unless one most bytes request used is other n upgrade =
    let same = (one most bytes request (turned_away MethodNotAllowed) used n is (refused_over_http most bytes n upgrade)).0 in
    true≢false (sym (ap is_refused same) ∙ other)

-- ---- whatever follows

same_head : HasOneAskHead → AskHeadStays → (bytes more : List ℕ) (head : AskHead) (size n : ℕ) → IsAskHead bytes head size
    → IsUpgradeAt (bytes ++ more) n → IsUpgradeAt bytes n
same_head one stays bytes more head size n begins upgrade =
    let same = one (bytes ++ more) head upgrade.head size n (stays bytes more head size begins) upgrade.begins in
    record {
      head = head;
      begins = subst (IsAskHead bytes head) same.1 begins;
      asks = subst (λ (h : AskHead). is_upgrade h ≡ true) (sym same.0) upgrade.asks;
    }

pub no_upgrade_stays : HasOneAskHead → AskHeadStays → NoAskHeadStays → NoUpgradeStays
no_upgrade_stays one stays none most bytes more (served body last) used is plain n upgrade =
    plain n (same_head one stays bytes more is.head is.size n is.begins upgrade)
no_upgrade_stays one stays none most bytes more (turned_away refusal) used (inl is) plain n upgrade =
    plain n (same_head one stays bytes more is.head used n is.begins upgrade)
no_upgrade_stays one stays none most bytes more (turned_away refusal) used (inr never) plain n upgrade =
    (none bytes more never.none).no_head upgrade.head n upgrade.begins
