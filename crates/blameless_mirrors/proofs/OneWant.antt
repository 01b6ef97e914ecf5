-- The wants of a download are one.
use Rattle.std.proofs.Common.{◌≡◌, inl, inr, ℕ, ◌≤◌, Option, None, Some, Ok, List, [], ◌∷◌, sym, ap, ◌∙◌, subst}
use Rattle.std.proofs.Math.Bridge.{le_prop}
use Rattle.std.proofs.Math.Nat.{ℕ_set}
use Rattle.control_file.specs.declared.want.Want.{Want}
use Rattle.dl_kinds.specs.Plan.{IsPlan, pieces_of}
use Rattle.dl_kinds.specs.declared.gid.Gid.{Gid}
use Rattle.dl_kinds.specs.declared.plan.Plan.{Plan}
use Rattle.dl_kinds.specs.declared.plan.TheConstants.{MAX_PAYLOAD_LEN}
use Rattle.engine_core.proofs.Turned.{same_download}
use Rattle.engine_turns.specs.Told.{history_of}
use Rattle.machine_core.specs.DownloadWants.{HasWant, digests_of_subject, files_of_subject}
use Rattle.machine_core.specs.FileNames.{IsPayloadName, IsUnlistedName, folder_in}
use Rattle.machine_core.specs.OwnParts.{PayloadLengths}
use Rattle.machine_core.specs.RunLegal.{info_hash_by}
use Rattle.machine_core.specs.Starts.{Download, Listed, RunStart, Subject, Unlisted}
use Rattle.machine_core.specs.declared.events.Event.{Event}
use Rattle.option_set.specs.Values.{text_of_word}
use Rattle.option_set.specs.declared.kinds.Word.TheVariants.{Out}
use Rattle.percent_encoding.specs.Percent.{percent_decode}
use Rattle.url.specs.Parts.{Parts}
use Rattle.url_names.specs.UrlNames.{IsNameBy, IsNameOfUrl, behind_last_slash}
use Rattle.blameless_mirrors.specs.Lone.{LoneAreAlone}

-- ---- plans

plan_prop : (total len : ℕ) (a b : IsPlan total len) → a ≡ b
plan_prop total len a b = λ i. record {
  some = le_prop a.some b.some i;
  piece = le_prop a.piece b.piece i;
  pieces = le_prop a.pieces b.pieces i;
  blocks = le_prop a.blocks b.blocks i;
}

-- a plan is known by its lengths
pub plans_same : (a b : Plan) → a.total ≡ b.total → a.piece_len ≡ b.piece_len → a ≡ b
plans_same a b total len =
    let pieces : a.pieces ≡ b.pieces = a.pieces_are ∙ ((λ i. pieces_of (total i) (len i)) ∙ sym b.pieces_are) in
    let Made = λ (t l p : ℕ) (are : p ≡ pieces_of t l) (is : IsPlan t l) (fits : t ≤ MAX_PAYLOAD_LEN).
    a ≡ record { total = t; piece_len = l; pieces = p; pieces_are = are; is_plan = is; bounded = fits } in
    subst
    (λ (t : ℕ). (l p : ℕ) → a.piece_len ≡ l → a.pieces ≡ p → (are : p ≡ pieces_of t l) (is : IsPlan t l)
    (fits : t ≤ MAX_PAYLOAD_LEN) → Made t l p are is fits)
    total
    (λ l p same_len same_pieces.
    subst
    (λ (m : ℕ). (q : ℕ) → a.pieces ≡ q → (are : q ≡ pieces_of a.total m) (is : IsPlan a.total m)
    (fits : a.total ≤ MAX_PAYLOAD_LEN) → Made a.total m q are is fits)
    same_len
    (λ q same_q.
    subst
    (λ (r : ℕ). (are : r ≡ pieces_of a.total a.piece_len) (is : IsPlan a.total a.piece_len)
    (fits : a.total ≤ MAX_PAYLOAD_LEN) → Made a.total a.piece_len r are is fits)
    same_q
    (λ are is fits i. record {
      total = a.total;
      piece_len = a.piece_len;
      pieces = a.pieces;
      pieces_are = ℕ_set a.pieces (pieces_of a.total a.piece_len) a.pieces_are are i;
      is_plan = plan_prop a.total a.piece_len a.is_plan is i;
      bounded = le_prop a.bounded fits i;
    }))
    p same_pieces)
    b.piece_len b.pieces len pieces b.pieces_are b.is_plan b.bounded

-- ---- names

name_by_one : (segment one other : List ℕ) → IsNameBy segment one → IsNameBy segment other → one ≡ other
name_by_one segment one other (inl a) (inl b) = a.1 ∙ sym b.1
name_by_one segment one other (inl a) (inr b) = absurd (b.0 a.0)
name_by_one segment one other (inr a) (inl b) = absurd (a.0 b.0)
name_by_one segment one other (inr a) (inr b) = a.1 ∙ sym b.1

-- a URL names one file
name_one : (uri one other : List ℕ) → IsNameOfUrl uri one → IsNameOfUrl uri other → one ≡ other
name_one uri one other a b =
    let same : a.url ≡ b.url = (let both : Ok a.url ≡ Ok b.url = sym a.parsed ∙ b.parsed in cc) in
    name_by_one (percent_decode (behind_last_slash b.url.path)) one other
    (subst (λ (url : Parts). IsNameBy (percent_decode (behind_last_slash url.path)) one) same a.named) b.named

unlisted_one : (out : Option (List ℕ)) (uris : List (List ℕ)) (one other : List ℕ) → IsUnlistedName out uris one
    → IsUnlistedName out uris other → one ≡ other
unlisted_one (Some out) uris one other a b = a ∙ sym b
unlisted_one None [] one other a b = absurd a
unlisted_one None (uri ∷ uris) one other a b = name_one uri one other a b

payload_one : (d : Download) (subject : Subject) (one other : List ℕ) → IsPayloadName d subject one
    → IsPayloadName d subject other → one ≡ other
payload_one d (Listed meta uris) one other a b = a ∙ sym b
payload_one d (Unlisted uris) one other a b = unlisted_one (text_of_word d.options Out) uris one other a b

-- ---- wants

pub wants_one : (start : RunStart) (past : List Event) (gid : Gid) (v w : Want) → HasWant start past gid v
    → HasWant start past gid w → v ≡ w
wants_one start past gid v w a b =
    let it = same_download start past gid a.download b.download a.added b.added in
    let lengths : a.lengths ≡ b.lengths = (let some : Some a.lengths ≡ Some b.lengths = sym a.known ∙ b.known in cc) in
    let cut = a.is.plan ∙ (lengths ∙ sym b.is.plan) in
    let base : v.base ≡ w.base =
    payload_one b.download b.download.subject v.base w.base
    (subst (λ (d : Download). IsPayloadName d d.subject v.base) it a.is.base) b.is.base in
    let dir = a.is.dir ∙ (ap folder_in it ∙ sym b.is.dir) in
    let layout = a.is.layout ∙ ((λ i. files_of_subject (it i).subject (base i) (lengths i).total) ∙ sym b.is.layout) in
    let plan = plans_same v.plan w.plan (ap (λ (l : PayloadLengths). l.total) cut)
    (ap (λ (l : PayloadLengths). l.piece_len) cut) in
    let digests = a.is.digests ∙ (ap (λ (d : Download). digests_of_subject d.subject) it ∙ sym b.is.digests) in
    let hash = a.is.info_hash ∙ (ap (λ (d : Download). info_hash_by d.subject) it ∙ sym b.is.info_hash) in
    λ i. record {
      base = base i;
      dir = dir i;
      layout = layout i;
      plan = plan i;
      digests = digests i;
      info_hash = hash i;
    }

pub lone_alone : LoneAreAlone
lone_alone start told gid meta want lone has = record {
  download = lone.download;
  added = lone.added;
  uris = lone.uris;
  subject = lone.subject;
  has = has;
  alone = λ g other asked other_has shared.
      let its = lone.only g other_has.download other_has.added in
      wants_one start (history_of told) gid other want
      (subst (λ (h : Gid). HasWant start (history_of told) h other) its other_has) has;
  only = λ other other_has. lone.only other other_has.download other_has.added;
}
