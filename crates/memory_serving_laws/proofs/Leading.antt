-- A URL leads to one resource.
use Rattle.std.proofs.Common.{◌≡◌, ℕ, zero, suc, List, inl, inr, refl, ap, sym, subst, ◌∙◌}
use Rattle.link_source.specs.Endpoint.{endpoint_of}
use Rattle.link_source.specs.Files.{MemFile, Bytes, Moved}
use Rattle.link_source.specs.Mirrors.{Content}
use Rattle.link_source.specs.Replies.{bare_reply, moved, text_of}
use Rattle.memory_reply_laws.specs.Replies.{MovedIsRead}
use Rattle.http_heads.specs.Fields.{sole}
use Rattle.range_http.specs.Verdict.{verdict_of}
use Rattle.http_heads.specs.declared.head.Head.{Head}
use Rattle.range_http.specs.declared.verdict.Verdict.TheVariants.{Moved as HasMoved}
use Rattle.reply_reader.specs.HeadLaws.{HasOneFinalHead}
use Rattle.reply_reader.specs.Heads.{HasFinalHead}
use Rattle.request_chain.specs.Probes.{probe_asked}
use Rattle.memory_serving_laws.specs.Leads.{StandsAt, Redirects, Leads, LeadsOnce, VisibleLocationsLead}
use Rattle.memory_serving_laws.proofs.Replies.{has_final_head}

-- one thing stands at a URL
one_file : (content : Content) (url : List ℕ) (file other : MemFile) → StandsAt content url file → StandsAt content url other → file ≡ other
one_file content url file other a b =
    let urls : a.named.0 ≡ b.named.0 = cc (a.named.1, b.named.1) in
    let endpoints : a.endpoint ≡ b.endpoint = a.named.3 ∙ ap endpoint_of urls ∙ sym b.named.3 in
    let mirrors : a.mirror ≡ b.mirror = cc (a.mirror_is, b.mirror_is) in
    cc (a.file_is, b.file_is)

-- no resource has moved
stays : {A : Type 0} (content : Content) (url next bytes : List ℕ) → StandsAt content url (Bytes bytes) → Redirects content url next → A
stays content url next bytes a b =
    let files : Bytes bytes ≡ Moved b.location = one_file content url _ _ a b.stands in
    absurd (cc files)

same : (content : Content) (url bytes other_bytes : List ℕ) → StandsAt content url (Bytes bytes) → StandsAt content url (Bytes other_bytes) → bytes ≡ other_bytes
same content url bytes other_bytes a b = let files : Bytes bytes ≡ Bytes other_bytes = one_file content url _ _ a b in cc

module _ (one : HasOneFinalHead) where
  -- one URL is next
  one_next : (content : Content) (url next other : List ℕ) → Redirects content url next → Redirects content url other → next ≡ other
  one_next content url next other a b =
      let files : Moved a.location ≡ Moved b.location = one_file content url _ _ a.stands b.stands in
      let locations : a.location ≡ b.location = cc in
      let P : List ℕ → Type 0 = λ location. HasFinalHead (text_of (bare_reply (moved location))) b.head b.used in
      let heads : a.head ≡ b.head = (one (text_of (bare_reply (moved a.location))) a.head b.head a.used b.used a.read (subst P (sym locations) b.read)).0 in
      let texts : a.text ≡ b.text = cc (a.told, b.told, heads) in
      cc (a.next_is, b.next_is, texts)

  pub leads_once : LeadsOnce
  leads_once content zero zero url bytes other_bytes a b = same content url bytes other_bytes a b
  leads_once content zero (suc m) url bytes other_bytes a (inl b) = same content url bytes other_bytes a b
  leads_once content zero (suc m) url bytes other_bytes a (inr (next, redirects, leads)) = stays content url next bytes a redirects
  leads_once content (suc n) zero url bytes other_bytes (inl a) b = same content url bytes other_bytes a b
  leads_once content (suc n) zero url bytes other_bytes (inr (next, redirects, leads)) b = stays content url next other_bytes b redirects
  leads_once content (suc n) (suc m) url bytes other_bytes (inl a) (inl b) = same content url bytes other_bytes a b
  leads_once content (suc n) (suc m) url bytes other_bytes (inl a) (inr (next, redirects, leads)) = stays content url next bytes a redirects
  leads_once content (suc n) (suc m) url bytes other_bytes (inr (next, redirects, leads)) (inl b) = stays content url next other_bytes b redirects
  leads_once content (suc n) (suc m) url bytes other_bytes (inr (next, redirects, leads)) (inr (other, others, leads')) =
      leads_once content n m next bytes other_bytes leads
      (subst (λ u. Leads content m u other_bytes) (one_next content url other next others redirects) leads')

  -- a location of visible characters is read as it is
  pub visible_lead : MovedIsRead → VisibleLocationsLead
  visible_lead moved_is_read content url location next stands readable next_is =
      let reply : List ℕ = text_of (bare_reply (moved location)) in
      let first = moved_is_read location probe_asked readable in
      let head = first.has.head in
      let read = has_final_head reply probe_asked 302 first.used HasMoved refl first.has in
      record {
        location = location;
        stands = stands;
        head = head;
        used = first.used;
        read = read;
        means = λ asked.
            let again = moved_is_read location asked readable in
            let other = has_final_head reply asked 302 again.used HasMoved refl again.has in
            let heads : head ≡ again.has.head = (one reply head again.has.head first.used again.used read other).0 in
            ap (λ (h : Head). verdict_of h asked) heads ∙ again.has.means;
        text = location;
        told = ap (sole {A = List ℕ}) first.location_is.only;
        next_is = next_is;
      }
