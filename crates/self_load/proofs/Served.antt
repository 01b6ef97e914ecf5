-- What the last mirror of a load serves.
use Rattle.std.proofs.Common.{◌≡◌, ⊎_elim, inl, ℕ, zero, suc, ◌+◌, ◌-◌, ◌*◌, ◌<◌, ◌≤◌, ◌^◌, min, false, List, [], ◌∷◌, ◌++◌, Option, Some, None, drop, length, map, refl, slice_get, sym, ap, ◌∙◌, subst, arith}
use Rattle.std.specs.Prelude.{◌==◌, ◌%◌, Err, Ok, Result, codes, slice_index_or}
use Rattle.std.specs.List.{range_with_len}
use Rattle.std.specs.Str.{chars, is_utf8}
use lib.Utf8.{encode}
use Rattle.std.proofs.Math.Nat.{mod-lt}
use Rattle.std.proofs.lemmas.Bool.{ne_eqb}
use Rattle.std.proofs.lemmas.Grind.{same_number_lists}
use Rattle.std.proofs.lemmas.List.{get_or-drop, get_or-take, length-drop, length-take-le}
use Rattle.std.proofs.lemmas.List.FromFn.{get_or-map-range_with_len, length-map-range_with_len}
use Rattle.std.proofs.lemmas.Option.{slice_get-get_or}
use Rattle.blameless_mirrors.specs.Blameless.{HasChosenPieces}
use Rattle.dl_kinds.specs.Plan.{piece_end, piece_start, pieces_of}
use Rattle.dl_kinds.specs.Lists.{part_at}
use Rattle.link_source.specs.Endpoint.{endpoint_of}
use Rattle.link_source.specs.Files.{Bytes, Moved}
use Rattle.link_source.specs.Load.{load_byte, load_bytes, load_part}
use Rattle.link_source.specs.Mirrors.{Content, Mirror, file_at, mirror_at, number_at}
use Rattle.link_source.specs.declared.endpoint.Endpoint.{Endpoint}
use Rattle.machine_core.specs.Starts.{Listed}
use Rattle.memory_serving_laws.specs.Leads.{Leads, Redirects, StandsAt}
use Rattle.memory_serving_laws.specs.Serving.{LeadsThrough, NamesMirror}
use Rattle.metainfo.specs.Jobs.{len_of_file}
use Rattle.metainfo.specs.declared.meta.Meta.{Meta}
use Rattle.option_set.specs.Values.{OptionValues}
use Rattle.request_chain.specs.Exchanges.{LeadsTo}
use Rattle.served_runs.specs.Serving.{ServesRightly, file_bytes}
use Rattle.engine_turns.specs.NextRows.{mirror_url}
use Rattle.metainfo.specs.Urls.{seed_url_of}
use Rattle.request_chain.specs.declared.course.TheConstants.{REDIRECT_LIMIT}
use Rattle.span_map.specs.Layout.{total_of}
use Rattle.link_source.specs.declared.bad_answers.Bad.{Bad}
use Rattle.std.proofs.lemmas.List.Elements.{All-cons, All-nil}
use Rattle.sha1.specs.Sha1.{sha1}
use Rattle.span_map.specs.declared.files.FileLen.{FileLen}
use Rattle.url.specs.Parser.{after_double_slash, host_len, leading_slashes, parse_authority, parse_body, parse_parts, parse_port, parse_url, split_scheme}
use Rattle.url.specs.Parts.{Parts}
use Rattle.url.specs.declared.error.ParseError.{ParseError}
use Rattle.url.specs.Head.{head_parts}
use Rattle.url.specs.Host.{ascii_domain, parse_special_host}
use Rattle.url.specs.Input.{rsplit_once, split_once, strip_tabs_and_new_lines, trim_c0_control_and_space}
use Rattle.url.specs.Ipv4.{ends_in_a_number, parse_number}
use Rattle.url.specs.Path.{dot_count, parse_path_start, parse_segments, push_segment, shorten_path}
use Rattle.url.specs.Scheme.{default_port, scheme_len, scheme_type}
use Rattle.percent_encoding.specs.AsciiSet.{should_percent_encode}
use Rattle.percent_encoding.specs.Percent.{percent_decode, percent_encode}
use Rattle.load_setup.specs.Links.{bad_answer, load_content, load_mirror, load_mirrors}
use Rattle.load_setup.specs.Payload.{digests_of, load_piece, piece_digests}
use Rattle.load_setup.specs.Said.{load_file}

-- ---- the payload

-- so many values of a function, from a place among more of them on
part_of_map : (f : ℕ → ℕ) (total start len : ℕ) → start + len ≤ total
    → part_at (map f (range_with_len 0 total)) start len ≡ map f (range_with_len start len)
part_of_map f total start len within =
    let xs = map f (range_with_len 0 total) in
    let long : length xs ≡ total = length-map-range_with_len f 0 total in
    let dropped : length (drop start xs) ≡ length xs - start = length-drop start xs in
    let taken : length (part_at xs start len) ≡ len = length-take-le len (drop start xs) (omega
    (arith, within, dropped, long)) in
    let made : length (map f (range_with_len start len)) ≡ len = length-map-range_with_len f start len in
    same_number_lists (part_at xs start len) (map f (range_with_len start len)) (taken ∙ sym made)
    (λ k below.
    let few : k < len = omega (arith, below, taken) in
    get_or-take len (drop start xs) k 0 few
    ∙ (get_or-drop start xs k 0
    ∙ (get_or-map-range_with_len f 0 total (start + k) (start + k) 0 (omega (arith, few, within)) (omega arith)
    ∙ sym (get_or-map-range_with_len f start len k (start + k) 0 few refl))))

piece_of_load : (n start len : ℕ) → start + len ≤ 67108864 → part_at
    (load_bytes n 67108864) start len ≡ load_part n start len
unfolding load_bytes load_part
piece_of_load n start len within = part_of_map (load_byte n) 67108864 start len within

load_long : (n len : ℕ) → length (load_bytes n len) ≡ len
unfolding load_bytes load_part
load_long n len = length-map-range_with_len (load_byte n) 0 len

digest_at : (n piece : ℕ) → piece < 64 → slice_get (digests_of n) piece ≡ Some (sha1 (load_piece n piece))
unfolding piece_digests
digest_at n piece low =
    let f = λ (p : ℕ). sha1 (load_piece n p) in
    slice_get-get_or (map f (range_with_len 0 64)) piece [] (few (map f (range_with_len 0 64)) piece low
    (length-map-range_with_len f 0 64))
    ∙ ap Some (get_or-map-range_with_len f 0 64 piece piece [] low (omega arith))
  where
    few : (xs : List (List ℕ)) (p : ℕ) → p < 64 → length xs ≡ 64 → p < length xs
    few xs p low long = omega (arith, low, long)

piece_within : (piece : ℕ) → piece < 64 → piece * 1048576 + 1048576 ≤ 67108864
piece_within piece low = omega (arith, low)

piece_many : (piece : ℕ) → piece < 64 → min ((piece + 1) * 1048576) 67108864 - piece * 1048576 ≡ 1048576
piece_many piece low = omega (arith, low)

pub payload_is : (n : ℕ) (meta : Meta) (options : OptionValues) → meta.plan.total ≡ 67108864 → meta.plan.piece_len ≡ 1048576
    → meta.digests ≡ digests_of n → HasChosenPieces meta options (load_bytes n 67108864)
payload_is n meta options total piece_len digests = record {
  len = load_long n 67108864 ∙ sym total;
  digests = λ piece chosen.
      let low : piece < 64 = subst (λ m. piece < m) (λ i. pieces_of (total i) (piece_len i)) chosen.within in
      ap (λ ds. slice_get ds piece) digests ∙ (digest_at n piece low
      ∙ ap (λ b. Some (sha1 b)) (sym ((λ i. part_at (load_bytes n 67108864) (piece_start (piece_len i) piece)
      (piece_end (total i) (piece_len i) piece - piece_start (piece_len i) piece))
      ∙ (ap (part_at (load_bytes n 67108864) (piece * 1048576)) (piece_many piece low)
      ∙ piece_of_load n (piece * 1048576) 1048576 (piece_within piece low)))));
}

-- ---- the mirror

abbrev pub last_url : List ℕ
last_url = codes "http://m2.test/load.bin"

abbrev last_endpoint : Endpoint
last_endpoint = record { host = codes "m2.test"; port = 80; target = codes "/load.bin" }

-- the scheme of a URL, and where it leads
seen_of : Result Parts ParseError → Option (List ℕ × Endpoint)
seen_of (Ok parts) = Some (parts.scheme, endpoint_of parts)
seen_of (Err e) = None

seen_is : seen_of (parse_url None last_url) ≡ Some (codes "http", last_endpoint)
unfolding seen_of is_utf8 chars encode head_parts ascii_domain parse_special_host rsplit_once split_once
    strip_tabs_and_new_lines trim_c0_control_and_space ends_in_a_number after_double_slash host_len leading_slashes
    parse_authority parse_body parse_port parse_url split_scheme dot_count parse_path_start parse_segments
    push_segment shorten_path default_port scheme_len scheme_type parse_parts percent_decode percent_encode
    should_percent_encode parse_number
seen_is = refl

same_seen : (a b : List ℕ × Endpoint) → Some a ≡ Some b → a ≡ b
same_seen a b is = cc

named_by : (parsed : Result Parts ParseError) → parse_url None last_url ≡ parsed
    → seen_of parsed ≡ Some (codes "http", last_endpoint) → LeadsTo last_url last_endpoint
unfolding seen_of
named_by (Ok parts) at is =
    let same = same_seen (parts.scheme, endpoint_of parts) (codes "http", last_endpoint) is in
    (parts, at, ap (λ (s : List ℕ × Endpoint). s.0) same, sym (ap (λ (s : List ℕ × Endpoint). s.1) same))
named_by (Err e) at is = absurd cc

named : LeadsTo last_url last_endpoint
named = named_by (parse_url None last_url) refl seen_is

leads_there : (endpoint : Endpoint) → LeadsTo last_url endpoint → endpoint ≡ last_endpoint
unfolding seen_of
leads_there endpoint leads =
    leads.3 ∙ ap (λ (s : List ℕ × Endpoint). s.1)
    (same_seen (leads.0.scheme, endpoint_of leads.0) (codes "http", last_endpoint) (sym (ap seen_of leads.1) ∙ seen_is))

whole_part : (n : ℕ) → part_at (load_bytes n 67108864) 0 67108864 ≡ load_bytes n 67108864
unfolding load_bytes load_part
whole_part n = part_of_map (load_byte n) 67108864 0 67108864 (omega arith)

below_max : (count : ℕ) → count ≡ 67108864 → count < 2 ^ 63
below_max count is = omega (arith, is)

not_last : (link : ℕ) → (link % 2 == 2) ≡ false
not_last link = ne_eqb (link % 2) 2 (λ is. apart link (mod-lt link (omega arith)) is)
  where
    apart : (k : ℕ) → k % 2 < 2 → k % 2 ≡ 2 → ⊥
    apart k low is = omega (arith, low, is)

module _ (n link : ℕ) where
  abbrev content : Content
  content = load_content n link

  abbrev payload : List ℕ
  payload = load_bytes n 67108864

  abbrev last_mirror : Mirror
  last_mirror = load_mirror n (codes "m2.test")

  mirror_is : mirror_at content.mirrors (codes "m2.test") 80 ≡ Some last_mirror
  unfolding load_mirrors load_mirror
  mirror_is = refl

  number_is : number_at content.mirrors (codes "m2.test") 80 ≡ Some 2
  unfolding load_mirrors load_mirror
  number_is = refl

  file_is : file_at last_mirror.files (codes "/load.bin") ≡ Some (Bytes payload)
  unfolding load_mirror
  file_is = refl

  stands : StandsAt content last_url (Bytes payload)
  stands = record {
    endpoint = last_endpoint;
    named = named;
    mirror = last_mirror;
    mirror_is = mirror_is;
    file_is =
        file_is;
  }

  same_mirror : (a b : Mirror) → Some a ≡ Some b → a ≡ b
  same_mirror a b is = cc

  same_number : (a b : ℕ) → Some a ≡ Some b → a ≡ b
  same_number a b is = cc

  never_moved : (location : List ℕ) → Some (Bytes payload) ≡ Some (Moved location) → ⊥
  never_moved location is = cc

  unmoved : (next : List ℕ) → Redirects content last_url next → ⊥
  unmoved next redirects =
      let at = leads_there redirects.stands.endpoint redirects.stands.named in
      let its = same_mirror last_mirror redirects.stands.mirror
      (sym mirror_is ∙ ((λ i. mirror_at content.mirrors (sym at i).host (sym at i).port)
      ∙ redirects.stands.mirror_is)) in
      never_moved redirects.location
      (sym file_is ∙ ((λ i. file_at (its i).files (sym at i).target) ∙ redirects.stands.file_is))

  names_last : (number : ℕ) → NamesMirror content last_url number → number ≡ 2
  names_last number names =
      let at = leads_there names.endpoint names.named in
      same_number number 2
      (sym names.number_is ∙ ((λ i. number_at content.mirrors (at i).host (at i).port) ∙ number_is))

  through : (more number : ℕ) → LeadsThrough content more last_url number → number ≡ 2
  through zero number names = names_last number names
  through (suc more) number leads = ⊎_elim (λ (names : NamesMirror content last_url number). names_last number names)
      (λ (on : (next : List ℕ) × Redirects content last_url next × LeadsThrough content more next number).
      absurd (unmoved on.0 on.1)) leads

  -- ---- all of it

  module _ (meta : Meta) (options : OptionValues) (layout : meta.layout ≡ load_file ∷ []) (total : meta.plan.total ≡ 67108864)
      (seeds : meta.seeds ≡ codes "http://m0.test/load.bin" ∷ codes "http://m1.test/load.bin" ∷ last_url ∷ []) where
    base_is : mirror_url (Listed meta []) 2 ≡ last_url
    base_is = ap (λ (urls : List (List ℕ)). slice_index_or (urls ++ []) 2 []) seeds

    -- the one file that isn't empty is the first
    only_first : (file : ℕ) → 0 < len_of_file meta.layout file → file ≡ 0
    only_first zero some = refl
    only_first (suc file) some =
        let none : len_of_file meta.layout (suc file) ≡ 0 = ap (λ (fs : List FileLen). len_of_file fs
        (suc file)) layout in
        absurd (omega (arith, some, none))

    url_is : seed_url_of meta.layout (mirror_url (Listed meta []) 2) 0 ≡ last_url
    url_is = λ i. seed_url_of (layout i) (base_is i) 0

    file_bytes_are : file_bytes meta.layout payload 0 ≡ payload
    file_bytes_are = ap (λ (fs : List FileLen). file_bytes fs payload 0) layout ∙ whole_part n

    url_at : (file : ℕ) → file ≡ 0 → seed_url_of meta.layout (mirror_url (Listed meta []) 2) file ≡ last_url
    url_at file is = ap (seed_url_of meta.layout (mirror_url (Listed meta []) 2)) is ∙ url_is

    pub serves_rightly : ServesRightly content (Listed meta []) options 2 payload
    serves_rightly = record {
      of = record {
        serves = record {
          total = load_long n 67108864 ∙ sym total;
          laid = ap total_of layout ∙ sym total;
          small = below_max (length payload) (load_long n 67108864);
          leads = λ file asked.
              let first = only_first file asked.of.some in
              subst (λ url. Leads content REDIRECT_LIMIT url (file_bytes meta.layout payload file)) (sym
              (url_at file first))
              (inl (subst (λ (b : List ℕ). StandsAt content last_url (Bytes b))
              (sym (ap (file_bytes meta.layout payload) first ∙ file_bytes_are)) stands));
        };
        among = λ number. number == 2;
        leads = λ file asked number leads.
            let first = only_first file asked.of.some in
            ap (λ k. k == 2) (through REDIRECT_LIMIT number
            (subst (λ url. LeadsThrough content REDIRECT_LIMIT url number) (url_at file first) leads));
      };
      none_bad = All-cons (λ (b : Bad). (b.mirror == 2) ≡ false) (bad_answer n link) [] (not_last link)
          (All-nil (λ (b : Bad). (b.mirror == 2) ≡ false));
    }
