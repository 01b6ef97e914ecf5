-- What is read in the metainfo file of a load.
use Rattle.std.proofs.Common.{◌≡◌, ◌↔◌, ℕ, zero, suc, ◌*◌, ◌<◌, ◌^◌, List, [], ◌∷◌, ◌++◌, length, take, drop, refl, sym, ap, ◌∙◌, subst, arith, append_assoc}
use Rattle.std.specs.Prelude.{All, Ok, Result, codes, map, pos, slice_index}
use Rattle.std.specs.Fmt.{decimal, digits}
use Rattle.std.specs.Int.{to_be_bytes, w32}
use Rattle.std.specs.List.{range_with_len}
use Rattle.std.specs.Str.{chars, is_utf8}
use lib.Utf8.{encode}
use Rattle.std.proofs.Math.Seq.{drop-append_seam, take-append_seam}
use Rattle.std.proofs.lemmas.List.{append-nil, length-append}
use Rattle.std.proofs.lemmas.List.Elements.{All-cons, All-head, All-nil, All-tail}
use Rattle.std.proofs.lemmas.List.FromFn.{length-map-range_with_len}
use Rattle.bencode_core.specs.Placed.{Placed}
use Rattle.bencode_core.specs.Reading.{reading}
use Rattle.bencode_core.specs.Value.{IsValue, Spells, Value, dict, integer, list, member, no_members, no_values, spelling, string, value}
use Rattle.metainfo.specs.Info.{Info, info_of}
use Rattle.metainfo.specs.Rules.{digests_fit, digests_in, file_of, file_read, files_in, first_digests as digests_from, info_hash_of, info_in, laid_out, layout_in, len_in, metainfo_of, name_in, paths_fit, piece_len_in, plan_fits, seeds_in, single_in, sum_fits, seeds_of}
use Rattle.metainfo.specs.declared.meta.Meta.{Meta}
use Rattle.metainfo.specs.declared.refusals.MetaErr.{MetaErr}
use Rattle.metainfo.specs.Refusals.{◌>>=◌, integer_in, string_in}
use Rattle.sha1.specs.Sha1.{digest_bytes, sha1}
use Rattle.span_map.specs.Layout.{total_of}
use Rattle.percent_encoding.specs.AsciiSet.{should_percent_encode}
use Rattle.percent_encoding.specs.Percent.{percent_decode}
use Rattle.url.specs.Head.{head_parts}
use Rattle.url.specs.Host.{ascii_domain, parse_special_host}
use Rattle.url.specs.Input.{rsplit_once, split_once, strip_tabs_and_new_lines, trim_c0_control_and_space}
use Rattle.url.specs.Ipv4.{ends_in_a_number, parse_number}
use Rattle.url.specs.Parser.{after_double_slash, host_len, leading_slashes, parse_authority, parse_body, parse_parts, parse_port, parse_url, split_scheme}
use Rattle.url.specs.Path.{dot_count, parse_path_start, parse_segments, push_segment, shorten_path}
use Rattle.url.specs.Scheme.{default_port, scheme_len, scheme_type}
use Rattle.load_setup.specs.Metainfo.{digests_joined, metainfo_back, metainfo_by, metainfo_front}
use Rattle.load_setup.specs.Payload.{digests_of, piece_digests, load_piece}
use Rattle.load_setup.specs.Said.{MetainfoFilesAreRead, MetainfoFilesSayPayloads, SaysPayload, load_file, load_urls}

-- ---- digests

bytes_long : (hash : List ℕ) (count : ℕ) → length (digest_bytes hash count) ≡ 4 * count
unfolding digest_bytes
bytes_long hash zero = refl
bytes_long hash (suc n) =
    let rest = bytes_long hash n in
    let both = length-append (digest_bytes hash n) (to_be_bytes w32 (slice_index hash n)) in
    omega (arith, rest, both)

pub sha1_long : (bytes : List ℕ) → length (sha1 bytes) ≡ 20
unfolding sha1
sha1_long bytes = bytes_long _ 5

abbrev AreLong : List (List ℕ) → Type 0
AreLong digests = All (λ digest. length digest ≡ 20) digests

all_long : (ps : List ℕ) (n : ℕ) → AreLong (map (λ piece. sha1 (load_piece n piece)) ps)
all_long [] n = All-nil (λ digest. length digest ≡ 20)
all_long (p ∷ ps) n = All-cons (λ digest. length digest ≡ 20) (sha1 (load_piece n p)) (map (λ piece. sha1
    (load_piece n piece)) ps)
    (sha1_long (load_piece n p)) (all_long ps n)

load_long : (n : ℕ) → AreLong (digests_of n)
unfolding piece_digests
load_long n = all_long (range_with_len 0 64) n

load_many : (n : ℕ) → length (digests_of n) ≡ 64
unfolding piece_digests
load_many n = length-map-range_with_len (λ piece. sha1 (load_piece n piece)) 0 64

joined_long : (digests : List (List ℕ)) → AreLong digests → length (digests_joined digests) ≡ 20 * length digests
joined_long [] are = refl
joined_long (d ∷ ds) are =
    let one : length d ≡ 20 = All-head (λ digest. length digest ≡ 20) d ds are in
    let rest = joined_long ds (All-tail (λ digest. length digest ≡ 20) d ds are) in
    let both = length-append d (digests_joined ds) in
    omega (arith, one, rest, both)

-- digests one behind the other are taken apart again
parted : (digests : List (List ℕ)) → AreLong digests → digests_from (length digests) (digests_joined digests) ≡ digests
parted [] are = refl
parted (d ∷ ds) are =
    let one : length d ≡ 20 = All-head (λ digest. length digest ≡ 20) d ds are in
    let rest = parted ds (All-tail (λ digest. length digest ≡ 20) d ds are) in
    let first : take 20 (d ++ digests_joined ds) ≡ d =
    ap (λ n. take n (d ++ digests_joined ds)) (sym one) ∙ take-append_seam d (digests_joined ds) in
    let behind : drop 20 (d ++ digests_joined ds) ≡ digests_joined ds =
    ap (λ n. drop n (d ++ digests_joined ds)) (sym one) ∙ drop-append_seam d (digests_joined ds) in
    λ i. first i ∷ (ap (digests_from (length ds)) behind ∙ rest) i

-- ---- steps

-- a step that is done, and what follows
step_on : {A B : Type 0} (x : Result A MetaErr) (a : A) (f : A → Result B MetaErr) (r : Result B MetaErr) → x ≡ Ok a
    → f a ≡ r → (x >>= f) ≡ r
step_on x a f r is so = ap (λ y. y >>= f) is ∙ so

same_ok : (one other : Info) (a b : Result Info MetaErr) → a ≡ Ok one → b ≡ Ok other → a ≡ b → one ≡ other
same_ok one other a b is_one is_other is = let both : Ok one ≡ Ok other = sym is_one ∙ is ∙ is_other in cc

-- ---- the value

abbrev urls : Value
urls = list (value (string (codes "http://m0.test/load.bin"))
    (value (string (codes "http://m1.test/load.bin"))
    (value (string (codes "http://m2.test/load.bin")) no_values)))

abbrev info_value : List ℕ → Value
info_value joined = dict (member (codes "length") (integer (pos 67108864))
    (member (codes "name") (string (codes "load.bin"))
    (member (codes "piece length") (integer (pos 1048576))
    (member (codes "pieces") (string joined) no_members))))

abbrev load_value : List ℕ → Value
load_value joined = dict (member (codes "info") (info_value joined) (member (codes "url-list") urls no_members))

-- how the mirrors are spelled
abbrev urls_text : List ℕ
urls_text = codes "l23:http://m0.test/load.bin23:http://m1.test/load.bin23:http://m2.test/load.bine"

-- its spelling, where the digests have these digits for their length
abbrev spelled_with : List ℕ → List ℕ → List ℕ
spelled_with len joined =
    codes "d" ++ ((codes "4:info" ++ (codes "d" ++ ((codes "6:length" ++ codes "i67108864e" ++
    (codes "4:name" ++ codes "8:load.bin"
    ++ (codes "12:piece length" ++ codes "i1048576e" ++ (codes "6:pieces" ++
    (len ++ codes ":" ++ joined) ++ [])))) ++ codes "e"))
    ++ (codes "8:url-list" ++ urls_text ++ [])) ++ codes "e")

spelled_so : (joined : List ℕ) → spelling (load_value joined) ≡ spelled_with (decimal (length joined)) joined
unfolding digits
spelled_so joined = refl

behind_joined : (j e u f : List ℕ) → (((j ++ []) ++ e) ++ u) ++ f ≡ j ++ (e ++ (u ++ f))
behind_joined j e u f =
    ap (λ l. ((l ++ e) ++ u) ++ f) (append-nil j)
    ∙ (ap (λ l. l ++ f) (append_assoc j e u) ∙ (append_assoc j (e ++ u) f ∙ ap (λ l. j ++ l) (append_assoc e u f)))

flat : (joined len : List ℕ) → len ≡ codes "1280" → spelled_with len joined ≡ metainfo_front ++ joined ++ metainfo_back
unfolding metainfo_front metainfo_back
flat joined len is =
    ap (λ l. spelled_with l joined) is
    ∙ ap (λ rest. metainfo_front ++ rest) (behind_joined joined (codes "e")
    (codes "8:url-list" ++ urls_text ++ [])
    (codes "e"))

module _ (joined : List ℕ) (long : length joined ≡ 1280) where
  abbrev bytes : List ℕ
  bytes = metainfo_front ++ joined ++ metainfo_back

  spelled : spelling (load_value joined) ≡ bytes
  unfolding digits
  spelled = spelled_so joined ∙ flat joined (decimal (length joined)) (ap decimal long)

  bytes_many : length bytes ≡ 1451
  unfolding metainfo_front metainfo_back
  bytes_many =
      let both = length-append joined metainfo_back in
      omega (arith, long, both)

  few : length bytes < 2 ^ 32
  few = let many = bytes_many in omega (arith, many)

  is_value : IsValue (load_value joined)
  is_value = record {
    sound = (
      refl,
      (refl, omega arith, (refl, tt, (refl, omega arith, (refl, tt, tt)))),
      (
        refl,
        (
          tt,
          (
            tt,
            (tt, tt),
          ),
        ),
        tt,
      ),
    );
    depth = omega arith;
    short = let few_spelled = few in let same = ap length spelled in omega (arith, few_spelled, same);
  }

  read : ((v : Value) (text : List ℕ) → length text < 2 ^ 32 → (reading text ≡ Ok v) ↔ Spells v text)
      → reading bytes ≡ Ok (load_value joined)
  read reads = (reads (load_value joined) bytes few).1 (record { is_value = is_value; spelled = sym spelled })

  abbrev whole : Placed
  whole = record { place = 0; value = load_value joined }

  abbrev inner : Placed
  inner = record { place = 7; value = info_value joined }

  file_is : reading bytes ≡ Ok (load_value joined) → file_of bytes ≡ Ok whole
  unfolding file_of
  file_is is = ap file_read is

  info_is : info_in whole ≡ Ok inner
  unfolding info_in digits
  info_is = refl

  name_is : name_in inner ≡ Ok (codes "load.bin")
  unfolding name_in string_in is_utf8 chars encode
  name_is = refl

  piece_len_is : piece_len_in inner ≡ Ok 1048576
  unfolding piece_len_in integer_in
  piece_len_is = refl

  digests_are : digests_in inner ≡ Ok (digests_from 64 joined)
  unfolding digests_in string_in
  digests_are = rw long refl

  layout_is : layout_in (codes "load.bin") inner ≡ Ok (load_file ∷ [])
  unfolding layout_in laid_out files_in single_in len_in integer_in paths_fit sum_fits is_utf8 chars encode
  layout_is = refl

  plan_is : plan_fits 67108864 1048576 ≡ Ok tt
  unfolding plan_fits
  plan_is = refl

  count_is : digests_fit (length (digests_from 64 joined)) 64 ≡ Ok tt
  unfolding digests_fit
  count_is = refl

  abbrev info_with : List (List ℕ) → Info
  info_with seeds = record {
    name = codes "load.bin";
    files = load_file ∷ [];
    total = total_of (load_file ∷ []);
    piece_len = 1048576;
    digests = digests_from 64 joined;
    info_hash = info_hash_of bytes inner;
    seeds = seeds;
  }

  abbrev says : Result (List (List ℕ)) MetaErr → Result Info MetaErr
  says seeds = seeds >>= (λ (ss : List (List ℕ)). Ok (info_with ss))

  abbrev made : List (List ℕ) → Result Info MetaErr
  made seeds = Ok (info_with seeds)

  seeds_are : seeds_in whole ≡ Ok load_urls
  unfolding seeds_in seeds_of digits is_utf8 chars encode head_parts ascii_domain parse_special_host rsplit_once
      split_once strip_tabs_and_new_lines trim_c0_control_and_space ends_in_a_number after_double_slash host_len
      leading_slashes parse_authority parse_body parse_port parse_url split_scheme dot_count parse_path_start
      parse_segments push_segment shorten_path default_port scheme_len scheme_type parse_parts percent_decode
      should_percent_encode parse_number
  seeds_are = refl

  said_so : (info : Info) → made load_urls ≡ Ok info → SaysPayload (digests_from 64 joined) info
  said_so info is =
      let same = same_ok (info_with load_urls) info (made load_urls) (Ok info) refl refl is in
      record {
        name = sym (ap (λ (i : Info). i.name) same);
        files = sym (ap (λ (i : Info). i.files) same);
        total = sym (ap (λ (i : Info). i.total) same);
        piece_len = sym (ap (λ (i : Info). i.piece_len) same);
        digests_are = sym (ap (λ (i : Info). i.digests) same);
        seeds = sym (ap (λ (i : Info). i.seeds) same);
      }

  -- all of its steps are done
  reads_all : reading bytes ≡ Ok (load_value joined) → metainfo_of bytes ≡ Ok (info_with load_urls)
  unfolding metainfo_of
  reads_all is =
      step_on (file_of bytes) whole _ (Ok (info_with load_urls)) (file_is is)
      (step_on (info_in whole) inner _ (Ok (info_with load_urls)) info_is
      (step_on (name_in inner) (codes "load.bin") _ (Ok (info_with load_urls)) name_is
      (step_on (piece_len_in inner) 1048576 _ (Ok (info_with load_urls)) piece_len_is
      (step_on (digests_in inner) (digests_from 64 joined) _ (Ok (info_with load_urls)) digests_are
      (step_on (layout_in (codes "load.bin") inner) (load_file ∷ []) _ (Ok (info_with load_urls)) layout_is
      (step_on (plan_fits 67108864 1048576) tt _ (Ok (info_with load_urls)) plan_is
      (step_on (digests_fit (length (digests_from 64 joined)) 64) tt _ (Ok (info_with load_urls)) count_is
      (step_on (seeds_in whole) load_urls _ (Ok (info_with load_urls)) seeds_are refl))))))))

  -- what is read of it
  said : (info : Info) → reading bytes ≡ Ok (load_value joined) → metainfo_of bytes ≡ Ok info
      → SaysPayload (digests_from 64 joined) info
  said info is so = said_so info (sym (reads_all is) ∙ so)

  -- as a call of the reader gives it
  meta_with : Meta
  meta_with = record {
    name = codes "load.bin";
    layout = load_file ∷ [];
    plan = record {
      total = 67108864;
      piece_len = 1048576;
      pieces = 64;
      pieces_are = refl;
      is_plan = record { some = omega arith; piece = omega arith; pieces = omega arith; blocks = omega arith };
      bounded = omega arith;
    };
    digests = digests_from 64 joined;
    info_hash = info_hash_of bytes inner;
    seeds = load_urls;
  }

  meta_read : reading bytes ≡ Ok (load_value joined) → metainfo_of bytes ≡ Ok (info_of meta_with)
  unfolding meta_with
  meta_read is = reads_all is

joined_all : (n : ℕ) → length (digests_joined (digests_of n)) ≡ 1280
joined_all n =
    let many = load_many n in
    let twenty = joined_long (digests_of n) (load_long n) in
    omega (arith, many, twenty)

pub files_read : ((v : Value) (text : List ℕ) → length text < 2 ^ 32 → (reading text ≡ Ok v) ↔ Spells v text)
    → MetainfoFilesAreRead
unfolding metainfo_by
files_read reads n =
    let joined = digests_joined (digests_of n) in
    (meta_with joined (joined_all n), meta_read joined (joined_all n) (read joined (joined_all n) reads))

pub files_say : ((v : Value) (text : List ℕ) → length text < 2 ^ 32 → (reading text ≡ Ok v) ↔ Spells v text)
    → MetainfoFilesSayPayloads
unfolding metainfo_by
files_say reads n info so =
    let joined = digests_joined (digests_of n) in
    let long = joined_all n in
    let many = load_many n in
    let digests : digests_from 64 joined ≡ digests_of n =
    ap (λ count. digests_from count joined) (sym many) ∙ parted (digests_of n) (load_long n) in
    subst (λ ds. SaysPayload ds info) digests (said joined long info (read joined long reads) so)

-- so long is the file
pub file_long : (n : ℕ) → length (metainfo_by (digests_of n)) ≡ 1451
unfolding metainfo_by
file_long n = bytes_many (digests_joined (digests_of n)) (joined_all n)
