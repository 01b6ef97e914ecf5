-- Requests, read from their ends.
use Rattle.std.proofs.Common.{◌≡◌, ◌≢◌, ℕ, ◌<◌, ◌≤◌, ◌^◌, List, [], ◌∷◌, ◌++◌, arith, refl, ap, sym, ◌∙◌, append_assoc}
use Rattle.std.proofs.lemmas.List.{append_cancel_left, append_cancel_right}
use Rattle.std.specs.Fmt.{decimal}
use Rattle.std.specs.Prelude.{codes}
use Rattle.link_source.proofs.Numbers.{one_number}
use Rattle.link_source.specs.Endpoint.{host_value}
use Rattle.link_source.specs.Reading.{between_of, spelled}
use Rattle.link_source.specs.Requests.{Asks, AsksOnce, ended_line, request_of}

-- no request has these bytes
abbrev pub NoRequest : List ℕ → List ℕ → Type 0
NoRequest between bytes = (target : List ℕ) (first last : ℕ) → first < 2 ^ 64 → last < 2 ^ 64 → bytes ≢ spelled between target first last

pub no_lines : (between bytes : List ℕ) → ((lines : List ℕ) → bytes ≢ lines ++ codes "\r\n\r\n") → NoRequest between bytes
unfolding spelled
no_lines between bytes none target first last _ _ same = none (codes "GET " ++ target ++ between ++ codes "=" ++ decimal first ++ codes "-" ++ decimal last) same

-- what stands before the last number
last_read : (between bytes lines target : List ℕ) (first last : ℕ) → bytes ≡ lines ++ codes "\r\n\r\n" → bytes ≡ spelled between target first last
    → lines ≡ codes "GET " ++ target ++ between ++ codes "=" ++ decimal first ++ 45 ∷ [] ++ decimal last
unfolding spelled
last_read between bytes lines target first last split same = append_cancel_right _ _ (codes "\r\n\r\n") (sym split ∙ same)

pub no_last : (between bytes lines : List ℕ) → bytes ≡ lines ++ codes "\r\n\r\n"
    → ((front : List ℕ) (n : ℕ) → n < 2 ^ 64 → lines ≢ front ++ 45 ∷ [] ++ decimal n) → NoRequest between bytes
no_last between bytes lines split none target first last _ small same =
    none (codes "GET " ++ target ++ between ++ codes "=" ++ decimal first) last small (last_read between bytes lines target first last split same)

first_read : (between bytes lines front target : List ℕ) (read_last first last : ℕ) → bytes ≡ lines ++ codes "\r\n\r\n" → lines ≡ front ++ 45 ∷ [] ++ decimal read_last
    → read_last < 2 ^ 64 → last < 2 ^ 64 → bytes ≡ spelled between target first last
    → (front ≡ codes "GET " ++ target ++ between ++ 61 ∷ [] ++ decimal first) × (read_last ≡ last)
first_read between bytes lines front target read_last first last split split_last small small' same =
    one_number 45 _ _ _ _ (omega arith) small small' (sym split_last ∙ last_read between bytes lines target first last split same)

pub no_first : (between bytes lines front : List ℕ) (read_last : ℕ) → bytes ≡ lines ++ codes "\r\n\r\n" → lines ≡ front ++ 45 ∷ [] ++ decimal read_last → read_last < 2 ^ 64
    → ((before : List ℕ) (n : ℕ) → n < 2 ^ 64 → front ≢ before ++ 61 ∷ [] ++ decimal n) → NoRequest between bytes
no_first between bytes lines front read_last split split_last small none target first last small_first small_last same =
    none (codes "GET " ++ target ++ between) first small_first (first_read between bytes lines front target read_last first last split split_last small small_last same).0

-- the bytes end in an empty line, and before it in two numbers behind their marks
pub record Numbered (bytes front : List ℕ) (first last : ℕ) : Type 0 where
  pub text : bytes ≡ front ++ 61 ∷ [] ++ decimal first ++ 45 ∷ [] ++ decimal last ++ codes "\r\n\r\n"
  pub first_small : first < 2 ^ 64
  pub last_small : last < 2 ^ 64

-- such bytes are read in one way
pub request_read : (between bytes front target : List ℕ) (read_first read_last first last : ℕ) → Numbered bytes front read_first read_last
    → first < 2 ^ 64 → last < 2 ^ 64 → bytes ≡ spelled between target first last
    → (front ≡ codes "GET " ++ target ++ between) × (read_first ≡ first) × (read_last ≡ last)
request_read between bytes front target read_first read_last first last is small_first small_last same =
    let lasts = first_read between bytes _ _ target read_last first last is.text refl is.last_small small_last same in
    let firsts = one_number 61 front (codes "GET " ++ target ++ between) read_first first (omega arith) is.first_small small_first lasts.0 in
    (firsts.0, firsts.1, lasts.1)

pub no_between : (between bytes front : List ℕ) (read_first read_last : ℕ) → Numbered bytes front read_first read_last
    → ((before : List ℕ) → front ≢ before ++ between) → NoRequest between bytes
no_between between bytes front read_first read_last is none target first last small_first small_last same =
    none (codes "GET " ++ target) (request_read between bytes front target read_first read_last first last is small_first small_last same).0

pub no_method : (between bytes front head_line : List ℕ) (read_first read_last : ℕ) → Numbered bytes front read_first read_last → front ≡ head_line ++ between
    → ((target : List ℕ) → head_line ≢ codes "GET " ++ target) → NoRequest between bytes
no_method between bytes front head_line read_first read_last is split none target first last small_first small_last same =
    none target (append_cancel_right _ _ between (sym split ∙ (request_read between bytes front target read_first read_last first last is small_first small_last same).0))

pub is_request : (between bytes front head_line target : List ℕ) (first last : ℕ) → Numbered bytes front first last → front ≡ head_line ++ between → head_line ≡ codes "GET " ++ target
    → bytes ≡ spelled between target first last
unfolding spelled
is_request between bytes front head_line target first last is split method = is.text ∙ cc

spelled_text : (between target : List ℕ) (first last : ℕ) → spelled between target first last ≡ codes "GET " ++ target ++ between ++ 61 ∷ [] ++ decimal first ++ 45 ∷ [] ++ decimal last ++ codes "\r\n\r\n"
unfolding spelled
spelled_text between target first last = refl

-- a request is spelled in one way
pub one_request : (between target target' : List ℕ) (first last first' last' : ℕ) → first < 2 ^ 64 → last < 2 ^ 64 → first' < 2 ^ 64 → last' < 2 ^ 64
    → spelled between target first last ≡ spelled between target' first' last' → (target ≡ target') × (first ≡ first') × (last ≡ last')
one_request between target target' first last first' last' small_first small_last small_first' small_last' same =
    let read = request_read between (spelled between target first last) (codes "GET " ++ target ++ between) target' first last first' last'
    (record { text = spelled_text between target first last; first_small = small_first; last_small = small_last }) small_first' small_last' same in
    (append_cancel_left (codes "GET ") _ _ (append_cancel_right _ _ between read.0), read.1, read.2)

-- what is read from the end
pub numbered : (bytes lines front before : List ℕ) (first last : ℕ) → bytes ≡ lines ++ codes "\r\n\r\n"
    → (lines ≡ front ++ 45 ∷ [] ++ decimal last) × (last < 2 ^ 64) → (front ≡ before ++ 61 ∷ [] ++ decimal first) × (first < 2 ^ 64)
    → Numbered bytes before first last
numbered bytes lines front before first last split lasts firsts = record {
  text = cc;
  first_small = firsts.1;
  last_small = lasts.1;
}

-- the lines of a request, and its text by the places of what varies
regrouped : (get target version line_end name host agent accept encoding range first dash last empty middle mark : List ℕ)
    → middle ++ mark ≡ line_end ++ (agent ++ (accept ++ (encoding ++ range)))
    → ((get ++ target ++ version) ++ line_end) ++ ((name ++ host) ++ line_end) ++ agent ++ accept ++ encoding ++ ((range ++ first ++ dash ++ last) ++ line_end) ++ empty
    ≡ get ++ target ++ (version ++ (line_end ++ name) ++ (host ++ middle)) ++ mark ++ first ++ dash ++ last ++ (line_end ++ empty)
regrouped get target version line_end name host agent accept encoding range first dash last empty middle mark same =
    let rest : List ℕ = first ++ (dash ++ (last ++ (line_end ++ empty))) in
    let moved : middle ++ (mark ++ rest) ≡ line_end ++ (agent ++ (accept ++ (encoding ++ (range ++ rest))))
    = sym (append_assoc middle mark rest) ∙ ap (λ l. l ++ rest) same ∙ simp append_assoc in
    simp append_assoc (ap (λ l. get ++ (target ++ (version ++ (line_end ++ (name ++ (host ++ l)))))) (sym moved))

request_spelled : (host target : List ℕ) (first last : ℕ) → request_of host target first last ≡ spelled (between_of host) target first last
unfolding request_of spelled between_of
request_spelled host target first last =
    regrouped (codes "GET ") target (codes " HTTP/1.1") (codes "\r\n") (codes "Host: ") host
    (ended_line (codes "User-Agent: aria_cli")) (ended_line (codes "Accept: */*")) (ended_line (codes "Accept-Encoding: identity"))
    (codes "Range: bytes=") (decimal first) (codes "-") (decimal last) (ended_line [])
    (codes "\r\nUser-Agent: aria_cli\r\nAccept: */*\r\nAccept-Encoding: identity\r\nRange: bytes") (codes "=") refl

pub asks_read : (host : List ℕ) (port : ℕ) (between bytes target : List ℕ) (first last : ℕ) → between ≡ between_of (host_value host port)
    → bytes ≡ spelled between target first last → first ≤ last → last < 2 ^ 64 → Asks host port target first last bytes
asks_read host port between bytes target first last is_between spelling ordered bounded = record {
  text = spelling ∙ ap (λ b. spelled b target first last) is_between ∙ sym (request_spelled (host_value host port) target first last);
  ordered = ordered;
  bounded = bounded;
}

-- what is asked is spelled so
pub asks_spelled : (host : List ℕ) (port : ℕ) (between bytes target : List ℕ) (first last : ℕ) → between ≡ between_of (host_value host port)
    → Asks host port target first last bytes → bytes ≡ spelled between target first last
asks_spelled host port between bytes target first last is_between asks =
    asks.text ∙ request_spelled (host_value host port) target first last ∙ ap (λ b. spelled b target first last) (sym is_between)

pub asks_once : AsksOnce
asks_once host port bytes target other_target first last other_first other_last asks others =
    one_request (between_of (host_value host port)) target other_target first last other_first other_last
    (let ordered : first ≤ last = asks.ordered in let bounded : last < 2 ^ 64 = asks.bounded in omega arith) asks.bounded
    (let ordered : other_first ≤ other_last = others.ordered in let bounded : other_last < 2 ^ 64 = others.bounded in omega arith) others.bounded
    (sym (asks_spelled host port (between_of (host_value host port)) bytes target first last refl asks)
    ∙ asks_spelled host port (between_of (host_value host port)) bytes other_target other_first other_last refl others)
