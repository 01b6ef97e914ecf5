-- Mirrors in memory as they are found and as they answer.
use Rattle.std.proofs.Common.{◌≡◌, ◌⊎◌, inl, inr, ◌==◌, ◌&&◌, ◌∙◌, Bool, true, false, cond, not, ℕ, ◌+◌, List, [], ◌∷◌, Option, Some, None, MatchOption, length, ap, sym, refl, subst, map}
use Rattle.std.proofs.lemmas.List.{length-map}
use Rattle.std.proofs.lemmas.Option.{none-some}
use Rattle.std.specs.List.{find, position, position_or_len, prefix_len}
use Rattle.std.specs.Option.{option_map, option_map_or, option_and_then}
use Rattle.std.specs.Prelude.{◌↔◌, is_some, IsTrue, nat_lt}
use Rattle.std.specs.Str.{bytes_eq}
use Rattle.link_source.proofs.Reading.{asks_once}
use Rattle.link_source.specs.BadAnswers.{IsUsed, next_bad}
use Rattle.link_source.specs.Files.{MemFile, file_of, placed_file_of}
use Rattle.link_source.specs.Memory.{mirror_of, mirrors_of, contents_of, stored_at, UsesNext, GivesText}
use Rattle.link_source.specs.Mirrors.{Mirror, file_at, UsesBadAnswer, bad_at, mirror_at, mirror_reply, reply_by, reply_of}
use Rattle.link_source.specs.Replies.{bare_reply, text_under}
use Rattle.link_source.specs.Requests.{Asks}
use Rattle.link_source.specs.declared.bad_answers.Bad.{Bad}
use Rattle.link_source.specs.declared.mirrors.MemFile as code
use Rattle.link_source.specs.declared.mirrors.MemMirror.{MemMirror}

-- ---- the same mirror by its value

find-map : {X Y : Type 0} (f : X → Y) (test : Y → Bool) (xs : List X) → find test (map f xs) ≡ option_map f (find (λ x. test (f x)) xs)
find-map f test [] = refl
find-map f test (x ∷ xs) =
    elim (test (f x)) as (λ b. cond b (Some (f x)) (find test (map f xs)) ≡ option_map f (cond b (Some x) (find (λ y. test (f y)) xs)))
    [ true ↦ refl | false ↦ find-map f test xs ]

prefix_len-map : {X Y : Type 0} (f : X → Y) (test : Y → Bool) (xs : List X) → prefix_len test (map f xs) ≡ prefix_len (λ x. test (f x)) xs
prefix_len-map f test [] = refl
prefix_len-map f test (x ∷ xs) = ap (λ n. cond (test (f x)) (1 + n) 0) (prefix_len-map f test xs)

position-map : {X Y : Type 0} (f : X → Y) (test : Y → Bool) (xs : List X) → position test (map f xs) ≡ position (λ x. test (f x)) xs
position-map f test xs =
    ap (λ n. cond (nat_lt n (length (map f xs))) (Some n) None) (prefix_len-map f (λ y. not (test y)) xs)
    ∙ ap (λ n. cond (nat_lt (position_or_len (λ x. test (f x)) xs) n) (Some (position_or_len (λ x. test (f x)) xs)) None) (length-map xs f)

pub some_map : {X Y : Type 0} (f : X → Y) (found : Option X) → is_some (option_map f found) ≡ is_some found
some_map f None = refl
some_map f (Some x) = refl

-- a mirror is unknown by its value exactly where it isn't found
pub unknown_by : (mirrors : List MemMirror) (host : List ℕ) (port : ℕ) (found : Option MemMirror) (none : Bool) → is_some found ≡ not none
    → found ≡ find (λ mirror. (mirror.port == port) && bytes_eq mirror.host host) mirrors
    → IsTrue none ↔ (mirror_at (mirrors_of mirrors) host port ≡ None)
unknown_by mirrors host port found none test is = nowhere found none (mirror_at (mirrors_of mirrors) host port) test
    (find-map mirror_of (λ (mirror : Mirror). (mirror.port == port) && bytes_eq mirror.host host) mirrors ∙ ap (option_map mirror_of) (sym is))
  where
    nowhere : (found : Option MemMirror) (none : Bool) (at : Option Mirror) → is_some found ≡ not none → at ≡ option_map mirror_of found → IsTrue none ↔ (at ≡ None)
    nowhere None true at test same = (λ none. same, λ none. refl)
    nowhere None false at test same = absurd cc
    nowhere (Some mirror) true at test same = absurd cc
    nowhere (Some mirror) false at test same = (λ none. cc, λ none. absurd (none-some (mirror_of mirror) (sym none ∙ same)))

-- what stands at a host and a port replies
pub replies : (mirrors : List MemMirror) (host : List ℕ) (port : ℕ) (found : Option MemMirror) (target : List ℕ) (first last : ℕ)
    → found ≡ find (λ mirror. (mirror.port == port) && bytes_eq mirror.host host) mirrors
    → reply_of (contents_of mirrors [] []) host port target first last ≡ option_map_or (λ mirror. mirror_reply (mirror_of mirror) target first last) found (bare_reply [])
replies mirrors host port found target first last is =
    ap (λ (at : Option Mirror). option_map_or (λ mirror. mirror_reply mirror target first last) at (bare_reply []))
    (find-map mirror_of (λ (mirror : Mirror). (mirror.port == port) && bytes_eq mirror.host host) mirrors ∙ ap (option_map mirror_of) (sym is))
    ∙ mapped found
  where
    mapped : (at : Option MemMirror) → option_map_or (λ mirror. mirror_reply mirror target first last) (option_map mirror_of at) (bare_reply [])
        ≡ option_map_or (λ mirror. mirror_reply (mirror_of mirror) target first last) at (bare_reply [])
    mapped None = refl
    mapped (Some mirror) = refl

-- the same file by its value
pub stored : (files : List (List ℕ × code.MemFile)) (target : List ℕ) (found : Option code.MemFile) → found ≡ stored_at files target
    → file_at (map placed_file_of files) target ≡ option_map file_of found
stored files target found is =
    ap (option_map (λ (file : List ℕ × MemFile). file.1)) (find-map placed_file_of (λ (file : List ℕ × MemFile). bytes_eq file.0 target) files)
    ∙ turned (find (λ file. bytes_eq file.0 target) files)
    ∙ ap (option_map file_of) (sym is)
  where
    turned : (at : Option (List ℕ × code.MemFile))
        → option_map (λ (file : List ℕ × MemFile). file.1) (option_map placed_file_of at) ≡ option_map file_of (option_map (λ file. file.1) at)
    turned None = refl
    turned (Some file) = refl

-- and what is replied of it
pub replies_by : (mirror : MemMirror) (target : List ℕ) (found : Option code.MemFile) (first last : ℕ) → found ≡ stored_at mirror.files.items target
    → mirror_reply (mirror_of mirror) target first last ≡ reply_by mirror.manner (option_map file_of found) first last
replies_by mirror target found first last is = ap (λ file. reply_by mirror.manner file first last) (stored mirror.files.items target found is)

-- ---- the bad answer that is used

one_used : (number : Option ℕ) (left used new_left new_used : List Bad) (bad : Bad) → option_and_then (next_bad left) number ≡ Some bad
    → UsesNext number left used new_left new_used → IsUsed left used bad new_left new_used
one_used None left used new_left new_used bad is uses = absurd (none-some bad is)
one_used (Some mirror) left used new_left new_used bad is uses =
    subst (λ (next : Option Bad). MatchOption next ((new_left ≡ left) × (new_used ≡ used)) (λ b. IsUsed left used b new_left new_used)) is uses

none_used : (number : Option ℕ) (left used new_left new_used : List Bad) → option_and_then (next_bad left) number ≡ None
    → UsesNext number left used new_left new_used → (new_left ≡ left) × (new_used ≡ used)
none_used None left used new_left new_used is uses = uses
none_used (Some mirror) left used new_left new_used is uses =
    subst (λ (next : Option Bad). MatchOption next ((new_left ≡ left) × (new_used ≡ used)) (λ b. IsUsed left used b new_left new_used)) is uses

same_content : (mirrors : List MemMirror) (left used new_left new_used : List Bad) → (new_left ≡ left) × (new_used ≡ used)
    → contents_of mirrors new_left new_used ≡ contents_of mirrors left used
same_content mirrors left used new_left new_used (lefts, useds) =
    ap (λ l. contents_of mirrors l new_used) lefts ∙ ap (contents_of mirrors left) useds

-- the next bad answer of the mirror of this number is used, or there is none and nothing is
effect_of : (mirrors : List MemMirror) (left used new_left new_used : List Bad) (host : List ℕ) (port : ℕ) (number : Option ℕ) (next : Option Bad)
    → bad_at (contents_of mirrors left used) host port ≡ option_and_then (next_bad left) number → option_and_then (next_bad left) number ≡ next
    → UsesNext number left used new_left new_used
    → (contents_of mirrors new_left new_used ≡ contents_of mirrors left used)
    ⊎ UsesBadAnswer (contents_of mirrors left used) host port (contents_of mirrors new_left new_used)
effect_of mirrors left used new_left new_used host port number None there is uses =
    inl (same_content mirrors left used new_left new_used (none_used number left used new_left new_used is uses))
effect_of mirrors left used new_left new_used host port number (Some bad) there is uses =
    inr (record { bad = bad; next = there ∙ is; used = one_used number left used new_left new_used bad is uses; mirrors_stay = refl })

-- ---- the answers

-- to a request
pub answered : (mirrors : List MemMirror) (left used : List Bad) (host : List ℕ) (port : ℕ) (bytes target text : List ℕ) (first last : ℕ)
    (number : Option ℕ) (next : Option Bad) → Asks host port target first last bytes
    → number ≡ position (λ mirror. (mirror.port == port) && bytes_eq mirror.host host) mirrors
    → next ≡ option_and_then (next_bad left) number
    → text ≡ text_under next (reply_of (contents_of mirrors [] []) host port target first last)
    → GivesText mirrors left used host port bytes text number
answered mirrors left used host port bytes target text first last number next asks number_is next_is text_is new_left new_used uses =
    let old = contents_of mirrors left used in
    let there : bad_at old host port ≡ option_and_then (next_bad left) number =
    ap (option_and_then (next_bad left)) (position-map mirror_of (λ (mirror : Mirror). (mirror.port == port) && bytes_eq mirror.host host) mirrors ∙ sym number_is) in
    record {
      asked = λ other_target other_first other_last _ others.
          let same = asks_once host port bytes target other_target first last other_first other_last asks others in
          text_is ∙ ap (λ bad. text_under bad (reply_of old host port target first last)) (next_is ∙ sym there)
          ∙ ap (λ t. text_under (bad_at old host port) (reply_of old host port t first last)) same.0
          ∙ ap (λ f. text_under (bad_at old host port) (reply_of old host port other_target f last)) same.1
          ∙ ap (λ l. text_under (bad_at old host port) (reply_of old host port other_target other_first l)) same.2;
      used = λ _ _ _ bad _ _ is. one_used number left used new_left new_used bad (sym there ∙ is) uses;
      other = λ _ never. absurd (never target first last asks);
      effect = effect_of mirrors left used new_left new_used host port number _ there refl uses;
    }

-- and to anything else
pub unanswered : (mirrors : List MemMirror) (left used : List Bad) (host : List ℕ) (port : ℕ) (bytes : List ℕ)
    → ((target : List ℕ) (first last : ℕ) → Asks host port target first last bytes → ⊥) → GivesText mirrors left used host port bytes [] None
unanswered mirrors left used host port bytes never new_left new_used uses = record {
  asked = λ target first last _ asks. absurd (never target first last asks);
  used = λ target first last _ _ asks _. absurd (never target first last asks);
  other = λ _ _. (refl, same_content mirrors left used new_left new_used uses);
  effect = inl (same_content mirrors left used new_left new_used uses);
}
