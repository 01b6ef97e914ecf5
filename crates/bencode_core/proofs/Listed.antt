-- The loop that lists the members of a dictionary.
use Rattle.std.proofs.Common.{◌≡◌, ℕ, ◌+◌, ◌-◌, ◌^◌, ◌<◌, ◌≤◌, true, false, List, [], ◌∷◌, ◌++◌, length, drop, Option, Some, None, refl, sym, ◌∙◌, ap, subst, arith, append_assoc}
use Rattle.std.proofs.lemmas.List.{append-nil, drop_at, length-append, length-drop}
use Rattle.bencode_core.specs.Value.{Value, Members, AreMembers, Spells, member, no_members, integer, string, list, dict, spelling, member_spellings, string_spelling, member_depths}
use Rattle.bencode_core.specs.Placed.{Placed, members_of, placed_members}
use Rattle.bencode_core.specs.Reading.{begins, string_at}
use Rattle.bencode_core.specs.Slice.{spelled_value, IsSlice, IsFront, placed_at}
use Rattle.bencode_core.proofs.Numbers.{some_is}
use Rattle.bencode_core.proofs.Fronts.{first_is, string_again}
use Rattle.bencode_core.proofs.Again.{string_fits, spelling_some}
use Rattle.bencode_core.proofs.Sliced.{no_members_at, no_text, begins_text}

-- the members that are listed, and those that are left
pub record ListedLeft (whole : Placed) (listed : List (List ℕ × Placed)) (next : ℕ) (rest : List ℕ) : Type 0 where
  pub left : Members
  pub before : Option (List ℕ)
  pub sound : AreMembers before left
  pub deep : member_depths left < 100
  pub spelled : rest ≡ member_spellings left ++ 101 ∷ []
  pub total : listed ++ placed_members next left ≡ members_of whole
  pub ends : next + length rest < 2 ^ 32

listed_open : (place : ℕ) (v : Value) (bytes : List ℕ) → Spells v bytes → begins 100 bytes ≡ true → place + length bytes < 2 ^ 32 → ListedLeft (placed_at place v) [] (place + 1) (drop 1 bytes)
listed_open place (integer z) bytes spells opened fits = let bad : false ≡ true = sym (ap (begins 100) spells.spelled) ∙ opened in absurd cc
listed_open place (string s) bytes spells opened fits = let bad : false ≡ true = sym (begins_text 100 s bytes refl spells) ∙ opened in absurd cc
listed_open place (list vs) bytes spells opened fits = let bad : false ≡ true = sym (ap (begins 100) spells.spelled) ∙ opened in absurd cc
listed_open place (dict ms) bytes spells opened fits =
    let text : drop 1 bytes ≡ member_spellings ms ++ 101 ∷ [] = ap (drop 1) spells.spelled in
    record {
      left = ms;
      before = None;
      sound = spells.is_value.sound;
      deep = omega (arith, spells.is_value.depth);
      spelled = text;
      total = refl;
      ends = omega (arith, fits, length-drop 1 bytes, ap length spells.spelled, length-append (member_spellings ms) (101 ∷ []));
    }

pub listed_start : (place : ℕ) (bytes : List ℕ) (whole : Placed) → IsSlice place bytes → placed_at place (spelled_value bytes) ≡ whole → begins 100 bytes ≡ true → ListedLeft whole [] (place + 1) (drop 1 bytes)
listed_start place bytes whole slice is opened = subst (λ (p : Placed). ListedLeft p [] (place + 1) (drop 1 bytes)) is (listed_open place (spelled_value bytes) bytes slice.spells opened slice.fits)

pub none_listed : (place : ℕ) (bytes : List ℕ) (whole : Placed) → IsSlice place bytes → placed_at place (spelled_value bytes) ≡ whole → begins 100 bytes ≡ false → [] ≡ members_of whole
none_listed place bytes whole slice is other = subst (λ (p : Placed). [] ≡ members_of p) is (sym (no_members_at place (spelled_value bytes) bytes slice.spells other))

-- the next member, whose key is the text, and what is left behind it
pub record NextListed (whole : Placed) (listed : List (List ℕ × Placed)) (next : ℕ) (rest text behind_text : List ℕ) : Type 0 where
  pub v : Value
  pub behind : List ℕ
  pub at : IsFront v behind behind_text
  pub len : length rest ≡ length (string_spelling text) + length behind_text
  pub more : ListedLeft whole (listed ++ (text, placed_at (next + length (string_spelling text)) v) ∷ []) (next + length (string_spelling text) + length (spelling v)) (drop (length (spelling v)) behind_text)
  pub fits : (0 < length (spelling v)) × (length (spelling v) ≤ length behind_text)

pub next_listed : (whole : Placed) (listed : List (List ℕ × Placed)) (next : ℕ) (rest text behind_text : List ℕ) → string_at rest ≡ Some (text, behind_text) → ListedLeft whole listed next rest → NextListed whole listed next rest text behind_text
next_listed whole listed next rest text behind_text found so_far = by so_far.left so_far.before so_far.sound so_far.deep so_far.spelled so_far.total
  where
    by : (left : Members) (before : Option (List ℕ)) → AreMembers before left → member_depths left < 100 → rest ≡ member_spellings left ++ 101 ∷ [] → listed ++ placed_members next left ≡ members_of whole → NextListed whole listed next rest text behind_text
    by no_members before sound deep spelled total = let bad : ◌≡◌ {A = Option (List ℕ × List ℕ)} None (Some (text, behind_text)) = sym (ap string_at spelled ∙ no_text) ∙ found in absurd cc
    by (member k v ms) before sound deep spelled total =
        let behind = member_spellings ms ++ 101 ∷ [] in
        let grouped : rest ≡ string_spelling k ++ (spelling v ++ behind) = spelled ∙ simp append_assoc in
        let len = ap length grouped ∙ length-append (string_spelling k) (spelling v ++ behind) in
        let value_len = length-append (spelling v) behind in
        let both = first_is k text (spelling v ++ behind) behind_text (some_is _ _ (sym (ap string_at grouped ∙ string_again k (spelling v ++ behind) (omega (arith, string_fits k, len, so_far.ends))) ∙ found)) in
        let at = next + length (string_spelling k) in
        subst (λ (t : List ℕ). NextListed whole listed next rest t behind_text) both.0
        (subst (λ (b : List ℕ). NextListed whole listed next rest k b) both.1
        (record {
          v = v;
          behind = behind;
          at = record { is_value = record { sound = sound.1; depth = omega (arith, deep); short = omega (arith, len, value_len, so_far.ends) }; spelled = refl };
          len = len;
          more = record {
            left = ms;
            before = Some k;
            sound = sound.2;
            deep = omega (arith, deep);
            spelled = drop_at (spelling v) behind (length (spelling v)) refl;
            total = append_assoc listed ((k, placed_at at v) ∷ []) (placed_members (at + length (spelling v)) ms) ∙ total;
            ends = omega (arith, len, value_len, so_far.ends, length-drop (length (spelling v)) (spelling v ++ behind));
          };
          fits = (spelling_some v, omega (arith, value_len));
        }))

pub listed_end : (whole : Placed) (listed : List (List ℕ × Placed)) (next : ℕ) (rest : List ℕ) → string_at rest ≡ None → ListedLeft whole listed next rest → listed ≡ members_of whole
listed_end whole listed next rest none so_far = by so_far.left so_far.spelled so_far.total
  where
    by : (left : Members) → rest ≡ member_spellings left ++ 101 ∷ [] → listed ++ placed_members next left ≡ members_of whole → listed ≡ members_of whole
    by no_members spelled total = sym (append-nil listed) ∙ total
    by (member k v ms) spelled total =
        let behind = member_spellings ms ++ 101 ∷ [] in
        let grouped : rest ≡ string_spelling k ++ (spelling v ++ behind) = spelled ∙ simp append_assoc in
        let len = ap length grouped ∙ length-append (string_spelling k) (spelling v ++ behind) in
        let bad : ◌≡◌ {A = Option (List ℕ × List ℕ)} None (Some (k, spelling v ++ behind)) = sym none ∙ ap string_at grouped ∙ string_again k (spelling v ++ behind) (omega (arith, string_fits k, len, so_far.ends)) in
        absurd cc

-- what the code found behind the text
pub record FoundListed (whole : Placed) (listed : List (List ℕ × Placed)) (rest text behind_text : List ℕ) (found : Placed) (at end : ℕ) : Type 0 where
  pub more : ListedLeft whole (listed ++ (text, found) ∷ []) end (drop (end - at) behind_text)
  pub behind : at < end
  pub fits : end ≤ at + length behind_text

pub found_listed : (whole : Placed) (listed : List (List ℕ × Placed)) (next : ℕ) (rest text behind_text : List ℕ) (found : Placed) (at : ℕ) (span : ℕ × ℕ) (n : NextListed whole listed next rest text behind_text) → at ≡ next + (length rest - length behind_text) → found ≡ placed_at at n.v → span ≡ (found.place, found.place + length (spelling found.value)) → FoundListed whole listed rest text behind_text found at span.1
found_listed whole listed next rest text behind_text found at span n at_is is spanned =
    let behind : next + length (string_spelling text) ≡ at = omega (arith, at_is, n.len) in
    let end : span.1 ≡ at + length (spelling n.v) = ap (λ (s : ℕ × ℕ). s.1) spanned ∙ ap (λ (p : Placed). p.place + length (spelling p.value)) is in
    let len : span.1 - at ≡ length (spelling n.v) = omega (arith, end) in
    let here : placed_at (next + length (string_spelling text)) n.v ≡ found = ap (λ (k : ℕ). placed_at k n.v) behind ∙ sym is in
    record {
      more =
          subst (λ (k : ℕ). ListedLeft whole (listed ++ (text, found) ∷ []) span.1 (drop k behind_text)) (sym len)
          (subst (λ (k : ℕ). ListedLeft whole (listed ++ (text, found) ∷ []) k (drop (length (spelling n.v)) behind_text)) (ap (λ (k : ℕ). k + length (spelling n.v)) behind ∙ sym end)
          (subst (λ (p : Placed). ListedLeft whole (listed ++ (text, p) ∷ []) (next + length (string_spelling text) + length (spelling n.v)) (drop (length (spelling n.v)) behind_text)) here n.more));
      behind = omega (arith, end, n.fits.0);
      fits = omega (arith, end, n.fits.1);
    }
