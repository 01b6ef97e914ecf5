-- What is read is a value, and is spelled by the bytes that it was read from.
use Rattle.std.proofs.Common.{◌≡◌, ℕ, zero, suc, ◌+◌, ◌^◌, ◌<◌, ◌≤◌, Bool, true, false, cond, eqb, ltb, ℤ, List, [], ◌∷◌, ◌++◌, length, drop, Option, Some, None, Result, Ok, Err, refl, sym, ◌∙◌, ap, subst, arith, inl, inr, append_assoc}
use Rattle.std.specs.Prelude.{IsTrue}
use Rattle.std.specs.Fmt.{signed_decimal}
use Rattle.std.specs.Char.{is_ascii_digit}
use lib.Signed.{mag}
use Rattle.std.proofs.lemmas.Bool.{cases_Bool, eqb-true, ltb-true}
use Rattle.std.proofs.lemmas.List.{drop_at, length-drop}
use Rattle.bencode_core.specs.Value.{Value, Values, Members, integer, string, list, dict, no_values, value, no_members, member, spelling, spellings, member_spellings, string_spelling, depth, depths, member_depths, IsSound, AreSound, AreMembers, is_behind}
use Rattle.bencode_core.specs.Reading.{◌>>=◌, or_fault, begins, kind_at, integer_at, narrowed, string_at, values_by, key_at, member_by, member_spelling, members_by, integer_value, string_value, list_value, dict_value, value_by, value_at}
use Rattle.bencode_core.specs.declared.ben.BenKind.TheVariants as kinds
use Rattle.bencode_core.specs.declared.fault.BenErr.{BenErr}
use Rattle.bencode_core.specs.declared.fault.BenErr.TheVariants.{Wrong, TooWide}
use Rattle.bencode_core.proofs.Numbers.{some_is, guarded, begins_with}
use Rattle.bencode_core.proofs.Fronts.{integer_takes, string_takes}

-- ---- steps that did not fail

pub bind_ok : {A B : Type 0} (r : Result A BenErr) (f : A → Result B BenErr) (y : B) → (r >>= f) ≡ Ok y → (x : A) × (r ≡ Ok x) × (f x ≡ Ok y)
bind_ok (Ok x) f y e = (x, refl, e)
bind_ok (Err d) f y e = absurd cc

abbrev done : {A : Type 0} → A → Result A BenErr
done x = Ok x

pub ok_is : {A : Type 0} (x y : A) → done x ≡ done y → x ≡ y
ok_is x y e = cc

pub option_ok : {A : Type 0} (fault : BenErr) (o : Option A) (x : A) → or_fault fault o ≡ Ok x → o ≡ Some x
option_ok fault None x e = absurd cc
option_ok fault (Some y) x e = ap Some (ok_is y x e)

pub test_ok : {A : Type 0} (b : Bool) (fault : BenErr) (x y : A) → cond b (Ok x) (Err fault) ≡ Ok y → (b ≡ true) × (x ≡ y)
test_ok true fault x y e = (refl, ok_is x y e)
test_ok false fault x y e = absurd cc

-- ---- a value at the front

pub record Takes (levels : ℕ) (v : Value) (bytes : List ℕ) : Type 0 where
  pub rest : List ℕ
  pub spelled : bytes ≡ spelling v ++ rest
  pub sound : IsSound v
  pub deep : depth v ≤ levels

pub record TakesAll (levels : ℕ) (vs : Values) (bytes : List ℕ) : Type 0 where
  pub rest : List ℕ
  pub spelled : bytes ≡ spellings vs ++ 101 ∷ rest
  pub sound : AreSound vs
  pub deep : depths vs ≤ levels

pub record TakesMember (levels : ℕ) (before : Option (List ℕ)) (m : List ℕ × Value) (bytes : List ℕ) : Type 0 where
  pub rest : List ℕ
  pub spelled : bytes ≡ member_spelling m ++ rest
  pub behind : IsTrue (is_behind before m.0)
  pub sound : IsSound m.1
  pub deep : depth m.1 ≤ levels

pub record TakesMembers (levels : ℕ) (before : Option (List ℕ)) (ms : Members) (bytes : List ℕ) : Type 0 where
  pub rest : List ℕ
  pub spelled : bytes ≡ member_spellings ms ++ 101 ∷ rest
  pub sound : AreMembers before ms
  pub deep : member_depths ms ≤ levels

abbrev pub IsReader : ℕ → (ℕ → List ℕ → Result Value BenErr) → Type 0
IsReader levels one = (place : ℕ) (bytes : List ℕ) (v : Value) → length bytes < 2 ^ 64 → one place bytes ≡ Ok v → Takes levels v bytes

-- what is left is shorter
drop_fits : (n : ℕ) (bytes : List ℕ) → length bytes < 2 ^ 64 → length (drop n bytes) < 2 ^ 64
drop_fits n bytes fits = omega (arith, length-drop n bytes)

module _ (levels : ℕ) (one : ℕ → List ℕ → Result Value BenErr) (reads : IsReader levels one) where
  no_more : (vs : Values) (bytes : List ℕ) → begins 101 bytes ≡ true → no_values ≡ vs → TakesAll levels vs bytes
  no_more vs bytes end is = subst (λ (ws : Values). TakesAll levels ws bytes) is (record { rest = drop 1 bytes; spelled = begins_with 101 bytes end; sound = tt; deep = omega arith })

  one_more : (v : Value) (vs : Values) (bytes : List ℕ) → Takes levels v bytes → TakesAll levels vs (drop (length (spelling v)) bytes) → TakesAll levels (value v vs) bytes
  one_more v vs bytes first others =
      let rest_is : drop (length (spelling v)) bytes ≡ first.rest = rw first.spelled (drop_at (spelling v) first.rest (length (spelling v)) refl) in
      record {
        rest = others.rest;
        spelled = first.spelled ∙ ap (λ (xs : List ℕ). spelling v ++ xs) (sym rest_is ∙ others.spelled) ∙ sym (append_assoc (spelling v) (spellings vs) (101 ∷ others.rest));
        sound = (first.sound, others.sound);
        deep = omega (arith, first.deep, others.deep);
      }

  pub values_take : (turns place : ℕ) (bytes : List ℕ) (vs : Values) → length bytes < 2 ^ 64 → values_by one turns place bytes ≡ Ok vs → TakesAll levels vs bytes
  unfolding values_by
  values_take zero place bytes vs fits is = absurd cc
  values_take (suc turns) place bytes vs fits is =
      elim (cases_Bool (begins 101 bytes)) [
        | inl end ↦ no_more vs bytes end (ok_is no_values vs (rw end at is))
        | inr more ↦
            let a = bind_ok (one place bytes) (λ v. values_by one turns (place + length (spelling v)) (drop (length (spelling v)) bytes) >>= λ ws. Ok (value v ws)) vs (rw more at is) in
            let b = bind_ok (values_by one turns (place + length (spelling a.0)) (drop (length (spelling a.0)) bytes)) (λ ws. Ok (value a.0 ws)) vs a.2 in
            let others = values_take turns (place + length (spelling a.0)) (drop (length (spelling a.0)) bytes) b.0 (drop_fits (length (spelling a.0)) bytes fits) b.1 in
            subst (λ (ws : Values). TakesAll levels ws bytes) {x = value a.0 b.0} (ok_is (value a.0 b.0) vs b.2) (one_more a.0 b.0 bytes (reads place bytes a.0 fits a.1) others)
      ]

  -- ---- members

  pub key_takes : (before : Option (List ℕ)) (place : ℕ) (bytes key : List ℕ) → length bytes < 2 ^ 64 → key_at before place bytes ≡ Ok key → (rest : List ℕ) × (bytes ≡ string_spelling key ++ rest) × IsTrue (is_behind before key)
  unfolding key_at
  key_takes before place bytes key fits is =
      let a = bind_ok (or_fault (Wrong place) (string_at bytes)) (λ s. cond (is_behind before s.0) (Ok s.0) (Err (Wrong place))) key is in
      let t = test_ok (is_behind before a.0.0) (Wrong place) a.0.0 key a.2 in
      let found : string_at bytes ≡ Some (key, a.0.1) = option_ok (Wrong place) (string_at bytes) a.0 a.1 ∙ ap (λ (k : List ℕ). Some (k, a.0.1)) t.1 in
      (a.0.1, string_takes bytes key a.0.1 found fits, ap (is_behind before) (sym t.1) ∙ t.0)

  pub member_takes : (before : Option (List ℕ)) (place : ℕ) (bytes : List ℕ) (m : List ℕ × Value) → length bytes < 2 ^ 64 → member_by one before place bytes ≡ Ok m → TakesMember levels before m bytes
  unfolding member_by
  member_takes before place bytes m fits is =
      let a = bind_ok (key_at before place bytes) (λ key. one (place + length (string_spelling key)) (drop (length (string_spelling key)) bytes) >>= λ v. Ok (key, v)) m is in
      let text = string_spelling a.0 in
      let b = bind_ok (one (place + length text) (drop (length text) bytes)) (λ v. Ok (a.0, v)) m a.2 in
      let key = key_takes before place bytes a.0 fits a.1 in
      let v = reads (place + length text) (drop (length text) bytes) b.0 (drop_fits (length text) bytes fits) b.1 in
      subst (λ (n : List ℕ × Value). TakesMember levels before n bytes) (ok_is (a.0, b.0) m b.2) (both before bytes a.0 b.0 key.0 key.1 key.2 v)
    where
      both : (before : Option (List ℕ)) (bytes key : List ℕ) (v : Value) (rest : List ℕ) → bytes ≡ string_spelling key ++ rest → IsTrue (is_behind before key) → Takes levels v (drop (length (string_spelling key)) bytes) → TakesMember levels before (key, v) bytes
      both before bytes key v rest is behind takes =
          let rest_is : drop (length (string_spelling key)) bytes ≡ rest = rw is (drop_at (string_spelling key) rest (length (string_spelling key)) refl) in
          record {
            rest = takes.rest;
            spelled = is ∙ ap (λ (xs : List ℕ). string_spelling key ++ xs) (sym rest_is ∙ takes.spelled) ∙ sym (append_assoc (string_spelling key) (spelling v) takes.rest);
            behind = behind;
            sound = takes.sound;
            deep = takes.deep;
          }

  no_more_members : (before : Option (List ℕ)) (ms : Members) (bytes : List ℕ) → begins 101 bytes ≡ true → no_members ≡ ms → TakesMembers levels before ms bytes
  no_more_members before ms bytes end is = subst (λ (ns : Members). TakesMembers levels before ns bytes) is (record { rest = drop 1 bytes; spelled = begins_with 101 bytes end; sound = tt; deep = omega arith })

  one_more_member : (before : Option (List ℕ)) (m : List ℕ × Value) (ms : Members) (bytes : List ℕ) → TakesMember levels before m bytes → TakesMembers levels (Some m.0) ms (drop (length (member_spelling m)) bytes) → TakesMembers levels before (member m.0 m.1 ms) bytes
  one_more_member before m ms bytes first others =
      let rest_is : drop (length (member_spelling m)) bytes ≡ first.rest = rw first.spelled (drop_at (member_spelling m) first.rest (length (member_spelling m)) refl) in
      record {
        rest = others.rest;
        spelled = first.spelled ∙ ap (λ (xs : List ℕ). member_spelling m ++ xs) (sym rest_is ∙ others.spelled) ∙ sym (append_assoc (member_spelling m) (member_spellings ms) (101 ∷ others.rest));
        sound = (first.behind, first.sound, others.sound);
        deep = omega (arith, first.deep, others.deep);
      }

  pub members_take : (turns : ℕ) (before : Option (List ℕ)) (place : ℕ) (bytes : List ℕ) (ms : Members) → length bytes < 2 ^ 64 → members_by one turns before place bytes ≡ Ok ms → TakesMembers levels before ms bytes
  unfolding members_by
  members_take zero before place bytes ms fits is = absurd cc
  members_take (suc turns) before place bytes ms fits is =
      elim (cases_Bool (begins 101 bytes)) [
        | inl end ↦ no_more_members before ms bytes end (ok_is no_members ms (rw end at is))
        | inr more ↦
            let a = bind_ok (member_by one before place bytes) (λ m. members_by one turns (Some m.0) (place + length (member_spelling m)) (drop (length (member_spelling m)) bytes) >>= λ ns. Ok (member m.0 m.1 ns)) ms (rw more at is) in
            let len = length (member_spelling a.0) in
            let b = bind_ok (members_by one turns (Some a.0.0) (place + len) (drop len bytes)) (λ ns. Ok (member a.0.0 a.0.1 ns)) ms a.2 in
            let others = members_take turns (Some a.0.0) (place + len) (drop len bytes) b.0 (drop_fits len bytes fits) b.1 in
            subst (λ (ns : Members). TakesMembers levels before ns bytes) {x = member a.0.0 a.0.1 b.0} (ok_is (member a.0.0 a.0.1 b.0) ms b.2) (one_more_member before a.0 b.0 bytes (member_takes before place bytes a.0 fits a.1) others)
      ]

  -- ---- a value of each kind

  integer_made : (i : ℕ) (bytes : List ℕ) (z : ℤ) (rest : List ℕ) → i ≡ 105 → mag z < 2 ^ 63 → bytes ≡ signed_decimal z ++ 101 ∷ rest → Takes (suc levels) (integer z) (i ∷ bytes)
  integer_made i bytes z rest first small is = record {
    rest = rest;
    spelled = rw (first, is) (ap (λ (xs : List ℕ). 105 ∷ xs) (sym (append_assoc (signed_decimal z) (101 ∷ []) rest)));
    sound = record { sfits = small };
    deep = omega arith;
  }

  string_made : (bytes s rest : List ℕ) → bytes ≡ string_spelling s ++ rest → Takes (suc levels) (string s) bytes
  string_made bytes s rest is = record { rest = rest; spelled = is; sound = tt; deep = omega arith }

  list_made : (b : ℕ) (bytes : List ℕ) (vs : Values) → b ≡ 108 → TakesAll levels vs bytes → Takes (suc levels) (list vs) (b ∷ bytes)
  list_made b bytes vs first all = record {
    rest = all.rest;
    spelled = rw (first, all.spelled) (ap (λ (xs : List ℕ). 108 ∷ xs) (sym (append_assoc (spellings vs) (101 ∷ []) all.rest)));
    sound = all.sound;
    deep = omega (arith, all.deep);
  }

  dict_made : (b : ℕ) (bytes : List ℕ) (ms : Members) → b ≡ 100 → TakesMembers levels None ms bytes → Takes (suc levels) (dict ms) (b ∷ bytes)
  dict_made b bytes ms first all = record {
    rest = all.rest;
    spelled = rw (first, all.spelled) (ap (λ (xs : List ℕ). 100 ∷ xs) (sym (append_assoc (member_spellings ms) (101 ∷ []) all.rest)));
    sound = all.sound;
    deep = omega (arith, all.deep);
  }

  integer_kind : (place i : ℕ) (bytes : List ℕ) (v : Value) → i ≡ 105 → value_by one place (i ∷ bytes) (Some kinds.Integer) ≡ Ok v → Takes (suc levels) v (i ∷ bytes)
  unfolding integer_value
  integer_kind place i bytes v first is =
      let a = bind_ok (or_fault (Wrong place) (integer_at (i ∷ bytes))) (λ z. or_fault (TooWide place) (narrowed z.0) >>= λ n. Ok (integer n)) v is in
      let b = bind_ok (or_fault (TooWide place) (narrowed a.0.0)) (λ n. Ok (integer n)) v a.2 in
      let g = guarded (ltb (mag a.0.0) (2 ^ 63)) (Some a.0.0) b.0 (option_ok (TooWide place) (narrowed a.0.0) b.0 b.1) in
      let small : mag a.0.0 < 2 ^ 63 = ltb-true (mag a.0.0) (2 ^ 63) g.0 in
      let t = integer_takes i bytes a.0.0 a.0.1 (option_ok (Wrong place) (integer_at (i ∷ bytes)) a.0 a.1) small in
      let v_is : integer a.0.0 ≡ v = ap integer (some_is a.0.0 b.0 g.1) ∙ ok_is (integer b.0) v b.2 in
      subst (λ (w : Value). Takes (suc levels) w (i ∷ bytes)) v_is (integer_made i bytes a.0.0 a.0.1 first small t)

  string_kind : (place : ℕ) (bytes : List ℕ) (v : Value) → length bytes < 2 ^ 64 → value_by one place bytes (Some kinds.String) ≡ Ok v → Takes (suc levels) v bytes
  unfolding string_value
  string_kind place bytes v fits is =
      let a = bind_ok (or_fault (Wrong place) (string_at bytes)) (λ s. Ok (string s.0)) v is in
      let t = string_takes bytes a.0.0 a.0.1 (option_ok (Wrong place) (string_at bytes) a.0 a.1) fits in
      subst (λ (w : Value). Takes (suc levels) w bytes) (ok_is (string a.0.0) v a.2) (string_made bytes a.0.0 a.0.1 t)

  list_kind : (place b : ℕ) (bytes : List ℕ) (v : Value) → b ≡ 108 → length bytes < 2 ^ 64 → value_by one place (b ∷ bytes) (Some kinds.List) ≡ Ok v → Takes (suc levels) v (b ∷ bytes)
  unfolding list_value
  list_kind place b bytes v first fits is =
      let a = bind_ok (values_by one (length (b ∷ bytes)) (place + 1) bytes) (λ vs. Ok (list vs)) v is in
      let all = values_take (length (b ∷ bytes)) (place + 1) bytes a.0 fits a.1 in
      subst (λ (w : Value). Takes (suc levels) w (b ∷ bytes)) (ok_is (list a.0) v a.2) (list_made b bytes a.0 first all)

  dict_kind : (place b : ℕ) (bytes : List ℕ) (v : Value) → b ≡ 100 → length bytes < 2 ^ 64 → value_by one place (b ∷ bytes) (Some kinds.Dict) ≡ Ok v → Takes (suc levels) v (b ∷ bytes)
  unfolding dict_value
  dict_kind place b bytes v first fits is =
      let a = bind_ok (members_by one (length (b ∷ bytes)) None (place + 1) bytes) (λ ms. Ok (dict ms)) v is in
      let all = members_take (length (b ∷ bytes)) None (place + 1) bytes a.0 fits a.1 in
      subst (λ (w : Value). Takes (suc levels) w (b ∷ bytes)) (ok_is (dict a.0) v a.2) (dict_made b bytes a.0 first all)

  nothing : (place : ℕ) (bytes : List ℕ) (v : Value) → value_by one place bytes None ≡ Ok v → Takes (suc levels) v bytes
  nothing place bytes v is = absurd cc

  kind_value : (place b : ℕ) (bytes : List ℕ) (v : Value) → length (b ∷ bytes) < 2 ^ 64 → value_by one place (b ∷ bytes) (kind_at (b ∷ bytes)) ≡ Ok v → Takes (suc levels) v (b ∷ bytes)
  kind_value place b bytes v fits is =
      elim (cases_Bool (eqb b 105)) [
        | inl i ↦ integer_kind place b bytes v (eqb-true b 105 i) (rw i at is)
        | inr not_i ↦ let is : value_by one place (b ∷ bytes) (cond (eqb b 108) (Some kinds.List) (cond (eqb b 100) (Some kinds.Dict) (cond (is_ascii_digit b) (Some kinds.String) None))) ≡ Ok v = rw not_i at is in
            elim (cases_Bool (eqb b 108)) [
              | inl l ↦ list_kind place b bytes v (eqb-true b 108 l) (omega arith) (rw l at is)
              | inr not_l ↦ let is : value_by one place (b ∷ bytes) (cond (eqb b 100) (Some kinds.Dict) (cond (is_ascii_digit b) (Some kinds.String) None)) ≡ Ok v = rw not_l at is in
                  elim (cases_Bool (eqb b 100)) [
                    | inl d ↦ dict_kind place b bytes v (eqb-true b 100 d) (omega arith) (rw d at is)
                    | inr not_d ↦ let is : value_by one place (b ∷ bytes) (cond (is_ascii_digit b) (Some kinds.String) None) ≡ Ok v = rw not_d at is in
                        elim (cases_Bool (is_ascii_digit b)) [
                          | inl digit ↦ string_kind place (b ∷ bytes) v fits (rw digit at is)
                          | inr not_digit ↦ nothing place (b ∷ bytes) v (rw not_digit at is)
                        ]
                  ]
            ]
      ]

  next_reads : (place : ℕ) (bytes : List ℕ) (v : Value) → length bytes < 2 ^ 64 → value_by one place bytes (kind_at bytes) ≡ Ok v → Takes (suc levels) v bytes
  next_reads place [] v fits is = nothing place [] v is
  next_reads place (b ∷ bytes) v fits is = kind_value place b bytes v fits is

pub value_takes : (levels : ℕ) → IsReader levels (value_at levels)
unfolding value_at
value_takes zero place bytes v fits is = absurd cc
value_takes (suc levels) place bytes v fits is = next_reads levels (value_at levels) (value_takes levels) place bytes v fits is
