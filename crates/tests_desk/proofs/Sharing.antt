-- What two passes of one desk did, once it is closed.
use Rattle.std.proofs.Common.{◌≡◌, ℕ, List, [], ◌∷◌, ◌++◌, length, refl, ap, sym, ◌∙◌, subst, arith, length-append, append_assoc, Option, Some, slice_get}
use Rattle.turn_desk.specs.declared.served.Served.{Ghosts as ServedSays}
use Rattle.turn_desk.specs.declared.turn.Sight.{Sight}
use Rattle.turn_desk.specs.Turns.{events_of, turns_by}
use Rattle.turn_desk.specs.Sights.{Took}
use Rattle.turn_desk.specs.Passes.{TurnDeskView, PassView, IsNewPass, AreNewPasses, ClosesWith}
use Rattle.turn_desk.specs.Laws.{RankZeroIsFirst}
use Rattle.tests_desk.specs.declared.counter.Counter.{Counter}
use Rattle.tests_desk.specs.Callers.{ops_of}
use Rattle.tests_desk.specs.Shared.{CounterTurn, WorkedOn, SharedOut}

module _ {X : Type 0} where
  last_get : (xs : List X) (x : X) → slice_get (xs ++ x ∷ []) (length xs) ≡ Some x
  last_get [] x = refl
  last_get (y ∷ ys) x = last_get ys x

  front_get : (xs : List X) (x y : X) → slice_get (xs ++ x ∷ y ∷ []) (length xs) ≡ Some x
  front_get [] x y = refl
  front_get (z ∷ zs) x y = front_get zs x y

-- the two passes that were popped, by their numbers
pub popped : (solo : Sight ℕ ℕ (Option ℕ) ℕ) (desk : TurnDeskView ℕ ℕ)
    (all rest rest' : List (PassView ℕ ℕ (Option ℕ) ℕ)) (one two : PassView ℕ ℕ (Option ℕ) ℕ)
    → AreNewPasses solo desk all → length all ≡ 2 → all ≡ rest ++ two ∷ [] → rest ≡ rest' ++ one ∷ []
    → IsNewPass solo desk 0 one × IsNewPass solo desk 1 two
popped solo desk all rest rest' one two new len e e' =
    let n : length rest ≡ 1 = let a = ap length e in let l =
    length-append rest (two ∷ []) in omega (arith, a, l, len) in
    let n' : length rest' ≡ 0 = let a = ap length e' in let l =
    length-append rest' (one ∷ []) in omega (arith, a, l, n) in
    let both : all ≡ rest' ++ one ∷ two ∷ [] = e
    ∙ (ap (λ l. l ++ two ∷ []) e' ∙ append_assoc rest' (one ∷ []) (two ∷ [])) in (
      subst (λ k. IsNewPass solo desk k one) n'
          (new (length rest') one (ap (λ l. slice_get l (length rest')) both ∙ front_get rest' one two)),
      subst (λ k. IsNewPass solo desk k two) n
          (new (length rest) two (ap (λ l. slice_get l (length rest)) e ∙ last_get rest two)),
    )

module _ (says : ServedSays Counter ℕ ℕ (Option ℕ) ℕ) where
  -- the owner's only turn, which is the first of all
  opening_rank : (s s' : Sight ℕ ℕ (Option ℕ) ℕ) (op : ℕ) (answer : Option ℕ)
      → (took : Took says.relates s op answer s') → s.own ≡ [] → s'.seen ≡ s'.own → (s'.own ≡ took.turn ∷ [])
      × (took.turn.rank ≡ 0)
  opening_rank s s' op answer took none alone =
      let own : s'.own ≡ took.turn ∷ [] = took.own ∙ ap (λ l. l ++ took.turn ∷ []) none in
      let n : length ((s.seen ++ took.between) ++ took.turn ∷ []) ≡ 1 = ap length (sym took.seen ∙ (alone ∙ own)) in
      let l = length-append (s.seen ++ took.between) (took.turn ∷ []) in
      let rank = (took.knows.whole (s.seen ++ took.between) took.turn [] took.seen).rank in
      (own, omega (arith, n, l, rank))

  pub shared_out : (s s' : Sight ℕ ℕ (Option ℕ) ℕ) (opening : ℕ) (answer : Option ℕ)
      → Took says.relates s opening answer s' → s.own ≡ [] → s'.seen ≡ s'.own → RankZeroIsFirst says.relates
      → (desk : TurnDeskView ℕ ℕ) (one two one' two' : PassView ℕ ℕ (Option ℕ) ℕ)
      (back : List (PassView ℕ ℕ (Option ℕ) ℕ)) (op op' times : ℕ) (counter : Counter)
      → ((x : Counter) (turns : List CounterTurn) → says.stands x turns → x.log.items ≡ events_of turns)
      → IsNewPass s' desk 0 one → IsNewPass s' desk 1 two → WorkedOn desk one op times one'
      → WorkedOn desk two op' times two' → back ≡ one' ∷ two' ∷ []
      → ClosesWith says desk back counter → SharedOut opening op op' times counter
  shared_out s s' opening answer took none alone zero_first desk one two one' two' back op op' times counter tells f h
      w w' is end =
      let turns = end.0 in
      let closed = end.2 in
      let owner = opening_rank s s' opening answer took none alone in
      let mine : turns_by 0 turns ≡ took.turn ∷ w.mine =
      subst (λ k. turns_by k turns ≡ one'.own) (w.number ∙ f.number_is)
      (closed.own 0 one' (ap (λ l. slice_get l 0) is)).1
      ∙ (w.own ∙ ap (λ l. l ++ w.mine) (f.first refl ∙ owner.0)) in
      let theirs : turns_by 1 turns ≡ w'.mine =
      subst (λ k. turns_by k turns ≡ two'.own) (w'.number ∙ h.number_is)
      (closed.own 1 two' (ap (λ l. slice_get l 1) is)).1
      ∙ (w'.own ∙ ap (λ l. l ++ w'.mine) (h.others (omega arith))) in
      let cut = zero_first desk.given turns 0 took.turn w.mine closed.whole mine owner.1 in record {
        first = took.turn;
        later = cut.0;
        log = tells counter turns end.1.stands_for ∙ ap events_of cut.1;
        opened = took.op_is;
        ones = ap (λ l. ops_of (turns_by 0 l)) (sym cut.1) ∙ (ap ops_of mine ∙ (λ i. took.op_is i ∷ w.ops i));
        twos = ap (λ l. ops_of (turns_by 1 l)) (sym cut.1) ∙ (ap ops_of theirs ∙ w'.ops);
      }
