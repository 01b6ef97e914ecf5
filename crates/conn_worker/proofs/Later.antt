-- The link of a worker goes on.
use Rattle.std.proofs.Common.{◌≡◌, ◌∷◌, ◌++◌, inl, inr, Bool, List, [], refl, sym, ap, subst, arith}
use Rattle.engine_turns.specs.Told.{RunTurn}
use Rattle.engine_turns.specs.declared.operations.Grant.TheVariants as grant
use Rattle.engine_turns.specs.declared.operations.Said.{Said}
use Rattle.engine_turns.specs.declared.operations.Said.TheVariants as said
use Rattle.link_source.specs.Exchanges.{Exchange}
use Rattle.link_source.specs.Link.{LinkState}
use Rattle.request_chain.specs.Chains.{Gains}
use Rattle.conn_worker.specs.Allowed.{IsUsedFor, ReceivesAllowed}
use Rattle.conn_worker.specs.Brought.{IsLaterLink, LinksGoOn}
use Rattle.conn_worker.specs.Facts.{HasUsed}
use Rattle.conn_worker.specs.Hands.{IsHungUp, IsLeftAlone, LinkAt}
use Rattle.conn_worker.proofs.Allowing.{receives_allowed}

gains_on : (a b c xs ys : List Exchange) → Gains a b xs → Gains b c ys → Gains a c (xs ++ ys)
gains_on a b c [] ys first then = subst (λ (l : List Exchange). Gains l c ys) first then
gains_on a b c (x ∷ xs) ys first then = gains_on (x ∷ a) b c xs ys first then

later_same : (tells : Bool) (a : LinkAt) → IsLaterLink tells a a
later_same tells a = record { faults = omega arith; used = []; gained = λ t. refl }

later_on : (tells : Bool) (a b c : LinkAt) → IsLaterLink tells a b → IsLaterLink tells b c → IsLaterLink tells a c
later_on tells a b c first then = record {
  faults = (let one = first.faults in let more = then.faults in omega (arith, one, more));
  used = first.used ++ then.used;
  gained = λ t. gains_on a.state.exchanges b.state.exchanges c.state.exchanges first.used then.used (first.gained t)
      (then.gained t);
}

later_used : (tells : Bool) (a : LinkAt) (used : List Exchange) (b : LinkAt) → HasUsed tells a used b
    → IsLaterLink tells a b
later_used tells a used b has = record { faults = has.later; used = used; gained = has.gained }

later_if_same : (tells : Bool) (a b : LinkAt) → b ≡ a → IsLaterLink tells a b
later_if_same tells a b same = subst (λ (l : LinkAt). IsLaterLink tells a l) (sym same) (later_same tells a)

later_if_hung : (tells : Bool) (a b : LinkAt) → IsHungUp tells a b → IsLaterLink tells a b
later_if_hung tells a b hung = record {
  faults = (let same = hung.faults in omega (arith, same));
  used = [];
  gained = λ t. ap (λ (s : LinkState). s.exchanges) (hung.state t);
}

later_if_alone : (tells : Bool) (a b : LinkAt) → IsLeftAlone tells a b → IsLaterLink tells a b
later_if_alone tells a b (inl same) = later_if_same tells a b same
later_if_alone tells a b (inr hung) = later_if_hung tells a b hung

used_for : (tells : Bool) (answer : Said) (ts : List RunTurn) (a : LinkAt) (used : List Exchange) (b : LinkAt)
    → IsUsedFor tells answer ts a used b → IsLaterLink tells a b
used_for tells (said.Grant (grant.Fetch granted)) ts a used b is = later_used tells a used b is.used_is
used_for tells (said.Grant (grant.Probe claim gid url)) ts a used b is = later_used tells a used b is
used_for tells answer ts a used b is = later_if_alone tells a b is.1

pub receives_later : (tells : Bool) (ts : List RunTurn) (a b : LinkAt) → ReceivesAllowed tells ts a b
    → IsLaterLink tells a b
receives_later tells [] a b is = later_if_same tells a b is
receives_later tells (t ∷ ts) a b is =
    later_on tells a is.1 b (used_for tells t.answer.said ts a is.0 is.1 is.2) (receives_later tells ts is.1 b is.3)

pub links_go_on : LinksGoOn
links_go_on tells worker turns link b end works =
    receives_later tells turns link b.link (receives_allowed tells worker turns link b end works)
