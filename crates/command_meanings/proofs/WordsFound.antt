-- What a parse of a mode's words holds, and the words.
use Rattle.std.proofs.Common.{◌≡◌, ℕ, List, [], Option, Some, None, Result, Ok, Err, IfOk, MatchOption, refl, sym, ap, subst}
use Rattle.clap.specs.Faults.{fault_of}
use Rattle.clap.specs.Simple.{HasMatchesOf}
use Rattle.clap.specs.Walk.{first_of}
use Rattle.clap.specs.declared.parser.matches.ArgMatches.{ArgMatches}
use Rattle.std.specs.Prelude.{codes}
use Rattle.std.proofs.Common.{◌∙◌}
use Rattle.command_line.proofs.Parsed.{first_is}
use Rattle.command_meanings.specs.Modes.{AreCheckTexts, AreCheckWords, AreServeTexts, AreServeWords, IsFoundCheck, IsFoundServe, check_app, check_text, found_text, serve_app, serve_text}
use Rattle.command_meanings.specs.declared.modes.CheckLine.{CheckLine}
use Rattle.command_meanings.specs.declared.modes.ServeLine.{ServeLine}

serve_is : (m : ArgMatches) (words : List (List ℕ)) (name : List ℕ) → HasMatchesOf serve_app words m
    → found_text m name ≡ serve_text words name
serve_is m words name has = first_is m name ∙ ap (first_of name) (has refl).0

check_is : (m : ArgMatches) (words : List (List ℕ)) (name : List ℕ) → HasMatchesOf check_app words m
    → found_text m name ≡ check_text words name
check_is m words name has = first_is m name ∙ ap (first_of name) (has refl).0

by_texts : (a b c d : Option (List ℕ)) (line : ServeLine) → a ≡ c → b ≡ d → AreServeTexts a b line → AreServeTexts c d line
by_texts a b c d line one other are =
    subst (λ (t : Option (List ℕ)). AreServeTexts t d line) one (subst (λ (t : Option (List ℕ)). AreServeTexts a t line) other are)

by_check_texts : (a b c d e f : Option (List ℕ)) (line : CheckLine) → a ≡ d → b ≡ e → c ≡ f → AreCheckTexts a b c line
    → AreCheckTexts d e f line
by_check_texts a b c d e f line one other third are =
    subst (λ (t : Option (List ℕ)). AreCheckTexts t e f line) one
    (subst (λ (t : Option (List ℕ)). AreCheckTexts a t f line) other
    (subst (λ (t : Option (List ℕ)). AreCheckTexts a b t line) third are))

serve_from : (m : ArgMatches) (words : List (List ℕ)) (line : ServeLine) → HasMatchesOf serve_app words m
    → fault_of serve_app words ≡ [] → IsFoundServe m line → AreServeWords words line
serve_from m words line has free found = record {
  command = free;
  texts = by_texts _ _ _ _ line (serve_is m words (codes "serve-dir") has) (serve_is m words (codes "rpc-listen-port") has)
      found;
}

serve_to : (m : ArgMatches) (words : List (List ℕ)) (line : ServeLine) → HasMatchesOf serve_app words m
    → AreServeWords words line → IsFoundServe m line
serve_to m words line has are = by_texts _ _ _ _ line (sym (serve_is m words (codes "serve-dir") has))
    (sym (serve_is m words (codes "rpc-listen-port") has)) are.texts

check_from : (m : ArgMatches) (words : List (List ℕ)) (line : CheckLine) → HasMatchesOf check_app words m
    → fault_of check_app words ≡ [] → IsFoundCheck m line → AreCheckWords words line
check_from m words line has free found = record {
  command = free;
  texts = by_check_texts _ _ _ _ _ _ line (check_is m words (codes "verify-v2") has) (check_is m words (codes "dir") has)
      (check_is m words (codes "copy-dir") has) found;
}

check_to : (m : ArgMatches) (words : List (List ℕ)) (line : CheckLine) → HasMatchesOf check_app words m
    → AreCheckWords words line → IsFoundCheck m line
check_to m words line has are = by_check_texts _ _ _ _ _ _ line (sym (check_is m words (codes "verify-v2") has))
    (sym (check_is m words (codes "dir") has)) (sym (check_is m words (codes "copy-dir") has)) are.texts

serve_by : (m : ArgMatches) (words : List (List ℕ)) (found : Option ServeLine) → HasMatchesOf serve_app words m
    → fault_of serve_app words ≡ []
    → MatchOption found ((line : ServeLine) → IsFoundServe m line → ⊥) (IsFoundServe m)
    → MatchOption found ((line : ServeLine) → AreServeWords words line → ⊥) (AreServeWords words)
serve_by m words None has free none = λ line are. none line (serve_to m words line has are)
serve_by m words (Some line) has free found = serve_from m words line has free found

check_by : (m : ArgMatches) (words : List (List ℕ)) (found : Option CheckLine) → HasMatchesOf check_app words m
    → fault_of check_app words ≡ []
    → MatchOption found ((line : CheckLine) → IsFoundCheck m line → ⊥) (IsFoundCheck m)
    → MatchOption found ((line : CheckLine) → AreCheckWords words line → ⊥) (AreCheckWords words)
check_by m words None has free none = λ line are. none line (check_to m words line has are)
check_by m words (Some line) has free found = check_from m words line has free found

pub serve_read : {E : Type 0} (m : ArgMatches) (words : List (List ℕ)) (result : Result (Option ServeLine) E)
    → HasMatchesOf serve_app words m → fault_of serve_app words ≡ []
    → IfOk result (λ found. MatchOption found ((line : ServeLine) → IsFoundServe m line → ⊥) (IsFoundServe m))
    → IfOk result (λ found. MatchOption found ((line : ServeLine) → AreServeWords words line → ⊥) (AreServeWords words))
serve_read m words (Ok found) has free holds = serve_by m words found has free holds
serve_read m words (Err e) has free holds = holds

pub check_read : {E : Type 0} (m : ArgMatches) (words : List (List ℕ)) (result : Result (Option CheckLine) E)
    → HasMatchesOf check_app words m → fault_of check_app words ≡ []
    → IfOk result (λ found. MatchOption found ((line : CheckLine) → IsFoundCheck m line → ⊥) (IsFoundCheck m))
    → IfOk result (λ found. MatchOption found ((line : CheckLine) → AreCheckWords words line → ⊥) (AreCheckWords words))
check_read m words (Ok found) has free holds = check_by m words found has free holds
check_read m words (Err e) has free holds = holds
