-- The text of a notice, by its parts.
use Rattle.std.proofs.Common.{◌≡◌, ℕ, List, ◌++◌, ◌∙◌, append_assoc, ap}
use Rattle.std.specs.Prelude.{codes}
use Rattle.std.specs.Int.{w64, to_be_bytes}
use Rattle.hex.specs.Hex.{encode_lower}
use Rattle.machine_core.specs.declared.notices.Notice.{Notice}
use Rattle.console_session.specs.NoticeTexts.{method_of, notice_text}

joined : (a b c d e : List ℕ) → a ++ (b ++ (c ++ (d ++ e))) ≡ a ++ b ++ c ++ d ++ e
joined a b c d e = simp append_assoc

abbrev before : List ℕ
before = codes "{\"jsonrpc\":\"2.0\",\"method\":\""

abbrev between : List ℕ
between = codes "\",\"params\":[{\"gid\":\""

abbrev behind : List ℕ
behind = codes "\"}]}"

pub notice_parts : (notice : Notice) (method gid : List ℕ) → method ≡ method_of notice.kind
    → gid ≡ encode_lower (to_be_bytes w64 notice.gid.0)
    → codes "{\"jsonrpc\":\"2.0\",\"method\":\""
    ++ (method ++ (codes "\",\"params\":[{\"gid\":\"" ++ (gid ++ codes "\"}]}")))
    ≡ notice_text notice
unfolding notice_text
notice_parts notice method gid method_is gid_is =
    joined before method between gid behind
    ∙ (ap (λ (m : List ℕ). before ++ m ++ between ++ gid ++ behind) method_is
    ∙ ap (λ (g : List ℕ). before ++ method_of notice.kind ++ between ++ g ++ behind) gid_is)
