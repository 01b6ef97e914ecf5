-- Whether a connection ends behind the answer to a request (RFC 9112 sections 9.3 and 9.6).
use Rattle.std.specs.Prelude.{Bool, ◌||◌, ◌==◌, codes}
use Rattle.http_heads.specs.declared.ask_head.AskHead.{AskHead}
use Rattle.http_heads.specs.Fields.{field_names}

-- the request is HTTP/1.0, or asks for it
abbrev pub hangs_up : AskHead → Bool
hangs_up head = (head.minor == 0) || field_names head.fields (codes "connection") (codes "close")
