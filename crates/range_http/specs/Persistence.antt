-- Whether a connection persists behind a reply (RFC 9112 section 9.3).
use Rattle.std.specs.Prelude.{Bool, not, ◌&&◌, ◌==◌, codes}
use Rattle.http_heads.specs.Fields.{field_names}
use Rattle.http_heads.specs.declared.head.Head.{Head}

-- the reply is HTTP/1.1, and doesn't name the option close
abbrev pub persists : Head → Bool
persists head = (head.minor == 1) && not (field_names head.fields (codes "connection") (codes "close"))
