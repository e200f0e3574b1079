-- Texts compared but for their blanks.
use Rattle.std.specs.Prelude.{ℕ, not, List, filter}
use Rattle.sip_standard.specs.Field.{is_lws_byte}

-- the text without its blanks, wherever they stand
abbrev pub solid : List ℕ → List ℕ
solid text = filter (λ byte. not (is_lws_byte byte)) text
