-- What a book holds once the messages of some numbers alone are kept.
use Rattle.std.specs.Prelude.{ℕ, List, map}
use Rattle.sip_machine.specs.Texts.{Texts, text_of}

-- the messages with these numbers, in their order
abbrev pub only : List ℕ → Texts → Texts
only numbers texts = map (λ n. (n, text_of texts n)) numbers
