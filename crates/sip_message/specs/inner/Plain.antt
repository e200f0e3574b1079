-- Plain parts of values, each between two places of a text.
use Rattle.std.specs.Prelude.{◌≡◌, ℕ, ◌-◌, ◌<◌, ◌≤◌, List, Option, get_or, length, take, drop}
use Rattle.sip_standard.specs.Text.{One, ◌then◌, Optional, OneOrMore}
use Rattle.sip_standard.specs.Profile.{Host, Port}
use Rattle.sip_text.specs.Bytes.{carriage_return, colon, semicolon, Byte}
use Rattle.sip_masks.specs.Marks.{is_plain}
use Rattle.sip_message.specs.inner.ParamFronts.{ParamText}

-- the bytes of the text from place `at` up to place `to`
abbrev pub segment : ℕ → ℕ → List ℕ → List ℕ
segment at to text = take (to - at) (drop at text)

-- a CR stands in the text at place `end`, as at the end of a line
abbrev pub EndsAt : List ℕ → ℕ → Type 0
EndsAt text end = (end < length text) × (get_or text end 0 ≡ carriage_return)

-- a text of P lies in the text from place `at` up to place `to`, which is not after `end`
abbrev pub LiesWithin : (List ℕ → Type 0) → List ℕ → ℕ → ℕ → ℕ → Type 0
LiesWithin P text at end to = (at ≤ to) × (to ≤ end) × P (segment at to text)

-- one plain byte or more
abbrev pub PlainRun : List ℕ → Type 0
PlainRun = OneOrMore (One is_plain)

-- hostport = host [ ":" port ]
abbrev pub HostPort : List ℕ → Type 0
HostPort = Host then Optional (Byte colon then Port)

-- ";" and then a generic-param, with no blank between them
abbrev pub PlainParam : List ℕ × Option (List ℕ) → List ℕ → Type 0
PlainParam param = Byte semicolon then ParamText param
