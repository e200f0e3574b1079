-- How the reader of URIs cuts a text: each part ends at the first byte that it cannot hold.
use Rattle.std.specs.Prelude.{◌≡◌, ℕ, ◌&&◌, ◌==◌, List, ◌∷◌, ◌++◌, Option, None, Some, IfSome, option_copied, if◌then◌else◌}
use Rattle.std.specs.Char.{is_ascii_hexdigit}
use Rattle.sip_standard.specs.Text.{One, ◌then◌, ◌or◌, Optional}
use Rattle.sip_standard.specs.Profile.{User, Password, Userinfo, Host, Port, UriParameters, Headers}
use Rattle.sip_text.specs.Bytes.{percent, colon, semicolon, question, at_sign, Byte}
use Rattle.sip_text.specs.inner.Class.{is_in}
use Rattle.sip_text.specs.inner.Cut.{led, before, behind}
use Rattle.sip_text.specs.inner.Pieces.{Escaped}
use Rattle.sip_text.specs.declared.class.Class.{Class}
use Rattle.sip_text.specs.declared.uri.Cuts.{Cuts}

-- a character of a part: a byte of its class, or an escape
abbrev pub ClassChar : Class → List ℕ → Type 0
ClassChar class = One (is_in class) or Escaped

-- the text after the escape at its front, if it begins with one
abbrev pub behind_escape : List ℕ → Option (List ℕ)
behind_escape (mark ∷ high ∷ low ∷ rest) =
    (if mark == percent && is_ascii_hexdigit high && is_ascii_hexdigit low then Some rest else None)
behind_escape _ = None

-- [ userinfo ] is cut off at the first "@", and cut at its first ":"
abbrev pub IsInfoCut : List ℕ → Option (List ℕ) → Option (List ℕ) → List ℕ → Type 0
IsInfoCut text None password rest =
    (behind at_sign text ≡ None) × (password ≡ None) × (rest ≡ text)
IsInfoCut text (Some user) password rest =
    (behind at_sign text ≡ Some rest)
    × (user ≡ before colon (before at_sign text)) × (password ≡ behind colon (before at_sign text))

-- [ ":" port ] is cut off where the text ends with one, and nothing is where it does not
abbrev pub IsPortCut : List ℕ → List ℕ → Option (List ℕ) → Type 0
IsPortCut text host None =
    (host ≡ text) × ((u v : List ℕ) → Port v → text ≡ u ++ colon ∷ v → ⊥)
IsPortCut text host (Some port) = Port port × (text ≡ host ++ colon ∷ port)

-- the parts of a SIP URI, cut and not yet tested
pub record CutParts : Type 0 where
  pub user : Option (List ℕ)
  pub password : Option (List ℕ)
  pub host : List ℕ
  pub port : Option (List ℕ)
  pub params : List ℕ
  pub headers : Option (List ℕ)

-- what a `Cuts` says
abbrev pub cut_parts : Cuts → CutParts
cut_parts cuts = record {
  user = option_copied cuts.user;
  password = option_copied cuts.password;
  host = cuts.host.now;
  port = option_copied cuts.port;
  params = cuts.params.now;
  headers = option_copied cuts.headers;
}

-- what follows the scheme of a SIP URI is cut into these parts: the userinfo is cut off, and the rest is cut at its first "?" and
-- then at its first ";"
pub record IsSipCut (text : List ℕ) (cut : CutParts) : Type 0 where
  pub rest : List ℕ
  pub userinfo : IsInfoCut text cut.user cut.password rest
  pub headers : cut.headers ≡ behind question rest
  pub params : cut.params ≡ led semicolon (behind semicolon (before question rest))
  pub port : IsPortCut (before semicolon (before question rest)) cut.host cut.port

-- the user and the password are texts of their productions
abbrev pub InfoFits : CutParts → Type 0
InfoFits cut = IfSome cut.user User × IfSome cut.password Password

-- the parameters and the headers are texts of their productions
abbrev pub TailFits : CutParts → Type 0
TailFits cut = UriParameters cut.params × IfSome cut.headers Headers

-- [ userinfo ] hostport uri-parameters [ headers ]: what follows the scheme of a SIP URI and its ":"
abbrev pub SipRest : List ℕ → Type 0
SipRest =
    Optional Userinfo then Host then Optional (Byte colon then Port)
    then UriParameters then Optional (Byte question then Headers)
