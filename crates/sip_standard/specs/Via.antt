-- The value of Via (RFC 3261, sections 20.42 and 25.1).
-- "Own" marks where this profile chose other than the standard.
use Rattle.std.specs.Prelude.{◌≡◌, ℕ, List, [], ◌∷◌, Option, None, Some}
use Rattle.sip_standard.specs.Text.{Exactly, ◌then◌, ◌or◌, Optional}
use Rattle.sip_standard.specs.Chars.{AnyCase, ◌is◌, EachSays}
use Rattle.sip_standard.specs.Profile.{Token, Blanks, Mark, Quoted, Ipv6, Bracketed, Host, Port}

-- gen-value = token / host / quoted-string. Own: of the hosts that are no token, an IPv6 address with or without its brackets.
abbrev pub GenValue : List ℕ → Type 0
GenValue = Token or Quoted or Ipv6 or Bracketed

-- what an element of Via says, with its text
pub record SaidVia : Type 0 where
  pub whole : List ℕ
  pub transport : List ℕ
  pub host : List ℕ
  pub port : Option (List ℕ)
  pub branch : Option (List ℕ)

-- [ COLON port ]
abbrev pub PortSays : Option (List ℕ) → List ℕ → Type 0
PortSays None = Exactly []
PortSays (Some port) = Mark ":" then (Port is port)

-- via-params: a branch, which is a token, or a generic-param = token [ EQUAL gen-value ] of another name
abbrev pub ParamSays : Option (List ℕ) → List ℕ → Type 0
ParamSays (Some branch) = (λ name. Token name × AnyCase "branch" name) then Mark "=" then (Token is branch)
ParamSays None = (λ name. Token name × ¬ (AnyCase "branch" name)) then Optional (Mark "=" then GenValue)

-- the first text that is there
abbrev pub first_some : List (Option (List ℕ)) → Option (List ℕ)
first_some [] = None
first_some (None ∷ more) = first_some more
first_some (Some text ∷ more) = Some text

-- via-parm = sent-protocol LWS sent-by *( SEMI via-params ), sent-by = host [ COLON port ],
-- sent-protocol = protocol-name SLASH protocol-version SLASH transport, which are tokens. The first branch counts.
abbrev pub ViaSays : SaidVia → List ℕ → Type 0
ViaSays via text =
    (params : List (Option (List ℕ))) × (via.branch ≡ first_some params) × (via.whole ≡ text)
    × (Token then Mark "/" then Token then Mark "/" then (Token is via.transport) then Blanks
    then (Host is via.host) then PortSays via.port then EachSays (λ param. Mark ";" then ParamSays param) params) text

-- via-parm *( COMMA via-parm )
abbrev pub ViasSay : List SaidVia → List ℕ → Type 0
ViasSay [] text = ⊥
ViasSay (via ∷ more) text = (ViaSays via then EachSays (λ v. Mark "," then ViaSays v) more) text
