-- URIs whose user, if there is one, is plain.
use Rattle.std.proofs.Common.{◌≡◌, ◌⊎◌, ℕ, List, [], refl, inl, inr}
use Rattle.std.specs.Prelude.{codes}
use Rattle.sip_standard.specs.Text.{Exactly, ◌then◌, Optional}
use Rattle.sip_standard.specs.Profile.{Userinfo, Uri}
use Rattle.sip_text.specs.Bytes.{at_sign, Byte}
use Rattle.sip_message.specs.inner.Plain.{PlainRun, HostPort}
use Rattle.sip_message.proofs.PlainLemmas.{plain-user, uri-of}

-- a run of plain bytes with "@" after it, or nothing
abbrev pub PlainUser : List ℕ → Type 0
PlainUser u = (u ≡ []) ⊎ (PlainRun then Byte at_sign) u

-- a plain user with its "@", or none, is an optional userinfo without a password
user-info : (u : List ℕ) → PlainUser u → Optional Userinfo u
user-info u (inl none) = inl none
user-info u (inr (p, b, run, mark, whole)) = inr (p, b, plain-user p run, ([], b, inl refl, mark, refl), whole)

-- "sip:", a plain user with its "@" or none, and a host with an optional port are a URI
pub uri-plain : (u : List ℕ) → (Exactly (codes "sip:") then PlainUser then HostPort) u → Uri u
uri-plain u (s, r, scheme, (x, y, user, host, r_is), is) = uri-of u (s, r, scheme, (x, y, user-info x user, host, r_is), is)
