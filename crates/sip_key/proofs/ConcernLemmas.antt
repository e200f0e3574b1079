-- The keys that a message concerns.
-- `λ i. f (e i)`: by the equation e, f of its left side is equal to f of its right side.
use Rattle.std.specs.Prelude.{◌≡◌, ℕ, ◌&&◌, Bool, true, false, List, [], ◌∷◌, Option, None, Some, IfSome, is_some, not, option_map, refl}
use Rattle.std.proofs.Common.{sym, ◌∙◌, ap, subst}
use Rattle.sip_standard.specs.Profile.{Port}
use Rattle.sip_message.specs.inner.Parts.{HasParts}
use Rattle.sip_message.specs.declared.name.Known.TheVariants as known_name
use Rattle.sip_message.specs.Field.{Field, values}
use Rattle.sip_standard.specs.Via.{SaidVia, PortSays}
use Rattle.sip_message.specs.Reading.{Parts}
use Rattle.sip_standard.specs.Says.{Said, ViasTell}
use Rattle.sip_standard.specs.declared.role.Role.{Role}
use Rattle.sip_standard.specs.declared.role.Direction.{Direction}
use Rattle.sip_standard.specs.Key.{KeyParts}
use Rattle.sip_standard.specs.Branch.{cookie_branch}
use Rattle.sip_standard.specs.Concerns.{role_of, sent_by_of, method_of, own_key, is_sent, lacks_cookie}

-- the port of the first element of Via, where it has one, is a port
first-port : (vals : List (List ℕ)) (v : SaidVia) (vs : List SaidVia) → ViasTell vals (v ∷ vs) → IfSome v.port Port
first-port [] v vs are = let never : v ∷ vs ≡ [] = are in cc
first-port (value ∷ vals) v vs ([], more, none, more_are, whole) = absurd none
first-port (value ∷ vals) v vs (f ∷ now, more, (u, w, says, further, value_is), more_are, whole) =
    let same : f ≡ v = cc in
    let P : SaidVia → Type 0 = λ x. IfSome x.port Port in
    -- what follows the host of an element says its port
    let port = says.3.3.3.3.3.3.3.3 in
    subst P same (said f.port port.0 port.2)
  where
    -- a port that is said is one
    said : (port : Option (List ℕ)) (text : List ℕ) → PortSays port text → IfSome port Port
    said None text none = tt
    said (Some port) text (m, t, mark, (fits, port_is), text_is) = subst Port (sym port_is) fits

-- the port of the top Via, where there is one, is a port of the grammar
pub top-port : (fields : List Field) (p : Parts) → HasParts fields p → IfSome p.via.port Port
top-port fields p has = first-port (values known_name.Via fields) p.via p.others has.vias

-- a conjunction with false is false
and-false : (a : Bool) → (a && false) ≡ false
and-false true = refl
and-false false = refl

-- a key of the role, the branch, the sent-by and the method that a message gives is the message's own key, and the message does not lack the cookie
-- r is what the message says, d its direction, and k the key
pub own-is : (r : Said) (d : Direction) (role : Role) (branch sent_by method : List ℕ) {k : KeyParts}
    → k ≡ record { role = role; branch = branch; sent_by = sent_by; method = method }
    → role ≡ role_of r.start d
    → cookie_branch r.via.branch ≡ Some branch
    → sent_by ≡ sent_by_of role r.via
    → method ≡ method_of r.start r.cseq.1
    → (Some k ≡ own_key r d) × (lacks_cookie r d ≡ false)
own-is r d role branch sent_by method key by_role by_branch by_sent_by by_method =
    -- the key's parts are those that the message gives, one by one
    let sent_by_is : sent_by ≡ sent_by_of (role_of r.start d) r.via =
    by_sent_by ∙ ap (λ s. sent_by_of s r.via) by_role in
    -- f gives the key that the message has with the branch b
    let f : List ℕ → KeyParts =
    λ b. record { role = role_of r.start d; branch = b; sent_by = sent_by_of (role_of r.start d) r.via; method = method_of r.start r.cseq.1 } in
    let own : own_key r d ≡ Some (f branch) = ap (option_map f) by_branch in (
      ap Some (key ∙ (λ i. record { role = by_role i; branch = branch; sent_by = sent_by_is i; method = by_method i })) ∙ sym own,
      ap (λ o. is_sent (λ method. true) r.start d && not (is_some o)) by_branch ∙ and-false (is_sent (λ method. true) r.start d),
    )
