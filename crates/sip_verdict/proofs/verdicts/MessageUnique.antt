-- Only one thing is observed of an entry.
-- In the lemmas e and f are two observations of one entry, s and t what its message says by two readings, a and b the two facts about them, and es what was
-- observed before.
use Rattle.std.proofs.Common.{◌≡◌, ℕ, true, false, Option, Some, None, MatchOption, List, ◌++◌, sym, ap, ◌∙◌}
use Rattle.std.specs.Prelude.{option_to_list}
use Rattle.sip_standard.specs.declared.fault.Fault.{Fault}
use Rattle.sip_standard.specs.Outcome.{Outcome, gives, stops}
use Rattle.sip_standard.specs.Says.{Said, Says}
use Rattle.sip_message.proofs.lemmas.says.Reading.{says-one, said-one, says-no_fault}
use Rattle.sip_standard.specs.declared.role.Direction.{Direction}
use Rattle.sip_standard.specs.Key.{KeyParts}
use Rattle.sip_standard.specs.Concerns.{Concerns, lacks_cookie, own_key, cancelled_key}
use Rattle.sip_standard.specs.LogEntry.{Item}
use Rattle.sip_standard.specs.Observation.{Observation, fault_observation, message_event, ObservesMessage, has_fault, has_no_cookie, is_heard, direction_of}
use Rattle.sip_standard.specs.VerdictOf.{Sees}

-- bytes that have a fault say no message
pub fault_says_none : (text : List ℕ) (fault : Fault) (s : Said) → Says text (stops fault) → Says text (gives s) → ⊥
fault_says_none text fault s has says = says-no_fault text s fault says has

-- the same bytes do not both have and lack the cookie
cookie_once : (text : List ℕ) (direction : Direction) (s t : Said) → Says text (gives s) → Says text (gives t) → lacks_cookie s direction ≡ true → lacks_cookie t direction ≡ false → ⊥
cookie_once text direction s t a b lacks has = let e : true ≡ false = sym lacks ∙ ap (λ x. lacks_cookie x direction) (said-one text s t a b) ∙ has in cc

-- what is observed of a message that is heard, with these keys
abbrev heard_as : Item → Said → List KeyParts → Observation KeyParts
heard_as item s keys = record { fault = None; event = message_event item s; keys = keys }

-- a message that is heard is observed in one way, with one list of keys
heard_once : (item : Item) (direction : Direction) (s t : Said) (keys more : List KeyParts) → s ≡ t → Concerns s direction keys → Concerns t direction more → heard_as item s keys ≡ heard_as item t more
heard_once item direction s t keys more same c d =
    let alike : keys ≡ more = c ∙ ap (λ x. option_to_list (own_key x direction) ++ option_to_list (cancelled_key x direction)) same ∙ sym d in
    ap (λ ks. heard_as item s ks) alike ∙ ap (λ x. heard_as item x more) same

-- two things that are observed of one message are the same
pub message_one : (direction : Direction) (item : Item) (e f : Observation KeyParts) → ObservesMessage direction item e → ObservesMessage direction item f → e ≡ f
-- the bytes have one fault, and bytes that have one say no message, so that they neither lack the cookie nor are heard
message_one direction item e f (has_fault a has is) (has_fault b has2 is2) =
    let same : ◌≡◌ {A = Outcome Said} (stops a) (stops b) = says-one item.text (stops a) (stops b) has has2 in
    let alike : a ≡ b = cc in is ∙ ap (fault_observation item) alike ∙ sym is2
message_one direction item e f (has_fault a has is) (has_no_cookie s says lacks is2) = absurd (fault_says_none item.text a s has says)
message_one direction item e f (has_fault a has is) (is_heard s keys says fine concerns is2) = absurd (fault_says_none item.text a s has says)
-- a message that lacks the cookie has no other fault, and is not heard
message_one direction item e f (has_no_cookie s says lacks is) (has_fault b has is2) = absurd (fault_says_none item.text b s has says)
message_one direction item e f (has_no_cookie s says lacks is) (has_no_cookie t says2 lacks2 is2) = is ∙ sym is2
message_one direction item e f (has_no_cookie s says lacks is) (is_heard t keys says2 fine concerns is2) = absurd (cookie_once item.text direction s t says says2 lacks fine)
-- a message that is heard has neither fault
message_one direction item e f (is_heard s keys says fine concerns is) (has_fault b has is2) = absurd (fault_says_none item.text b s has says)
message_one direction item e f (is_heard s keys says fine concerns is) (has_no_cookie t says2 lacks is2) = absurd (cookie_once item.text direction t s says2 says lacks fine)
message_one direction item e f (is_heard s keys says fine concerns is) (is_heard t more says2 fine2 concerns2 is2) =
    is ∙ heard_once item direction s t keys more (said-one item.text s t says says2) concerns concerns2 ∙ sym is2

-- two things that are observed of one entry are the same, whether it has a message, which went this way, or none
going_one : (direction : Option Direction) (item : Item) (silent e f : Observation KeyParts) → MatchOption direction (e ≡ silent) (λ d. ObservesMessage d item e)
    → MatchOption direction (f ≡ silent) (λ d. ObservesMessage d item f) → e ≡ f
going_one None item silent e f a b = a ∙ sym b
going_one (Some direction) item silent e f a b = message_one direction item e f a b

-- two things that are observed of one entry are the same
pub observes_one : (es : List (Observation KeyParts)) (item : Item) (e f : Observation KeyParts) → Sees es item e → Sees es item f → e ≡ f
observes_one es item e f a b = going_one (direction_of item.action) item _ e f a b
