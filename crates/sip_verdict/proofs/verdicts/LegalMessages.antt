-- The messages of a legal log are of the grammar.
use Rattle.std.proofs.Common.{◌≡◌, Option, Some, None, IfSome, MatchOption, List, [], ◌∷◌, ◌++◌, All, sym, ap, ◌∙◌}
use Rattle.std.proofs.lemmas.List.Elements.{All-nil, All-cons, All-head, All-tail}
use Rattle.sip_standard.specs.declared.role.Direction.{Direction}
use Rattle.sip_standard.specs.Key.{KeyParts}
use Rattle.sip_standard.specs.LogEntry.{Item}
use Rattle.sip_standard.specs.Observation.{Observation, direction_of, no_cookie, ObservesMessage, has_fault, has_no_cookie, is_heard}
use Rattle.sip_standard.specs.Seen.{AreSeen}
use Rattle.sip_verdict.specs.LegalLog.{IsFormed}

-- a message that is observed without a fault is of the grammar
-- with a fault of the bytes, or without the cookie, the observation would have a fault; so the message was heard
formed : (direction : Direction) (item : Item) (e : Observation KeyParts) → e.fault ≡ None → ObservesMessage direction item e → IsFormed direction item.text
formed direction item e none (has_fault fault has is) = let h : Some fault ≡ None = sym (ap (λ x. x.fault) is) ∙ none in cc
formed direction item e none (has_no_cookie s says lacks is) = let h : Some no_cookie ≡ None = sym (ap (λ x. x.fault) is) ∙ none in cc
formed direction item e none (is_heard s keys says fine concerns is) = (s, says, fine)

-- the message of an entry without a fault is of the grammar, where the entry has a message
formed_going : (direction : Option Direction) (item : Item) (silent e : Observation KeyParts) → e.fault ≡ None → MatchOption direction (e ≡ silent) (λ d. ObservesMessage d item e)
    → IfSome direction (λ d. IsFormed d item.text)
formed_going None item silent e none seen = tt
formed_going (Some direction) item silent e none seen = formed direction item e none seen

-- the messages of all entries are of the grammar, where none of them has a fault
-- no item is left; there are as many entries as items; the first message is of the grammar, and so are the others
pub all_formed : (before : List (Observation KeyParts)) (items : List Item) (es : List (Observation KeyParts)) → AreSeen before items es → All (λ e. e.fault ≡ None) es
    → All (λ item. IfSome (direction_of item.action) (λ d. IsFormed d item.text)) items
all_formed before [] es seen none = All-nil (λ item. IfSome (direction_of item.action) (λ d. IsFormed d item.text))
all_formed before (item ∷ items) [] seen none = absurd seen
all_formed before (item ∷ items) (e ∷ es) seen none =
    All-cons (λ x. IfSome (direction_of x.action) (λ d. IsFormed d x.text)) item items
    (formed_going (direction_of item.action) item _ e (All-head (λ x. x.fault ≡ None) e es none) seen.0)
    (all_formed (before ++ e ∷ []) items es seen.1 (All-tail (λ x. x.fault ≡ None) e es none))
