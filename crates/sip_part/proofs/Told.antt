-- The branch by which a message falls into its part.
use Rattle.std.proofs.Common.{◌≡◌, ◌∙◌, ℕ, Bool, true, false, List, [], Some, None, refl, sym, ap}
use Rattle.std.specs.Bool.{Decides}
use Rattle.std.specs.Prelude.{bytes_eq}
use Rattle.std.proofs.lemmas.Slice.Eq.{bytes_eq-Decides}
use Rattle.sip_standard.specs.declared.fault.Fault.{Fault}
use Rattle.sip_standard.specs.Case.{folded}
use Rattle.sip_standard.specs.Outcome.{gives, stops}
use Rattle.sip_standard.specs.Says.{Said, Says}
use Rattle.sip_message.specs.Reading.{Reading}
use Rattle.sip_message.specs.Reads.{Reads}
use Rattle.sip_message.specs.SaidOf.{said_of}
use Rattle.sip_message.proofs.lemmas.message.Total.{reading-or-fault}
use Rattle.sip_message.proofs.lemmas.says.Reading.{says-no_fault, said-is}
use Rattle.sip_part.specs.Led.{led_branch}
use Rattle.sip_part.specs.Part.{TellsBranch, compared}
use Rattle.sip_part.proofs.Fields.{led_found}

-- what is told of a message that is read is the branch of its top Via
pub told_branch : (text : List ℕ) (s : Said) (branch : List ℕ) → Says text (gives s) → TellsBranch text branch → branch ≡ compared s.via.branch
told_branch text s branch says tells = tells.0 s says

-- a branch that stands plainly in a message, in lower case, is the branch by which the message falls
pub plain_told : (text plain : List ℕ) → led_branch text ≡ Some plain → TellsBranch text (folded plain)
plain_told text plain led = ((λ s says. sym (ap compared (led_found text plain s says led))), (λ fault has. sym (ap compared led)))

-- a message that is read falls by the branch of its top Via
pub read_told : (text : List ℕ) (r : Reading) → Reads text r → TellsBranch text (compared ((said_of r).via.branch))
read_told text r reads = (
  (λ s says. sym (ap (λ x. compared x.via.branch) (said-is text r s reads says))),
  (λ fault has. absurd (says-no_fault text (said_of r) fault reads.says has)),
)

-- bytes with a fault in which no branch stands plainly fall by the empty branch
pub fault_told : (text : List ℕ) (fault : Fault) → led_branch text ≡ None → Says text (stops fault) → TellsBranch text []
fault_told text fault none has = ((λ s says. absurd (says-no_fault text s fault says has)), (λ other also. sym (ap compared none)))

-- two branches by which one message falls are the same
pub one_told : (text a b : List ℕ) → TellsBranch text a → TellsBranch text b → a ≡ b
one_told text a b one other = by (bytes_eq a b) (bytes_eq-Decides a b)
  where
    -- branches that the test finds different are different
    differ : Decides false (a ≡ b) → a ≡ b → ⊥
    differ decides same = let e : false ≡ true = decides.1 same in absurd (cc)

    -- the test finds the two branches the same, since else they would fall by different ones
    by : (same : Bool) → Decides same (a ≡ b) → a ≡ b
    by true decides = decides.0 refl
    -- the bytes are read as a message or have a fault; either way both branches are the one that this tells
    by false decides =
        absurd (reading-or-fault text (λ r reads. differ decides (one.0 (said_of r) reads.says ∙ sym (other.0 (said_of r) reads.says)))
        (λ fault has. differ decides (one.1 fault has ∙ sym (other.1 fault has))))
