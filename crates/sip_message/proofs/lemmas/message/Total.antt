-- Any bytes have a reading or a fault: it cannot be that they have neither.
use Rattle.std.specs.Prelude.{ℕ, ◌+◌, List, [], ◌∷◌}
use Rattle.std.proofs.Common.{refl}
use Rattle.sip_standard.specs.declared.fault.Fault.{Fault}
use Rattle.sip_message.specs.declared.name.Known.{Known}
use Rattle.sip_message.specs.Field.{Field}
use Rattle.sip_message.specs.Message.{Message}
use Rattle.sip_message.specs.inner.MessageText.{found}
use Rattle.sip_standard.specs.Outcome.{Outcome, gives, stops, Gives, Demand, Then, passes, stopped}
use Rattle.sip_standard.specs.Field.{OneOf}
use Rattle.sip_message.specs.inner.Faults.{FieldOf, FieldsOf, NamesOf, ReadOf}
use Rattle.sip_message.specs.Reading.{Reading}
use Rattle.sip_message.specs.Reads.{Reads}
use Rattle.sip_message.proofs.lemmas.lines.OneWay.{head-lines}
use Rattle.sip_message.proofs.lemmas.message.Faults.{read-text}
use Rattle.sip_message.proofs.lemmas.asked.Parts.{has-parts}
use Rattle.sip_message.proofs.lemmas.says.Reading.{text-reads, fault-says}
use Rattle.sip_standard.specs.Says.{Says}

-- it cannot be that S holds of no outcome
abbrev Comes : {X : Type 0} → (Outcome X → Type 0) → Type 0
Comes {X = X} S = ¬ ((out : Outcome X) → ¬ (S out))

-- a demand comes to a value of which R holds, or to its fault
comes-demand : {X : Type 0} (R : X → Type 0) (fault : Fault) → Comes (Demand R fault)
-- where no value meets the demand, its fault is the outcome
comes-demand R fault never = never (stops fault) ((λ x is. never (gives x) is), refl)

-- a step that only gives a value comes to that value
comes-gives : {X : Type 0} (x : X) → Comes (Gives x)
comes-gives x never = never (gives x) refl

-- two steps, one after the other, come to an outcome of the second, or to the fault of the first
-- S is the first step, with a value x of X, and T the second one after x
comes-then : {X Y : Type 0} (S : Outcome X → Type 0) (T : X → Outcome Y → Type 0) → Comes S → ((x : X) → S (gives x) → Comes (T x)) → Comes (Then S T)
comes-then {X = X} S T first later never = first at
  where
    -- the first step has no outcome: a value would lead to an outcome of the second step, and a fault is an outcome of both
    at : (out : Outcome X) → ¬ (S out)
    at (gives x) is = later x is (λ out then. never out (passes x is then))
    at (stops fault) is = never (stops fault) (stopped fault is refl)

-- the reading of a field line comes to an outcome
comes-field : (n : ℕ) (line : List ℕ) → Comes (FieldOf n line)
-- the name is demanded, and then the value; the field is made of both
comes-field n line = comes-then _ _ (comes-demand _ _) (λ named _. comes-then _ _ (comes-demand _ _) (λ value _. comes-gives _))

-- the reading of field lines comes to an outcome
comes-fields : (n : ℕ) (lines : List (List ℕ)) → Comes (FieldsOf n lines)
-- without lines there are no fields, which is an outcome
comes-fields n [] = comes-gives []
-- the first line comes to an outcome, and after its field so do the others
comes-fields n (line ∷ lines) = comes-then _ _ (comes-field n line) (λ f _. comes-then _ _ (comes-fields (n + 1) lines) (λ fs _. comes-gives _))

-- the reading of the only field of a name comes to an outcome
comes-once : (name : Known) (fields : List Field) → Comes (OneOf (found name fields))
-- that no second field stands there is demanded, and then the first one
comes-once name fields = comes-then _ _ (comes-demand _ _) (λ _ _. comes-demand _ _)

-- the reading of the named fields of some fields comes to an outcome
comes-names : (fields : List Field) → Comes (NamesOf fields)
comes-names fields =
    -- Via is demanded, then From, To, Call-ID and CSeq, and last that Content-Length does not stand twice
    comes-then _ _ (comes-demand _ _) (λ via _. comes-then _ _ (comes-once _ fields) (λ _ _. comes-then _ _ (comes-once _ fields) (λ _ _.
    comes-then _ _ (comes-once _ fields) (λ _ _. comes-then _ _ (comes-once _ fields) (λ cseq _. comes-then _ _ (comes-demand _ _) (λ _ _. comes-gives _))))))

-- the reading of bytes comes to an outcome
comes-read : (bytes : List ℕ) → Comes (ReadOf bytes)
comes-read bytes =
    -- the end of the head and that no line end is bare are demanded; `never` says that what follows has no outcome
    comes-then _ _ (comes-demand _ _) (λ cut is. comes-then _ _ (comes-demand _ _) (λ _ _. λ never.
    let lines = head-lines bytes cut.0 cut.1 is in
    -- the start line, the fields, the named fields, and the four demands on the method and the body come to outcomes, one after another
    comes-then _ _ (comes-demand _ _) (λ start _. comes-then _ _ (comes-fields 1 lines.1) (λ fields _. comes-then _ _ (comes-names fields) (λ names _.
    comes-then _ _ (comes-then _ _ (comes-demand _ _) (λ _ _. comes-then _ _ (comes-demand _ _) (λ _ _. comes-then _ _ (comes-demand _ _) (λ _ _.
    comes-then _ _ (comes-demand _ _) (λ _ _. comes-gives _))))) (λ body _. comes-gives _))))
    (λ out of_lines. never out (lines.0, lines.1, lines.2, of_lines))))

-- where no message is read of bytes, it cannot be that they say no fault
pub reading-or-fault : (bytes : List ℕ) → ((r : Reading) → ¬ (Reads bytes r)) → ¬ ((fault : Fault) → ¬ (Says bytes (stops fault)))
reading-or-fault bytes no_reading no_fault = comes-read bytes at
  where
    -- the bytes have no outcome, neither a message nor a fault
    at : (out : Outcome Message) → ¬ (ReadOf bytes out)
    at (gives m) is =
        -- the bytes are the text of m, which has parts, so that there is a reading
        let text = read-text bytes m is in
        let parts = has-parts bytes m text in
        no_reading (record { message = m; parts = parts.0 }) (text-reads bytes (record { message = m; parts = parts.0 }) text parts.1)
    -- the bytes say the fault
    at (stops fault) is = no_fault fault (fault-says bytes fault is)
