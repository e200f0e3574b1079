-- What is found at an entry is what was appended at it.
use Rattle.std.proofs.Common.{◌≡◌, ◌+◌, ◌≤◌, ℕ, Option, Some, None, List, [], ◌∷◌, ◌++◌, length, append_assoc, refl, sym, ap, ◌∙◌, subst}
use Rattle.sip_standard.specs.Key.{KeyParts}
use Rattle.sip_standard.specs.Times.{Times}
use Rattle.sip_machine.specs.Texts.{Texts}
use Rattle.sip_standard.specs.declared.fault.Fault.{Fault}
use Rattle.sip_states.specs.Tables.{Tabled}
use Rattle.sip_standard.specs.LogEntry.{Item}
use Rattle.sip_verdict.specs.declared.finding.Finding.{Finding}
use Rattle.sip_verdict.specs.declared.troubled.Troubled.{Troubled}
use Rattle.sip_standard.specs.Observation.{Observation}
use Rattle.sip_standard.specs.VerdictOf.{Sees}
use Rattle.sip_verdict.specs.Entries.{newest_moment}
use Rattle.sip_verdict.specs.SurveyOf.{AreFoundAt}
use Rattle.sip_verdict.specs.inner.Surveying.{IsOrdered, TablesSurvey, AppendsTroubled, fault_listing, listing}
use Rattle.sip_verdict.proofs.surveys.passing.Ended.{ended_tracks, ended_found}
use Rattle.sip_verdict.proofs.surveys.found.FoundParts.{fault_found}
use Rattle.sip_verdict.proofs.surveys.passing.Taken.{IsTaken}

-- the definitions' list of an entry's fault is the proofs' list of it
same_fault : (entry : ℕ) (fault : Option Fault) → fault_found entry fault ≡ fault_listing entry fault
same_fault entry None = refl
same_fault entry (Some fault) = refl

-- all that is found at the entry was appended to the findings, and tables and trouble follow the entry
-- i is the entry's item; t and b are the tables and the trouble after the entry was taken, and c the trouble once it was told; the findings were `old`, `mid`
-- with the fault, and `new`
pub found_here : (texts : Texts) (p : Times) (es : List (Observation KeyParts)) (i : Item) (moment entry : ℕ) (fault : Option Fault) (t : Tabled) (b c : Troubled) (old mid new : List Finding)
    → IsOrdered es → newest_moment es ≤ moment → entry ≡ length es + 1 → length t.sets ≡ length t.keys → length b.deaf.items ≡ length t.keys → t.times ≡ p → c.deaf.items ≡ b.deaf.items
    → IsTaken texts p es i moment fault t b → mid ≡ old ++ fault_listing entry fault → AppendsTroubled entry b mid new
    → (e : Observation KeyParts) × (here : List Finding) × Sees es i e × (e.event.moment ≡ moment) × AreFoundAt p es e here × (new ≡ old ++ here) × TablesSurvey texts (es ++ e ∷ []) t c.deaf.items
found_here texts p es i moment entry fault t b c old mid new order late counts sets long times same (e, seen, fault_is, now, keys, passing) pushed (broken, wide, broken_is, wide_is, told) =
    -- what is found is the fault, and then the broken and the wide transactions
    let since = subst (λ n. newest_moment es ≤ n) (sym now) late in (
      e,
      fault_listing entry fault ++ listing entry broken wide,
      seen,
      now,
      -- the findings of the entry were appended, and the tables track one entry more
      subst (λ f. AreFoundAt p es e (f ++ listing entry broken wide)) (ap (fault_found entry) fault_is ∙ same_fault entry fault)
          (ended_found texts es e t b p order since keys sets long passing broken wide broken_is wide_is entry counts),
      told ∙ ap (λ xs. xs ++ listing entry broken wide) pushed ∙ append_assoc old (fault_listing entry fault) (listing entry broken wide),
      subst (TablesSurvey texts (es ++ e ∷ []) t) (sym same) (ended_tracks texts es e t b p order since keys sets long passing times),
    )
