-- How many messages a survey keeps after an entry and after a sweep.
use Rattle.std.proofs.Common.{◌≡◌, ◌≤◌, ◌+◌, ℕ, Bool, List, [], ◌∷◌, ◌++◌, length, refl, sym, subst, arith}
use Rattle.sip_standard.specs.Key.{KeyParts}
use Rattle.sip_standard.specs.Times.{Times}
use Rattle.sip_machine.specs.Texts.{Texts}
use Rattle.sip_standard.specs.KeyMachine.{machine_of_key}
use Rattle.sip_states.specs.Tables.{Tabled}
use Rattle.sip_states.proofs.lists.Listed.{Contains-none}
use Rattle.sip_standard.specs.Observation.{Observation}
use Rattle.sip_verdict.specs.Named.{AreMany, WereNamed}
use Rattle.sip_verdict.specs.Surveys.{IsStillNamed, AreSurveyed}
use Rattle.sip_verdict.specs.inner.Surveying.{TablesSurvey}
use Rattle.sip_verdict.proofs.sweeps.FollowedLemmas.{more_named, now_named}
use Rattle.sip_verdict.proofs.tables.NamedTables.{no_events_silent}

-- where no sweep is due, the messages and sets that are left follow the entry too, and few messages are kept
pub surveyed_kept : (texts mid : Texts) (t u : Tabled) (deaf now : List Bool) (left : ℕ) (es : List (Observation KeyParts)) (e : Observation KeyParts) → u.times ≡ t.times → AreSurveyed texts t deaf left es
    → length mid ≤ left + left + 64 → TablesSurvey mid (es ++ e ∷ []) u now → AreSurveyed mid u now left (es ++ e ∷ [])
surveyed_kept texts mid t u deaf now left es e times h few tracks =
    record { tracks = tracks; named = subst (λ p. WereNamed (IsStillNamed p) (es ++ e ∷ []) left) (sym times) (more_named (IsStillNamed t.times) es e left h.named); few = few }

-- after a sweep just the messages are kept that transactions in no trouble name
pub surveyed_swept : (new : Texts) (u v : Tabled) (now : List Bool) (left : ℕ) (es : List (Observation KeyParts)) → v.times ≡ u.times → left ≡ length new
    → TablesSurvey new es v now × AreMany (IsStillNamed u.times es) (length new) → AreSurveyed new v now left es
surveyed_swept new u v now left es times is (tracks, many) = record {
  tracks = tracks;
  named = now_named (IsStillNamed v.times) es left (subst (λ p. AreMany (IsStillNamed p es) left) (sym times) (subst (AreMany (IsStillNamed u.times es)) (sym is) many));
  few = (let same = is in omega (arith, same));
}

-- before the first entry no message is kept and no transaction is known
pub surveyed_none : (p : Times) → AreSurveyed [] (record { times = p; keys = []; sets = []; records = [] }) [] 0 []
surveyed_none p = record {
  tracks = record { order = λ i j d low high. absurd (omega (arith, high)); keys = refl; each = λ n key set d at. absurd cc };
  named = record { front = []; rest = []; whole = refl; many = record { texts = []; distinct = λ i j d low high. absurd (omega (arith, high)); just = λ text. (λ h. absurd (Contains-none text h), λ h. absurd (none h)); counts = refl } };
  few = omega arith;
}
  where
    -- before the first entry no transaction names a message
    none : {text : List ℕ} → IsStillNamed p [] text → ⊥
    none {text} h = no_events_silent p 0 (machine_of_key p.rules h.0) [] text refl h.2

-- an empty book and empty tables are a survey of no entries
pub surveyed_begun : (p : Times) (texts : Texts) (t : Tabled) (deaf : List Bool) → texts ≡ [] → t ≡ record { times = p; keys = []; sets = []; records = [] } → deaf ≡ [] → AreSurveyed texts t deaf 0 []
surveyed_begun p texts t deaf no_texts no_tables no_deaf =
    subst (λ x. AreSurveyed x t deaf 0 []) (sym no_texts) (subst (λ x. AreSurveyed [] x deaf 0 []) (sym no_tables) (subst (λ x. AreSurveyed [] (record { times = p; keys = []; sets = []; records = [] }) x 0 []) (sym no_deaf) (surveyed_none p)))
