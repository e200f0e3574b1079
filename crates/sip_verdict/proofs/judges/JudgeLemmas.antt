-- What a judge holds after one entry more.
-- In the lemmas j is what a judge holds, k what it holds one entry later, and es what was observed of the entries so far.
use Rattle.std.proofs.Common.{◌≡◌, ◌+◌, ◌-◌, ◌∙◌, ℕ, Option, Some, None, IfSome, MatchOption, slice_get, List, length, sym, ap, subst}
use Rattle.std.proofs.lemmas.List.{length_push}
use Rattle.sip_standard.specs.Key.{KeyParts}
use Rattle.sip_machine.specs.Texts.{Texts}
use Rattle.sip_states.specs.Tables.{HasNumber, IsGiven, Tabled}
use Rattle.sip_log.specs.declared.entry.Entry.{Entry}
use Rattle.sip_log.specs.Told.{item}
use Rattle.sip_verdict.specs.declared.stage.Stage.TheVariants.{Open}
use Rattle.sip_standard.specs.declared.verdict.Verdict.TheVariants.{Legal}
use Rattle.sip_standard.specs.Observation.{Observation}
use Rattle.sip_standard.specs.VerdictOf.{keys_in, Sees}
use Rattle.sip_verdict.specs.Judging.{Judging, StandsFor, MayComeNext, IsNext}
use Rattle.sip_verdict.specs.inner.Sweeping.{AreFollowedOn}
use Rattle.sip_verdict.specs.inner.TablesTracking.{MayTake}
use Rattle.sip_verdict.proofs.tables.JudgeTables.{next_may}
use Rattle.sip_verdict.proofs.tables.TablesPassing.{keys_are}
use Rattle.sip_verdict.proofs.sweeps.FollowedLemmas.{observed_moment, followed_keys}

-- an entry that may come next may be taken by the tables of a judge that may take the next one
pub may_take_next : (texts : Texts) (t : Tabled) (count last number moment : ℕ) → MayComeNext count last number moment → MayTake texts t (count + 1) last → MayTake texts t number moment
may_take_next texts t count last number moment next may = next_may texts t count last number moment next.next next.order may

-- where a judge has taken entries and found no trouble, its counts give the verdict that they are legal
pub legal_is : (j : Judging) (es : List (Observation KeyParts)) → StandsFor j es → length j.tables.sets ≡ length j.tables.keys → (count many : ℕ) → count ≡ j.number → many ≡ length j.tables.keys
    → Some (Legal count many) ≡ Some (Legal (length es) (length (keys_in es)))
legal_is j es stands long count many counts keys =
    ap (λ n. Some (Legal n many)) (counts ∙ stands.number) ∙ ap (λ n. Some (Legal (length es) n)) (keys ∙ followed_keys j.texts j.tables es long stands.follows.tracks)

-- a key that a judge finds under a number is the key of the entries with that number; where it finds none, nothing is said of one
pub key_named : {R : Type 0} (j : Judging) (es : List (Observation KeyParts)) → StandsFor j es → length j.tables.sets ≡ length j.tables.keys → (now : R → KeyParts) (number : ℕ) (found : Option R)
    → MatchOption found (¬ (IsGiven j.tables number)) (λ key. IsGiven j.tables number × HasNumber j.tables (now key) number)
    → IfSome found (λ key. slice_get (keys_in es) (number - 1) ≡ Some (now key))
key_named j es stands long now number None has = tt
key_named j es stands long now number (Some key) has =
    subst (λ keys. slice_get keys (number - 1) ≡ Some (now key)) (sym (keys_are j.tables long) ∙ stands.follows.tracks.keys) has.1.1

-- a judge that has taken one entry more has taken the entries and this one
pub stands_on : (j k : Judging) (e : Entry) → e.number ≡ j.number + 1 → k.number ≡ e.number → k.moment ≡ e.moment → k.stage ≡ Open → (es : List (Observation KeyParts)) → StandsFor j es
    → (seen : Observation KeyParts) × Sees es (item e) seen × AreFollowedOn k.texts k.tables k.left es seen None
    → (seen : Observation KeyParts) × Sees es (item e) seen × IsNext k es seen None
stands_on j k e next number moment goes_on es stands (seen, observed, follows) = (
  seen,
  observed,
  record {
    -- the judge has one entry more, whose moment is the newest
    goes_on = goes_on;
    number = number ∙ next ∙ ap (λ n. n + 1) stands.number ∙ sym (length_push es seen);
    moment = moment ∙ sym (observed_moment es (item e) seen observed);
    follows = follows;
  },
)
