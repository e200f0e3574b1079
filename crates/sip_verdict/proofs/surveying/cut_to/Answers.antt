use Rattle.std.proofs.Common.{◌≡◌, ◌∙◌, ℕ, true, false, List, if◌then◌else◌, sym, ap, subst, rules}
use Rattle.std.specs.Option.{option_copied}
use Rattle.sip_standard.specs.declared.action.Action.TheVariants.{Mark}
use Rattle.sip_standard.specs.LogEntry.{Item}
use Rattle.sip_log.specs.Told.{item}
use Rattle.sip_part.specs.Part.{TellsBranch, falls_into}
use Rattle.std.specs.Prelude.{is_none}
use Rattle.sip_standard.specs.Observation.{direction_of}
use Rattle.sip_verdict.specs.SurveyParts.{IsTaken}
use Rattle.sip_verdict.proofs.surveys.parts.Taking.{mark_of, part_item}
use Rattle.sip_verdict.proofs.surveying.cut_to.Goals as goal

-- an entry whose branch falls into another part becomes a mark at its moment
pub returns-then-not-branch-clause-cut : goal.returns-then-not-branch-clause-cut
returns-then-not-branch-clause-cut c =
    let e = c.args.entry.now in
    let part = c.in-Some.part.now in
    let goes : is_none (direction_of e.action) ≡ false = search rules in
    -- the branch of the message does not fall into the part
    let falls = c.in_ok-has_message.field-0 in
    let other : falls ≡ false = search rules in
    let text : c.as_slice.result.now ≡ e.bytes.items = search rules in
    let told : (branch : List ℕ) × TellsBranch e.bytes.items branch × (falls ≡ falls_into part branch) =
    subst (λ (t : List ℕ). (branch : List ℕ) × TellsBranch t branch × (falls ≡ falls_into part branch)) text c.in_ok-has_message.ensures in
    -- the entry is a mark at the same moment now
    let cut : Item = record { action = Mark; moment = e.moment; text = c.clear.new.self.items } in
    let is : cut ≡ (if falls then item e else mark_of (item e)) =
    ap (λ (t : List ℕ). record { action = Mark; moment = e.moment; text = t }) c.clear.ensures.items ∙ sym (ap (λ f. if f then item e else mark_of (item e)) other) in
    subst (λ o. IsTaken o (item e) cut) (ap option_copied (sym c.in-Some.is)) (part_item part (item e) cut falls goes told is)

-- an entry whose branch falls into the part stays as it is
pub returns-else-not-branch-clause-cut : goal.returns-else-not-branch-clause-cut
returns-else-not-branch-clause-cut c =
    let e = c.args.entry.now in
    let part = c.in-Some.part.now in
    let goes : is_none (direction_of e.action) ≡ false = search rules in
    -- the branch of the message falls into the part
    let falls = c.in_ok-has_message.field-0 in
    let here : falls ≡ true = search rules in
    let text : c.as_slice.result.now ≡ e.bytes.items = search rules in
    let told : (branch : List ℕ) × TellsBranch e.bytes.items branch × (falls ≡ falls_into part branch) =
    subst (λ (t : List ℕ). (branch : List ℕ) × TellsBranch t branch × (falls ≡ falls_into part branch)) text c.in_ok-has_message.ensures in
    subst (λ o. IsTaken o (item e) (item e)) (ap option_copied (sym c.in-Some.is)) (part_item part (item e) (item e) falls goes told (sym (ap (λ f. if f then item e else mark_of (item e)) here)))
