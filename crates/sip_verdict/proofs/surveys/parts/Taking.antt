-- An item as it is in the log of a part.
use Rattle.std.proofs.Common.{◌≡◌, ◌∙◌, ℕ, Bool, false, Option, Some, None, MatchOption, List, [], if◌then◌else◌, ap}
use Rattle.std.specs.Prelude.{is_none}
use Rattle.sip_standard.specs.declared.role.Direction.{Direction}
use Rattle.sip_standard.specs.declared.action.Action.TheVariants.{Mark}
use Rattle.sip_standard.specs.LogEntry.{Item}
use Rattle.sip_part.specs.Part.{PartOf, TellsBranch, falls_into}
use Rattle.sip_standard.specs.Observation.{direction_of}
use Rattle.sip_verdict.specs.SurveyParts.{IsPartItem}

-- the item as a mark of its moment
abbrev pub mark_of : Item → Item
mark_of i = record { action = Mark; moment = i.moment; text = [] }

-- an item with a message is, in the log of a part, itself if its branch falls into the part, and else a mark
pub part_item : (part : PartOf) (i cut : Item) (falls : Bool) → is_none (direction_of i.action) ≡ false → (branch : List ℕ) × TellsBranch i.text branch × (falls ≡ falls_into part branch)
    → cut ≡ (if falls then i else mark_of i) → IsPartItem part i cut
part_item part i cut falls goes (branch, tells, same) is = by (direction_of i.action) goes
  where
    -- the item is cut by its branch, since it has a direction and so a message
    by : (d : Option Direction) → is_none d ≡ false
        → MatchOption d (cut ≡ i) (λ direction. (b : List ℕ) × TellsBranch i.text b × (cut ≡ if falls_into part b then i else mark_of i))
    by None e = absurd (cc)
    by (Some d) e = (branch, tells, is ∙ ap (λ f. if f then i else mark_of i) same)
