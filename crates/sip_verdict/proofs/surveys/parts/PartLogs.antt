-- The log of a part is the log that is cut by the branches that fall into the part.
use Rattle.std.proofs.Common.{◌≡◌, ◌∙◌, inl, inr, ℕ, Bool, true, false, Option, Some, None, MatchOption, List, [], ◌∷◌, ◌++◌, All, if◌then◌else◌, refl, sym, ap, subst}
use Rattle.std.specs.Prelude.{codes, bytes_eq, take}
use Rattle.std.proofs.lemmas.List.Elements.{All-nil, All-weaker}
use Rattle.sip_standard.specs.declared.role.Direction.{Direction}
use Rattle.sip_standard.specs.declared.role.Direction.TheVariants as way
use Rattle.sip_standard.specs.Key.{KeyParts}
use Rattle.sip_standard.specs.Branch.{cookie_branch}
use Rattle.sip_standard.specs.declared.action.Action.{Action}
use Rattle.sip_standard.specs.declared.action.Action.TheVariants.{Sent, Received, Failed, Mark, Restart}
use Rattle.sip_standard.specs.LogEntry.{Item}
use Rattle.sip_part.specs.Part.{PartOf, TellsBranch, compared, falls_into}
use Rattle.sip_part.proofs.Told.{told_branch}
use Rattle.sip_standard.specs.Observation.{Observation, direction_of, ObservesMessage, has_fault, has_no_cookie, is_heard}
use Rattle.sip_standard.specs.Seen.{AreSeen}
use Rattle.sip_standard.specs.VerdictOf.{Sees}
use Rattle.sip_verdict.specs.SurveyLaws.{StaysOrIsMark, IsCutLog}
use Rattle.sip_verdict.specs.SurveyParts.{IsPartItem, IsPartLog}
use Rattle.sip_verdict.proofs.surveys.parts.ByBranch.{of_one_branch}
use Rattle.sip_verdict.proofs.surveys.parts.CutLogs.{SeenAs}
use Rattle.sip_verdict.proofs.surveys.parts.Taking.{mark_of}

-- a branch with the cookie is compared as it stands
cookie_compared : (branch : Option (List ℕ)) (text : List ℕ) → cookie_branch branch ≡ Some text → compared branch ≡ text
cookie_compared None text is = absurd (cc)
cookie_compared (Some branch) text is = by (bytes_eq (take 7 (compared (Some branch))) (codes "z9hg4bk")) is
  where
    -- a branch with the cookie is compared by its own bytes
    -- the branch has the cookie and is the text, or it has none and gives no text
    by : (b : Bool) → (if b then Some (compared (Some branch)) else None) ≡ Some text → compared (Some branch) ≡ text
    by true e = cc
    by false e = absurd (cc)

-- What follows is of `part`, part K of N of a log.
module _ (part : PartOf) where
  -- whether the branch of a key falls into the part
  abbrev Chosen : KeyParts → Bool
  Chosen key = falls_into part key.branch

  -- an item whose keys are all of the part, or all not, stays or becomes a mark
  -- where the keys are of the part the item stays, and else it becomes a mark
  kept : (item cut : Item) (e : Observation KeyParts) (falls : Bool) → All (λ key. Chosen key ≡ falls) e.keys → cut ≡ (if falls then item else mark_of item) → StaysOrIsMark Chosen item e cut
  kept item cut e true all is = inl (is, inr all)
  kept item cut e false all is = inr (is, all)

  -- an item with a message, as the log of the part has it, stays or becomes a mark as the branch of its message falls
  message_part : (direction : Direction) (item cut : Item) (e : Observation KeyParts) → ObservesMessage direction item e → (branch : List ℕ) → TellsBranch item.text branch
      → cut ≡ (if falls_into part branch then item else mark_of item) → StaysOrIsMark Chosen item e cut
  -- a message with a fault, or whose branch has no cookie, concerns no key
  message_part direction item cut e (has_fault fault says is) branch tells same =
      kept item cut e (falls_into part branch) (subst (All (λ key. Chosen key ≡ falls_into part branch)) (sym (ap (λ f. f.keys) is)) (All-nil (λ key. Chosen key ≡ falls_into part branch))) same
  message_part direction item cut e (has_no_cookie s says lacks is) branch tells same =
      kept item cut e (falls_into part branch) (subst (All (λ key. Chosen key ≡ falls_into part branch)) (sym (ap (λ f. f.keys) is)) (All-nil (λ key. Chosen key ≡ falls_into part branch))) same
  -- all keys of the message have the branch of its top Via
  message_part direction item cut e (is_heard s keys says has concerns is) branch tells same =
      let told : branch ≡ compared s.via.branch = told_branch item.text s branch says tells in
      let all = All-weaker (λ key. cookie_branch s.via.branch ≡ Some key.branch) (λ key. Chosen key ≡ falls_into part branch)
      (λ key of. ap (falls_into part) (sym (told ∙ cookie_compared s.via.branch key.branch of))) keys (of_one_branch s direction keys concerns) in
      kept item cut e (falls_into part branch) (subst (All (λ key. Chosen key ≡ falls_into part branch)) (sym (ap (λ f. f.keys) is)) all) same

  -- an item whose message went some way stays in the log of the part, or becomes a mark, as the branch of its message falls
  abbrev CutSo : Item → Item → Action → Type 0
  CutSo item cut a =
      MatchOption (direction_of a) (cut ≡ item) (λ direction. (branch : List ℕ) × TellsBranch item.text branch × (cut ≡ if falls_into part branch then item else mark_of item))

  -- each item, as the log of the part has it, stays or becomes a mark by its keys
  item_part : (done : List (Observation KeyParts)) (item cut : Item) (e : Observation KeyParts) → Sees done item e → IsPartItem part item cut → StaysOrIsMark Chosen item e cut
  item_part done item cut e sees is_cut = by item.action refl sees is_cut
    where
      -- the item stays or is a mark, whatever its action was
      -- an item with a message is cut by its branch; a mark, which concerns no key, and a restart stay
      by : (a : Action) → item.action ≡ a → SeenAs done item e a → CutSo item cut a → StaysOrIsMark Chosen item e cut
      by Sent is seen (branch, tells, same) = message_part way.Sent item cut e seen branch tells same
      by Received is seen (branch, tells, same) = message_part way.Received item cut e seen branch tells same
      by Failed is seen (branch, tells, same) = message_part way.Sent item cut e seen branch tells same
      by Mark is seen same = inl (same, inr (subst (All (λ key. Chosen key ≡ true)) (sym (ap (λ f. f.keys) seen)) (All-nil (λ key. Chosen key ≡ true))))
      by Restart is seen same = inl (same, inl is)

  -- the log of a part is cut from the whole by the keys whose branches fall into it
  pub part_cut : (done : List (Observation KeyParts)) (items cuts : List Item) (es : List (Observation KeyParts)) → AreSeen done items es → IsPartLog part items cuts → IsCutLog Chosen items es cuts
  part_cut done [] [] [] seen are = tt
  -- each item has its entry and its item of the part, so that no list is longer
  part_cut done [] [] (e ∷ es) seen are = absurd seen
  part_cut done [] (cut ∷ cuts) es seen are = absurd are
  part_cut done (item ∷ items) [] es seen are = absurd are
  part_cut done (item ∷ items) (cut ∷ cuts) [] seen are = absurd seen
  part_cut done (item ∷ items) (cut ∷ cuts) (e ∷ es) (sees, seen) (one, are) = (item_part done item cut e sees one, part_cut (done ++ e ∷ []) items cuts es seen are)
