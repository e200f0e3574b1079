-- A log can be cut by branch, since all keys of a message have the branch of its top Via.
use Rattle.std.proofs.Common.{◌≡◌, inl, inr, ℕ, Bool, true, false, Option, Some, None, List, [], ◌∷◌, ◌++◌, All, if◌then◌else◌, refl, sym, ap, ◌∙◌, subst}
use Rattle.std.specs.Prelude.{option_map, option_to_list, codes, bytes_eq}
use Rattle.std.proofs.lemmas.List.Elements.{All-nil, All-cons, All-append, All-weaker}
use Rattle.sip_standard.specs.Says.{Said}
use Rattle.sip_standard.specs.declared.role.Role.{Role}
use Rattle.sip_standard.specs.declared.role.Role.TheVariants.{Client}
use Rattle.sip_standard.specs.declared.role.Direction.{Direction}
use Rattle.sip_standard.specs.declared.role.Direction.TheVariants as way
use Rattle.sip_standard.specs.Key.{KeyParts}
use Rattle.sip_standard.specs.Branch.{cookie_branch}
use Rattle.sip_standard.specs.Concerns.{Concerns, role_of, sent_by_of, method_of, is_sent}
use Rattle.sip_standard.specs.declared.action.Action.{Action}
use Rattle.sip_standard.specs.declared.action.Action.TheVariants.{Sent, Received, Failed, Mark, Restart}
use Rattle.sip_standard.specs.LogEntry.{Item}
use Rattle.sip_standard.specs.Observation.{Observation, ObservesMessage, has_fault, has_no_cookie, is_heard}
use Rattle.sip_standard.specs.Seen.{AreSeen}
use Rattle.sip_standard.specs.VerdictOf.{Sees}
use Rattle.sip_verdict.specs.SurveyLaws.{StaysOrIsMark, IsCutLog}
use Rattle.sip_verdict.proofs.surveys.parts.CutLogs.{SeenAs}

-- the key of a message with a branch has this branch
own_branch : (role : Role) (sent_by method : List ℕ) (branch : Option (List ℕ))
    → All {X = KeyParts} (λ key. branch ≡ Some key.branch) (option_to_list (option_map (λ text. record { role = role; branch = text; sent_by = sent_by; method = method }) branch))
own_branch role sent_by method None = All-nil (λ key. None ≡ Some key.branch)
own_branch role sent_by method (Some text) =
    All-cons (λ key. Some text ≡ Some key.branch) (record { role = role; branch = text; sent_by = sent_by; method = method }) [] refl (All-nil (λ key. Some text ≡ Some key.branch))

-- the key of the transaction that a CANCEL cancels has the branch of the CANCEL
cancelled_branch : (cancels : Bool) (branch : Option (List ℕ))
    → All {X = KeyParts} (λ key. branch ≡ Some key.branch) (option_to_list (if cancels then option_map (λ text. record { role = Client; branch = text; sent_by = []; method = codes "INVITE" }) branch else None))
cancelled_branch true branch = own_branch Client [] (codes "INVITE") branch
cancelled_branch false branch = All-nil (λ key. branch ≡ Some key.branch)

-- all keys that a message concerns have the branch of its top Via
pub of_one_branch : (s : Said) (direction : Direction) (keys : List KeyParts) → Concerns s direction keys → All (λ key. cookie_branch s.via.branch ≡ Some key.branch) keys
of_one_branch s direction keys concerns =
    let branch = cookie_branch s.via.branch in
    subst (All {X = KeyParts} (λ key. branch ≡ Some key.branch)) (sym concerns)
    (All-append (λ key. branch ≡ Some key.branch) _ _ (own_branch (role_of s.start direction) (sent_by_of (role_of s.start direction) s.via) (method_of s.start s.cseq.1) branch)
    (cancelled_branch (is_sent (λ method. bytes_eq method (codes "CANCEL")) s.start direction) branch))

-- What follows is of the branches that are chosen: `chosen` says which are.
module _ (chosen : List ℕ → Bool) where
  -- the item has a form in the log of the chosen branches: it stays, or becomes a mark
  abbrev Cut : Item → Observation KeyParts → Type 0
  Cut item e = (cut : Item) × StaysOrIsMark (λ key. chosen key.branch) item e cut

  -- an item that concerns no key has such a form: it stays
  none_stays : (item : Item) (e : Observation KeyParts) → e.keys ≡ [] → Cut item e
  none_stays item e none = (item, inl (refl, inr (subst (All (λ key. chosen key.branch ≡ true)) (sym none) (All-nil (λ key. chosen key.branch ≡ true)))))

  -- an item all of whose keys have one branch stays or becomes a mark, as the branch is chosen or not
  one_cut : (item : Item) (e : Observation KeyParts) (branch : Option (List ℕ)) → All {X = KeyParts} (λ key. branch ≡ Some key.branch) e.keys → Cut item e
  one_cut item e None all = (item, inl (refl, inr (All-weaker (λ key. None ≡ Some key.branch) (λ key. chosen key.branch ≡ true) (λ key is. absurd (cc)) e.keys all)))
  one_cut item e (Some text) all = by (chosen text) refl
    where
      -- a key with this branch has its bytes
      same : (key : KeyParts) → Some text ≡ Some key.branch → text ≡ key.branch
      same key is = cc

      -- the item is cut as its branch asks, whether or not the branch is chosen
      by : (b : Bool) → chosen text ≡ b → Cut item e
      by true is = (item, inl (refl, inr (All-weaker (λ key. Some text ≡ Some key.branch) (λ key. chosen key.branch ≡ true) (λ key has. ap chosen (sym (same key has)) ∙ is) e.keys all)))
      by false is = (
        record { action = Mark; moment = item.moment; text = [] },
        inr (refl, All-weaker (λ key. Some text ≡ Some key.branch) (λ key. chosen key.branch ≡ false) (λ key has. ap chosen (sym (same key has)) ∙ is) e.keys all),
      )

  -- an item of whose message keys are observed stays or becomes a mark
  -- a message with a fault, or whose branch has no cookie, concerns no key; the keys of any other have the branch of its Via
  message_cut : (direction : Direction) (item : Item) (e : Observation KeyParts) → ObservesMessage direction item e → Cut item e
  message_cut direction item e (has_fault fault says is) = none_stays item e (ap (λ f. f.keys) is)
  message_cut direction item e (has_no_cookie s says lacks is) = none_stays item e (ap (λ f. f.keys) is)
  message_cut direction item e (is_heard s keys says has concerns is) =
      one_cut item e (cookie_branch s.via.branch) (subst (All (λ key. cookie_branch s.via.branch ≡ Some key.branch)) (sym (ap (λ f. f.keys) is)) (of_one_branch s direction keys concerns))

  -- each item that is seen stays or becomes a mark
  item_cut : (done : List (Observation KeyParts)) (item : Item) (e : Observation KeyParts) → Sees done item e → Cut item e
  item_cut done item e sees = by item.action refl sees
    where
      -- the item is cut as it must be, whatever its action is
      by : (a : Action) → item.action ≡ a → SeenAs done item e a → Cut item e
      by Sent is seen = message_cut way.Sent item e seen
      by Received is seen = message_cut way.Received item e seen
      by Failed is seen = message_cut way.Sent item e seen
      by Mark is seen = none_stays item e (ap (λ f. f.keys) seen)
      by Restart is seen = (item, inl (refl, inl is))

  -- a log of the chosen branches exists
  pub branch_cut : (done : List (Observation KeyParts)) (items : List Item) (es : List (Observation KeyParts)) → AreSeen done items es → (cuts : List Item) × IsCutLog (λ key. chosen key.branch) items es cuts
  branch_cut done [] [] seen = ([], tt)
  -- each item has its entry
  branch_cut done [] (e ∷ es) seen = absurd seen
  branch_cut done (item ∷ items) [] seen = absurd seen
  branch_cut done (item ∷ items) (e ∷ es) (sees, seen) =
      let one = item_cut done item e sees in
      let rest = branch_cut (done ++ e ∷ []) items es seen in
      (one.0 ∷ rest.0, (one.1, rest.1))
