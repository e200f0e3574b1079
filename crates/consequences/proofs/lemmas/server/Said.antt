-- What a server has sent as provisional responses, and what it owes.
-- `Unit {0}` holds anyway, by `tt`.
use Rattle.std.proofs.Common.{◌≡◌, ◌<◌, ◌⊎◌, ℕ, Option, Some, None, List, ◌∷◌, ◌++◌, length, All, sym, subst, ◌∙◌, arith}
use Rattle.std.specs.List.{Any}
use Rattle.std.proofs.lemmas.List.Elements.{All-head, All-contains}
use Rattle.std.specs.Prelude.{slice_index_or}
use Rattle.sip_standard.specs.declared.action.Action.TheVariants.{Sent, Failed}
use Rattle.sip_standard.specs.declared.kind.Kind.TheVariants.{Response}
use Rattle.sip_standard.specs.MachineEvent.{MachineEvent}
use Rattle.sip_standard.specs.Kind.{IsProvisional, IsFinal}
use Rattle.sip_standard.specs.Debts.{Owed, IsWithoutFirst}
use Rattle.consequences.specs.Events.{IsResponse, SendsResponse}
use Rattle.sip_phases.proofs.debts.DebtLaws.{All-back}
use Rattle.consequences.proofs.lemmas.run.Lists.{any-earlier}

-- a message is sent by the event, or refused by its transport
abbrev pub IsOut : MachineEvent → Type 0
IsOut e = (e.action ≡ Sent) ⊎ (e.action ≡ Failed)

-- one of the events sends a provisional response of these bytes
abbrev pub IsSaid : List MachineEvent → List ℕ → Type 0
IsSaid es message = Any (λ g. SendsResponse IsProvisional g × (g.text ≡ message)) es

-- one of the events sends the last provisional response, if there is one
abbrev pub IsSaidLast : List MachineEvent → Option (List ℕ) → Type 0
IsSaidLast es None = Unit {0}
IsSaidLast es (Some last) = IsSaid es last

-- a property of all debts is one of the debt that is paid
pub all-first : (P Q : Owed → Type 0) (xs ys : List Owed) (a : IsWithoutFirst P xs ys) → All Q xs → Q a.first
all-first P Q xs ys a all = All-head Q a.first a.after (All-back Q a.before (a.first ∷ a.after) (subst (All Q) a.whole all))

-- a provisional response that was sent was sent after more events too
pub said-later : (es more : List MachineEvent) (message : List ℕ) → IsSaid es message → IsSaid (es ++ more) message
said-later es more message said = any-earlier (λ g. SendsResponse IsProvisional g × (g.text ≡ message)) es more said

-- the last provisional response was sent after more events too
pub said-last-later : (es more : List MachineEvent) (last : Option (List ℕ)) → IsSaidLast es last → IsSaidLast (es ++ more) last
said-last-later es more None said = tt
said-last-later es more (Some last) said = said-later es more last said

-- a response has one code
pub codes-are-one : (a b : ℕ) → Response a ≡ Response b → a ≡ b
codes-are-one a b same = cc

-- What follows is of `final`, with which a server sends a final response after the events `before`: those of them with its bytes have its kind.
module _ (before : List MachineEvent) (final : MachineEvent) (is_final : SendsResponse IsFinal final) (one_kind : All (λ g. g.text ≡ final.text → g.kind ≡ final.kind) before) where
  -- a final response is no provisional one
  pub not-provisional : (code : ℕ) → final.kind ≡ Response code → ¬ (IsProvisional code)
  not-provisional code kind is_provisional = by is_final.1
    where
      -- a provisional code would not be that of a final response
      by : ¬ (IsResponse IsFinal final)
      by (other, is_other, (low, high)) =
          let same : other ≡ code = codes-are-one other code (sym is_other ∙ kind) in
          absurd (omega (arith, same, low, is_provisional.1))

  -- the bytes of the final response were not sent before as a provisional one
  pub not-said : ¬ (IsSaid before final.text)
  not-said said =
      let (k, g, low, at, (sends, same)) = said in
      let kinds = any-one (λ h. h.text ≡ final.text → h.kind ≡ final.kind) before one_kind k g low at in
      not-provisional sends.1.0 (sym (kinds same) ∙ sends.1.1) sends.1.2
    where
      -- what holds of all elements holds of the one at place k
      any-one : (P : MachineEvent → Type 0) (es : List MachineEvent) → All P es → (k : ℕ) (g : MachineEvent) → k < length es → slice_index_or es k g ≡ g → P g
      any-one P es all k g low at = All-contains P es g all (k, low, at)
