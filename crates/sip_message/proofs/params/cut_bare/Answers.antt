use Rattle.std.proofs.Common.{◌≡◌, List, ℕ, Bor, Option, Some, None, option_copied, false, refl, sym, ◌∙◌}
use Rattle.std.specs.Prelude.{is_some}
use Rattle.std.proofs.lemmas.Bool.{both_ways}
use Rattle.sip_message.proofs.lemmas.params.Value.{bare-token_front}
use Rattle.sip_message.proofs.params.cut_bare.Goals as goal

-- where there is nothing, its copy is nothing
copied-none : (o : Option (Bor (List ℕ))) → is_some o ≡ false → option_copied o ≡ None
copied-none None is = refl
copied-none (Some v) is = absurd (both_ways (is_some (Some v)) is refl)

-- no colon follows the token, so the value is the token
pub returns-then-is_none : goal.returns-then-is_none
returns-then-is_none c =
    bare-token_front c.args.text.now c.in-Some.token.now c.in-Some.rest.now c.in-Some.ensures
    (sym c.past.ensures ∙ copied-none c.past.result c.if-is_none.ensures)
