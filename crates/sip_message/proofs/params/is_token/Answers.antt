use Rattle.std.proofs.Common.{ap, nat_eq, length, sym}
use Rattle.std.proofs.lemmas.Bool.{both_ways, eqb-true, eq-eqb}
use Rattle.sip_message.proofs.lemmas.params.Value.{token-whole, whole-token}
use Rattle.sip_message.proofs.params.is_token.Goals as goal

-- the text is a token exactly if its longest front of bytes of tokens is all of it
pub returns-then-not-is_empty : goal.returns-then-not-is_empty
returns-then-not-is_empty c = (
  -- if: the longest token is all of the text, which is not empty
  λ same. token-whole c.args.text.now c.token_len.result c.token_len.ensures.reads
      (λ none. both_ways (nat_eq (length c.args.text.now) 0) (sym c.if-not-is_empty.ensures) (ap (λ t. nat_eq (length t) 0) none))
      (eqb-true c.token_len.result (length c.args.text.now) same),
  -- only if: a token is its own longest front
  λ token. eq-eqb c.token_len.result (length c.args.text.now) (whole-token c.args.text.now c.token_len.result c.token_len.ensures.reads c.token_len.ensures.within token),
)
