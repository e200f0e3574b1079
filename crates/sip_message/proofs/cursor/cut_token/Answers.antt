use Rattle.std.proofs.Common.{◌≡◌, List, ℕ, take, drop, sym, ap, ◌∙◌, subst}
use Rattle.std.proofs.lemmas.List.{take_rest}
use Rattle.sip_standard.specs.Profile.{Token}
use Rattle.sip_text.specs.Front.{IsLongestFront}
use Rattle.sip_message.specs.inner.Fronts.{TokenFront}
use Rattle.sip_message.proofs.lemmas.front.Cuts.{token-cut, no-token, same-token}
use Rattle.sip_message.proofs.cursor.cut_token.Goals as goal

-- the longest front of token bytes is empty, so no token stands there
pub returns-then-len-eq0 : goal.returns-then-len-eq0
returns-then-len-eq0 c (t, r) =
    no-token c.args.text.now (subst (IsLongestFront Token c.args.text.now) c.if-len-eq0.true c.token_len-len.ensures.reads) t r

-- the longest run of token bytes is the one token at the front
pub returns : goal.returns
returns c =
    -- n is the length of the longest token at the front
    let text = c.args.text.now in
    let n = c.token_len-len.result in
    let front = token-cut text n c.token_len-len.ensures.reads c.if-len-eq0.false in
    subst (λ t. TokenFront text (take n text, t) × ((x : List ℕ × List ℕ) → TokenFront text x → x ≡ (take n text, t))) (sym (take_rest text n)) (
      front,
      -- another token at the front, after which no token byte comes, is the same
      (λ x is.
          let same = same-token text x.0 x.1 (take n text) (drop n text) is front in
          ap (λ t. (t, x.1)) same.0 ∙ ap (λ t. (take n text, t)) same.1),
    )
