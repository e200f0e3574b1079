use Rattle.std.proofs.Common.{◌≡◌, ◌+◌, ◌++◌, ◌∷◌, [], ◌∙◌, false, length, length-append, append-nil, append_assoc, refl, sym, ap}
use Rattle.std.proofs.lemmas.List.Elements.{All-nil, All-push}
use Rattle.sip_verdict.proofs.troubled.Troubled.grow.Goals as goal

-- no flag was added yet
pub loop-init : goal.loop-init
loop-init c = record { long = sym (c.len-counter.ensures ∙ c.args.self.now.deaf.ok.0); deaf = ([], sym (append-nil c.args.self.now.deaf.items), All-nil (λ d. d ≡ false)); broken = refl; wide = refl }

-- one flag more was added: a new transaction is in no trouble
pub loop-preserved : goal.loop-preserved
loop-preserved c =
    -- `old` is what held at the start of this turn of the loop, `more` are the flags that it had added, and `pushed` says that one more was
    let old = c.loop.invariant in
    let more = old.deaf.0 in
    let pushed = c.in_ok-push.ensures.items in
    record {
      long = ap length pushed ∙ length-append c.loop.self.deaf.items (false ∷ []) ∙ ap (λ n. n + 1) old.long;
      -- the flags grew by one more that is false
      deaf = (
        more ++ false ∷ [],
        pushed ∙ ap (λ ds. ds ++ false ∷ []) old.deaf.1 ∙ append_assoc c.args.self.now.deaf.items more (false ∷ []),
        All-push (λ d. d ≡ false) more false old.deaf.2 refl,
      );
      broken = old.broken;
      wide = old.wide;
    }
