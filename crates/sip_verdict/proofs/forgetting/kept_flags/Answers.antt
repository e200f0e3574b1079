use Rattle.std.proofs.Common.{◌≡◌, ◌+◌, ◌-◌, ◌∙◌, ◌∷◌, [], Some, length, length-append, slice_get, sym, ap, subst, arith}
use Rattle.std.specs.Prelude.{not}
use Rattle.sip_verdict.specs.inner.Forgetting.{TellsPast}
use Rattle.sip_verdict.proofs.surveys.forgetting.Forgotten.{flags_more}
use Rattle.sip_verdict.proofs.forgetting.kept_flags.Goals as goal

-- one flag more is right: it says whether the next transaction is kept
pub loop-index-preserved : goal.loop-index-preserved
loop-index-preserved g c =
    -- t are the tables, b the histories, `flags` those so far, and `past` says whether the next transaction is quiet and has no entry after `until`
    let t = c.args.tables.now in
    let b = c.args.histories.now in
    let inv = c.loop-index.invariant in
    let flags = c.loop-index.flags.items in
    let past = c.is_past.result in
    let pushed = c.in_ok-push.ensures.items in
    -- the flag stands at the place of the next transaction
    let place : length flags ≡ c.loop-index.index + 1 - 1 = omega (arith, inv.long) in
    record {
      long = ap length pushed ∙ length-append flags (not past ∷ []) ∙ ap (λ n. n + 1) inv.long;
      each = subst (TellsPast c.args.until t b) (sym pushed) (flags_more c.args.until t b flags past (λ set h at of.
          c.is_past.ensures set h (subst (λ k. slice_get t.sets k ≡ Some set) place at) (subst (λ k. slice_get b.each.items k ≡ Some h) place of)) inv.each);
    }
