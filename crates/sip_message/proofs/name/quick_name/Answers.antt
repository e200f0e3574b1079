use Rattle.std.proofs.Common.{◌≡◌, ◌+◌, ◌-◌, take, drop, sym, ap, ◌∙◌, arith}
use Rattle.std.proofs.lemmas.List.{take-take, drop-take, take_rest}
use Rattle.sip_message.specs.inner.Numbers.{number_of}
use Rattle.sip_message.proofs.name.quick_name.Goals as goal

-- the first number is that of the first eight bytes
pub halved_name-requires-clause-first : goal.halved_name-requires-clause-first
halved_name-requires-clause-first c =
    c.number_of-first.ensures ∙ ap number_of (sym (take-take 8 c.args.len c.args.window.now (omega (arith, c.if-len-le8.false))))

-- the second number is that of the bytes after these
pub halved_name-requires-clause-second : goal.halved_name-requires-clause-second
halved_name-requires-clause-second c =
    -- the name is its first eight bytes and the `len - 8` bytes after them
    let whole : 8 + (c.args.len - 8) ≡ c.args.len = omega (arith, c.if-len-le8.false) in
    let is : c.number_of-second.result ≡ number_of (take (c.args.len - 8) (drop 8 c.args.window.now)) =
    c.number_of-second.ensures ∙ ap (λ t. number_of (take (c.args.len - 8) t)) (take_rest c.args.window.now 8) in
    is ∙ ap number_of (sym (drop-take 8 (c.args.len - 8) c.args.window.now) ∙ ap (λ n. drop 8 (take n c.args.window.now)) whole)
