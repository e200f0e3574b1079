use Rattle.std.proofs.Common.{◌≡◌, ◌++◌, ◌∷◌, [], length, ap, ap₂, ◌∙◌, arith}
use Rattle.std.proofs.lemmas.Grind.{common_steps}
use Rattle.sip_key.specs.inner.KeyText.{length_bytes, role_byte, key_head}
use Rattle.sip_key.proofs.key.begun.Goals as goal

-- the text begins with the role, the two lengths and the branch
pub returns : goal.returns
returns c =
    let branch = c.args.branch.now in
    let method = c.args.method.now in
    let head = key_head c.args.role (length branch) (length method) in
    -- the role comes first, then the two lengths, then the branch
    let side : c.push.new.self.items ≡ role_byte c.args.role ∷ [] =
    c.in_ok-push.ensures.items ∙ ap₂ (λ text byte. text ++ byte ∷ []) c.in_ok-text.ensures.items c.role_byte.ensures in
    let lengths : c.push_length-2.new.text.items ≡ head =
    c.in_ok-push_length-2.ensures ∙ ap (λ text. text ++ length_bytes (length method)) (c.in_ok-push_length.ensures ∙ ap (λ text. text ++ length_bytes (length branch)) side) in
    let texts : c.extend_from_slice.new.self.items ≡ head ++ branch = c.in_ok-extend_from_slice.ensures.items ∙ ap (λ text. text ++ branch) lengths in
    grind (arith, common_steps)
