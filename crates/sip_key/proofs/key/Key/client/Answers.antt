use Rattle.std.proofs.Common.{◌≡◌, ◌++◌, [], length, append-nil, ap, sym, ◌∙◌}
use Rattle.sip_standard.specs.Case.{folded}
use Rattle.sip_standard.specs.declared.role.Role.TheVariants.{Client}
use Rattle.sip_key.specs.inner.KeyText.{key_head, key_text, parts_of}
use Rattle.sip_key.proofs.KeyLemmas.{begun_folded, built, keyed}
use Rattle.sip_key.proofs.key.Key.client.Goals as goal
use Rattle.sip_key.proofs.key.Key.client.Goals.{In_ok-extend_from_slice}

-- the text that was made is that of a client's key with this branch and method
made : (c : In_ok-extend_from_slice) → let text = c.extend_from_slice.new.self.items in
    (parts_of text ≡ record { role = Client; branch = folded c.args.branch.now; sent_by = []; method = c.args.method.now }) × (text ≡ key_text (parts_of text))
made c =
    let branch = c.args.branch.now in
    let head = key_head Client (length branch) (length c.args.method.now) in
    -- the role, the lengths and the branch, folded, stand before the method, with no sent-by
    let begun = c.fold.new.text.items in
    let begun_is : begun ≡ head ++ folded (branch ++ []) =
    c.fold.ensures ∙ ap folded (c.in_ok-text.ensures ∙ sym (append-nil (head ++ branch))) ∙ begun_folded Client (length branch) (length c.args.method.now) branch [] in
    -- `built` says that the text is that of the key with these parts, and `keyed` that the parts which the text tells are then these
    keyed (record { role = Client; branch = folded branch; sent_by = []; method = c.args.method.now }) c.extend_from_slice.new.self.items
    (built Client branch [] [] c.args.method.now begun c.extend_from_slice.new.self.items begun_is
    (c.in_ok-extend_from_slice.ensures.items ∙ ap (λ text. text ++ c.args.method.now) (sym (append-nil begun))))

-- the text that was made keeps what is always true of a key
pub invariant_of-result : goal.invariant_of-result
invariant_of-result c = (made (goal.at.invariant_of-result c).In_ok-extend_from_slice).1

-- the key is that of the client with this branch and method
pub returns : goal.returns
returns c = (made (goal.at.returns c).In_ok-extend_from_slice).0
