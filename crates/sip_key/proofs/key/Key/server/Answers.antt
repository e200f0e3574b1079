use Rattle.std.proofs.Common.{◌≡◌, ◌++◌, ◌∷◌, List, ℕ, length, option_copied, decimal, ap, ◌∙◌}
use Rattle.sip_standard.specs.Case.{folded}
use Rattle.sip_text.specs.Bytes.{colon}
use Rattle.sip_standard.specs.SentBy.{port_number, sent_by}
use Rattle.sip_standard.specs.declared.role.Role.TheVariants.{Server}
use Rattle.sip_key.specs.inner.KeyText.{key_head, key_text, parts_of}
use Rattle.sip_key.proofs.KeyLemmas.{begun_folded, built, keyed}
use Rattle.sip_key.proofs.key.Key.server.Goals as goal
use Rattle.sip_key.proofs.key.Key.server.Goals.{In_ok-extend_from_slice-2}

-- the text that was made is that of a server's key with this branch, sent-by and method
made : (c : In_ok-extend_from_slice-2) → let text = c.extend_from_slice-2.new.self.items in
    (parts_of text ≡ record { role = Server; branch = folded c.args.branch.now; sent_by = sent_by c.args.host.now (option_copied c.args.port); method = c.args.method.now })
    × (text ≡ key_text (parts_of text))
made c =
    let branch = c.args.branch.now in
    let host = c.args.host.now in
    let head = key_head Server (length branch) (length c.args.method.now) in
    -- the role, the lengths, the branch and the host, folded, stand before the port and the method
    let begun = c.fold.new.text.items in
    let begun_is : begun ≡ head ++ folded (branch ++ host) =
    c.fold.ensures ∙ ap folded (c.in_ok-extend_from_slice.ensures.items ∙ ap (λ text. text ++ host) c.in_ok-text.ensures) ∙ begun_folded Server (length branch) (length c.args.method.now) branch host in
    let port : List ℕ = colon ∷ decimal (port_number (option_copied c.args.port)) in
    let ported : c.push_port.new.text.items ≡ begun ++ port = c.in_ok-push_port.ensures in
    -- `built` says that the text is that of the key with these parts, and `keyed` that the parts which the text tells are then these
    keyed (record { role = Server; branch = folded branch; sent_by = folded host ++ port; method = c.args.method.now }) c.extend_from_slice-2.new.self.items
    (built Server branch host port c.args.method.now begun c.extend_from_slice-2.new.self.items begun_is
    (c.in_ok-extend_from_slice-2.ensures.items ∙ ap (λ text. text ++ c.args.method.now) ported))

-- the text that was made keeps what is always true of a key
pub invariant_of-result : goal.invariant_of-result
invariant_of-result c = (made (goal.at.invariant_of-result c).In_ok-extend_from_slice-2).1

-- the key is that of the server with this branch, sent-by and method
pub returns : goal.returns
returns c = (made (goal.at.returns c).In_ok-extend_from_slice-2).0
