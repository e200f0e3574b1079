use Rattle.std.specs.Prelude.{IfSome}
use Rattle.std.proofs.Common.{sym, ◌∙◌, ap, subst}
use Rattle.sip_standard.specs.Profile.{Port}
use Rattle.sip_standard.specs.Via.{SaidVia}
use Rattle.sip_message.specs.SaidOf.{said_of}
use Rattle.sip_standard.specs.Branch.{cookie_branch}
use Rattle.sip_standard.specs.Concerns.{role_of, sent_by_of}
use Rattle.sip_message.proofs.lemmas.says.Reading.{reads-parts}
use Rattle.sip_key.proofs.ConcernLemmas.{top-port, own-is}
use Rattle.sip_key.proofs.concern.key_of.Goals as goal

-- the port of the top Via is a port by the grammar
pub key_with-requires : goal.key_with-requires
key_with-requires c =
    let P : SaidVia → Type 0 = λ v. IfSome v.port Port in
    subst P (sym c.top_via-via.ensures) (top-port _ _ (reads-parts _ _ c.known.ensures.1))

-- the role, the branch, the sent-by and the method are those of the message, so the key is that of its own transaction
pub returns : goal.returns
returns c =
    -- d is the direction; the code has read the start line and the top Via of the message
    let d = c.args.direction in
    let start = c.start-start.ensures in
    let via = c.top_via-via.ensures in
    -- `own-is`: a key with the role, the branch, the sent-by and the method of a message is its own key; each line after it shows one of these four parts
    own-is (said_of c.args.message.now) d _ _ _ _ c.in_ok-key.ensures
    (c.role_of-role.ensures ∙ ap (λ s. role_of s d) start)
    (sym (ap (λ (v : SaidVia). cookie_branch v.branch) via) ∙ c.in-Some.ensures)
    (ap (sent_by_of c.role_of-role.result) via)
    c.method_of.ensures
