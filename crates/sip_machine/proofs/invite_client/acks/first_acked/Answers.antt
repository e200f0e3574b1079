use Rattle.sip_machine.proofs.Words.{◌∙◌, ap, get_or, sym, IfOk-weaker, solid, owed_in, text_of, HasTo, PaysFor, says-no_fault, ◌≡◌, ◌↔◌, ℕ, Bool, IsTrue, refl, List, true≢false, Reading, Reads, Said, said_of, says-reads, AckOf, IsAckOf, SameSolid, ack-of_says, IsToOf}
use Rattle.sip_machine.proofs.acks.HolderLemmas.{FindsFirst-same}
use Rattle.sip_machine.proofs.invite_client.acks.first_acked.Goals as goal

-- where an ACK is one for an INVITE whatever the response is, it belongs to each response that has its To; where it is none, it belongs to no response
-- a and i are how the two are read, and `is` says whether the ACK is one for the INVITE
acked-is : (ack invite response : List ℕ) (a i : Reading) (is : Bool) → Reads ack a → Reads invite i → ((r : Said) → SameSolid (said_of a).to r.to → IsTrue is ↔ IsAckOf (said_of a) (said_of i) r) →
    (to : List ℕ) → to ≡ solid a.parts.to → AckOf ack invite response ↔ (IsTrue is × IsToOf response to)
acked-is ack invite response a i is reads_a reads_i tells to to_is = (
  λ of.
      -- `of.2` is what the response says, and `of.5` that its bytes say this; so they are read as a message
      let (r, reads, _) = says-reads response of.2 of.5 in
      let both = (ack-of_says ack invite response (said_of a) (said_of i) (said_of r) reads_a.says reads_i.says reads.says).0 of in
      ((tells (said_of r) both.to).1 both, record { message = r; reads = reads; is = to_is ∙ both.to }),
  λ (true, its).
      (ack-of_says ack invite response (said_of a) (said_of i) (said_of its.message) reads_a.says reads_i.says its.reads.says).1
      ((tells (said_of its.message) (sym to_is ∙ its.is)).0 true),
)

-- the bytes of the event are no message, so they are the ACK for nothing
pub returns-in_default-clause-finds : goal.returns-in_default-clause-finds
returns-in_default-clause-finds c =
    let fault = rw (c.in_default.is, c.number.ensures) at c.in_ok-ack.ensures in
    λ k d low pays. says-no_fault (text_of c.args.book.now c.args.event.now.number) pays.0.0 fault.0 pays.0.3 fault.1

-- the bytes of the request are no message, so nothing acknowledges it
pub returns-in_default-2-clause-finds : goal.returns-in_default-2-clause-finds
returns-in_default-2-clause-finds c =
    let fault = rw c.in_default-2.is at c.in_ok-invite.ensures in
    λ k d low pays. says-no_fault (text_of c.args.book.now c.args.request) pays.0.1 fault.0 pays.0.4 fault.1

-- an ACK that does not belong to the INVITE pays no debt
pub returns-then-not-is_ack_for-clause-finds : goal.returns-then-not-is_ack_for-clause-finds
returns-then-not-is_ack_for-clause-finds c =
    λ k d low pays.
    let acked = acked-is _ _ _ c.in-Some.ack c.in-Some-2.invite c.is_ack_for.result (rw (c.in-Some.is, c.number.ensures) at c.in_ok-ack.ensures)
    (rw c.in-Some-2.is at c.in_ok-invite.ensures) c.is_ack_for.ensures _ refl in
    true≢false (sym (acked.0 pays.0).0 ∙ c.if-not-is_ack_for.true)

-- an ACK pays the debts whose response has its To and belongs to the INVITE, so the first with that To is the first that it pays
pub returns-clause-finds : goal.returns-clause-finds
returns-clause-finds c =
    let texts = c.args.book.now in
    let t = c.args.event.now.moment in
    let ack = text_of texts c.args.event.now.number in
    let invite = text_of texts c.args.request in
    -- `to` says that the To that is looked for is that of the ACK, without its blanks
    let to = c.of-to.ensures ∙ c.in_ok-to.ensures ∙ ap solid c.to.ensures in
    IfOk-weaker c.first_with_to.result _ _ (λ index finds.
    FindsFirst-same (HasTo texts c.of-to.result t) (PaysFor (AckOf ack invite) texts t) t (owed_in c.args.dues.now c.args.row) index (λ k d low.
    -- an ACK with the To of the response belongs to it exactly if it is one for the INVITE
    let response = text_of texts (get_or (owed_in c.args.dues.now c.args.row) k d).message in
    let acked = acked-is ack invite response c.in-Some.ack c.in-Some-2.invite c.is_ack_for.result
    (rw (c.in-Some.is, c.number.ensures) at c.in_ok-ack.ensures) (rw c.in-Some-2.is at c.in_ok-invite.ensures) c.is_ack_for.ensures c.of-to.result to in
    (λ has. (acked.1 (c.if-not-is_ack_for.false, has.0), has.1), λ pays. ((acked.0 pays.0).1, pays.1))) finds)
    (rw c.moment.ensures at c.first_with_to.ensures.finds)
