use Rattle.std.proofs.Common.{inl, inr, sym, subst}
use Rattle.sip_machine.specs.Texts.{Keeps}
use Rattle.sip_machine.proofs.texts.TextLaws.{Keeps-grow}
use Rattle.machine_tests.proofs.messages.forget.Goals as goal

-- the book is as before, or without its newest message
-- What is asked is that no number `n` of the book is above the highest; `c.requires` says so of the book before.
pub returns : goal.returns
returns c n keeps =
    elim c.forget_newest.ensures [
      | inl same ↦ c.requires n (subst (λ b. Keeps b n) same keeps)
      | inr gone ↦ c.requires n (subst (λ b. Keeps b n) (sym gone.1) (Keeps-grow c.forget_newest.new.self c.args.number gone.0 n keeps))
    ]
