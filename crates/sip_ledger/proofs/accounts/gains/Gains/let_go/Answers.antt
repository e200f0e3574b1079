use Rattle.sip_ledger.proofs.Lemmas.{ap, gains-let_go, length, no_flags, refl, set, ℕ, ◌-◌, ◌∙◌, ◌≡◌}
use Rattle.sip_ledger.proofs.accounts.gains.Gains.let_go.Goals as goal

-- without the gain at the place, its message and the set of what must be sent lack it, and the others are as they were
pub returns : goal.returns
returns c =
    let g = c.args.self.now in
    let place = c.args.place in
    let len : c.len.result ≡ length g.entries.items = c.len.ensures ∙ g.entries.ok.0 in
    let messages = rw c.entry-message.ensures at c.take.ensures in
    gains-let_go g _ place c.requires.gained c.requires.kept refl (ap (λ (n : ℕ). set g.flags.items (place - (g.end - n)) no_flags) len) refl refl refl messages c.take-2.ensures
