use Rattle.sip_ledger.proofs.Lemmas.{arith, gains-dropped, length, refl, ◌+◌, ◌-◌, ◌∙◌, ◌≡◌}
use Rattle.sip_ledger.proofs.accounts.gains.Gains.drop_to.Goals as goal

-- without the gains before the place, those from it on are as they were
pub returns : goal.returns
returns c =
    let g = c.args.self.now in
    let len : c.len.result ≡ length g.entries.items = c.len.ensures ∙ g.entries.ok.0 in
    let here : c.args.place - (g.end - c.len.result) + (g.end - length g.entries.items) ≡ c.args.place = omega (arith, len, c.requires.gained.long, c.requires.from) in
    let all = gains-dropped g _ c.args.place _ c.requires.gained here c.requires.within c.drop_first.ensures c.drop_first-2.ensures refl refl refl refl refl c.requires.none in
    record { gained = all.0; dropped = all.1 }
