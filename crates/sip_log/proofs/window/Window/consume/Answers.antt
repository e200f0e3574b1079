use Rattle.std.proofs.Common.{ℕ, arith}
use Rattle.std.proofs.lemmas.List.{length-take, length-drop}
use Rattle.sip_log.proofs.lines.WindowLemmas.{consumed}
use Rattle.sip_log.proofs.window.Window.consume.Goals as goal

-- what is left is what was unread but for its first bytes
pub returns : goal.returns
returns c =
    let w = c.args.self.now in
    consumed w.bytes.items w.start w.end c.args.count (omega (arith, length-take {A = ℕ}, length-drop {A = ℕ}))
