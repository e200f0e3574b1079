use Rattle.std.proofs.Common.{◌≡◌, IfSome, map, string_bytes, rules}
use Rattle.sip_survey_program.proofs.Answered.{answered_to}
use Rattle.sip_survey_program.proofs.running.run.Goals as goal

-- the answer is that to what the words ask for, with the log that they name
pub returns-clause-answer : goal.returns-clause-answer
returns-clause-answer g c =
    -- `words` are those that the code has; they are the system's, where these are known, and to ask for them changed nothing else
    let words = map string_bytes c.as_slice.result.now in
    let told : IfSome (g.S.System.words c.args.system.now) (λ known. words ≡ known) = search rules in
    let same : g.S.Source.left c.words.new.self ≡ g.S.Source.left c.args.system.now = search rules in
    let files : g.S.System.file c.words.new.self ≡ g.S.System.file c.args.system.now = search rules in
    answered_to (g.S.System.words c.args.system.now) words c.in-Some.asked c.answer.result (g.S.Source.left c.words.new.self) (g.S.Source.left c.args.system.now) (g.S.System.file c.words.new.self) (g.S.System.file c.args.system.now)
    _ _ told c.in-Some.ensures same files c.answer.ensures.answer
