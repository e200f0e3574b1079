use Rattle.std.proofs.Common.{rules, ◌≡◌, IfSome, subst, map, string_bytes}
use Rattle.std.proofs.lemmas.Option.{IfSome_then}
use Rattle.std.specs.Io.Buffered.{writer_contents, writer_inner}
use Rattle.std.specs.Io.KnownBytes.{Keeps}
use Rattle.sip_standard.specs.Answers.{IsAnswer, IsAnswerTo, log_for}
use Rattle.sip_program.proofs.AnswerLemmas.{IsAnswer-kept}
use Rattle.sip_program.proofs.running.run.Goals as goal

-- what the writer has got is the answer to the words of the system, since the output was flushed after the answer
pub returns-clause-answer : goal.returns-clause-answer
returns-clause-answer g c =
    let asked = c.in-Some.asked in
    let status = c.in_ok-status.status in
    let words = map string_bytes c.in_ok-words.words.items in
    let known = g.S.System.words c.args.system.now in
    let input = g.S.Source.left c.args.system.now in
    let file = g.S.System.file c.args.system.now in
    -- what was told to the output is kept
    let before = writer_contents g.W.Write.contents c.args.output.now.writer in
    let after = writer_contents g.W.Write.contents c.answer.new.writer.writer in
    let got = g.W.Write.contents (writer_inner c.flush.new.self.writer) in
    let kept : Keeps after got = search rules in
    let told : IfSome known (λ theirs. words ≡ theirs) = search rules in
    -- the words, the input and the file are those that the system had
    let same_input : g.S.Source.left c.words.new.self ≡ input = search rules in
    let same_file : g.S.System.file c.words.new.self ≡ file = search rules in
    let answered : IsAnswer asked (log_for asked (g.S.Source.left c.words.new.self) (g.S.System.file c.words.new.self)) before after status = c.in_ok-status.ensures.answer in
    let of_file : IsAnswer asked (log_for asked (g.S.Source.left c.words.new.self) file) before after status =
    subst (λ f. IsAnswer asked (log_for asked (g.S.Source.left c.words.new.self) f) before after status) same_file answered in
    let of_input : IsAnswer asked (log_for asked input file) before after status =
    subst (λ i. IsAnswer asked (log_for asked i file) before after status) same_input of_file in
    let answer : IsAnswerTo words input file before got status = record {
      asked = asked;
      is_asked = search rules;
      is = IsAnswer-kept asked (log_for asked input file) before after got status of_input kept;
    } in
    -- the words that are known are those that the code has
    IfSome_then known told (λ theirs same. subst (λ them. IsAnswerTo them input file before got status) same answer)
