use Rattle.sip_log.proofs.laws.an_entry_is_written_as_it_was_read.Goals as goal

-- an entry that was read has its limits and its spelling
pub returns : goal.returns
returns c = λ format count last rest e behind is. (is.0, is.3.1)
