use Rattle.std.proofs.Common.{◌++◌, refl}
use Rattle.sip_log.specs.Next.{gives}
use Rattle.sip_standard.specs.LogEntry.{entry_says}
use Rattle.sip_log.proofs.logs.Logs.{next-one}
use Rattle.sip_log.proofs.laws.an_entry_is_read_as_it_was_written.Goals as goal

-- the spelling of an entry, with anything after it, is read as that entry
pub returns : goal.returns
returns c = λ format count last e behind next few order entry is. next-one format count last (entry_says e ++ behind) next (gives e behind) is (refl, few, order, entry)
