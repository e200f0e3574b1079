use Rattle.std.proofs.Common.{◌≡◌, ◌++◌, replicate, string_bytes}
use Rattle.sip_listing.specs.inner.FieldWords.{debts_fields}
use Rattle.sip_listing.proofs.fields.push_run.Given as goal

-- the fields of the debt were appended `time` times
abbrev pub invariant-loop-time : goal.invariant-loop-time
invariant-loop-time l = string_bytes l.line ≡ string_bytes l.fn.line ++ debts_fields (replicate l.time l.run.debt)
