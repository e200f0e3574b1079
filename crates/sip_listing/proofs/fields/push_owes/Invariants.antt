use Rattle.std.proofs.Common.{◌≡◌, ◌++◌, take, flat_map, replicate, string_bytes}
use Rattle.sip_listing.specs.inner.FieldWords.{debts_fields}
use Rattle.sip_listing.proofs.fields.push_owes.Given as goal

-- the fields of the debts of the runs so far were appended
abbrev pub invariant-loop-run : goal.invariant-loop-run
invariant-loop-run l =
    string_bytes l.line ≡ string_bytes l.fn.line ++ debts_fields (flat_map (λ run. replicate run.count run.debt) (take l.run-index l.owes))
