-- The line of a state in a listing, as the code writes it.
use Rattle.std.specs.Prelude.{◌++◌, ℕ, List}
use Rattle.sip_machine.specs.Told.{told_of}
use Rattle.sip_ledger.specs.Runs.{debts_in}
use Rattle.sip_states.specs.declared.told.ToldState.{ToldState}
use Rattle.sip_standard.specs.StateText.{phase_text}
use Rattle.sip_listing.specs.inner.FieldWords.{debts_fields}

-- the text of a told state, whose messages are told by the code's numbers
abbrev pub state_line : ToldState → List ℕ
state_line state = phase_text (told_of state.phase) ++ debts_fields (debts_in state.owes.items)
