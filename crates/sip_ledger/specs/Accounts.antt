use Rattle.std.specs.Prelude.{ℕ, Bool, List, [], take, ◌≡◌, ◌↔◌, ◌==◌, ◌/◌, ◌*◌, ◌%◌, ◌^◌, ◌&&◌, ◌++◌, Contains, IsTrue, bit_xor, filter, get_or, map}
use Rattle.std.specs.List.{fold, list_any, sum_by}
use Rattle.sip_ledger.specs.declared.debt.Debt.{Debt}
use Rattle.sip_ledger.specs.Debts.{counts_at, is_payable, is_timely, paid_by}
use Rattle.sip_ledger.specs.Lists.{Rise}

-- What each of many states owes: a list of debts, oldest first.

-- what one of them owes
abbrev pub owed_in : List (List Debt) → ℕ → List Debt
owed_in rows row = get_or rows row []

-- what is left, after a send of the message at t, to those that it pays and that must send nothing that is past
abbrev pub paid_rows : ℕ → ℕ → List (List Debt) → List (List Debt)
paid_rows message t rows =
    map (λ owes. filter (counts_at t) (paid_by message t owes)) (filter (λ owes. list_any (is_payable message t) owes && is_timely t owes) rows)

-- a number that is made of another one and a word; the factor is odd and near 2^64 divided by the golden ratio, so that it spreads the bits of near
-- numbers, and 2^64 is where the code's numbers end
abbrev pub mixed : ℕ → ℕ → ℕ
mixed print word = bit_xor print word * 11400714819323198485 % 2 ^ 64

-- a number for a message and a deadline, which tells most apart at once; its upper half, the quotient by 2^32, is mixed in at the end
unfoldable pub worth_of : ℕ → ℕ → ℕ
worth_of message deadline = mixed (mixed (mixed 1 message) deadline) (mixed (mixed 1 message) deadline / 2 ^ 32)

-- a number for debts, whatever has to be paid: the sum of their numbers
unfoldable pub debts_print : List Debt → ℕ
debts_print debts = sum_by (λ debt. worth_of debt.message debt.deadline) debts % 2 ^ 64

-- a number for debts in their order, whatever has to be paid: each is mixed in after the others
unfoldable pub order_print : List Debt → ℕ
order_print debts = fold (λ print debt. mixed (mixed print debt.message) debt.deadline) 1 debts

-- a number for debts, in which the order of the first ones counts too, of so many at most
abbrev pub front_print : ℕ → List Debt → ℕ
front_print most debts = mixed (debts_print debts) (order_print (take most debts))

-- whether one of the debts is of the message
abbrev pub owes_message : ℕ → List Debt → Bool
owes_message message debts = list_any (λ debt. debt.message == message) debts

-- whether one of the rows owes the message
abbrev pub some_owes : ℕ → List (List Debt) → Bool
some_owes message rows = list_any (owes_message message) rows

-- the new numbers are the old ones, and after them those of the messages that rows owe, from the least on, each once
pub record AppendsOwed (rows : List (List Debt)) (old new : List ℕ) : Type 0 where
  pub names : List ℕ
  pub whole : new ≡ old ++ names
  pub rise : Rise names
  pub each : (message : ℕ) → Contains names message ↔ IsTrue (some_owes message rows)
