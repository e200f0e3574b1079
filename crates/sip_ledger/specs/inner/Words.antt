-- The names that contracts of inner sources and proofs cite, passed on from one place. Declares nothing.
pub use Rattle.std.specs.BTreeSet.{BTreeSet, IsKeyRangeOf, IsLowerBound, IsUpperBound, UpdatesBy}
pub use Rattle.std.specs.Bool.{OnFalse, OnTrue}
pub use Rattle.std.specs.List.{copy_within, count_by, list_any, sum_by}
pub use Rattle.std.specs.Ordering.{is_eq, is_gt}
pub use Rattle.std.specs.Prelude.{All, Bool, Contains, Err, IfNone, IfOk, IfSome, IsErr, IsTrue, List, MatchOption, None, Ok, OnErr, OnOk, Option, Result, Some, [], bit_xor, cond, drop, false, filter, fold, get_or, is_err, is_some, length, map, max, min, nat_le, nat_lt, option_to_list, replicate, slice_get, take, true, ℕ, ◌%◌, ◌&&◌, ◌*◌, ◌++◌, ◌+◌, ◌-◌, ◌<◌, ◌==◌, ◌^◌, ◌↔◌, ◌∷◌, ◌≡◌, ◌≢◌, ◌≤◌, ◌⊎◌}
pub use Rattle.std.specs.Vec.{vec_capacity}
pub use Rattle.std.specs.declared.ops.Bound.TheVariants.{Included, Unbounded}
pub use Rattle.sip_standard.specs.Debts.{IsWithoutFirst}
pub use Rattle.sip_ledger.specs.Accounts.{AppendsOwed, front_print, owed_in, owes_message, paid_rows, some_owes}
unfoldable pub use Rattle.sip_ledger.specs.Accounts.{debts_print, order_print, worth_of}
pub use Rattle.sip_ledger.specs.Debts.{IsFirstPaid, PaysSome, counts_at, debt_deadlines, earliest, is_payable, is_timely, paid_by, softened_debt}
pub use Rattle.sip_ledger.specs.Entries.{IsGap, debt_of, debts_from}
pub use Rattle.sip_ledger.specs.Lists.{Rise, from_to}
pub use Rattle.sip_ledger.specs.Runs.{AreRuns, debts_in}
pub use Rattle.sip_ledger.specs.declared.accounts.account.Account.{Account}
pub use Rattle.sip_ledger.specs.declared.accounts.gains.Flags.{Flags}
pub use Rattle.sip_ledger.specs.declared.accounts.gains.Gains.{Gains}
pub use Rattle.sip_ledger.specs.declared.accounts.strikes.Strike.{Strike}
pub use Rattle.sip_ledger.specs.declared.debt.Debt.{Debt}
pub use Rattle.sip_ledger.specs.declared.debt.Entry.{Entry}
pub use Rattle.sip_ledger.specs.declared.run.Run.{Run}
pub use Rattle.sip_ledger.specs.inner.Accounts.{AreAccounts, AreAppended, AreFlags, AreGains, AreKept, AreMoved, AreRising, AreSameGains, AreStruckToo, EndsWith, IsAccount, IsAfter, IsClearedTo, IsDropped, IsExpiredTo, IsFirstPaying, IsFirstPayable, IsGain, IsGainAt, IsUndropped, IsLetGo, IsMoved, IsNextGain, IsNoted, IsSeek, IsStruck, IsWithout, IsWritten, KeepsAccounts, PaysSomeAt, Reaches, SharesNext, StartFrom, StrikeToo, StrikesNoneFrom, blank, entry_at, flags_at, is_out, least_after, no_flags, pays_at, softened_account, sooner, strikes_of, accounts_debts}
pub use Rattle.sip_ledger.specs.inner.Places.{ArePlaces, AreQueues, HasLeft, IsFirstHeld, IsFrom, IsNext, IsNextLeft, IsQueue, Stands, pair_cmp}
unfoldable pub use Rattle.sip_ledger.specs.inner.Places.{holds}
unfoldable pub use Rattle.sip_numbers.specs.Numbers.{numbers_of}
unfoldable pub use Rattle.sip_ledger.specs.inner.Accounts.{account_debts, entries_of, is_left, is_struck, must_at, owes_at}
