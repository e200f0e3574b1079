-- The names that answers and invariants cite, passed on from one place. Declares nothing.
pub use Rattle.sip_ledger.proofs.Words.{Account, ne_eqb, ap, AreAppended, AreKept, AreMoved, AreRuns, AreStruckToo, arith, cases_eq, cases_lt, counts_at, Debt, drop, drop-take, Entry, entry_at, false, false≢true, filter, Flags, from_to, get_or, get_or_append_left, get_or_default, get_or_push, IfSome, inl, is_timely, IsClearedTo, IsGainAt, IsSeek, is_out, IsWritten, least_after, leb-true, length, length_push, List, ltb-false, map, nat_le, nat_lt, nat_tests, no_flags, OnFalse_from, owed_in, owes_message, refl, rules, set, Strike, sym, take, take-length, take_more, true, true≢false, vec_capacity, [], ℕ, ◌%◌, ◌++◌, ◌+◌, ◌-◌, ◌<◌, ◌^◌, ◌∙◌, ◌∷◌, ◌≡◌, ◌≢◌, ◌≤◌, ◌⊎◌, All-set, accounts_debts, length-map, All-push, IsAccount}
unfoldable pub use Rattle.sip_ledger.proofs.Words.{account_debts, entries_of, holds, is_struck, numbers_of, order_print, owes_at, worth_of}
pub use Rattle.sip_ledger.proofs.account.AccountLemmas.{empty-account, owed-within}
pub use Rattle.sip_ledger.proofs.account.FindLemmas.{first-account, first-all, first-left, first-payable, found-self, led-first, IsFirstTo, newest-first, IsSoughtTo, none-account, one-found, sought-at, sought-late, sought-struck}
pub use Rattle.sip_ledger.proofs.account.ToldLemmas.{AreAt, at-apart, at-more, end-other, end-same, IsLeastTo, IsToldTo, least-first, least-first_due, least-found, least-last, least-passed, told-all, told-more, told-none, told-split}
pub use Rattle.sip_ledger.proofs.account.WithoutLemmas.{before-start, first-gain, more-gain, without-first, without-last, without-middle}
pub use Rattle.sip_ledger.proofs.debts.OwedLemmas.{widened-run}
pub use Rattle.sip_ledger.proofs.gains.LeftLemmas.{entries_long, gains-dropped, gains-let_go, gains-more, gains-same, held_updated, least-held, left-kept, owed-left, range-first, range-none, span-held}
pub use Rattle.sip_ledger.proofs.gains.QueueLemmas.{IsGathered, IsSettled, queue-under, queues-changed, queues-inserted, queues-later, queues-none, stands-more, stands-there}
pub use Rattle.sip_ledger.proofs.lists.EachLemmas.{changing, changing-more, IsKeptTo, kept-all, kept-more, rise-above, rise-few, on_ok}
pub use Rattle.sip_ledger.proofs.rows.PaidLemmas.{account-there, ArePaidTo, gained-grown, gained-more, gained-over, HaveGained, IsExpiring, none-past, paid-grown, paid-next}
pub use Rattle.sip_ledger.proofs.rows.SeenLemmas.{account-at, AreNamedTo, changed, on-error, over-to, owes-nothing, eased-account, softened-account, spanned, unchanged}
pub use Rattle.sip_ledger.proofs.strikes.MovedLemmas.{alone-more, alone-none, alone-on, appended-fewer, appended-more, cleared-dropped, cleared-more, kept-less, longer_too, more_too, moved-more, none-struck, strikes-none, written-more, written-none}
