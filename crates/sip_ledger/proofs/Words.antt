-- The names that proofs cite, passed on from one place. Declares nothing.
pub use Rattle.std.proofs.Common.{Bool, List, OnOk, [], ap, append-nil, ap₂, arith, cond, drop, false, filter, get_or, inl, inr, length, lit<, map, not, refl, rules, set, subst, suc, sym, take, true, zero, ℕ, ◌%◌, ◌&&◌, ◌++◌, ◌+◌, ◌-◌, ◌<◌, ◌==◌, ◌^◌, ◌||◌, ◌∙◌, ◌∷◌, ◌≡◌, ◌≢◌, ◌≤◌}
pub use Rattle.std.proofs.Math.Bool.{and-false, and-true, or-false, or-true, or_assoc}
pub use Rattle.std.proofs.Math.Nat.{add-mod_right, mod-add-mod, mod-eq_of_lt}
pub use Rattle.std.proofs.Math.Seq.{drop-append_seam, take-append_seam, take-length}
pub use Rattle.std.proofs.lemmas.Bool.{OnFalse_from, and_right, cases_eq, cases_lt, cond_both, eq-eqb, eqb-true, false_from_ne_true, false≢true, le-leb, le-ltb, leb-true, lt-leb, lt-ltb, ltb-false, ne_eqb, or_parts, or_right, true≢false}
pub use Rattle.std.proofs.lemmas.Bool.Decides.{nat_tests}
pub use Rattle.std.proofs.lemmas.Grind.{common_steps, flat_map-append}
pub use Rattle.std.proofs.lemmas.List.{append_assoc, append_cancel_left, drop-append-le, drop-map, drop-set-add, drop-take, drop_all, drop_min, drop_more, get_or-append_right, get_or-drop, get_or-map, get_or-set_other, get_or-set_same, get_or-take, get_or_append_left, get_or_default, get_or_past, get_or_push, length-append, length-drop, length-map, length-replicate, length-set, length-take, length-take-le, length_push, map-append, map-set, replicate_more, same_lists, set_split, take-append-drop, take-append-le, take-map, take-set-le, take-take, take_all, take_more}
pub use Rattle.std.proofs.lemmas.List.Elements.{All-cons, All-drop, All-get_or, All-head, All-map, All-nil, All-push, All-set, All-tail, All-take, All-weaker, Contains-append_left, Contains-push, Contains-push_cases, filter_more}
pub use Rattle.std.proofs.lemmas.List.Folds.{list_any-append, list_any_at, list_any_none, map_fixed}
pub use Rattle.std.proofs.lemmas.List.Sums.{sum_by-append, sum_by-cons, sum_by_push}
pub use Rattle.std.proofs.lemmas.Nat.{mod_below}
pub use Rattle.sip_ledger.specs.inner.Words.{Account, All, AppendsOwed, AreAccounts, AreAppended, AreFlags, AreGains, AreKept, AreMoved, AreQueues, AreRising, AreRuns, AreSameGains, AreStruckToo, BTreeSet, Contains, Debt, EndsWith, Entry, Err, Flags, Gains, HasLeft, IfNone, IfSome, Included, IsAccount, IsAfter, IsClearedTo, IsDropped, IsErr, IsExpiredTo, IsFirstHeld, IsFirstPaying, IsFirstPaid, IsFirstPayable, IsFrom, IsGain, IsGainAt, IsGap, IsUndropped, IsKeyRangeOf, IsLetGo, IsLowerBound, IsMoved, IsNextGain, IsNextLeft, IsNoted, IsQueue, IsSeek, IsStruck, IsTrue, IsUpperBound, IsWithout, IsWithoutFirst, IsWritten, KeepsAccounts, MatchOption, None, Ok, OnErr, Option, PaysSome, PaysSomeAt, Reaches, Result, Rise, Run, SharesNext, Some, Stands, StartFrom, Strike, StrikeToo, StrikesNoneFrom, Unbounded, UpdatesBy, blank, counts_at, debt_deadlines, debt_of, debts_from, debts_in, earliest, entry_at, fold, from_to, is_eq, is_err, is_gt, is_out, is_payable, is_some, is_timely, least_after, list_any, max, min, nat_le, nat_lt, no_flags, option_to_list, owed_in, owes_message, paid_by, paid_rows, pair_cmp, pays_at, slice_get, softened_account, softened_debt, some_owes, sooner, strikes_of, vec_capacity, ◌↔◌, ◌⊎◌, accounts_debts}
unfoldable pub use Rattle.sip_ledger.specs.inner.Words.{account_debts, debts_print, entries_of, holds, is_left, is_struck, must_at, numbers_of, order_print, owes_at, worth_of}
