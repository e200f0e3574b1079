-- The names that proofs cite, passed on from one place. Declares nothing.
pub use Rattle.std.proofs.Common.{ap, append-nil, append_assoc, ap₂, arith, inl, inr, length-append, nat_le, nat_lt, refl, rules, subst, sym, true≢false, ◌∙◌}
pub use Rattle.std.proofs.Math.Seq.{drop-append_seam, get_or-append_seam, take-append_seam}
pub use Rattle.std.proofs.lemmas.Bool.{cases_eq, cases_lt, ne_eqb}
pub use Rattle.std.proofs.lemmas.Bool.Decides.{nat_tests}
pub use Rattle.std.proofs.lemmas.Cmp.{ranked}
pub use Rattle.std.proofs.lemmas.Fn.{All-from_retain, always_returns_same}
pub use Rattle.std.proofs.lemmas.Grind.{get_or_picked}
pub use Rattle.std.proofs.lemmas.List.{drop-append-le, drop-map, drop-replicate, drop_all, get_or-drop, get_or-map, get_or-set_other, get_or-set_same, get_or-take, get_or_append_left, get_or_default, get_or_push, length-drop, length-map, length-replicate, length-set, length-take, length-take-le, length_push, map-append, replicate-append-replicate, set-get_or, set_at, set_split, take-append-drop, take-append-le, take-map, take-replicate, take-take, take_all, take_at, take_more, take_rest, with_items_is}
pub use Rattle.std.proofs.lemmas.List.Elements.{All-append, All-cons, All-contains, All-contains_itself, All-drop, All-filter, All-get_or, All-head, All-nil, All-push, All-replicate, All-tail, All-take, All-weaker, Contains-append_cases, Contains-append_left, Contains-append_right, filter-append}
pub use Rattle.std.proofs.lemmas.List.Folds.{list_any_at, map_fixed}
pub use Rattle.std.proofs.lemmas.List.Kept.{AllPairs-cons}
pub use Rattle.std.proofs.lemmas.List.Quantifiers.{all_pairs_push}
pub use Rattle.std.proofs.lemmas.List.Sorted.{IsPartitionedBy-leb, IsPartitionedBy-ltb, answers_always}
pub use Rattle.std.proofs.lemmas.Option.{get_or_from_slice_get}
pub use Rattle.std.proofs.lemmas.Result.{IfOk-weaker}
pub use Rattle.std.specs.Cmp.Lexicographic.{bytes_decides}
pub use Rattle.std.specs.List.{HoldsAt, items_where_true, list_any}
pub use Rattle.std.specs.List.Retain.{IsFiltered}
pub use Rattle.std.specs.Option.{option_map}
pub use Rattle.std.specs.Prelude.{All, AllPairs, Bool, Contains, IsTrue, List, None, Option, Some, [], bytes_eq, cond, drop, false, filter, get_or, length, map, min, not, option_to_list, replicate, set, slice_get, take, true, ℕ, ◌&&◌, ◌++◌, ◌+◌, ◌-◌, ◌<◌, ◌==◌, ◌||◌, ◌↔◌, ◌∷◌, ◌≡◌, ◌≢◌, ◌≤◌, ◌⊎◌}
pub use Rattle.std.specs.Vec.{vec_len}
pub use Rattle.std.specs.declared.cmp.Ordering.TheVariants.{Equal}
pub use Rattle.sip_key.proofs.AckOfLemmas.{ack-of_says}
pub use Rattle.sip_ledger.proofs.lists.EachLemmas.{on_ok}
pub use Rattle.sip_ledger.specs.Accounts.{paid_rows}
pub use Rattle.sip_ledger.specs.Debts.{IsFirstPaid, PaysSome, counts_at, is_payable, is_timely, paid_by}
pub use Rattle.sip_numbers.specs.Numbers.{numbers_of}
pub use Rattle.sip_ledger.specs.Lists.{from_to}
pub use Rattle.sip_ledger.specs.declared.debt.Debt.{Debt}
pub use Rattle.sip_machine.specs.FigureRules.{After}
pub use Rattle.sip_machine.specs.Owes.{owed_in, owes_names}
pub use Rattle.sip_machine.specs.Owing.{CodeOwing, at_rest}
pub use Rattle.sip_machine.specs.Retained.{only}
pub use Rattle.sip_machine.specs.Rules.{Covers, FromSome, Knows, StandFor}
pub use Rattle.sip_machine.specs.Texts.{IsBook, Keeps, Texts, text_of}
pub use Rattle.sip_machine.specs.declared.effects.Rest.{Rest}
pub use Rattle.sip_machine.specs.declared.effects.Rest.TheVariants.{Pays, Stays}
pub use Rattle.sip_machine.specs.declared.slots.SlotPrint.{SlotPrint}
pub use Rattle.sip_machine.specs.declared.tos.To.{To}
pub use Rattle.sip_machine.specs.inner.Both.{AnswersBoth}
pub use Rattle.sip_machine.specs.inner.Dues.{AreBetween, blank_rows}
pub use Rattle.sip_machine.specs.inner.Effects.{OrStays, led_by, repaid_at, rested_debts, rests_at}
pub use Rattle.sip_machine.specs.inner.Paying.{FindsFirst, HasTo, PaysFor}
pub use Rattle.sip_machine.specs.inner.Pools.{AreFirstOnes, AreMixedWith, IsSought, beside, one_past, picked}
pub use Rattle.sip_machine.specs.inner.Single.{AnswersOne, IsTheOne}
pub use Rattle.sip_machine.specs.inner.Slots.{AreSlots, IsNewest, IsReached, Slotted, slot_of, slotted}
pub use Rattle.sip_machine.specs.inner.Tos.{AreTos, AreUnder, HasThose, IsChanged, IsTo, IsToOf, count_between}
pub use Rattle.sip_machine.specs.inner.Turns.{TurnInRange, changed_debts, state_in, turn_names, turn_seen}
pub use Rattle.sip_message.proofs.lemmas.says.Reading.{same_reading, says-no_fault, says-reads}
pub use Rattle.sip_message.specs.Reading.{Reading}
pub use Rattle.sip_message.specs.Reads.{Reads}
pub use Rattle.sip_message.specs.SaidOf.{said_of}
pub use Rattle.sip_phases.proofs.debts.DebtLaws.{IsWithoutFirst-alike, filter-map}
pub use Rattle.sip_phases.proofs.debts.OwesLaws.{All-names, payables-seen}
pub use Rattle.sip_standard.proofs.Few.{AllPairs-head, AllPairs-tail}
pub use Rattle.sip_standard.specs.AckOf.{AckOf, IsAckOf, SameSolid}
pub use Rattle.sip_standard.specs.Debts.{IsWithoutFirst}
pub use Rattle.sip_standard.specs.Figure.{gains}
pub use Rattle.sip_standard.specs.Provisional.{Is100}
pub use Rattle.sip_standard.specs.Replies.{Replies}
pub use Rattle.sip_standard.specs.Says.{Said}
pub use Rattle.sip_standard.specs.Solid.{solid}
