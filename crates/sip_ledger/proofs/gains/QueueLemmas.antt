-- Queues of messages while places come and go, and what is put into them and taken out.
use Rattle.std.specs.BTreeMap.{BTreeMap, UpdatesBy, is_at}
use Rattle.std.specs.BTreeSet.{UpdatesBy as PairUpdates}
use Rattle.std.specs.Map.{lookup}
use Rattle.std.specs.Option.{unwrap_or}
use Rattle.std.specs.Ordering.{nat_cmp}
use Rattle.std.proofs.lemmas.Option.{IfSome_then}
use Rattle.sip_ledger.proofs.gains.LeftLemmas.{held_updated}
use Rattle.sip_ledger.proofs.Words.{BTreeSet, cond_both, pair_cmp, ◌≡◌, ◌<◌, ◌≤◌, ℕ, Bool, true, List, [], Option, None, Some, IfSome, sym, arith, nat_tests, true≢false, AreQueues, Err, HasLeft, IsQueue, Ok, OnErr, OnOk, Result, Stands, holds}

-- where one place more is left that is not before the end, queues are queues still
pub queues-later : {s n : BTreeSet (ℕ × ℕ)} {end later : ℕ} {queues : BTreeMap ℕ (List (ℕ × ℕ))} (message place : ℕ) →
    PairUpdates pair_cmp (pair_cmp (message, place)) s n true → end ≤ place → place < later → AreQueues s.keys end queues → AreQueues n.keys later queues
queues-later {s} {n} {queues = queues} message place updates after within were =
    let more = held_updated s n message place true updates in
    record {
      below = λ m k left. grind (arith, nat_tests, more m k, were.below m k);
      each = λ key. IfSome_then (lookup (is_at (nat_cmp key)) queues.entries) (were.each key) (λ queue was. record {
        low = λ b m k stands left. grind (arith, nat_tests, more m k, was.low b m k stands, was.within b m stands);
        within = λ b m stands. omega (arith, was.within b m stands, after);
        below = λ m k left. grind (arith, nat_tests, more m k, was.below m k);
      });
    }

-- where no queues are there, they are right with one place more
pub queues-none : {s n : BTreeSet (ℕ × ℕ)} {end later : ℕ} {old queues : BTreeMap ℕ (List (ℕ × ℕ))} (message place : ℕ) →
    PairUpdates pair_cmp (pair_cmp (message, place)) s n true → queues.entries ≡ [] → end ≤ later → place < later → AreQueues s.keys end old →
    AreQueues n.keys later queues
queues-none {s} {n} message place updates none more within were =
    record { below = λ m k left. grind (arith, nat_tests, held_updated s n message place true updates m k, were.below m k); each = λ key. rw none tt }

-- what stands under a key, or nothing, is a queue
pub queue-under : {pairs : List (ℕ × ℕ)} {end : ℕ} {queues : BTreeMap ℕ (List (ℕ × ℕ))} (key : ℕ) (found : Option (List (ℕ × ℕ))) →
    found ≡ lookup (is_at (nat_cmp key)) queues.entries → AreQueues pairs end queues → IsQueue pairs end (unwrap_or found [])
unfolding holds
queue-under key None is were = record {
  low = λ b m k stands. absurd (true≢false (sym stands));
  within = λ b m stands. absurd (true≢false (sym stands));
  below = were.below;
}
queue-under key (Some queue) is were = rw (← is) at (were.each key)

-- where a queue comes or goes, all are queues still
pub queues-changed : {pairs : List (ℕ × ℕ)} {end : ℕ} {old new : BTreeMap ℕ (List (ℕ × ℕ))} (key : ℕ) (queue : Option (List (ℕ × ℕ))) →
    UpdatesBy nat_cmp (nat_cmp key) old new queue → IfSome queue (IsQueue pairs end) → AreQueues pairs end old → AreQueues pairs end new
queues-changed {pairs} {end} {old} {new} key queue changed is were = record {
  below = were.below;
  each = λ q. rw (changed.0 q)
      (cond_both (is_at (nat_cmp key) q) queue (lookup (is_at (nat_cmp q)) old.entries) (λ it. IfSome it (IsQueue pairs end)) (λ _. is) (λ _. were.each q));
}

-- where a queue is put under a key, or memory was refused for that, all are queues
pub queues-inserted : {T E : Type 0} {pairs : List (ℕ × ℕ)} {end : ℕ} {old new : BTreeMap ℕ (List (ℕ × ℕ))} (key : ℕ) (queue : List (ℕ × ℕ))
    (r : Result T E) → OnOk r (UpdatesBy nat_cmp (nat_cmp key) old new (Some queue)) → OnErr r (new.entries ≡ old.entries) →
    IsQueue pairs end queue → AreQueues pairs end old → AreQueues pairs end new
queues-inserted key queue (Ok x) changed same is were = queues-changed key (Some queue) changed is were
queues-inserted key queue (Err e) changed same is were = record { below = were.below; each = λ q. rw same (were.each q) }

-- where a pair comes, all that stood in pairs stand there still
pub stands-more : (s n : BTreeSet (ℕ × ℕ)) (place message : ℕ) → PairUpdates pair_cmp (pair_cmp (place, message)) s n true → (m : ℕ) → Stands s.keys m → Stands n.keys m
stands-more s n place message updates m was = (was.0, grind (arith, nat_tests, held_updated s n place message true updates was.0 m, was.1))

-- the message of a pair that comes stands there
pub stands-there : (s n : BTreeSet (ℕ × ℕ)) (place message : ℕ) → PairUpdates pair_cmp (pair_cmp (place, message)) s n true → Stands n.keys message
stands-there s n place message updates = (place, grind (arith, nat_tests, held_updated s n place message true updates place message))

-- the messages below `from` that pass the test and are left stand in the queue, which is one if the old one is
pub record IsGathered (pairs old : List (ℕ × ℕ)) (test : ℕ → Bool) (from : ℕ) (queue : List (ℕ × ℕ)) : Type 0 where
  pub is : (end : ℕ) → IsQueue pairs end old → IsQueue pairs end queue
  pub all : (m k : ℕ) → m < from → test m ≡ true → holds pairs m k ≡ true → Stands queue m

-- if the old queue is one, the queue is one, and each message that passes the test and is left stands there
pub record IsSettled (pairs old : List (ℕ × ℕ)) (test : ℕ → Bool) (queue : List (ℕ × ℕ)) : Type 0 where
  pub is : (end : ℕ) → IsQueue pairs end old → IsQueue pairs end queue
  pub all : (end : ℕ) → IsQueue pairs end old → HasLeft pairs queue test
