-- What is kept of transactions before and after an entry passes them.
use Rattle.std.proofs.Common.{◌≡◌, inl, inr, ℕ, ◌+◌, false, None, List, [], ◌∷◌, ◌++◌, All, Contains, map, length, refl, sym, ap, ◌∙◌, subst}
use Rattle.std.specs.Prelude.{fold}
use Rattle.std.specs.List.{list_any}
use Rattle.std.proofs.lemmas.List.{map-append}
use Rattle.std.proofs.lemmas.List.Elements.{All-nil, All-map, All-weaker, All-push}
use Rattle.std.proofs.lemmas.Bool.{cond-true, cond-false}
use Rattle.sip_standard.specs.declared.verdict.Verdict.TheVariants.{Breach, Undecided}
use Rattle.sip_standard.specs.Observation.{Observation}
use Rattle.sip_standard.specs.VerdictOf.{keys_in, RunsOver, IsWideAt, IsFirstKey, HasTrouble}
use Rattle.sip_verdict.specs.Entries.{newest_moment}
use Rattle.sip_verdict.specs.LegalLog.{IsGood}
use Rattle.sip_verdict.specs.inner.Keyed.{with_key}
use Rattle.sip_standard.specs.Key.{KeyParts, same_key}
use Rattle.sip_standard.specs.Times.{Times}
use Rattle.sip_verdict.specs.inner.Tracking.{Keeping, IsReady, IsStanding, Tracks, TracksBefore, GoesOn, IsTouched}
use Rattle.sip_verdict.proofs.keys.Keys.{new_key, contains-among, not_among, among-with_key, keys_in-push, keys_in-none, keys_in-all}
use Rattle.sip_verdict.proofs.verdicts.Unique.{good-nil, good-push}

-- the transactions have these keys, among which are those of the entries, and lead to their runs over the entries
pub record AreKept {T : Type 0} (k : Keeping T) (es : List (Observation KeyParts)) (ks : List KeyParts) (ts : List T) : Type 0 where
  pub keys : map k.key ts ≡ ks
  pub among : (key : KeyParts) → list_any (same_key key) ks ≡ false → list_any (same_key key) (keys_in es) ≡ false
  pub ready : All (IsReady k es) ts

-- What follows is of transactions, of each of which k says what is kept, after the entries es.
module _ {T : Type 0} (k : Keeping T) (es : List (Observation KeyParts)) where
  -- transactions that follow the entries are kept with the keys of the entries
  pub kept_tracked : (p : Times) (ts : List T) → Tracks p k es ts → AreKept k es (keys_in es) ts
  kept_tracked p ts s = record { keys = s.keys; among = λ key none. none; ready = s.ready }

  -- What follows is of transactions with one key more, which was looked up: `fresh` is its transaction, `old` were all before, and `new` are all now.
  module _ (fresh : T) (starts : k.Leads fresh [] (newest_moment es)) (keys : List KeyParts) (old new : List T) (kept : AreKept k es keys old) where
    -- with one key that was looked up, the transactions are kept with that key too
    pub kept_touched : IsTouched k fresh old new → AreKept k es (with_key keys (k.key fresh)) new
    kept_touched (inl h) = record {
      keys = ap (map k.key) h.0 ∙ kept.keys ∙ sym known;
      among = λ key none. kept.among key (subst (λ ks. list_any (same_key key) ks ≡ false) known none);
      ready = subst (All (IsReady k es)) (sym h.0) kept.ready;
    }
      where
        -- a key that is known is not added again
        known : with_key keys (k.key fresh) ≡ keys
        known = cond-true (list_any (same_key (k.key fresh)) keys) keys (keys ++ k.key fresh ∷ [])
            (contains-among (k.key fresh) keys (subst (λ ks. Contains ks (k.key fresh)) kept.keys h.1))
    -- the key is new, and its set leads to the runs over no event
    kept_touched (inr h) = record {
      keys = ap (map k.key) h.1 ∙ map-append k.key old (fresh ∷ []) ∙ ap (λ ks. ks ++ k.key fresh ∷ []) kept.keys ∙ sym unknown;
      among = λ key more. kept.among key (among-with_key key keys (k.key fresh) more).0;
      ready = subst (All (IsReady k es)) (sym h.1)
          (All-push (IsReady k es) old fresh kept.ready (subst (λ fs. k.Leads fresh fs (newest_moment es)) (sym (new_key (k.key fresh) es (kept.among (k.key fresh) none))) starts));
    }
      where
        -- a fresh key is not among the keys
        none : list_any (same_key (k.key fresh)) keys ≡ false
        none = not_among (k.key fresh) keys (λ there. h.0 (subst (λ ks. Contains ks (k.key fresh)) (sym kept.keys) there))

        -- a fresh key is added at the end
        unknown : with_key keys (k.key fresh) ≡ keys ++ k.key fresh ∷ []
        unknown = cond-false (list_any (same_key (k.key fresh)) keys) keys (keys ++ k.key fresh ∷ []) none

-- What follows is of transactions, of each of which k says what is kept.
module _ {T : Type 0} (p : Times) (k : Keeping T) where
  -- no transactions follow no entries
  pub tracks_none : Tracks p k [] []
  tracks_none = record { keys = refl; ready = All-nil (IsReady k []); good = good-nil p }

  -- What follows is of one entry e after the entries es.
  module _ (es : List (Observation KeyParts)) (e : Observation KeyParts) where
    -- where the entry e concerns no key, transactions that follow the entries have all keys that e needs, and have not passed e yet
    pub before_none : (ts : List T) → e.keys ≡ [] → Tracks p k es ts → TracksBefore p k es e ts
    before_none ts none s = record { keys = s.keys ∙ sym (keys_in-none es e none); ready = s.ready; good = s.good }

    -- where the entry e concerns all keys so far, transactions that follow the entries have all keys that e needs, and have not passed e yet
    pub before_all : (ts : List T) → e.keys ≡ keys_in es → Tracks p k es ts → TracksBefore p k es e ts
    before_all ts all s = record { keys = s.keys ∙ sym (keys_in-all es e all); ready = s.ready; good = s.good }

    -- where the keys of the entry e were looked up, the transactions have all keys that e needs, and have not passed e yet
    pub before_touched : (ts : List T) → AreKept k es (fold with_key (keys_in es) e.keys) ts → IsGood p es → TracksBefore p k es e ts
    before_touched ts kept good = record { keys = kept.keys ∙ sym (keys_in-push es e); ready = kept.ready; good = good }

    -- What follows is of `old` and `new`, the transactions before the entry and after it, with the same keys: k says what is kept before, and k2 after it.
    module _ (k2 : Keeping T) (old new : List T) (before : TracksBefore p k2 es e old) (same : map k.key new ≡ map k2.key old) where
      -- where the message of the entry has no fault and every transaction goes on, the transactions follow the entry too
      pub judged_fine : e.fault ≡ None → All (GoesOn p k es e) new → Tracks p k (es ++ e ∷ []) new × All (IsStanding k es e) new
      judged_fine formed goes = (
        record {
          keys = same ∙ before.keys;
          ready = All-weaker (GoesOn p k es e) (IsReady k (es ++ e ∷ [])) (λ t g. g.ready) new goes;
          -- each transaction has a run over the entry, and is not too wide
          good = good-push p es e before.good (record {
            formed = formed;
            runs = subst (All (RunsOver p (es ++ e ∷ []))) (same ∙ before.keys)
                (All-map (RunsOver p (es ++ e ∷ [])) k.key new (All-weaker (GoesOn p k es e) (λ t. RunsOver p (es ++ e ∷ []) (k.key t)) (λ t g. g.runs) new goes));
            narrow = subst (All (λ key. ¬ IsWideAt p es e key)) (same ∙ before.keys)
                (All-map (λ key. ¬ IsWideAt p es e key) k.key new (All-weaker (GoesOn p k es e) (λ t. ¬ IsWideAt p es e (k.key t)) (λ t g. g.narrow) new goes));
          });
        },
        All-weaker (GoesOn p k es e) (IsStanding k es e) (λ t g. g.stands) new goes,
      )

      -- where a transaction has no run over the entry, and this is the first such one, the verdict of the entry is its breach
      pub judged_breach : (number transaction : ℕ) → number ≡ length es + 1 → e.fault ≡ None → IsFirstKey (λ key. ¬ RunsOver p (es ++ e ∷ []) key) (map k.key new) transaction
          → HasTrouble p es e (Breach number transaction)
      judged_breach number transaction counts formed first =
          (counts, formed, subst (λ keys. IsFirstKey (λ key. ¬ RunsOver p (es ++ e ∷ []) key) keys transaction) (same ∙ before.keys) first)

      -- where each transaction has a run over the entry, and this is the first that is too wide, the verdict of the entry is that it is undecided
      pub judged_undecided : (number transaction : ℕ) → number ≡ length es + 1 → e.fault ≡ None
          → All (RunsOver p (es ++ e ∷ [])) (map k.key new) → IsFirstKey (IsWideAt p es e) (map k.key new) transaction → HasTrouble p es e (Undecided number transaction)
      judged_undecided number transaction counts formed runs first = (
        counts,
        formed,
        subst (All (RunsOver p (es ++ e ∷ []))) (same ∙ before.keys) runs,
        subst (λ keys. IsFirstKey (IsWideAt p es e) keys transaction) (same ∙ before.keys) first,
      )
