-- How the transactions of a survey pass an entry, one after another.
use Rattle.std.proofs.Common.{◌≡◌, ◌≢◌, ◌+◌, ◌-◌, ◌⊎◌, ◌||◌, inl, inr, ℕ, Bool, true, false, nat_eq, Some, List, [], ◌∷◌, ◌++◌, Contains, MatchBool, slice_get, slice_set, refl, sym, ap, ◌∙◌, subst, arith}
use Rattle.std.proofs.lemmas.Bool.{false≢true}
use Rattle.std.proofs.lemmas.List.Elements.{Contains-push, Contains-push_cases, Contains-append_left}
use Rattle.std.specs.Cmp.{unsigned_Decides}
use Rattle.sip_standard.specs.Key.{KeyParts}
use Rattle.sip_standard.specs.Times.{Times}
use Rattle.sip_machine.specs.Texts.{Texts}
use Rattle.sip_standard.specs.KeyMachine.{machine_of_key}
use Rattle.sip_states.specs.Tables.{Tabled, IsGiven}
use Rattle.sip_states.specs.declared.any_set.AnySet.{AnySet}
use Rattle.sip_states.proofs.lists.Places.{set_place}
use Rattle.sip_verdict.specs.declared.troubled.Troubled.{Troubled}
use Rattle.sip_standard.specs.Observation.{Observation}
use Rattle.sip_standard.specs.VerdictOf.{RunsOver}
use Rattle.sip_verdict.specs.SurveyOf.{IsSound, Breaks, Widens}
use Rattle.sip_verdict.specs.inner.Tracking.{Keeping, IsReady, GoesOn}
use Rattle.sip_verdict.specs.inner.TablesTracking.{LeadsOf, key_keeping, is_among}
use Rattle.sip_verdict.specs.inner.Surveying.{IsNumberOf, IsPassing, ArePassing}
use Rattle.sip_verdict.proofs.tables.TablesPassing.{at_place}

-- a number that is not the first of some numbers is among them exactly if it is among the others
pub among_cons : (n number : ℕ) (ns : List ℕ) → n ≢ number → is_among (number ∷ ns) n ≡ is_among ns n
among_cons n number ns differ = by (nat_eq n number) refl
  where
    -- n is among all numbers exactly if it is among the others, since it is not the first
    by : (b : Bool) → nat_eq n number ≡ b → is_among (number ∷ ns) n ≡ is_among ns n
    by true same = absurd (differ ((unsigned_Decides n number).0 same))
    by false other = ap (λ b. b || is_among ns n) other

-- two elements at the same place of a list are the same
-- x and y are the elements at the place n
pub same_at : {A : Type 0} (xs : List A) (n : ℕ) (x y : A) → slice_get xs n ≡ Some x → slice_get xs n ≡ Some y → x ≡ y
same_at xs n x y a b = let both : Some x ≡ Some y = sym a ∙ b in cc

-- What follows is of one entry e after the entries es, by the times p.
module _ (texts : Texts) (p : Times) (es : List (Observation KeyParts)) (e : Observation KeyParts) where
  -- what is kept of each key: its set, beside these texts
  abbrev k : Keeping (KeyParts × AnySet)
  k = key_keeping texts p

  -- where two flags are equal, what they say of the key, that it is ready or goes on, is the same
  waits_alike : (a b : Bool) (key : KeyParts) (s : AnySet) → a ≡ b → MatchBool a (IsReady k es (key, s)) (GoesOn p k es e (key, s)) → MatchBool b (IsReady k es (key, s)) (GoesOn p k es e (key, s))
  waits_alike a b key s same h = subst (λ x. MatchBool x (IsReady k es (key, s)) (GoesOn p k es e (key, s))) same h

  -- a transaction passes the entry as before where more transactions came into trouble and it waits exactly as it did
  -- v and w say which transactions still wait for the event, b and c which are in trouble; s is the set of the key
  pub stays : (v w : ℕ → Bool) (b c : Troubled) (number : ℕ) (key : KeyParts) (s : AnySet) (is_deaf : Bool) → v number ≡ w number
      → (Contains b.broken.items number ⊎ Contains b.wide.items number → Contains c.broken.items number ⊎ Contains c.wide.items number)
      → IsPassing texts p es e v b number key s is_deaf → IsPassing texts p es e w c number key s is_deaf
  -- a transaction in trouble was so before the entry, or is among those that came into trouble at it, and is among them still
  stays v w b c number key s true same more (leads, inl unsound) = (leads, inl unsound)
  stays v w b c number key s true same more (leads, inr among) = (leads, inr (more among))
  -- a transaction in no trouble waits, or has gone on, as it did
  stays v w b c number key s false same more (sound, h) = (sound, waits_alike (v number) (w number) key s same h)

  -- where the keys are the same, P holds of the key with a number in both lists
  number_still : (P : KeyParts → Type 0) (keys new : List KeyParts) (number : ℕ) → new ≡ keys → IsNumberOf P keys number → IsNumberOf P new number
  number_still P keys new number same h = subst (λ ks. IsNumberOf P ks number) (sym same) h

  -- What follows is of one transaction, by its number, that passes the entry, while the others stay as they are: the tables were t and are u.
  -- v says which transactions were still to hear it before, and w which are now.
  module _ (t u : Tabled) (b : Troubled) (v w : ℕ → Bool) (number : ℕ) (given : IsGiven t number) (keys : u.keys ≡ t.keys)
      (others : (n : ℕ) → n ≢ number - 1 → v (n + 1) ≡ w (n + 1)) (h : ArePassing texts p es e v t b) where
    -- the place of the transaction with this number
    abbrev place : ℕ
    place = number - 1

    -- the number is the place and one
    next : number - 1 + 1 ≡ number
    next = (let low = given.low in omega arith)

    -- What follows is of a transaction in no trouble that goes on; `after` is its set now.
    module _ (after : AnySet) (sets : u.sets ≡ slice_set t.sets (number - 1) after) (hearing : slice_get b.deaf.items (number - 1) ≡ Some false) where
      -- where the transaction goes on over the entry, all transactions are passing it still
      pub passed_on : w number ≡ false → ((key : KeyParts) → slice_get t.keys (number - 1) ≡ Some key → IsSound p es key × GoesOn p k es e (key, after)) → ArePassing texts p es e w u b
      passed_on done goes = record {
        broken = λ n has. number_still (Breaks p es e) t.keys u.keys n keys (h.broken n has);
        wide = λ n has. number_still (λ key. Widens p es e key × RunsOver p (es ++ e ∷ []) key) t.keys u.keys n keys (h.wide n has);
        each = λ n key s d at here is. one n key s d (ap (λ ks. slice_get ks n) (sym keys) ∙ at) is (set_place t.sets place n after s (ap (λ xs. slice_get xs n) (sym sets) ∙ here));
      }
        where
          -- the transaction itself has passed the entry
          -- n is the place of the key, s its set and d whether it is deaf
          own : (n : ℕ) (key : KeyParts) (s : AnySet) (d : Bool) → slice_get t.keys n ≡ Some key → n ≡ place → after ≡ s → false ≡ d → IsPassing texts p es e w b (n + 1) key s d
          -- the transaction is in no trouble, so it is not deaf
          own n key s true at here same is = absurd (false≢true is)
          -- it has heard the event (w says so), so what is asked of it is that it goes on, which `goes` says of its new set
          own n key s false at here same is =
              let g = goes key (ap (slice_get t.keys) (sym here) ∙ at) in
              let off : w (n + 1) ≡ false = ap w (omega (arith, here, next)) ∙ done in
              (g.0, waits_alike false (w (n + 1)) key s (sym off) (subst (λ x. GoesOn p k es e (key, x)) same g.1))

          -- each transaction is passing the entry: the one itself, and each other one as before
          -- n is the place of the key, s its set and d whether it is deaf
          -- the transaction itself has passed; another one is still at its place with its set, and w says of it what v said
          one : (n : ℕ) (key : KeyParts) (s : AnySet) (d : Bool) → slice_get t.keys n ≡ Some key → slice_get b.deaf.items n ≡ Some d
              → ((n ≡ place) × (after ≡ s)) ⊎ ((n ≢ place) × (slice_get t.sets n ≡ Some s)) → IsPassing texts p es e w b (n + 1) key s d
          one n key s d at is (inl (here, same)) = own n key s d at here same (same_at b.deaf.items n false d (ap (slice_get b.deaf.items) here ∙ hearing) is)
          one n key s d at is (inr (other, there)) = stays v w b b (n + 1) key s d (others n other) (λ among. among) (h.each n key s d at there is)

    -- What follows is of a transaction that comes into trouble and starts anew; c says which transactions are in trouble then.
    module _ (c : Troubled) (sets : (n : ℕ) (s : AnySet) → slice_get u.sets n ≡ Some s → ((n ≡ number - 1) × ((key : KeyParts) → slice_get t.keys (number - 1) ≡ Some key → LeadsOf texts p (machine_of_key p.rules key) [] e.event.moment s))
        ⊎ ((n ≢ number - 1) × (slice_get t.sets n ≡ Some s)))
        (deaf : c.deaf.items ≡ slice_set b.deaf.items (number - 1) true) where
      -- where the transaction is put among those that came into trouble, all transactions are passing the entry still
      released : ((n : ℕ) → Contains b.broken.items n ⊎ Contains b.wide.items n → Contains c.broken.items n ⊎ Contains c.wide.items n) → Contains c.broken.items number ⊎ Contains c.wide.items number
          → ((n : ℕ) → Contains c.broken.items n → IsNumberOf (Breaks p es e) u.keys n) → ((n : ℕ) → Contains c.wide.items n → IsNumberOf (λ key. Widens p es e key × RunsOver p (es ++ e ∷ []) key) u.keys n)
          → ArePassing texts p es e w u c
      released more among broken wide = record {
        broken = broken;
        wide = wide;
        -- the flag at a place is the new one or an old one, and so is the set
        each = λ n key s d at here is. one n key s d (ap (λ ks. slice_get ks n) (sym keys) ∙ at) (set_place b.deaf.items place n true d (ap (λ xs. slice_get xs n) (sym deaf) ∙ is)) (sets n s here);
      }
        where
          -- the transaction itself is in trouble now, and its set starts anew
          -- n is the place of the key, s its set and d whether it is deaf
          own : (n : ℕ) (key : KeyParts) (s : AnySet) (d : Bool) → slice_get t.keys n ≡ Some key → n ≡ place → true ≡ d
              → ((key : KeyParts) → slice_get t.keys place ≡ Some key → LeadsOf texts p (machine_of_key p.rules key) [] e.event.moment s) → IsPassing texts p es e w c (n + 1) key s d
          -- the flag of the transaction is set, so it is deaf
          own n key s false at here is leads = absurd (false≢true (sym is))
          -- its new set leads to the runs over no event, and its number is among those that came into trouble
          own n key s true at here is leads =
              let same : number ≡ n + 1 = omega (arith, here, next) in
              (leads key (ap (slice_get t.keys) (sym here) ∙ at), inr (subst (λ i. Contains c.broken.items i ⊎ Contains c.wide.items i) same among))

          -- each transaction is passing the entry: the one itself, and each other one as before
          -- n is the place of the key, s its set and d whether it is deaf
          one : (n : ℕ) (key : KeyParts) (s : AnySet) (d : Bool) → slice_get t.keys n ≡ Some key → ((n ≡ place) × (true ≡ d)) ⊎ ((n ≢ place) × (slice_get b.deaf.items n ≡ Some d))
              → ((n ≡ place) × ((key : KeyParts) → slice_get t.keys place ≡ Some key → LeadsOf texts p (machine_of_key p.rules key) [] e.event.moment s)) ⊎ ((n ≢ place) × (slice_get t.sets n ≡ Some s))
              → IsPassing texts p es e w c (n + 1) key s d
          -- the transaction itself is in trouble, and its set is the new one
          one n key s d at (inl (here, is)) (inl (same, leads)) = own n key s d at here is leads
          -- one place is not that of the transaction and of another one
          one n key s d at (inl (here, is)) (inr (other, there)) = absurd (other here)
          one n key s d at (inr (other, is)) (inl (here, leads)) = absurd (other here)
          -- another transaction, which is as before
          one n key s d at (inr (other, is)) (inr (also, there)) = stays v w b c (n + 1) key s d (others n other) (more (n + 1)) (h.each n key s d at there is)

      -- where the transaction breaks and is put among the broken, all are passing the entry still
      pub released_broken : c.broken.items ≡ b.broken.items ++ number ∷ [] → c.wide.items ≡ b.wide.items → ((key : KeyParts) → slice_get t.keys (number - 1) ≡ Some key → Breaks p es e key) → ArePassing texts p es e w u c
      released_broken added kept breaks =
          released more (inl (subst (λ ns. Contains ns number) (sym added) (Contains-push b.broken.items number)))
          -- a number among the broken is the new one or an old one; a number among the wide is an old one
          (λ n has. by n (Contains-push_cases b.broken.items number n (subst (λ ns. Contains ns n) added has)))
          (λ n has. number_still (λ key. Widens p es e key × RunsOver p (es ++ e ∷ []) key) t.keys u.keys n keys (h.wide n (subst (λ ns. Contains ns n) kept has)))
        where
          -- the numbers in trouble stay in trouble
          more : (n : ℕ) → Contains b.broken.items n ⊎ Contains b.wide.items n → Contains c.broken.items n ⊎ Contains c.wide.items n
          more n (inl has) = inl (subst (λ ns. Contains ns n) (sym added) (Contains-append_left b.broken.items (number ∷ []) n has))
          more n (inr has) = inr (subst (λ ns. Contains ns n) (sym kept) has)

          -- each number of a broken transaction is that of a key that breaks: one of those before, or the new one
          by : (n : ℕ) → Contains b.broken.items n ⊎ (number ≡ n) → IsNumberOf (Breaks p es e) u.keys n
          by n (inl has) = number_still (Breaks p es e) t.keys u.keys n keys (h.broken n has)
          by n (inr same) = subst (IsNumberOf (Breaks p es e) u.keys) same
              (let mine = at_place t.keys place (omega (arith, next, given.high)) in
              record { low = given.low; key = mine.0; at = ap (λ ks. slice_get ks place) keys ∙ mine.1; holds = breaks mine.0 mine.1 })

      -- where the transaction is followed no further and is put among the wide, all are passing the entry still
      pub released_wide : c.wide.items ≡ b.wide.items ++ number ∷ [] → c.broken.items ≡ b.broken.items
          → ((key : KeyParts) → slice_get t.keys (number - 1) ≡ Some key → Widens p es e key × RunsOver p (es ++ e ∷ []) key) → ArePassing texts p es e w u c
      released_wide added kept widens =
          released more (inr (subst (λ ns. Contains ns number) (sym added) (Contains-push b.wide.items number)))
          -- a number among the broken is an old one; a number among the wide is the new one or an old one
          (λ n has. number_still (Breaks p es e) t.keys u.keys n keys (h.broken n (subst (λ ns. Contains ns n) kept has)))
          (λ n has. by n (Contains-push_cases b.wide.items number n (subst (λ ns. Contains ns n) added has)))
        where
          -- the numbers in trouble stay in trouble
          more : (n : ℕ) → Contains b.broken.items n ⊎ Contains b.wide.items n → Contains c.broken.items n ⊎ Contains c.wide.items n
          more n (inl has) = inl (subst (λ ns. Contains ns n) (sym kept) has)
          more n (inr has) = inr (subst (λ ns. Contains ns n) (sym added) (Contains-append_left b.wide.items (number ∷ []) n has))

          -- each number of a transaction that is followed no further is that of a key that widens: one of those before, or the new one
          by : (n : ℕ) → Contains b.wide.items n ⊎ (number ≡ n) → IsNumberOf (λ key. Widens p es e key × RunsOver p (es ++ e ∷ []) key) u.keys n
          by n (inl has) = number_still (λ key. Widens p es e key × RunsOver p (es ++ e ∷ []) key) t.keys u.keys n keys (h.wide n has)
          by n (inr same) = subst (IsNumberOf (λ key. Widens p es e key × RunsOver p (es ++ e ∷ []) key) u.keys) same
              (let mine = at_place t.keys place (omega (arith, next, given.high)) in
              record { low = given.low; key = mine.0; at = ap (λ ks. slice_get ks place) keys ∙ mine.1; holds = widens mine.0 mine.1 })
