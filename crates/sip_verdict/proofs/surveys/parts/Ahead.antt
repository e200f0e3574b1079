-- An entry that stands whole among the bytes that were read, as a survey takes it.
use Rattle.std.proofs.Common.{◌≡◌, ◌∙◌, ◌+◌, ℕ, Bool, List, [], ◌∷◌, ◌++◌, Option, Some, None, drop, refl, subst, sym, ap, arith}
use Rattle.std.specs.Prelude.{flat_map}
use Rattle.std.specs.Io.KnownBytes.{prepend_known}
use Rattle.sip_standard.specs.Times.{Times}
use Rattle.sip_standard.specs.LogEntry.{Item, entry_says, last_of}
use Rattle.sip_standard.specs.LogHeader.{Header}
use Rattle.sip_log.specs.Ahead.{IsAhead, item_ahead, passed}
use Rattle.sip_log.specs.declared.ahead.Ahead.{Ahead}
use Rattle.sip_log.specs.declared.entry.Entry.{Entry}
use Rattle.sip_log.specs.Next.{gives, ComesNext}
use Rattle.sip_log.specs.Reading.{ProgressState, beside_source}
use Rattle.sip_log.specs.Told.{item}
use Rattle.sip_log.proofs.answers.CallerLemmas.{InOrder-push, last_of-push, texts-push}
use Rattle.sip_log.proofs.answers.PassLemmas.{Stands-passed}
use Rattle.sip_log.proofs.answers.StreamLemmas.{HasStreamed, StartsAt}
use Rattle.sip_part.specs.Part.{PartOf}
use Rattle.sip_verdict.specs.SurveyParts.{IsPartItem}
use Rattle.sip_verdict.specs.declared.reading.Next.TheVariants as next
use Rattle.sip_verdict.specs.inner.Taking.{StreamTaken, TakenGives, TakesAfter, TakesOn}
use Rattle.sip_verdict.specs.inner.Walking.{HasRead}
use Rattle.std.proofs.lemmas.Option.{same_Some}
use Rattle.sip_verdict.proofs.listings.StreamingLemmas.{anew, counted_anew}

-- What follows is of an entry that stands whole, of the entry as which it is taken, and of the place after it.
module _ (p new : ProgressState) (a : Ahead) (is : IsAhead p a) (e : Entry) (number : e.number ≡ a.number) (moment : e.moment ≡ a.moment)
    (same : new ≡ passed p e.moment a.size) where
  -- the entry has the next number, and keeps the order and the limit of moments
  pub takes_ahead : TakesOn p new (next.Entry e)
  takes_ahead =
      -- that the entry comes next says that there were fewer than the most entries (few), and that its moment is in order and within the limit (high)
      let (whole, few, order, entry) = is.comes [] in
      let high = entry.1.0 in
      let count = number ∙ is.number_is in (
        ap (λ (s : ProgressState). s.stage) same,
        count,
        omega (arith, order, moment),
        omega (arith, high, moment),
        ap (λ (s : ProgressState). s.count) same ∙ sym count,
        ap (λ (s : ProgressState). s.last) same,
        few,
      )

  -- what was read is what was read before and this entry, which is taken as the part has it
  pub gives_ahead : (part : PartOf) (start left : Option (List ℕ)) (failed : Bool) (times : Times) (items : List Item) → HasRead start times items (beside_source p left failed)
      → IsPartItem part (item_ahead a.action a.moment a.message.now) (item e) → TakenGives (Some part) start times items (beside_source new left failed) (next.Entry e)
  gives_ahead part start left failed times items read taken =
      let i : Item = item_ahead a.action a.moment a.message.now in
      let after : HasRead start times (items ++ i ∷ []) (beside_source (passed p a.moment a.size) left failed) =
      record { on = refl; times_are = read.times_are; stands = Stands-passed p a is start left failed items read.stands } in
      (i, subst (λ (s : ProgressState). HasRead start times (items ++ i ∷ []) (beside_source s left failed)) (sym (same ∙ ap (λ m. passed p m a.size) moment)) after, taken)

-- What follows is of a log that may have any number of entries, whose place `p` counts anew: `old` is that place before it counted anew.
module _ (old p new : ProgressState) (mid : p ≡ anew old) (a : Ahead) (is : IsAhead p a) (e : Entry) (count : ℕ) (number : e.number ≡ count + 1) (moment : e.moment ≡ a.moment)
    (same : new ≡ passed p e.moment a.size) where
  -- the entry has the next number, and keeps the order and the limit of moments
  pub takes_ahead_on : TakesAfter count old new (next.Entry e)
  takes_ahead_on =
      let (whole, few, order, entry) = is.comes [] in
      let high = entry.1.0 in
      let last : p.last ≡ old.last = ap (λ (s : ProgressState). s.last) mid in (
        ap (λ (s : ProgressState). s.stage) same,
        number,
        omega (arith, order, moment, last),
        omega (arith, high, moment),
        ap (λ (s : ProgressState). s.last) same,
      )

  -- the input, where it is known, begins with the entries that were read and this one, if it began with those that were read
  starts_ahead : (s left : Option (List ℕ)) (times : Times) (items : List Item) → p.count ≡ 0 → p.last ≡ last_of 0 items → StartsAt s p.format times items (prepend_known p.held left)
      → StartsAt s p.format times (items ++ item_ahead a.action a.moment a.message.now ∷ []) (prepend_known (drop a.size p.held) left)
  starts_ahead None left times items none last starts = tt
  starts_ahead (Some input) None times items none last (rest, known, starts) = absurd (cc)
  starts_ahead (Some input) (Some zs) times items none last (rest, known, starts) =
      let i : Item = item_ahead a.action a.moment a.message.now in
      let behind : List ℕ = drop a.size p.held ++ zs in
      let comes : ComesNext p.format 0 (last_of 0 items) (p.held ++ zs) (gives i behind) =
      subst (λ n. ComesNext p.format n (last_of 0 items) (p.held ++ zs) (gives i behind)) none (subst (λ n. ComesNext p.format p.count n (p.held ++ zs) (gives i behind)) last (is.comes zs)) in
      let whole : p.held ++ zs ≡ rest = same_Some _ _ known in (
        behind,
        refl,
        record {
          header = subst (Header p.format times input) (ap (λ (t : List ℕ). flat_map entry_says items ++ t) (sym whole ∙ comes.0) ∙ texts-push items i behind) starts.header;
          order = InOrder-push p.format 0 items i starts.order comes.2 comes.3;
        },
      )

  -- what was read is what was read before and this entry, which is taken as the part has it
  pub gives_ahead_on : (part : PartOf) (start left : Option (List ℕ)) (failed : Bool) (times : Times) (items : List Item) → HasStreamed start times items (beside_source old left failed)
      → IsPartItem part (item_ahead a.action a.moment a.message.now) (item e) → StreamTaken (Some part) start times items (beside_source new left failed) (next.Entry e)
  gives_ahead_on part start left failed times items read taken =
      let i : Item = item_ahead a.action a.moment a.message.now in
      let now = counted_anew old p left failed mid start times items read in
      let after : HasStreamed start times (items ++ i ∷ []) (beside_source (passed p a.moment a.size) left failed) =
      record { on = refl; times_are = now.0.times_are; last = sym (last_of-push 0 items i); starts = starts_ahead start left times items now.1 now.0.last now.0.starts } in
      (i, subst (λ (s : ProgressState). HasStreamed start times (items ++ i ∷ []) (beside_source s left failed)) (sym (same ∙ ap (λ m. passed p m a.size) moment)) after, taken)
