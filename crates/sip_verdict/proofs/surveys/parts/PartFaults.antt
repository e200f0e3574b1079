-- A fault is found in the log of some transactions exactly where it is found in the whole and its message stays.
use Rattle.std.proofs.Common.{◌≡◌, ◌↔◌, ◌<◌, ◌+◌, inl, inr, ℕ, zero, suc, Bool, Some, None, List, [], ◌∷◌, ◌++◌, Contains, length, refl, sym, ap, ◌∙◌, subst, arith, append_assoc, append-nil, length-append}
use Rattle.sip_standard.specs.declared.fault.Fault.{Fault}
use Rattle.sip_standard.specs.Key.{KeyParts}
use Rattle.sip_standard.specs.declared.action.Action.{Action}
use Rattle.sip_standard.specs.declared.action.Action.TheVariants.{Sent, Received, Failed, Mark, Restart}
use Rattle.sip_standard.specs.Times.{Times}
use Rattle.sip_standard.specs.LogEntry.{Item}
use Rattle.sip_standard.specs.LogSays.{LogEnd}
use Rattle.sip_verdict.specs.declared.finding.Finding.{Finding}
use Rattle.sip_verdict.specs.declared.finding.Finding.TheVariants.{Malformed}
use Rattle.sip_verdict.specs.declared.survey_end.SurveyEnd.{SurveyEnd}
use Rattle.sip_standard.specs.Observation.{Observation}
use Rattle.sip_standard.specs.Seen.{AreSeen}
use Rattle.sip_standard.specs.VerdictOf.{Sees}
use Rattle.sip_verdict.specs.SurveyOf.{IsFoundAt, IsSurveyAfter}
use Rattle.sip_verdict.specs.SurveyLaws.{StaysOrIsMark, IsCutLog, StaysAt}
use Rattle.sip_verdict.proofs.verdicts.MessageUnique.{observes_one}
use Rattle.sip_verdict.proofs.surveys.parts.CutLogs.{SeenAs, log_cut}
use Rattle.sip_verdict.proofs.surveys.found.Named.{found_at, found_is}
use Rattle.sip_verdict.proofs.surveys.parts.Parts.{same_split}

-- the entry with the number n of a log and the one that stands for it in the cut log, with what is seen of both
record At (chosen : KeyParts → Bool) (done back : List (Observation KeyParts)) (items cuts : List Item) (es cs : List (Observation KeyParts)) (n : ℕ) : Type 0 where
  -- the item with those before it and after it, in the log, and then the one that stands for it in the cut log
  pub front : List Item
  pub item : Item
  pub rest : List Item
  pub items_are : items ≡ front ++ item ∷ rest
  pub before : List Item
  pub cut : Item
  pub others : List Item
  pub cuts_are : cuts ≡ before ++ cut ∷ others
  -- what was observed of the entries before it, of it, and of those after it
  pub so_far : List (Observation KeyParts)
  pub e : Observation KeyParts
  pub more : List (Observation KeyParts)
  pub es_are : es ≡ so_far ++ e ∷ more
  pub cut_so_far : List (Observation KeyParts)
  pub c : Observation KeyParts
  pub cut_more : List (Observation KeyParts)
  pub cs_are : cs ≡ cut_so_far ++ c ∷ cut_more
  -- in both logs it has the number n
  pub front_long : length front ≡ n
  pub before_long : length before ≡ n
  pub so_far_long : length so_far ≡ n
  pub cut_so_far_long : length cut_so_far ≡ n
  pub stays : StaysOrIsMark chosen item e cut
  pub sees : Sees (done ++ so_far) item e
  pub saw : Sees (back ++ cut_so_far) cut c

-- at each place of a log that is cut there is an entry and one that stands for it
at_place : (chosen : KeyParts → Bool) (done back : List (Observation KeyParts)) (items cuts : List Item) (es cs : List (Observation KeyParts)) → AreSeen done items es
    → AreSeen back cuts cs → IsCutLog chosen items es cuts → (n : ℕ) → n < length es → At chosen done back items cuts es cs n
-- the place is within the entries, and there are as many items as entries in both logs
at_place chosen done back items cuts [] cs seen saw cut n low = absurd (omega (arith, low))
at_place chosen done back [] cuts (e ∷ es) cs seen saw cut n low = absurd seen
at_place chosen done back (item ∷ items) [] (e ∷ es) cs seen saw cut n low = absurd cut
at_place chosen done back (item ∷ items) (i ∷ cuts) (e ∷ es) [] seen saw cut n low = absurd saw
-- at the first place stand the first entries of both logs
at_place chosen done back (item ∷ items) (i ∷ cuts) (e ∷ es) (c ∷ cs) seen saw cut zero low =
    record {
      front = [];
      item = item;
      rest = items;
      items_are = refl;
      before = [];
      cut = i;
      others = cuts;
      -- what is observed of the first entries
      cuts_are = refl;
      so_far = [];
      e = e;
      more = es;
      es_are = refl;
      cut_so_far = [];
      c = c;
      cut_more = cs;
      cs_are = refl;
      -- nothing comes before them
      front_long = refl;
      before_long = refl;
      so_far_long = refl;
      cut_so_far_long = refl;
      stays = cut.0;
      sees = subst (λ xs. Sees xs item e) (sym (append-nil done)) seen.0;
      saw = subst (λ xs. Sees xs i c) (sym (append-nil back)) saw.0;
    }
-- a later place, which is one less in the logs without their first entries
at_place chosen done back (item ∷ items) (i ∷ cuts) (e ∷ es) (c ∷ cs) seen saw cut (suc n) low =
    let at = at_place chosen (done ++ e ∷ []) (back ++ c ∷ []) items cuts es cs seen.1 saw.1 cut.1 n (omega (arith, low)) in
    record {
      -- the first entries come before it
      front = item ∷ at.front;
      item = at.item;
      rest = at.rest;
      items_are = ap (λ xs. item ∷ xs) at.items_are;
      before = i ∷ at.before;
      cut = at.cut;
      others = at.others;
      cuts_are = ap (λ xs. i ∷ xs) at.cuts_are;
      -- what is observed of the first entries comes before
      so_far = e ∷ at.so_far;
      e = at.e;
      more = at.more;
      es_are = ap (λ xs. e ∷ xs) at.es_are;
      cut_so_far = c ∷ at.cut_so_far;
      c = at.c;
      cut_more = at.cut_more;
      cs_are = ap (λ xs. c ∷ xs) at.cs_are;
      -- the number is one more than in the logs without their first entries
      front_long = let long = at.front_long in omega (arith, long);
      before_long = let long = at.before_long in omega (arith, long);
      so_far_long = let long = at.so_far_long in omega (arith, long);
      cut_so_far_long = let long = at.cut_so_far_long in omega (arith, long);
      stays = at.stays;
      sees = subst (λ xs. Sees xs at.item at.e) (append_assoc done (e ∷ []) at.so_far) at.sees;
      saw = subst (λ xs. Sees xs at.cut at.c) (append_assoc back (c ∷ []) at.cut_so_far) at.saw;
    }

-- a log that is cut has as many entries as the whole log
cut_long : (chosen : KeyParts → Bool) (done back : List (Observation KeyParts)) (items cuts : List Item) (es cs : List (Observation KeyParts)) → AreSeen done items es
    → AreSeen back cuts cs → IsCutLog chosen items es cuts → length cs ≡ length es
-- where one of the lists ends, all end; c and i are the entry and the item of the log that is cut
cut_long chosen done back [] [] [] [] seen saw cut = refl
cut_long chosen done back [] [] [] (c ∷ cs) seen saw cut = absurd saw
cut_long chosen done back [] (i ∷ cuts) [] cs seen saw cut = absurd cut
cut_long chosen done back [] cuts (e ∷ es) cs seen saw cut = absurd seen
cut_long chosen done back (item ∷ items) cuts [] cs seen saw cut = absurd seen
cut_long chosen done back (item ∷ items) [] (e ∷ es) cs seen saw cut = absurd cut
cut_long chosen done back (item ∷ items) (i ∷ cuts) (e ∷ es) [] seen saw cut = absurd saw
cut_long chosen done back (item ∷ items) (i ∷ cuts) (e ∷ es) (c ∷ cs) seen saw cut = let rest = cut_long chosen (done ++ e ∷ []) (back ++ c ∷ []) items cuts es cs seen.1 saw.1 cut.1 in omega (arith, rest)

-- an item is seen with the same fault after any entries
same_fault : (xs ys : List (Observation KeyParts)) (item : Item) (e c : Observation KeyParts) → Sees xs item e → Sees ys item c → e.fault ≡ c.fault
same_fault xs ys item e c sees saw = by item.action refl sees saw
  where
    -- an item with a message is seen alike after any entries, and a mark and a restart have no fault
    message : (a : Action) → item.action ≡ a → SeenAs xs item c a → e.fault ≡ c.fault
    message a is seen = ap (λ f. f.fault) (observes_one xs item e c sees (subst (SeenAs xs item c) (sym is) seen))

    -- the item is seen with the same fault in both logs, whatever its action is
    by : (a : Action) → item.action ≡ a → SeenAs xs item e a → SeenAs ys item c a → e.fault ≡ c.fault
    by Sent is one other = message Sent is other
    by Received is one other = message Received is other
    by Failed is one other = message Failed is other
    by Mark is one other = ap (λ f. f.fault) one ∙ sym (ap (λ f. f.fault) other)
    by Restart is one other = ap (λ f. f.fault) one ∙ sym (ap (λ f. f.fault) other)

-- a mark has no fault
mark_whole : (ys : List (Observation KeyParts)) (item : Item) (c : Observation KeyParts) → Sees ys (record { action = Mark; moment = item.moment; text = [] }) c → c.fault ≡ None
mark_whole ys item c saw = ap (λ f. f.fault) saw

-- a fault is found in the part exactly if it is found in the whole and its message stays
faults_of : (p : Times) (chosen : KeyParts → Bool) (items cuts : List Item) (es cs : List (Observation KeyParts)) (close shut : LogEnd) (found part : List Finding) (end fin : SurveyEnd)
    → AreSeen [] items es → AreSeen [] cuts cs → IsCutLog chosen items es cuts → IsSurveyAfter p [] items close found end → IsSurveyAfter p [] cuts shut part fin
    → (n : ℕ) (fault : Fault) → Contains part (Malformed n fault) ↔ (Contains found (Malformed n fault) × StaysAt items cuts n)
faults_of p chosen items cuts es cs close shut found part end fin seen saw cut whole some n fault = (into, λ h. from h.0 h.1)
  where
    -- what is found in the part is found in the whole, and its message stays
    into : Contains part (Malformed n fault) → Contains found (Malformed n fault) × StaysAt items cuts n
    into has = by at.stays
      where
        -- the entry of the part at which the fault is found
        there : (front : List (Observation KeyParts)) × (e : Observation KeyParts) × (more : List (Observation KeyParts)) × (cs ≡ front ++ e ∷ more) × IsFoundAt p front e (Malformed n fault)
        there = found_is p [] cuts shut cs part fin saw some (Malformed n fault) has

        -- the place lies within the whole, which has as many entries as the part
        low : length there.0 < length es
        low = let long = cut_long chosen [] [] items cuts es cs seen saw cut in let split = ap length there.3 in omega (arith, long, simp length-append at split)

        -- the item and the entry of the whole at that place
        at : At chosen [] [] items cuts es cs (length there.0)
        at = at_place chosen [] [] items cuts es cs seen saw cut (length there.0) low

        -- the entry of the part at that place is the one of the finding
        same : (at.cut_so_far ≡ there.0) × (at.c ≡ there.1)
        same = same_split at.cut_so_far at.cut_more there.0 there.2 at.c there.1 (sym at.cs_are ∙ there.3) at.cut_so_far_long

        -- that entry has the fault
        fault_is : at.c.fault ≡ Some fault
        fault_is = ap (λ c. c.fault) same.1 ∙ there.4.1

        -- the number of the finding is that of the place
        number : n ≡ length at.so_far + 1
        number = let long = at.so_far_long in let entry = there.4.0 in omega (arith, long, entry)

        -- the finding of the fault is found and its item stays: else the item is a mark, which has no fault
        by : StaysOrIsMark chosen at.item at.e at.cut → Contains found (Malformed n fault) × StaysAt items cuts n
        -- the item stays: the whole has the same fault at this entry
        by (inl (is, which)) = (
          found_at p [] items close es found end seen whole at.so_far at.e at.more at.es_are (Malformed n fault)
              (number, same_fault at.so_far at.cut_so_far at.item at.e at.c at.sees (subst (λ i. Sees at.cut_so_far i at.c) is at.saw) ∙ fault_is),
          -- the entry stands at this place in both logs
          (
            at.front,
            at.item,
            at.rest,
            at.before,
            at.others,
            at.items_are,
            -- as many items stand before the entry in the one log as in the other
            cuts_are is,
            let long = at.front_long in let entry = there.4.0 in omega (arith, long, entry),
            at.front_long ∙ sym at.before_long,
          ),
        )
          where
            -- where the item stays, the part of the log has it at its place
            cuts_are : at.cut ≡ at.item → cuts ≡ at.before ++ at.item ∷ at.others
            cuts_are is = at.cuts_are ∙ ap (λ i. at.before ++ i ∷ at.others) is
        -- the item is a mark in the part, which has no fault
        by (inr (is, none)) =
            let both : None ≡ Some fault = sym (mark_whole at.cut_so_far at.item at.c (subst (λ i. Sees at.cut_so_far i at.c) is at.saw)) ∙ fault_is in absurd (cc)

    -- a fault of the whole whose message stays is found in the part
    from : Contains found (Malformed n fault) → StaysAt items cuts n → Contains part (Malformed n fault)
    from has (front, item, rest, back, others, items_are, cuts_are, entry, long) = found_at p [] cuts shut cs part fin saw some at.cut_so_far at.c at.cut_more at.cs_are (Malformed n fault) (number, fault_is)
      where
        -- the entry of the whole at which the fault is found
        there : (front : List (Observation KeyParts)) × (e : Observation KeyParts) × (more : List (Observation KeyParts)) × (es ≡ front ++ e ∷ more) × IsFoundAt p front e (Malformed n fault)
        there = found_is p [] items close es found end seen whole (Malformed n fault) has

        -- the place lies within the entries
        low : length there.0 < length es
        low = let split = ap length there.3 in omega (arith, simp length-append at split)

        -- the item and the entry of the part at that place
        at : At chosen [] [] items cuts es cs (length there.0)
        at = at_place chosen [] [] items cuts es cs seen saw cut (length there.0) low

        -- the entry of the whole at that place is the one of the finding
        same : (at.so_far ≡ there.0) × (at.e ≡ there.1)
        same = same_split at.so_far at.more there.0 there.2 at.e there.1 (sym at.es_are ∙ there.3) at.so_far_long

        -- the item at that place is the one that stays
        same_item : (at.front ≡ front) × (at.item ≡ item)
        same_item = same_split at.front at.rest front rest at.item item (sym at.items_are ∙ items_are) (let a = at.front_long in let b = there.4.0 in omega (arith, a, b, entry))

        -- the item of the part at that place is the same item
        same_cut : (at.before ≡ back) × (at.cut ≡ item)
        same_cut = same_split at.before at.others back others at.cut item (sym at.cuts_are ∙ cuts_are) (let a = at.before_long in let b = there.4.0 in omega (arith, a, b, entry, long))

        -- the number of the finding is that of the place in the part
        number : n ≡ length at.cut_so_far + 1
        number = let a = at.cut_so_far_long in let b = there.4.0 in omega (arith, a, b)

        -- the entry of the part has the fault, too
        fault_is : at.c.fault ≡ Some fault
        fault_is =
            sym (same_fault at.so_far at.cut_so_far item at.e at.c (subst (λ i. Sees at.so_far i at.e) same_item.1 at.sees) (subst (λ i. Sees at.cut_so_far i at.c) same_cut.1 at.saw))
            ∙ ap (λ e. e.fault) same.1 ∙ there.4.1

-- the survey of a part has a fault exactly where the survey of the whole has it and its message stays in the part
pub part_faults : (p : Times) (chosen : KeyParts → Bool) (items cuts : List Item) (es : List (Observation KeyParts)) (close shut : LogEnd) (found part : List Finding) (end fin : SurveyEnd)
    → AreSeen [] items es → IsCutLog chosen items es cuts → IsSurveyAfter p [] items close found end → IsSurveyAfter p [] cuts shut part fin → (n : ℕ) (fault : Fault)
    → Contains part (Malformed n fault) ↔ (Contains found (Malformed n fault) × StaysAt items cuts n)
part_faults p chosen items cuts es close shut found part end fin seen cut whole some n fault =
    let observed = log_cut chosen [] [] tt items es cuts seen cut in faults_of p chosen items cuts es observed.0 close shut found part end fin seen observed.1 cut whole some n fault
