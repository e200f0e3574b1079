use Rattle.std.proofs.Common.{◌≡◌, ◌<◌, ◌∙◌, ◌++◌, ◌∷◌, [], Some, inl, inr, length, slice_get, sym, refl, subst, ap, rules}
use Rattle.std.specs.Map.{keys_of}
use Rattle.indexmap.proofs.CallerLemmas.{insert_entry-new}
use Rattle.indexmap.specs.Entry.{entry_index, entry_value, map_with_value}
use Rattle.indexmap.specs.declared.map.entry.Entry.TheVariants.{Vacant}
use Rattle.sip_standard.specs.Key.{same_key}
use Rattle.sip_states.specs.AnySet.{start_of}
use Rattle.sip_states.proofs.keyed.TablesLemmas.{found-at, All-absent}
use Rattle.sip_states.proofs.tables.find_or_start.Goals as goal

-- the key was there, and the tables are as before
pub returns-in-Occupied-clause-ok : goal.returns-in-Occupied-clause-ok
returns-in-Occupied-clause-ok g c =
    let old = c.args.sets.now.entries in
    let found = rw c.in-Occupied.is at c.in_ok-entry.ensures.found in
    let index = rw c.in-Occupied.is at c.in_ok-entry.ensures.index in
    let same = rw c.in-Occupied.is at c.in_ok-entry.ensures.unchanged in
    -- the map is as before, and the index is that of the key
    let link = rw c.in_ok-entry.was at (c.entry.follows.holds c.in-Occupied.entry.map.now) in
    let place = found-at old c.args.key found.0 in
    let is = c.index.ensures ∙ index in
    let lent : (c.entry.follows.lender c.in-Occupied.entry.map.now).entries ≡ old = ap (λ m. m.entries) link ∙ same in
    inl (subst (λ i. slice_get (keys_of old) i ≡ Some c.args.key) (sym is) place.0, subst (λ i. i < length old) (sym is) place.1, search (rules, lent))

-- a key that was not there stands at the end, with the set that it starts with; `unfolding` names the definitions that the proof looks into
pub returns-in-Ok-clause-ok : goal.returns-in-Ok-clause-ok
unfolding entry_index entry_value
returns-in-Ok-clause-ok g c =
    let old = c.args.sets.now in
    let set = c.in-Ok.set in
    -- no entry has the key, so it is put at the end
    let none = rw c.in-Vacant.is at c.in_ok-entry.ensures.found in
    let key = c.key.ensures ∙ (rw c.in-Vacant.is at c.in_ok-entry.ensures.key) refl in
    let same = rw c.in-Vacant.is at c.in_ok-entry.ensures.unchanged in
    let writes = rw c.in-Vacant.is at c.in_ok-entry.ensures.update in
    let link = rw c.in_ok-entry.was at (c.entry.follows.holds (map_with_value (Vacant c.in-Vacant.entry) set)) in
    let starts = c.in-Ok.ensures ∙ ap (start_of c.args.params) key in
    -- the map is the old one with this entry after the others
    let grown : (c.entry.follows.lender (map_with_value (Vacant c.in-Vacant.entry) set)).entries ≡ old.entries ++ (c.args.key, start_of c.args.params c.args.key) ∷ []
    = ap (λ m. m.entries) link ∙ writes.1 set ∙ insert_entry-new same_key old c.args.key set none ∙ ap (λ s. old.entries ++ (c.args.key, s) ∷ []) starts in
    inr (All-absent old.entries c.args.key none, c.index-index.ensures ∙ ap length same, search (rules, grown))
