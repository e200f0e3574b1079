-- How a book keeps the messages of some numbers, and forgets the others. `slice_index_or xs i d` is the element at the place i, or d past the end.
use Rattle.std.specs.Prelude.{ℕ, suc, Option, Some, None, List, [], ◌∷◌, cond, nat_eq, slice_index_or}
use Rattle.std.specs.Option.{option_map}
use Rattle.sip_machine.specs.Texts.{Texts}
use Rattle.sip_machine.specs.declared.book.Place.{Place}

-- the number of the message at a position, and 0 past the last one
abbrev pub number_at : Texts → ℕ → ℕ
number_at texts position = (slice_index_or texts position (0, [])).0

-- the place of a number in a list of numbers, if it stands there
abbrev pub place_among : List ℕ → ℕ → Option ℕ
place_among [] n = None
place_among (m ∷ ms) n = cond (nat_eq m n) (Some 0) (option_map suc (place_among ms n))

-- the place of a message once the messages of these numbers alone are kept, if it is one of them
abbrev pub moved : Texts → List ℕ → Place → Option Place
moved texts numbers place = option_map (λ i. record { hash = place.hash; position = i }) (place_among numbers (number_at texts place.position))

-- the messages with these numbers, found by going through numbers and messages together, which both rise
abbrev pub merged : List ℕ → Texts → Texts
merged numbers [] = []
merged [] (t ∷ ts) = []
merged (n ∷ ns) (t ∷ ts) = cond (nat_eq t.0 n) (t ∷ merged ns ts) (merged (n ∷ ns) ts)
