-- A text cut at a mark: at the first, at each, at its front and at its end.
use Rattle.std.specs.Prelude.{ℕ, List, [], ◌∷◌, Option, None, Some, length, take, drop, ◌+◌, slice_index, ◌-◌, ◌&&◌, ◌==◌, nat_lt, if◌then◌else◌}
use Rattle.std.specs.List.{slice_split}
use Rattle.std.specs.Option.{option_map_or}

-- [ "mark" part ]: the text of an optional part after its mark
abbrev pub led : ℕ → Option (List ℕ) → List ℕ
led mark None = []
led mark (Some part) = mark ∷ part

-- the text before the first mark, which is all of it if there is none
abbrev pub before : ℕ → List ℕ → List ℕ
before mark [] = []
before mark (b ∷ text) = if b == mark then [] else b ∷ before mark text

-- the text after the first mark, if there is one
abbrev pub behind : ℕ → List ℕ → Option (List ℕ)
behind mark [] = None
behind mark (b ∷ text) = if b == mark then Some text else behind mark text

-- the parts between the marks
abbrev pub parts : ℕ → List ℕ → List (List ℕ)
parts mark text = slice_split (λ b. b == mark) text

-- the text before the last mark, if there is one
abbrev pub before_last : ℕ → List ℕ → Option (List ℕ)
before_last mark [] = None
before_last mark (b ∷ text) =
    option_map_or (λ u. Some (b ∷ u)) (before_last mark text) (if b == mark then Some [] else None)

-- the text after the last mark, which is all of it if there is none
abbrev pub behind_last : ℕ → List ℕ → List ℕ
behind_last mark text = option_map_or (λ u. drop (length u + 1) text) (before_last mark text) text

-- the text past the mark at its front, if it begins with one
abbrev pub past : ℕ → List ℕ → Option (List ℕ)
past mark [] = None
past mark (b ∷ text) = if b == mark then Some text else None

-- the text up to the mark at its end, if it ends with one
abbrev pub up_to : ℕ → List ℕ → Option (List ℕ)
up_to mark text =
    if nat_lt 0 (length text) && slice_index text (length text - 1) == mark then
    Some (take (length text - 1) text)
    else None
