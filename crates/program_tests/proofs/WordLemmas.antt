-- What is told of words that are copied.
use Rattle.std.proofs.Common.{◌≡◌, List, [], ◌∷◌, map, refl}
use Rattle.std.specs.List.{AllZip}

-- where f tells the same of the two items at each place, it tells the same of the two lists
pub told_alike : {X Y : Type 0} (f : X → Y) (xs ys : List X) → AllZip (λ x y. f y ≡ f x) xs ys → map f ys ≡ map f xs
told_alike f [] [] alike = refl
told_alike f [] (y ∷ ys) alike = absurd alike
told_alike f (x ∷ xs) [] alike = absurd alike
told_alike f (x ∷ xs) (y ∷ ys) alike = let rest = told_alike f xs ys alike.1 in let first = alike.0 in cc
