-- The test of two keys decides whether they are the same: equal keys are, and the same are equal.
-- `λ i. f (e i)`: by the equation e, f of its left side is equal to f of its right side.
use Rattle.std.specs.Prelude.{◌≡◌, ℕ, true, List, refl}
use Rattle.std.specs.Bool.{Decides}
use Rattle.std.specs.Cmp.{first_so, second_so}
use Rattle.std.specs.Cmp.Lexicographic.{bytes_decides}
use Rattle.std.specs.Str.{bytes_eq}
use Rattle.sip_standard.specs.declared.role.Role.{Role}
use Rattle.sip_standard.specs.declared.role.Role.TheVariants.{Client, Server}
use Rattle.sip_standard.specs.contracts.role.RolePartialEq.TheImpl as role_eq
use Rattle.sip_standard.specs.Key.{KeyParts, same_key}

-- equal roles are the same role
same_role-so : (r s : Role) → role_eq.ghosts.eq r s ≡ true → r ≡ s
same_role-so Client Client h = refl
same_role-so Server Server h = refl
same_role-so Client Server h = cc
same_role-so Server Client h = cc

-- the test finds a role equal to itself
same_role-itself : (r : Role) → role_eq.ghosts.eq r r ≡ true
same_role-itself Client = refl
same_role-itself Server = refl

-- the test finds a text equal to itself
bytes_eq-itself : (xs : List ℕ) → bytes_eq xs xs ≡ true
bytes_eq-itself xs = (bytes_decides xs xs).1 refl

-- keys that the test finds equal are the same
same_key-exact : (a b : KeyParts) → same_key a b ≡ true → a ≡ b
same_key-exact a b h =
    -- the test is four tests in a row: `rest` has the last three of them and `last` the last two
    let rest = second_so _ _ h in
    let last = second_so _ _ rest in
    let role : a.role ≡ b.role = same_role-so a.role b.role (first_so _ _ h) in
    let branch : a.branch ≡ b.branch = (bytes_decides a.branch b.branch).0 (first_so _ _ rest) in
    let sent_by : a.sent_by ≡ b.sent_by = (bytes_decides a.sent_by b.sent_by).0 (first_so _ _ last) in
    let method : a.method ≡ b.method = (bytes_decides a.method b.method).0 (second_so _ _ last) in
    λ i. record { role = role i; branch = branch i; sent_by = sent_by i; method = method i }

-- the test finds a key equal to itself
same_key-itself : (a : KeyParts) → same_key a a ≡ true
same_key-itself a =
    rw (same_role-itself a.role, bytes_eq-itself a.branch, bytes_eq-itself a.sent_by, bytes_eq-itself a.method) refl

-- the test decides whether keys are the same
pub same_key-decides : (a b : KeyParts) → Decides (same_key a b) (a ≡ b)
same_key-decides a b = (same_key-exact a b, λ e. rw (← e) (same_key-itself a))
