-- What a key feeds a hasher: one text, which tells its parts.
-- `λ i. f (e i)`: by the equation e, f of its left side is equal to f of its right side.
use Rattle.std.proofs.Common.{◌≡◌, ◌/◌, ◌%◌, ◌<◌, ◌++◌, ◌∷◌, [], ℕ, zero, suc, List, length, take, drop, get_or, replicate, refl, sym, ap, ap₂, ◌∙◌, append_assoc, arith}
use Rattle.std.specs.Bool.{one_answer}
use Rattle.std.specs.Cmp.Lexicographic.{bytes_decides}
use Rattle.std.specs.Str.{bytes_eq}
use Rattle.std.proofs.lemmas.List.{take_at, drop_at, length-append}
use Rattle.sip_standard.specs.declared.role.Role.{Role}
use Rattle.sip_standard.specs.declared.role.Role.TheVariants.{Client, Server}
use Rattle.sip_key.specs.contracts.key.KeyHash.TheImpl as key_hash
use Rattle.sip_standard.specs.Key.{KeyParts, same_key}
use Rattle.sip_standard.proofs.SameKey.{same_key-decides}
use Rattle.sip_key.specs.inner.KeyText.{role_byte, length_bytes, key_text}

-- roles with the same byte are the same
role-by_its_byte : (r s : Role) → role_byte r ≡ role_byte s → r ≡ s
role-by_its_byte Client Client same = refl
role-by_its_byte Server Server same = refl
-- the bytes of the two roles are 0 and 1
role-by_its_byte Client Server same = absurd (omega (arith, same))
role-by_its_byte Server Client same = absurd (omega (arith, same))

-- the first byte below 64 ends a length: two texts that begin with a length each have the same length and the same rest where they are the same
-- q and p tell how many bytes 64 the two lengths have, r and s are their last bytes, and t and u are the rests
length-ends : (q p r s : ℕ) (t u : List ℕ) → r < 64 → s < 64 → (replicate q 64 ++ r ∷ []) ++ t ≡ (replicate p 64 ++ s ∷ []) ++ u → (q ≡ p) × (r ≡ s) × (t ≡ u)
length-ends zero zero r s t u r_small s_small same = (refl, ap (λ bytes. get_or bytes 0 0) same, ap (drop 1) same)
-- a byte of 64 says that a length goes on, and one below 64 ends it, so both lengths go on equally long
length-ends zero (suc p) r s t u r_small s_small same = let goes_on : r ≡ 64 = ap (λ bytes. get_or bytes 0 0) same in absurd (omega arith)
length-ends (suc q) zero r s t u r_small s_small same = let goes_on : 64 ≡ s = ap (λ bytes. get_or bytes 0 0) same in absurd (omega arith)
length-ends (suc q) (suc p) r s t u r_small s_small same =
    let more = length-ends q p r s t u r_small s_small (ap (drop 1) same) in
    (ap suc more.0, more.1, more.2)

-- two equal texts that begin with the bytes of a length each have the same length there, and the same rest
-- a and b are the lengths, and t and u the rests
length-by_its_bytes : (a b : ℕ) (t u : List ℕ) → length_bytes a ++ t ≡ length_bytes b ++ u → (a ≡ b) × (t ≡ u)
unfolding length_bytes
length-by_its_bytes a b t u same =
    let told = length-ends (a / 64) (b / 64) (a % 64) (b % 64) t u (omega arith) (omega arith) same in
    (omega (arith, told.0, told.1), told.2)

-- where one text is a and t, and also b and u, and a and b are equally long, a is b, and t is u
alike : (a b t u : List ℕ) → length a ≡ length b → a ++ t ≡ b ++ u → (a ≡ b) × (t ≡ u)
alike a b t u long same = (
  sym (take_at a t _ refl) ∙ ap₂ take long same ∙ take_at b u _ refl,
  sym (drop_at a t _ refl) ∙ ap₂ drop long same ∙ drop_at b u _ refl,
)

-- keys with the same text are the same
key-by_its_text : (a b : KeyParts) → key_text a ≡ key_text b → a ≡ b
key-by_its_text a b same =
    let role : a.role ≡ b.role = role-by_its_byte a.role b.role (ap (λ bytes. get_or bytes 0 0) same) in
    let texts_a = (a.branch ++ a.sent_by) ++ a.method in
    let texts_b = (b.branch ++ b.sent_by) ++ b.method in
    -- both texts begin with the same lengths of the branch and of the method
    let lengths = length-by_its_bytes (length a.branch) (length b.branch) (length_bytes (length a.method) ++ texts_a) (length_bytes (length b.method) ++ texts_b)
    (sym (append_assoc (length_bytes (length a.branch)) (length_bytes (length a.method)) texts_a) ∙ ap (drop 1) same ∙ append_assoc (length_bytes (length b.branch)) (length_bytes (length b.method)) texts_b) in
    let texts = length-by_its_bytes (length a.method) (length b.method) texts_a texts_b lengths.1 in
    let long : length (a.branch ++ a.sent_by) ≡ length (b.branch ++ b.sent_by) =
    omega (arith, ap length texts.1, length-append (a.branch ++ a.sent_by) a.method, length-append (b.branch ++ b.sent_by) b.method, texts.0) in
    -- texts of these lengths are the same part by part
    let fronts = alike (a.branch ++ a.sent_by) (b.branch ++ b.sent_by) a.method b.method long texts.1 in
    let parts = alike a.branch b.branch a.sent_by b.sent_by lengths.0 fronts.0 in
    λ i. record { role = role i; branch = parts.0 i; sent_by = parts.1 i; method = fronts.1 i }

-- two keys a and b are equal exactly if their texts t and u are
pub same_key-by_text : (a b : KeyParts) (t u : List ℕ) → t ≡ key_text a → u ≡ key_text b → bytes_eq t u ≡ same_key a b
same_key-by_text a b t u t_is u_is =
    one_answer (bytes_eq t u) (same_key a b)
    (λ h. key-by_its_text a b (sym t_is ∙ (bytes_decides t u).0 h ∙ u_is), λ same. (bytes_decides t u).1 (t_is ∙ ap key_text same ∙ sym u_is))
    (same_key-decides a b)

-- keys that feed a hasher the same bytes are the same
pub key_by_its_feed : (a b : KeyParts) → key_hash.ghosts.hash_input a ≡ key_hash.ghosts.hash_input b → a ≡ b
key_by_its_feed a b fed = key-by_its_text a b (ap (λ writes. get_or writes 0 []) fed)
