-- The text of a key: its head, and then its branch, its sent-by and its method, one after another.
-- `λ i. f (e i)`: by the equation e, f of its left side is equal to f of its right side.
use Rattle.std.proofs.Common.{◌≡◌, ◌==◌, ◌+◌, ◌-◌, ◌*◌, ◌/◌, ◌%◌, ◌<◌, ◌≤◌, ◌++◌, ◌∷◌, [], ℕ, zero, suc, false, cond, List, length, map, take, drop, replicate, refl, sym, ap, ap₂, subst, ◌∙◌, append_assoc, arith}
use Rattle.std.specs.Prelude.{slice_range}
use Rattle.std.specs.Char.{to_ascii_lowercase}
use Rattle.std.proofs.Math.Seq.{take-length}
use Rattle.std.proofs.lemmas.List.{take_at, drop_at, length-append, length-map, length-replicate, map-append}
use Rattle.std.proofs.lemmas.Bool.Decides.{nat_tests}
use Rattle.std.proofs.lemmas.Str.Ascii.{lowercase_is}
use Rattle.sip_standard.specs.Case.{folded}
use Rattle.sip_standard.specs.declared.role.Role.{Role}
use Rattle.sip_standard.specs.declared.role.Role.TheVariants.{Client, Server}
use Rattle.sip_standard.specs.Key.{KeyParts}
use Rattle.sip_key.specs.inner.KeyText.{after_length, length_bytes, length_in, role_byte, role_in, key_head, key_text, parts_in, parts_of}

-- the bytes from the end of a front, as many as a text has that stands there, are that text
between : (front text rest : List ℕ) (from to : ℕ) → from ≡ length front → to ≡ from + length text → slice_range (front ++ (text ++ rest)) from to ≡ text
between front text rest from to begins ends =
    ap (take (to - from)) (drop_at front (text ++ rest) from (sym begins)) ∙ take_at text rest (to - from) (omega arith)

-- where texts are a branch, a sent-by and a method in a row, the places between them give these
pub parts-are : (branch sent_by method texts : List ℕ) (from to : ℕ) → texts ≡ (branch ++ sent_by) ++ method → from ≡ length branch → to ≡ from + length sent_by
    → (take from texts ≡ branch) × (slice_range texts from to ≡ sent_by) × (drop to texts ≡ method)
parts-are branch sent_by method texts from to whole first second =
    -- the branch stands first, then the sent-by, and then the method
    let apart : texts ≡ branch ++ (sent_by ++ method) = whole ∙ append_assoc branch sent_by method in
    let both = length-append branch sent_by in (
      ap (take from) apart ∙ take_at branch (sent_by ++ method) from (sym first),
      ap (λ t. slice_range t from to) apart ∙ between branch sent_by method from to first second,
      ap (drop to) whole ∙ drop_at (branch ++ sent_by) method to (omega (arith, both, first, second)),
    )

-- the bytes of a length are one for each 64 in it, and one more
length-bytes_of : (count : ℕ) → length (length_bytes count) ≡ count / 64 + 1
unfolding length_bytes
length-bytes_of count = omega (arith, length-append (replicate (count / 64) 64) (count % 64 ∷ []), length-replicate {A = ℕ} (count / 64) 64)

-- the head of a key has three bytes, and one more for each 64 in the lengths of its branch and its method
pub head_length : (role : Role) (branch method : ℕ) → length (key_head role branch method) ≡ 3 + branch / 64 + method / 64
head_length role branch method =
    omega (arith, length-append (length_bytes branch) (length_bytes method), length-bytes_of branch, length-bytes_of method)

-- 64 is no letter, so that lower case leaves a byte 64 as it is, however often it stands
repeated-folded : (n : ℕ) → folded (replicate n 64) ≡ replicate n 64
repeated-folded zero = refl
repeated-folded (suc n) = ap (λ bytes. 64 ∷ bytes) (repeated-folded n)

-- no byte of a length is a letter, so that lower case leaves them as they are
length-folded : (count : ℕ) → folded (length_bytes count) ≡ length_bytes count
unfolding length_bytes
length-folded count =
    map-append to_ascii_lowercase (replicate (count / 64) 64) (count % 64 ∷ [])
    ∙ ap₂ ◌++◌ (repeated-folded (count / 64)) (ap (λ byte. byte ∷ []) ((lowercase_is (count % 64)).1 (omega arith)))

-- the byte of a role is no letter that lower case changes
role-folded : (role : Role) → to_ascii_lowercase (role_byte role) ≡ role_byte role
role-folded Client = refl
role-folded Server = refl

-- lower case leaves the head of a key as it is
head-folded : (role : Role) (branch method : ℕ) → folded (key_head role branch method) ≡ key_head role branch method
head-folded role branch method =
    ap₂ ◌∷◌ (role-folded role) (map-append to_ascii_lowercase (length_bytes branch) (length_bytes method) ∙ ap₂ ◌++◌ (length-folded branch) (length-folded method))

-- the head, the branch and the host of a key, folded together, are the head as it is, and then the branch and the host folded
pub begun_folded : (role : Role) (b m : ℕ) (branch host : List ℕ) → folded ((key_head role b m ++ branch) ++ host) ≡ key_head role b m ++ folded (branch ++ host)
begun_folded role b m branch host =
    ap folded (append_assoc (key_head role b m) branch host)
    ∙ map-append to_ascii_lowercase (key_head role b m) (branch ++ host)
    ∙ ap (λ head. head ++ folded (branch ++ host)) (head-folded role b m)

-- a branch and a host that are folded together, and a port after them, are the folded branch, the folded host and the port
folded-apart : (branch host port : List ℕ) → map to_ascii_lowercase (branch ++ host) ++ port ≡ folded branch ++ (folded host ++ port)
folded-apart branch host port = ap (λ text. text ++ port) (map-append to_ascii_lowercase branch host) ∙ append_assoc (folded branch) (folded host) port

-- where a text is the beginning of a key, the bytes of a port and a method, it is the text of the key of the folded branch, the folded host with the
-- port, and the method
pub built : (role : Role) (branch host port method begun text : List ℕ)
    → begun ≡ key_head role (length branch) (length method) ++ folded (branch ++ host)
    → text ≡ (begun ++ port) ++ method
    → text ≡ key_text (record { role = role; branch = folded branch; sent_by = folded host ++ port; method = method })
built role branch host port method begun text begun_is whole =
    -- the head has the length of the branch, which folding does not change
    let head = key_head role (length branch) (length method) in
    let texts = folded branch ++ (folded host ++ port) in
    let head_is : head ≡ key_head role (length (folded branch)) (length method) = ap (λ n. key_head role n (length method)) (sym (length-map branch to_ascii_lowercase)) in
    let ported : begun ++ port ≡ head ++ texts =
    ap (λ t. t ++ port) begun_is ∙ append_assoc head (folded (branch ++ host)) port ∙ ap (λ t. head ++ t) (folded-apart branch host port) in
    whole ∙ ap (λ t. t ++ method) ported ∙ append_assoc head texts method ∙ ap (λ h. h ++ (texts ++ method)) head_is

-- What follows is of what a text tells of its key.

-- a length is read back, and so is what stands after it
bytes-read : (q r : ℕ) (rest : List ℕ) → r < 64 →
    (length_in ((replicate q 64 ++ r ∷ []) ++ rest) ≡ 64 * q + r) × (after_length ((replicate q 64 ++ r ∷ []) ++ rest) ≡ rest)
bytes-read zero r rest small =
    -- r is below 64, so its byte is the last of the length
    let last : (r == 64) ≡ false = grind (arith, nat_tests, small) in
    (ap (λ b. cond b (64 + length_in rest) r) last ∙ omega arith, ap (λ b. cond b (after_length rest) rest) last)
bytes-read (suc q) r rest small =
    -- one byte of 64 more makes the length 64 more
    let more = bytes-read q r rest small in
    (ap (λ n. 64 + n) more.0 ∙ omega arith, more.1)

-- a length that was written is read back, and what follows it is what follows
length-read : (count : ℕ) (rest : List ℕ) → (length_in (length_bytes count ++ rest) ≡ count) × (after_length (length_bytes count ++ rest) ≡ rest)
unfolding length_bytes
length-read count rest =
    let read = bytes-read (count / 64) (count % 64) rest (omega arith) in
    (read.0 ∙ omega arith, read.1)

-- the byte of a role tells the role
role-read : (role : Role) (rest : List ℕ) → role_in (role_byte role ∷ rest) ≡ role
role-read Client rest = refl
role-read Server rest = refl

-- the text tells the parts of this key
pub record Tells (k : KeyParts) (text : List ℕ) : Type 0 where
  -- the first byte is the role, and then come the two lengths
  pub some : 0 < length text
  pub role : role_in text ≡ k.role
  pub branch : length_in (drop 1 text) ≡ length k.branch
  pub method : length_in (after_length (drop 1 text)) ≡ length k.method
  -- after the lengths stand the texts in a row
  pub texts : after_length (after_length (drop 1 text)) ≡ (k.branch ++ k.sent_by) ++ k.method
  -- no length is more than what follows it
  pub branch_short : length k.branch ≤ length (drop 1 text)
  pub method_short : length k.method ≤ length (after_length (drop 1 text))

-- the text of a key tells its parts
pub tells : (k : KeyParts) (text : List ℕ) → text ≡ key_text k → Tells k text
tells k text is =
    let texts = (k.branch ++ k.sent_by) ++ k.method in
    let lengths = length_bytes (length k.branch) in
    let methods = length_bytes (length k.method) in
    -- after the role come the length of the branch and the length of the method, and then the texts
    let rest : drop 1 text ≡ lengths ++ (methods ++ texts) = ap (drop 1) is ∙ append_assoc lengths methods texts in
    let first = length-read (length k.branch) (methods ++ texts) in
    let second = length-read (length k.method) texts in
    let after : after_length (drop 1 text) ≡ methods ++ texts = ap after_length rest ∙ first.1 in
    -- the lengths of what stands in a row are sums of the lengths of the parts
    let all = length-append (k.branch ++ k.sent_by) k.method in
    let both = length-append k.branch k.sent_by in
    let end = length-append methods texts in
    let whole = length-append lengths (methods ++ texts) in
    -- what is read at these places are the parts, and each length is at most what follows it
    record {
      some = omega (arith, ap length is);
      role = ap role_in is ∙ role-read k.role ((lengths ++ methods) ++ texts);
      branch = ap length_in rest ∙ first.0;
      method = ap length_in after ∙ second.0;
      texts = ap after_length after ∙ second.1;
      branch_short = omega (arith, ap length rest, whole, end, all, both);
      method_short = omega (arith, ap length after, end, all);
    }

-- the text of a key gives its parts
pub parts-told : (k : KeyParts) (text : List ℕ) → text ≡ key_text k → parts_of text ≡ k
parts-told k text is =
    -- t has the role, the two lengths and the texts that are read of the text; `texts` are the key's own
    let t = tells k text is in
    let texts = (k.branch ++ k.sent_by) ++ k.method in
    -- from the lengths follows where each of the texts begins in the three
    let all = length-append (k.branch ++ k.sent_by) k.method in
    let both = length-append k.branch k.sent_by in
    let parts = parts-are k.branch k.sent_by k.method texts (length k.branch) (length texts - length k.method) refl refl (omega (arith, all, both)) in
    -- what is read are the parts of these texts at these lengths, and they are those of the key
    let read : parts_of text ≡ parts_in k.role (length k.branch) (length k.method) texts = λ i. parts_in (t.role i) (t.branch i) (t.method i) (t.texts i) in
    let told : parts_in k.role (length k.branch) (length k.method) texts ≡ k = λ i. record { role = k.role; branch = parts.0 i; sent_by = parts.1 i; method = parts.2 i } in
    read ∙ told

-- where a text is the text of the key k, the parts that it tells are those of k, and the text is the one of these parts
pub keyed : (k : KeyParts) (text : List ℕ) → text ≡ key_text k → (parts_of text ≡ k) × (text ≡ key_text (parts_of text))
keyed k text is = let parts = parts-told k text is in (parts, is ∙ ap key_text (sym parts))

-- what stands after the first byte is all that stands from there to the end
pub past-first : (text : List ℕ) → take (length text - 1) (drop 1 text) ≡ drop 1 text
past-first [] = refl
past-first (byte ∷ text) = let e : suc (length text) - 1 ≡ length text = omega arith in ap (λ n. take n text) e ∙ take-length text

-- where the front of a key's text was read, it tells the parts of the key
pub tells-read : (k : KeyParts) (text read rest : List ℕ) (branch : ℕ) → text ≡ key_text k → read ≡ text → branch ≡ length_in (take (length read - 1) (drop 1 read)) →
    rest ≡ after_length (take (length read - 1) (drop 1 read)) →
    (branch ≡ length k.branch) × (length_in rest ≡ length k.method) × (after_length rest ≡ (k.branch ++ k.sent_by) ++ k.method) × (length k.method ≤ length rest)
tells-read k text read rest branch is same branch_is rest_is =
    -- `front`: the code cuts off the first byte, and what is left is what follows the role
    let t = tells k text is in
    let front : take (length read - 1) (drop 1 read) ≡ drop 1 text = past-first read ∙ ap (drop 1) same in
    let left : rest ≡ after_length (drop 1 text) = rest_is ∙ ap after_length front in (
      branch_is ∙ ap length_in front ∙ t.branch,
      ap length_in left ∙ t.method,
      ap after_length left ∙ t.texts,
      subst (λ r. length k.method ≤ length r) (sym left) t.method_short,
    )

-- the length of the branch that stands at the front is no longer than what stands there
pub front-short : (k : KeyParts) (text read : List ℕ) → text ≡ key_text k → read ≡ text →
    length_in (take (length read - 1) (drop 1 read)) ≤ length (take (length read - 1) (drop 1 read))
front-short k text read is same =
    let t = tells k text is in
    let front : take (length read - 1) (drop 1 read) ≡ drop 1 text = past-first read ∙ ap (drop 1) same in
    subst (λ r. length_in r ≤ length r) (sym front) (subst (λ n. n ≤ length (drop 1 text)) (sym t.branch) t.branch_short)
