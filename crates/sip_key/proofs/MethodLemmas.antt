-- The methods of keys are ASCII.
use Rattle.std.proofs.Common.{◌≡◌, ◌≤◌, ◌<◌, ◌||◌, inl, inr, ℕ, Bool, true, false, Option, Some, None, List, [], ◌∷◌, ◌==◌, All, cond, codes, nat_le, nat_lt, option_to_list, refl, sym, subst, arith}
use Rattle.std.specs.Prelude.{IsAscii, option_map, bytes_eq}
use Rattle.std.specs.List.{list_all, list_any}
use Rattle.std.specs.Int.{is_in_range}
use Rattle.std.specs.Char.{is_ascii_alphanumeric}
use Rattle.std.proofs.lemmas.Bool.{and_parts, or_cases, leb-true, ltb-true, eqb-true}
use Rattle.std.proofs.lemmas.Str.Ascii.{IsAscii-from_all}
use Rattle.std.proofs.lemmas.List.Elements.{All-nil, All-cons, All-append, All-weaker, All-from_recursion}
use Rattle.sip_standard.specs.Profile.{Token}
use Rattle.sip_standard.specs.Chars.{is_among}
use Rattle.sip_text.specs.Bytes.{is_token_byte}
use Rattle.sip_standard.specs.StartLine.{StartLine, request, status, StartSays}
use Rattle.sip_message.proofs.lemmas.start_line.OneWay.{request_parts}
use Rattle.sip_message.specs.inner.MessageText.{MessageText}
use Rattle.sip_message.specs.Reading.{Reading}
use Rattle.sip_message.specs.Reads.{Reads}
use Rattle.sip_message.specs.SaidOf.{said_of}
use Rattle.sip_message.proofs.lemmas.text.Cuts as each
use Rattle.sip_message.proofs.lemmas.field.OneWay.{each-token}
use Rattle.sip_message.proofs.lemmas.value.CSeq.{cseq-token}
use Rattle.sip_message.proofs.lemmas.says.Told.{tells-text}
use Rattle.sip_message.proofs.lemmas.says.Reading.{reads-parts}
use Rattle.sip_standard.specs.declared.role.Role.TheVariants.{Client}
use Rattle.sip_standard.specs.declared.role.Direction.{Direction}
use Rattle.sip_standard.specs.Key.{KeyParts}
use Rattle.sip_standard.specs.Branch.{cookie_branch}
use Rattle.sip_standard.specs.Concerns.{role_of, sent_by_of, method_of, is_sent, own_key, cancelled_key, Concerns}

-- a byte in a range is at most the upper end of the range
range_low : (low high b : ℕ) → is_in_range low high b ≡ true → b ≤ high
range_low low high b is = leb-true b high (and_parts (nat_le low b) (nat_le b high) is).1

-- a letter or digit is ASCII
alphanumeric_low : (b : ℕ) → is_ascii_alphanumeric b ≡ true → b < 128
alphanumeric_low b is =
    elim (or_cases (is_in_range 48 57 b || is_in_range 65 90 b) (is_in_range 97 122 b) is) [
      | inl more ↦ elim (or_cases (is_in_range 48 57 b) (is_in_range 65 90 b) more) [
        -- the byte is a digit
        | inl one ↦ (let low = range_low 48 57 b one in omega (arith, low))
        -- the byte is a capital letter
        | inr one ↦ (let low = range_low 65 90 b one in omega (arith, low))
      ]
      -- the byte is a small letter
      | inr one ↦ (let low = range_low 97 122 b one in omega (arith, low))
    ]

-- a byte that is one of some ASCII bytes is ASCII
one_of_low : (bytes : List ℕ) → list_all (λ c. nat_lt c 128) bytes ≡ true → (b : ℕ) → list_any (λ c. c == b) bytes ≡ true → b < 128
-- no byte is one of none
one_of_low [] all b is = cc
one_of_low (c ∷ cs) all b is =
    let parts = and_parts (nat_lt c 128) (list_all (λ d. nat_lt d 128) cs) all in
    elim (or_cases (c == b) (list_any (λ c. c == b) cs) is) [
      -- the byte is the first of them, or one of the others
      | inl same ↦ subst (λ d. d < 128) (eqb-true c b same) (ltb-true c 128 parts.0)
      | inr more ↦ one_of_low cs parts.1 b more
    ]

-- a byte of a token is ASCII
token_low : (b : ℕ) → is_token_byte b ≡ true → b < 128
token_low b is =
    elim (or_cases (is_ascii_alphanumeric b) (is_among "-.!%*_+`'~" b) is) [
      -- the byte is a letter or digit, or one of the marks, which are all ASCII
      | inl word ↦ alphanumeric_low b word
      | inr mark ↦ one_of_low (codes "-.!%*_+`'~") refl b mark
    ]

-- bytes of tokens are ASCII
bytes_ascii : (u : List ℕ) → each.All is_token_byte u → IsAscii u
bytes_ascii u all = IsAscii-from_all u (All-weaker (λ b. is_token_byte b ≡ true) (λ b. b < 128) token_low u (All-from_recursion (λ b. is_token_byte b ≡ true) u all))

-- a token is ASCII
pub token_ascii : (u : List ℕ) → Token u → IsAscii u
token_ascii u token = bytes_ascii u (each-token u token)

-- what holds of both values of a condition holds of the value that it gives
-- b is the condition, and x and y are the values
either : {A : Type 0} (P : A → Type 0) (b : Bool) (x y : A) → P x → P y → P (cond b x y)
either P true x y p q = p
either P false x y p q = q

-- INVITE, which is the method of a key where an ACK is sent or received, is ASCII
invite_ascii : IsAscii (codes "INVITE")
invite_ascii = bytes_ascii (codes "INVITE") (refl, (refl, (refl, (refl, (refl, (refl, tt))))))

-- the method of a message is ASCII
method_ascii : (line cseq : List ℕ) (start : StartLine) → StartSays line start → Token cseq → IsAscii (method_of start cseq)
method_ascii line cseq (request method uri) is token = either IsAscii (bytes_eq method (codes "ACK")) (codes "INVITE") method invite_ascii (token_ascii method (request_parts line method uri is).is_token)
method_ascii line cseq (status code reason) is token = token_ascii cseq token

-- where P holds of the key that f makes of each branch, it holds of the key that f makes of an optional branch, if there is one
made_key : (P : KeyParts → Type 0) (f : List ℕ → KeyParts) → ((branch : List ℕ) → P (f branch)) → (o : Option (List ℕ)) → All P (option_to_list (option_map f o))
made_key P f h None = All-nil P
made_key P f h (Some branch) = All-cons P (f branch) [] (h branch) (All-nil P)

-- the methods of the keys that a message concerns are ASCII
pub keys_ascii : (bytes : List ℕ) (r : Reading) (d : Direction) (keys : List KeyParts) → Reads bytes r → Concerns (said_of r) d keys → All (λ k. IsAscii k.method) keys
keys_ascii bytes r d keys reads is = subst (All (λ k. IsAscii k.method)) (sym is) (All-append (λ k. IsAscii k.method) (option_to_list (own_key (said_of r) d)) (option_to_list (cancelled_key (said_of r) d)) own cancelled)
  where
    -- the bytes are the text of the message
    text : MessageText bytes r.message
    text = tells-text bytes r.message reads.tells

    -- the method of the message's own key is ASCII
    own : All (λ k. IsAscii k.method) (option_to_list (own_key (said_of r) d))
    own = made_key (λ k. IsAscii k.method)
        (λ branch. record { role = role_of r.message.start d; branch = branch; sent_by = sent_by_of (role_of r.message.start d) r.parts.via; method = method_of r.message.start r.parts.cseq.1 })
        (λ branch. method_ascii text.first r.parts.cseq.1 r.message.start text.is_start (let cseq = (reads-parts bytes r reads).cseq in cseq-token cseq.0 r.parts.cseq cseq.2)) (cookie_branch (said_of r).via.branch)

    -- the method of the key that the message cancels is ASCII
    cancelled : All (λ k. IsAscii k.method) (option_to_list (cancelled_key (said_of r) d))
    cancelled = either (λ o. All (λ k. IsAscii k.method) (option_to_list o)) (is_sent (λ method. bytes_eq method (codes "CANCEL")) r.message.start d)
        (option_map (λ branch. record { role = Client; branch = branch; sent_by = []; method = codes "INVITE" }) (cookie_branch (said_of r).via.branch)) None
        (made_key (λ k. IsAscii k.method) (λ branch. record { role = Client; branch = branch; sent_by = []; method = codes "INVITE" }) (λ branch. invite_ascii) (cookie_branch (said_of r).via.branch))
        (All-nil (λ k. IsAscii k.method))
