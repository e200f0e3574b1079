-- The tests by which a host is read: each is named by the production that it tells (RFC 3261, section 25.1).
use Rattle.std.specs.Prelude.{ℕ, Bool, false, ◌&&◌, ◌||◌, not, ◌+◌, ◌-◌, List, [], ◌∷◌, Option, None, Some, unwrap_or, length, drop, slice_index, nat_lt, nat_le, ◌==◌, if◌then◌else◌}
use Rattle.std.specs.List.{list_all}
use Rattle.std.specs.Option.{option_map_or}
use Rattle.std.specs.Char.{is_ascii_alphabetic}
use Rattle.sip_text.specs.declared.class.Class.{Class}
use Rattle.sip_text.specs.declared.class.Class.TheVariants as variant
use Rattle.sip_text.specs.Bytes.{hyphen, dot, colon, left_bracket, right_bracket}
use Rattle.sip_text.specs.inner.Class.{is_label_byte, is_in}
use Rattle.sip_text.specs.inner.Cut.{before, behind, before_last, behind_last, parts, past, up_to}

-- the text has one byte or more, and at most `most`
abbrev pub has_len : ℕ → List ℕ → Bool
has_len most text = nat_lt 0 (length text) && nat_le (length text) most

-- the text is one byte of the class or more, and at most `most`
abbrev pub is_group : Class → ℕ → List ℕ → Bool
is_group class most text = has_len most text && list_all (is_in class) text

-- the text is 1*3DIGIT
abbrev pub is_decimal : List ℕ → Bool
is_decimal text = is_group variant.Digit 3 text

-- the text after 1*3DIGIT ".", if it begins with these
abbrev pub past_decimal : List ℕ → Option (List ℕ)
past_decimal text = if is_decimal (before dot text) then behind dot text else None

-- the text is 1*3DIGIT "." and then a text that passes the test `later`
abbrev pub is_decimal_dot : (List ℕ → Bool) → List ℕ → Bool
is_decimal_dot later text = option_map_or later (past_decimal text) false

-- IPv4address = 1*3DIGIT "." 1*3DIGIT "." 1*3DIGIT "." 1*3DIGIT
abbrev pub is_v4 : List ℕ → Bool
is_v4 text = is_decimal_dot (is_decimal_dot (is_decimal_dot is_decimal)) text

-- hex4 = 1*4HEXDIG
abbrev pub is_hex4 : List ℕ → Bool
is_hex4 text = is_group variant.HexDigit 4 text

-- hexseq = hex4 *( ":" hex4 )
abbrev pub is_hexseq : List ℕ → Bool
is_hexseq text = list_all is_hex4 (parts colon text)

-- [ hexseq ]: the text is empty or a hexseq
abbrev pub is_optional_hexseq : List ℕ → Bool
is_optional_hexseq text = length text == 0 || is_hexseq text

-- a "::" stands at this place
abbrev pub is_double_at : List ℕ → ℕ → Bool
is_double_at text at = slice_index text at == colon && slice_index text (at + 1) == colon

-- the text before its first "::", which is all of it if there is none
abbrev pub before_double : List ℕ → List ℕ
before_double [] = []
before_double (b ∷ text) = if is_double_at (b ∷ text) 0 then [] else b ∷ before_double text

-- the text after its first "::", if there is one
abbrev pub behind_double : List ℕ → Option (List ℕ)
behind_double [] = None
behind_double (b ∷ text) = if is_double_at (b ∷ text) 0 then Some (drop 1 text) else behind_double text

-- hexpart = hexseq / hexseq "::" [ hexseq ] / "::" [ hexseq ]
abbrev pub is_hexpart : List ℕ → Bool
is_hexpart text =
    option_map_or (λ rest. is_optional_hexseq (before_double text) && is_optional_hexseq rest)
    (behind_double text) (is_hexseq text)

-- [ hexseq ] ":": a hexpart that ends with "::", without its last ":"
abbrev pub is_open : List ℕ → Bool
is_open text = option_map_or is_optional_hexseq (up_to colon text) false

-- what may stand before the last ":", after which an IPv4address stands
abbrev pub is_before_v4 : List ℕ → Bool
is_before_v4 text = is_hexpart text || is_open text

-- an IPv6address that ends with an IPv4address
abbrev pub has_v4_tail : List ℕ → Bool
has_v4_tail text = option_map_or (λ front. is_v4 (behind_last colon text) && is_before_v4 front) (before_last colon text) false

-- IPv6address = hexpart [ ":" IPv4address ]
abbrev pub is_v6 : List ℕ → Bool
is_v6 text = is_hexpart text || has_v4_tail text

-- IPv6reference = "[" IPv6address "]"
abbrev pub is_v6_reference : List ℕ → Bool
is_v6_reference text =
    option_map_or (λ rest. option_map_or is_v6 (up_to right_bracket rest) false) (past left_bracket text) false

-- the text is not empty, and neither begins nor ends with a hyphen
abbrev pub has_label_ends : List ℕ → Bool
has_label_ends text =
    nat_lt 0 (length text) && not (slice_index text 0 == hyphen)
    && not (slice_index text (length text - 1) == hyphen)

-- the text begins with a letter and does not end with a hyphen
abbrev pub has_top_ends : List ℕ → Bool
has_top_ends text = is_ascii_alphabetic (slice_index text 0) && has_label_ends text

-- domainlabel = alphanum / alphanum *( alphanum / "-" ) alphanum
abbrev pub is_label : List ℕ → Bool
is_label text = has_label_ends text && list_all is_label_byte text

-- toplabel = ALPHA / ALPHA *( alphanum / "-" ) alphanum
abbrev pub is_top_label : List ℕ → Bool
is_top_label text = has_top_ends text && list_all is_label_byte text

-- *( domainlabel "." ) toplabel: the parts between the dots are such labels
abbrev pub are_labels : List (List ℕ) → Bool
are_labels [] = false
are_labels (label ∷ []) = is_top_label label
are_labels (label ∷ next ∷ labels) = is_label label && are_labels (next ∷ labels)

-- hostname = *( domainlabel "." ) toplabel [ "." ]
abbrev pub is_hostname : List ℕ → Bool
is_hostname text = are_labels (parts dot (unwrap_or (up_to dot text) text))
