-- The characters of a URI's parts: bytes of a class, and escapes.
-- In the lemmas u are bytes of a class and v is what follows them; P and Q are sets of texts.
use Rattle.std.proofs.Common.{◌≡◌, ℕ, nat_eq, suc, ◌+◌, ◌-◌, ◌<◌, ◌⊎◌, ◌↔◌, ◌&&◌, ◌||◌, ◌==◌, Bool, true, false, IsTrue, List, [], ◌∷◌, ◌++◌, Option, None, Some, IfSome, length, take, drop, cond, if◌then◌else◌, refl, sym, ap, ◌∙◌, subst, inl, inr, arith}
use Rattle.std.specs.Bool.{Decides}
use Rattle.std.specs.Char.{is_ascii_hexdigit}
use Rattle.std.specs.List.{prefix_len, list_all}
use Rattle.std.proofs.lemmas.Bool.{both_ways, and_from, and_parts, or_parts, or_cases, or_left, or_right, eqb-true}
use Rattle.std.proofs.lemmas.Bool.Decides.{Decides-like}
use Rattle.std.proofs.lemmas.List.{length-append, take_rest}
use Rattle.sip_text.specs.declared.class.Class.{Class}
use Rattle.sip_standard.specs.Text.{One, ◌or◌, Many, OneOrMore}
use Rattle.sip_text.specs.Bytes.{percent}
use Rattle.sip_text.specs.inner.Class.{is_unreserved, is_in}
use Rattle.sip_text.specs.inner.Pieces.{Escaped}
use Rattle.sip_text.specs.inner.UriCut.{ClassChar, behind_escape}
use Rattle.sip_text.proofs.texts.LacksLemmas.{AllLack, lack-one, lack-byte, lack-then, lack-or}
use Rattle.sip_text.proofs.texts.ManyLemmas.{many-nil, many-cons, many-append, many-map, many-some, some-many}
use Rattle.sip_text.proofs.texts.RunLemmas.{list_all-run}

-- both bytes are hexadecimal digits, as they follow the "%" of an escape
abbrev pub AreDigits : ℕ → ℕ → Type 0
AreDigits high low = IsTrue (is_ascii_hexdigit high) × IsTrue (is_ascii_hexdigit low)

-- an escape has three bytes
escaped-bytes : (text : List ℕ) → Escaped text → (high : ℕ) × (low : ℕ) × AreDigits high low × (text ≡ percent ∷ high ∷ low ∷ [])
escaped-bytes text (mark, digits, is_mark, (u, v, (high, high_is, u_is), (low, low_is, v_is), both), whole) = (
  high,
  low,
  (high_is, low_is),
  -- the text is "%" and the two digits
  whole ∙ ap (λ t. t ++ digits) is_mark
      ∙ ap (λ t. percent ∷ t) (both ∙ ap (λ t. t ++ v) u_is ∙ ap (λ t. high ∷ t) v_is),
)

-- a "%" and two hexadecimal digits are an escape
bytes-escaped : (high low : ℕ) → AreDigits high low → Escaped (percent ∷ high ∷ low ∷ [])
bytes-escaped high low digits =
    (percent ∷ [], high ∷ low ∷ [], refl, (high ∷ [], low ∷ [], (high, digits.0, refl), (low, digits.1, refl), refl), refl)

-- the text after the escape at the front of an escape and a rest is the rest
strips-escape : (high low : ℕ) (rest : List ℕ) → AreDigits high low → behind_escape (percent ∷ high ∷ low ∷ rest) ≡ Some rest
strips-escape high low rest digits =
    ap (λ t. if t then Some rest else None) (and_from (is_ascii_hexdigit high) (is_ascii_hexdigit low) digits.0 digits.1)

-- a text that has a rest after an escape at its front is "%", two hexadecimal digits and that rest
stripped-escape : (text rest : List ℕ) → behind_escape text ≡ Some rest → (high : ℕ) × (low : ℕ) × AreDigits high low × (text ≡ percent ∷ high ∷ low ∷ rest)
-- a text of fewer than three bytes begins with no escape, so it has no rest after one
stripped-escape [] rest is = cc
stripped-escape (mark ∷ []) rest is = cc
stripped-escape (mark ∷ high ∷ []) rest is = cc
stripped-escape (mark ∷ high ∷ low ∷ text) rest is = at _ refl is
  -- a text of three bytes or more begins with an escape if its first bytes pass the tests
  where
    -- the test of an escape passes, since there is a rest, and so the text begins with an escape
    -- t is the answer of the test, and x and y are the two digits
    at : (t : Bool) → (mark == percent && is_ascii_hexdigit high && is_ascii_hexdigit low) ≡ t → (if t then Some text else None) ≡ Some rest → (x : ℕ) × (y : ℕ) × AreDigits x y × (mark ∷ high ∷ low ∷ text ≡ percent ∷ x ∷ y ∷ rest)
    -- where the test fails, there is no rest
    at false test is = cc
    at true test is =
        -- the test passed, so each of its three parts does
        let last = and_parts (mark == percent && is_ascii_hexdigit high) (is_ascii_hexdigit low) test in
        let first = and_parts (mark == percent) (is_ascii_hexdigit high) last.0 in
        let mark_is : mark ≡ percent = eqb-true mark percent first.0 in
        let rest_is : text ≡ rest = cc in
        (high, low, (first.1, last.1), ap (λ b. b ∷ high ∷ low ∷ text) mark_is ∙ ap (λ t. percent ∷ high ∷ low ∷ t) rest_is)

-- where characters are a byte and a text, the byte is of the class and the text is characters, or an escape begins and characters follow it
chars-cons : (class : Class) (b : ℕ) (text : List ℕ) → Many (ClassChar class) (b ∷ text) → (IsTrue (is_in class b) × Many (ClassChar class) text) ⊎ ((rest : List ℕ) × (behind_escape (b ∷ text) ≡ Some rest) × (b ≡ percent) × Many (ClassChar class) rest)
chars-cons class b text many =
    elim (some-many (ClassChar class) (b ∷ text) many) [
      | inl empty ↦ cc
      -- the first character is a byte of the class, or an escape
      | inr (u, v, one, more, whole) ↦ elim one [
        | inl (byte, test, is) ↦
            let same : b ∷ text ≡ byte ∷ v = whole ∙ ap (λ t. t ++ v) is in
            let head : byte ≡ b = cc in
            let tail : v ≡ text = cc in
            inl (subst (λ x. IsTrue (is_in class x)) head test, subst (Many (ClassChar class)) tail more)
        -- an escape begins with a percent sign
        | inr escape ↦
            let (high, low, digits, is) = escaped-bytes u escape in
            let same : b ∷ text ≡ percent ∷ high ∷ low ∷ v = whole ∙ ap (λ t. t ++ v) is in
            inr (v, ap behind_escape same ∙ strips-escape high low v digits, cc, more)
      ]
    ]

-- where "%" is not of the class, what follows a byte of the class at the front of characters is characters
chars-tail : (class : Class) (b : ℕ) (text : List ℕ) → is_in class percent ≡ false → IsTrue (is_in class b) → Many (ClassChar class) (b ∷ text) → Many (ClassChar class) text
chars-tail class b text no_percent test many =
    elim (chars-cons class b text many) [
      -- the byte is a character of its own; or an escape begins with it, but then it is "%", which is not of the class
      | inl plain ↦ plain.1
      | inr (rest, _, is, _) ↦ absurd (both_ways (is_in class percent) no_percent (ap (is_in class) (sym is) ∙ test))
    ]

-- where "%" is not of the class, what follows bytes of the class at the front of characters is characters
chars-behind : (class : Class) (u v : List ℕ) → is_in class percent ≡ false → list_all (is_in class) u ≡ true → Many (ClassChar class) (u ++ v) → Many (ClassChar class) v
chars-behind class [] v no_percent all many = many
chars-behind class (b ∷ u) v no_percent all many =
    let parts = and_parts (is_in class b) (list_all (is_in class) u) all in
    chars-behind class u v no_percent parts.1 (chars-tail class b (u ++ v) no_percent parts.0 many)

-- bytes of the class and then characters are characters
chars-before : (class : Class) (u v : List ℕ) → list_all (is_in class) u ≡ true → Many (ClassChar class) v → Many (ClassChar class) (u ++ v)
chars-before class u v all many =
    many-append (ClassChar class) u v
    (many-map (One (is_in class)) (ClassChar class) u (λ _ one. inl one) (list_all-run (is_in class) u all)) many

-- the longest run of bytes of the class, and what it stops at
pub record IsRun (test : ℕ → Bool) (text stop : List ℕ) : Type 0 where
  pub run : List ℕ
  pub whole : text ≡ run ++ stop
  pub all : list_all test run ≡ true
  pub stops : (b : ℕ) (rest : List ℕ) → stop ≡ b ∷ rest → test b ≡ false

-- the text after its first `prefix_len` bytes is what the longest run of bytes of the class stops at
run-cut : (test : ℕ → Bool) (text : List ℕ) → IsRun test text (drop (prefix_len test text) text)
run-cut test [] = record { run = []; whole = refl; all = refl; stops = λ b rest is. cc }
run-cut test (x ∷ text) = at (run-cut test text) (test x) refl
  where
    -- the claim holds whether or not the first byte passes the test
    at : IsRun test text (drop (prefix_len test text) text) → (passes : Bool) → test x ≡ passes → IsRun test (x ∷ text) (drop (cond passes (1 + prefix_len test text) 0) (x ∷ text))
    -- the first byte fails, so there is no run
    at more false is = record {
      run = [];
      whole = refl;
      all = refl;
      stops = λ b rest same. let head : x ≡ b = cc in ap test (sym head) ∙ is;
    }
    -- the first byte passes, so it is one more of the run
    at more true is =
        let next : 1 + prefix_len test text ≡ suc (prefix_len test text) = omega arith in
        subst (λ n. IsRun test (x ∷ text) (drop n (x ∷ text))) (sym next) (record {
          run = x ∷ more.run;
          whole = ap (λ t. x ∷ t) more.whole;
          all = and_from (test x) (list_all test more.run) is more.all;
          stops = more.stops;
        })

-- past a run and an escape the rest is characters exactly if the whole text is, and it is shorter
pub chars-past : (class : Class) (text stop rest : List ℕ) → is_in class percent ≡ false → IsRun (is_in class) text stop → behind_escape stop ≡ Some rest → (Many (ClassChar class) rest ↔ Many (ClassChar class) text) × (length rest < length text)
-- the text is the run, the escape and the rest
chars-past class text stop rest no_percent run is =
    let (high, low, digits, stop_is) = stripped-escape stop rest is in
    let whole : text ≡ run.run ++ (percent ∷ high ∷ low ∷ rest) = run.whole ∙ ap (λ t. run.run ++ t) stop_is in
    let escape : ClassChar class (percent ∷ high ∷ low ∷ []) = inr (bytes-escaped high low digits) in (
      (
        λ many. subst (Many (ClassChar class)) (sym whole)
            (chars-before class run.run (percent ∷ high ∷ low ∷ rest) run.all
            (many-cons (ClassChar class) (percent ∷ high ∷ low ∷ []) rest escape many)),
        -- the escape is no byte of the class, so characters follow it
        λ many.
            let here : Many (ClassChar class) (percent ∷ high ∷ low ∷ rest) =
            chars-behind class run.run _ no_percent run.all (subst (Many (ClassChar class)) whole many) in
            elim (chars-cons class percent (high ∷ low ∷ rest) here) [
              -- the percent sign is no byte of the class, so it begins the escape
              | inl plain ↦ absurd (both_ways (is_in class percent) no_percent plain.0)
              | inr (other, other_is, _, more) ↦
                  let same : other ≡ rest = let taken = strips-escape high low rest digits in cc in
                  subst (Many (ClassChar class)) same more
            ],
      ),
      omega (arith, ap length whole, length-append run.run (percent ∷ high ∷ low ∷ rest)),
    )

-- where no escape follows the run, the text is characters exactly if it ends there
pub chars-stop : (class : Class) (text stop : List ℕ) → is_in class percent ≡ false → IsRun (is_in class) text stop → behind_escape stop ≡ None → Decides (length stop == 0) (Many (ClassChar class) text)
-- nothing follows the run, so the text is the run alone, whose bytes are characters
chars-stop class text [] no_percent run is = (
  λ _. subst (Many (ClassChar class)) (sym run.whole) (chars-before class run.run [] run.all (many-nil (ClassChar class))),
  λ _. refl,
)
-- a byte that is neither of the class nor the begin of an escape is no character
chars-stop class text (b ∷ stop) no_percent run is = (
  λ empty. absurd (omega (arith, eqb-true (length (b ∷ stop)) 0 empty)),
  λ many.
      -- if the text were characters, a character would stand after the run
      let here : Many (ClassChar class) (b ∷ stop) =
      chars-behind class run.run _ no_percent run.all (subst (Many (ClassChar class)) run.whole many) in
      elim (chars-cons class b stop here) [
        -- a byte of the class is ruled out by the end of the run, and an escape since none stands there
        | inl plain ↦ absurd (both_ways (is_in class b) (run.stops b stop refl) plain.0)
        | inr (rest, other, _, _) ↦ cc
      ],
)

-- the slice after the run is what the run stops at
pub run-slice : (test : ℕ → Bool) (text : List ℕ) (n : ℕ) → n ≡ prefix_len test text → IsRun test text (take (length text - n) (drop n text))
run-slice test text n is =
    subst (IsRun test text) (ap (λ m. drop m text) (sym is) ∙ sym (take_rest text n)) (run-cut test text)

-- where a text is not empty, any number of pieces are one or more
pub some-decides : (P : List ℕ → Type 0) (text : List ℕ) (r : Bool) → (length text == 0) ≡ false → Decides r (Many P text) → Decides r (OneOrMore P text)
some-decides P text r full decides =
    Decides-like r (λ many. elim (some-many P text many) [
      -- the pieces are none, and then the text would be empty, or some
      | inl empty ↦ absurd (both_ways (length text == 0) full (ap (λ t. length t == 0) empty))
      | inr some ↦ some
    ]) (many-some P text) decides

-- pieces of one kind are pieces of a wider kind
pub some-map : (P Q : List ℕ → Type 0) (text : List ℕ) → ((u : List ℕ) → P u → Q u) → OneOrMore P text → OneOrMore Q text
some-map P Q text each (u, v, one, more, whole) = (u, v, each u one, many-map P Q v each more, whole)

-- the part's own / unreserved / escaped, as `Char` has them
abbrev pub CharOf : (ℕ → Bool) → List ℕ → Type 0
CharOf own = One own or One is_unreserved or Escaped

-- one of the part's own / unreserved / escaped, as a byte of one class or an escape
abbrev pub Own : (ℕ → Bool) → List ℕ → Type 0
Own own = One (λ b. is_unreserved b || own b) or Escaped

-- a character as `Char` has it is a byte of the class or an escape
own-first : (own : ℕ → Bool) (u : List ℕ) → CharOf own u → Own own u
own-first own u (inl (b, test, is)) = inl (b, or_right (is_unreserved b) (own b) test, is)
own-first own u (inr (inl (b, test, is))) = inl (b, or_left (is_unreserved b) (own b) test, is)
own-first own u (inr (inr escape)) = inr escape

-- a byte of the class or an escape is a character as `Char` has it
first-own : (own : ℕ → Bool) (u : List ℕ) → Own own u → CharOf own u
first-own own u (inl (b, test, is)) =
    elim (or_cases (is_unreserved b) (own b) test) [
      -- the byte is unreserved, or one of the part's own
      | inl unreserved ↦ inr (inl (b, unreserved, is))
      | inr other ↦ inl (b, other, is)
    ]
first-own own u (inr escape) = inr (inr escape)

-- what decides bytes of the class and escapes decides characters, where there is one or more
pub decides-some : (own : ℕ → Bool) (text : List ℕ) (r : Bool) → Decides r (OneOrMore (Own own) text) → Decides r (OneOrMore (CharOf own) text)
decides-some own text r = Decides-like r (some-map _ _ text (first-own own)) (some-map _ _ text (own-first own))

-- what decides any number of bytes of the class and escapes decides any number of characters
pub decides-many : (own : ℕ → Bool) (text : List ℕ) (r : Bool) → Decides r (Many (Own own) text) → Decides r (Many (CharOf own) text)
decides-many own text r = Decides-like r (many-map _ _ text (first-own own)) (many-map _ _ text (own-first own))

-- a test of texts that tells whether a text is of P, and so whether it is of Q, tells the same of a text that may be missing
-- r is the test's answer, and o the text that may be missing
pub if-some : {P Q : List ℕ → Type 0} → ((text : List ℕ) (r : Bool) → Decides r (P text) → Decides r (Q text)) → (o : Option (List ℕ)) (r : Bool) → Decides r (IfSome o P) → Decides r (IfSome o Q)
if-some alike None r decides = decides
if-some alike (Some text) r decides = alike text r decides

-- the byte is one of the part's own, or in an unreserved or escaped
abbrev pub is_char_byte : (ℕ → Bool) → ℕ → Bool
is_char_byte own b = own b || is_unreserved b || nat_eq percent b || is_ascii_hexdigit b

-- an escape lacks what is no byte of one
lack-escaped : (mark : ℕ) → nat_eq percent mark ≡ false → is_ascii_hexdigit mark ≡ false → AllLack mark Escaped
lack-escaped mark no_percent no_digit =
    lack-then mark _ _ (lack-byte mark percent no_percent)
    (lack-then mark _ _ (lack-one mark is_ascii_hexdigit no_digit) (lack-one mark is_ascii_hexdigit no_digit))

-- a character lacks what is no byte of one
pub lack-char : (mark : ℕ) (own : ℕ → Bool) → is_char_byte own mark ≡ false → AllLack mark (CharOf own)
lack-char mark own no_char =
    let (three, no_digit) = or_parts _ _ no_char in
    let (two, no_percent) = or_parts _ _ three in
    let (no_own, no_unreserved) = or_parts _ _ two in
    lack-or mark _ _ (lack-one mark own no_own)
    (lack-or mark _ _ (lack-one mark is_unreserved no_unreserved) (lack-escaped mark no_percent no_digit))
