-- What stands at the front of a text, with what is left after it.
use Rattle.std.specs.Prelude.{◌≡◌, ℕ, ◌-◌, ◌&&◌, ◌==◌, not, nat_lt, slice_index, length, Bool, List, [], ◌∷◌, ◌++◌, false, if◌then◌else◌, ⊤}
use Rattle.std.specs.Borrow.{Bor}
use Rattle.sip_standard.specs.Text.{Exactly, ◌then◌}
use Rattle.sip_standard.specs.Profile.{Token, Sws, Blanks}
use Rattle.sip_text.specs.Bytes.{carriage_return, is_token_byte}
use Rattle.sip_text.specs.inner.Blanks.{is_wsp, blank_len}
use Rattle.sip_standard.specs.Lines.{OpensBlank}
use Rattle.sip_message.specs.inner.Lines.{IsFolded, with_end}
use Rattle.sip_message.specs.inner.Marks.{slash, Mark}

-- the text does not begin with a byte that passes
abbrev pub Stops : (ℕ → Bool) → List ℕ → Type 0
Stops test [] = ⊤
Stops test (b ∷ text) = test b ≡ false

-- the text does not begin with a blank run
abbrev pub StopsBlank : List ℕ → Type 0
StopsBlank text = blank_len text ≡ 0

-- the rest is what is left after the longest run of blanks at the front of the text
abbrev pub Behind : List ℕ → List ℕ → Type 0
Behind text rest = StopsBlank rest × (Sws then Exactly rest) text

-- the rest is what is left after the longest run of blanks at the front, and the only such text
abbrev pub IsOnlyBehind : List ℕ → List ℕ → Type 0
IsOnlyBehind text rest = Behind text rest × ((other : List ℕ) → Behind text other → other ≡ rest)

-- a token at the front of the text, and what is left, which begins with no byte of a token
abbrev pub TokenFront : List ℕ → List ℕ × List ℕ → Type 0
TokenFront text (token, rest) =
    Token token × Stops is_token_byte rest × (Exactly token then Exactly rest) text

-- a mark at the front of the text, and what is left, which begins with no blank
abbrev pub MarkFront : ℕ → List ℕ → List ℕ → Type 0
MarkFront mark text rest = StopsBlank rest × (Mark mark then Exactly rest) text

-- R gives some value x, and S after it gives y: two steps of a reader
pub data Seq {X Y : Type 0} (R : X → Type 0) (S : X → Y → Type 0) (y : Y) : Type 0 where
  both : (x : X) → R x → S x y → Seq R S y

-- a blank run at the front of the text, and what is left, which begins with no blank
abbrev pub BlanksFront : List ℕ → List ℕ → Type 0
BlanksFront text rest = StopsBlank rest × (Blanks then Exactly rest) text

-- sent-protocol LWS at the front of the text, with its transport, and what is left, step by step
abbrev pub ProtocolFront : List ℕ → List ℕ × List ℕ → Type 0
ProtocolFront text =
    Seq (TokenFront text) (λ name.
    Seq (MarkFront slash (name.1)) (λ behind_name.
    Seq (TokenFront behind_name) (λ version.
    Seq (MarkFront slash (version.1)) (λ behind_version.
    Seq (TokenFront behind_version) (λ transport.
    Seq (BlanksFront (transport.1)) (λ rest p. p ≡ (transport.0, rest)))))))

-- the text that the code's borrow means
abbrev pub text_parts : Bor (List ℕ) → List ℕ
text_parts text = text.now

-- the two texts that the code's borrows mean
abbrev pub pair_parts : Bor (List ℕ) × Bor (List ℕ) → List ℕ × List ℕ
pair_parts (a, b) = (a.now, b.now)

-- a logical line with its end at the front of the text, and what is left, which begins with no blank
abbrev pub LineFront : List ℕ → List ℕ × List ℕ → Type 0
LineFront text (line, rest) = IsFolded line × ¬ (OpensBlank rest) × (text ≡ with_end line ++ rest)

-- the text ends with CR
abbrev pub ends_cr : List ℕ → Bool
ends_cr text = nat_lt 0 (length text) && slice_index text (length text - 1) == carriage_return

-- the text begins with SP or HTAB
abbrev pub begins_wsp : List ℕ → Bool
begins_wsp [] = false
begins_wsp (byte ∷ text) = is_wsp byte

-- the LF between the two texts ends a line: CR stands before it, and no blank after it
abbrev pub is_line : List ℕ → List ℕ → Bool
is_line front rest = ends_cr front && not (begins_wsp rest)

-- the text past the SP and HTAB at its front
abbrev pub past_wsp : List ℕ → List ℕ
past_wsp [] = []
past_wsp (byte ∷ text) = if is_wsp byte then past_wsp text else byte ∷ text
