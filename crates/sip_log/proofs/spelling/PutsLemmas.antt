-- Lemmas of what was written piece by piece.
use Rattle.std.proofs.Common.{◌≡◌, ℕ, Bool, List, [], ◌∷◌, ◌++◌, Option, Result, Ok, Err, subst, ◌∙◌, append_assoc}
use Rattle.std.specs.Prelude.{codes, decimal, ⊤}
use Rattle.std.specs.Io.KnownBytes.{Appends}
use Rattle.std.proofs.KnownBytes.{Appends-trans}
use Rattle.sip_standard.specs.Times.{Times}
use Rattle.sip_standard.specs.declared.format.Format.TheVariants.{One, Two}
use Rattle.sip_log.specs.Writing.{Puts, written_rules, header_text}
use Rattle.sip_standard.specs.LogSays.{line_feed}
use Rattle.sip_standard.specs.LogHeader.{timers_text}

-- the piece was appended where what was written is known, and no put failed
abbrev pub Put : Option (List ℕ) → Option (List ℕ) → Bool → Bool → List ℕ → Type 0
Put old new before after text = Appends old new text × (after ≡ before)

-- one piece and then another, each appended, are both appended as one
-- a, b and c are what was written so far, where it is known, and f, g and h tell whether a put had failed
then : (a b c : Option (List ℕ)) (f g h : Bool) (x y : List ℕ) → Put a b f g x → Put b c g h y → Put a c f h (x ++ y)
then a b c f g h x y first second = (Appends-trans a b c x y first.0 second.0, second.1 ∙ first.1)

-- where the text x was put, and then a call puts the text y, both together put x and then y
-- a, b and c are what was written before x, between and after y, where it is known; f, g and h tell whether a put had failed then; r is the call's result
puts-then : {E : Type 0} (a b c : Option (List ℕ)) (f g h : Bool) (x y : List ℕ) (r : Result (⊤) E) → Put a b f g x → Puts b c g h y r → Puts a c f h (x ++ y) r
puts-then a b c f g h x y (Ok done) first second = then a b c f g h x y first second
puts-then a b c f g h x y (Err e) first second = second

-- three names n1, n2 and n3 with their decimal texts, bracketed as they are put, are one text with them bracketed as the definition has them
-- d1, d2 and d3 are the decimal texts
regroup : (n1 d1 n2 d2 n3 d3 : List ℕ) → ((n1 ++ d1) ++ (n2 ++ d2)) ++ (n3 ++ d3) ≡ n1 ++ d1 ++ n2 ++ d2 ++ n3 ++ d3
regroup n1 d1 n2 d2 n3 d3 = simp append_assoc

-- the three timers with their names, each appended, are the timers of line 2
-- w0 to w3 are what was written before and after each piece, where it is known, and f0 to f3 tell whether a put had failed
-- r is the result of the last call, whose errors are of the type E
pub timers-put : {E : Type 0} (w0 w1 w2 w3 : Option (List ℕ)) (f0 f1 f2 f3 : Bool) (p : Times) (r : Result (⊤) E)
    → Put w0 w1 f0 f1 (codes "t1 " ++ decimal p.t1) → Put w1 w2 f1 f2 (codes " t2 " ++ decimal p.t2) → Puts w2 w3 f2 f3 (codes " t4 " ++ decimal p.t4) r
    → Puts w0 w3 f0 f3 (timers_text p) r
timers-put w0 w1 w2 w3 f0 f1 f2 f3 p r t1 t2 t4 =
    -- the pieces are put one after another, and bracketed as the definition has them
    subst (λ t. Puts w0 w3 f0 f3 t r) (regroup (codes "t1 ") (decimal p.t1) (codes " t2 ") (decimal p.t2) (codes " t4 ") (decimal p.t4))
    (puts-then w0 w2 w3 f0 f2 f3 _ _ r (then w0 w1 w2 f0 f1 f2 _ _ t1 t2) t4)

-- the pieces of a header of format 1, bracketed as they are put, are one text with them bracketed as the definition has them
-- t is the title, p the timers, w and d the name and the number of the tolerance, e the line end, and r the line of rules
one-group : (t p w d e r : List ℕ) → (((t ++ p) ++ (w ++ d)) ++ e) ++ r ≡ (t ++ p ++ w ++ d ++ e) ++ r
one-group t p w d e r = simp append_assoc

-- the pieces of a header of format 1, each appended, are that header
-- w0 to w5 are what was written before and after each piece, where it is known, and f0 to f5 tell whether a put had failed
-- r is the result of the last call, whose errors are of the type E
pub one-put : {E : Type 0} (w0 w1 w2 w3 w4 w5 : Option (List ℕ)) (f0 f1 f2 f3 f4 f5 : Bool) (p : Times) (r : Result (⊤) E)
    → Put w0 w1 f0 f1 (codes "sip-trace 1\n") → Put w1 w2 f1 f2 (timers_text p) → Put w2 w3 f2 f3 (codes " tolerance " ++ decimal p.late)
    → Put w3 w4 f3 f4 (line_feed ∷ []) → Puts w4 w5 f4 f5 (written_rules p.rules) r → Puts w0 w5 f0 f5 (header_text One p) r
one-put w0 w1 w2 w3 w4 w5 f0 f1 f2 f3 f4 f5 p r title timers tolerance end rules =
    -- the pieces are put one after another, and bracketed as the definition has them
    subst (λ t. Puts w0 w5 f0 f5 t r) (one-group (codes "sip-trace 1\n") (timers_text p) (codes " tolerance ") (decimal p.late) (line_feed ∷ []) (written_rules p.rules))
    (puts-then w0 w4 w5 f0 f4 f5 _ _ r (then w0 w3 w4 f0 f3 f4 _ _ (then w0 w2 w3 f0 f2 f3 _ _ (then w0 w1 w2 f0 f1 f2 _ _ title timers) tolerance) end) rules)

-- the pieces of a header of format 2, bracketed as they are put, are one text with them bracketed as the definition has them
-- t is the title, p the timers, v, d, w and l the names and numbers of both tolerances, e the line end, and r the line of rules
two-group : (t p v d w l e r : List ℕ) → ((((t ++ p) ++ (v ++ d)) ++ (w ++ l)) ++ e) ++ r ≡ (t ++ p ++ v ++ d ++ w ++ l ++ e) ++ r
two-group t p v d w l e r = simp append_assoc

-- the pieces of a header of format 2, each appended, are that header
-- w0 to w6 are what was written before and after each piece, where it is known, and f0 to f6 tell whether a put had failed
pub two-put : (w0 w1 w2 w3 w4 w5 w6 : Option (List ℕ)) (f0 f1 f2 f3 f4 f5 f6 : Bool) (p : Times)
    → Put w0 w1 f0 f1 (codes "sip-trace 2\n") → Put w1 w2 f1 f2 (timers_text p) → Put w2 w3 f2 f3 (codes " early " ++ decimal p.early)
    → Put w3 w4 f3 f4 (codes " late " ++ decimal p.late) → Put w4 w5 f4 f5 (line_feed ∷ []) → Put w5 w6 f5 f6 (written_rules p.rules) → Put w0 w6 f0 f6 (header_text Two p)
two-put w0 w1 w2 w3 w4 w5 w6 f0 f1 f2 f3 f4 f5 f6 p title timers early late end rules =
    -- the pieces are put one after another, and bracketed as the definition has them
    subst (Put w0 w6 f0 f6) (two-group (codes "sip-trace 2\n") (timers_text p) (codes " early ") (decimal p.early) (codes " late ") (decimal p.late) (line_feed ∷ []) (written_rules p.rules))
    (then w0 w5 w6 f0 f5 f6 _ _ (then w0 w4 w5 f0 f4 f5 _ _ (then w0 w3 w4 f0 f3 f4 _ _ (then w0 w2 w3 f0 f2 f3 _ _ (then w0 w1 w2 f0 f1 f2 _ _ title timers) early) late) end) rules)
