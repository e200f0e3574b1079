-- How the parts of a message are written as lists and numbers, so that two proofs of one equality of them are the same.
-- `code_by D c to from back`: values are written in D by `to` and read again by `from`, by which each is as it was (`back`); c is how D is written.
use Rattle.std.specs.Prelude.{refl, ℕ, List, Option}
use Rattle.std.specs.Coded.{Coded, code_by, coded_ℕ, coded_list, coded_option, coded×}
use Rattle.sip_standard.specs.Via.{SaidVia}
use Rattle.sip_message.specs.Reading.{Parts}

-- a text as a list of numbers
abbrev text_code : Coded (List ℕ)
text_code = coded_list coded_ℕ

-- an element of Via as lists and numbers
abbrev element_code : Coded SaidVia
element_code = code_by (List ℕ × (List ℕ × (List ℕ × (Option (List ℕ) × Option (List ℕ)))))
    (coded× text_code (coded× text_code (coded× text_code (coded× (coded_option text_code) (coded_option text_code)))))
    (λ v. (v.whole, (v.transport, (v.host, (v.port, v.branch)))))
    (λ d. record { whole = d.0; transport = d.1.0; host = d.1.1.0; port = d.1.1.1.0; branch = d.1.1.1.1 })
    (λ _. refl)

-- elements of Via as lists and numbers
abbrev pub elements_code : Coded (List SaidVia)
elements_code = coded_list element_code

-- the parts of the named fields as lists and numbers
abbrev pub parts_code : Coded Parts
parts_code = code_by (SaidVia × (List SaidVia × (List ℕ × (List ℕ × (List ℕ × (ℕ × List ℕ))))))
    (coded× element_code (coded× elements_code (coded× text_code (coded× text_code (coded× text_code (coded× coded_ℕ text_code))))))
    (λ p. (p.via, (p.others, (p.from, (p.to, (p.call_id, p.cseq))))))
    (λ d. record { via = d.0; others = d.1.0; from = d.1.1.0; to = d.1.1.1.0; call_id = d.1.1.1.1.0; cseq = d.1.1.1.1.1 })
    (λ _. refl)
