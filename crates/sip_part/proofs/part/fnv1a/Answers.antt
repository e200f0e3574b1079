use Rattle.std.proofs.Common.{◌∙◌, sym, ap}
use Rattle.std.specs.Prelude.{◌*◌, ◌%◌, ◌^◌, codes, fold, bit_xor}
use Rattle.std.proofs.lemmas.List.{take_rest}
use Rattle.sip_standard.specs.Case.{folded}
use Rattle.sip_part.specs.Part.{fnv1a}
use Rattle.sip_part.proofs.Plain.{starts_is}
use Rattle.sip_part.proofs.part.fnv1a.Goals as goal

-- the sum of the cookie is known, so only the bytes after it are looked at
pub returns-then-starts_with : goal.returns-then-starts_with
returns-then-starts_with c =
    let text = c.args.text.now in
    -- 838142484 is the sum after the cookie in lower case, and 16777619 the number by which FNV-1a multiplies
    let is = starts_is text (codes "z9hG4bK") (sym c.starts_with.ensures.value ∙ c.if-starts_with.true) in
    c.joined.ensures ∙ ap (λ rest. fold (λ sum byte. (bit_xor sum byte * 16777619) % 2 ^ 32) 838142484 (folded rest)) (take_rest text 7) ∙ sym (ap (λ t. fnv1a (folded t)) is)
