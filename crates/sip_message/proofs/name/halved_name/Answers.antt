use Rattle.std.proofs.Common.{refl, sym, ◌∙◌}
use Rattle.sip_message.specs.declared.name.Known.TheVariants as known_name
use Rattle.sip_message.specs.declared.name.TheConstants.{CONTENT, LENGTH, TYPE, ENCODING, SUPPORTE, D}
use Rattle.sip_message.proofs.QuickLemmas.{halved-known, halved-other, one-fails}
use Rattle.sip_message.proofs.name.halved_name.Goals as goal

-- the two halves are those of Content-Length, so the name is that
pub returns-then-second-eq-LENGTH : goal.returns-then-second-eq-LENGTH
returns-then-second-eq-LENGTH c =
    halved-known c.args.text.now CONTENT LENGTH known_name.ContentLength c.type_inv.text c.requires.token c.requires.length.1 (sym c.if-first-eq-CONTENT.true ∙ c.requires.first) (sym c.if-second-eq-LENGTH.true ∙ c.requires.second) refl refl

-- the two halves are those of Content-Type, so the name is that
pub returns-then-second-eq-TYPE : goal.returns-then-second-eq-TYPE
returns-then-second-eq-TYPE c =
    halved-known c.args.text.now CONTENT TYPE known_name.ContentType c.type_inv.text c.requires.token c.requires.length.1 (sym c.if-first-eq-CONTENT-2.true ∙ c.requires.first) (sym c.if-second-eq-TYPE.true ∙ c.requires.second) refl refl

-- the two halves are those of Content-Encoding, so the name is that
pub returns-then-second-eq-ENCODING : goal.returns-then-second-eq-ENCODING
returns-then-second-eq-ENCODING c =
    halved-known c.args.text.now CONTENT ENCODING known_name.ContentEncoding c.type_inv.text c.requires.token c.requires.length.1 (sym c.if-first-eq-CONTENT-3.true ∙ c.requires.first) (sym c.if-second-eq-ENCODING.true ∙ c.requires.second) refl refl

-- the two halves are those of Supported, so the name is that
pub returns-then-second-eq-D : goal.returns-then-second-eq-D
returns-then-second-eq-D c =
    halved-known c.args.text.now SUPPORTE D known_name.Supported c.type_inv.text c.requires.token c.requires.length.1 (sym c.if-first-eq-SUPPORTE.true ∙ c.requires.first) (sym c.if-second-eq-D.true ∙ c.requires.second) refl refl

-- where the two halves are those of none of the four names of this length, the name is another one
pub returns-else-first-eq-SUPPORTE : goal.returns-else-first-eq-SUPPORTE
returns-else-first-eq-SUPPORTE c =
    halved-other c.args.text.now c.type_inv.text c.requires.length.0 (
      -- the name is none of the four, since one of its halves differs from that of each
      (λ m n. one-fails c.else-first-eq-CONTENT.either (c.requires.first ∙ m) (c.requires.second ∙ n)),
      (
        (λ m n. one-fails c.else-first-eq-CONTENT-3.either (c.requires.first ∙ m) (c.requires.second ∙ n)),
        (
          (λ m n. one-fails c.else-first-eq-CONTENT-2.either (c.requires.first ∙ m) (c.requires.second ∙ n)),
          ((λ m n. one-fails c.else-first-eq-SUPPORTE.either (c.requires.first ∙ m) (c.requires.second ∙ n)), tt),
        ),
      ),
    )
