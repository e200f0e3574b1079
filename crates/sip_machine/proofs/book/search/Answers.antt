use Rattle.std.proofs.Common.{rules}
use Rattle.std.proofs.lemmas.Fn.{always_returns_same}
use Rattle.sip_machine.specs.inner.Order.{texts_of, key_of, compare}
use Rattle.sip_machine.proofs.book.search.Goals as goal

-- the search goes by the hash, and then by the bytes: each call of the closure compares a place so, and changes nothing (`always_returns_same`)
pub returns-clause-found : goal.returns-clause-found
returns-clause-found c =
    c.binary_search_by.ensures.position (λ place. compare (key_of (texts_of c.args.kept.now) place) (c.args.hash, c.args.bytes.now))
    (always_returns_same _ _ _ (λ a r g called. search rules))
