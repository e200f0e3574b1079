use Rattle.std.proofs.Common.{◌↔◌, length}
use Rattle.sip_text.specs.Bytes.{ampersand}
use Rattle.sip_text.specs.inner.Pieces.{Header}
use Rattle.sip_text.proofs.uris.UriPartLemmas.{Each}
use Rattle.sip_text.proofs.uri.are_headers.Given as goal

-- each part of the rest is a header exactly if each part of the whole text is
abbrev pub invariant-headers : goal.invariant-headers
invariant-headers l = Each ampersand Header l.rest ↔ Each ampersand Header l.fn.text

-- what is left gets shorter in each turn of the loop
abbrev pub decreases-headers : goal.decreases-headers
decreases-headers l = length l.rest
