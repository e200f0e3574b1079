use Rattle.std.proofs.Common.{◌↔◌, length}
use Rattle.sip_text.specs.Bytes.{semicolon}
use Rattle.sip_text.specs.inner.Pieces.{UriParameter}
use Rattle.sip_text.proofs.uris.UriPartLemmas.{Each}
use Rattle.sip_text.proofs.uri.are_joined_params.Given as goal

-- each part of the rest is a parameter exactly if each part of the whole text is
abbrev pub invariant-params : goal.invariant-params
invariant-params l = Each semicolon UriParameter l.rest ↔ Each semicolon UriParameter l.fn.text

-- what is left gets shorter in each turn of the loop
abbrev pub decreases-params : goal.decreases-params
decreases-params l = length l.rest
