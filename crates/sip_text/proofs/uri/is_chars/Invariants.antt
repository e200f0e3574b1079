use Rattle.std.proofs.Common.{◌↔◌, length}
use Rattle.sip_standard.specs.Text.{Many}
use Rattle.sip_text.specs.inner.UriCut.{ClassChar}
use Rattle.sip_text.proofs.uri.is_chars.Given as goal

-- the rest is characters exactly if the whole text is
abbrev pub invariant-chars : goal.invariant-chars
invariant-chars l = Many (ClassChar l.class) l.rest ↔ Many (ClassChar l.class) l.fn.text

-- what is left gets shorter in each turn of the loop
abbrev pub decreases-chars : goal.decreases-chars
decreases-chars l = length l.rest
