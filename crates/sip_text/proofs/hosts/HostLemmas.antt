-- A text is a host where it passes one of three tests.
use Rattle.std.proofs.Common.{◌≡◌, ◌⊎◌, inl, inr, ◌||◌, Bool, List, ℕ}
use Rattle.std.specs.Bool.{Decides}
use Rattle.std.proofs.lemmas.Bool.Decides.{Decides-at, Decides-or, Decides-like}
use Rattle.sip_standard.specs.Profile.{Host, Hostname, Ipv4, Bracketed}
use Rattle.sip_text.specs.inner.HostTests.{is_v4, is_v6_reference, is_hostname}
use Rattle.sip_text.proofs.hosts.HostnameLemmas.{hostname-yes, hostname-is}
use Rattle.sip_text.proofs.hosts.V4Lemmas.{v4-yes, v4-is}
use Rattle.sip_text.proofs.hosts.V6Lemmas.{reference-yes, reference-is}

-- the tests of an IPv6 address in brackets, an IPv4 address and a hostname together decide a host
pub decides-host : (text : List ℕ) (r : Bool) → r ≡ ((is_v6_reference text || is_v4 text) || is_hostname text) → Decides r (Host text)
decides-host text r is =
    -- either address, and either of them or a hostname
    let address = Decides-or (is_v6_reference text) (is_v4 text) (reference-yes text, reference-is text) (v4-yes text, v4-is text) in
    let host = Decides-or (is_v6_reference text || is_v4 text) (is_hostname text) address (hostname-yes text, hostname-is text) in
    Decides-at r _ is (Decides-like _ to from host)
  where
    -- the three kinds of hosts in the order of the tests are those of the grammar
    to : (Bracketed text ⊎ Ipv4 text) ⊎ Hostname text → Host text
    to (inl (inl is)) = inr (inr is)
    to (inl (inr is)) = inr (inl is)
    to (inr is) = inl is

    -- and the other way
    from : Host text → (Bracketed text ⊎ Ipv4 text) ⊎ Hostname text
    from (inl is) = inr is
    from (inr (inl is)) = inl (inr is)
    from (inr (inr is)) = inl (inl is)
