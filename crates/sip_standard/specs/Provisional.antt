use Rattle.std.specs.Prelude.{◌≡◌, ℕ, List}
use Rattle.sip_standard.specs.StartLine.{status}
use Rattle.sip_standard.specs.Outcome.{gives}
use Rattle.sip_standard.specs.Says.{Said, Says}

-- the bytes say a 100 (Trying), RFC 3261 section 21.1.1, which a server may send and need not; bytes that say no message are none
pub record Is100 (bytes : List ℕ) : Type 0 where
  pub said : Said
  pub reason : List ℕ
  pub says : Says bytes (gives said)
  pub start : said.start ≡ status 100 reason
