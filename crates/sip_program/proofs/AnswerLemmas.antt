-- An answer stays an answer where the writer keeps its bytes.
use Rattle.std.proofs.Common.{ℕ, List, Option, None, Some}
use Rattle.std.proofs.KnownBytes.{Appends-kept}
use Rattle.std.specs.Io.KnownBytes.{Keeps}
use Rattle.sip_standard.specs.declared.asked.Asked.{Asked}
use Rattle.sip_standard.specs.declared.asked.Asked.TheVariants.{Input, Check, Show, States}
use Rattle.sip_standard.specs.Answers.{IsJudged, IsShown, IsListed, IsAnswer}

-- In the lemmas on answers `it` is the answer: a is what was written before it, b after it, and c later.

-- where the writer keeps its bytes, a verdict that was written is written still
IsJudged-kept : (input a b c : Option (List ℕ)) (status : ℕ) → IsJudged input a b status → Keeps b c → IsJudged input a c status
IsJudged-kept input a b c status it kept = record { verdict = it.verdict; is = it.is; written = Appends-kept a b c _ it.written kept; ends = it.ends }

-- where the writer keeps its bytes, a log that was shown is shown still
IsShown-kept : (input a b c : Option (List ℕ)) (status : ℕ) → IsShown input a b status → Keeps b c → IsShown input a c status
IsShown-kept None a b c status it kept = record { shown = it.shown; is = tt; ends = it.ends }
IsShown-kept (Some bytes) a b c status it kept = record { shown = it.shown; is = (it.is.0, it.is.1, Appends-kept a b c _ it.is.2 kept); ends = it.ends }

-- where the writer keeps its bytes, a listing that was written is written still
IsListed-kept : (entry : ℕ) (input a b c : Option (List ℕ)) (status : ℕ) → IsListed entry input a b status → Keeps b c → IsListed entry input a c status
IsListed-kept entry input a b c status it kept = record { listing = it.listing; is = it.is; written = Appends-kept a b c _ it.written kept; ends = it.ends }

-- where the writer keeps its bytes, an answer to what is asked is one still
-- a is what was written before the answer, b after it, and c later
pub IsAnswer-kept : (asked : Asked) (input a b c : Option (List ℕ)) (status : ℕ) → IsAnswer asked input a b status → Keeps b c → IsAnswer asked input a c status
IsAnswer-kept Input input a b c status it kept = IsJudged-kept input a b c status it kept
IsAnswer-kept (Check path) input a b c status it kept = IsJudged-kept input a b c status it kept
IsAnswer-kept (Show path) input a b c status it kept = IsShown-kept input a b c status it kept
IsAnswer-kept (States path entry) input a b c status it kept = IsListed-kept entry input a b c status it kept
