-- Which ACK belongs to which INVITE (RFC 3261, section 17.1.1.3).
use Rattle.std.specs.Prelude.{◌≡◌, ℕ, List, [], codes}
use Rattle.sip_standard.specs.StartLine.{StartLine, request}
use Rattle.sip_standard.specs.Outcome.{gives}
use Rattle.sip_standard.specs.Says.{Said, Says}
use Rattle.sip_standard.specs.Solid.{solid}

-- the two texts are equal once their blanks are left out
abbrev pub SameSolid : List ℕ → List ℕ → Type 0
SameSolid a b = solid a ≡ solid b

-- the first start line is that of an ACK, with the Request-URI of the second
abbrev pub IsAckLine : StartLine → StartLine → Type 0
IsAckLine ack invite = (uri : List ℕ) × (method : List ℕ) × (ack ≡ request (codes "ACK") uri) × (invite ≡ request method uri)

-- the first is the ACK for the third, a response to the second, an INVITE
pub record IsAckOf (ack invite response : Said) : Type 0 where
  pub line : IsAckLine ack.start invite.start
  pub call_id : ack.call_id ≡ invite.call_id
  pub from : SameSolid ack.from invite.from
  pub to : SameSolid ack.to response.to
  pub one_via : ack.others ≡ []
  pub via : SameSolid ack.via.whole invite.via.whole
  pub number : ack.cseq.0 ≡ invite.cseq.0
  pub route : SameSolid ack.route invite.route

-- the three texts say messages of which the first is the ACK for the third, a response to the second
abbrev pub AckOf : List ℕ → List ℕ → List ℕ → Type 0
AckOf ack invite response = (a : Said) × (i : Said) × (r : Said) × Says ack (gives a) × Says invite (gives i) × Says response (gives r) × IsAckOf a i r
