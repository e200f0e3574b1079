-- Which transactions a message concerns (RFC 3261, sections 9.1, 17.1.3 and 17.2.3).
use Rattle.std.specs.Prelude.{◌≡◌, ℕ, ◌&&◌, not, Bool, true, false, List, [], ◌++◌, codes, bytes_eq, Option, None, is_some, option_map, option_to_list, if◌then◌else◌}
use Rattle.sip_standard.specs.StartLine.{StartLine, request, status}
use Rattle.sip_standard.specs.Via.{SaidVia}
use Rattle.sip_standard.specs.Says.{Said}
use Rattle.sip_standard.specs.declared.role.Role.{Role}
use Rattle.sip_standard.specs.declared.role.Role.TheVariants.{Client, Server}
use Rattle.sip_standard.specs.declared.role.Direction.{Direction}
use Rattle.sip_standard.specs.declared.role.Direction.TheVariants.{Sent, Received}
use Rattle.sip_standard.specs.Key.{KeyParts}
use Rattle.sip_standard.specs.Branch.{cookie_branch}
use Rattle.sip_standard.specs.SentBy.{sent_by}

-- a client sends requests and receives responses, a server the other way round (section 17)
abbrev pub role_of : StartLine → Direction → Role
role_of (request method uri) Sent = Client
role_of (request method uri) Received = Server
role_of (status code reason) Sent = Server
role_of (status code reason) Received = Client

-- sent-by tells server transactions apart (section 17.2.3), and no client ones (section 17.1.3)
abbrev pub sent_by_of : Role → SaidVia → List ℕ
sent_by_of Client via = []
sent_by_of Server via = sent_by via.host via.port

-- the method of the request that made the transaction: an ACK matches an INVITE (section 17.2.3), and a response names it in its CSeq (section 17.1.3)
abbrev pub method_of : StartLine → List ℕ → List ℕ
method_of (request method uri) cseq = if bytes_eq method (codes "ACK") then codes "INVITE" else method
method_of (status code reason) cseq = cseq

-- the key of the transaction that the message matches, by the branch of its top Via
abbrev pub own_key : Said → Direction → Option KeyParts
own_key s direction =
    let role = role_of s.start direction in
    option_map (λ branch. record { role = role; branch = branch; sent_by = sent_by_of role s.via; method = method_of s.start s.cseq.1 }) (cookie_branch s.via.branch)

-- the start line is that of a request that is sent and whose method passes the test
abbrev pub is_sent : (List ℕ → Bool) → StartLine → Direction → Bool
is_sent passes (request method uri) Sent = passes method
is_sent passes start direction = false

-- the key of the INVITE client transaction that a sent CANCEL is to cancel: it has the same branch (section 9.1)
abbrev pub cancelled_key : Said → Direction → Option KeyParts
cancelled_key s direction =
    if is_sent (λ method. bytes_eq method (codes "CANCEL")) s.start direction then option_map (λ branch. record { role = Client; branch = branch; sent_by = []; method = codes "INVITE" }) (cookie_branch s.via.branch)
    else None

-- the keys of the transactions that the message concerns, its own first
abbrev pub Concerns : Said → Direction → List KeyParts → Type 0
Concerns s direction keys = keys ≡ option_to_list (own_key s direction) ++ option_to_list (cancelled_key s direction)

-- the message is a request that is sent, which must have the cookie (section 8.1.1.7), and lacks it
abbrev pub lacks_cookie : Said → Direction → Bool
lacks_cookie s direction = is_sent (λ method. true) s.start direction && not (is_some (cookie_branch s.via.branch))
