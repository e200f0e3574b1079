use Rattle.std.specs.Prelude.{◌≤◌, ℕ, List, codes, bytes_eq, if◌then◌else◌}
use Rattle.sip_standard.specs.StartLine.{StartLine, request, status}
use Rattle.sip_standard.specs.declared.kind.Method.{Method}
use Rattle.sip_standard.specs.declared.kind.Method.TheVariants.{Invite, Ack, Cancel, Other}
use Rattle.sip_standard.specs.declared.kind.Kind.{Kind}
use Rattle.sip_standard.specs.declared.kind.Kind.TheVariants.{Request, Response}

-- the method of this name, which is compared with case, RFC 3261 section 7.1
abbrev pub method_named : List ℕ → Method
method_named name =
    if bytes_eq name (codes "INVITE") then Invite else if bytes_eq name (codes "ACK") then Ack else if bytes_eq name (codes "CANCEL") then Cancel else Other

-- a message as a machine tells it, sections 7.1 and 7.2: a request with its method, or a response with its code
abbrev pub kind_of : StartLine → Kind
kind_of (request method uri) = Request (method_named method)
kind_of (status code reason) = Response code

-- a provisional response, section 7.2: 1xx
abbrev pub IsProvisional : ℕ → Type 0
IsProvisional code = (100 ≤ code) × (code ≤ 199)

-- a final response, section 7.2: 2xx to 6xx
abbrev pub IsFinal : ℕ → Type 0
IsFinal code = (200 ≤ code) × (code ≤ 699)

-- a success, section 7.2: 2xx
abbrev pub IsSuccess : ℕ → Type 0
IsSuccess code = (200 ≤ code) × (code ≤ 299)

-- any other final response, section 7.2: 3xx to 6xx
abbrev pub IsUnsuccessful : ℕ → Type 0
IsUnsuccessful code = (300 ≤ code) × (code ≤ 699)
