-- What an event is, in the words of RFC 3261.
use Rattle.std.specs.Prelude.{◌≡◌, ◌≤◌, ◌⊎◌, ℕ, List, All}
use Rattle.sip_standard.specs.declared.action.Action.TheVariants.{Sent, Received, Failed, Restart}
use Rattle.sip_standard.specs.declared.kind.Method.{Method}
use Rattle.sip_standard.specs.declared.kind.Kind.TheVariants.{Request, Response}
use Rattle.sip_standard.specs.MachineEvent.{MachineEvent}

-- the event sends a request of this method
abbrev pub SendsRequest : Method → MachineEvent → Type 0
SendsRequest method e = (e.action ≡ Sent) × (e.kind ≡ Request method)

-- the event sends a request of any method
abbrev pub SendsAnyRequest : MachineEvent → Type 0
SendsAnyRequest e = (method : Method) × SendsRequest method e

-- the event receives a request of this method
abbrev pub GetsRequest : Method → MachineEvent → Type 0
GetsRequest method e = (e.action ≡ Received) × (e.kind ≡ Request method)

-- the event receives a request of any method
abbrev pub GetsAnyRequest : MachineEvent → Type 0
GetsAnyRequest e = (method : Method) × GetsRequest method e

-- the event is of a response whose code has this property
abbrev pub IsResponse : (ℕ → Type 0) → MachineEvent → Type 0
IsResponse IsSuch e = (code : ℕ) × (e.kind ≡ Response code) × IsSuch code

-- the event receives a response whose code has this property
abbrev pub GetsResponse : (ℕ → Type 0) → MachineEvent → Type 0
GetsResponse IsSuch e = (e.action ≡ Received) × IsResponse IsSuch e

-- the event sends a response whose code has this property; for a server a response that the transport refuses counts as sent
abbrev pub SendsResponse : (ℕ → Type 0) → MachineEvent → Type 0
SendsResponse IsSuch e = ((e.action ≡ Sent) ⊎ (e.action ≡ Failed)) × IsResponse IsSuch e

-- the event sends these bytes, or its transport refuses them
abbrev pub SendsBytes : List ℕ → MachineEvent → Type 0
SendsBytes bytes e = ((e.action ≡ Sent) ⊎ (e.action ≡ Failed)) × (e.text ≡ bytes)

-- the code is that of any response, section 7.2
abbrev pub IsAnyCode : ℕ → Type 0
IsAnyCode code = (100 ≤ code) × (code ≤ 699)

-- the event is one of a message that the transport refuses, section 17.1.4
abbrev pub IsRefused : MachineEvent → Type 0
IsRefused e = e.action ≡ Failed

-- the event is a restart of the element, which has lost its transactions (own, in no RFC)
abbrev pub IsRestart : MachineEvent → Type 0
IsRestart e = e.action ≡ Restart

-- the event is of the kind of each of these events that has its bytes: the same bytes are the same message
abbrev pub IsOfOneKind : List MachineEvent → MachineEvent → Type 0
IsOfOneKind events e = All (λ f. f.text ≡ e.text → f.kind ≡ e.kind) events
