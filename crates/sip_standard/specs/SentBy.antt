-- sent-by (RFC 3261, sections 17.2.3 and 18.2.2).
use Rattle.std.specs.Prelude.{ℕ, List, ◌++◌, Option, None, Some, codes, decimal}
use Rattle.std.specs.Str.Parse.{digits_value}
use Rattle.sip_standard.specs.Case.{folded}

-- the port as a number, 5060 where there is none, whatever the transport
abbrev pub port_number : Option (List ℕ) → ℕ
port_number None = 5060
port_number (Some port) = digits_value 10 port

-- sent-by as keys have it: the host in lower case, ":" and the number of the port
abbrev pub sent_by : List ℕ → Option (List ℕ) → List ℕ
sent_by host port = folded host ++ (codes ":" ++ decimal (port_number port))
