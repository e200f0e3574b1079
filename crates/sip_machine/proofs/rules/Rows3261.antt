-- The rows of the machines of RFC 3261, as those of RFC 6026 give them.
use Rattle.std.specs.Prelude.{◌≡◌, ◌↔◌, ◌++◌, ℕ, Bool, Option, Some, None, List, [], ◌∷◌, map}
use Rattle.std.specs.List.{filter_map}
use Rattle.std.specs.Option.{option_map}
use Rattle.std.proofs.Common.{inl, inr, refl, ap, ◌∙◌, arith}
use Rattle.std.proofs.lemmas.Bool.Decides.{nat_tests}
use Rattle.std.proofs.lemmas.List.{map-append, append-nil}
use Rattle.std.proofs.lemmas.List.Elements.{filter_map-append}
use Rattle.sip_standard.specs.declared.kind.Kind.{Kind}
use Rattle.sip_standard.specs.declared.kind.Kind.TheVariants.{Request, Response}
use Rattle.sip_phases.specs.declared.invite_server.InviteServerPhase.{InviteServerPhase as CodePhase}
use Rattle.sip_machine.specs.declared.told.ToldField.{ToldField as CodeField}
use Rattle.sip_machine.specs.declared.phases.Turn.{Turn}
use Rattle.sip_standard.specs.Times.{Times}
use Rattle.sip_machine.specs.Texts.{Texts}
use Rattle.sip_standard.specs.MachineEvent.{MachineEvent}
use Rattle.sip_standard.specs.Kind.{IsSuccess}
use Rattle.sip_machine.specs.Told.{field_message, field_of_code}
use Rattle.sip_machine.specs.FigureRules.{After}
use Rattle.sip_standard.specs.InviteClient as client
use Rattle.sip_standard.specs.InviteClient.{InviteClientPhase, Calling, Proceeding}
use Rattle.sip_standard.specs.InviteClient3261 as client_3261
use Rattle.sip_standard.specs.InviteServer as server
use Rattle.sip_standard.specs.InviteServer.{InviteServerPhase}
use Rattle.sip_phases.specs.inner.InviteServer.{invite_server_seen, invite_server_names, InviteServerInRange}
use Rattle.sip_standard.specs.InviteServer3261 as server_3261
use Rattle.sip_standard.specs.InviteServer3261.{InviteServer3261Phase, In, Within}
use Rattle.sip_phases.specs.inner.InviteServer3261.{invite_server_3261_seen, invite_server_3261_names, InviteServer3261InRange}
use Rattle.sip_machine.specs.inner.Turns.{turn_seen, turn_names, TurnInRange}
use Rattle.sip_machine.specs.inner.Single.{AnswersOne}
use Rattle.sip_machine.specs.inner.Rows3261.{IsEndedBy, turn_within}

-- any other message has the rows of RFC 6026 in a client of RFC 3261
-- x is the phase, k the kind of the message e, and y where the row leads
-- in calling the rows of a provisional response and of one of 300 to 699 are the same, and a 2xx is left out
pub other_row : (p : Times) (x : InviteClientPhase) (k : Kind) (e : MachineEvent) (y : After InviteClientPhase) → ¬ (IsEndedBy x k) → client.Receives p x k e y ↔ client_3261.Receives p x k e y
other_row p (Calling w) (Response code) e y other = (
  λ h. elim h [ inl row ↦ inl row | inr final ↦ elim final [ inl success ↦ absurd (other success.0) | inr row ↦ inr (inr row) ] ],
  λ h. elim h [ inl row ↦ inl row | inr final ↦ elim final [ inl success ↦ absurd (other success.0) | inr row ↦ inr (inr row) ] ],
)
-- in proceeding too only a 2xx has another row, and other messages have the same
other_row p (Proceeding reliable request cancel) (Response code) e y other = (
  λ h. elim h [ inl success ↦ absurd (other success.0) | inr row ↦ inr row ],
  λ h. elim h [ inl success ↦ absurd (other success.0) | inr row ↦ inr row ],
)
-- a request in calling has no row by either; in all other cases the rows are the same
other_row p (Calling w) (Request method) e y other = (λ h. h, λ h. h)
other_row p x k e y other = (λ h. h, λ h. h)

-- where P and Q hold of the same, an answer for P is one for Q
pub AnswersOne-same : {X S : Type 0} (names : S → List ℕ) (InRange : S → Type 0) (seen : Texts → S → X) (texts : Texts) (P Q : X → Type 0) → ((x : X) → P x ↔ Q x) → (answer : Option S) →
    AnswersOne names InRange seen texts P answer → AnswersOne names InRange seen texts Q answer
AnswersOne-same names InRange seen texts P Q same None none = λ x q. none x ((same x).1 q)
AnswersOne-same names InRange seen texts P Q same (Some s) one =
    record { only = λ x. (λ q. (one.only x).0 ((same x).1 q), λ is. (same x).0 ((one.only x).1 is)); known = one.known; in_range = one.in_range }

-- where a row of the server leads by RFC 6026, it leads by RFC 3261
pub within-one : (texts : Texts) (Row : After InviteServerPhase → Type 0) (again : Bool) (answer : Option (Turn _)) →
    AnswersOne (turn_names invite_server_names) (TurnInRange InviteServerInRange) (turn_seen invite_server_seen) texts Row answer →
    AnswersOne (turn_names invite_server_3261_names) (TurnInRange InviteServer3261InRange) (turn_seen invite_server_3261_seen) texts (Within Row again) (option_map (turn_within again) answer)
within-one texts Row again None none = λ y h. none h.0 h.1
within-one texts Row again (Some turn) one =
    record {
      -- the phase to which the row leads is the same, with the flag beside it
      only = λ y. (
        λ h. h.2 ∙ ap (λ (after : After InviteServerPhase). (In after.0 again, after.1)) ((one.only h.0).0 h.1),
        λ same. (turn_seen invite_server_seen texts turn, (one.only (turn_seen invite_server_seen texts turn)).1 refl, same),
      );
      known = one.known;
      in_range = one.in_range;
    }

-- a response that is no 2xx has the rows of RFC 6026: in idle and in confirmed nothing is sent, in accepted only a 2xx, and in proceeding and in completed
-- the rows differ for a 2xx alone
pub response_row : (p : Times) (x : InviteServerPhase) (again : Bool) (code : ℕ) (e : MachineEvent) (y : After InviteServer3261Phase) → ¬ (IsSuccess code) →
    Within (server.Sends p x (Response code) e) again y ↔ server_3261.Sends p (In x again) (Response code) e y
response_row p server.Idle again code e y other = (λ h. absurd h.1, λ h. absurd h)
response_row p (server.Proceeding reliable set last) again code e y other = (λ h. inr (other, h), λ h. elim h [ inl success ↦ absurd (other success.0) | inr row ↦ row.1 ])
response_row p (server.Accepted set) again code e y other = (λ h. absurd (other h.1.0), λ h. absurd h)
response_row p (server.Completed reliable final set repeat interval) again code e y other = (λ h. (other, h), λ h. h.1)
response_row p (server.Confirmed reliable set) again code e y other = (λ h. absurd h.1, λ h. absurd h)

-- where a sent response that is no 2xx leads by RFC 6026, it leads by RFC 3261
pub sent-within : (p : Times) (texts : Texts) (x : CodePhase) (again : Bool) (code : ℕ) (k : Kind) (e : MachineEvent) (answer : Option (Turn CodePhase)) → Response code ≡ k →
    ¬ (IsSuccess code) →
    AnswersOne (turn_names invite_server_names) (TurnInRange InviteServerInRange) (turn_seen invite_server_seen) texts (server.Sends p (invite_server_seen texts x) k e) answer →
    AnswersOne (turn_names invite_server_3261_names) (TurnInRange InviteServer3261InRange) (turn_seen invite_server_3261_seen) texts
    (server_3261.Sends p (In (invite_server_seen texts x) again) k e) (option_map (turn_within again) answer)
sent-within p texts x again code k e answer is other one = grind (arith, nat_tests, AnswersOne-same, response_row, within-one)

-- a field that names no message, put after others, leaves the messages of the fields as they are
pub messages-behind : (fields : List CodeField) (field : CodeField) → field_message (field_of_code field) ≡ None →
    filter_map field_message (map field_of_code (fields ++ field ∷ [])) ≡ filter_map field_message (map field_of_code fields)
messages-behind fields field silent = grind (arith, nat_tests, map-append, filter_map-append, append-nil)
