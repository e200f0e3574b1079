-- A run of each machine has one with a wider tolerance: where each machine shows it, and the one lemma of all of them.
use Rattle.std.proofs.Common.{◌≡◌, ◌≤◌, ℕ, List}
use Rattle.sip_standard.specs.Figure.{Owing}
use Rattle.sip_standard.specs.MachineEvent.{MachineEvent}
use Rattle.sip_standard.specs.Times.{Times}
use Rattle.sip_standard.specs.KeyMachine.{MachineKind, OfInvite, OfPlain, transaction_of}
use Rattle.sip_standard.specs.declared.role.Role.TheVariants.{Client, Server}
use Rattle.sip_standard.specs.declared.rules.Rules.TheVariants.{R3261, R6026}
use Rattle.sip_standard.specs.Stands.{Stands}
use Rattle.consequences.specs.Tolerance.{tolerant, AreOneKind}
use Rattle.sip_states.proofs.runs.StandsLemmas.{what_stands_lasts}
use Rattle.consequences.proofs.lemmas.tolerance.Moments.{is-more-tolerant}
use Rattle.consequences.proofs.lemmas.tolerance.Wider.{KeepsRuns, wider-keeps}
use Rattle.consequences.proofs.lemmas.tolerance.InviteClients.{invite_client_keeps_runs}
use Rattle.consequences.proofs.lemmas.tolerance.InviteServers.{invite_server_keeps_runs}
use Rattle.consequences.proofs.lemmas.tolerance.InviteClients.{invite_client_3261_keeps_runs}
use Rattle.consequences.proofs.lemmas.tolerance.InviteServers.{invite_server_3261_keeps_runs}
use Rattle.consequences.proofs.lemmas.tolerance.PlainClient.{plain_client_keeps_runs}
use Rattle.consequences.proofs.lemmas.tolerance.PlainServer.{plain_server_keeps_runs}

-- each machine shows that a wider tolerance keeps its runs
keeps_runs : (machine : MachineKind) → KeepsRuns (transaction_of machine).figure
keeps_runs (OfInvite R6026 Client) = invite_client_keeps_runs
keeps_runs (OfInvite R6026 Server) = invite_server_keeps_runs
keeps_runs (OfInvite R3261 Client) = invite_client_3261_keeps_runs
keeps_runs (OfInvite R3261 Server) = invite_server_3261_keeps_runs
keeps_runs (OfPlain Client) = plain_client_keeps_runs
keeps_runs (OfPlain Server) = plain_server_keeps_runs

-- What follows is of the times p, and of a wider tolerance: how early and how late an element may act.
module _ (p : Times) (early late : ℕ) where
  -- the times with the wider tolerance
  abbrev q : Times
  q = tolerant early late p

  -- where a run of a machine stands, one by the wider tolerance stands in the same phase
  pub all-wider : (machine : MachineKind) (events : List MachineEvent) (m : ℕ) (x : Owing (transaction_of machine).Phase) → p.early ≤ early → p.late ≤ late → AreOneKind events →
      Stands (transaction_of machine).figure p events m x → (y : Owing (transaction_of machine).Phase) × Stands (transaction_of machine).figure q events m y × (y.phase ≡ x.phase)
  all-wider machine events m x earlier later one stands =
      let shown = keeps_runs machine in
      let steady = shown.steady p early late (is-more-tolerant p early late earlier later) in
      wider-keeps (transaction_of machine).figure p early late later steady (shown.May q) (shown.sorted q) (what_stands_lasts machine p) (what_stands_lasts machine q) events m x one stands
