-- An element of Via at the front of a text, in the steps by which it is read.
use Rattle.std.specs.Prelude.{◌≡◌, ◌⊎◌, ℕ, List, [], ◌∷◌, ◌++◌, Option, None, Some}
use Rattle.std.specs.Option.{option_or}
use Rattle.sip_standard.specs.Text.{◌then◌}
use Rattle.sip_standard.specs.Chars.{AnyCase, EachSays}
use Rattle.sip_standard.specs.Profile.{Token, Host, Port}
use Rattle.sip_standard.specs.Via.{SaidVia, ParamSays, first_some}
use Rattle.sip_text.specs.Bytes.{colon, semicolon}
use Rattle.sip_message.specs.inner.Marks.{Mark}
use Rattle.sip_message.specs.inner.Fronts.{TokenFront, Seq, ProtocolFront}
use Rattle.sip_message.specs.inner.ElementFronts.{EndsElement}
use Rattle.sip_message.specs.inner.ParamFronts.{Param, BracketFront, LedFront, AllParamsFront}

-- what may be a host at the front of the text, from "[" to the first "]" or else the longest token, and what is left
abbrev pub HostCut : List ℕ → List ℕ × List ℕ → Type 0
HostCut text cut = BracketFront text cut ⊎ TokenFront text cut

-- a host at the front of the text, and what is left
abbrev pub HostFront : List ℕ → List ℕ × List ℕ → Type 0
HostFront text host = Host (host.0) × HostCut text host

-- a port at the front of the text, and what is left
abbrev pub PortFront : List ℕ → List ℕ × List ℕ → Type 0
PortFront text port = Port (port.0) × TokenFront text port

-- the branch that a parameter gives: its value where it is named branch, and None where it has another name
abbrev pub BranchOf : Param → Option (List ℕ) → Type 0
BranchOf (name, value) None = ¬ (AnyCase "branch" name)
BranchOf (name, value) (Some branch) = AnyCase "branch" name × Token branch × (value ≡ Some branch)

-- each parameter gives a branch or None, and the branch is the first that one gives
abbrev pub IsBranch : List Param → Option (List ℕ) → Type 0
IsBranch [] branch = branch ≡ None
IsBranch (param ∷ params) branch =
    (found : Option (List ℕ)) × BranchOf param found
    × (later : Option (List ℕ)) × IsBranch params later × (branch ≡ option_or found later)

-- *( SEMI via-params ), of which this branch counts
abbrev pub BranchText : List ℕ → Option (List ℕ) → Type 0
BranchText text branch =
    (said : List (Option (List ℕ))) × (branch ≡ first_some said) × EachSays (λ param. Mark semicolon then ParamSays param) said text

-- *( SEMI via-params ) at the front of the text with the branch, and what is left
abbrev pub BranchFront : List ℕ → Option (List ℕ) × List ℕ → Type 0
BranchFront text (branch, rest) =
    (params : List Param) × AllParamsFront text (params, rest) × IsBranch params branch

-- an element of Via at the front of the text, and what is left, step by step
abbrev pub ViaSteps : List ℕ → SaidVia × List ℕ → Type 0
ViaSteps text =
    Seq (ProtocolFront text) (λ sent.
    Seq (HostFront (sent.1)) (λ host.
    Seq (LedFront colon PortFront (host.1)) (λ port.
    Seq (BranchFront (port.1)) (λ tail v.
    EndsElement (tail.1) × (text ≡ v.0.whole ++ v.1)
    × (v ≡ (record { whole = v.0.whole; transport = sent.0; host = host.0; port = port.0; branch = tail.0 }, tail.1))))))
