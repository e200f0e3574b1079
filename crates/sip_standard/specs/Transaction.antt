-- A transaction of RFC 3261 section 17.
use Rattle.sip_standard.specs.Figure.{Figure}

-- a transaction: its figure, over phases that hold their messages as bytes
pub record Transaction : Type 1 where
  pub Phase : Type 0
  pub figure : Figure Phase
