-- Keys of transactions.
use Rattle.std.specs.Prelude.{ℕ, Bool, ◌&&◌, List}
use Rattle.std.specs.Str.{bytes_eq}
use Rattle.sip_standard.specs.declared.role.Role.{Role}
use Rattle.sip_standard.specs.contracts.role.RolePartialEq.TheImpl as role_eq

-- what tells one transaction from another (sections 17.1.3 and 17.2.3), its texts folded
pub record KeyParts : Type 0 where
  pub role : Role
  pub branch : List ℕ
  pub sent_by : List ℕ
  pub method : List ℕ

-- the keys are equal
abbrev pub same_key : KeyParts → KeyParts → Bool
same_key a b =
    role_eq.ghosts.eq a.role b.role
    && (bytes_eq a.branch b.branch && (bytes_eq a.sent_by b.sent_by && bytes_eq a.method b.method))
