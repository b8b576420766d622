-- The definition of a join, of any type: of two that agree, the one that stands for both (RR-7506: states form a join
-- semilattice).
use Rattle.std.specs.Prelude.{◌≡◌}

-- `join` is commutative, associative and idempotent on elements that agree, and what agrees with two that agree, agrees with
-- their join
pub record IsJoin {T : Type 0} (agree : T → T → Type 0) (join : T → T → T) : Type 0 where
  pub commutative : (x y : T) → agree x y → join x y ≡ join y x
  pub associative : (x y z : T) → join (join x y) z ≡ join x (join y z)
  pub idempotent : (x : T) → join x x ≡ x
  pub keeps_agreement : (x y z : T) → agree x y → agree x z → agree y z → agree (join x y) z

-- `below` is an order: reflexive, transitive and antisymmetric
pub record IsOrder {T : Type 0} (below : T → T → Type 0) : Type 0 where
  pub reflexive : (x : T) → below x x
  pub transitive : (x y z : T) → below x y → below y z → below x z
  pub antisymmetric : (x y : T) → below x y → below y x → x ≡ y

-- `joined` is the least upper bound of `x` and `y`
pub record IsLeastAbove {T : Type 0} (below : T → T → Type 0) (x y joined : T) : Type 0 where
  pub first : below x joined
  pub second : below y joined
  pub least : (z : T) → below x z → below y z → below joined z
