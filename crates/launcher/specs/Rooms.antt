-- Lists that have room for elements (this project's own).
use Rattle.std.specs.Global.{Vec}
use Rattle.std.specs.Prelude.{ℕ, ◌≡◌, ◌≤◌, vec_capacity, vec_len}

-- `list` is empty, and has room for `number` elements
pub record IsRoomFor {E : Type 0} (number : ℕ) (list : Vec E) : Type 0 where
  pub none : vec_len list ≡ 0
  pub room : number ≤ vec_capacity list
