-- When two registers are in conflict.
use Rattle.std.proofs.Common.{◌≡◌, ◌↔◌, IsTrue, IsFalse, Bool, true, false, Option, Some, refl, ap, ◌∙◌}
use Rattle.operations.specs.Registers.{Entry, RegistersInConflict}
use Rattle.operations.proofs.RegisterLaws.{one_entry}

-- of two entries under one stamp, a test whether their values are equal decides whether the registers are in conflict
pub conflict_by_test : {T : Type 0} (x y : Option (Entry T)) (a b : Entry T) → x ≡ Some a → y ≡ Some b → a.stamp ≡ b.stamp
    → (r : Bool) → (IsTrue r ↔ (a.value ≡ b.value)) → IsFalse r ↔ RegistersInConflict x y
conflict_by_test x y a b p q s true h = (
  λ f. (cc),
  λ c.
      absurd (c.two_values (ap (λ e. e.value) (one_entry x _ _ c.in_first p) ∙ h.0 refl ∙ ap (λ e. e.value) (one_entry y _ _ q c.in_second))),
)
conflict_by_test x y a b p q s false h = (λ _. record { first = a; second = b; in_first = p; in_second = q; one_stamp = s; two_values = λ e. (let t = h.1 e in cc) }, λ c. refl)
