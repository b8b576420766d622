-- The list of the free cells.
use Rattle.std.proofs.Common.{◌≡◌, ℕ, zero, suc, ◌≤◌, List, slice_get, Some, None, refl, sym, ap, ◌∙◌, subst, arith}
use Rattle.std.specs.Prelude.{Option}
use Rattle.op_arena.specs.Slots.{slot, IsFreeList}
use Rattle.op_arena.specs.declared.slot.Slot.{Slot}
use Rattle.op_arena.specs.declared.slot.State.{State}
use Rattle.op_arena.specs.declared.slot.State.TheVariants.{Free, Held, Retired}

same_index : (i j : ℕ) (o : Option ℕ) → o ≡ Some i → o ≡ Some j → i ≡ j
same_index i j o a b = cc

module _ {T : Type 0} where
  state_or : State T → Option (Slot T) → State T
  state_or d None = d
  state_or d (Some s) = s.state

  next_in : State T → Option ℕ
  next_in (Free next) = next
  next_in (Held v) = None
  next_in Retired = None

  same_state : (g h : ℕ) (s t : State T) (o : Option (Slot T)) → o ≡ Some (slot g s) → o ≡ Some (slot h t) → s ≡ t
  unfolding state_or
  same_state g h s t o a b = sym (ap (state_or s) a) ∙ ap (state_or s) b

  pub same_next : (g h : ℕ) (m n : Option ℕ) (o : Option (Slot T)) → o ≡ Some (slot g (Free m)) → o ≡ Some (slot h (Free n)) → m ≡ n
  unfolding next_in
  same_next g h m n o a b = ap next_in (same_state g h (Free m) (Free n) o a b)

  -- a list from one cell has one length
  one_length : (ss : List (Slot T)) (m n : ℕ) (first : Option ℕ) → IsFreeList ss m first → IsFreeList ss n first → m ≡ n
  one_length ss zero zero first a b = refl
  one_length ss zero (suc n) first a b = let bad : None ≡ Some b.0 = sym a ∙ b.3 in cc
  one_length ss (suc m) zero first a b = let bad : None ≡ Some a.0 = sym b ∙ a.3 in cc
  one_length ss (suc m) (suc n) first a b =
      let i : a.0 ≡ b.0 = same_index a.0 b.0 first a.3 b.3 in
      let next : a.2 ≡ b.2 = same_next a.1 b.1 a.2 b.2 (slice_get ss b.0) (ap (slice_get ss) (sym i) ∙ a.4) b.4 in
      ap suc (one_length ss m n b.2 (subst (IsFreeList ss m) next a.5) b.5)

  -- a list that does not come by a cell stays as it is when that cell changes
  kept : (ss new : List (Slot T)) (i n : ℕ) (first : Option ℕ) → ((k : ℕ) → (i ≡ k → ⊥) → slice_get new k ≡ slice_get ss k)
      → ((m : ℕ) → m ≤ n → IsFreeList ss m (Some i) → ⊥) → IsFreeList ss n first → IsFreeList new n first
  kept ss new i zero first others away a = a
  kept ss new i (suc n) first others away a =
      let elsewhere : i ≡ a.0 → ⊥ = λ e. away (suc n) (omega arith) (a.0, a.1, a.2, ap Some e, a.4, a.5) in
      (a.0, a.1, a.2, a.3, others a.0 elsewhere ∙ a.4, kept ss new i n a.2 others (λ m le b. away m (omega arith) b) a.5)

  -- without the first free cell
  pub popped : (ss new : List (Slot T)) (i n : ℕ) (first : Option ℕ) → ((k : ℕ) → (i ≡ k → ⊥) → slice_get new k ≡ slice_get ss k) → first ≡ Some i → (a : IsFreeList ss (suc n) first) → IsFreeList new n a.2
  popped ss new i n first others e a =
      kept ss new i n a.2 others (λ m le b.
      let whole : IsFreeList ss (suc n) (Some i) = subst (IsFreeList ss (suc n)) e a in let same : m ≡ suc n = one_length ss m (suc n) (Some i) b whole in omega (arith, le, same)) a.5

  -- a cell that is not free is on no list
  pub aside : (ss new : List (Slot T)) (i g n : ℕ) (s : State T) (first : Option ℕ) → ((k : ℕ) → (i ≡ k → ⊥) → slice_get new k ≡ slice_get ss k)
      → slice_get ss i ≡ Some (slot g s) → ((next : Option ℕ) → s ≡ Free next → ⊥) → IsFreeList ss n first → IsFreeList new n first
  aside ss new i g n s first others at busy a = kept ss new i n first others away a
    where
      away : (m : ℕ) → m ≤ n → IsFreeList ss m (Some i) → ⊥
      away zero le b = cc
      away (suc m) le b = busy b.2 (same_state g b.1 s (Free b.2) (slice_get ss i) at (ap (slice_get ss) (same_index i b.0 (Some i) refl b.3) ∙ b.4))
