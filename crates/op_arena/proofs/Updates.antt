-- What the values and the spent ids are after a cell was changed.
use Rattle.std.proofs.Common.{◌≡◌, ℕ, suc, ◌+◌, Bool, true, false, cond, ◌||◌, List, [], ◌∷◌, ◌++◌, length, slice_get, slice_set, Some, None, refl, sym, ap, ◌∙◌, subst, arith, inl, inr}
use Rattle.std.specs.Prelude.{Option, nat_eq, nat_lt}
use Rattle.std.specs.FinMap as map
use Rattle.std.specs.FinSet as set
use Rattle.std.proofs.lemmas.Bool.{cases_eq}
use Rattle.std.proofs.lemmas.Option.{slice_get_within}
use Rattle.op_arena.specs.Ids.{id_of, id_cmp}
use Rattle.op_arena.specs.Slots.{slot, value_of, spent_at, held_in, spent_in, emptied}
use Rattle.op_arena.specs.declared.slot.Slot.{Slot}
use Rattle.op_arena.specs.declared.slot.State.{State}
use Rattle.op_arena.specs.declared.slot.State.TheVariants.{Free, Held, Retired}
use Rattle.op_arena.proofs.Counts.{get_set_same, get_set_other, get_push_same, get_push_other, get_end}
use Rattle.op_arena.proofs.IdOrder.{ids_total, ids_exact}
use Rattle.op_arena.proofs.Views.{apart, together, below_next, value_at, count_at, get_held, contains_spent}

module _ {T : Type 0} where
  none_or : (b : Bool) (x : Option T) → x ≡ None → cond b x None ≡ None
  none_or true x e = e
  none_or false x e = refl

  nothing : (g h : ℕ) (next : Option ℕ) (b : Bool) → let after : Slot T = cond b (slot g Retired) (slot (g + 1) (Free next)) in value_at h (Some after) ≡ None
  nothing g h next true = none_or (nat_eq g h) None refl
  nothing g h next false = none_or (nat_eq (g + 1) h) None refl

  gone : (b : Bool) (y : Option T) → None ≡ cond b None (cond b y None)
  gone true y = refl
  gone false y = refl

  one_more : (g : ℕ) (next : Option ℕ) (b : Bool) (after : Slot T) → after ≡ cond b (slot g Retired) (slot (g + 1) (Free next)) → count_at (Some after) ≡ suc g
  one_more g next true after e = ap (λ (s : Slot T). count_at (Some s)) e
  one_more g next false after e = ap (λ (s : Slot T). count_at (Some s)) e ∙ omega arith

  over : (b : Bool) (x y : Option T) → cond b x None ≡ cond b x (cond b y None)
  over true x y = refl
  over false x y = refl

  -- two lists of cells that differ at one index
  module _ (i : ℕ) (old new : List (Slot T)) (other : (k : ℕ) → (i ≡ k → ⊥) → slice_get new k ≡ slice_get old k) where
    -- a value is there
    pub inserted : (g : ℕ) (v : T) → ((h : ℕ) → value_at h (slice_get new i) ≡ cond (nat_eq g h) (Some v) (value_at h (slice_get old i))) → held_in new ≡ map.insert (held_in old) (id_of i g) v
    inserted g v here = map.same_map ids_total ids_exact (held_in new) (map.insert (held_in old) (id_of i g) v) (λ q.
        let found = get_held old q in
        get_held new q ∙ elim (cases_eq i q.index) [
          | inl same ↦ subst (λ k. value_at q.generation (slice_get new k) ≡ cond (nat_eq g q.generation) (Some v) (value_at q.generation (slice_get old k))) same (here q.generation) ∙ (λ j. cond (sym (together q (id_of i g) same) j) (Some v) (sym found j))
          | inr differs ↦ ap (value_at q.generation) (other q.index differs) ∙ sym found ∙ ap (λ b. cond b (Some v) (map.get (held_in old) q)) (sym (apart q (id_of i g) differs))
        ] ∙ sym (map.get-insert ids_total (held_in old) (id_of i g) v q))

    -- a value is gone
    pub removed : (g : ℕ) → ((h : ℕ) → value_at h (slice_get new i) ≡ cond (nat_eq g h) None (value_at h (slice_get old i))) → held_in new ≡ map.remove (held_in old) (id_of i g)
    removed g here = map.same_map ids_total ids_exact (held_in new) (map.remove (held_in old) (id_of i g)) (λ q.
        let found = get_held old q in
        get_held new q ∙ elim (cases_eq i q.index) [
          | inl same ↦ subst (λ k. value_at q.generation (slice_get new k) ≡ cond (nat_eq g q.generation) None (value_at q.generation (slice_get old k))) same (here q.generation) ∙ (λ j. cond (sym (together q (id_of i g) same) j) None (sym found j))
          | inr differs ↦ ap (value_at q.generation) (other q.index differs) ∙ sym found ∙ ap (λ b. cond b None (map.get (held_in old) q)) (sym (apart q (id_of i g) differs))
        ] ∙ sym (map.get-remove ids_total (held_in old) (id_of i g) q))

    -- the spent ids stay if as many generations are spent
    pub as_spent : count_at (slice_get new i) ≡ count_at (slice_get old i) → spent_in new ≡ spent_in old
    as_spent here = set.same_set ids_total ids_exact (spent_in new) (spent_in old) (λ q.
        contains_spent new q ∙ ap (nat_lt q.generation) (elim (cases_eq i q.index) [
          | inl same ↦ subst (λ k. count_at (slice_get new k) ≡ count_at (slice_get old k)) same here
          | inr differs ↦ ap count_at (other q.index differs)
        ]) ∙ sym (contains_spent old q))

    -- one more generation is spent
    pub one_spent : (g : ℕ) → count_at (slice_get old i) ≡ g → count_at (slice_get new i) ≡ suc g → spent_in new ≡ set.insert (spent_in old) (id_of i g)
    one_spent g before after = set.same_set ids_total ids_exact (spent_in new) (set.insert (spent_in old) (id_of i g)) (λ q.
        let known = contains_spent old q in
        contains_spent new q ∙ elim (cases_eq i q.index) [
          | inl same ↦
              subst (λ k. nat_lt q.generation (count_at (slice_get new k)) ≡ (nat_eq g q.generation || nat_lt q.generation (count_at (slice_get old k)))) same
              (ap (nat_lt q.generation) after ∙ sym (below_next g q.generation) ∙ ap (λ n. nat_eq g q.generation || nat_lt q.generation n) (sym before))
              ∙ (λ j. sym (together q (id_of i g) same) j || sym known j)
          | inr differs ↦ ap (λ o. nat_lt q.generation (count_at o)) (other q.index differs) ∙ sym known ∙ ap (λ b. b || set.contains (spent_in old) q) (sym (apart q (id_of i g) differs))
        ] ∙ sym (set.contains-insert ids_total (spent_in old) (id_of i g) q))

  abbrev Both : List (Slot T) → map.FinMap id_cmp T → set.FinSet id_cmp → Type 0
  Both slots held spent = (held_in slots ≡ held) × (spent_in slots ≡ spent)

  module _ (i g : ℕ) (ss : List (Slot T)) (s : State T) (at : slice_get ss i ≡ Some (slot g s)) where
    module _ (new : Slot T) where
      read : slice_get (slice_set ss i new) i ≡ Some new
      read = get_set_same ss i new (slice_get_within ss i (slot g s) at)

      others : (k : ℕ) → (i ≡ k → ⊥) → slice_get (slice_set ss i new) k ≡ slice_get ss k
      others k differs = get_set_other ss i k new differs

    -- a cell with no value gets one, or a value is written over
    pub written : (v : T) → spent_at g s ≡ g → Both (slice_set ss i (slot g (Held v))) (map.insert (held_in ss) (id_of i g) v) (spent_in ss)
    written v same =
        let new = slot g (Held v) in (
          inserted i ss (slice_set ss i new) (others new) g v (λ h. ap (value_at h) (read new) ∙ over (nat_eq g h) (Some v) (value_of s) ∙ ap (λ o. cond (nat_eq g h) (Some v) (value_at h o)) (sym at)),
          as_spent i ss (slice_set ss i new) (others new) (ap count_at (read new) ∙ sym same ∙ ap count_at (sym at)),
        )

    -- a value is taken
    pub taken : (v : T) (last : ℕ) (next : Option ℕ) → s ≡ Held v → Both (slice_set ss i (emptied last g next)) (map.remove (held_in ss) (id_of i g)) (set.insert (spent_in ss) (id_of i g))
    taken v last next is =
        let new = emptied last g next in (
          removed i ss (slice_set ss i new) (others new) g (λ h. ap (value_at h) (read new) ∙ nothing g h next (nat_eq g last) ∙ gone (nat_eq g h) (value_of s) ∙ ap (λ o. cond (nat_eq g h) None (value_at h o)) (sym at)),
          one_spent i ss (slice_set ss i new) (others new) g (ap count_at at ∙ ap (spent_at g) is) (ap count_at (read new) ∙ one_more g next (nat_eq g last) new refl),
        )

  -- a new cell gets a value
  pub pushed : (ss : List (Slot T)) (v : T) → Both (ss ++ slot 0 (Held v) ∷ []) (map.insert (held_in ss) (id_of (length ss) 0) v) (spent_in ss)
  pushed ss v =
      let new = ss ++ slot 0 (Held v) ∷ [] in let others = λ (k : ℕ) (differs : length ss ≡ k → ⊥). get_push_other ss k (slot 0 (Held v)) differs in let read = get_push_same ss (slot 0 (Held v)) in let none = get_end ss in (
        inserted (length ss) ss new others 0 v (λ h. ap (value_at h) read ∙ ap (λ o. cond (nat_eq 0 h) (Some v) (value_at h o)) (sym none)),
        as_spent (length ss) ss new others (ap count_at read ∙ ap count_at (sym none)),
      )
