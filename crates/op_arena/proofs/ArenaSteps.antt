-- The steps of an arena keep its cells sound.
use Rattle.std.proofs.Common.{◌≡◌, ℕ, zero, suc, ◌+◌, ◌-◌, ◌<◌, ◌≤◌, Bool, true, false, cond, List, [], ◌∷◌, ◌++◌, length, slice_get, slice_set, Some, None, refl, sym, ap, ◌∙◌, subst, arith, inl, inr, length-append}
use Rattle.std.specs.Prelude.{Option, nat_eq, nat_lt, is_some, IsTrue}
use Rattle.std.specs.FinMap as map
use Rattle.std.specs.FinSet as set
use Rattle.std.proofs.lemmas.Bool.{cases_eq, eq-eqb, ne_eqb, lt-ltb, le-ltb, ltb-true}
use Rattle.std.proofs.lemmas.List.{length-set}
use Rattle.std.proofs.lemmas.Option.{slice_get_within}
use Rattle.op_arena.specs.Ids.{Id, id_of, id_cmp}
use Rattle.op_arena.specs.Slots.{slot, value_of, spent_at, held_in, spent_in, emptied, is_held, is_retired, KeepsLast, IsArena, IsFreeList}
use Rattle.op_arena.specs.declared.slot.Slot.{Slot}
use Rattle.op_arena.specs.declared.slot.State.{State}
use Rattle.op_arena.specs.declared.slot.State.TheVariants.{Free, Held, Retired}
use Rattle.op_arena.proofs.Counts.{count_set, count_push, get_set_same, get_set_other, get_push_same, get_push_other}
use Rattle.op_arena.proofs.FreeCells.{popped, aside, same_next}
use Rattle.std.proofs.lemmas.Option.{slice_get_past}
use Rattle.op_arena.proofs.Updates.{written, taken}
use Rattle.op_arena.proofs.IdOrder.{ids_total, ids_exact}
use Rattle.op_arena.proofs.Views.{value_at, count_at, get_held, contains_spent}
use Rattle.std.specs.Ordering.{eq_by_cmp}
use Rattle.std.specs.Cmp.{Equal-is}
use Rattle.std.proofs.Common.{Bor}
use Rattle.std.specs.Prelude.{option_copied}

module _ {T : Type 0} where
  pub same_slot : (s t : Slot T) → Some s ≡ Some t → s ≡ t
  same_slot s t e = cc

  -- what holds of every cell still does, where one is changed to such a cell
  keeps_set : (last i : ℕ) (ss : List (Slot T)) (new : Slot T) → ((k : ℕ) (s : Slot T) → slice_get ss k ≡ Some s → KeepsLast last s.generation s.state) → i < length ss → KeepsLast last new.generation new.state
      → (k : ℕ) (s : Slot T) → slice_get (slice_set ss i new) k ≡ Some s → KeepsLast last s.generation s.state
  keeps_set last i ss new all lt ok k s e = elim (cases_eq i k) [
    | inl same ↦
        let is : new ≡ s = same_slot new s (sym (get_set_same ss i new lt) ∙ ap (slice_get (slice_set ss i new)) same ∙ e) in subst (λ (t : Slot T). KeepsLast last t.generation t.state) is ok
    | inr other ↦ all k s (sym (get_set_other ss i k new other) ∙ e)
  ]

  keeps_push : (last : ℕ) (ss : List (Slot T)) (new : Slot T) → ((k : ℕ) (s : Slot T) → slice_get ss k ≡ Some s → KeepsLast last s.generation s.state) → KeepsLast last new.generation new.state
      → (k : ℕ) (s : Slot T) → slice_get (ss ++ new ∷ []) k ≡ Some s → KeepsLast last s.generation s.state
  keeps_push last ss new all ok k s e = elim (cases_eq (length ss) k) [
    | inl same ↦ let is : new ≡ s = same_slot new s (sym (get_push_same ss new) ∙ ap (slice_get (ss ++ new ∷ [])) same ∙ e) in subst (λ (t : Slot T). KeepsLast last t.generation t.state) is ok
    | inr other ↦ all k s (sym (get_push_other ss k new other) ∙ e)
  ]

  -- the free list is empty where no cell is first
  pub none_free : (last capacity held retired : ℕ) (ss : List (Slot T)) → (a : IsArena last ss capacity None held retired) → held + retired ≡ length ss
  none_free last capacity held retired ss a = empty a.free a.total a.linked
    where
      empty : (n : ℕ) → n + (held + retired) ≡ length ss → IsFreeList ss n None → held + retired ≡ length ss
      empty zero e l = omega (arith, e)
      empty (suc n) e l = let bad = l.3 in cc

  -- the first free cell
  pub first_free : (last capacity held retired i : ℕ) (ss : List (Slot T)) → IsArena last ss capacity (Some i) held retired
      → (g : ℕ) × (next : Option ℕ) × (slice_get ss i ≡ Some (slot g (Free next))) × ((new : List (Slot T)) → ((k : ℕ) → (i ≡ k → ⊥) → slice_get new k ≡ slice_get ss k) → (n : ℕ) × (suc n + (held + retired) ≡ length ss) × IsFreeList new n next)
  first_free last capacity held retired i ss a = first a.free a.total a.linked
    where
      first : (n : ℕ) → n + (held + retired) ≡ length ss → IsFreeList ss n (Some i)
          → (g : ℕ) × (next : Option ℕ) × (slice_get ss i ≡ Some (slot g (Free next))) × ((new : List (Slot T)) → ((k : ℕ) → (i ≡ k → ⊥) → slice_get new k ≡ slice_get ss k) → (n : ℕ) × (suc n + (held + retired) ≡ length ss) × IsFreeList new n next)
      first zero e l = cc
      first (suc n) e l =
          let is : i ≡ l.0 = let f = l.3 in cc in
          (l.1, l.2, ap (slice_get ss) is ∙ l.4, λ new others. (n, e, popped ss new i n (Some i) others refl l))

  -- a free cell gets a value
  pub filled : (last capacity held retired i g : ℕ) (ss : List (Slot T)) (first next : Option ℕ) (v : T) → IsArena last ss capacity first held retired → first ≡ Some i → slice_get ss i ≡ Some (slot g (Free next))
      → IsArena last (slice_set ss i (slot g (Held v))) capacity next (held + 1) retired
  filled last capacity held retired i g ss first next v a is at =
      let f = first_free last capacity held retired i ss (subst (λ o. IsArena last ss capacity o held retired) is a) in
      let new = slice_set ss i (slot g (Held v)) in let rest = f.3 new (λ k other. get_set_other ss i k (slot g (Held v)) other) in
      let next_is : f.1 ≡ next = same_next f.0 g f.1 next (slice_get ss i) f.2 at in
      record {
        counts_held = omega (arith, count_set is_held ss i (slot g (Free next)) (slot g (Held v)) at, a.counts_held);
        counts_retired = omega (arith, count_set is_retired ss i (slot g (Free next)) (slot g (Held v)) at, a.counts_retired);
        keeps = keeps_set last i ss (slot g (Held v)) a.keeps (slice_get_within ss i (slot g (Free next)) at) (a.keeps i (slot g (Free next)) at);
        free = rest.0;
        total = omega (arith, rest.1, length-set ss i (slot g (Held v)));
        linked = subst (IsFreeList new rest.0) next_is rest.2;
        within = omega (arith, length-set ss i (slot g (Held v)), a.within);
        limit = a.limit;
      }

  -- a new cell gets a value, where none is free
  pub added : (last capacity held retired : ℕ) (ss : List (Slot T)) (v : T) → IsArena last ss capacity None held retired → length ss < capacity
      → IsArena last (ss ++ slot 0 (Held v) ∷ []) capacity None (held + 1) retired
  added last capacity held retired ss v a lt =
      let new = slot 0 (Held v) in let longer = length-append ss (new ∷ []) in
      record {
        counts_held = omega (arith, count_push is_held ss new, a.counts_held);
        counts_retired = omega (arith, count_push is_retired ss new, a.counts_retired);
        keeps = keeps_push last ss new a.keeps (omega arith);
        free = 0;
        total = omega (arith, none_free last capacity held retired ss a, longer);
        linked = refl;
        within = omega (arith, longer, lt);
        limit = a.limit;
      }

  module _ (last capacity held retired i g : ℕ) (ss : List (Slot T)) (first : Option ℕ) (v : T) (a : IsArena last ss capacity first held retired) (at : slice_get ss i ≡ Some (slot g (Held v))) where
    busy : (next : Option ℕ) → Held v ≡ Free next → ⊥
    busy next e = cc

    there : i < length ss
    there = slice_get_within ss i (slot g (Held v)) at

    -- the values are no fewer than one
    pub some_held : 1 ≤ held
    some_held = omega (arith, count_set is_held ss i (slot g (Held v)) (slot g Retired) at, a.counts_held)

    pub not_past : g ≤ last
    not_past = a.keeps i (slot g (Held v)) at

    -- a value is written over
    pub overwritten : (w : T) → IsArena last (slice_set ss i (slot g (Held w))) capacity first held retired
    overwritten w =
        let new = slot g (Held w) in let long = length-set ss i new in
        record {
          counts_held = omega (arith, count_set is_held ss i (slot g (Held v)) new at, a.counts_held);
          counts_retired = omega (arith, count_set is_retired ss i (slot g (Held v)) new at, a.counts_retired);
          keeps = keeps_set last i ss new a.keeps there not_past;
          free = a.free;
          total = omega (arith, a.total, long);
          linked = aside ss (slice_set ss i new) i g a.free (Held v) first (λ k other. get_set_other ss i k new other) at busy a.linked;
          within = omega (arith, long, a.within);
          limit = a.limit;
        }

    -- a value is taken, and the cell is free again
    pub freed : (new : Slot T) → new ≡ emptied last g first → (g ≡ last → ⊥) → IsArena last (slice_set ss i new) capacity (Some i) (held - 1) retired
    freed new e other =
        let is : new ≡ slot (g + 1) (Free first) = e ∙ ap (λ b. cond b (slot g Retired) (slot (g + 1) (Free first))) (ne_eqb g last other) in
        subst (λ (s : Slot T). IsArena last (slice_set ss i s) capacity (Some i) (held - 1) retired) (sym is)
        (let free = slot (g + 1) (Free first) in let long = length-set ss i free in
        record {
          counts_held = omega (arith, count_set is_held ss i (slot g (Held v)) free at, a.counts_held);
          counts_retired = omega (arith, count_set is_retired ss i (slot g (Held v)) free at, a.counts_retired);
          keeps = keeps_set last i ss free a.keeps there (omega (arith, not_past, other));
          free = suc a.free;
          total = omega (arith, a.total, long, some_held);
          linked = (i, g + 1, first, refl, get_set_same ss i free there, aside ss (slice_set ss i free) i g a.free (Held v) first (λ k differs. get_set_other ss i k free differs) at busy a.linked);
          within = omega (arith, long, a.within);
          limit = a.limit;
        })

    -- a value is taken, and the cell is retired
    pub put_away : (new : Slot T) → new ≡ emptied last g first → g ≡ last → IsArena last (slice_set ss i new) capacity first (held - 1) (retired + 1)
    put_away new e same =
        let is : new ≡ slot g Retired = e ∙ ap (λ b. cond b (slot g Retired) (slot (g + 1) (Free first))) (eq-eqb g last same) in
        subst (λ (s : Slot T). IsArena last (slice_set ss i s) capacity first (held - 1) (retired + 1)) (sym is)
        (let gone = slot g Retired in let long = length-set ss i gone in
        record {
          counts_held = omega (arith, count_set is_held ss i (slot g (Held v)) gone at, a.counts_held);
          counts_retired = omega (arith, count_set is_retired ss i (slot g (Held v)) gone at, a.counts_retired);
          keeps = keeps_set last i ss gone a.keeps there same;
          free = a.free;
          total = omega (arith, a.total, long, some_held);
          linked = aside ss (slice_set ss i gone) i g a.free (Held v) first (λ k differs. get_set_other ss i k gone differs) at busy a.linked;
          within = omega (arith, long, a.within);
          limit = a.limit;
        })

  pub none_here : (b : Bool) → let none : Option T = None in cond b none none ≡ none
  none_here true = refl
  none_here false = refl

  found_in : (g h : ℕ) (s : State T) → is_some (cond (nat_eq h g) (value_of s) None) ≡ true → (v : T) × (slot h s ≡ slot g (Held v))
  found_in g h (Free n) e = let bad : true ≡ false = sym e ∙ ap is_some (none_here (nat_eq h g)) in cc
  found_in g h Retired e = let bad : true ≡ false = sym e ∙ ap is_some (none_here (nat_eq h g)) in cc
  found_in g h (Held v) e = elim (cases_eq h g) [
    | inl same ↦ (v, λ i. slot (same i) (Held v))
    | inr other ↦ let bad : true ≡ false = sym e ∙ ap (λ b. is_some (cond b (Some v) None)) (ne_eqb h g other) in cc
  ]

  found_at : (g : ℕ) (o : Option (Slot T)) → is_some (value_at g o) ≡ true → (v : T) × (o ≡ Some (slot g (Held v)))
  found_at g None e = cc
  found_at g (Some s) e = let f = found_in g s.generation s.state e in (f.0, ap Some f.1)

  -- the cell of an id that is held, and its value
  pub held_at : (ss : List (Slot T)) (id : Id) → IsTrue (map.contains_key (held_in ss) id) → (v : T) × (slice_get ss id.index ≡ Some (slot id.generation (Held v))) × (map.get (held_in ss) id ≡ Some v)
  held_at ss id e =
      let f = found_at id.generation (slice_get ss id.index) (ap is_some (sym (get_held ss id)) ∙ e) in
      (f.0, f.1, get_held ss id ∙ ap (value_at id.generation) f.1 ∙ ap (λ b. cond b (Some f.0) None) (eq-eqb id.generation id.generation refl))

  -- the ids of a cell up to its generation, but for a retired one
  module _ (ss : List (Slot T)) (i g : ℕ) (o : Option (Slot T)) (at : slice_get ss i ≡ o) (same : count_at o ≡ g) where
    pub unspent : set.contains (spent_in ss) (id_of i g) ≡ false
    unspent = contains_spent ss (id_of i g) ∙ ap (λ x. nat_lt g (count_at x)) at ∙ ap (nat_lt g) same ∙ le-ltb g g (omega arith)

    pub lesser : (h : ℕ) → h < g → set.contains (spent_in ss) (id_of i h) ≡ true
    lesser h lt = contains_spent ss (id_of i h) ∙ ap (λ x. nat_lt h (count_at x)) at ∙ ap (nat_lt h) same ∙ lt-ltb h g lt

  past : (g h : ℕ) (s : State T) → nat_lt g (spent_at h s) ≡ true → cond (nat_eq h g) (value_of s) None ≡ None
  past g h (Free n) e = none_here (nat_eq h g)
  past g h Retired e = none_here (nat_eq h g)
  past g h (Held v) e = ap (λ b. cond b (Some v) None) (ne_eqb h g (λ same. omega (arith, ltb-true g h e, same)))

  past_at : (g : ℕ) (o : Option (Slot T)) → nat_lt g (count_at o) ≡ true → value_at g o ≡ None
  past_at g None e = refl
  past_at g (Some s) e = past g s.generation s.state e

  -- a spent id is not held
  pub spent_none : (ss : List (Slot T)) (id : Id) → IsTrue (set.contains (spent_in ss) id) → map.get (held_in ss) id ≡ None
  spent_none ss id e = get_held ss id ∙ past_at id.generation (slice_get ss id.index) (sym (contains_spent ss id) ∙ e)

  -- an id of a cell without a value is not held
  pub none_held : (ss : List (Slot T)) (i g : ℕ) (o : Option (Slot T)) → slice_get ss i ≡ o → value_at g o ≡ None → map.get (held_in ss) (id_of i g) ≡ None
  none_held ss i g o at e = get_held ss (id_of i g) ∙ ap (value_at g) at ∙ e

  -- what an id finds at its cell
  pub past_end : (ss : List (Slot T)) (id : Id) → length ss ≤ id.index → map.get (held_in ss) id ≡ None
  past_end ss id le = get_held ss id ∙ ap (value_at id.generation) (slice_get_past ss id.index le)

  pub other_generation : (ss : List (Slot T)) (id : Id) (s : Slot T) → slice_get ss id.index ≡ Some s → (s.generation ≡ id.generation → ⊥) → map.get (held_in ss) id ≡ None
  other_generation ss id s at other = get_held ss id ∙ ap (value_at id.generation) at ∙ ap (λ b. cond b (value_of s.state) None) (ne_eqb s.generation id.generation other)

  pub same_generation : (ss : List (Slot T)) (id : Id) (s : Slot T) → slice_get ss id.index ≡ Some s → s.generation ≡ id.generation → map.get (held_in ss) id ≡ value_of s.state
  same_generation ss id s at same = get_held ss id ∙ ap (value_at id.generation) at ∙ ap (λ b. cond b (value_of s.state) None) (eq-eqb s.generation id.generation same)

  abbrev Both : List (Slot T) → map.FinMap id_cmp T → set.FinSet id_cmp → Type 0
  Both slots held spent = (held_in slots ≡ held) × (spent_in slots ≡ spent)

  -- a write through the value of an id
  pub overwrites : (last capacity held retired i : ℕ) (ss : List (Slot T)) (first : Option ℕ) (id : Id) (v : T) (old : Slot T) → IsArena last ss capacity first held retired → i ≡ id.index → slice_get ss id.index ≡ Some (slot id.generation (Held v))
      → slice_get ss i ≡ Some old → (w : T) → let new : List (Slot T) = slice_set ss i (slot old.generation (Held w)) in IsArena last new capacity first held retired × Both new (map.insert (held_in ss) id w) (spent_in ss)
  overwrites last capacity held retired i ss first id v old a here at read w =
      let is : old ≡ slot id.generation (Held v) = same_slot old (slot id.generation (Held v)) (sym read ∙ ap (slice_get ss) here ∙ at) in
      subst (λ (p : ℕ × Slot T). let new : List (Slot T) = slice_set ss p.0 (slot p.1.generation (Held w)) in IsArena last new capacity first held retired × Both new (map.insert (held_in ss) id w) (spent_in ss)) (λ k. (sym here k, sym is k))
      (overwritten last capacity held retired id.index id.generation ss first v a at w, written id.index id.generation ss (Held v) at w refl)

  -- a value is taken
  pub record Takes (last capacity held retired i : ℕ) (ss : List (Slot T)) (first : Option ℕ) (id : Id) (v : T) (old new : Slot T) : Type 0 where
    pub same : old ≡ slot id.generation (Held v)
    pub retires : id.generation ≡ last → IsArena last (slice_set ss i new) capacity first (held - 1) (retired + 1)
    pub frees : (id.generation ≡ last → ⊥) → IsArena last (slice_set ss i new) capacity (Some id.index) (held - 1) retired
    pub views : Both (slice_set ss i new) (map.remove (held_in ss) id) (set.insert (spent_in ss) id)

  pub takes : (last capacity held retired i : ℕ) (ss : List (Slot T)) (first : Option ℕ) (id : Id) (v : T) (old new : Slot T) → IsArena last ss capacity first held retired → i ≡ id.index → slice_get ss id.index ≡ Some (slot id.generation (Held v))
      → slice_get ss i ≡ Some old → new ≡ emptied last old.generation first → Takes last capacity held retired i ss first id v old new
  takes last capacity held retired i ss first id v old new a here at read e =
      let is : old ≡ slot id.generation (Held v) = same_slot old (slot id.generation (Held v)) (sym read ∙ ap (slice_get ss) here ∙ at) in
      let made : new ≡ emptied last id.generation first = e ∙ ap (λ (s : Slot T). emptied last s.generation first) is in
      record {
        same = is;
        retires = λ same. subst (λ k. IsArena last (slice_set ss k new) capacity first (held - 1) (retired + 1)) (sym here) (put_away last capacity held retired id.index id.generation ss first v a at new made same);
        frees = λ other. subst (λ k. IsArena last (slice_set ss k new) capacity (Some id.index) (held - 1) retired) (sym here) (freed last capacity held retired id.index id.generation ss first v a at new made other);
        views =
            subst (λ (p : ℕ × Slot T). Both (slice_set ss p.0 p.1) (map.remove (held_in ss) id) (set.insert (spent_in ss) id)) (λ k. (sym here k, sym made k)) (taken id.index id.generation ss (Held v) at v last first refl);
      }

none_of : {X : Type 0} (o : Option X) → is_some o ≡ false → o ≡ None
none_of None e = refl
none_of (Some x) e = cc

-- without a key that is not there, a map is the same
pub remove_absent : {T : Type 0} (m : map.FinMap id_cmp T) (id : Id) → map.contains_key m id ≡ false → m ≡ map.remove m id
remove_absent m id e = map.same_map ids_total ids_exact m (map.remove m id) (λ q.
    absent q (eq_by_cmp id_cmp q id) refl ∙ sym (map.get-remove ids_total m id q))
  where
    absent : (q : Id) (b : Bool) → eq_by_cmp id_cmp q id ≡ b → map.get m q ≡ cond b None (map.get m q)
    absent q false t = refl
    absent q true t = ap (map.get m) (ids_exact q id ((Equal-is (id_cmp q id)).0 t)) ∙ none_of (map.get m id) e

pub copied_none : {X : Type 0} (r : Option (Bor X)) → option_copied r ≡ None → r ≡ None
copied_none None e = refl
copied_none (Some b) e = cc
