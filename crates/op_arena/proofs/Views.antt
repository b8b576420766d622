-- What a look-up among the values and the spent ids of cells finds.
use Rattle.std.proofs.Common.{◌≡◌, ℕ, zero, suc, ◌+◌, ◌*◌, ◌<◌, ◌≤◌, Bool, true, false, cond, ◌&&◌, ◌||◌, List, [], ◌∷◌, ◌++◌, slice_get, Some, None, refl, sym, ap, ◌∙◌, arith, inl, inr}
use Rattle.std.specs.Prelude.{Option, nat_eq, nat_lt, is_some}
use Rattle.std.specs.List.{list_any}
use Rattle.std.specs.FinMap as map
use Rattle.std.specs.FinSet as set
use Rattle.std.specs.FinMap.{find}
use Rattle.std.specs.Ordering.{eq_by_cmp, is_eq, nat_cmp}
use Rattle.std.specs.Cmp.{tied_then, unsigned_tied, nat_eq_equiv}
use Rattle.std.proofs.lemmas.Bool.{cases_eq, eq-eqb, ne_eqb, lt-ltb, le-ltb, cases_order}
use Rattle.op_arena.specs.Ids.{Id, id_of, id_cmp}
use Rattle.op_arena.specs.Slots.{count, value_of, is_held, state_retired, is_retired, spent_at, with_value, entries_from, ids_before, spent_from, held_in, spent_in, KeepsLast}
use Rattle.op_arena.proofs.IdOrder.{ids_exact, ids_total}
use Rattle.op_arena.specs.declared.slot.Slot.{Slot}
use Rattle.op_arena.specs.declared.slot.State.{State}
use Rattle.op_arena.specs.declared.slot.State.TheVariants.{Free, Held, Retired}

tie : (m n : ℕ) → is_eq (nat_cmp m n) ≡ nat_eq n m
tie m n = unsigned_tied m n ∙ nat_eq_equiv.symm m n

same_id : (q d : Id) → eq_by_cmp id_cmp q d ≡ (nat_eq d.index q.index && nat_eq d.generation q.generation)
same_id q d = sym (tied_then (nat_cmp q.index d.index) (nat_cmp q.generation d.generation)) ∙ (λ i. tie q.index d.index i && tie q.generation d.generation i)

-- ids of two cells differ
pub apart : (q d : Id) → (d.index ≡ q.index → ⊥) → eq_by_cmp id_cmp q d ≡ false
apart q d other = same_id q d ∙ ap (λ b. b && nat_eq d.generation q.generation) (ne_eqb d.index q.index other)

-- ids of one cell differ by their generations
pub together : (q d : Id) → d.index ≡ q.index → eq_by_cmp id_cmp q d ≡ nat_eq d.generation q.generation
together q d same = same_id q d ∙ ap (λ b. b && nat_eq d.generation q.generation) (eq-eqb d.index q.index same)

both_ways : {A : Type 0} (b : Bool) (x : A) → x ≡ cond b x x
both_ways true x = refl
both_ways false x = refl

any_append : (p : Id → Bool) (xs ys : List Id) → list_any p (xs ++ ys) ≡ (list_any p xs || list_any p ys)
any_append p [] ys = refl
any_append p (x ∷ xs) ys = elim (p x) as (λ b. (b || list_any p (xs ++ ys)) ≡ ((b || list_any p xs) || list_any p ys)) [ true ↦ refl | false ↦ any_append p xs ys ]

or_false : (b : Bool) → (b || false) ≡ b
or_false true = refl
or_false false = refl

-- a number is below the next one if it is that one or below it
pub below_next : (n g : ℕ) → (nat_eq n g || nat_lt g n) ≡ nat_lt g (suc n)
below_next n g = elim (cases_order n g) [
  | inl e ↦ ap (λ b. b || nat_lt g n) (eq-eqb n g e) ∙ sym (lt-ltb g (suc n) (omega arith))
  | inr (inl lt) ↦ (λ i. ne_eqb n g (λ e. omega arith) i || le-ltb g n (omega arith) i) ∙ sym (le-ltb g (suc n) (omega arith))
  | inr (inr lt) ↦ (λ i. ne_eqb n g (λ e. omega arith) i || lt-ltb g n lt i) ∙ sym (lt-ltb g (suc n) (omega arith))
]

any_before : (i n : ℕ) (q : Id) → i ≡ q.index → list_any (eq_by_cmp id_cmp q) (ids_before i n) ≡ nat_lt q.generation n
any_before i zero q e = sym (le-ltb q.generation 0 (omega arith))
any_before i (suc n) q e = (λ k. together q (id_of i n) e k || any_before i n q e k) ∙ below_next n q.generation

none_before : (i n : ℕ) (q : Id) → (i ≡ q.index → ⊥) → list_any (eq_by_cmp id_cmp q) (ids_before i n) ≡ false
none_before i zero q other = refl
none_before i (suc n) q other = (λ k. apart q (id_of i n) other k || none_before i n q other k)

any_cond : (b : Bool) (id : Id) (p : Id → Bool) (ids : List Id) → list_any p (cond b (id ∷ ids) ids) ≡ ((b && p id) || list_any p ids)
any_cond true id p ids = refl
any_cond false id p ids = refl

and_false : (b : Bool) → (b && false) ≡ false
and_false true = refl
and_false false = refl

len_cond : (b : Bool) (id : Id) (ids : List Id) → list_any (eq_by_cmp id_cmp id) ids ≡ false → set.len (set.from_list {R = id_cmp} (cond b (id ∷ ids) ids)) ≡ cond b 1 0 + set.len (set.from_list {R = id_cmp} ids)
len_cond false id ids e = omega arith
len_cond true id ids e =
    set.len-insert ids_total (set.from_list ids) id
    ∙ ap (λ b. cond b (set.len (set.from_list {R = id_cmp} ids)) (set.len (set.from_list {R = id_cmp} ids) + 1)) (set.contains-from_list ids_total ids id ∙ e) ∙ omega arith

-- `n` ids of a cell, before ids of other cells
len_before : (i n : ℕ) (ids : List Id) → ((g : ℕ) → list_any (eq_by_cmp id_cmp (id_of i g)) ids ≡ false)
    → set.len (set.from_list {R = id_cmp} (ids_before i n ++ ids)) ≡ n + set.len (set.from_list {R = id_cmp} ids)
len_before i zero ids none = omega arith
len_before i (suc n) ids none =
    let new : list_any (eq_by_cmp id_cmp (id_of i n)) (ids_before i n ++ ids) ≡ false =
    any_append (eq_by_cmp id_cmp (id_of i n)) (ids_before i n) ids ∙ (λ k. any_before i n (id_of i n) refl k || none n k) ∙ or_false _ ∙ le-ltb n n (omega arith) in
    let one : set.len (set.from_list {R = id_cmp} (id_of i n ∷ (ids_before i n ++ ids))) ≡ 1 + set.len (set.from_list {R = id_cmp} (ids_before i n ++ ids)) = len_cond true (id_of i n) (ids_before i n ++ ids) new in
    omega (arith, one, len_before i n ids none)

module _ {T : Type 0} where
  -- what an id of this generation finds at its cell
  abbrev pub value_at : ℕ → Option (Slot T) → Option T
  value_at g None = None
  value_at g (Some s) = cond (nat_eq s.generation g) (value_of s.state) None

  -- how many generations are spent at a cell
  abbrev pub count_at : Option (Slot T) → ℕ
  count_at None = 0
  count_at (Some s) = spent_at s.generation s.state

  find_apart : (o : Option T) (id q : Id) (es : List (Id × T)) → eq_by_cmp id_cmp q id ≡ false → find id_cmp q (with_value id o es) ≡ find id_cmp q es
  find_apart None id q es e = refl
  find_apart (Some v) id q es e = ap (λ b. cond b (Some v) (find id_cmp q es)) e

  find_here : (o : Option T) (id q : Id) (es : List (Id × T)) → find id_cmp q es ≡ None → find id_cmp q (with_value id o es) ≡ cond (eq_by_cmp id_cmp q id) o None
  find_here None id q es e = e ∙ both_ways (eq_by_cmp id_cmp q id) None
  find_here (Some v) id q es e = ap (cond (eq_by_cmp id_cmp q id) (Some v)) e

  find_later : (i : ℕ) (ss : List (Slot T)) (q : Id) → q.index < i → find id_cmp q (entries_from i ss) ≡ None
  find_later i [] q lt = refl
  find_later i (s ∷ ss) q lt =
      find_apart (value_of s.state) (id_of i s.generation) q (entries_from (suc i) ss) (apart q (id_of i s.generation) (λ e. omega (arith, e, lt))) ∙ find_later (suc i) ss q (omega arith)

  find_from : (i k : ℕ) (ss : List (Slot T)) (q : Id) → i + k ≡ q.index → find id_cmp q (entries_from i ss) ≡ value_at q.generation (slice_get ss k)
  find_from i k [] q e = refl
  find_from i zero (s ∷ ss) q e =
      find_here (value_of s.state) (id_of i s.generation) q (entries_from (suc i) ss) (find_later (suc i) ss q (omega (arith, e)))
      ∙ ap (λ b. cond b (value_of s.state) None) (together q (id_of i s.generation) (omega (arith, e)))
  find_from i (suc k) (s ∷ ss) q e =
      find_apart (value_of s.state) (id_of i s.generation) q (entries_from (suc i) ss) (apart q (id_of i s.generation) (λ f. omega (arith, e, f))) ∙ find_from (suc i) k ss q (omega (arith, e))

  -- the value of an id is the one of its cell, in its generation
  pub get_held : (ss : List (Slot T)) (q : Id) → map.get (held_in ss) q ≡ value_at q.generation (slice_get ss q.index)
  unfolding held_in
  get_held ss q = map.get-from_entries ids_total (entries_from 0 ss) q ∙ find_from 0 q.index ss q (omega arith)

  any_later : (i : ℕ) (ss : List (Slot T)) (q : Id) → q.index < i → list_any (eq_by_cmp id_cmp q) (spent_from i ss) ≡ false
  any_later i [] q lt = refl
  any_later i (s ∷ ss) q lt =
      any_append (eq_by_cmp id_cmp q) (ids_before i (spent_at s.generation s.state)) (spent_from (suc i) ss)
      ∙ (λ k. none_before i (spent_at s.generation s.state) q (λ e. omega (arith, e, lt)) k || any_later (suc i) ss q (omega arith) k)

  any_from : (i k : ℕ) (ss : List (Slot T)) (q : Id) → i + k ≡ q.index → list_any (eq_by_cmp id_cmp q) (spent_from i ss) ≡ nat_lt q.generation (count_at (slice_get ss k))
  any_from i k [] q e = sym (le-ltb q.generation 0 (omega arith))
  any_from i zero (s ∷ ss) q e =
      any_append (eq_by_cmp id_cmp q) (ids_before i (spent_at s.generation s.state)) (spent_from (suc i) ss)
      ∙ (λ k. any_before i (spent_at s.generation s.state) q (omega (arith, e)) k || any_later (suc i) ss q (omega (arith, e)) k) ∙ or_false _
  any_from i (suc k) (s ∷ ss) q e =
      any_append (eq_by_cmp id_cmp q) (ids_before i (spent_at s.generation s.state)) (spent_from (suc i) ss)
      ∙ (λ j. none_before i (spent_at s.generation s.state) q (λ f. omega (arith, e, f)) j || any_from (suc i) k ss q (omega (arith, e)) j)

  -- an id is spent if its generation is below those of its cell that are
  pub contains_spent : (ss : List (Slot T)) (q : Id) → set.contains (spent_in ss) q ≡ nat_lt q.generation (count_at (slice_get ss q.index))
  unfolding spent_in
  contains_spent ss q = set.contains-from_list ids_total (spent_from 0 ss) q ∙ any_from 0 q.index ss q (omega arith)

  len_with : (id : Id) (o : Option T) (es : List (Id × T)) → find id_cmp id es ≡ None → map.len (map.from_entries {R = id_cmp} (with_value id o es)) ≡ cond (is_some o) 1 0 + map.len (map.from_entries {R = id_cmp} es)
  len_with id None es e = omega arith
  len_with id (Some v) es e =
      let new : map.contains_key (map.from_entries {R = id_cmp} es) id ≡ false = ap is_some (map.get-from_entries ids_total es id ∙ e) in
      map.len-insert ids_total (map.from_entries es) id v ∙ ap (λ b. cond b (map.len (map.from_entries {R = id_cmp} es)) (map.len (map.from_entries {R = id_cmp} es) + 1)) new ∙ omega arith

  len_from : (i : ℕ) (ss : List (Slot T)) → map.len (map.from_entries {R = id_cmp} (entries_from i ss)) ≡ count is_held ss
  len_from i [] = map.len-empty id_cmp T
  len_from i (s ∷ ss) =
      len_with (id_of i s.generation) (value_of s.state) (entries_from (suc i) ss) (find_later (suc i) ss (id_of i s.generation) (omega arith)) ∙ ap (λ n. cond (is_held s) 1 0 + n) (len_from (suc i) ss)

  -- there are as many values as cells that hold one
  pub len_held : (ss : List (Slot T)) → map.len (held_in ss) ≡ count is_held ss
  unfolding held_in
  len_held ss = len_from 0 ss

  -- the last ids of the retired cells, where the first cell has this index
  abbrev last_ids : ℕ → ℕ → List (Slot T) → List Id
  last_ids last i [] = []
  last_ids last i (s ∷ ss) = cond (is_retired s) (id_of i last ∷ last_ids last (suc i) ss) (last_ids last (suc i) ss)

  abbrev retired_at : Option (Slot T) → Bool
  retired_at None = false
  retired_at (Some s) = is_retired s

  last_later : (last i : ℕ) (ss : List (Slot T)) (q : Id) → q.index < i → list_any (eq_by_cmp id_cmp q) (last_ids last i ss) ≡ false
  last_later last i [] q lt = refl
  last_later last i (s ∷ ss) q lt =
      any_cond (is_retired s) (id_of i last) (eq_by_cmp id_cmp q) (last_ids last (suc i) ss)
      ∙ (λ k. (is_retired s && apart q (id_of i last) (λ e. omega (arith, e, lt)) k) || last_later last (suc i) ss q (omega arith) k) ∙ or_false _ ∙ and_false (is_retired s)

  last_from : (last i k : ℕ) (ss : List (Slot T)) (q : Id) → i + k ≡ q.index → list_any (eq_by_cmp id_cmp q) (last_ids last i ss) ≡ (retired_at (slice_get ss k) && nat_eq last q.generation)
  last_from last i k [] q e = refl
  last_from last i zero (s ∷ ss) q e =
      any_cond (is_retired s) (id_of i last) (eq_by_cmp id_cmp q) (last_ids last (suc i) ss)
      ∙ (λ k. (is_retired s && together q (id_of i last) (omega (arith, e)) k) || last_later last (suc i) ss q (omega (arith, e)) k) ∙ or_false _
  last_from last i (suc k) (s ∷ ss) q e =
      any_cond (is_retired s) (id_of i last) (eq_by_cmp id_cmp q) (last_ids last (suc i) ss)
      ∙ (λ j. (is_retired s && apart q (id_of i last) (λ f. omega (arith, e, f)) j) || last_from last (suc i) k ss q (omega (arith, e)) j)
      ∙ ap (λ b. b || (retired_at (slice_get ss k) && nat_eq last q.generation)) (and_false (is_retired s))

  len_last : (last i : ℕ) (ss : List (Slot T)) → set.len (set.from_list {R = id_cmp} (last_ids last i ss)) ≡ count is_retired ss
  len_last last i [] = set.len-empty id_cmp
  len_last last i (s ∷ ss) =
      len_cond (is_retired s) (id_of i last) (last_ids last (suc i) ss) (last_later last (suc i) ss (id_of i last) (omega arith)) ∙ ap (λ n. cond (is_retired s) 1 0 + n) (len_last last (suc i) ss)

  spent_last : (last g : ℕ) (s : State T) → KeepsLast last g s → nat_lt last (spent_at g s) ≡ state_retired s
  spent_last last g (Free next) keeps = le-ltb last g keeps
  spent_last last g (Held v) keeps = le-ltb last g keeps
  spent_last last g Retired keeps = lt-ltb last (suc g) (omega (arith, keeps))

  at_last : (last : ℕ) (o : Option (Slot T)) → ((s : Slot T) → o ≡ Some s → KeepsLast last s.generation s.state) → nat_lt last (count_at o) ≡ retired_at o
  at_last last None keeps = le-ltb last 0 (omega arith)
  at_last last (Some s) keeps = spent_last last s.generation s.state (keeps s refl)

  -- at the last generation the spent ids are those of the retired cells
  spent_or_retired : (last g : ℕ) (o : Option (Slot T)) → nat_lt last (count_at o) ≡ retired_at o → (nat_lt g (count_at o) && nat_eq g last) ≡ (retired_at o && nat_eq last g)
  spent_or_retired last g o e = elim (cases_eq g last) [
    | inl same ↦ (λ i. nat_lt (same i) (count_at o) && eq-eqb g last same i) ∙ (λ i. e i && true) ∙ (λ i. retired_at o && sym (eq-eqb last g (sym same)) i)
    | inr other ↦ (λ i. nat_lt g (count_at o) && ne_eqb g last other i) ∙ and_false _ ∙ sym (and_false (retired_at o)) ∙ (λ i. retired_at o && sym (ne_eqb last g (λ s. other (sym s))) i)
  ]

  -- the number of retired cells
  pub len_retired : (last : ℕ) (ss : List (Slot T)) → ((i : ℕ) (s : Slot T) → slice_get ss i ≡ Some s → KeepsLast last s.generation s.state)
      → set.len (set.retain (spent_in ss) (λ id. nat_eq id.generation last)) ≡ count is_retired ss
  len_retired last ss keeps =
      let one : Id → Bool = λ id. nat_eq id.generation last in
      let same : set.retain (spent_in ss) one ≡ set.from_list (last_ids last 0 ss) = set.same_set ids_total ids_exact (set.retain (spent_in ss) one) (set.from_list (last_ids last 0 ss)) (λ q.
      set.contains-retain (spent_in ss) one q (λ x t. ap one (sym (ids_exact q x t))) ∙ ap (λ b. b && one q) (contains_spent ss q)
      ∙ spent_or_retired last q.generation (slice_get ss q.index) (at_last last (slice_get ss q.index) (keeps q.index))
      ∙ sym (set.contains-from_list ids_total (last_ids last 0 ss) q ∙ last_from last 0 q.index ss q (omega arith))) in
      ap set.len same ∙ len_last last 0 ss

  -- how many generations are spent of all cells together
  abbrev all_spent : List (Slot T) → ℕ
  all_spent [] = 0
  all_spent (s ∷ ss) = spent_at s.generation s.state + all_spent ss

  len_spent : (i : ℕ) (ss : List (Slot T)) → set.len (set.from_list {R = id_cmp} (spent_from i ss)) ≡ all_spent ss
  len_spent i [] = set.len-empty id_cmp
  len_spent i (s ∷ ss) =
      len_before i (spent_at s.generation s.state) (spent_from (suc i) ss) (λ g. any_later (suc i) ss (id_of i g) (omega arith)) ∙ ap (λ n. spent_at s.generation s.state + n) (len_spent (suc i) ss)

  -- one cell more, which is retired only after its last generation
  spent_more : (last g : ℕ) (s : State T) (n spent : ℕ) → KeepsLast last g s → n * (last + 1) ≤ spent → (cond (state_retired s) 1 0 + n) * (last + 1) ≤ spent_at g s + spent
  spent_more last g (Free next) n spent keeps few = omega (arith, few)
  spent_more last g (Held v) n spent keeps few = omega (arith, few)
  spent_more last g Retired n spent keeps few = omega (arith, few, keeps)

  spent_of_retired : (last : ℕ) (ss : List (Slot T)) → ((i : ℕ) (s : Slot T) → slice_get ss i ≡ Some s → KeepsLast last s.generation s.state) → count is_retired ss * (last + 1) ≤ all_spent ss
  spent_of_retired last [] keeps = omega arith
  spent_of_retired last (s ∷ ss) keeps = spent_more last s.generation s.state (count is_retired ss) (all_spent ss) (keeps 0 s refl) (spent_of_retired last ss (λ i t e. keeps (suc i) t e))

  -- each retired cell has spent an id in each of its generations
  pub len_worn : (last : ℕ) (ss : List (Slot T)) → ((i : ℕ) (s : Slot T) → slice_get ss i ≡ Some s → KeepsLast last s.generation s.state) → count is_retired ss * (last + 1) ≤ set.len (spent_in ss)
  unfolding spent_in
  len_worn last ss keeps = omega (arith, spent_of_retired last ss keeps, len_spent 0 ss)

  pub held_empty : held_in {T = T} [] ≡ map.empty
  unfolding held_in
  held_empty = refl

pub spent_empty : (T : Type 0) → spent_in {T = T} [] ≡ set.empty
unfolding spent_in
spent_empty T = refl
