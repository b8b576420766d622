-- What stands for one operation alone.
use Rattle.std.proofs.Common.{◌≡◌, ℕ, ◌≤◌, max, Bool, true, false, ◌&&◌, ◌||◌, cond, List, [], ◌∷◌, map as each, Contains, Option, Some, None, is_some, if◌then◌else◌, append-nil, refl, sym, ap, ◌∙◌, arith, true≢false}
use Rattle.std.specs.Prelude.{nat_eq}
use Rattle.std.specs.List.{cons_option, find, list_any}
use Rattle.std.specs.Option.{option_map, unwrap_or}
use Rattle.std.specs.Cmp.{tied_then, unsigned_tied, nat_eq_equiv}
use Rattle.std.specs.Ordering.{is_eq, nat_cmp}
use Rattle.std.specs.FinMap as map
use Rattle.std.specs.FinSet as set
use Rattle.std.proofs.lemmas.Bool.Decides.{nat_tests}
use Rattle.std.proofs.lemmas.Option.{none-some}
use Rattle.std.proofs.Math.Bool.{or-false}
use Rattle.dots.specs.declared.call_totals.CallTotals.{CallTotals}
use Rattle.dots.specs.declared.calls.Calls.{Calls}
use Rattle.dots.specs.declared.calls.Calls.TheVariants.{Completed, Abandoned}
use Rattle.dots.specs.declared.label.Label.{Label}
use Rattle.dots.specs.declared.member.Member.{Member}
use Rattle.dots.specs.Values.{Dot, Stamp, PauseState}
use Rattle.dots.specs.Orders.{dot_cmp}
use Rattle.operations.specs.Registers.{Entry}
use Rattle.operations.specs.Conditions.{DotFields, Live, condition_in, fields_in, no_fields}
use Rattle.dots.specs.CountedCalls.{same_calls}
use Rattle.operations.specs.Counts.{count_in, site_total}
use Rattle.operations.specs.Knowledge.{asserts, field_of, is_dot, known_dots, latest_of, member_of, names}
use Rattle.operations.specs.Operations.{Operation, Setting, Field, Add, Write, Remove, Count, asserted_by, named_by, label_field, pause_field, penalty_field, ring_field}
use Rattle.dots.specs.CountedCalls.{is_zero, no_calls}
use Rattle.operations.specs.Totals.{Entries, Key, join_of, key_cmp, single, totals_of}
use Rattle.dots.proofs.DotOrder.{dots_exact, dots_total}
use Rattle.operations.proofs.JoinedKnowledge.{condition_by}
use Rattle.operations.proofs.KnownLaws.{known_dot}
use Rattle.general_lemmas.proofs.Membership.{any_map, in_any, nothing_in, only_in, some_find}
use Rattle.operations.proofs.TotalsLaws.{by_numbers, get_single_some, is_key, joined_empty, joined_comm}
use Rattle.dots.proofs.Unions.{union_comm, union_empty}
use Rattle.member_orset.specs.Members.{Holding, condition_at}
use Rattle.live_cells.proofs.DotTests.{one_dot}
use Rattle.site_totals.specs.Raising.{alone}
use Rattle.delta.specs.DeltaStates.{DeltaState}
use Rattle.delta.specs.Standing.{IsDeltaOf}
use Rattle.replica.specs.SetFields.{fields_added, fields_written}
use Rattle.replica.specs.Writing.{one_held}

-- dots with their members
abbrev Pairs : Type 0
Pairs = List (Dot × Member)

-- dots alone
abbrev Dots : Type 0
Dots = set.FinSet dot_cmp

-- ---- conditions

-- what one operation alone sets of a field
field_alone : {T : Type 0} (field : Field T) (o : Operation) (dot : Dot) → field_of field (o ∷ []) dot ≡ (if asserts dot o then field o else None)
field_alone {T} field o dot = by (if asserts dot o then field o else None)
  where
    by : (e : Option (Entry T)) → latest_of (cons_option e []) ≡ e
    by None = refl
    by (Some e) = refl

-- the field that one operation sets on a dot that it asserts
pub field_asserted : {T : Type 0} (field : Field T) (o : Operation) (dot : Dot) → asserts dot o ≡ true → field_of field (o ∷ []) dot ≡ field o
field_asserted field o dot h = field_alone field o dot ∙ ap (λ b. if b then field o else None) h

-- the dots that one operation alone knows
known_alone : (o : Operation) (q : Dot) → set.contains (known_dots (o ∷ [])) q ≡ (list_any (λ p. is_dot q p.0) (asserted_by o) || set.contains (named_by o) q)
known_alone o q = known_dot (o ∷ []) q ∙ (λ i. or-false (asserts q o) i || or-false (names q o) i)

-- the dots that it asserts, with those that it names
pub known_by : (o : Operation) (ps : Pairs) (older : Dots) → asserted_by o ≡ ps → named_by o ≡ older
    → known_dots (o ∷ []) ≡ set.union (set.from_list (each (λ p. p.0) ps)) older
known_by o ps older asserted named = set.same_set dots_total dots_exact _ _ (λ q.
    known_alone o q ∙ (λ i. list_any (λ p. is_dot q p.0) (asserted i) || set.contains (named i) q)
    ∙ (λ i. sym (set.contains-from_list dots_total (each (λ p. p.0) ps) q ∙ any_map (is_dot q) (λ p. p.0) ps) i || set.contains older q)
    ∙ sym (set.contains-union dots_total (set.from_list (each (λ p. p.0) ps)) older q))

-- what a set holds of dots that an operation asserts, each with these fields
abbrev pub held_by : Pairs → DotFields → Dot → Option Holding
held_by ps fields q = option_map (λ p. (p.1, fields)) (find (λ p. is_dot q p.0) ps)

-- the fields that an operation sets
abbrev fields_set : Operation → DotFields
fields_set o = record { penalty = penalty_field o; pause = pause_field o; label = label_field o; ring = ring_field o }

module _ (o : Operation) (ps : Pairs) (older : Dots) (fields : DotFields) (asserted : asserted_by o ≡ ps) (named : named_by o ≡ older) (sets : fields_set o ≡ fields)
    (alive : (p : Dot × Member) → Contains ps p → set.contains older p.0 ≡ false) where
  -- the dots that the operation asserts or names
  abbrev all : Dots
  all = set.union (set.from_list (each (λ p. p.0) ps)) older

  -- whether it asserts a dot
  abbrev asserts_it : Dot → Bool
  asserts_it q = list_any (λ p. is_dot q p.0) ps

  -- the fields of a dot that it asserts
  fields_alone : (q : Dot) → asserts_it q ≡ true → fields_in (o ∷ []) q ≡ fields
  fields_alone q h = (λ i. record {
    penalty = field_asserted penalty_field o q is i;
    pause = field_asserted pause_field o q is i;
    label = field_asserted label_field o q is i;
    ring = field_asserted ring_field o q is i;
  }) ∙ sets
    where
      is : asserts q o ≡ true
      is = ap (list_any (λ p. is_dot q p.0)) asserted ∙ h

  -- the dots that an operation asserts or names
  known_here : (q : Dot) → set.contains all q ≡ (asserts_it q || set.contains older q)
  known_here q = set.contains-union dots_total (set.from_list (each (λ p. p.0) ps)) older q
      ∙ ap (λ b. b || set.contains older q) (set.contains-from_list dots_total (each (λ p. p.0) ps) q ∙ any_map (is_dot q) (λ p. p.0) ps)

  -- the member of a dot that it asserts
  member_alone : (q : Dot) → member_of (o ∷ []) q ≡ option_map (λ p. p.1) (find (λ p. is_dot q p.0) ps)
  member_alone q = ap (λ xs. option_map (λ p. p.1) (find (λ p. is_dot q p.0) xs)) (append-nil (asserted_by o) ∙ asserted)

  -- the condition of a dot, case by case
  by : (q : Dot) (found : Option (Dot × Member)) (a n : Bool) (f : DotFields) → is_some found ≡ a → (a ≡ true → n ≡ false) → (a ≡ true → f ≡ fields)
      → condition_at (option_map (λ p. (p.1, fields)) found) (a || n) ≡ condition_by n (option_map (λ p. p.1) found) f
  by q None true n f e alive same = absurd (cc)
  by q None false true f e alive same = refl
  by q None false false f e alive same = refl
  by q (Some p) true true f e alive same = absurd (true≢false (alive refl))
  by q (Some p) true false f e alive same = ap (λ g. Some (Live p.1 g)) (sym (same refl))
  by q (Some p) false n f e alive same = absurd (cc)

  -- an operation names no dot that it asserts
  not_named : (q : Dot) → asserts_it q ≡ true → set.contains older q ≡ false
  not_named q h =
      let p = in_any (λ p. is_dot q p.0) ps h in
      ap (set.contains older) (one_dot q p.0.0 p.2) ∙ alive p.0 p.1

  -- the condition of each dot is that in the operation alone
  pub condition_alone : (q : Dot) → condition_at (held_by ps fields q) (set.contains all q) ≡ condition_in (o ∷ []) q
  condition_alone q =
      ap (condition_at (held_by ps fields q)) (known_here q)
      ∙ by q (find (λ p. is_dot q p.0) ps) (asserts_it q) (set.contains older q) (fields_in (o ∷ []) q) (some_find (λ p. is_dot q p.0) ps) (not_named q) (fields_alone q)
      ∙ (λ i. condition_by (sym (or-false (names q o) ∙ ap (λ s. set.contains s q) named) i) (sym (member_alone q) i) (fields_in (o ∷ []) q))

-- ---- totals

-- what an operation that counts nothing says of totals
uncounted : (o : Operation) → ((site queue : ℕ) (calls : Calls) → count_in site queue calls o ≡ 0) → (entries : Entries) → entries ≡ map.empty
    → (site queue : ℕ)
    → totals_of entries site queue ≡ record { completed = site_total (o ∷ []) site queue Completed; abandoned = site_total (o ∷ []) site queue Abandoned }
uncounted o none entries empty site queue =
    ap (λ e. totals_of e site queue) empty ∙ ap (λ t. unwrap_or t no_calls) (map.get-empty key_cmp (record { site = site; queue = queue }))
    ∙ by_numbers _ _ (omega (arith, none site queue Completed)) (omega (arith, none site queue Abandoned))

-- no totals have no entry of two zeros
no_entry : (entries : Entries) → entries ≡ map.empty → (key : Key) (totals : CallTotals) → map.get entries key ≡ Some totals → is_zero totals ≡ false
no_entry entries empty key totals h = absurd (none-some totals (sym (ap (λ e. map.get e key) empty ∙ map.get-empty key_cmp key) ∙ h))

-- ---- what stands for one operation

-- what knows and holds what an operation asserts and names stands for it
pub asserting : (o : Operation) (x : DeltaState) (ps : Pairs) (older : Dots) (fields : DotFields)
    → asserted_by o ≡ ps → named_by o ≡ older → fields_set o ≡ fields
    → ((site queue : ℕ) (calls : Calls) → count_in site queue calls o ≡ 0)
    → ((p : Dot × Member) → Contains ps p → set.contains older p.0 ≡ false)
    → x.members.known ≡ set.union (set.from_list (each (λ p. p.0) ps)) older
    → ((q : Dot) → map.get x.members.live q ≡ held_by ps fields q)
    → x.totals.entries ≡ map.empty
    → IsDeltaOf x (o ∷ [])
asserting o x ps older fields asserted named sets none alive known live empty = record {
  conditions = λ q. (λ i. condition_at (live q i) (set.contains (known i) q)) ∙ condition_alone o ps older fields asserted named sets alive q;
  dots = known ∙ sym (known_by o ps older asserted named);
  totals = uncounted o none x.totals.entries empty;
  no_zeros = no_entry x.totals.entries empty;
}

-- what is held where one dot is live
held_one : (dot : Dot) (member : Member) (fields : DotFields) (q : Dot)
    → map.get (map.insert (map.empty {R = dot_cmp}) dot (member, fields)) q ≡ held_by ((dot, member) ∷ []) fields q
held_one dot member fields q = map.get-insert dots_total map.empty dot (member, fields) q ∙ ap (cond (is_dot q dot) (Some held)) (map.get-empty dot_cmp q)
    ∙ at (is_dot q dot)
  where
    held : Holding
    held = (member, fields)

    at : (b : Bool) → cond b (Some held) None
        ≡ option_map (λ (p : Dot × Member). let h : Holding = (p.1, fields) in h) (let pair : Dot × Member = (dot, member) in cond b (Some pair) None)
    at true = refl
    at false = refl

-- one live dot that is new, with older ones that are dead, stands for an add
pub add_delta : (x : DeltaState) (dot : Dot) (member : Member) (stamp : Stamp) (penalty : ℕ) (pause : PauseState) (label : Label) (older : Dots)
    → set.contains older dot ≡ false
    → x.members.known ≡ set.union (set.from_list (dot ∷ [])) older
    → ((q : Dot) → map.get x.members.live q ≡ one_held dot (member, fields_added stamp penalty pause label) q)
    → x.totals.entries ≡ map.empty
    → IsDeltaOf x (Add dot member stamp penalty pause label older ∷ [])
add_delta x dot member stamp penalty pause label older new known live empty =
    asserting (Add dot member stamp penalty pause label older) x ((dot, member) ∷ []) older (fields_added stamp penalty pause label) refl refl refl (λ site queue calls. refl)
    (λ p h. ap (λ (d : Dot × Member). set.contains older d.0) (sym (only_in (dot, member) p h)) ∙ new) known
    (λ q. live q ∙ held_one dot member (fields_added stamp penalty pause label) q) empty

-- live dots of one field, with older ones that are dead, stand for a write
pub write_delta : (x : DeltaState) (ps : Pairs) (setting : Setting) (stamp : Stamp) (older : Dots)
    → ((p : Dot × Member) → Contains ps p → set.contains older p.0 ≡ false)
    → x.members.known ≡ set.union (set.from_list (each (λ p. p.0) ps)) older
    → ((q : Dot) → map.get x.members.live q ≡ held_by ps (fields_written stamp setting) q)
    → x.totals.entries ≡ map.empty
    → IsDeltaOf x (Write ps setting stamp older ∷ [])
write_delta x ps setting stamp older = asserting (Write ps setting stamp older) x ps older (fields_written stamp setting) refl refl refl (λ site queue calls. refl)

-- dead dots stand for a remove
pub remove_delta : (x : DeltaState) (dots : Dots) → x.members.known ≡ dots → ((q : Dot) → map.get x.members.live q ≡ None) → x.totals.entries ≡ map.empty
    → IsDeltaOf x (Remove dots ∷ [])
remove_delta x dots known none empty =
    asserting (Remove dots) x [] dots no_fields refl refl refl (λ site queue calls. refl)
    (λ p h. absurd (nothing_in p h)) (known ∙ sym (union_comm set.empty dots ∙ union_empty dots)) none empty

-- ---- a count

-- numbers tie where they are one
tie : (m n : ℕ) → is_eq (nat_cmp m n) ≡ nat_eq n m
tie m n = unsigned_tied m n ∙ nat_eq_equiv.symm m n

-- whether two keys are one is a test of their numbers
pub same_key : (s q site queue : ℕ) → is_key (record { site = s; queue = q }) (record { site = site; queue = queue }) ≡ (nat_eq site s && nat_eq queue q)
same_key s q site queue = sym (tied_then (nat_cmp s site) (nat_cmp q queue)) ∙ (λ i. tie s site i && tie q queue i)

-- the number that is counted is not zero
some_calls : (calls : Calls) (n : ℕ) → 1 ≤ n → is_zero (alone calls n) ≡ false
some_calls Completed n h = grind (arith, nat_tests)
some_calls Abandoned n h = grind (arith, nat_tests)

-- the totals of one count
abbrev counted : ℕ → ℕ → Calls → ℕ → Entries
counted site queue calls n = join_of map.empty (single (record { site = site; queue = queue }) (alone calls n))

-- what they have at a key
pub get_counted : (site queue : ℕ) (calls : Calls) (n : ℕ) → 1 ≤ n → (key : Key)
    → map.get (counted site queue calls n) key ≡ cond (is_key key (record { site = site; queue = queue })) (Some (alone calls n)) None
get_counted site queue calls n h key =
    let one = single (record { site = site; queue = queue }) (alone calls n) in
    ap (λ e. map.get e key) (joined_comm map.empty one ∙ joined_empty one)
    ∙ get_single_some (record { site = site; queue = queue }) (alone calls n) key (some_calls calls n h)

-- what the count says is what they have
said : (site queue : ℕ) (calls : Calls) (n s q : ℕ) → unwrap_or (cond (nat_eq site s && nat_eq queue q) (Some (alone calls n)) None) no_calls
    ≡ record { completed = site_total (Count site queue calls n ∷ []) s q Completed; abandoned = site_total (Count site queue calls n ∷ []) s q Abandoned }
said site queue calls n s q = at calls (nat_eq site s) (nat_eq queue q)
  where
    at : (calls : Calls) (a b : Bool) → unwrap_or (cond (a && b) (Some (alone calls n)) None) no_calls
        ≡ record { completed = max (if a && (b && same_calls calls Completed) then n else 0) 0; abandoned = max (if a && (b && same_calls calls Abandoned) then n else 0) 0 }
    at Completed true true = by_numbers _ _ (omega arith) (omega arith)
    at Completed true false = by_numbers _ _ (omega arith) (omega arith)
    at Completed false b = by_numbers _ _ (omega arith) (omega arith)
    at Abandoned true true = by_numbers _ _ (omega arith) (omega arith)
    at Abandoned true false = by_numbers _ _ (omega arith) (omega arith)
    at Abandoned false b = by_numbers _ _ (omega arith) (omega arith)

-- the totals of a count have no entry of two zeros
counted_not_zero : (site queue : ℕ) (calls : Calls) (n : ℕ) → 1 ≤ n → (key : Key) (totals : CallTotals) → map.get (counted site queue calls n) key ≡ Some totals
    → is_zero totals ≡ false
counted_not_zero site queue calls n h key totals e = at (is_key key (record { site = site; queue = queue })) (sym (get_counted site queue calls n h key) ∙ e)
  where
    at : (b : Bool) → cond b (Some (alone calls n)) None ≡ Some totals → is_zero totals ≡ false
    at true f = ap is_zero (same (alone calls n) f) ∙ some_calls calls n h
      where
        same : (t : CallTotals) → Some t ≡ Some totals → totals ≡ t
        same t f = cc
    at false f = absurd (cc)

-- one total alone stands for a count
pub count_delta : (x : DeltaState) (site queue : ℕ) (calls : Calls) (n : ℕ) → 1 ≤ n → x.members.known ≡ set.empty
    → ((q : Dot) → map.get x.members.live q ≡ None)
    → x.totals.entries ≡ join_of map.empty (single (record { site = site; queue = queue }) (alone calls n)) → IsDeltaOf x (Count site queue calls n ∷ [])
count_delta x site queue calls n some known none are =
    let o = Count site queue calls n in
    let nothing : x.members.known ≡ set.union (set.from_list []) set.empty = known ∙ sym (union_empty set.empty) in
    record {
      conditions = λ q. (λ i. condition_at (none q i) (set.contains (nothing i) q))
          ∙ condition_alone o [] set.empty no_fields refl refl refl (λ p h. absurd (nothing_in p h)) q;
      dots = nothing ∙ sym (known_by o [] set.empty refl refl);
      totals = λ s q.
          ap (λ e. totals_of e s q) are ∙ ap (λ t. unwrap_or t no_calls) (get_counted site queue calls n some (record { site = s; queue = q }))
          ∙ ap (λ b. unwrap_or (cond b (Some (alone calls n)) None) no_calls) (same_key s q site queue) ∙ said site queue calls n s q;
      no_zeros = λ key totals e. counted_not_zero site queue calls n some key totals (ap (λ m. map.get m key) (sym are) ∙ e);
    }
