-- Each knowledge has a delta: it is made of what the knowledge says of each dot and of each total.
use Rattle.std.proofs.Common.{◌≡◌, ℕ, ◌==◌, ◌&&◌, ◌||◌, max, Bool, true, false, true≢false, not, cond, if◌then◌else◌, List, [], ◌∷◌, Option, Some, None, is_some, refl, sym, ap, ◌∙◌, arith}
use Rattle.std.specs.Option.{option_map, unwrap_or}
use Rattle.std.specs.List.{cons_option, filter_map, list_any}
use Rattle.std.specs.Cmp.{IsTotalOrder}
use Rattle.std.specs.Ordering.{eq_by_cmp, is_eq}
use Rattle.std.specs.declared.cmp.Ordering.{Ordering}
use Rattle.std.specs.FinMap as map
use Rattle.std.specs.FinMap.Entries.{find}
use Rattle.std.specs.FinSet as set
use Rattle.std.proofs.lemmas.Bool.Decides.{nat_tests}
use Rattle.std.proofs.lemmas.Cmp.{tied_itself}
use Rattle.general_lemmas.proofs.TruthTables.{equal_of}
use Rattle.dots.specs.CountedCalls.{is_zero, no_calls, same_calls}
use Rattle.dots.specs.declared.call_totals.CallTotals.{CallTotals}
use Rattle.dots.specs.declared.calls.Calls.{Calls}
use Rattle.dots.specs.declared.calls.Calls.TheVariants.{Completed, Abandoned}
use Rattle.dots.specs.declared.member.Member.{Member}
use Rattle.dots.specs.Orders.{dot_cmp}
use Rattle.dots.specs.Values.{Dot}
use Rattle.dots.proofs.DotOrder.{dots_exact, dots_total}
use Rattle.operations.specs.Conditions.{Dead, DotFields, Live, condition_in, fields_in}
use Rattle.operations.specs.Counts.{count_in, site_total}
use Rattle.operations.specs.Knowledge.{Knowledge, is_named, known_dots, member_of, visible_dots}
use Rattle.operations.specs.Operations.{Operation, Add, Write, Remove, Count}
use Rattle.operations.specs.Totals.{Entries, Key}
use Rattle.operations.proofs.JoinedKnowledge.{member_some}
use Rattle.operations.proofs.KnownLaws.{known_dot}
use Rattle.operations.proofs.TotalsLaws.{by_numbers, exact_keys, is_key, keys_total}
use Rattle.operations.proofs.VisibleLaws.{visible_dot}
use Rattle.member_orset.specs.Members.{Holding, condition_at}
use Rattle.delta.specs.DeltaStates.{DeltaState}
use Rattle.delta.specs.Standing.{IsDeltaOf}

-- ---- the map of what a function gives of keys

module _ {K V : Type 0} {R : K → K → Ordering} (total : IsTotalOrder R) (exact : map.IsAntisymmetric R) (f : K → Option V) where
  -- an entry for a key of which it gives something
  abbrev entry_for : K → Option (K × V)
  entry_for k = option_map (λ v. (k, v)) (f k)

  nothing_either : (b : Bool) → ◌≡◌ {A = Option V} (cond b None None) None
  nothing_either true = refl
  nothing_either false = refl

  find_given : (q : K) (ks : List K) → find R q (filter_map entry_for ks) ≡ cond (list_any (eq_by_cmp R q) ks) (f q) None
  find_given q [] = refl
  find_given q (k ∷ ks) = by (f k) refl (eq_by_cmp R q k) refl (find_given q ks)
    where
      others : Option V
      others = cond (list_any (eq_by_cmp R q) ks) (f q) None

      one : eq_by_cmp R q k ≡ true → f q ≡ f k
      one t = ap f (exact q k (equal_of (R q k) t))

      by : (o : Option V) → f k ≡ o → (b : Bool) → eq_by_cmp R q k ≡ b → find R q (filter_map entry_for ks) ≡ cond (list_any (eq_by_cmp R q) ks) (f q) None
          → find R q (cons_option (option_map (λ v. (k, v)) o) (filter_map entry_for ks)) ≡ cond (b || list_any (eq_by_cmp R q) ks) (f q) None
      by None e true t rest =
          let none = one t ∙ e in
          rest ∙ ap (λ o. cond (list_any (eq_by_cmp R q) ks) o None) none ∙ nothing_either (list_any (eq_by_cmp R q) ks) ∙ sym none
      by None e false t rest = rest
      by (Some v) e true t rest = ap (λ b. cond b (Some v) (find R q (filter_map entry_for ks))) t ∙ sym (one t ∙ e)
      by (Some v) e false t rest = ap (λ b. cond b (Some v) (find R q (filter_map entry_for ks))) t ∙ rest

  -- the map
  abbrev map_of : List K → map.FinMap R V
  map_of ks = map.from_entries (filter_map entry_for ks)

  get_given : (ks : List K) (q : K) → map.get (map_of ks) q ≡ cond (list_any (eq_by_cmp R q) ks) (f q) None
  get_given ks q = map.get-from_entries total (filter_map entry_for ks) q ∙ find_given q ks

-- ---- members

-- the member and the fields of a dot, where it has a member
holding_in : Knowledge → Dot → Option Holding
holding_in k dot = option_map (λ m. (m, fields_in k dot)) (member_of k dot)

-- the visible dots, each with its member and fields
live_of : Knowledge → map.FinMap dot_cmp Holding
live_of k = map_of dots_total dots_exact (holding_in k) (set.items (visible_dots k))

get_live : (k : Knowledge) (q : Dot) → map.get (live_of k) q ≡ cond (set.contains (visible_dots k) q) (holding_in k q) None
unfolding live_of
get_live k q =
    get_given dots_total dots_exact (holding_in k) (set.items (visible_dots k)) q
    ∙ ap (λ b. cond b (holding_in k q) None) (sym (set.contains-items (visible_dots k) q))

conditions_by : (n : Bool) (o : Option Member) (f : DotFields)
    → condition_at (cond (is_some o && not n) (option_map (λ m. (m, f)) o) None) (is_some o || n) ≡ (if n then Some Dead else option_map (λ m. Live m f) o)
conditions_by true None f = refl
conditions_by true (Some m) f = refl
conditions_by false None f = refl
conditions_by false (Some m) f = refl

conditions_are : (k : Knowledge) (q : Dot) → condition_at (map.get (live_of k) q) (set.contains (known_dots k) q) ≡ condition_in k q
unfolding holding_in
conditions_are k q =
    (λ i. condition_at ((get_live k q ∙ ap (λ b. cond b (holding_in k q) None) visible) i) (known i))
    ∙ conditions_by (is_named k q) (member_of k q) (fields_in k q)
  where
    visible : set.contains (visible_dots k) q ≡ (is_some (member_of k q) && not (is_named k q))
    visible = visible_dot k q ∙ ap (λ b. b && not (is_named k q)) (sym (member_some k q))

    known : set.contains (known_dots k) q ≡ (is_some (member_of k q) || is_named k q)
    known = known_dot k q ∙ ap (λ b. b || is_named k q) (sym (member_some k q))

-- ---- totals

-- the totals of a key, completed and abandoned
abbrev totals_in : Knowledge → Key → CallTotals
totals_in k key = record { completed = site_total k key.site key.queue Completed; abandoned = site_total k key.site key.queue Abandoned }

-- the totals of a key, unless they are two zeros
counted_in : Knowledge → Key → Option CallTotals
counted_in k key = if is_zero (totals_in k key) then None else Some (totals_in k key)

-- the key of which an operation counts calls
abbrev key_of : Operation → Option Key
key_of (Add dot member stamp penalty pause label older) = None
key_of (Write dots setting stamp older) = None
key_of (Remove dots) = None
key_of (Count site queue calls total) = Some (record { site = site; queue = queue })

-- the totals of the keys of which calls are counted
counts_of : Knowledge → Entries
counts_of k = map_of keys_total exact_keys (counted_in k) (filter_map key_of k)

get_counts : (k : Knowledge) (q : Key) → map.get (counts_of k) q ≡ cond (list_any (is_key q) (filter_map key_of k)) (counted_in k q) None
unfolding counts_of
get_counts k q = get_given keys_total exact_keys (counted_in k) (filter_map key_of k) q

-- a count says nothing of another key
other_key : (q : Key) (site queue : ℕ) (calls c : Calls) (total : ℕ) → is_key q (record { site = site; queue = queue }) ≡ false → count_in q.site q.queue calls (Count site queue c total) ≡ 0
other_key q site queue calls c total other = by (site == q.site) (queue == q.queue) refl refl
  where
    number : (m n : ℕ) → (m == n) ≡ true → n ≡ m
    number m n h = grind (arith, nat_tests)

    by : (a b : Bool) → (site == q.site) ≡ a → (queue == q.queue) ≡ b → (if a && (b && same_calls c calls) then total else 0) ≡ 0
    by false b e f = refl
    by true false e f = refl
    by true true e f =
        let same : q ≡ record { site = site; queue = queue } = λ i. record { site = number site q.site e i; queue = number queue q.queue f i } in
        absurd (true≢false (sym (ap is_eq (tied_itself keys_total q)) ∙ ap (is_key q) same ∙ other))

-- where no operation counts calls of a key, it has none
not_counted : (k : Knowledge) (q : Key) (calls : Calls) → list_any (is_key q) (filter_map key_of k) ≡ false → site_total k q.site q.queue calls ≡ 0
not_counted [] q calls h = refl
not_counted (Add dot member stamp penalty pause label older ∷ k) q calls h = let rest = not_counted k q calls h in omega (arith, rest)
not_counted (Write dots setting stamp older ∷ k) q calls h = let rest = not_counted k q calls h in omega (arith, rest)
not_counted (Remove dots ∷ k) q calls h = let rest = not_counted k q calls h in omega (arith, rest)
not_counted (Count site queue c total ∷ k) q calls h =
    by (is_key q (record { site = site; queue = queue })) refl h (not_counted k q calls)
  where
    by : (b : Bool) → is_key q (record { site = site; queue = queue }) ≡ b → (b || list_any (is_key q) (filter_map key_of k)) ≡ false
        → (list_any (is_key q) (filter_map key_of k) ≡ false → site_total k q.site q.queue calls ≡ 0)
        → max (count_in q.site q.queue calls (Count site queue c total)) (site_total k q.site q.queue calls) ≡ 0
    by true e h rest = absurd (true≢false h)
    by false e h rest =
        let first = other_key q site queue calls c total e in
        let others = rest h in
        omega (arith, first, others)

zeros : (t : CallTotals) → is_zero t ≡ true → no_calls ≡ t
zeros t h = by_numbers no_calls t (grind (arith, nat_tests)) (grind (arith, nat_tests))

totals_are : (k : Knowledge) (q : Key) → unwrap_or (map.get (counts_of k) q) no_calls ≡ totals_in k q
unfolding counted_in
totals_are k q = ap (λ o. unwrap_or o no_calls) (get_counts k q) ∙ by (list_any (is_key q) (filter_map key_of k)) (is_zero (totals_in k q)) refl refl
  where
    by : (a b : Bool) → list_any (is_key q) (filter_map key_of k) ≡ a → is_zero (totals_in k q) ≡ b
        → unwrap_or (cond a (if b then None else Some (totals_in k q)) None) no_calls ≡ totals_in k q
    by true true e z = zeros (totals_in k q) z
    by true false e z = refl
    by false b e z = by_numbers no_calls (totals_in k q) (sym (not_counted k q Completed e)) (sym (not_counted k q Abandoned e))

none_zero : (k : Knowledge) (q : Key) (t : CallTotals) → map.get (counts_of k) q ≡ Some t → is_zero t ≡ false
unfolding counted_in
none_zero k q t h = by (list_any (is_key q) (filter_map key_of k)) (is_zero (totals_in k q)) refl (sym (get_counts k q) ∙ h)
  where
    by : (a b : Bool) → is_zero (totals_in k q) ≡ b → cond a (if b then None else Some (totals_in k q)) None ≡ Some t → is_zero t ≡ false
    by true true z e = absurd (cc)
    by true false z e = let same : totals_in k q ≡ t = cc in sym (ap is_zero same) ∙ z
    by false b z e = absurd (cc)

-- ---- both

-- the delta of a knowledge, with no rooms and no ids
delta_of : Knowledge → DeltaState
delta_of k = record {
  members = record { known = known_dots k; live = live_of k; ids = map.empty; spent = set.empty; retired = 0; cell_room = 0; run_room = 0 };
  totals = record { entries = counts_of k; room = 0 };
}

pub each_has : (k : Knowledge) → (x : DeltaState) × IsDeltaOf x k
unfolding delta_of
each_has k = (
  delta_of k,
  record {
    conditions = conditions_are k;
    dots = refl;
    totals = λ site queue. totals_are k (record { site = site; queue = queue });
    no_zeros = none_zero k;
  },
)
