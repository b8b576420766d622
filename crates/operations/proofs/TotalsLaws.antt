-- The laws of the join of totals.
use Rattle.std.proofs.Common.{◌≡◌, ℕ, ◌+◌, ◌<◌, ◌≤◌, add-one, zero-add, Bool, true, false, cond, ◌||◌, List, [], ◌∷◌, ◌++◌, map as each, Option, Some, None, is_some, is_none, refl, sym, ap, ◌∙◌, subst, arith}
use Rattle.std.specs.Option.{unwrap_or}
use Rattle.std.specs.List.{list_any, count_by}
use Rattle.std.specs.declared.cmp.Ordering.TheVariants.{Equal}
use Rattle.std.specs.Ordering.{nat_cmp, eq_by_cmp}
use Rattle.std.specs.Cmp.{IsTotalOrder}
use Rattle.std.specs.FinMap as map
use Rattle.std.proofs.lemmas.Cmp.{nat_cmp_total, on_total, then_total}
use Rattle.std.proofs.lemmas.Option.{none-some}
use Rattle.std.proofs.lemmas.Bool.Decides.{nat_tests}
use Rattle.std.proofs.lemmas.Map.Lookups.{exact_unsigned, exact_pairs}
use Rattle.dots.specs.declared.limits.TheConstants.{MOST_CALLS}
use Rattle.std.proofs.lemmas.List.{nil_from_length}
use Rattle.dots.specs.declared.call_totals.CallTotals.{CallTotals}
use Rattle.dots.specs.CountedCalls.{no_calls, is_zero}
use Rattle.operations.specs.Totals.{Key, key_cmp, Entries, greater, totals_at, totals_of, join_of, single, count_missing, sum_below, IsTotal, InLimits}
use Rattle.general_lemmas.proofs.TruthTables.{equal_of}

-- keys are in a total order
pub keys_total : IsTotalOrder key_cmp
keys_total = then_total (on_total (λ k. k.site) nat_cmp_total) (on_total (λ k. k.queue) nat_cmp_total)

-- keys that compare alike are one
pub exact_keys : (a b : Key) → key_cmp a b ≡ Equal → a ≡ b
exact_keys a b h = ap (λ (p : ℕ × ℕ). record { site = p.0; queue = p.1 }) (exact_pairs nat_cmp nat_cmp exact_unsigned exact_unsigned (a.site, a.queue) (b.site, b.queue) h)

-- whether two keys are one
abbrev pub is_key : Key → Key → Bool
is_key = eq_by_cmp key_cmp

pub one_key : (a b : Key) → is_key a b ≡ true → a ≡ b
one_key a b h = exact_keys a b (equal_of _ h)

-- what is found at q where each key has f of it
find_each : (f : Key → CallTotals) (q : Key) (ks : List Key) → map.find key_cmp q (each (λ k. (k, f k)) ks) ≡ cond (list_any (is_key q) ks) (Some (f q)) None
find_each f q [] = refl
find_each f q (k ∷ ks) = elim (is_key q k) as (λ b. is_key q k ≡ b → cond b (Some (f k)) (map.find key_cmp q (each (λ k. (k, f k)) ks)) ≡ cond (b || list_any (is_key q) ks) (Some (f q)) None) [
  | true ↦ λ e. ap (λ k. Some (f k)) (sym (one_key q k e))
  | false ↦ λ e. find_each f q ks
] refl

any_append : (p : Key → Bool) (xs ys : List Key) → list_any p (xs ++ ys) ≡ (list_any p xs || list_any p ys)
any_append p [] ys = refl
any_append p (x ∷ xs) ys = elim (p x) as (λ b. (b || list_any p (xs ++ ys)) ≡ ((b || list_any p xs) || list_any p ys)) [
  | true ↦ refl
  | false ↦ any_append p xs ys
]

-- what the join has at a key
pub get_joined : (x y : Entries) (q : Key) → map.get (join_of x y) q ≡ cond (map.contains_key x q || map.contains_key y q) (Some (greater (totals_at x q) (totals_at y q))) None
get_joined x y q =
    map.get-from_entries keys_total _ q
    ∙ find_each (λ k. greater (totals_at x k) (totals_at y k)) q (map.keys x ++ map.keys y)
    ∙ ap (λ b. cond b (Some (greater (totals_at x q) (totals_at y q))) None)
    (any_append (is_key q) (map.keys x) (map.keys y) ∙ (λ i. sym (map.contains_key-keys x q) i || sym (map.contains_key-keys y q) i))

-- the greater of the totals of two look-ups, where there are any
abbrev pub either : Option CallTotals → Option CallTotals → Option CallTotals
either a b = cond (is_some a || is_some b) (Some (greater (unwrap_or a no_calls) (unwrap_or b no_calls))) None

-- call totals of the same numbers are one
pub by_numbers : (p q : CallTotals) → p.completed ≡ q.completed → p.abandoned ≡ q.abandoned → p ≡ q
by_numbers p q a b = λ i. record { completed = a i; abandoned = b i }

greater_comm : (p q : CallTotals) → greater p q ≡ greater q p
greater_comm p q = by_numbers _ _ (omega arith) (omega arith)

greater_assoc : (p q r : CallTotals) → greater (greater p q) r ≡ greater p (greater q r)
greater_assoc p q r = by_numbers _ _ (omega arith) (omega arith)

pub greater_self : (p : CallTotals) → greater p p ≡ p
greater_self p = by_numbers _ _ (omega arith) (omega arith)

pub greater_zero : (p : CallTotals) → greater p no_calls ≡ p
greater_zero p = by_numbers _ _ (omega arith) (omega arith)

pub zero_greater : (p : CallTotals) → greater no_calls p ≡ p
zero_greater p = by_numbers _ _ (omega arith) (omega arith)

either_comm : (a b : Option CallTotals) → either a b ≡ either b a
either_comm None None = refl
either_comm None (Some q) = ap Some (greater_comm no_calls q)
either_comm (Some p) None = ap Some (greater_comm p no_calls)
either_comm (Some p) (Some q) = ap Some (greater_comm p q)

either_assoc : (a b c : Option CallTotals) → either (either a b) c ≡ either a (either b c)
either_assoc None None None = refl
either_assoc None None (Some r) = ap Some (greater_assoc no_calls no_calls r)
either_assoc None (Some q) None = ap Some (greater_assoc no_calls q no_calls)
either_assoc None (Some q) (Some r) = ap Some (greater_assoc no_calls q r)
either_assoc (Some p) None None = ap Some (greater_assoc p no_calls no_calls)
either_assoc (Some p) None (Some r) = ap Some (greater_assoc p no_calls r)
either_assoc (Some p) (Some q) None = ap Some (greater_assoc p q no_calls)
either_assoc (Some p) (Some q) (Some r) = ap Some (greater_assoc p q r)

either_self : (a : Option CallTotals) → either a a ≡ a
either_self None = refl
either_self (Some p) = ap Some (greater_self p)

totals_of_either : (a b : Option CallTotals) → unwrap_or (either a b) no_calls ≡ greater (unwrap_or a no_calls) (unwrap_or b no_calls)
totals_of_either None None = refl
totals_of_either None (Some q) = refl
totals_of_either (Some p) b = refl

-- totals that answer alike at each key are one
pub same_totals : (x y : Entries) → ((q : Key) → map.get x q ≡ map.get y q) → x ≡ y
same_totals = map.same_map keys_total exact_keys

-- the join has the greater of both totals
pub totals_at_joined : (x y : Entries) (q : Key) → totals_at (join_of x y) q ≡ greater (totals_at x q) (totals_at y q)
totals_at_joined x y q = ap (λ o. unwrap_or o no_calls) (get_joined x y q) ∙ totals_of_either (map.get x q) (map.get y q)

pub joined_comm : (x y : Entries) → join_of x y ≡ join_of y x
joined_comm x y = same_totals _ _ (λ q. get_joined x y q ∙ either_comm (map.get x q) (map.get y q) ∙ sym (get_joined y x q))

pub joined_assoc : (x y z : Entries) → join_of (join_of x y) z ≡ join_of x (join_of y z)
joined_assoc x y z = same_totals _ _ (λ q.
    get_joined (join_of x y) z q
    ∙ ap (λ o. either o (map.get z q)) (get_joined x y q)
    ∙ either_assoc (map.get x q) (map.get y q) (map.get z q)
    ∙ sym (ap (either (map.get x q)) (get_joined y z q))
    ∙ sym (get_joined x (join_of y z) q))

pub joined_self : (x : Entries) → join_of x x ≡ x
joined_self x = same_totals _ _ (λ q. get_joined x x q ∙ either_self (map.get x q))

-- ---- one entry alone

-- what one entry has at a key
pub get_single : (key : Key) (totals : CallTotals) (q : Key) → map.get (single key totals) q ≡ cond (is_zero totals) None (cond (is_key q key) (Some totals) None)
get_single key totals q = elim (is_zero totals) as (λ b. (let chosen : Entries = cond b map.empty (map.insert map.empty key totals) in map.get chosen q) ≡ cond b None (cond (is_key q key) (Some totals) None)) [
  | true ↦ map.get-empty key_cmp q
  | false ↦ map.get-insert keys_total map.empty key totals q ∙ ap (cond (is_key q key) (Some totals)) (map.get-empty key_cmp q)
]

pub either_none : (a : Option CallTotals) → either a None ≡ a
either_none None = refl
either_none (Some p) = ap Some (greater_zero p)

pub none_either : (a : Option CallTotals) → either None a ≡ a
none_either None = refl
none_either (Some p) = ap Some (zero_greater p)

-- nothing joined in changes nothing
pub joined_empty : (x : Entries) → join_of x map.empty ≡ x
joined_empty x = same_totals _ _ (λ q. get_joined x map.empty q ∙ ap (either (map.get x q)) (map.get-empty key_cmp q) ∙ either_none (map.get x q))

-- what one entry has at a key, where its numbers are not both zero
pub get_single_some : (key : Key) (totals : CallTotals) (q : Key) → is_zero totals ≡ false → map.get (single key totals) q ≡ cond (is_key q key) (Some totals) None
get_single_some key totals q h = get_single key totals q ∙ ap (λ b. cond b None (cond (is_key q key) (Some totals) None)) h

either_some : (a : Option CallTotals) (p : CallTotals) → either a (Some p) ≡ Some (greater (unwrap_or a no_calls) p)
either_some None p = refl
either_some (Some q) p = refl

-- to join one entry in is to insert the greater of both at its key
pub joined_single : (x : Entries) (key : Key) (totals : CallTotals) → is_zero totals ≡ false → join_of x (single key totals) ≡ map.insert x key (greater (totals_at x key) totals)
joined_single x key totals h = same_totals _ _ (λ q.
    get_joined x (single key totals) q
    ∙ ap (either (map.get x q)) (get_single_some key totals q h)
    ∙ elim (is_key q key) as (λ b. is_key q key ≡ b → either (map.get x q) (cond b (Some totals) None) ≡ cond b (Some (greater (totals_at x key) totals)) (map.get x q)) [
      | true ↦ λ e. either_some (map.get x q) totals ∙ ap (λ k. Some (greater (totals_at x k) totals)) (one_key q key e)
      | false ↦ λ e. either_none (map.get x q)
    ] refl
    ∙ sym (map.get-insert keys_total x key (greater (totals_at x key) totals) q))

-- two zeros joined in change nothing
pub joined_zero : (x : Entries) (key : Key) (totals : CallTotals) → is_zero totals ≡ true → join_of x (single key totals) ≡ x
joined_zero x key totals h = ap (λ b. let chosen : Entries = cond b map.empty (map.insert map.empty key totals) in join_of x chosen) h ∙ joined_empty x

-- ---- limits

greater_limits : (key : Key) (p q : CallTotals) → IsTotal key p → IsTotal key q → IsTotal key (greater p q)
greater_limits key p q h k = record { site = h.site; queue = h.queue; completed = omega (arith, h.completed, k.completed); abandoned = omega (arith, h.abandoned, k.abandoned); counted = omega (arith, h.counted) }

either_limits : (key : Key) (a b : Option CallTotals) → ((p : CallTotals) → a ≡ Some p → IsTotal key p) → ((p : CallTotals) → b ≡ Some p → IsTotal key p) → (p : CallTotals) → either a b ≡ Some p → IsTotal key p
either_limits key None None f g p e = f p e
either_limits key None (Some q) f g p e = g p (ap Some (sym (zero_greater q)) ∙ e)
either_limits key (Some r) None f g p e = f p (ap Some (sym (greater_zero r)) ∙ e)
either_limits key (Some r) (Some q) f g p e = subst (IsTotal key) (ap (λ o. unwrap_or o no_calls) e) (greater_limits key r q (f r refl) (g q refl))

-- one entry that may be kept is within the limits
pub single_limits : (key : Key) (totals : CallTotals) → (is_zero totals ≡ false → IsTotal key totals) → InLimits (single key totals)
single_limits key totals h q p e =
    elim (is_zero totals) as (λ z. is_zero totals ≡ z → IsTotal q p) [
      | true ↦ λ zero. absurd (none-some p (ap (λ z. cond z None (cond (is_key q key) (Some totals) None)) (sym zero) ∙ sym (get_single key totals q) ∙ e))
      | false ↦ λ counted. elim (is_key q key) as (λ b. is_key q key ≡ b → IsTotal q p) [
        | true ↦ λ same. subst (λ k. IsTotal k p) (sym (one_key q key same))
            (subst (IsTotal key) (ap (λ o. unwrap_or o totals) (ap (λ b. cond b (Some totals) None) (sym same) ∙ sym (get_single_some key totals q counted) ∙ e)) (h counted))
        | false ↦ λ other. absurd (none-some p (ap (λ b. cond b (Some totals) None) (sym other) ∙ sym (get_single_some key totals q counted) ∙ e))
      ] refl
    ] refl

-- totals that are counted are not two zeros
pub counted_not_zero : (key : Key) (totals : CallTotals) → IsTotal key totals → is_zero totals ≡ false
counted_not_zero key totals h = grind (arith, nat_tests, h.counted)

-- totals that are not two zeros are counted
pub counted_of : (totals : CallTotals) → is_zero totals ≡ false → 0 < totals.completed + totals.abandoned
counted_of totals h = grind (arith, nat_tests)

-- a join of totals within the limits is within them
pub joined_limits : (x y : Entries) → InLimits x → InLimits y → InLimits (join_of x y)
joined_limits x y f g key totals e = either_limits key (map.get x key) (map.get y key) (f key) (g key) totals (sym (get_joined x y key) ∙ e)

-- ---- missing keys

-- the empty map has no entries
pub entries_empty : map.entries (map.empty {X = CallTotals} {R = key_cmp}) ≡ []
entries_empty = nil_from_length _ (sym (map.len-entries map.empty) ∙ map.len-empty key_cmp CallTotals)

-- one entry's key is missing, or not
pub count_missing_single : (x : Entries) (key : Key) (totals : CallTotals) → is_zero totals ≡ false → count_missing x (single key totals) ≡ cond (is_none (map.get x key)) 1 0
count_missing_single x key totals h = ap (count_missing x) (single_is key totals h) ∙ ap (count_by (λ k. is_none (map.get x k))) (keys_one key totals) ∙ zero-add _
  where
    single_is : (key : Key) (totals : CallTotals) → is_zero totals ≡ false → single key totals ≡ map.insert map.empty key totals
    single_is key totals h = ap (λ b. let chosen : Entries = cond b map.empty (map.insert map.empty key totals) in chosen) h

    entries_one : (key : Key) (totals : CallTotals) → map.entries (map.insert (map.empty {X = CallTotals} {R = key_cmp}) key totals) ≡ (key, totals) ∷ []
    entries_one key totals = map.entries-insert keys_total map.empty key totals ∙ ap (map.put key_cmp key totals) entries_empty

    keys_one : (key : Key) (totals : CallTotals) → map.keys (map.insert (map.empty {X = CallTotals} {R = key_cmp}) key totals) ≡ key ∷ []
    keys_one key totals = ap (each (λ e. e.0)) (entries_one key totals)

-- ---- sums over the sites

pub sum_below_zero : (f : ℕ → ℕ) → sum_below 0 f ≡ 0
unfolding sum_below
sum_below_zero f = refl

pub sum_below_more : (f : ℕ → ℕ) (n : ℕ) → sum_below (n + 1) f ≡ sum_below n f + f n
unfolding sum_below
sum_below_more f n = rw add-one refl

-- ---- what totals read

-- none are not some
not_counted : (p : CallTotals) → p ≡ no_calls → 0 < p.completed + p.abandoned → ⊥
not_counted p e h = omega (arith, ap (λ (p : CallTotals). p.completed + p.abandoned) e)

-- no entry reads as two zeros
kept_entry : (key : Key) (a b : Option CallTotals) → ((p : CallTotals) → a ≡ Some p → IsTotal key p) → ((p : CallTotals) → b ≡ Some p → IsTotal key p) → unwrap_or a no_calls ≡ unwrap_or b no_calls → a ≡ b
kept_entry key None None f g e = refl
kept_entry key None (Some q) f g e = absurd (not_counted q (sym e) (g q refl).counted)
kept_entry key (Some p) None f g e = absurd (not_counted p e (f p refl).counted)
kept_entry key (Some p) (Some q) f g e = ap Some e

-- totals within the limits that read alike are one
pub read_alike : (x y : Entries) → InLimits x → InLimits y → ((site queue : ℕ) → totals_of x site queue ≡ totals_of y site queue) → x ≡ y
read_alike x y f g h = same_totals x y (λ q. kept_entry q (map.get x q) (map.get y q) (f q) (g q) (h q.site q.queue))

-- each number of totals within the limits is within them
totals_limit : (key : Key) (a : Option CallTotals) → ((p : CallTotals) → a ≡ Some p → IsTotal key p) → ((unwrap_or a no_calls).completed ≤ MOST_CALLS) × ((unwrap_or a no_calls).abandoned ≤ MOST_CALLS)
totals_limit key None f = (omega arith, omega arith)
totals_limit key (Some p) f = ((f p refl).completed, (f p refl).abandoned)

pub totals_at_limit : (x : Entries) → InLimits x → (key : Key) → ((totals_at x key).completed ≤ MOST_CALLS) × ((totals_at x key).abandoned ≤ MOST_CALLS)
totals_at_limit x h key = totals_limit key (map.get x key) (h key)

-- nothing is within the limits
pub empty_limits : InLimits map.empty
empty_limits key totals e = absurd (none-some totals (sym (map.get-empty key_cmp key) ∙ e))
