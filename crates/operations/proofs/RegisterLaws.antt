-- The laws of the join of registers.
use Rattle.std.proofs.Common.{◌≡◌, ◌≢◌, ◌⊎◌, inl, inr, ℕ, Bool, true, false, Option, Some, None, IsSome, if◌then◌else◌, refl, sym, ap, ◌∙◌}
use Rattle.std.specs.Ordering.{is_lt, is_gt, ordering_reverse, nat_cmp}
use Rattle.std.specs.declared.cmp.Ordering.{Ordering}
use Rattle.std.specs.declared.cmp.Ordering.TheVariants.{Less, Equal, Greater}
use Rattle.std.specs.Cmp.{IsTotalOrder}
use Rattle.std.specs.Option.{unwrap_or}
use Rattle.std.proofs.lemmas.Cmp.{nat_cmp_total, on_total, then_total, tied_itself, upto}
use Rattle.std.proofs.lemmas.Map.Lookups.{exact_unsigned, exact_pairs}
use Rattle.dots.specs.Values.{Stamp}
use Rattle.dots.specs.Orders.{stamp_cmp}
use Rattle.operations.specs.Registers.{Entry, RegistersAgree, KeepsLatest, latest, join_of}
use Rattle.general_lemmas.proofs.TruthTables.{less_of}

-- stamps are in a total order
pub stamps_total : IsTotalOrder stamp_cmp
stamps_total = then_total (on_total (λ s. s.time) nat_cmp_total) (on_total (λ s. s.site) nat_cmp_total)

-- stamps that compare alike are one
pub exact_stamps : (a b : Stamp) → stamp_cmp a b ≡ Equal → a ≡ b
exact_stamps a b h = ap (λ (p : ℕ × ℕ). record { time = p.0; site = p.1 }) (exact_pairs nat_cmp nat_cmp exact_unsigned exact_unsigned (a.time, a.site) (b.time, b.site) h)

-- an entry that is not later than itself
latest_self : {T : Type 0} (a : Entry T) → latest a a ≡ a
latest_self a = ap (λ o. if is_lt o then a else a) (tied_itself stamps_total a.stamp)

pub joined_self : {T : Type 0} (x : Option (Entry T)) → join_of x x ≡ x
joined_self None = refl
joined_self (Some a) = ap Some (latest_self a)

-- entries are one where stamps and values are
same_entry : {T : Type 0} (a b : Entry T) → a.stamp ≡ b.stamp → a.value ≡ b.value → a ≡ b
same_entry a b s v = λ i. record { stamp = s i; value = v i }

chosen : {T : Type 0} (a b : Entry T) (o : Ordering) → (o ≡ Equal → a ≡ b)
    → (if is_lt o then b else a) ≡ (if is_lt (ordering_reverse o) then a else b)
chosen a b Less h = refl
chosen a b Equal h = h refl
chosen a b Greater h = refl

pub joined_comm : {T : Type 0} (x y : Option (Entry T)) → RegistersAgree x y → join_of x y ≡ join_of y x
joined_comm None None h = refl
joined_comm None (Some b) h = refl
joined_comm (Some a) None h = refl
joined_comm (Some a) (Some b) h =
    ap Some (chosen a b (stamp_cmp a.stamp b.stamp) (λ e. let s = exact_stamps _ _ e in same_entry a b s (h a b refl refl s))
    ∙ ap (λ o. if is_lt o then a else b) (sym (stamps_total.antisymm b.stamp a.stamp)))

turned : (o : Ordering) → is_gt (ordering_reverse o) ≡ is_lt o
turned Less = refl
turned Equal = refl
turned Greater = refl

-- whether a is before b
before : {T : Type 0} → Entry T → Entry T → Bool
before a b = is_lt (stamp_cmp a.stamp b.stamp)

before_trans : {T : Type 0} (a b c : Entry T) → before a b ≡ true → before b c ≡ true → before a c ≡ true
unfolding before
before_trans a b c p q = ap is_lt (stamps_total.trans a.stamp b.stamp c.stamp (less_of _ p) (less_of _ q))

not_after : {T : Type 0} (a b : Entry T) → before a b ≡ false → is_gt (stamp_cmp b.stamp a.stamp) ≡ false
unfolding before
not_after a b p = ap is_gt (stamps_total.antisymm b.stamp a.stamp) ∙ turned (stamp_cmp a.stamp b.stamp) ∙ p

not_before_trans : {T : Type 0} (a b c : Entry T) → before a b ≡ false → before b c ≡ false → before a c ≡ false
unfolding before
not_before_trans a b c p q =
    sym (ap is_gt (stamps_total.antisymm c.stamp a.stamp) ∙ turned (stamp_cmp a.stamp c.stamp))
    ∙ upto stamps_total c.stamp b.stamp a.stamp (not_after b c q) (not_after a b p)

latest_if : {T : Type 0} (a b : Entry T) (p : Bool) → before a b ≡ p → latest a b ≡ (if p then b else a)
unfolding before
latest_if a b p e = ap (λ (t : Bool). if t then b else a) e

latest_assoc : {T : Type 0} (a b c : Entry T) → latest (latest a b) c ≡ latest a (latest b c)
latest_assoc a b c =
    elim (before a b) as (λ p. before a b ≡ p → latest (latest a b) c ≡ latest a (latest b c)) [
      | true ↦ λ ab. ap (λ m. latest m c) (latest_if a b true ab) ∙ elim (before b c) as (λ q. before b c ≡ q → latest b c ≡ latest a (latest b c)) [
        | true ↦ λ bc. latest_if b c true bc ∙ sym (ap (latest a) (latest_if b c true bc) ∙ latest_if a c true (before_trans a b c ab bc))
        | false ↦ λ bc. latest_if b c false bc ∙ sym (ap (latest a) (latest_if b c false bc) ∙ latest_if a b true ab)
      ] refl
      | false ↦ λ ab. ap (λ m. latest m c) (latest_if a b false ab) ∙ elim (before b c) as (λ q. before b c ≡ q → latest a c ≡ latest a (latest b c)) [
        | true ↦ λ bc. sym (ap (latest a) (latest_if b c true bc))
        | false ↦ λ bc. latest_if a c false (not_before_trans a b c ab bc) ∙ sym (ap (latest a) (latest_if b c false bc) ∙ latest_if a b false ab)
      ] refl
    ] refl

pub joined_assoc : {T : Type 0} (x y z : Option (Entry T)) → join_of (join_of x y) z ≡ join_of x (join_of y z)
joined_assoc None y z = refl
joined_assoc (Some a) None None = refl
joined_assoc (Some a) None (Some c) = refl
joined_assoc (Some a) (Some b) None = refl
joined_assoc (Some a) (Some b) (Some c) = ap Some (latest_assoc a b c)

-- the later of two entries is one of them
latest_of_either : {T : Type 0} (a b : Entry T) → (latest a b ≡ a) ⊎ (latest a b ≡ b)
latest_of_either a b = elim (is_lt (stamp_cmp a.stamp b.stamp)) as (λ t. ((if t then b else a) ≡ a) ⊎ ((if t then b else a) ≡ b)) [ true ↦ inr refl | false ↦ inl refl ]

-- the join's entry is one of both's
pub joined_of_either : {T : Type 0} (x y : Option (Entry T)) (e : Entry T) → join_of x y ≡ Some e → (x ≡ Some e) ⊎ (y ≡ Some e)
joined_of_either None y e h = inr h
joined_of_either (Some a) None e h = inl h
joined_of_either (Some a) (Some b) e h = elim (latest_of_either a b) [
  | inl p ↦ inl (ap Some (sym p) ∙ h)
  | inr p ↦ inr (ap Some (sym p) ∙ h)
]

-- what agrees with both agrees with their join
pub joined_agrees : {T : Type 0} (x y z : Option (Entry T)) → RegistersAgree x z → RegistersAgree y z → RegistersAgree (join_of x y) z
joined_agrees x y z f g a c p q = elim (joined_of_either x y a p) [
  | inl h ↦ f a c h q
  | inr h ↦ g a c h q
]

-- no entry is before itself
not_before_self : {T : Type 0} (a : Entry T) → before a a ≡ false
unfolding before
not_before_self a = ap is_lt (tied_itself stamps_total a.stamp)

-- of two entries one at most is before the other
not_both_before : {T : Type 0} (a b : Entry T) → before a b ≡ true → before b a ≡ false
not_both_before a b ab = elim (before b a) as (λ t. before b a ≡ t → t ≡ false) [
  | true ↦ λ ba. sym (before_trans a b a ab ba) ∙ not_before_self a
  | false ↦ λ ba. refl
] refl

-- the later of both is before neither
latest_not_before_first : {T : Type 0} (a b : Entry T) → before (latest a b) a ≡ false
latest_not_before_first a b = elim (before a b) as (λ p. before a b ≡ p → before (latest a b) a ≡ false) [
  | true ↦ λ ab. ap (λ m. before m a) (latest_if a b true ab) ∙ not_both_before a b ab
  | false ↦ λ ab. ap (λ m. before m a) (latest_if a b false ab) ∙ not_before_self a
] refl

latest_not_before_second : {T : Type 0} (a b : Entry T) → before (latest a b) b ≡ false
latest_not_before_second a b = elim (before a b) as (λ p. before a b ≡ p → before (latest a b) b ≡ false) [
  | true ↦ λ ab. ap (λ m. before m b) (latest_if a b true ab) ∙ not_before_self b
  | false ↦ λ ab. ap (λ m. before m b) (latest_if a b false ab) ∙ ab
] refl

-- a register holds one entry
pub one_entry : {T : Type 0} (x : Option (Entry T)) (a b : Entry T) → x ≡ Some a → x ≡ Some b → a ≡ b
one_entry x a b p q = ap (λ o. unwrap_or o a) (sym p ∙ q)

-- the entry of a join is before no entry of either
joined_not_before : {T : Type 0} (x y : Option (Entry T)) (k e : Entry T) → join_of x y ≡ Some k → (x ≡ Some e) ⊎ (y ≡ Some e) → before k e ≡ false
joined_not_before None None k e h (inl p) = (cc)
joined_not_before None None k e h (inr p) = (cc)
joined_not_before None (Some b) k e h (inl p) = (cc)
joined_not_before None (Some b) k e h (inr p) = ap (λ m. before m e) (one_entry (Some b) k e h p) ∙ not_before_self e
joined_not_before (Some a) None k e h (inl p) = ap (λ m. before m e) (one_entry (Some a) k e h p) ∙ not_before_self e
joined_not_before (Some a) None k e h (inr p) = (cc)
joined_not_before (Some a) (Some b) k e h (inl p) =
    ap (λ m. before m e) (one_entry (Some (latest a b)) k (latest a b) h refl) ∙ ap (before (latest a b)) (one_entry (Some a) e a p refl) ∙ latest_not_before_first a b
joined_not_before (Some a) (Some b) k e h (inr p) =
    ap (λ m. before m e) (one_entry (Some (latest a b)) k (latest a b) h refl) ∙ ap (before (latest a b)) (one_entry (Some b) e b p refl) ∙ latest_not_before_second a b

joined_has_one : {T : Type 0} (x y : Option (Entry T)) (e : Entry T) → (x ≡ Some e) ⊎ (y ≡ Some e) → IsSome (join_of x y)
joined_has_one None None e (inl p) = (cc)
joined_has_one None None e (inr p) = (cc)
joined_has_one None (Some b) e h = refl
joined_has_one (Some a) None e h = refl
joined_has_one (Some a) (Some b) e h = refl

not_less : (o : Ordering) → is_lt o ≡ false → o ≢ Less
not_less Less h p = (cc)
not_less Equal h p = (cc)
not_less Greater h p = (cc)

pub joined_keeps_latest : {T : Type 0} (x y : Option (Entry T)) → KeepsLatest x y (join_of x y)
unfolding before
joined_keeps_latest x y = record {
  has_one = joined_has_one x y;
  of_either = joined_of_either x y;
  none_later = λ k e h p. not_less (stamp_cmp k.stamp e.stamp) (joined_not_before x y k e h p);
}
