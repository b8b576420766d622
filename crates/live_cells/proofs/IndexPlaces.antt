-- Where the entries of one member stand in an index that rises.
use Rattle.std.proofs.Common.{◌≡◌, inl, inr, ℕ, suc, zero, ◌+◌, ◌-◌, ◌<◌, ◌≤◌, Bool, true, false, cond, List, [], ◌∷◌, length, get_or, take, drop, filter, refl, sym, ap, ◌∙◌, arith}
use Rattle.std.specs.Prelude.{nat_lt}
use Rattle.std.specs.List.{AllWithin, list_any}
use Rattle.std.specs.List.Sorted.{IsPartitionedBy, IsPartitionPoint}
use Rattle.std.specs.Ordering.{is_le, is_lt}
use Rattle.std.specs.declared.cmp.Ordering.{Ordering}
use Rattle.std.specs.declared.cmp.Ordering.TheVariants.{Less, Equal, Greater}
use Rattle.std.proofs.lemmas.Bool.{cases_Bool, cases_lt, false_from_ne_true}
use Rattle.std.proofs.lemmas.Bool.Decides.{nat_tests}
use Rattle.std.proofs.lemmas.Cmp.{tied_itself}
use Rattle.std.proofs.lemmas.List.{get_or_default}
use Rattle.std.proofs.lemmas.List.Elements.{Contains-get_or}
use Rattle.std.proofs.lemmas.List.Folds.{list_any_none}
use Rattle.dots.specs.declared.member.Member.{Member}
use Rattle.dots.specs.Orders.{member_cmp}
use Rattle.dots.proofs.MemberOrder.{members_total}
use Rattle.general_lemmas.proofs.Membership.{any_in}
use Rattle.general_lemmas.proofs.TruthTables.{less_of}
use Rattle.live_cells.specs.Index.{Listed}
use Rattle.live_cells.specs.Index.{Rises}
use Rattle.live_cells.specs.ShownRows.{group, is_own}
use Rattle.live_cells.proofs.Indexes.{partitioned_by}
use Rattle.live_cells.proofs.MemberOrder.{by_members, less_upto, own_before, own_between, own_past}

-- the entries of lesser members come first, and so do those of members that aren't greater
pub lesser_first : (m : Member) (ls : List Listed) → Rises ls → IsPartitionedBy (λ l. is_lt (member_cmp l.member m)) ls
lesser_first m = partitioned_by (λ l. is_lt (member_cmp l.member m)) (λ a b h k. elim (by_members a b h) [
  | inl l ↦ ap is_lt (members_total.trans a.member b.member m l (less_of _ k))
  | inr e ↦ ap (λ x. is_lt (member_cmp x m)) e ∙ k
])

pub upto_first : (m : Member) (ls : List Listed) → Rises ls → IsPartitionedBy (λ l. is_le (member_cmp l.member m)) ls
upto_first m = partitioned_by (λ l. is_le (member_cmp l.member m)) (λ a b h k. elim (by_members a b h) [
  | inl l ↦ ap is_le (less_upto a.member b.member m l k)
  | inr e ↦ ap (λ x. is_le (member_cmp x m)) e ∙ k
])

-- no later entry has a lesser member
pub not_lesser : (ls : List Listed) (i j : ℕ) (e : Listed) → Rises ls → i ≤ j → j < length ls → is_lt (member_cmp (get_or ls j e).member (get_or ls i e).member) ≡ false
not_lesser ls i j e r l w = elim (cases_Bool (is_lt (member_cmp (get_or ls j e).member (get_or ls i e).member))) [
  | inl t ↦ absurd (let x = ap is_lt (sym (tied_itself members_total (get_or ls i e).member)) ∙ lesser_first (get_or ls i e).member ls r i j e l w t in cc)
  | inr f ↦ f
]

-- what a filter keeps, where the elements that pass stand between two places
pub kept_between : {X : Type 0} (p : X → Bool) (xs : List X) (i n : ℕ) → AllWithin (λ x. p x ≡ false) xs 0 i → AllWithin (λ x. p x ≡ true) xs i (i + n) → AllWithin (λ x. p x ≡ false) xs (i + n) (length xs)
    → i + n ≤ length xs → filter p xs ≡ take n (drop i xs)
kept_between p [] zero zero a b c w = refl
kept_between p [] zero (suc n) a b c w = refl
kept_between p [] (suc i) n a b c w = absurd (omega arith)
kept_between p (x ∷ xs) zero zero a b c w =
    ap (λ t. cond t (x ∷ filter p xs) (filter p xs)) (c 0 x (omega arith) (omega arith))
    ∙ kept_between p xs 0 0 (λ k d l h. absurd (omega arith)) (λ k d l h. absurd (omega arith)) (λ k d l h. c (suc k) d (omega arith) (omega arith)) (omega arith)
kept_between p (x ∷ xs) zero (suc n) a b c w =
    ap (λ t. cond t (x ∷ filter p xs) (filter p xs)) (b 0 x (omega arith) (omega arith))
    ∙ ap (λ ys. x ∷ ys) (kept_between p xs 0 n (λ k d l h. absurd (omega arith)) (λ k d l h. b (suc k) d (omega arith) (omega arith)) (λ k d l h. c (suc k) d (omega arith) (omega arith)) (omega arith))
kept_between p (x ∷ xs) (suc i) n a b c w =
    ap (λ t. cond t (x ∷ filter p xs) (filter p xs)) (a 0 x (omega arith) (omega arith))
    ∙ kept_between p xs i n (λ k d l h. a (suc k) d (omega arith) (omega arith)) (λ k d l h. b (suc k) d (omega arith) (omega arith)) (λ k d l h. c (suc k) d (omega arith) (omega arith)) (omega arith)

-- entries of lesser members come before a place, and none from there on
abbrev pub Lesser : Member → List Listed → ℕ → Type 0
Lesser m ls i = IsPartitionPoint (λ l. is_lt (member_cmp l.member m) ≡ true) (λ l. is_lt (member_cmp l.member m) ≡ false) ls i

-- entries of members that aren't greater come before a place, and none from there on
abbrev pub Upto : Member → List Listed → ℕ → Type 0
Upto m ls j = IsPartitionPoint (λ l. is_le (member_cmp l.member m) ≡ true) (λ l. is_le (member_cmp l.member m) ≡ false) ls j

-- the place after a member's entries isn't before that of the first
pub places_rise : (m : Member) (ls : List Listed) (i j : ℕ) → i ≤ length ls → Lesser m ls i → Upto m ls j → i ≤ j
places_rise m ls i j w a b = elim (cases_Bool (nat_lt j i)) [
  | inl t ↦
      let e : Listed = record { member = m; dot = record { site = 0; count = 0 } } in
      let l : j < i = grind (arith, nat_tests, t) in
      absurd (both (member_cmp (get_or ls j e).member m) (a.0 j e (omega arith) l) (b.1 j e (omega arith) (omega arith)))
  | inr f ↦ grind (arith, nat_tests, f)
]
  where
    both : (o : Ordering) → is_lt o ≡ true → is_le o ≡ false → ⊥
    both Less h k = (cc)
    both Equal h k = (cc)
    both Greater h k = (cc)

-- the entries between the two places are the member's
pub group_between : (m : Member) (ls : List Listed) (i j : ℕ) → i ≤ length ls → j ≤ length ls → Lesser m ls i → Upto m ls j → take (j - i) (drop i ls) ≡ group m ls
group_between m ls i j w v a b =
    let rise = places_rise m ls i j w a b in
    sym (kept_between (is_own m) ls i (j - i) (λ k d l h. own_before m (get_or ls k d) (a.0 k d l h))
    (λ k d l h. own_between m (get_or ls k d) (a.1 k d l (omega arith)) (b.0 k d (omega arith) (omega arith))) (λ k d l h. own_past m (get_or ls k d) (b.1 k d (omega arith) h)) (omega arith))

-- entries of lesser members are of no greater ones
pub none_greater : (m : Member) (ls : List Listed) (i : ℕ) → Lesser m ls i → AllWithin (λ l. is_le (member_cmp l.member m) ≡ true) ls 0 i
none_greater m ls i a k d lo hi = ap is_le (less_of (member_cmp (get_or ls k d).member m) (a.0 k d lo hi))

-- from an entry of a greater member on none is the member's
pub past_from : (m : Member) (ls : List Listed) (i : ℕ) (e : Listed) → Rises ls → i < length ls → is_le (member_cmp (get_or ls i e).member m) ≡ false → AllWithin (λ l. is_le (member_cmp l.member m) ≡ false) ls i (length ls)
past_from m ls i e r w h k d lo hi =
    false_from_ne_true (is_le (member_cmp (get_or ls k d).member m)) (λ t.
    let early = upto_first m ls r i k d lo hi t in
    let same = ap (λ l. is_le (member_cmp l.member m)) (get_or_default ls i d e w) in
    absurd (cc))

-- some entry is the member's exactly where the first that isn't lesser is
pub none_own : (m : Member) (ls : List Listed) (i : ℕ) → Lesser m ls i → i ≡ length ls → false ≡ list_any (is_own m) ls
none_own m ls i a e = sym (list_any_none (is_own m) ls (λ k d h. own_before m (get_or ls k d) (a.0 k d (omega arith) (omega arith))))

pub first_own : (m : Member) (ls : List Listed) (i : ℕ) (e : Listed) → Rises ls → Lesser m ls i → i < length ls → is_le (member_cmp (get_or ls i e).member m) ≡ list_any (is_own m) ls
first_own m ls i e r a w = elim (cases_Bool (is_le (member_cmp (get_or ls i e).member m))) [
  | inl t ↦ t ∙ sym (any_in (is_own m) ls (get_or ls i e) (Contains-get_or ls i e w) (own_between m (get_or ls i e) (a.1 i e (omega arith) w) t))
  | inr f ↦ f ∙ sym (list_any_none (is_own m) ls (λ k d h. elim (cases_lt k i) [
    | inl l ↦ own_before m (get_or ls k d) (a.0 k d (omega arith) l)
    | inr l ↦ own_past m (get_or ls k d) (past_from m ls i e r w f k d l h)
  ]))
]
