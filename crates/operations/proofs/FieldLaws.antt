-- The field of a dot: the greatest stamp of what is set, and that it depends on what the knowledge contains alone.
use Rattle.std.proofs.Common.{◌≡◌, ◌≢◌, inl, inr, Bool, true, false, List, [], ◌∷◌, Contains, Option, Some, None, IsSome, is_some, true≢false, refl, sym, ap, subst, ◌∙◌, if◌then◌else◌, arith}
use Rattle.std.specs.List.{find}
use Rattle.std.specs.Option.{option_map}
use Rattle.std.specs.Ordering.{ordering_reverse, is_eq, is_gt}
use Rattle.std.specs.declared.cmp.Ordering.{Ordering}
use Rattle.std.specs.declared.cmp.Ordering.TheVariants.{Less, Equal, Greater}
use Rattle.std.proofs.lemmas.Cmp.{upto, tied_itself}
use Rattle.dots.specs.declared.member.Member.{Member}
use Rattle.dots.specs.Values.{Dot, Stamp}
use Rattle.dots.specs.Orders.{dot_cmp, stamp_cmp}
use Rattle.operations.specs.Registers.{Entry}
use Rattle.operations.specs.Operations.{Operation, Field, asserted_by}
use Rattle.operations.specs.Conditions.{fields_in}
use Rattle.operations.specs.Knowledge.{Knowledge, SameOperations, IsConsistent, OneValue, IsFieldOf, is_dot, asserts, all_asserted, member_of, settings_of, latest_of, field_of}
use Rattle.dots.proofs.DotOrder.{dots_total, dots_exact}
use Rattle.operations.proofs.RegisterLaws.{stamps_total, exact_stamps, joined_keeps_latest}
use Rattle.general_lemmas.proofs.Membership.{first_in, later_in, cases_in, some_in, in_some, part_in, in_part, in_find, some_find, any_in}
use Rattle.general_lemmas.proofs.TruthTables.{equal_of}

-- the latest of a list is in it
pub latest_in : {T : Type 0} (es : List (Entry T)) (e : Entry T) → latest_of es ≡ Some e → Contains es e
latest_in [] e h = (cc)
latest_in (x ∷ xs) e h = elim ((joined_keeps_latest (Some x) (latest_of xs)).of_either e h) [
  | inl p ↦ subst (Contains (x ∷ xs)) (same p) (first_in x xs)
  | inr p ↦ later_in x xs e (latest_in xs e p)
]
  where
    same : Some x ≡ Some e → x ≡ e
    same p = cc

-- a list that has an entry has a latest one
pub latest_some : {T : Type 0} (es : List (Entry T)) (e : Entry T) → Contains es e → IsSome (latest_of es)
latest_some [] e h = absurd (omega (arith, h.1))
latest_some (x ∷ xs) e h = (joined_keeps_latest (Some x) (latest_of xs)).has_one x (inl refl)

turned : (o : Ordering) → o ≢ Less → is_gt (ordering_reverse o) ≡ false
turned Less h = absurd (h refl)
turned Equal h = refl
turned Greater h = refl

turned_back : (o : Ordering) → is_gt (ordering_reverse o) ≡ false → o ≢ Less
turned_back Less h e = absurd (true≢false h)
turned_back Equal h e = (cc)
turned_back Greater h e = (cc)

-- "not before" goes from one to the next
not_before_through : (a b c : Stamp) → stamp_cmp a b ≢ Less → stamp_cmp b c ≢ Less → stamp_cmp a c ≢ Less
not_before_through a b c ab bc =
    turned_back (stamp_cmp a c) (sym (ap is_gt (stamps_total.antisymm c a))
    ∙ upto stamps_total c b a
    (ap is_gt (stamps_total.antisymm c b) ∙ turned (stamp_cmp b c) bc)
    (ap is_gt (stamps_total.antisymm b a) ∙ turned (stamp_cmp a b) ab))

not_some : (T : Type 0) → IsSome {T = T} None → ⊥
not_some T h = (cc)

-- none in the list is later
pub latest_greatest : {T : Type 0} (es : List (Entry T)) (e x : Entry T) → latest_of es ≡ Some e → Contains es x → stamp_cmp e.stamp x.stamp ≢ Less
latest_greatest [] e x h k = absurd (omega (arith, k.1))
latest_greatest {T} (y ∷ ys) e x h k = elim (cases_in y ys x k) [
  | inl p ↦ (joined_keeps_latest (Some y) (latest_of ys)).none_later e x h (inl (ap Some p))
  | inr r ↦ by (latest_of ys) refl (λ z hz. latest_greatest ys z x hz r) (latest_some ys x r)
]
  where
    by : (o : Option (Entry T)) → latest_of ys ≡ o → ((z : Entry T) → latest_of ys ≡ Some z → stamp_cmp z.stamp x.stamp ≢ Less) → IsSome (latest_of ys) → stamp_cmp e.stamp x.stamp ≢ Less
    by None q deep some = absurd (not_some (Entry T) (subst IsSome q some))
    by (Some z) q deep some = not_before_through e.stamp z.stamp x.stamp ((joined_keeps_latest (Some y) (latest_of ys)).none_later e z h (inr q)) (deep z q)

-- two stamps neither of which is later are one
pub same_stamp : (a b : Stamp) → stamp_cmp a b ≢ Less → stamp_cmp b a ≢ Less → a ≡ b
same_stamp a b ab ba = exact_stamps a b (between (stamp_cmp a b) ab (subst (λ o. o ≢ Less) (stamps_total.antisymm b a) ba))
  where
    between : (o : Ordering) → o ≢ Less → ordering_reverse o ≢ Less → o ≡ Equal
    between Less p q = absurd (p refl)
    between Equal p q = refl
    between Greater p q = absurd (q refl)

-- what is computed is the field
pub field_is : {T : Type 0} (field : Field T) (k : Knowledge) (dot : Dot) (e : Entry T) → field_of field k dot ≡ Some e → IsFieldOf field k dot e
field_is field k dot e h = record {
  given = latest_in (settings_of field k dot) e h;
  latest = λ x here. latest_greatest (settings_of field k dot) e x h here;
}

-- of two lists with the same entries, one value a stamp, the latest is one
same_latest : {T : Type 0} (xs ys : List (Entry T)) → ((e : Entry T) → Contains xs e → Contains ys e) → ((e : Entry T) → Contains ys e → Contains xs e)
    → ((a b : Entry T) → Contains xs a → Contains xs b → a.stamp ≡ b.stamp → a.value ≡ b.value) → latest_of xs ≡ latest_of ys
same_latest {T} xs ys to from one = by (latest_of xs) (latest_of ys) refl refl
  where
    by : (o p : Option (Entry T)) → latest_of xs ≡ o → latest_of ys ≡ p → latest_of xs ≡ latest_of ys
    by None None q r = q ∙ sym r
    by None (Some f) q r = absurd (not_some (Entry T) (subst IsSome q (latest_some xs f (from f (latest_in ys f r)))))
    by (Some e) None q r = absurd (not_some (Entry T) (subst IsSome r (latest_some ys e (to e (latest_in xs e q)))))
    by (Some e) (Some f) q r =
        let stamps : e.stamp ≡ f.stamp = same_stamp e.stamp f.stamp (latest_greatest xs e f q (from f (latest_in ys f r))) (latest_greatest ys f e r (to e (latest_in xs e q))) in
        let values : e.value ≡ f.value = one e f (latest_in xs e q) (from f (latest_in ys f r)) stamps in
        q ∙ (λ i. Some (record { stamp = stamps i; value = values i })) ∙ sym r

-- what an operation that asserts a dot sets of a field
abbrev pub chosen : {T : Type 0} → Field T → Dot → Operation → Option (Entry T)
chosen field dot o = if asserts dot o then field o else None

setting_moves : {T : Type 0} (field : Field T) (k l : Knowledge) (dot : Dot) → ((o : Operation) → Contains k o → Contains l o) → (e : Entry T) → Contains (settings_of field k dot) e → Contains (settings_of field l dot) e
setting_moves field k l dot to e h =
    let o = in_some (chosen field dot) k e h in some_in (chosen field dot) l o.0 e (to o.0 o.1) o.2

pub same_field : {T : Type 0} (field : Field T) (k l : Knowledge) (dot : Dot) → SameOperations k l → OneValue field k → field_of field k dot ≡ field_of field l dot
same_field field k l dot same one =
    same_latest (settings_of field k dot) (settings_of field l dot) (setting_moves field k l dot (λ o. (same o).0)) (setting_moves field l k dot (λ o. (same o).1)) (one dot)

-- consistent knowledges of the same operations give a dot the same fields
pub same_fields : (k l : Knowledge) (dot : Dot) → SameOperations k l → IsConsistent k → fields_in k dot ≡ fields_in l dot
same_fields k l dot same one = λ i. record {
  penalty = same_field _ k l dot same one.penalties i;
  pause = same_field _ k l dot same one.pauses i;
  label = same_field _ k l dot same one.labels i;
  ring = same_field _ k l dot same one.rings i;
}

-- the dot of a pair that is found
own_dot : (dot : Dot) (p : Dot × Member) → is_dot dot p.0 ≡ true → dot ≡ p.0
own_dot dot p h = dots_exact dot p.0 (equal_of (dot_cmp dot p.0) h)

pair_moves : (k l : Knowledge) → ((o : Operation) → Contains k o → Contains l o) → (p : Dot × Member) → Contains (all_asserted k) p → Contains (all_asserted l) p
pair_moves k l to p h = let o = in_part asserted_by k p h in part_in asserted_by l o.0 p (to o.0 o.1) o.2

-- what is found for a dot stands in the knowledge under that very dot
pub found_pair : (k : Knowledge) (dot : Dot) (p : Dot × Member) → find (λ q. is_dot dot q.0) (all_asserted k) ≡ Some p → Contains (all_asserted k) (dot, p.1)
found_pair k dot p h =
    let is = in_find (λ (q : Dot × Member). is_dot dot q.0) (all_asserted k) p h in
    subst (λ d. Contains (all_asserted k) (d, p.1)) (sym (own_dot dot p is.1)) is.0

-- where nothing is found for a dot, nothing stands there under it
some_in_none : (k : Knowledge) (dot : Dot) → find (λ q. is_dot dot q.0) (all_asserted k) ≡ None → (p : Dot × Member) → p.0 ≡ dot → Contains (all_asserted k) p → ⊥
some_in_none k dot h p is here =
    let test : Dot × Member → Bool = λ q. is_dot dot q.0 in
    true≢false (sym (any_in test (all_asserted k) p here (ap (is_dot dot) is ∙ ap is_eq (tied_itself dots_total dot))) ∙ sym (some_find test (all_asserted k)) ∙ ap is_some h)

pub same_member : (k l : Knowledge) (dot : Dot) → SameOperations k l
    → ((d : Dot) (m n : Member) → Contains (all_asserted k) (d, m) → Contains (all_asserted k) (d, n) → m ≡ n) → member_of k dot ≡ member_of l dot
same_member k l dot same one = by (find (λ q. is_dot dot q.0) (all_asserted k)) (find (λ q. is_dot dot q.0) (all_asserted l)) refl refl
  where
    by : (a b : Option (Dot × Member)) → find (λ q. is_dot dot q.0) (all_asserted k) ≡ a → find (λ q. is_dot dot q.0) (all_asserted l) ≡ b → member_of k dot ≡ member_of l dot
    by None None p q = ap (option_map (λ r. r.1)) (p ∙ sym q)
    by None (Some r) p q = absurd (some_in_none k dot p (dot, r.1) refl (pair_moves l k (λ o. (same o).1) (dot, r.1) (found_pair l dot r q)))
    by (Some r) None p q = absurd (some_in_none l dot q (dot, r.1) refl (pair_moves k l (λ o. (same o).0) (dot, r.1) (found_pair k dot r p)))
    by (Some r) (Some s) p q =
        ap (option_map (λ t. t.1)) p
        ∙ ap Some (one dot r.1 s.1 (found_pair k dot r p) (pair_moves l k (λ o. (same o).1) (dot, s.1) (found_pair l dot s q)))
        ∙ sym (ap (option_map (λ t. t.1)) q)
