-- Given dots that rise: those of a site stand side by side, and the next one from a dot on stands behind all that lie before it.
use Rattle.std.proofs.Common.{◌≡◌, ℕ, ◌+◌, ◌-◌, ◌≤◌, ◌<◌, true, false, ◌&&◌, ◌||◌, List, [], ◌∷◌, length, get_or, take, drop, inl, inr, sym, ap, subst, ◌∙◌, arith}
use Rattle.std.specs.Prelude.{nat_eq, nat_le, nat_lt}
use Rattle.std.specs.List.{All, AllWithin}
use Rattle.std.specs.List.Sorted.{IsPartitionedBy, IsSorted}
use Rattle.std.specs.Ordering.{eq_by_cmp, is_lt}
use Rattle.std.proofs.lemmas.Bool.{cases_lt}
use Rattle.std.proofs.lemmas.Bool.Decides.{nat_tests}
use Rattle.std.proofs.lemmas.List.{drop_more, get_or-drop, get_or-take, length-drop, length-take-le}
use Rattle.std.proofs.lemmas.List.Elements.{All-drop, All-head, All-same, All-take}
use Rattle.std.proofs.lemmas.List.Folds.{list_any_at}
use Rattle.std.proofs.lemmas.List.Sorted.{ranks_by, sorted_far}
use Rattle.dots.specs.Values.{Dot}
use Rattle.dots.specs.Orders.{dot_cmp}
use Rattle.dots.proofs.DotOrder.{dots_total}
use Rattle.member_orset.specs.Gathering.{AreNext, AreOfSite, IsGreatest, LiesPast, is_given}
use Rattle.live_cells.proofs.DotTests.{one_dot, same_itself}
use Rattle.live_cells.proofs.Pieces.{lt_dots}
use Rattle.member_orset.proofs.SeenDots.{any_has}

-- each is given
pub all_given_here : (given : List Dot) → All (λ d. is_given given d ≡ true) given
all_given_here given k d l = list_any_at (eq_by_cmp dot_cmp (get_or given k d)) given k d l (same_itself (get_or given k d))

-- what is among given dots is given
pub given_among : (dots those : List Dot) → All (λ d. is_given dots d ≡ true) those → (q : Dot) → is_given those q ≡ true → is_given dots q ≡ true
given_among dots those all q h =
    let f = any_has (λ d. is_given dots d ≡ true) (eq_by_cmp dot_cmp q) those all h in
    subst (λ (d : Dot). is_given dots d ≡ true) (sym (one_dot q f.0 f.2)) f.1

-- the greatest count of a site's dots is found among those
pub greatest_among : (dots those : List Dot) (site greatest : ℕ) → AreOfSite dots site those → IsGreatest those site greatest → IsGreatest dots site greatest
greatest_among dots those site greatest are g = record {
  least = λ k d l s.
      let x = get_or dots k d in
      let f = any_has (λ y. y.site ≡ site → 1 ≤ y.count) (eq_by_cmp dot_cmp x) those g.least (are.all k d l s) in
      subst (λ (y : Dot). y.site ≡ site → 1 ≤ y.count) (sym (one_dot x f.0 f.2)) f.1 s;
  most = λ k d l s.
      let x = get_or dots k d in
      let f = any_has (λ y. y.site ≡ site → y.count ≤ greatest) (eq_by_cmp dot_cmp x) those g.most (are.all k d l s) in
      subst (λ (y : Dot). y.site ≡ site → y.count ≤ greatest) (sym (one_dot x f.0 f.2)) f.1 s;
  reached = λ h. given_among dots those are.given (record { site = site; count = greatest }) (g.reached h);
}

earlier_too : (s t u c d e : ℕ) → (nat_lt s u || (nat_eq s u && nat_lt d c)) ≡ false → (nat_lt s t || (nat_eq s t && nat_lt d e)) ≡ true → (nat_lt u t || (nat_eq u t && nat_lt c e)) ≡ true
earlier_too s t u c d e h k = grind (arith, nat_tests)

site_early : (s u c d t : ℕ) → (nat_lt s u || (nat_eq s u && nat_lt d c)) ≡ false → nat_lt s t ≡ true → nat_lt u t ≡ true
site_early s u c d t h k = grind (arith, nat_tests)

site_upto : (s u c d t : ℕ) → (nat_lt s u || (nat_eq s u && nat_lt d c)) ≡ false → nat_le s t ≡ true → nat_le u t ≡ true
site_upto s u c d t h k = grind (arith, nat_tests)

is_same_site : (s u c d t f : ℕ) → (nat_lt s u || (nat_eq s u && nat_lt d c)) ≡ false → (nat_lt u t || (nat_eq u t && nat_lt c f)) ≡ false → s ≡ t → u ≡ t
is_same_site s u c d t f h k e = grind (arith, nat_tests)

is_no_less : (u c t f : ℕ) → (nat_lt u t || (nat_eq u t && nat_lt c f)) ≡ false → u ≡ t → f ≤ c
is_no_less u c t f h e = grind (arith, nat_tests)

is_passed : (u c t f : ℕ) → (nat_lt u t || (nat_eq u t && nat_lt c f)) ≡ true → u ≡ t → c < f
is_passed u c t f h e = grind (arith, nat_tests)

less_and_more : (s t : ℕ) → nat_lt s t ≡ true → nat_le s t ≡ false → ⊥
less_and_more s t h k = grind (arith, nat_tests)

not_less : (s t : ℕ) → s ≡ t → nat_lt s t ≡ true → ⊥
not_less s t e h = grind (arith, nat_tests)

not_more : (s t : ℕ) → s ≡ t → nat_le s t ≡ false → ⊥
not_more s t e h = grind (arith, nat_tests)

module _ (given : List Dot) (rise : IsSorted dot_cmp given) where
  -- none lies before one that stands earlier
  in_order : (i j : ℕ) (d : Dot) → i ≤ j → j < length given
      → (nat_lt (get_or given j d).site (get_or given i d).site || (nat_eq (get_or given j d).site (get_or given i d).site && nat_lt (get_or given j d).count (get_or given i d).count)) ≡ false
  in_order i j d o l = sym (lt_dots (get_or given j d) (get_or given i d)) ∙ sorted_far (λ x y. is_lt (dot_cmp x y)) (ranks_by dots_total (λ d. d)) given rise i j d o l

  pub parted_by_dot : (from : Dot) → IsPartitionedBy (λ d. is_lt (dot_cmp d from)) given
  parted_by_dot from i j d o l t =
      let x = get_or given i d in
      let y = get_or given j d in
      lt_dots x from ∙ earlier_too y.site from.site x.site x.count y.count from.count (in_order i j d o l) (sym (lt_dots y from) ∙ t)

  pub parted_by_site : (site : ℕ) → IsPartitionedBy (λ d. nat_lt d.site site) given
  parted_by_site site i j d o l t = site_early (get_or given j d).site (get_or given i d).site (get_or given i d).count (get_or given j d).count site (in_order i j d o l) t

  pub parted_upto_site : (site : ℕ) → IsPartitionedBy (λ d. nat_le d.site site) given
  parted_upto_site site i j d o l t = site_upto (get_or given j d).site (get_or given i d).site (get_or given i d).count (get_or given j d).count site (in_order i j d o l) t

  -- the dots of a site are between two places
  module _ (site start end : ℕ) (within : end ≤ length given) (before : AllWithin (λ d. nat_lt d.site site ≡ true) given 0 start) (from : AllWithin (λ d. nat_lt d.site site ≡ false) given start (length given))
      (upto : AllWithin (λ d. nat_le d.site site ≡ true) given 0 end) (past : AllWithin (λ d. nat_le d.site site ≡ false) given end (length given)) where
    pub site_in_order : start ≤ length given → start ≤ end
    site_in_order w = elim (cases_lt end start) [
      | inl m ↦
          let none : Dot = record { site = 0; count = 0 } in
          absurd (let a = before end none (omega arith) m in let b = past end none (omega arith) (omega arith) in less_and_more (get_or given end none).site site a b)
      | inr m ↦ m
    ]

    pub site_found : AreOfSite given site (take (end - start) (drop start given))
    site_found = record {
      given = All-take (λ d. is_given given d ≡ true) (end - start) (drop start given) (All-drop (λ d. is_given given d ≡ true) start given (all_given_here given));
      all = λ k d l s.
          let x = get_or given k d in
          let lo : start ≤ k = elim (cases_lt k start) [
            | inl m ↦ absurd (not_less x.site site s (before k d (omega arith) m))
            | inr m ↦ m
          ] in
          let hi : k < end = elim (cases_lt k end) [
            | inl m ↦ m
            | inr m ↦ absurd (not_more x.site site s (past k d m l))
          ] in
          let part = drop start given in
          let place : start + (k - start) ≡ k = omega arith in
          let here : get_or (take (end - start) part) (k - start) d ≡ x = get_or-take (end - start) part (k - start) d (omega arith) ∙ get_or-drop start given (k - start) d ∙ ap (λ n. get_or given n d) place in
          let long = length-drop start given in
          let longer = length-take-le (end - start) part (omega arith) in
          list_any_at (eq_by_cmp dot_cmp x) (take (end - start) part) (k - start) d (omega arith) (ap (eq_by_cmp dot_cmp x) here ∙ same_itself x);
    }

  -- the one behind all that lie before a dot is the next one
  module _ (from : Dot) (place end : ℕ) (before : AllWithin (λ d. is_lt (dot_cmp d from) ≡ true) given 0 place) (after : AllWithin (λ d. is_lt (dot_cmp d from) ≡ false) given place (length given))
      (one : place < length given → end ≡ place + 1) where
    abbrev pub those : List Dot
    those = take (end - place) (drop place given)

    the_next : (d : Dot) → place < length given → those ≡ get_or given place d ∷ []
    the_next d l = let e = one l in let n : end - place ≡ 1 = omega arith in λ i. take (n i) (drop_more given place d l i)

    pub next_found : AreNext given from those
    next_found = record {
      given = All-take (λ d. is_given given d ≡ true) (end - place) (drop place given) (All-drop (λ d. is_given given d ≡ true) place given (all_given_here given));
      past = λ past all k d l s c. elim (cases_lt k place) [
        | inl m ↦
            let x = get_or given k d in
            absurd (let p = is_passed x.site x.count from.site from.count (sym (lt_dots x from) ∙ before k d (omega arith) m) s in omega arith)
        | inr m ↦
            let x = get_or given k d in
            let y = get_or given place d in
            let far = sym (lt_dots y from) ∙ after place d (omega arith) (omega arith) in
            let same : y.site ≡ from.site = is_same_site x.site y.site y.count x.count from.site from.count (in_order place k d m l) far s in
            let lo : from.count ≤ y.count = is_no_less y.site y.count from.site from.count far same in
            let hi : y.count ≤ x.count = is_no_less x.site x.count y.site y.count (in_order place k d m l) (s ∙ sym same) in
            let beyond = All-head (LiesPast from past) y [] (All-same (LiesPast from past) (y ∷ []) those (sym (the_next d (omega arith))) all) same lo in
            omega arith
      ];
    }
