-- The first live dot of a site from a count on.
use Rattle.std.proofs.Common.{◌≡◌, ◌≢◌, ℕ, ◌≤◌, ◌<◌, true, false, List, length, get_or, inl, inr, sym, ap, subst, ◌∙◌, arith, true≢false}
use Rattle.std.proofs.Common.{Contains}
use Rattle.std.specs.List.{AllWithin}
use Rattle.std.proofs.lemmas.List.Elements.{Contains-get_or}
use Rattle.general_lemmas.proofs.Membership.{any_in}
use Rattle.std.specs.Ordering.{eq_by_cmp, is_lt}
use Rattle.std.proofs.lemmas.Bool.{cases_Bool}
use Rattle.dots.specs.Values.{Dot}
use Rattle.dots.specs.Orders.{dot_cmp}
use Rattle.live_cells.specs.declared.placed.Placed.{Placed}
use Rattle.live_cells.specs.PlacedLists.{IsFirstIn, is_placed}
use Rattle.live_cells.proofs.DotTests.{one_dot, same_itself, same_tied}
use Rattle.live_cells.proofs.PlacedOrder.{Ahead, Rise}
use Rattle.live_cells.proofs.Pieces.{beyond, dots_later, next_dot}

module _ (dots : List Placed) (from : Dot) (i : ℕ) (x : Placed) (s : Rise dots) (l : i < length dots) (before : Ahead from dots i) (at_x : x ≡ get_or dots i x)
    (after : AllWithin (λ p. is_lt (dot_cmp p.dot from) ≡ false) dots i (length dots)) (same : x.dot.site ≡ from.site) where
  other : eq_by_cmp dot_cmp from x.dot ≡ false → from ≢ x.dot
  other f e = true≢false (sym (same_tied from x.dot e) ∙ f)

  -- the next dot has no lesser count
  pub no_less : from.count ≤ x.dot.count
  no_less = elim (cases_Bool (eq_by_cmp dot_cmp from x.dot)) [
    | inl t ↦ let e = ap (λ d. d.count) (one_dot from x.dot t) in omega arith
    | inr f ↦ let m = next_dot dots from i x s l before at_x (beyond dots from i x l at_x after (other f)) same in omega arith
  ]

  -- no dot is live between the count and the next dot
  pub none_between : (n : ℕ) → from.count ≤ n → n < x.dot.count → is_placed dots (record { site = from.site; count = n }) ≡ false
  none_between n lo hi = elim (cases_Bool (eq_by_cmp dot_cmp from x.dot)) [
    | inl t ↦ let e = ap (λ d. d.count) (one_dot from x.dot t) in absurd (omega arith)
    | inr f ↦ dots_later dots from i x s l before at_x (beyond dots from i x l at_x after (other f)) same n lo hi
  ]

  itself_here : is_placed dots x.dot ≡ true
  itself_here = any_in (λ p. eq_by_cmp dot_cmp x.dot p.dot) dots x (subst (Contains dots) (sym at_x) (Contains-get_or dots i x l)) (same_itself x.dot)

  -- the next dot is the first live one from the count on
  pub first_in : (site first last : ℕ) → from.site ≡ site → from.count ≡ first → x.dot.count ≤ last → IsFirstIn dots site first last x.dot
  first_in site first last at f m = record {
    here = itself_here;
    site_is = same ∙ at;
    least = subst (λ n. n ≤ x.dot.count) f no_less;
    most = m;
    none = λ n lo hi. ap (λ t. is_placed dots (record { site = t; count = n })) (sym at) ∙ none_between n (omega arith) hi;
  }
