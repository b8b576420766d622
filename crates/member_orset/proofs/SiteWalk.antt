-- The walk over the dots of a site: what is passed, and how far dots are given or dead.
use Rattle.std.proofs.Common.{◌≡◌, ℕ, ◌≤◌, Bool, true, false, not, ◌&&◌, ◌||◌, List, sym, ap, subst, ◌∙◌, arith}
use Rattle.std.specs.FinSet as sets
use Rattle.dots.specs.Values.{Dot}
use Rattle.dots.specs.Orders.{dot_cmp}
use Rattle.dots.specs.DotSets.{IsRunsOf, Run, in_runs}
use Rattle.live_cells.specs.declared.placed.Placed.{Placed}
use Rattle.live_cells.specs.PlacedLists.{is_placed}
use Rattle.member_orset.specs.declared.piece.Piece.{Piece}
use Rattle.member_orset.specs.Gathering.{AreToName, IsPiece, is_given, is_to_name}

abbrev pub at : ℕ → ℕ → Dot
at site count = record { site = site; count = count }

module _ (known : sets.FinSet dot_cmp) (live : Dot → Bool) (given : List Dot) (site first last : ℕ) (p : Piece)
    (given_is : IsPiece (λ n. is_given given (at site n)) first last p) where
  abbrev dead : Dot → Bool
  dead q = sets.contains known q && not (live q)

  -- a piece where all are given
  pub all_given : p.inside ≡ true → IsPiece (λ n. is_to_name known live given (at site n)) first last p
  all_given y = record {
    some = given_is.some;
    within = given_is.within;
    same = λ n lo hi. ap (λ b. b || dead (at site n)) (given_is.same n lo hi ∙ y) ∙ sym y;
  }

  module _ (ungiven : p.inside ≡ false) (runs : List Run) (are : IsRunsOf runs known) (k : Piece) (known_is : IsPiece (λ n. in_runs runs (at site n)) first p.last k) where
    -- one where none is given or known
    pub none_known : k.inside ≡ false → IsPiece (λ n. is_to_name known live given (at site n)) first last k
    none_known y = record {
      some = λ h. known_is.some (given_is.some h);
      within = let a = known_is.within in let b = given_is.within in omega arith;
      same = λ n lo hi.
          (λ i. (given_is.same n lo (let a = known_is.within in omega arith) ∙ ungiven) i || ((are.same (at site n) ∙ known_is.same n lo hi ∙ y) i && not (live (at site n))))
          ∙ sym y;
    }

    -- one where none is given and all are known
    pub all_known : (l r : Piece) → k.inside ≡ true → IsPiece (λ n. live (at site n)) first k.last l → r.inside ≡ not l.inside → r.last ≡ l.last → IsPiece (λ n. is_to_name known live given (at site n)) first last r
    all_known l r y live_is inside end = record {
      some = λ h. let a = live_is.some (known_is.some (given_is.some h)) in omega arith;
      within = let a = live_is.within in let b = known_is.within in let d = given_is.within in omega arith;
      same = λ n lo hi.
          let in_live : n ≤ l.last = omega arith in
          let in_known : n ≤ k.last = let a = live_is.within in omega arith in
          let in_given : n ≤ p.last = let a = known_is.within in omega arith in
          (λ i. (given_is.same n lo in_given ∙ ungiven) i || ((are.same (at site n) ∙ known_is.same n lo in_known ∙ y) i && not (live_is.same n lo in_live i)))
          ∙ sym inside;
    }

-- a piece of the given and the dead ones is one of the dots to be named
pub piece_of : (known : sets.FinSet dot_cmp) (live : Dot → Bool) (given : List Dot) (site first last : ℕ) (dots : sets.FinSet dot_cmp) (p : Piece)
    → AreToName known live given site last dots → 1 ≤ first → IsPiece (λ n. is_to_name known live given (at site n)) first last p
    → IsPiece (λ n. sets.contains dots (at site n)) first last p
piece_of known live given site first last dots p are least is = record {
  some = is.some;
  within = is.within;
  same = λ n lo hi. are.same n (omega arith) (let a = is.within in omega arith) ∙ is.same n lo hi;
}

-- what a piece is at the dot that a walk has come to, said of the place from which the loop took it
pub piece_here : (known : sets.FinSet dot_cmp) (runs runs_now : List Run) (dots dots_now : List Placed) (given given_now : List Dot) (last last_now from : Dot) (site first : ℕ) (p : Piece)
    → runs_now ≡ runs → dots_now ≡ dots → given_now ≡ given → last_now ≡ last → from.site ≡ site → from.count ≡ first → IsRunsOf runs known
    → (IsRunsOf runs_now known → IsPiece (λ n. is_to_name known (is_placed dots_now) given_now (at from.site n)) from.count last_now.count p)
    → IsPiece (λ n. is_to_name known (is_placed dots) given (at site n)) first last.count p
piece_here known runs runs_now dots dots_now given given_now last last_now from site first p runs_are dots_are given_are last_is site_is first_is are piece =
    subst (λ (X : Type 0). X) (λ i. IsPiece (λ n. is_to_name known (is_placed (dots_are i)) (given_are i) (at (site_is i) n)) (first_is i) (last_is i).count p)
    (piece (subst (λ rs. IsRunsOf rs known) (sym runs_are) are))
