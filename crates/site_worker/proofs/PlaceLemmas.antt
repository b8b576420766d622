-- Elements of lists by their places.
use Rattle.std.proofs.Common.{◌≡◌, ℕ, zero, suc, List, [], ◌∷◌, ◌++◌, Some, length, length-append, map, slice_get, slice_index_or, ap, subst, arith}
use Rattle.std.specs.List.{All}
use Rattle.std.proofs.Math.ListN.{get_or-append}
use Rattle.std.proofs.Math.Seq.{get_or-append_seam}
use Rattle.std.proofs.lemmas.Option.{slice_get-get_or}
use Rattle.sites_world.proofs.Lists.{none_some, one_some}
use Rattle.launcher.specs.Places.{AtEach}

-- the mapped element at a place
pub mapped_at : {A B : Type 0} (f : A → B) (xs : List A) (place : ℕ) (x : A) (none : B) → slice_get xs place ≡ Some x → slice_index_or (map f xs) place none ≡ f x
mapped_at f [] place x none is = absurd (none_some x is)
mapped_at f (y ∷ ys) zero x none is = ap f (one_some y x is)
mapped_at f (y ∷ ys) (suc place) x none is = mapped_at f ys place x none is

-- what holds of the element at each place holds of all
pub all_got : {E : Type 0} (P : E → Type 0) (xs : List E) → ((place : ℕ) (x : E) → slice_get xs place ≡ Some x → P x) → All P xs
all_got P xs each place none low = each place (slice_index_or xs place none) (slice_get-get_or xs place none low)

-- what is mapped at a place
pub got_mapped : {A B : Type 0} (f : A → B) (xs : List A) (place : ℕ) (x : A) → slice_get xs place ≡ Some x → slice_get (map f xs) place ≡ Some (f x)
got_mapped f [] place x is = absurd (none_some x is)
got_mapped f (y ∷ ys) zero x is = ap (λ z. Some (f z)) (one_some y x is)
got_mapped f (y ∷ ys) (suc place) x is = got_mapped f ys place x is

-- each element is that of its place
pub each_itself : {E : Type 0} (xs : List E) → AtEach (λ k x. slice_get xs k ≡ Some x) xs
each_itself xs k none low = slice_get-get_or xs k none low

-- what holds of each element and its place holds of the last, and of those before it
pub each_pop : {E : Type 0} (H : ℕ → E → Type 0) (all front : List E) (x : E) → all ≡ front ++ x ∷ [] → AtEach H all → AtEach H front × H (length front) x
each_pop H all front x is each = let whole = subst (AtEach H) is each in (
  (λ k none low. subst (H k) (get_or-append front (x ∷ []) none k low) (whole k none (omega (arith, low, length-append front (x ∷ []))))),
  subst (H (length front)) (get_or-append_seam front x [] x) (whole (length front) x (omega (arith, length-append front (x ∷ [])))),
)
