-- Lists to which elements are pushed.
use Rattle.std.specs.List.{All}
use Rattle.std.proofs.Common.{◌≡◌, ◌++◌, ◌∷◌, List, [], map, ap, subst, sym, ◌∙◌}
use Rattle.std.proofs.lemmas.List.{append_assoc, map-append}
use Rattle.std.proofs.lemmas.List.Elements.{All-push}

-- what holds of some elements and of one more holds of all
pub all_push : {E : Type 0} (P : E → Type 0) (xs all : List E) (x : E) → all ≡ xs ++ x ∷ [] → All P xs → P x → All P all
all_push P xs all x is each last = subst (All P) (sym is) (All-push P xs x each last)

-- where one element goes from the front of one list to the end of another, the values of both lists stay
pub moved : {A B C : Type 0} (f : A → C) (h : B → C) (xs ys : List A) (from rest : List B) (x : A) (y : B) (all : List C) → ys ≡ xs ++ x ∷ [] → from ≡ y ∷ rest → f x ≡ h y → map f xs ++ map h from ≡ all
    → map f ys ++ map h rest ≡ all
moved f h xs ys from rest x y all is was same sum =
    ap (λ l. map f l ++ map h rest) is ∙ ap (λ l. l ++ map h rest) (map-append f xs (x ∷ [])) ∙ append_assoc (map f xs) (f x ∷ []) (map h rest) ∙ ap (λ c. map f xs ++ (c ∷ map h rest)) same
    ∙ ap (λ l. map f xs ++ map h l) (sym was) ∙ sum
