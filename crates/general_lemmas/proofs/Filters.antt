-- What a filter leaves of a list.
use Rattle.std.proofs.Common.{◌≡◌, inl, inr, Bool, true, false, cond, filter, List, [], ◌∷◌, Contains, refl, sym, ap, subst, ◌∙◌, arith}
use Rattle.general_lemmas.proofs.Membership.{first_in, later_in, cases_in}

-- what is left by a filter was there
pub filter_in : {X : Type 0} (p : X → Bool) (ds : List X) (x : X) → Contains (filter p ds) x → Contains ds x
filter_in p [] x h = h
filter_in {X} p (d ∷ ds) x h = by (filter_in p ds x) (p d) h
  where
    by : (Contains (filter p ds) x → Contains ds x) → (b : Bool) → Contains (cond b (d ∷ filter p ds) (filter p ds)) x → Contains (d ∷ ds) x
    by tail true g = elim (cases_in d (filter p ds) x g) [
      | inl e ↦ subst (Contains (d ∷ ds)) e (first_in d ds)
      | inr r ↦ later_in d ds x (tail r)
    ]
    by tail false g = later_in d ds x (tail g)

-- what is left by a filter passes its test
pub passes : {X : Type 0} (p : X → Bool) (xs : List X) (x : X) → Contains (filter p xs) x → p x ≡ true
passes p [] x h = absurd (omega (arith, h.1))
passes {X} p (y ∷ ys) x h = by (passes p ys x) (p y) refl h
  where
    by : (Contains (filter p ys) x → p x ≡ true) → (b : Bool) → p y ≡ b → Contains (cond b (y ∷ filter p ys) (filter p ys)) x → p x ≡ true
    by tail true e h = elim (cases_in y (filter p ys) x h) [
      | inl q ↦ sym (ap p q) ∙ e
      | inr r ↦ tail r
    ]
    by tail false e h = tail h

-- what passes the test of a filter is in it
pub filter_has : {X : Type 0} (p : X → Bool) (xs : List X) (x : X) → Contains xs x → p x ≡ true → Contains (filter p xs) x
filter_has p [] x h q = h
filter_has {X} p (y ∷ ys) x h q = elim (cases_in y ys x h) [
  | inl e ↦ subst (λ b. Contains (cond b (y ∷ filter p ys) (filter p ys)) x) (sym (ap p e ∙ q)) (subst (Contains (y ∷ filter p ys)) e (first_in y (filter p ys)))
  | inr r ↦ kept (p y) (filter_has p ys x r q)
]
  where
    kept : (b : Bool) → Contains (filter p ys) x → Contains (cond b (y ∷ filter p ys) (filter p ys)) x
    kept true h = later_in y (filter p ys) x h
    kept false h = h
