-- Tasks that are done at a desk.
use Rattle.std.proofs.Common.{◌≡◌, ◌∙◌, ◌<◌, ℕ, zero, suc, List, [], ◌∷◌, Some, length, slice_get, slice_index_or, refl, sym, ap, subst, arith}
use Rattle.std.proofs.lemmas.List.{get_or_default}
use Rattle.std.proofs.lemmas.Option.{get_or_from_slice_get, slice_get-get_or, slice_get_within}
use Rattle.launcher.specs.Tasks.{AreAllDone}
use Rattle.site_desk.specs.Passes.{AreAll, AreNewPasses, PassState, new_pass}
use Rattle.site_threads.specs.Tasks.{AreDone, DoesTasks}

-- each place of a list has an element
got_some : {E : Type 0} (xs : List E) (place : ℕ) → place < length xs → (x : E) × (slice_get xs place ≡ Some x)
got_some [] place low = absurd (omega (arith, low))
got_some (y ∷ ys) zero low = (y, refl)
got_some (y ∷ ys) (suc place) low = got_some ys place (omega (arith, low))

-- the pass at a place of new passes
pub new_at : (n : ℕ) (passes : List PassState) (place : ℕ) (pass : PassState) → AreNewPasses n passes → slice_get passes place ≡ Some pass → pass ≡ new_pass place
new_at n passes place pass new at =
    let low = slice_get_within passes place pass at in
    sym (get_or_from_slice_get passes place pass pass at) ∙ new.each place pass (let long = new.count in omega (arith, low, long))

-- tasks that are done at a place by new passes are done as they say
pub all_done : {T O : Type 0} (Does : T → PassState → O → PassState → Type 0) (Gives : T → ℕ → List (List ℕ) → PassState → O → PassState → Type 0) (site : ℕ) (names : List (List ℕ)) (n : ℕ) (tasks : List T) (old passes : List PassState) (outputs : List O)
    → DoesTasks Does Gives site names → AreNewPasses n old → n ≡ length tasks → AreAllDone Does tasks old passes outputs → AreDone Gives site names tasks passes outputs
all_done {T} {O} Does Gives site names n tasks old passes outputs gives new long are = record {
  all = are.all;
  given = record {
    number = are.done.number;
    order = λ place pass at.
        let low = slice_get_within passes place pass at in
        let task = got_some tasks place (let e = are.all in omega (arith, low, e)) in
        let before = got_some old place (let e = are.all in let f = new.count in omega (arith, low, e, f, long)) in
        let output = got_some outputs place (let e = are.done.number in omega (arith, low, e)) in
        (gives task.0 before.0 output.0 pass (are.done.each place task.0 before.0 pass output.0 task.1 before.1 at output.1)).0
        ∙ ap (λ (p : PassState). p.ordinal) (new_at n old place before.0 new before.1);
    each = λ place task pass output is at there.
        let low = slice_get_within passes place pass at in
        let before = got_some old place (let e = are.all in let f = new.count in omega (arith, low, e, f, long)) in
        subst (λ b. Gives task site names b output pass) (new_at n old place before.0 new before.1)
        (gives task before.0 output pass (are.done.each place task before.0 pass output is before.1 at there)).1;
  };
}

-- passes in order are all passes of their desk
pub order_all : (n : ℕ) (passes : List PassState) → length passes ≡ n → ((place : ℕ) (pass : PassState) → slice_get passes place ≡ Some pass → pass.ordinal ≡ place) → AreAll n passes
order_all n passes long order = record {
  count = long;
  each = λ ordinal low. let none : PassState = record { ordinal = 0; share = 0; seen = 0 } in
      let within : ordinal < length passes = omega (arith, long, low) in
      (ordinal, slice_index_or passes ordinal none, within, get_or_default passes ordinal _ none within, order ordinal (slice_index_or passes ordinal none) (slice_get-get_or passes ordinal none within));
}
