-- What was launched and has ended: one more.
use Rattle.std.proofs.Common.{◌≡◌, ◌∙◌, ℕ, List, [], ◌∷◌, ◌++◌, Some, length, slice_get, sym, subst, ⊎_elim}
use Rattle.std.proofs.lemmas.Option.{same_Some}
use Rattle.launcher.specs.declared.sites.EndPromise.{EndPromise}
use Rattle.launcher.specs.Ends.{HaveAllEnded}
use Rattle.launcher.specs.Promises.{IsEndPromised}
use Rattle.launcher.proofs.PlaceLemmas.{got_push}

-- one more
pub ended_push : {X O : Type 0} (Ends : X → ℕ → O → Type 0) (limit : ℕ) (sites : List X) (outputs all : List O) (output : O) (promise : EndPromise X)
    → all ≡ outputs ++ output ∷ [] → IsEndPromised limit sites (length outputs) promise
    → Ends promise.site.value promise.limit output
    → HaveAllEnded Ends limit sites outputs → HaveAllEnded Ends limit sites all
ended_push {X} {O} Ends limit sites outputs all output promise more is has was place site o of at =
    let placed : Ends promise.site.value limit output = subst (λ m. Ends promise.site.value m output) is.limit_is has in
    ⊎_elim
    (λ old. was place site o of old)
    (λ last. let same : promise.site.value ≡ site = same_Some promise.site.value site (sym is.site_is ∙ subst (λ n. slice_get sites n ≡ Some site) last.0 of) in
    subst (λ x. Ends site limit x) last.1 (subst (λ s. Ends s limit output) same placed))
    (got_push outputs output o place (subst (λ l. slice_get l place ≡ Some o) more at))
