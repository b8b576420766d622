-- Tasks that are done: one more.
use Rattle.std.proofs.Common.{◌≡◌, ◌∙◌, ℕ, List, [], ◌∷◌, ◌++◌, Some, length, length-append, slice_get, sym, subst, ⊎_elim, arith}
use Rattle.std.proofs.lemmas.Option.{same_Some, slice_get_within}
use Rattle.launcher.specs.Tasks.{HaveDone}
use Rattle.launcher.proofs.PlaceLemmas.{got_push}

-- one task more
pub done_push : {T P O : Type 0} (Does : T → P → O → P → Type 0) (tasks : List T) (old passes all : List P) (outputs outputs_all : List O) (task : T) (before after : P) (output : O)
    → all ≡ passes ++ after ∷ [] → outputs_all ≡ outputs ++ output ∷ [] → slice_get tasks (length passes) ≡ Some task → slice_get old (length passes) ≡ Some before
    → Does task before output after → HaveDone Does tasks old passes outputs → HaveDone Does tasks old all outputs_all
done_push {T} {P} {O} Does tasks old passes all outputs outputs_all task before after output more more_outputs is was_is does was =
    subst (λ p. HaveDone Does tasks old p outputs_all) (sym more) (subst (HaveDone Does tasks old (passes ++ after ∷ [])) (sym more_outputs) (record {
      number = omega (arith, was.number, length-append passes (after ∷ []), length-append outputs (output ∷ []));
      each = λ place t b p o of from at there. ⊎_elim
          (λ earlier. ⊎_elim
          (λ earlier_output. was.each place t b p o of from earlier earlier_output)
          (λ last_output. absurd (let low = slice_get_within passes place p earlier in let here = last_output.0 in let long = was.number in omega (arith, low, here, long)))
          (got_push outputs output o place there))
          (λ last. ⊎_elim
          (λ earlier_output. absurd (let low = slice_get_within outputs place o earlier_output in let here = last.0 in let long = was.number in omega (arith, low, here, long)))
          (λ last_output.
          let same : task ≡ t = same_Some task t (sym is ∙ subst (λ n. slice_get tasks n ≡ Some t) last.0 of) in
          let same_before : before ≡ b = same_Some before b (sym was_is ∙ subst (λ n. slice_get old n ≡ Some b) last.0 from) in
          subst (λ q. Does t b o q) last.1
          (subst (λ r. Does t b r after) last_output.1
          (subst (λ s. Does t s output after) same_before
          (subst (λ s. Does s before output after) same does))))
          (got_push outputs output o place there))
          (got_push passes after p place at);
    }))
