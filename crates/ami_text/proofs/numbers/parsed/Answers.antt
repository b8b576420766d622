use Rattle.std.proofs.Common.{◌≡◌, ℕ, Option, Result, Ok, Err, SomeIff, subst, sym}
use Rattle.std.specs.Result.{OkIff, result_ok}
use Rattle.std.proofs.lemmas.Str.Parse.{parse_digits}
use Rattle.ami_text.proofs.Digits.{own_digits}
use Rattle.ami_text.proofs.numbers.parsed.Goals as goal

found_so : {E : Type 0} (r : Result ℕ E) (found : Option ℕ) (P Q : Type 0) (n : ℕ) → found ≡ result_ok r → OkIff r (P × Q) n → P → SomeIff found Q n
found_so (Ok m) found P Q n is h p = subst (λ o. SomeIff o Q n) (sym is) (h.0.1, h.1)
found_so (Err e) found P Q n is h p = subst (λ o. SomeIff o Q n) (sym is) (λ q. h (p, q))

pub returns : goal.returns
returns c =
    found_so c.parse.result c.ok.result _ _ _ c.ok.ensures.value (parse_digits own_digits 64 c.args.text.now c.parse.result c.parse.ensures.value.0 c.requires.digits) c.requires.some
