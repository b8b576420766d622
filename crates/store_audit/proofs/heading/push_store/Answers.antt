use Rattle.std.proofs.Common.{◌≡◌, ap, subst, arith, false, length}
use Rattle.std.specs.List.{list_any}
use Rattle.std.proofs.lemmas.Result.{on_ok_weaker}
use Rattle.dots.specs.Values.{is_bad_byte}
use Rattle.store_audit.specs.Headings.{numbers_text}
use Rattle.store_audit.proofs.Comments.{store_comment}
use Rattle.store_audit.proofs.heading.push_store.Goals as goal

-- the line is a comment
pub returns-clause-comment : goal.returns-clause-comment
returns-clause-comment c =
    on_ok_weaker c.push_numbers.result
    (λ clean. store_comment c.args.store.now (let a = c.site_of.ensures.limit in let b = c.site_of.ensures.value in omega (arith, a, b)) c.in_ok-push_hex.ensures.clean
    (subst (λ n. list_any is_bad_byte (numbers_text c.args.store.now.starts n) ≡ false) (ap length c.steps.ensures) clean)) c.push_numbers.ensures.clean
