use Rattle.std.proofs.Common.{sym, ◌∙◌}
use Rattle.ami_text.proofs.Digits.{is_number}
use Rattle.ami_text.proofs.numbers.number_in.Goals as goal

pub returns : goal.returns
returns c =
    let word = c.args.word.now in
    is_number c.args.most word c.number_of.result c.requires c.if-word-most.false (sym c.is_empty.ensures ∙ c.if-is_empty.false) (sym c.are_digits.ensures ∙ c.if-not-are_digits.false)
    c.number_of.ensures
