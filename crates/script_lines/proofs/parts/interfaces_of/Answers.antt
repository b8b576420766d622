use Rattle.std.proofs.Common.{◌<◌, ◌++◌, length, sym, ◌∙◌, ap, subst, append-nil}
use Rattle.std.specs.List.{filter_map}
use Rattle.std.specs.Option.{option_copied}
use Rattle.ami_session.specs.FieldValues.{name_of}
use Rattle.script_lines.specs.ScriptLines.{parts_of}
use Rattle.script_lines.proofs.TriedParts.{fewer_left, kept, left_out, length_left}
use Rattle.script_lines.proofs.parts.interfaces_of.Goals as goal

pub parts-init : goal.parts-init
parts-init c = ap (λ items. items ++ filter_map name_of (parts_of (option_copied c.args.parts))) c.new-tried.ensures.items

pub parts-smaller-in_ok-push : goal.parts-smaller-in_ok-push
parts-smaller-in_ok-push c = subst (λ n. length_left c.cut_at_bar.result.1 < n) (sym (ap length_left c.in-Some.is)) (fewer_left c.cut_at_bar.result.1 (length c.in-Some.rest.now) c.cut_at_bar.ensures.shorter)

pub parts-preserved-in_ok-push : goal.parts-preserved-in_ok-push
parts-preserved-in_ok-push c =
    let tried = c.parts.tried.items in
    let others = parts_of (option_copied c.cut_at_bar.result.1) in
    ap (λ items. items ++ filter_map name_of others) c.in_ok-push.ensures.items
    ∙ kept tried c.cut_at_bar.result.0.now c.in-Some-interface_of.interface others (sym c.interface_of.ensures ∙ c.in-Some-interface_of.is)
    ∙ ap (λ all. tried ++ filter_map name_of all) (sym c.cut_at_bar.ensures.parts)
    ∙ ap (λ left. tried ++ filter_map name_of (parts_of (option_copied left))) (sym c.in-Some.is) ∙ c.parts.invariant

pub parts-smaller : goal.parts-smaller
parts-smaller c = subst (λ n. length_left c.cut_at_bar.result.1 < n) (sym (ap length_left c.in-Some.is)) (fewer_left c.cut_at_bar.result.1 (length c.in-Some.rest.now) c.cut_at_bar.ensures.shorter)

pub parts-preserved : goal.parts-preserved
parts-preserved c =
    let tried = c.parts.tried.items in
    let others = parts_of (option_copied c.cut_at_bar.result.1) in
    left_out tried c.cut_at_bar.result.0.now others (sym c.interface_of.ensures ∙ c.in_default-interface_of.is)
    ∙ ap (λ all. tried ++ filter_map name_of all) (sym c.cut_at_bar.ensures.parts)
    ∙ ap (λ left. tried ++ filter_map name_of (parts_of (option_copied left))) (sym c.in-Some.is) ∙ c.parts.invariant

pub returns : goal.returns
returns c =
    sym (append-nil c.parts.tried.items) ∙ ap (λ left. c.parts.tried.items ++ filter_map name_of (parts_of (option_copied left))) (sym c.in_default.is) ∙ c.parts.invariant
