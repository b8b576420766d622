use Rattle.std.proofs.Common.{◌≡◌, ℕ, List, [], ◌∷◌, ◌++◌, ap, subst, sym, ◌∙◌, append_assoc, arith}
use Rattle.std.specs.FinMap as map
use Rattle.std.specs.List.{All, flat_map}
use Rattle.std.proofs.lemmas.List.Elements.{All-cons}
use Rattle.member_orset.specs.Reads.{cell_read}
use Rattle.delta_codec.specs.Parts.{CellParts, cell_bytes}
use Rattle.delta_codec.specs.Written.{IsWritten}
use Rattle.delta_codec.proofs.writing.put_cells.Goals as goal

written_more : (x : CellParts) (left rest : List CellParts) (old new all : List ℕ) → left ≡ x ∷ rest → new ≡ old ++ cell_bytes x → old ++ flat_map cell_bytes left ≡ all → new ++ flat_map cell_bytes rest ≡ all
written_more x left rest old new all step more so_far = ap (λ (b : List ℕ). b ++ flat_map cell_bytes rest) more ∙ append_assoc old (cell_bytes x) (flat_map cell_bytes rest) ∙ sym (ap (λ (xs : List CellParts). old ++ flat_map cell_bytes xs) step) ∙ so_far

within_more : (x : CellParts) (left rest entries : List CellParts) → left ≡ x ∷ rest → IsWritten x → (All IsWritten left → All IsWritten entries) → All IsWritten rest → All IsWritten entries
within_more x left rest entries step good so_far others = so_far (subst (λ (xs : List CellParts). All IsWritten xs) (sym step) (All-cons IsWritten x rest good others))

within_all : (left entries : List CellParts) → left ≡ [] → (All IsWritten left → All IsWritten entries) → All IsWritten entries
within_all left entries none so_far = so_far (subst (λ (xs : List CellParts). All IsWritten xs) (sym none) (λ k d lt. absurd (omega arith)))

pub loop-dot-preserved : goal.loop-dot-preserved
loop-dot-preserved c =
    let x : CellParts = (c.in-Some.dot, cell_read c.in-Some.cell) in
    let step = c.in-Some.ensures.steps in
    record {
      written = written_more x c.loop-dot.dot-iterator c.next.new.self c.loop-dot.out.items c.put_cell.new.out.items (c.args.out.now.items ++ flat_map cell_bytes (map.entries c.args.members.now.live)) step c.in_ok-put_cell.ensures.written c.loop-dot.invariant.written;
      within = within_more x c.loop-dot.dot-iterator c.next.new.self (map.entries c.args.members.now.live) step c.in_ok-put_cell.ensures.within c.loop-dot.invariant.within;
    }

pub returns-clause-within : goal.returns-clause-within
returns-clause-within c = within_all c.loop-dot.dot-iterator (map.entries c.args.members.now.live) c.in-None.ensures.steps.0 c.loop-dot.invariant.within
