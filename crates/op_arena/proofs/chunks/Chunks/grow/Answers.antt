use Rattle.std.proofs.Common.{◌≡◌, ◌<◌, ◌^◌, ◌++◌, ◌∷◌, [], ◌∙◌, sym, ap, inl, inr, arith, length, length-append}
use Rattle.std.specs.Prelude.{◌⊎◌, suc}
use Rattle.op_arena.specs.Columns.{column}
use Rattle.op_arena.specs.Sizes.{size, total, all_items}
use Rattle.op_arena.proofs.Laying.{grown, next_size, total_below, total_limit}
use Rattle.op_arena.proofs.chunks.Chunks.grow.Goals.{then-self-eq0, else-self-eq0}
use Rattle.op_arena.proofs.chunks.Chunks.grow.Goals as goal

pub invariant_of-self-2 : goal.invariant_of-self-2
invariant_of-self-2 g c =
    let s = c.self.inside in let cs = s.chunks.items in let m = length cs in let added = c.if-self-eq0.size in let asked : s.capacity < 2 ^ 20 = rw (← c.self.view_is) at c.requires in
    let choice : ((s.capacity ≡ 0) × (added ≡ 1)) ⊎ ((s.capacity ≡ 0 → ⊥) × (added ≡ s.capacity)) =
    elim c.if-self-eq0.branch [ then-self-eq0 w ↦ inl (w.if-self-eq0.true, w.size-is) | else-self-eq0 w ↦ inr (w.if-self-eq0.false, w.size-is) ] in
    let next = next_size m s.capacity added c.self.invariant.1 choice in
    let items : c.push_reserved.new.self.items ≡ cs ++ column [] (size m) ∷ [] = c.push_reserved.ensures.items ∙ (λ i. c.reserve.ensures.items i ++ (c.in_ok-chunk.ensures ∙ ap (column []) next.0) i ∷ []) in
    let longer : length (cs ++ column [] (size m) ∷ []) ≡ suc m = omega (arith, length-append cs (column [] (size m) ∷ [])) in
    rw items ((grown 0 s.len m cs c.self.invariant.0 (omega arith)).0, next.1 ∙ ap total (sym longer), omega (arith, longer, total_below m c.self.invariant.2 (omega (arith, asked, c.self.invariant.1))))

pub returns-clause-items : goal.returns-clause-items
returns-clause-items g c =
    let s = c.self.inside in let cs = s.chunks.items in let m = length cs in let added = c.if-self-eq0.size in let asked : s.capacity < 2 ^ 20 = rw (← c.self.view_is) at c.requires in
    let choice : ((s.capacity ≡ 0) × (added ≡ 1)) ⊎ ((s.capacity ≡ 0 → ⊥) × (added ≡ s.capacity)) =
    elim c.if-self-eq0.branch [ then-self-eq0 w ↦ inl (w.if-self-eq0.true, w.size-is) | else-self-eq0 w ↦ inr (w.if-self-eq0.false, w.size-is) ] in
    let next = next_size m s.capacity added c.self.invariant.1 choice in
    let items : c.push_reserved.new.self.items ≡ cs ++ column [] (size m) ∷ [] = c.push_reserved.ensures.items ∙ (λ i. c.reserve.ensures.items i ++ (c.in_ok-chunk.ensures ∙ ap (column []) next.0) i ∷ []) in
    rw (← c.self.view_is) (ap all_items items ∙ (grown 0 s.len m cs c.self.invariant.0 (omega arith)).1)

pub returns-clause-limit : goal.returns-clause-limit
returns-clause-limit g c =
    let s = c.self.inside in let cs = s.chunks.items in let m = length cs in let added = c.if-self-eq0.size in let asked : s.capacity < 2 ^ 20 = rw (← c.self.view_is) at c.requires in
    let choice : ((s.capacity ≡ 0) × (added ≡ 1)) ⊎ ((s.capacity ≡ 0 → ⊥) × (added ≡ s.capacity)) =
    elim c.if-self-eq0.branch [ then-self-eq0 w ↦ inl (w.if-self-eq0.true, w.size-is) | else-self-eq0 w ↦ inr (w.if-self-eq0.false, w.size-is) ] in
    let next = next_size m s.capacity added c.self.invariant.1 choice in
    omega (arith, next.1, total_limit (suc m) (total_below m c.self.invariant.2 (omega (arith, asked, c.self.invariant.1))))
