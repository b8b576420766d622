-- How many places aren't used again, by the spent ids.
use Rattle.std.proofs.Common.{◌≡◌, ℕ, ◌&&◌, nat_eq, sym, ap, ◌∙◌}
use Rattle.std.specs.FinSet as set
use Rattle.op_arena.specs.Ids.{Id, id_cmp}
use Rattle.op_arena.proofs.IdOrder.{ids_exact, ids_total}
use Rattle.live_cells.specs.CellIds.{IdSet, retired_of}

-- none where no id is spent
pub none_retired : (last : ℕ) (spent : IdSet) → spent ≡ set.empty → retired_of last spent ≡ 0
none_retired last spent e = ap (retired_of last) e ∙ ap set.len (set.same_set ids_total ids_exact _ _ (λ q.
    set.contains-retain (set.empty {R = id_cmp}) (λ id. nat_eq id.generation last) q (λ x h. ap (λ (i : Id). nat_eq i.generation last) (sym (ids_exact q x h)))
    ∙ ap (λ b. b && nat_eq q.generation last) (set.contains-empty id_cmp q) ∙ sym (set.contains-empty id_cmp q))) ∙ set.len-empty id_cmp
