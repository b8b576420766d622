-- `write` lends the value of one place, and the places follow it. Assumes `Logic`.
use Rattle.std.proofs.Common.{◌≡◌, ℕ, ◌+◌, ◌*◌, ◌^◌, ◌<◌, List, [], ◌∷◌, length, get_or, refl, sym, ap, ◌∙◌, subst, arith, w64, Some, None}
use lib.ListN.{length-set}
use seplogic.Ra.Ura.{Ura}
use mir.Syntax.{a_type, named}
use mir.Val.{Val, vptr, vint}
use mir.MapTy.{inst_fn}
use base.Fraction.{full_share}
use base.Logic.{SProp, ent, sep, emp, never, id⊢}
use base.Fml.{Lft, GName, Share, Fml, ftrue, fsep, flft}
use types.Logic.{Logic, sem}
use types.Kit.{‵, raw, ◌⊛◌, some, later, at_ret, ◌$◌, ◌∵◌, !, qed, by, move, keep, drop, use1, use2, split, split3, join, pick, await, group, rewrite, fsplit, fsplit3, fjoin, fjoin3, fpack, flt_l, flt_i, use0, done}
use types.Run.{stop, fld, load, addr, size_lit, bin, of_opd, first, blocks, exec, returns, enter}
use types.ByLocal.{alloc_all, pass_all, free_all, look_at, get, through, sets, sets_last, env}
use types.Part.{sub, whole, look_in}
use contract.Running.{tables}
use contract.Monad.{fact, fact_i}
use contract.BorrowLft.{◌⊑◌}
use denote.Exit.{yes, no}
use denote.RattleType.{RattleType, owns}
use denote.Signature.{types_at, plain, mut_ref_to}
use denote.RawPtr.{Ptr, block_ptr, in_a_block}
use denote.Steps.{nothing, heard, peeks, opens}
use denote.Laws.{Is, shows}
use denote.Memory.{cell_at, mem, part_of}
use denote.Param.{param, layouts}
use denote.Plain.{uint_vals, uint_Tells}
use denote.Builtin.{usize}
use denote.Follow.{follows, Part, lends_Part}
use denote.Ref.{MutBor, MutRef, mut_vals, mut_Tells}
use denote.Triple.Walked.{Stays, stay_dropped, walk_of, Goes-dropped, Goes-spent_ref}
use Rattle.std.proofs.raw_atomic.Walks.{proved, leaves}
use Rattle.std.specs.Mem.{type_size}
use Rattle.std.specs.Prelude.{Option}
use Rattle.core.proofs.atomic.Steps.{tail}
use Rattle.core.proofs.mem.Param.{El}
use Rattle.core.proofs.ptr.Rows.{times_below, one_below}
use Rattle.op_arena.specs.CellRows.{Holds, owns_place, owns_row, owns_places}
use Rattle.op_arena.specs.RowLends.{with_value}
use Rattle.op_arena.specs.contracts.places.Places as places
use Rattle.op_arena.specs.contracts.places.Places.write.{ended, clauses}
use Rattle.op_arena.specs.contracts.places.Places.write.Key.{name as #self}
use Rattle.op_arena.proofs.RowSteps.{Data, data_val, told, within, Besides, place_out, place_back}
use Rattle.op_arena.proofs.places.Places.write.Statement.{statement}
use Rattle.op_arena.proofs.places.Places.write.Code as code

module _ (E : El) {M : Type 1} {𝓤 : Ura M} (𝓛 : Logic 𝓤) (rb ro : ℕ) (d : (places.the_row (param 0 E.row)).Denot) (i : ℕ) (vs : List Val) (b o : ℕ) where
  abbrev R : RattleType
  R = param 0 E.row

  abbrev Self : RattleType
  Self = places.the_row R

  abbrev s : ℕ
  s = type_size R

  -- all but the value
  abbrev Rest : Fml
  Rest = fsep (Besides E b o d.slots i) (fsep ((Data R).own_val (d.first, tt) vs) (cell_at full_share Self.mir vs rb ro))

  -- with any value in its place, the places are whole again
  whole_again : d.first ≡ block_ptr b o → i < length d.slots → length d.slots * s < 2 ^ 63
      → (w : E.row.Denot) → ent 𝓤 (sep 𝓤 (sem 𝓛 ((mem R).own_at w b (i * s + o))) (sem 𝓛 Rest)) (sem 𝓛 ((mem Self).own_at (with_value d i w) rb ro))
  unfolding part_of
  whole_again e lt small w =
      let new : Self.Denot = with_value d i w in
      qed 𝓛 (‵ (owns_place R b (i * s + o) (Some w)) ∷ ‵ Rest ∷ []) ∵ move ! (1 ∷ []) $ fsplit3 ! $ move ! (3 ∷ 0 ∷ []) $
      use2 𝓛 (‵ (owns_row R b o new.slots)) (place_back E 𝓛 b o d.slots i (i * s + o) lt refl (Some w)) $
      flt_i ! (length new.slots * s) (2 ^ 63) (subst (λ (k : ℕ). k * s < 2 ^ 63) (sym (length-set d.slots i (Some w))) small) $ fjoin ! $
      rewrite ! 0 (λ (p : Ptr). ‵ (owns_places R p new.slots)) (sym e) refl $ move ! (1 ∷ 0 ∷ []) $ fjoin ! $ move ! (1 ∷ 0 ∷ []) $ fjoin ! $
      fpack ! (List Val) (λ us. fsep (cell_at full_share Self.mir us rb ro) (Self.own_val new us)) vs $ done !

pub write_spec : {M : Type 1} → statement M
write_spec 𝓤 𝓛 𝓜 𝓡 wired T laws =
    let H = 𝓛.H in let 𝓣 = tables 𝓤 H 𝓜 𝓡 𝓡.env in let R : RattleType = param 0 T in let E : El = record { row = T; laws = laws } in
    let En = ended T in let inst = layouts (a_type ∷ []) (T, tt) in let fn = inst_fn inst code.function in
    let Self : RattleType = places.the_row R in let D : RattleType = Data R in let c = clauses T 𝓛 𝓜.mem 𝓡.returns in
    let hs : Stays En.signature.params En.kept = (stay_dropped (mut_ref_to (0 ∷ []) tt (plain (λ _. Self))) no, (stay_dropped (plain (λ _. usize)) yes, tt)) in
    proved 𝓛 En hs c 𝓜 𝓡 (Goes-spent_ref 𝓛 2 (0 ∷ []) tt (plain (λ _. Self)), (Goes-dropped 𝓛 2 (plain (λ _. usize)) yes (λ κs x f. refl), tt))
    (#self inst) fn (code.unfolded 𝓤 H 𝓜 𝓡 wired (T, tt)) (λ κs. (mut_vals, (uint_vals w64, tt))) (λ κs. (mut_Tells (named 0) κs.0 Self, (uint_Tells w64, tt))) (λ κs qs bounds a gh are.
    let rb : ℕ = a.0.ref_ptr.0 in let ro : ℕ = a.0.ref_ptr.1 in let γ : GName = a.0.ghost_name in let κ : Lft = κs.0 in let q : Share = qs.0 in let d : Self.Denot = a.0.now in let i : ℕ = a.1.0 in
    let others : Fml = fsep (flft κs.1.0 qs.1.0) ftrue in let Asked : Type 0 = Holds d.slots i in let new : T.Denot → Self.Denot = with_value d i in
    let y : (walk_of 𝓛 En hs c).Ghost = ((κs, qs, bounds, a, (vptr rb ro ∷ [], (vint w64 i ∷ [], tt))), gh) in let Post : Val → SProp 𝓤 = (walk_of 𝓛 En hs c).post y in
    qed 𝓛 (((‵ (flft κ q) ⊛ ‵ others) ⊛ ‵ (owns (types_at En.signature.params κs) a y.0.4)) ∷ (raw (fact 𝓤 (κs.1.0 ⊑ T.lives)) ⊛ raw (fact 𝓤 Asked)) ∷ []) ∵
    move ! (1 ∷ []) $ split ! $ drop ! $ heard ! Asked (λ asked. let x = asked.0 in let lt = within d.slots i x asked.1 in
    split ! $ split ! $ move ! (2 ∷ []) $ fsplit ! $ fsplit3 ! $ keep ! (1 ∷ 2 ∷ 4 ∷ 5 ∷ []) $
    -- [obs; the borrow; its token; the other tokens]
    enter ! 𝓣.C 𝓣.Λ fn (vptr rb ro ∷ vint w64 i ∷ []) Post $ alloc_all ! (λ l. pass_all ! refl ((tt, tt), ((tt, record { fits = are.1.0.1 }), tt)) $ let Ev = env fn.locals l in
    opens ! tt Self {h = d} rb ro (λ vs. move ! (1 ∷ []) $ fsplit ! $ peeks ! D (Is D) (shows 𝓛 D) (d.first, tt) vs (λ is. move ! (1 ∷ []) $
    in_a_block ! d.first (λ p. owns_places R p d.slots) (id⊢ 𝓤 (never 𝓤)) (λ b o e. fsplit ! $ flt_l ! (λ small.
    let s = type_size R in let tiny : s < 2 ^ 64 = omega (arith, one_below (length d.slots) s (2 ^ 63) (omega arith) small) in
    let far : i * s < 2 ^ 64 = omega (arith, times_below i (length d.slots) s (2 ^ 63) (omega arith) small) in let at = i * s + o in
    let ev : vs ≡ data_val (block_ptr b o) ∷ [] = told R d.first vs is ∙ ap (λ (p : Ptr). data_val p ∷ []) e in
    rewrite ! 2 (λ (ws : List Val). ‵ (cell_at full_share Self.mir ws rb ro)) ev refl $
    use1 𝓛 (‵ (owns_place R b at (get_or d.slots i None)) ⊛ ‵ (Besides E b o d.slots i)) (place_out E 𝓛 b o d.slots i at lt refl) $ split ! $
    rewrite ! 0 (λ (p : Option T.Denot). ‵ (owns_place R b at p)) asked.1 refl $
    -- [the value; the other places; the pointer; its cell; the open borrow; obs; auth; the other tokens]
    first ! $ blocks ! $
    sets ! (of_opd ! (load ! (through ! refl (fld ! refl (stop !))) (look_in ! 3 (sub ! 0 refl (whole !))))) refl (tt, tt) $
    sets ! (bin ! (get ! refl) (size_lit ! (record { fits = tiny })) (record { fits = far })) refl (tt, record { fits = far }) $
    sets ! (bin ! (get ! refl) (get ! refl) tt) refl (tt, tt) $
    sets_last ! (addr ! (through ! refl (stop !))) refl (tt, tt) $ exec ! 𝓣.C 𝓣.Λ Ev (tail fn.body) (at_ret Ev Post) $ sets ! (of_opd ! (get ! refl)) refl (tt, tt) $
    rewrite ! 3 (λ (ws : List Val). ‵ (cell_at full_share Self.mir ws rb ro)) (sym ev) refl $
    move ! (1 ∷ 2 ∷ 3 ∷ []) $ fjoin3 ! $ move ! (2 ∷ 3 ∷ 4 ∷ 1 ∷ 0 ∷ []) $ group ! 5 $
    let rest : SProp 𝓤 = sem 𝓛 (Rest E 𝓛 rb ro d i vs b o) in let way = whole_again E 𝓛 rb ro d i vs b o e lt small in let before = Self.coded.code d in
    use1 𝓛 (later (some (λ (δ : GName). raw (Part 𝓛 Self R new (named 0) κ q rb ro b at γ rest way x δ)))) (lends_Part 𝓛 Self R new (named 0) κ q rb ro b at γ rest way before before x) $ await ! tt $ pick ! (λ δ.
    let r : MutBor T.Denot = record { ref_ptr = (b, at); ghost_name = δ; now = x } in
    use1 𝓛 (‵ ((MutRef (named 0) κ R).own_val r (vptr b at ∷ [])) ⊛ ‵ (flft κ q) ⊛ ‵ (follows Self R γ δ new)) (id⊢ 𝓤 _) $ split3 ! $
    -- [the `&mut`; the token; what follows; the other tokens]
    move ! (1 ∷ 3 ∷ []) $ join ! $ let Told : Type 0 = get_or d.slots i None ≡ Some x in use0 𝓛 (raw (fact 𝓤 Told)) (fact_i 𝓤 Told (emp 𝓤) asked.1) $
    move ! (3 ∷ 0 ∷ []) $ join ! $ nothing ! $ nothing ! $ fjoin ! $ nothing ! $ fjoin ! $
    returns ! (look_at ! 0 refl) $ free_all ! refl $ keep ! (2 ∷ 0 ∷ 3 ∷ 1 ∷ []) $
    by ! (leaves 𝓛 En hs c y (vptr b at) r (tt, (tt, tt)) (tt, (tt, tt)))))))))))
