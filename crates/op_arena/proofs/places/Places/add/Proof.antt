-- `add` takes memory from the allocator and cuts it into empty places. Assumes `Logic`.
use Rattle.std.proofs.Common.{◌≡◌, ℕ, ◌*◌, ◌^◌, ◌<◌, [], ◌∷◌, length, replicate, refl, sym, ap, subst, arith, lit<, w64, None, true, false}
use lib.ListN.{length-replicate}
use mir.Syntax.{Ty, Args, a_type, ty_array, dcons, dnil, named}
use mir.Val.{Val, vptr, vint, vstruct, vcons, vnil}
use mir.MapTy.{inst_fn}
use base.Logic.{SProp, ent, emp, id⊢}
use base.Fml.{Lft, Share, Fml, ftrue, fsep, froom, flft}
use prog.Memory.{align, capped}
use prog.Capped.{capped_fits}
use contract.BorrowLft.{◌⊑◌, ⊑_trans}
use contract.Monad.{fact, fact_i}
use contract.Running.{tables}
use types.Kit.{⋆, ‵, raw, ◌⊛◌, later, at_ret, ◌$◌, ◌∵◌, !, qed, by, move, keep, drop, use0, use1, use2, split, split3, join, fsplit, fjoin, flt_i, await}
use types.Match.{live, vrt, in_variant}
use types.Run.{stop, fld, lit, bin, of_opd, no_more, and_then, size_word, align_word, first, switches_on, exec, returns, enter}
use types.ByLocal.{alloc_all, pass_all, free_all, look_at, get, get_in, get_tag, sets, sets_last, lands_as, is, env}
use types.Part.{whole, agg}
use denote.Exit.{yes}
use denote.RattleType.{RattleType, owns}
use denote.RawPtr.{Ptr, block_ptr}
use denote.Param.{param, bounded}
use denote.Plain.{uint_vals, uint_Tells}
use denote.Builtin.{RefOf, usize}
use denote.Ref.{shr_vals, shr_Tells}
use denote.Laws.{Is}
use denote.Signature.{types_at, plain}
use denote.Steps.{nothing, heard, owned}
use denote.Struct.Struct.{Struct, Struct-Makes}
use denote.Struct.Declared as Declared
use denote.Struct.Tuple.{Tuple}
use denote.Triple.Call.{calls_at}
use denote.Triple.Walked.{Stays, stay_dropped, walk_of, Goes-dropped}
use Rattle.std.proofs.raw_atomic.Walks.{proved, leaves}
use Rattle.std.specs.Mem.{type_size}
use Rattle.std.specs.Prelude.{IfOk, Ok, Err}
use Rattle.std.specs.Vec.Ownership.{FitsInBlock}
use Rattle.core.specs.contracts.result.Result as result
use Rattle.core.specs.contracts.alloc.AllocError as refusal
use Rattle.core.proofs.alloc.Calls.{Al, seen, Answer-typed, Takes, at_takes, Answered, Takes-goes, Takes-gives, answers}
use Rattle.core.proofs.alloc.Shapes.{after, head, arm_body}
use Rattle.core.proofs.atomic.Steps.{fm}
use Rattle.core.proofs.mem.Param.{El, elτ}
use Rattle.core.proofs.slots.Leases.{uncapped, block_ty, block_size, block_align}
use Rattle.std_alloc.proofs.Pairs as pairs
use Rattle.std_alloc.proofs.ResultValues.{ok_of, err_of}
use Rattle.op_arena.specs.CellRows.{owns_row}
use Rattle.op_arena.specs.contracts.places.Places as places
use Rattle.op_arena.specs.contracts.places.Lease as lease
use Rattle.op_arena.specs.contracts.places.Places.add.{ended, clauses}
use Rattle.op_arena.specs.contracts.places.Places.add.Key.{name as #self}
use Rattle.op_arena.proofs.RowSteps as places-steps
use Rattle.op_arena.proofs.LeaseSteps as lease-steps
use Rattle.op_arena.proofs.places.Places.add.Statement.{statement}
use Rattle.op_arena.proofs.places.Places.add.Code as code

pub add_spec : {M : Type 1} → statement M
add_spec 𝓤 𝓛 𝓜 𝓡 wired T A laws alloc_laws g d dd met md =
    let H = 𝓛.H in let 𝓣 = tables 𝓤 H 𝓜 𝓡 𝓡.env in let C = 𝓣.C in let Λ = 𝓣.Λ in let at_mem = 𝓜.mem in let run = 𝓡.returns in
    let R : RattleType = param 0 T in let B : RattleType = param 1 A in let E : El = record { row = T; laws = laws } in let Z : Al = record { row = A; laws = alloc_laws; g = g; d = d; drops = dd } in
    let inst : Args = bounded (a_type ∷ a_type ∷ []) (T, (A, tt)) (dcons d (dcons dd dnil)) in let fn = inst_fn inst code.function in
    let En = ended T A g d dd in let c = clauses T A g d dd 𝓛 at_mem run in
    let PlacesOf : RattleType = places.the_row R in let LeaseOf : RattleType = lease.the_row R B g in let Both : RattleType = Tuple (PlacesOf ∷ LeaseOf ∷ []) in let Out : RattleType = result.the_row Both refusal.the_row in
    let alloc = RefOf (0 ∷ []) tt (plain (λ _. B)) (λ _. tt) in
    let hs : Stays En.signature.params En.kept = (stay_dropped alloc yes, (stay_dropped (plain (λ _. usize)) yes, tt)) in
    proved 𝓛 En hs c 𝓜 𝓡 (Goes-dropped 𝓛 3 alloc yes (λ κs x f. refl), (Goes-dropped 𝓛 3 (plain (λ _. usize)) yes (λ κs x f. refl), tt))
    (#self inst) fn (code.unfolded 𝓤 H 𝓜 𝓡 wired (T, (A, tt)) d dd) (λ κs. (shr_vals, (uint_vals w64, tt))) (λ κs. (shr_Tells (named 0) κs.0 B, (uint_Tells w64, tt))) (λ κs qs bounds a gh are.
    let rb : ℕ = a.0.ref_ptr.0 in let ro : ℕ = a.0.ref_ptr.1 in let κ : Lft = κs.0 in let q : Share = qs.0 in let h : A.Denot = a.0.now in let n : ℕ = a.1.0 in
    let others : Fml = fsep (flft κs.1.0 qs.1.0) (fsep (flft κs.1.1.0 qs.1.1.0) ftrue) in let Asked : Type 0 = FitsInBlock R n in
    let y : (walk_of 𝓛 En hs c).Ghost = ((κs, qs, bounds, a, (vptr rb ro ∷ [], (vint w64 n ∷ [], tt))), gh) in let Post : Val → SProp 𝓤 = (walk_of 𝓛 En hs c).post y in
    let Gives : Out.Denot → Type 0 = λ r. IfOk r (λ t. (t.0.slots ≡ replicate n None) × (t.1.first ≡ t.0.first) × (t.1.count ≡ n) × (t.1.alloc ≡ h)) in
    let out : (r : Out.Denot) (v : Val) → Gives r → ent 𝓤 (⋆ 𝓛 (‵ (Out.own_val r (v ∷ [])) ∷ ‵ (flft κ q) ∷ ‵ others ∷ [])) (Post v) = λ r v gives.
    qed 𝓛 (‵ (Out.own_val r (v ∷ [])) ∷ ‵ (flft κ q) ∷ ‵ others ∷ []) ∵ move ! (1 ∷ 2 ∷ []) $ join ! $
    use0 𝓛 (raw (fact 𝓤 (Gives r))) (fact_i 𝓤 (Gives r) (emp 𝓤) gives) $ nothing ! $ nothing ! $ fjoin ! $ nothing ! $ fjoin ! $ move ! (2 ∷ 0 ∷ 3 ∷ 1 ∷ []) $
    by ! (leaves 𝓛 En hs c y v r (tt, (tt, tt)) (tt, (tt, tt))) in
    qed 𝓛 (((‵ (flft κ q) ⊛ ‵ others) ⊛ ‵ (owns (types_at En.signature.params κs) a y.0.4)) ∷ (raw (fact 𝓤 (κs.1.0 ⊑ T.lives)) ⊛ raw (fact 𝓤 (κs.1.1.0 ⊑ A.lives)) ⊛ raw (fact 𝓤 Asked)) ∷ []) ∵
    move ! (1 ∷ []) $ split3 ! $ drop ! $ heard ! (κs.1.1.0 ⊑ A.lives) (λ lives. heard ! Asked (λ asked.
    split ! $ split ! $ move ! (2 ∷ []) $ fsplit ! $ fsplit ! $ keep ! (1 ∷ 3 ∷ 4 ∷ []) $ use1 𝓛 (‵ (seen Z κ (rb, ro) h)) (id⊢ 𝓤 _) $
    -- [the `&` to the allocator; its token; the other tokens]
    let s = type_size R in let small : n * s < 2 ^ 63 = asked.0 in let bytes : n * s < 2 ^ 64 = omega arith in let al : ℕ = capped (align (elτ E)) in
    let τ : Ty = block_ty E n in let w = at_takes Z 𝓛 at_mem run κ q (rb, ro) h (n * s) al τ in
    enter ! C Λ fn (vptr rb ro ∷ vint w64 n ∷ []) Post $ alloc_all ! (λ l. pass_all ! refl ((tt, tt), ((tt, record { fits = are.1.0.1 }), tt)) $ let Ev = env fn.locals l in
    let Then = lease-steps.then_runs 𝓛 C Λ Ev (after 3 fn.body) (at_ret Ev Post) in let arms = head (after 2 fn.body) in
    sets ! (is ! (bin ! (get ! refl) (size_word !) (record { fits = subst (λ (k : ℕ). k < 2 ^ 64) (sym (uncapped n s bytes)) bytes })) (ap (vint w64) (uncapped n s bytes))) refl (tt, record { fits = bytes }) $
    use2 𝓛 (raw ((Takes Z 𝓛 at_mem run).pre w))
    (Takes-goes Z 𝓛 at_mem run κ q (rb, ro) h (⊑_trans κ κs.1.1.0 A.lives bounds.0 lives) (n * s) al τ (block_size E n bytes) (block_align E n) bytes (capped_fits (align (elτ E)))) $
    calls_at ! (fm 𝓛 𝓜 𝓡) (Takes Z 𝓛 at_mem run) (met.allocate dd) w (and_then ! (get ! refl) (and_then ! (get ! refl) (and_then ! (align_word !) (no_more !)))) (λ v.
    use1 𝓛 (later (raw (Answered Z 𝓛 at_mem run h τ v) ⊛ ‵ (flft κ q))) (Takes-gives Z 𝓛 at_mem run κ q (rb, ro) h (n * s) al τ v) $ await ! tt $ split ! $
    answers Z ! at_mem run h τ v
    (λ b o e. let p : Ptr = block_ptr b o in
    let made : PlacesOf.Denot = record { first = p; slots = replicate n None } in let right : LeaseOf.Denot = record { marker = record {}; first = p; count = n; alloc = h } in
    let u : Val = pairs.pair_val (places-steps.data_val p) lease-steps.data_val in
    lands_as ! e refl (Answer-typed true b o) $ first ! $ switches_on ! (get_tag ! (vrt ! refl (fld ! refl (stop !))) (whole !)) $ exec ! C Λ Ev (arm_body 0 arms) Then $
    sets ! (of_opd ! (get_in ! (vrt ! refl (fld ! refl (stop !))) (in_variant ! 0 0 refl refl (whole !)))) refl (tt, tt) $ sets ! (of_opd ! (get ! refl)) refl (tt, tt) $
    sets ! (agg ! (and_then ! (get ! refl) (no_more !))) refl (tt, (tt, tt)) $ sets ! (of_opd ! (get ! refl)) refl (tt, (tt, tt)) $
    sets ! (agg ! (no_more !)) refl (tt, tt) $ sets ! (agg ! (and_then ! (get ! refl) (no_more !))) refl (tt, (tt, tt)) $
    sets ! (agg ! (and_then ! (get ! refl) (and_then ! (get ! refl) (no_more !)))) refl (tt, ((tt, tt), ((tt, tt), tt))) $
    sets_last ! (agg ! (and_then ! (lit ! tt) (and_then ! (get ! refl) (no_more !)))) refl (tt, (record { fits = lit< tt }, (((tt, tt), ((tt, tt), tt)), tt))) $
    exec ! C Λ Ev (after 3 fn.body) (at_ret Ev Post) $ sets ! (of_opd ! (get ! refl)) refl (tt, (record { fits = lit< tt }, (((tt, tt), ((tt, tt), tt)), tt))) $
    -- [the room; the allocator's token; the lifetime's; the other tokens]
    move ! (1 ∷ []) $ use0 𝓛 (‵ ((lease-steps.Data R B g).own_val (tt, tt) (lease-steps.data_val ∷ []))) (lease-steps.made R B g 𝓛) $ fjoin ! $ move ! (1 ∷ []) $
    use1 𝓛 (‵ (froom (ty_array (elτ E) n) b o)) (𝓛.laws.raw-room (ty_array (elτ E) n) b o) $ use1 𝓛 (‵ (owns_row R b o made.slots)) (places-steps.of_room E 𝓛 b n o) $
    flt_i ! (length made.slots * s) (2 ^ 63) (subst (λ (k : ℕ). k * s < 2 ^ 63) (sym (length-replicate n None)) small) $ fjoin ! $
    use0 𝓛 (‵ ((places-steps.Data R).own_val (p, tt) (places-steps.data_val p ∷ []))) (places-steps.made R 𝓛 p) $ fjoin ! $
    use2 𝓛 (‵ (Both.own_val (made, right) (u ∷ []))) (pairs.pair_of 𝓛 PlacesOf LeaseOf made right (places-steps.data_val p) lease-steps.data_val) $
    use1 𝓛 (‵ (Out.own_val (Ok (made, right)) (live 0 (vcons u vnil) ∷ []))) (ok_of 𝓛 Both refusal.the_row (made, right) u) $
    returns ! (look_at ! 0 refl) $ free_all ! refl $ keep ! (0 ∷ 1 ∷ 2 ∷ []) $ by ! (out (Ok (made, right)) (live 0 (vcons u vnil)) (refl, refl, refl, refl)))
    (λ e. let Refusal : RattleType = Struct (Declared.shape refusal.the_type) in let none : Val = live 1 (vcons (vstruct vnil) vnil) in
    lands_as ! e refl (Answer-typed false 0 0) $ first ! $ switches_on ! (get_tag ! (vrt ! refl (fld ! refl (stop !))) (whole !)) $ exec ! C Λ Ev (arm_body 1 arms) Then $
    sets ! (of_opd ! (get_in ! (vrt ! refl (fld ! refl (stop !))) (in_variant ! 1 0 refl refl (whole !)))) refl (tt, tt) $
    sets_last ! (agg ! (and_then ! (lit ! tt) (and_then ! (get ! refl) (no_more !)))) refl (tt, (record { fits = lit< tt }, (tt, tt))) $
    exec ! C Λ Ev (after 3 fn.body) (at_ret Ev Post) $ sets ! (of_opd ! (get ! refl)) refl (tt, (record { fits = lit< tt }, (tt, tt))) $
    owned ! Refusal (Is Refusal) (Struct-Makes 𝓛 (Declared.shape refusal.the_type) tt) tt (vstruct vnil ∷ []) (tt, (refl, tt)) $
    use1 𝓛 (‵ (Out.own_val (Err (record {})) (none ∷ []))) (err_of 𝓛 Both refusal.the_row (record {}) (vstruct vnil)) $
    returns ! (look_at ! 0 refl) $ free_all ! refl $ keep ! (0 ∷ 1 ∷ 2 ∷ []) $ by ! (out (Err (record {})) none tt)))))))
