-- `get` tests the pointer, and lends the block's value where there is one.
use Rattle.std.proofs.Common.{◌≡◌, ℕ, ◌+◌, List, [], ◌∷◌, ◌++◌, refl, sym, subst, lit<}
use Rattle.std.specs.Prelude.{Some, None}
use mir.Syntax.{Body, seq, assign, place, rv_opd, copy, aggregate, int, w8, a_type, named}
use mir.Val.{Val, vptr, vcons, vnil}
use mir.MapTy.{inst_fn}
use base.Logic.{SProp, ent, emp, id⊢}
use base.Fml.{Lft, Share, ftrue, flft}
use prog.Wp.{WpFn, Wp, after_seq, at_return}
use types.Kit.{‵, raw, ◌⊛◌, at_ret, any_q, ◌$◌, ◌∵◌, !, qed, by, move, keep, split, join, fsplit, fjoin, suffices, use0, use1, rewrite, feq_i, feq_l}
use types.Run.{look, stop, fld, hop, load, addr, lit, of_opd, bin, no_more, and_then, first, blocks, branches, exec, returns, enter}
use types.ByLocal.{alloc_all, pass_all, free_all, look_at, get, through, sets, sets_last, env}
use types.Part.{agg}
use types.Match.{live}
use contract.Monad.{fact, fact_i}
use contract.Running.{tables}
use denote.Exit.{yes}
use denote.RattleType.{RattleType, owns}
use denote.Signature.{types_at, type_at, plain}
use denote.Builtin.{RefOf}
use denote.Memory.{hidden_shr}
use denote.Ref.{ShrRef}
use denote.RawPtr.{Ptr, RawPtr, block_ptr, null_ptr, tests_null}
use denote.Opens.{unhide, hide}
use denote.Steps.{nothing}
use denote.Param.{param, layout, layouts}
use denote.Param.Laws.{param_laws}
use denote.Triple.Walked.{Stays, stay_dropped, walk_of, Goes-dropped}
use Rattle.std.proofs.alloc.Shapes.{after}
use Rattle.std.proofs.cell.Inside.{Good}
use Rattle.std.proofs.option.Made.{Some-of, none_of}
use Rattle.std.proofs.raw_atomic.Walks.{proved_at, leaves}
use Rattle.raw_frame.proofs.FrameValues.{pointer_good, FrameRow}
use Rattle.raw_frame.proofs.Peers.{pointer_in, pointer_out, either}
use Rattle.raw_frame.specs.contracts.frame.Frame.get.{ended, clauses}
use Rattle.raw_frame.specs.contracts.frame.Frame.get.Key.{name as #self}
use Rattle.raw_frame.proofs.frame.Frame.get.Statement.{statement}
use Rattle.raw_frame.proofs.frame.Frame.get.Code as code

-- the rest of the branch that found a pointer
abbrev wraps : Body
wraps = seq (assign (place 5 []) (rv_opd (copy (place 6 [])))) (assign (place 4 []) (aggregate (int w8 1 ∷ copy (place 5 []) ∷ [])))

pub get_spec : {M : Type 1} → statement M
get_spec 𝓤 𝓛 𝓜 𝓡 wired T L =
    let H = 𝓛.H in let 𝓣 = tables 𝓤 H 𝓜 𝓡 𝓡.env in let R : RattleType = param 0 T in let LR = param_laws 0 T L in let En = ended T in let c = clauses T 𝓛 𝓜.mem 𝓡.returns in
    let inst = layouts (a_type ∷ []) (T, tt) in let fn = inst_fn inst code.function in let F : RattleType = FrameRow R LR in
    let hs : Stays En.signature.params En.kept = (stay_dropped (RefOf (0 ∷ []) tt (plain (λ _. F)) (λ _. tt)) yes, tt) in
    proved_at 𝓛 En hs c 𝓜 𝓡 (Goes-dropped 𝓛 2 (RefOf (0 ∷ []) tt (plain (λ _. F)) (λ _. tt)) yes (λ κs x f. refl), tt) (#self inst) fn (code.unfolded 𝓤 H 𝓜 𝓡 wired (T, tt)) (λ z are.
    let κs = z.0.0 in let qs = z.0.1 in let Post : Val → SProp 𝓤 = (walk_of 𝓛 En hs c).post z in let Run : List Val → SProp 𝓤 = λ ws. WpFn 𝓤 H 𝓣.C 𝓣.Λ fn ws Post in let Out : RattleType = type_at En.signature.result κs in
    let b : ℕ = z.0.3.0.ref_ptr.0 in let o : ℕ = z.0.3.0.ref_ptr.1 in let d = z.0.3.0.now in let κ : Lft = κs.0 in let q : Share = qs.0 in let Ref : RattleType = ShrRef (named 0) κ R in
    let Cell = λ (p : Ptr). ‵ (hidden_shr RawPtr κ p b (o + 0)) in
    qed 𝓛 (((‵ (flft κ q) ⊛ ‵ (flft κs.1.0 qs.1.0) ⊛ ‵ ftrue) ⊛ ‵ (owns (types_at En.signature.params κs) z.0.3 z.0.4)) ∷ raw ((c κs z.0.3).requires z.1) ∷ []) ∵
    split ! $ split ! $ move ! (2 ∷ []) $ fsplit ! $ fsplit ! $ feq_l ! (λ e0. keep ! (0 ∷ 2 ∷ 3 ∷ []) $
    suffices ! (Run (vptr b o ∷ [])) (subst (λ (us : List Val). ent 𝓤 (Run (vptr b o ∷ [])) (Run us)) (sym (λ i. e0 i ++ [])) (id⊢ 𝓤 (Run (vptr b o ∷ [])))) $
    enter ! 𝓣.C 𝓣.Λ fn (vptr b o ∷ []) Post $ alloc_all ! (λ l. pass_all ! refl ((tt, tt), tt) $ let Ev = env fn.locals l in
    unhide ! $ fsplit ! $ fsplit ! $ fsplit ! $ hide ! $ move ! (3 ∷ []) $ either ! R κ d.at d.value
    -- [the pointer's `&`; two parts of the frame's; the token; the other token]
    (λ n e. rewrite ! 0 Cell n refl $ move ! (0 ∷ 3 ∷ []) $ pointer_in ! tt null_ptr b (o + 0) (λ s.
    sets ! (of_opd ! (load ! (through ! refl (fld ! refl (stop !))) (look ! 0 refl))) refl (pointer_good null_ptr) $ sets ! (bin ! (get ! refl) (lit ! tt) tt) refl (tt, tt) $ first ! $ branches ! (get ! refl)
    (λ _. sets_last ! (agg ! (and_then ! (lit ! tt) (no_more !))) refl (tt, (record { fits = lit< tt }, tt)) $ exec ! 𝓣.C 𝓣.Λ Ev (after 3 fn.body) (at_ret Ev Post) $ sets ! (of_opd ! (get ! refl)) refl (tt, (record { fits = lit< tt }, tt)) $
    pointer_out ! tt null_ptr b (o + 0) $ use0 𝓛 (‵ (Out.own_val None (live 0 vnil ∷ []))) (none_of 𝓛 Ref) $ move ! (1 ∷ 4 ∷ []) $ join ! $
    use0 𝓛 (raw (fact 𝓤 (None ≡ d.value))) (fact_i 𝓤 (None ≡ d.value) (emp 𝓤) (sym e)) $ nothing ! $ nothing ! $ fjoin ! $
    returns ! (look_at ! 0 refl) $ free_all ! refl $ keep ! (2 ∷ 0 ∷ 3 ∷ 1 ∷ []) $ by ! (leaves 𝓛 En hs c z (live 0 vnil) None (tt, tt) (tt, tt)))
    (λ wrong. absurd wrong)))
    -- [the value's `&`; the pointer's; two parts of the frame's; the token; the other token]
    (λ pb po y n e t. hide ! $ rewrite ! 1 Cell n refl $ move ! (1 ∷ 4 ∷ []) $ pointer_in ! tt (block_ptr pb po) b (o + 0) (λ s.
    sets ! (of_opd ! (load ! (through ! refl (fld ! refl (stop !))) (look ! 0 refl))) refl (tt, tt) $ sets ! (bin ! (get ! refl) (lit ! tt) (tests_null (block_ptr pb po) (subst (λ (p : Ptr). denote.RawPtr.Testable p) n t))) refl (tt, tt) $ first ! $ branches ! (get ! refl)
    (λ wrong. absurd wrong) (λ _.
    let Then = any_q (after_seq 𝓤 H (Wp 𝓤 H 𝓣.C 𝓣.Λ Ev (after 3 fn.body) (at_return 𝓤 H Ev Post)) (at_return 𝓤 H Ev Post)) in
    let x : Ref.Denot = record { ref_ptr = (pb, po); now = y } in let v : Val = live 1 (vcons (vptr pb po) vnil) in let good : Good (layout Out) v = (tt, (record { fits = lit< tt }, (tt, tt))) in
    first ! $ blocks ! $ sets_last ! (addr ! (through ! refl (fld ! refl (hop ! (look ! 0 refl) (stop !))))) refl (tt, tt) $ exec ! 𝓣.C 𝓣.Λ Ev wraps Then $ sets ! (of_opd ! (get ! refl)) refl (tt, tt) $
    sets_last ! (agg ! (and_then ! (lit ! tt) (and_then ! (get ! refl) (no_more !)))) refl good $ exec ! 𝓣.C 𝓣.Λ Ev (after 3 fn.body) (at_ret Ev Post) $ sets ! (of_opd ! (get ! refl)) refl good $
    pointer_out ! tt (block_ptr pb po) b (o + 0) $ move ! (1 ∷ []) $ feq_i ! (List Val) (vptr pb po ∷ []) (vptr pb po ∷ []) refl $ fjoin ! $ use1 𝓛 (‵ (Out.own_val (Some x) (v ∷ []))) (Some-of 𝓛 Ref x (vptr pb po)) $
    move ! (1 ∷ 4 ∷ []) $ join ! $ use0 𝓛 (raw (fact 𝓤 (Some y ≡ d.value))) (fact_i 𝓤 (Some y ≡ d.value) (emp 𝓤) (sym e)) $ nothing ! $ nothing ! $ fjoin ! $
    returns ! (look_at ! 0 refl) $ free_all ! refl $ keep ! (2 ∷ 0 ∷ 3 ∷ 1 ∷ []) $ by ! (leaves 𝓛 En hs c z v (Some x) (tt, tt) (tt, tt))))))))
