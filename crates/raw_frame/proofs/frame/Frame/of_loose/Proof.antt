-- `of_loose` moves the two fields, and what the box owned goes with them.
use Rattle.std.proofs.Common.{List, [], ◌∷◌, ◌++◌, ◌≡◌, refl, sym, subst}
use Rattle.std.specs.Prelude.{Some}
use mir.Syntax.{a_type}
use mir.Val.{Val}
use mir.MapTy.{inst_fn}
use base.Logic.{SProp, ent, emp, id⊢}
use base.Fml.{ftrue, fsep, flft}
use prog.Wp.{WpFn}
use types.Kit.{‵, raw, ◌⊛◌, given, learn, ◌$◌, ◌∵◌, !, qed, by, move, keep, drop, split, fsplit, fjoin, fpack, suffices, use0, use1, rewrite}
use types.Run.{stop, fld, of_opd, no_more, and_then, returns, enter}
use types.ByLocal.{alloc_all, pass_all, free_all, look_at, get, get_in, sets}
use types.Part.{agg, sub, whole}
use contract.Monad.{fact, fact_i}
use contract.Running.{tables}
use denote.Exit.{no}
use denote.RattleType.{RattleType, owns}
use denote.Laws.{Is, shows}
use denote.RawPtr.{Testable}
use denote.Signature.{types_at, plain}
use denote.Steps.{nothing, peeks}
use denote.Param.{param, layouts}
use denote.Param.Laws.{param_laws}
use denote.Struct.Owning.{to}
use denote.Triple.Walked.{Stays, stay_dropped, walk_of}
use Rattle.std.proofs.alloc.Calls.{Goes-blank}
use Rattle.std.proofs.raw_atomic.Walks.{proved_at, leaves}
use Rattle.std.specs.Box.Ownership.{box_owns}
use Rattle.std.specs.contracts.impls.GlobalAllocator.TheImpl.{ghosts}
use Rattle.std.specs.contracts.alloc.Global as heap
use Rattle.raw_frame.specs.contracts.frame.Frame as frame
use Rattle.raw_frame.specs.contracts.loose.Loose as loose
use Rattle.raw_frame.proofs.FrameValues.{pointer_good, FrameRow, Data, word, word_is, word_good, tested}
use Rattle.raw_frame.specs.contracts.frame.Frame.of_loose.{ended, clauses}
use Rattle.raw_frame.specs.contracts.frame.Frame.of_loose.Key.{name as #self}
use Rattle.raw_frame.proofs.frame.Frame.of_loose.Statement.{statement}
use Rattle.raw_frame.proofs.frame.Frame.of_loose.Code as code

pub of_loose_spec : {M : Type 1} → statement M
of_loose_spec 𝓤 𝓛 𝓜 𝓡 wired T L =
    let H = 𝓛.H in let 𝓣 = tables 𝓤 H 𝓜 𝓡 𝓡.env in let R : RattleType = param 0 T in let LR = param_laws 0 T L in let En = ended T in let c = clauses T 𝓛 𝓜.mem 𝓡.returns in
    let inst = layouts (a_type ∷ []) (T, tt) in let fn = inst_fn inst code.function in let F : RattleType = FrameRow R LR in let In : RattleType = loose.the_row R heap.the_row ghosts in
    let hs : Stays En.signature.params En.kept = (stay_dropped (plain (λ _. In)) no, tt) in
    proved_at 𝓛 En hs c 𝓜 𝓡 (Goes-blank 𝓛 1 (plain (λ _. In)) no (λ κs x f. tt), tt) (#self inst) fn (code.unfolded 𝓤 H 𝓜 𝓡 wired (T, tt)) (λ z are.
    let κs = z.0.0 in let qs = z.0.1 in let v = z.0.3.0 in let vs = z.0.4.0 in let Post : Val → SProp 𝓤 = (walk_of 𝓛 En hs c).post z in let Run : List Val → SProp 𝓤 = λ ws. WpFn 𝓤 H 𝓣.C 𝓣.Λ fn ws Post in
    let toks = ‵ (flft κs.0 qs.0) ⊛ ‵ ftrue in let token = ghosts.dealloc_token v.alloc in let d : F.Denot = record { at = v.at; alloc = v.alloc; value = Some v.value } in let w : Val = word R LR d in
    let block = box_owns token R v.at v.value in
    qed 𝓛 ((toks ⊛ ‵ (owns (types_at En.signature.params κs) z.0.3 z.0.4)) ∷ raw ((c κs z.0.3).requires z.1) ∷ []) ∵ split ! $ move ! (1 ∷ []) $ fsplit ! $ move ! (1 ∷ []) $ drop ! $
    -- [what the box owned; the token; the requires]
    use1 𝓛 (‵ (fsep ((Data R LR).own_val (to (frame.the_type R) d) vs) block)) (id⊢ 𝓤 _) $ fsplit ! $ move ! (1 ∷ []) $
    use1 𝓛 (given (Testable v.at) (‵ block)) (tested R LR 𝓛 v.alloc v.at v.value) $ learn ! (λ t. nothing ! $ fpack ! (Testable v.at) (λ _. ftrue) t $ fjoin ! $ move ! (1 ∷ 0 ∷ []) $ fjoin ! $
    use1 𝓛 (‵ (F.own_val d vs)) (id⊢ 𝓤 _) $ peeks ! F (Is F) (shows 𝓛 F) d vs (λ is. let ws : vs ≡ w ∷ [] = word_is R LR d vs is in let good = word_good R LR 𝓛 d vs is in
    rewrite ! 0 (λ (us : List Val). ‵ (F.own_val d us)) ws refl $
    suffices ! (Run (w ∷ [])) (subst (λ (us : List Val). ent 𝓤 (Run (w ∷ [])) (Run us)) (sym (λ i. ws i ++ [])) (id⊢ 𝓤 (Run (w ∷ [])))) $
    enter ! 𝓣.C 𝓣.Λ fn (w ∷ []) Post $ alloc_all ! (λ l. pass_all ! refl (good, tt) $
    sets ! (of_opd ! (get_in ! (fld ! refl (stop !)) (sub ! 0 refl (whole !)))) refl (pointer_good d.at) $ sets ! (of_opd ! (get_in ! (fld ! refl (stop !)) (sub ! 1 refl (whole !)))) refl (tt, ((tt, tt), tt)) $
    sets ! (agg ! (and_then ! (get ! refl) (and_then ! (get ! refl) (no_more !)))) refl good $
    use0 𝓛 (raw (fact 𝓤 (d.value ≡ Some v.value))) (fact_i 𝓤 (d.value ≡ Some v.value) (emp 𝓤) refl) $ nothing ! $ nothing ! $ fjoin ! $
    returns ! (look_at ! 0 refl) $ free_all ! refl $ keep ! (3 ∷ 0 ∷ 2 ∷ 1 ∷ []) $ by ! (leaves 𝓛 En hs c z w d (_, tt) (tt, tt))))))
