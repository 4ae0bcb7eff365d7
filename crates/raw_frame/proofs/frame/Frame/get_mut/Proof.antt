-- `get_mut` lends the block's value, and the frame follows it.
use Rattle.std.proofs.Common.{◌≡◌, ℕ, List, [], ◌∷◌, refl, sym, ap, ◌∙◌}
use Rattle.std.specs.Prelude.{Option, Some, IsSome}
use seplogic.Ra.Ura.{Ura}
use mir.Raw.{raw as bare}
use mir.Syntax.{a_type, named}
use mir.Val.{Val, vptr}
use mir.MapTy.{inst_fn}
use base.Fraction.{full_share}
use base.Logic.{SProp, ent, sep, emp, never, id⊢, fst∗}
use base.Fml.{GName, Lft, Share, Fml, ftrue, fsep, flft}
use types.Logic.{Logic, sem}
use types.Kit.{‵, raw, ◌⊛◌, some, later, at_ret, ◌$◌, ◌∵◌, !, qed, by, move, keep, drop, split, split3, join, group, fsplit, fsplit3, fjoin, fpick, fpack, pick, await, use0, use1, rewrite, done}
use types.Part.{whole, sub, look_in}
use types.Run.{stop, fld, hop, of_opd, addr, first, blocks, exec, returns, enter}
use types.ByLocal.{alloc_all, pass_all, free_all, look_at, get, through, sets, sets_last, env}
use contract.Monad.{fact, fact_i}
use contract.BorrowLft.{◌⊑◌}
use contract.Running.{tables}
use denote.Exit.{no}
use denote.Follow.{follows, Part, lends_Part}
use denote.RattleType.{RattleType, owns}
use denote.Laws.{Is, shows}
use denote.Memory.{lone, mem, cell_at, part_at, part_of}
use denote.RawPtr.{Ptr, Testable, block_ptr, null_ptr, in_a_block}
use denote.Ref.{MutBor, MutRef, mut_vals, mut_Tells}
use denote.Signature.{types_at, plain, mut_ref_to}
use denote.Steps.{nothing, heard, opens, peeks}
use denote.Param.{param, layouts}
use denote.Param.Laws.{Laws, param_laws}
use denote.Struct.Owning.{to}
use denote.Triple.Walked.{Stays, stay_dropped, walk_of, Goes-spent_ref}
use Rattle.std.proofs.alloc.Shapes.{after}
use Rattle.std.proofs.raw_atomic.Walks.{proved, leaves}
use Rattle.std.specs.Box.Ownership.{box_owns}
use Rattle.std.specs.contracts.impls.GlobalAllocator.TheImpl.{ghosts}
use Rattle.raw_frame.specs.Frames.{frame_owns}
use Rattle.raw_frame.specs.Lends.{with_value}
use Rattle.raw_frame.specs.contracts.frame.Frame as frame
use Rattle.raw_frame.proofs.FrameValues.{some_of, FrameRow, Data, word, word_is}
use Rattle.raw_frame.specs.contracts.frame.Frame.get_mut.{ended, clauses}
use Rattle.raw_frame.specs.contracts.frame.Frame.get_mut.Key.{name as #self}
use Rattle.raw_frame.proofs.frame.Frame.get_mut.Statement.{statement}
use Rattle.raw_frame.proofs.frame.Frame.get_mut.Code as code

module _ (R : RattleType) (L : Laws R) {M : Type 1} {𝓤 : Ura M} (𝓛 : Logic 𝓤) (d : (FrameRow R L).Denot) (b o pb po : ℕ) (u : Val) where
  abbrev F : RattleType
  F = FrameRow R L

  -- all of the frame but the block's value
  abbrev Rest : Fml
  Rest = fsep (ghosts.dealloc_token d.alloc (bare (lone R.mir)) (block_ptr pb po)) (fsep ((Data R L).own_val (to (frame.the_type R) d) (u ∷ [])) (cell_at full_share F.mir (u ∷ []) b o))

  back : d.at ≡ block_ptr pb po → Testable d.at → (x : R.Denot) → ent 𝓤 (sep 𝓤 (sem 𝓛 ((mem R).own_at x pb po)) (sem 𝓛 Rest)) (sem 𝓛 ((mem F).own_at (with_value d x) b o))
  unfolding part_of
  back e t x =
      qed 𝓛 (‵ (part_at R full_share x pb po) ∷ ‵ Rest ∷ []) ∵ move ! (1 ∷ []) $ fsplit ! $ move ! (1 ∷ []) $ fsplit ! $ move ! (3 ∷ 2 ∷ []) $ fjoin ! $
      rewrite ! 0 (λ (p : Ptr). ‵ (box_owns (ghosts.dealloc_token d.alloc) R p x)) (sym e) refl $ nothing ! $ fpack ! (Testable d.at) (λ _. ftrue) t $ fjoin ! $
      move ! (1 ∷ 0 ∷ []) $ fjoin ! $ use1 𝓛 (‵ (F.own_val (with_value d x) (u ∷ []))) (id⊢ 𝓤 _) $ move ! (1 ∷ 0 ∷ []) $ fjoin ! $
      fpack ! (List Val) (λ us. fsep (cell_at full_share F.mir us b o) (F.own_val (with_value d x) us)) (u ∷ []) $ done !

pub get_mut_spec : {M : Type 1} → statement M
get_mut_spec 𝓤 𝓛 𝓜 𝓡 wired T L =
    let H = 𝓛.H in let 𝓣 = tables 𝓤 H 𝓜 𝓡 𝓡.env in let R : RattleType = param 0 T in let LR = param_laws 0 T L in let En = ended T in let c = clauses T 𝓛 𝓜.mem 𝓡.returns in
    let inst = layouts (a_type ∷ []) (T, tt) in let fn = inst_fn inst code.function in let F : RattleType = FrameRow R LR in
    let hs : Stays En.signature.params En.kept = (stay_dropped (mut_ref_to (0 ∷ []) tt (plain (λ _. F))) no, tt) in
    proved 𝓛 En hs c 𝓜 𝓡 (Goes-spent_ref 𝓛 2 (0 ∷ []) tt (plain (λ _. F)), tt) (#self inst) fn (code.unfolded 𝓤 H 𝓜 𝓡 wired (T, tt))
    (λ κs. (mut_vals, tt)) (λ κs. (mut_Tells (named 0) κs.0 F, tt)) (λ κs qs bounds a g are.
    let b : ℕ = a.0.ref_ptr.0 in let o : ℕ = a.0.ref_ptr.1 in let γ : GName = a.0.ghost_name in let d = a.0.now in let κ : Lft = κs.0 in let q : Share = qs.0 in
    let z : (walk_of 𝓛 En hs c).Ghost = ((κs, qs, bounds, a, (mut_vals a.0, tt)), g) in let Post : Val → SProp 𝓤 = (walk_of 𝓛 En hs c).post z in let token = ghosts.dealloc_token d.alloc in
    qed 𝓛 (((‵ (flft κ q) ⊛ ‵ (flft κs.1.0 qs.1.0) ⊛ ‵ ftrue) ⊛ ‵ (owns (types_at En.signature.params κs) a (mut_vals a.0, tt))) ∷ raw ((c κs a).requires g) ∷ []) ∵
    move ! (1 ∷ []) $ use1 𝓛 (raw (fact 𝓤 (κs.1.0 ⊑ T.lives)) ⊛ raw (fact 𝓤 (IsSome d.value))) (id⊢ 𝓤 _) $ split ! $ drop ! $ heard ! (IsSome d.value) (λ has.
    let y = (some_of d.value has).0 in let e : d.value ≡ Some y = (some_of d.value has).1 in
    split ! $ split ! $ move ! (2 ∷ []) $ fsplit ! $ fsplit3 ! $ drop ! $ move ! (0 ∷ 1 ∷ 3 ∷ []) $
    enter ! 𝓣.C 𝓣.Λ fn (vptr b o ∷ []) Post $ alloc_all ! (λ l. pass_all ! refl ((tt, tt), tt) $ let Ev = env fn.locals l in
    opens ! tt F {h = d} b o (λ us. move ! (1 ∷ []) $ peeks ! F (Is F) (shows 𝓛 F) d us (λ is. fsplit ! $ move ! (1 ∷ []) $
    rewrite ! 0 (λ (x : Option T.Denot). ‵ (frame_owns token R d.at x)) e refl $ fsplit ! $ fpick ! (λ t. drop ! $
    in_a_block ! d.at (λ p. box_owns token R p y) (fst∗ 𝓤 (never 𝓤) (sem 𝓛 (token (bare (lone R.mir)) null_ptr))) (λ pb po at.
    let w : Val = word R LR (record d { at = block_ptr pb po }) in let ws : us ≡ w ∷ [] = word_is R LR d us is ∙ ap (λ (p : Ptr). word R LR (record d { at = p }) ∷ []) at in
    -- [the block; what the fields own; the frame's cell; the open borrow, in three entries]
    rewrite ! 1 (λ (vs : List Val). ‵ ((Data R LR).own_val (to (frame.the_type R) d) vs)) ws refl $ rewrite ! 2 (λ (vs : List Val). ‵ (cell_at full_share F.mir vs b o)) ws refl $
    first ! $ blocks ! $ sets_last ! (addr ! (through ! refl (fld ! refl (hop ! (look_in ! 2 (sub ! 0 refl (whole !))) (stop !))))) refl (tt, tt) $
    exec ! 𝓣.C 𝓣.Λ Ev (after 1 fn.body) (at_ret Ev Post) $ sets ! (of_opd ! (get ! refl)) refl (tt, tt) $
    fsplit ! $ move ! (2 ∷ 3 ∷ []) $ fjoin ! $ move ! (2 ∷ 0 ∷ []) $ fjoin ! $ move ! (2 ∷ 3 ∷ 4 ∷ 1 ∷ 0 ∷ []) $ group ! 5 $
    use1 𝓛 (later (some (λ (γ' : GName). raw (Part 𝓛 F R (with_value d) (named 0) κ q b o pb po γ (sem 𝓛 (Rest R LR 𝓛 d b o pb po w)) (back R LR 𝓛 d b o pb po w at t) y γ'))))
    (lends_Part 𝓛 F R (with_value d) (named 0) κ q b o pb po γ (sem 𝓛 (Rest R LR 𝓛 d b o pb po w)) (back R LR 𝓛 d b o pb po w at t) (F.coded.code d) (F.coded.code d) y) $ await ! tt $ pick ! (λ γ'.
    let loan : MutBor R.Denot = record { ref_ptr = (pb, po); ghost_name = γ'; now = y } in let Follows : Fml = follows F R γ γ' (with_value d) in
    -- [the loan; the token; the frame follows it; the other token]
    use1 𝓛 (‵ ((MutRef (named 0) κ R).own_val loan (vptr pb po ∷ [])) ⊛ ‵ (flft κ q) ⊛ ‵ Follows) (id⊢ 𝓤 _) $ split3 ! $ move ! (1 ∷ 4 ∷ []) $ join ! $ move ! (2 ∷ []) $
    use0 𝓛 (raw (fact 𝓤 (d.value ≡ Some y))) (fact_i 𝓤 (d.value ≡ Some y) (emp 𝓤) e) $ move ! (1 ∷ 0 ∷ []) $ join ! $ nothing ! $ nothing ! $ fjoin ! $
    returns ! (look_at ! 0 refl) $ free_all ! refl $ keep ! (2 ∷ 0 ∷ 3 ∷ 1 ∷ []) $ by ! (leaves 𝓛 En hs c z (vptr pb po) loan (tt, tt) (tt, tt))))))))))
