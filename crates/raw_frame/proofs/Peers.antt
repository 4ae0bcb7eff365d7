-- What `get` reads through a `&` to a frame. Assumes `Logic`.
--     pointer_in, pointer_out      the pointer's cell is opened, and shut
--     either                       what a `&` to a frame lends: nothing, and the pointer is null, or a block's value
use Rattle.std.proofs.Common.{◌≡◌, ℕ, List, [], ◌∷◌, refl}
use Rattle.std.specs.Prelude.{Option, Some, None}
use seplogic.Ra.Ura.{Ura}
use mir.Syntax.{ty_ptr}
use mir.Val.{Val}
use base.Logic.{never, fst∗}
use base.Fml.{Lft, Share, fat, flft}
use types.Logic.{Logic, sem}
use types.Kit.{Item, Goal, Seq, Step, Soaks, step, ‵, ◌$◌, move, drop, rewrite, fsplit, fpick, feq_i, feq_l}
use denote.RattleType.{RattleType}
use denote.Copied.{plain_Copied}
use denote.Memory.{cell_at, part_at, shared_of, hidden_shr}
use denote.Opens.{Shut}
use denote.RawPtr.{Ptr, RawPtr, block_ptr, null_ptr, ptr_val, coded_ptr, ptr_own, rawptr_pure, Testable, in_a_block}
use denote.Steps.{looks, shuts}
use denote.Struct.Laws.{RawPtr-laws}
use denote.Struct.Lending.{lent_at}
use Rattle.raw_frame.specs.Frames.{frame_lent}

module _ {M : Type 1} {𝓤 : Ura M} {𝓛 : Logic 𝓤} {K : Type 0} {Γ : List (Item 𝓤)} {G : Goal 𝓤 𝓛.H} where
  pub pointer_in : K → Soaks G → {κ : Lft} {q : Share} (p : Ptr) (b at : ℕ)
      → ((part : Share) → Seq K 𝓛 (‵ (fat part ty_ptr b at (ptr_val p)) ∷ Shut 𝓛 κ q (part_at RawPtr part p b at) ∷ Γ) G)
      → Seq K 𝓛 (‵ (hidden_shr RawPtr κ p b at) ∷ ‵ (flft κ q) ∷ Γ) G
  pointer_in t z p b at k =
      looks t z RawPtr (plain_Copied 𝓛 Ptr coded_ptr (ty_ptr ∷ []) ptr_own rawptr_pure ptr_val RawPtr-laws.tells).opens p b at (λ part vs. move t (1 ∷ []) $ feq_l t (λ e.
      rewrite t 0 (λ (us : List Val). ‵ (cell_at part RawPtr.mir us b at)) e refl $ move t (2 ∷ []) $ drop t $ k part))

  pub pointer_out : K → Soaks G → {κ : Lft} {q part : Share} (p : Ptr) (b at : ℕ)
      → Step K 𝓛 (‵ (flft κ q) ∷ Γ) G (‵ (fat part ty_ptr b at (ptr_val p)) ∷ Shut 𝓛 κ q (part_at RawPtr part p b at) ∷ Γ) G
  pointer_out t z {part = part} p b at = step (λ s.
      feq_i t (List Val) (ptr_val p ∷ []) (ptr_val p ∷ []) refl $ move t (1 ∷ 0 ∷ []) $ shuts t z RawPtr part p (ptr_val p ∷ []) b at $ s)

  pub either : K → (R : RattleType) (κ : Lft) (p : Ptr) (x : Option R.Denot)
      → (p ≡ null_ptr → x ≡ None → Seq K 𝓛 Γ G)
      → ((b o : ℕ) (y : R.Denot) → p ≡ block_ptr b o → x ≡ Some y → Testable p → Seq K 𝓛 (‵ (shared_of R y b o κ) ∷ Γ) G)
      → Seq K 𝓛 (‵ (frame_lent R p x κ) ∷ Γ) G
  either t R κ p None none some = feq_l t (λ e. none e refl)
  either t R κ p (Some y) none some =
      fsplit t $ fpick t (λ tests. drop t $
      in_a_block t p (λ r. lent_at R r y κ) (fst∗ 𝓤 (never 𝓤) (sem 𝓛 (shared_of R y 0 0 κ))) (λ b o e. fsplit t $ drop t $ some b o y e refl tests))
