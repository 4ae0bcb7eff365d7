-- The machine value of a frame, and what a frame's walks share. Assumes `Logic`.
use Rattle.std.proofs.Common.{◌≡◌, List, [], ◌∷◌, refl, subst, lit<}
use Rattle.std.specs.Prelude.{Option, Some, None, IsSome}
use seplogic.Ra.Ura.{Ura}
use mir.Raw.{raw as bare}
use mir.Syntax.{ty_ptr}
use mir.Val.{Val, vunit, vstruct, vcons, vnil}
use base.Fraction.{full_share}
use base.Logic.{emp, ent, via, snd∗, guard, guard_i}
use base.Fml.{Fml}
use types.Logic.{Logic, sem}
use contract.Monad.{fact_use}
use denote.RattleType.{RattleType}
use denote.Laws.{Is, Typed}
use denote.Memory.{lone}
use denote.Param.{layout}
use denote.Param.Laws.{Laws}
use denote.RawPtr.{Ptr, block_ptr, null_ptr, ptr_val, Testable, lies_at, rawptr_pure}
use denote.Struct.Struct.{Struct, Struct-Makes}
use denote.Struct.Owning.{shape, to}
use Rattle.std.proofs.cell.Inside.{Good}
use Rattle.std.specs.Box.Ownership.{box_owns}
use Rattle.std.specs.declared.alloc.Global.{Global}
use Rattle.std.specs.contracts.impls.GlobalAllocator.TheImpl.{ghosts}
use Rattle.std.proofs.alloc.Global.TheLaws as heap_laws
use Rattle.std.proofs.GlobalToken.{dealloc_token-Testable}
use Rattle.raw_frame.specs.contracts.frame.Frame as frame
use Rattle.raw_frame.proofs.frame.Frame.TheLaws as frame_laws

-- a pointer's machine value is one
pub pointer_good : (p : Ptr) → Good ty_ptr (ptr_val p)
pointer_good (block_ptr b o) = (tt, tt)
pointer_good null_ptr = (tt, record { fits = lit< tt })

-- an option that has a value, with the value
pub some_of : {X : Type 0} (x : Option X) → IsSome x → (y : X) × (x ≡ Some y)
some_of None e = cc
some_of (Some y) e = (y, refl)

module _ (R : RattleType) (L : Laws R) where
  abbrev pub FrameRow : RattleType
  FrameRow = frame.the_row R

  -- the two fields, without what the frame owns
  abbrev pub Data : RattleType
  Data = Struct (shape (frame.the_type R))

  abbrev pub word : FrameRow.Denot → Val
  word d = frame_laws.lowered R L d

  pub word_is : (d : FrameRow.Denot) (vs : List Val) → Is FrameRow d vs → vs ≡ word d ∷ []
  word_is d vs is = (frame_laws.lowers R L).val_is d vs is

  module _ {M : Type 1} {𝓤 : Ura M} (𝓛 : Logic 𝓤) where
    pub word_good : (d : FrameRow.Denot) (vs : List Val) → Is FrameRow d vs → Good (layout FrameRow) (word d)
    word_good d vs is = (subst (Typed FrameRow.mir) (word_is d vs is) (((frame_laws.the_row_laws R L).lawful 𝓛).typed d vs is)).0

    abbrev boxed : Global → Ptr → R.Denot → Fml
    boxed a p x = box_owns (ghosts.dealloc_token a) R p x

    -- the pointer of a block that may be freed may be compared with null
    pub tested : (a : Global) (p : Ptr) (x : R.Denot) → ent 𝓤 (sem 𝓛 (boxed a p x)) (guard 𝓤 (Testable p) (sem 𝓛 (boxed a p x)))
    tested a p x =
        fact_use 𝓤 (Testable p) (via 𝓤 _ (snd∗ 𝓤 (sem 𝓛 (lies_at R full_share p x)) (sem 𝓛 (ghosts.dealloc_token a (bare (lone R.mir)) p))) (dealloc_token-Testable 𝓛 a (bare (lone R.mir)) p))
        (guard_i 𝓤 (Testable p) (sem 𝓛 (boxed a p x)))

    -- the two fields own nothing
    pub data_made : (d : FrameRow.Denot) → ent 𝓤 (emp 𝓤) (sem 𝓛 (Data.own_val (to (frame.the_type R) d) (word d ∷ [])))
    data_made d =
        Struct-Makes 𝓛 (shape (frame.the_type R)) (λ p us. rawptr_pure p us, (heap_laws.the_field_plain, tt)) (to (frame.the_type R) d) (word d ∷ [])
        ((ptr_val d.at ∷ [], (heap_laws.lowered d.alloc ∷ [], tt)), (refl, (refl, (((vstruct (vcons vunit vnil) ∷ [], tt), (refl, (((vunit ∷ [], tt), (refl, (refl, tt))), tt))), tt))))
