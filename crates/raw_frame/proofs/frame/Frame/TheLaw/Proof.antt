-- A `&` to a frame is made where one to its block's value is.
use Rattle.std.specs.Prelude.{Option, Some, None}
use base.Fraction.{full_share}
use base.Fml.{Lft, Incl, feq, Incl-trans}
use contract.BorrowLft.{meet_⊑_left}
use mathlib.Core.List.{[], ◌++◌}
use mir.Raw.{raw as bare}
use seplogic.Ra.Ura.{Ura}
use types.Logic.{Logic}
use denote.RattleType.{RattleType}
use denote.Memory.{lone}
use denote.RawPtr.{Ptr, null_ptr, lies_at}
use denote.Sharing.{ShrLaws, said}
use denote.SharingLaws.{said_shr_laws, beside_shr_laws}
use denote.Shares.{Shares-less}
use denote.Param.Laws.{Laws}
use denote.Param.Shared.{copy_shared}
use denote.Struct.Field.{RawPtr-field}
use denote.Struct.Laws.{RawPtr-copy}
use denote.Struct.Lending.{Lends, lent_at, lent_at_shr_laws, Lends-lies, Lends-first, Lends-both, Lends-said, of_Lends}
use Rattle.std.specs.Box.Ownership.{box_owns}
use Rattle.std.specs.contracts.alloc.Global as heap
use Rattle.std.proofs.alloc.Global.TheLaws as heap_laws
use Rattle.std.specs.declared.alloc.Global.{Global}
use Rattle.std.specs.contracts.impls.GlobalAllocator.TheImpl.{ghosts}
use Rattle.raw_frame.specs.Frames.{testable, frame_lent, frame_owns}
use Rattle.raw_frame.specs.contracts.frame.Frame as C
use Rattle.raw_frame.proofs.frame.Frame.TheLaw.Statement.{statement}

module _ (T : RattleType) (L : Laws T) where
  lent_laws : (p : Ptr) (x : Option T.Denot) → ShrLaws (frame_lent T p x)
  lent_laws p None = said_shr_laws (feq Ptr p null_ptr) tt
  lent_laws p (Some x) = beside_shr_laws _ _ (said_shr_laws (testable p) (λ _. tt)) (lent_at_shr_laws T L.shr_laws p x)

  lends : {M : Type 1} {𝓤 : Ura M} (𝓛 : Logic 𝓤) (l : Lft) → Incl l T.lives → (a : Global) (p : Ptr) (x : Option T.Denot)
      → Lends 𝓛 (frame_owns (ghosts.dealloc_token a) T p x) (frame_lent T p x) l
  lends 𝓛 l inc a p None = Lends-said 𝓛 (feq Ptr p null_ptr) tt l
  lends 𝓛 l inc a p (Some x) =
      Lends-both 𝓛 (testable p) (box_owns (ghosts.dealloc_token a) T p x) (said (testable p)) (lent_at T p x) l
      (Lends-said 𝓛 (testable p) (λ _. tt) l)
      (Lends-first 𝓛 (lies_at T full_share p x) (ghosts.dealloc_token a (bare (lone T.mir)) p) (lent_at T p x) l
      (Lends-lies 𝓛 T l p x (Shares-less 𝓛 T T.lives l inc (L.shares 𝓛) x)))

pub shares : (T : RattleType) (L : Laws T) → statement T L
shares T L = of_Lends (C.struct T) (C.the_codes T.Denot T.coded heap.the_row.coded) (C.the_heap T) (C.the_lent T)
    (λ d p. lent_laws T L d.at d.value) (copy_shared RawPtr-field RawPtr-copy, (heap_laws.the_field_shared, tt))
    (λ M 𝓤 𝓛 d p. lends T L 𝓛 (C.the_row T).lives (Incl-trans (meet_⊑_left (T.lives ++ []) _) (meet_⊑_left T.lives [])) d.alloc d.at d.value)
