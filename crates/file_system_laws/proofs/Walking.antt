-- The walk of a path has one answer alone: each walk_step is a function of the walk so far, and a walk that has ended stays so.
use Rattle.std.proofs.Common.{◌≡◌, ℕ, zero, suc, Bool, List, sym, ◌∙◌}
use Rattle.std.specs.Prelude.{Result}
use Rattle.kernel_core.specs.Nodes.{Nodes}
use Rattle.kernel_core.specs.PathWalk.{Place, WalkStep, Ends, Goes, EndsAfter, Walks, walk_step, begin}
use Rattle.kernel_core.specs.declared.error.Errno.{Errno}

module _ (nodes : Nodes) (follow : Bool) (first second : Result Place Errno) where
  -- from one state of a walk on, whatever the numbers of steps
  one_end : (count other : ℕ) (from : WalkStep) → EndsAfter count nodes follow from first → EndsAfter other nodes follow from second → first ≡ second
  unfolding EndsAfter
  one_end count other (Ends answer) h g = sym h ∙ g
  one_end zero other (Goes walk) h g = absurd h
  one_end (suc count) zero (Goes walk) h g = absurd g
  one_end (suc count) (suc other) (Goes walk) h g = one_end count other (walk_step nodes follow walk) h g

pub one_answer : (nodes : Nodes) (from : ℕ) (path : List ℕ) (follow : Bool) (first second : Result Place Errno)
    → Walks nodes from path follow first → Walks nodes from path follow second → first ≡ second
one_answer nodes from path follow first second (count, h) (other, g) = one_end nodes follow first second count other (begin from path) h g
