use Rattle.std.proofs.Common.{◌≡◌, ℕ, Bool, ◌+◌, ◌<◌, is_some, ap, subst, sym, ◌∙◌}
use Rattle.std.specs.Prelude.{if◌then◌else◌}
use Rattle.std.specs.Option.{unwrap_or}
use Rattle.std.proofs.lemmas.Bool.{false≢true}
use Rattle.kernel_core.specs.PathWalk as walking
use Rattle.kernel_core.specs.ValidTree.{root}
use Rattle.native_vfs.specs.Keyed.{number_at}
use Rattle.native_vfs.specs.inside.Walking.{walk_of, steps_left, IsUnderWay}
use Rattle.native_vfs.specs.declared.walk.Walk.{Walk}
use Rattle.native_vfs.proofs.walks.StepLemmas.{follow-goes, follow-way, follow-left}
use Rattle.native_vfs.proofs.vfs.Vfs.follow_link.Goals as goal
use Rattle.native_vfs.proofs.vfs.Vfs.follow_link.Goals.{then-begins_with_slash, else-begins_with_slash}

pub returns : goal.returns
returns c =
    let system = c.args.self.now in
    let old = c.args.walk.now in
    let target = c.args.target.now in
    let rest = c.put_before.new.self in
    let chosen : Bool → ℕ = λ b. if b then root else number_at system old.at in
    let after : Walk → Walk = λ walk. record {
      at = walk.at;
      rest = walk.rest;
      slash = walk.slash;
      target_slash = walk.target_slash;
      links = walk.links + 1;
    } in
    let Follows : Walk → Type 0 = λ walk.
    (walking.following (walk_of system old) target old.rest old.target_slash ≡ walking.Goes (walk_of system (after walk)))
    × IsUnderWay system (after walk)
    × (steps_left (after walk) < steps_left old + 1) in
    let few = c.if-walk-eq-LINK_LIMIT.false in
    let way = c.requires.way in
    elim c.if-begins_with_slash.branch [
      | then-begins_with_slash w ↦
          let key = w.root_key-walk.ensures.key in
          let number = ap (λ o. unwrap_or o 0) key ∙ ap chosen (sym w.if-begins_with_slash.true ∙ c.begins_with_slash.ensures) in
          subst Follows (sym w.walk-is) (
            follow-goes system old w.root_key-walk.result rest target few c.in_ok-put_before.ensures number,
            follow-way system old w.root_key-walk.result rest target few way.links c.requires.target c.in_ok-put_before.ensures (ap is_some key) number
                (λ begins. w.root_key-walk.ensures.directory),
            follow-left old w.root_key-walk.result rest target few way.links c.requires.target.short c.in_ok-put_before.ensures,
          )
      | else-begins_with_slash w ↦
          let number = ap chosen (sym w.if-begins_with_slash.false ∙ c.begins_with_slash.ensures) in
          subst Follows (sym w.walk-is) (
            follow-goes system old old.at rest target few c.in_ok-put_before.ensures number,
            follow-way system old old.at rest target few way.links c.requires.target c.in_ok-put_before.ensures way.live number
                (λ begins. absurd (false≢true (sym w.if-begins_with_slash.false ∙ c.begins_with_slash.ensures ∙ begins))),
            follow-left old old.at rest target few way.links c.requires.target.short c.in_ok-put_before.ensures,
          )
    ]
