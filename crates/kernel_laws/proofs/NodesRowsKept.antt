-- The rows on the node that a path or a descriptor names keep what files always are.
use Rattle.std.proofs.Common.{◌≡◌, ℕ, ◌%◌, ◌≤◌, ◌<◌, List, Bool, true, false, ◌&&◌, refl, subst, arith}
use Rattle.std.specs.Int.{w64}
use Rattle.std.specs.Prelude.{Option, Some, None, Ok, Err, FitsSigned, nat_lt, not, int_lt, ℤ, pos, negsuc, ◌+ℤ◌, ◌*ℤ◌, if◌then◌else◌}
use Rattle.std.proofs.lemmas.Bool.{leb-false, ltb-true}
use Rattle.std.proofs.lemmas.Int.{ints}
use Rattle.kernel_core.specs.FileContent.{FileContent, greatest_size}
use Rattle.kernel_core.specs.FileSystem.{IsTime}
use Rattle.kernel_core.specs.NodeCalls.{resize_refusal}
use Rattle.kernel_core.specs.Nodes.{NodeContent, File, Directory, Link}
use Rattle.kernel_core.specs.declared.error.Errno.TheVariants.{EFBIG}
use Rattle.file_system_laws.proofs.HeldNodes.{mode_loses, keeps-lost, resize_loses, times_lose}
use Rattle.file_system_laws.proofs.NodeLaws.{mode_keeps, times_keep}
use Rattle.kernel_laws.proofs.FileContents.{resize_is}
use Rattle.kernel_laws.proofs.Keeps.{Keeps, keeps}
use Rattle.kernel_laws.proofs.NodesKept.{nodes_kept}
use Rattle.kernel_laws.proofs.WalkedRows.{file_of}
use Rattle.kernel_laws.specs.Arguments.{AreSeconds, WhereGiven}
use Rattle.kernel_model.specs.Always.{IsFiles}
use Rattle.kernel_model.specs.Came.{Given, given_or_none}
use Rattle.kernel_model.specs.Clock.{is_below, second}
use Rattle.kernel_model.specs.Descriptions.{content_at}
use Rattle.kernel_model.specs.NodeRows.{Leave, SetTo, TimeChange, Times, Wrong, after_mode, after_times, after_truncate, change_mode, change_open_mode, is_same, new_time, on_open_node, set_times, time_change, time_changes, times_on, truncate, truncate_content, truncate_open, utime_now, utime_omit}
use Rattle.kernel_model.specs.Paths.{Base, Descriptor, Working}
use Rattle.kernel_model.specs.State.{Files}
use Rattle.kernel_model.specs.declared.time.TimeSpec.{TimeSpec}

-- Times

low_of : (n : ℕ) → is_below (pos n) second ≡ true → n < second
low_of n = by (int_lt (pos n) (pos 0)) (int_lt (pos n) (pos second)) refl where
  by : (a b : Bool) → int_lt (pos n) (pos second) ≡ b → (not a && b) ≡ true → n < second
  by true b e h = absurd cc
  by false true e h = ltb-true n second e
  by false false e h = absurd cc

seconds_time : (seconds : ℤ) (nanoseconds : ℕ) → nanoseconds < second → FitsSigned w64 seconds → IsTime (seconds *ℤ pos second +ℤ pos nanoseconds)
seconds_time (pos s) n low fits = omega (arith, ints)
seconds_time (negsuc s) n low fits = omega (arith, ints)

nanoseconds_time : (seconds nanoseconds : ℤ) → is_below nanoseconds second ≡ true → FitsSigned w64 seconds → IsTime (seconds *ℤ pos second +ℤ nanoseconds)
nanoseconds_time seconds (pos n) below fits = seconds_time seconds n (low_of n below) fits
nanoseconds_time seconds (negsuc n) below fits = absurd cc

module _ (files : Files) (is : IsFiles files) (now : ℤ) (time : IsTime now) where
  -- Modes

  mode_kept : (mode node : ℕ) → IsFiles (after_mode files now mode node)
  mode_kept mode node =
      let lost = keeps-lost files.nodes _ (mode_loses files.nodes node (mode % 0x1000) now) in
      nodes_kept files _ is (mode_keeps files.nodes node is.nodes (mode % 0x1000) now (omega arith) time) lost.holds lost.kinds

  open_node_keeps : (node : Option ℕ) (change : ℕ → Files) → ((number : ℕ) → IsFiles (change number)) → Keeps IsFiles (on_open_node files node change)
  open_node_keeps None change h = search (keeps, is) depth 14
  open_node_keeps (Some node) change h = search (keeps, h) depth 14

  pub change_mode_keeps : (base : Base) (path : Given (List ℕ)) (mode : ℕ) → Keeps IsFiles (change_mode files now base path mode)
  unfolding change_mode
  change_mode_keeps base path mode = search (keeps, mode_kept, is) depth 14

  pub change_open_mode_keeps : (fd mode : ℕ) → Keeps IsFiles (change_open_mode files now fd mode)
  unfolding change_open_mode
  change_open_mode_keeps fd mode = search (keeps, open_node_keeps, mode_kept, is) depth 14

  -- Times

  abbrev IsChange : TimeChange → Type 0
  IsChange change = (t : ℤ) → new_time change ≡ Some t → IsTime t

  set_is : (t : ℤ) → IsTime t → IsChange (SetTo t)
  set_is t h other e = let same : t ≡ other = cc in subst IsTime same h

  change_is : (spec : TimeSpec) → FitsSigned w64 spec.seconds → IsChange (time_change now spec)
  change_is spec fits = by (is_same spec.nanoseconds utime_now) (is_same spec.nanoseconds utime_omit) (is_below spec.nanoseconds second) refl where
    by : (a b c : Bool) → is_below spec.nanoseconds second ≡ c
        → IsChange (if a then SetTo now else (if b then Leave else (if c then SetTo (spec.seconds *ℤ pos second +ℤ spec.nanoseconds) else Wrong)))
    by true b c e = set_is now time
    by false true c e = λ t h. absurd cc
    by false false true e = set_is _ (nanoseconds_time spec.seconds spec.nanoseconds e fits)
    by false false false e = λ t h. absurd cc

  changes_are : (given : Option (Given Times)) → WhereGiven AreSeconds given → (times : Option Times) → given_or_none given ≡ Ok times
      → IsChange (time_changes now times).access × IsChange (time_changes now times).modified
  changes_are given fits None e = (set_is now time, set_is now time)
  changes_are None fits (Some times) e = absurd cc
  changes_are (Some (Err error)) fits (Some times) e = absurd cc
  changes_are (Some (Ok other)) fits (Some times) e =
      let same : other ≡ times = cc in
      let known : AreSeconds times = subst AreSeconds same fits in
      (change_is times.access known.access, change_is times.modified known.modified)

  module _ (given : Option (Given Times)) (fits : WhereGiven AreSeconds given) where
    times_kept : (times : Option Times) → given_or_none given ≡ Ok times → (node : ℕ) → IsFiles (after_times files now (time_changes now times) node)
    times_kept times e node =
        let changes = time_changes now times in
        let lost = keeps-lost files.nodes _ (times_lose files.nodes node (new_time changes.access) (new_time changes.modified) now) in
        nodes_kept files _ is (times_keep files.nodes node is.nodes (new_time changes.access) (new_time changes.modified) now (changes_are given fits times e).0 (changes_are given fits times e).1 time)
        lost.holds lost.kinds

    times_on_keeps : (times : Option Times) → given_or_none given ≡ Ok times → (base : Base) (follow : Bool) (path : Option (List ℕ))
        → Keeps IsFiles (times_on files now (time_changes now times) base follow path)
    times_on_keeps times e base follow (Some path) = search (keeps, times_kept times e, is) depth 14
    times_on_keeps times e Working follow None = search (keeps, is) depth 14
    times_on_keeps times e (Descriptor fd) follow None = search (keeps, open_node_keeps, times_kept times e, is) depth 14

    pub set_times_keeps : (base : Base) (path : Option (Given (List ℕ))) (follow : Option Bool) → Keeps IsFiles (set_times files now base path given follow)
    unfolding set_times
    set_times_keeps base path follow = search (keeps, times_on_keeps, is) depth 14

  -- Sizes

  resized_kept : (node size : ℕ) (content : FileContent) → content_at files.nodes node ≡ Some (File content) → resize_refusal size ≡ None → IsFiles (after_truncate files now node size)
  resized_kept node size content there allowed =
      let lost = keeps-lost files.nodes _ (resize_loses files.nodes node size now) in
      nodes_kept files _ is (resize_is files.nodes node content is.nodes (file_of files.nodes node content there) now time size (small size allowed)) lost.holds lost.kinds
    where
      small : (n : ℕ) → resize_refusal n ≡ None → n ≤ greatest_size
      small n = by (nat_lt greatest_size n) refl where
        by : (b : Bool) → nat_lt greatest_size n ≡ b → (if b then Some EFBIG else None) ≡ None → n ≤ greatest_size
        by true e h = absurd cc
        by false e h = omega (arith, leb-false _ _ e)

  truncate_content_keeps : (node size : ℕ) (found : Option NodeContent) → content_at files.nodes node ≡ found → Keeps IsFiles (truncate_content files now node size found)
  truncate_content_keeps node size None e = search (keeps, is) depth 14
  truncate_content_keeps node size (Some (File content)) e = search (keeps, resized_kept node size content e, is) depth 14
  truncate_content_keeps node size (Some (Directory listing)) e = search (keeps, is) depth 14
  truncate_content_keeps node size (Some (Link target)) e = search (keeps, is) depth 14

  node_truncated : (node size : ℕ) → Keeps IsFiles (truncate_content files now node size (content_at files.nodes node))
  node_truncated node size = truncate_content_keeps node size (content_at files.nodes node) refl

  pub truncate_keeps : (base : Base) (path : Given (List ℕ)) (size : ℤ) → Keeps IsFiles (truncate files now base path size)
  unfolding truncate
  truncate_keeps base path size = search (keeps, node_truncated, is) depth 14

  pub truncate_open_keeps : (fd : ℕ) (size : ℤ) → Keeps IsFiles (truncate_open files now fd size)
  unfolding truncate_open
  truncate_open_keeps fd size = search (keeps, node_truncated, is) depth 14
