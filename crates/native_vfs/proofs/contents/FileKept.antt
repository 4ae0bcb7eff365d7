-- A file system in which a file's content changed is one again, and what its callers see of it.
use Rattle.std.proofs.Common.{◌≡◌, ℕ, ◌≤◌, Bool, true, false, List, [], ◌∷◌, length, take, Option, Some, None, is_some, IsSome, IfSome, refl, sym, ap, subst, ◌∙◌, arith}
use Rattle.std.specs.Prelude.{ℤ, Result, Ok, Err, IfOk, IfErr, OnOk, OnErr}
use Rattle.std.specs.FinMap.{get}
use Rattle.kernel_core.specs.FileContent.{FileContent, IsContent, written, resized}
use Rattle.kernel_core.specs.FileSystem.{IsFileSystem, IsLive, IsLiveContent, IsTime}
use Rattle.kernel_core.specs.NodeCalls.{with_content, modified_at, after_write, after_resize}
use Rattle.kernel_core.specs.Nodes.{Nodes, Inode, NodeContent, File, Directory, Link, in_inode, listing_in, file_in, file_at, update}
use Rattle.kernel_core.specs.Totals.{content_entries, live_entries, live_blocks}
use Rattle.kernel_core.specs.ValidTree.{block_limit}
use Rattle.kernel_core.specs.declared.core_error.CoreError.{CoreError}
use Rattle.kernel_core.specs.declared.core_error.CoreError.TheVariants.{Refused, Stop}
use Rattle.file_system_laws.proofs.Lookups.{get-update_found}
use Rattle.file_system_laws.proofs.NodeLaws.{change_keeps}
use Rattle.file_system_laws.proofs.Totals.{total-kept}
use Rattle.native_vfs.specs.Answers.{LeavesWritten}
use Rattle.native_vfs.specs.Keyed.{Keyed, number_at}
use Rattle.native_vfs.specs.inside.Steps.{IsFileStep, LeavesPart, file_written, content_written}
use Rattle.native_vfs.specs.inside.Stored.{Table, nodes_of, keyed_of, number_of_key}
use Rattle.native_vfs.proofs.tables.Kept.{IsWhole, nodes-seen, number-seen, nodes-stepped, keys-stepped, pool-stepped}
use Rattle.native_vfs.proofs.tables.Tables.{distinct-kept, leads-kept, update_same}

-- a change of a node that leaves all but its content, where it is a file, and its times
pub record IsContentOnly (change : Inode → Inode) : Type 0 where
  pub mode : (i : Inode) → (change i).mode ≡ i.mode
  pub access : (i : Inode) → (change i).access ≡ i.access
  pub links : (i : Inode) → (change i).links ≡ i.links
  pub holds : (i : Inode) → (change i).holds ≡ i.holds
  pub modified : (i : Inode) → IsTime i.modified → IsTime (change i).modified
  pub changed : (i : Inode) → IsTime i.changed → IsTime (change i).changed
  pub part : FileContent → FileContent
  pub content : (i : Inode) → (change i).content ≡ with_content part i.content

pub nothing-only : IsContentOnly (λ i. i)
nothing-only = record {
  mode = λ i. refl;
  access = λ i. refl;
  links = λ i. refl;
  holds = λ i. refl;
  modified = λ i time. time;
  changed = λ i time. time;
  part = λ c. c;
  content = λ i. same i.content;
}
  where
    same : (c : NodeContent) → c ≡ with_content (λ c. c) c
    same (File content) = refl
    same (Directory listing) = refl
    same (Link target) = refl

pub modified-only : (now : ℤ) (part : FileContent → FileContent) → IsTime now → IsContentOnly (modified_at now part)
modified-only now part time = record {
  mode = λ i. refl;
  access = λ i. refl;
  links = λ i. refl;
  holds = λ i. refl;
  modified = λ i _. time;
  changed = λ i _. time;
  part = part;
  content = λ i. refl;
}

pub file_written-only : (at : ℕ) (bytes : List ℕ) (now : ℤ) → IsTime now → IsContentOnly (file_written at bytes now)
file_written-only at [] now time = nothing-only
file_written-only at (byte ∷ bytes) now time = modified-only now (λ c. written c at (byte ∷ bytes)) time

pub content_written-only : (at : ℕ) (bytes : List ℕ) → IsContentOnly (content_written at bytes)
content_written-only at bytes = record {
  mode = λ i. refl;
  access = λ i. refl;
  links = λ i. refl;
  holds = λ i. refl;
  modified = λ i time. time;
  changed = λ i time. time;
  part = λ c. written c at bytes;
  content = λ i. refl;
}

module _ (nodes : Nodes) (n : ℕ) (change : Inode → Inode) (only : IsContentOnly change) where
  same_listing : (i : Inode) → listing_in ((change i).content) ≡ listing_in (i.content)
  same_listing i = ap listing_in (only.content i) ∙ by i.content
    where
      by : (c : NodeContent) → listing_in (with_content only.part c) ≡ listing_in c
      by (File content) = refl
      by (Directory listing) = refl
      by (Link target) = refl

  pub only-entries : live_entries (update nodes n change) ≡ live_entries nodes
  only-entries = total-kept (λ i. length (content_entries i.content)) nodes n change (λ i found. ap (λ c. length (content_entries c)) (only.content i) ∙ by i.content)
    where
      by : (c : NodeContent) → length (content_entries (with_content only.part c)) ≡ length (content_entries c)
      by (File content) = refl
      by (Directory listing) = refl
      by (Link target) = refl

  module _ (is : IsFileSystem nodes) (file : IsSome (file_at nodes n)) (valid : IfSome (file_at (update nodes n change) n) IsContent) where
    only_live : (i : Inode) → get nodes n ≡ Some i → IsLive nodes n (change i)
    only_live i found = record {
      low = old.low;
      high = old.high;
      mode = let h = old.mode in let e = only.mode i in omega (arith, h, e);
      access = subst IsTime (sym (only.access i)) old.access;
      modified = only.modified i old.modified;
      changed = only.changed i old.changed;
      used = let h = old.used in let l = only.links i in let o = only.holds i in omega (arith, h, l, o);
      held = let h = old.held in let e = only.holds i in omega (arith, h, e);
      content = by i.content refl old.content;
    }
      where
        old : IsLive nodes n i
        old = is.each n i found

        found_file : file_at nodes n ≡ file_in i.content
        found_file = ap (in_inode file_in) found

        by : (c : NodeContent) → i.content ≡ c → IsLiveContent nodes n i.links c → IsLiveContent nodes n (change i).links (change i).content
        by (File content) e live =
            let new : (change i).content ≡ File (only.part content) = only.content i ∙ ap (with_content only.part) e in
            let seen : file_at (update nodes n change) n ≡ Some (only.part content) = ap (in_inode file_in) (get-update_found nodes n change i found) ∙ ap file_in new in
            let may : IsContent (only.part content) = subst (λ o. IfSome o IsContent) seen valid in
            subst (IsLiveContent nodes n (change i).links) (sym new) (may, only.links i ∙ live.1)
        by (Directory listing) e live = let h : false ≡ true = sym (ap is_some (found_file ∙ ap file_in e)) ∙ file in absurd (cc)
        by (Link target) e live = let h : false ≡ true = sym (ap is_some (found_file ∙ ap file_in e)) ∙ file in absurd (cc)

    pub only-keeps : live_blocks (update nodes n change) ≤ block_limit → IsFileSystem (update nodes n change)
    only-keeps few = change_keeps nodes n change (λ i found. same_listing i) is only_live few

-- a step on a file's content, and the count of the blocks with it
module _ (old new : Table) (key : ℕ) (change : Inode → Inode) (step : IsFileStep old new key change) (only : IsContentOnly change) where
  pub whole-file : (taken : List Bool) (entries blocks left top : ℕ) → IsWhole old taken entries blocks top → IsSome (file_at (nodes_of old) (number_of_key old key))
      → left ≡ live_blocks (nodes_of new) → IsWhole new taken entries left top
  whole-file taken entries blocks left top is file counted =
      let s = step.step in
      let n = number_of_key old key in
      record {
        distinct = distinct-kept old new s.numbers is.distinct;
        references = s.references is.references;
        system = subst IsFileSystem (sym s.nodes) (only-keeps (nodes_of old) n change only is.system file
            (subst (λ nodes. IfSome (file_at nodes n) IsContent) s.nodes step.valid) (subst (λ nodes. live_blocks nodes ≤ block_limit) s.nodes step.few));
        pool = pool-stepped old new key change s taken is.pool;
        entry_total = is.entry_total ∙ sym (ap live_entries s.nodes ∙ only-entries (nodes_of old) n change only);
        block_total = counted;
        top = leads-kept old new s.numbers _ is.top;
      }

-- What callers see

-- nodes and keys alone tell file systems apart
pub same_system : (one other : Keyed) → one.nodes ≡ other.nodes → one.keys ≡ other.keys → one ≡ other
same_system one other nodes keys = λ i. record { nodes = nodes i; keys = keys i }

pub after-written : (nodes : Nodes) (number at : ℕ) (bytes : List ℕ) (now : ℤ) → update nodes number (file_written at bytes now) ≡ after_write nodes number at bytes now
after-written nodes number at [] now = update_same nodes number
after-written nodes number at (byte ∷ bytes) now = refl

module _ (old new : Table) (key at most : ℕ) (bytes : List ℕ) (system : Keyed) (view : keyed_of old ≡ system) where
  pub leaves-seen : (error : CoreError) → LeavesPart error old new key at bytes most → LeavesWritten error system (keyed_of new) (number_at system key) at bytes most
  leaves-seen (Refused error) left =
      same_system (keyed_of new) system
      (nodes-stepped old new key (λ i. i) left.step system view ∙ update_same system.nodes (number_at system key))
      (keys-stepped old new key (λ i. i) left.step system view)
  leaves-seen (Stop stop) left = (
    left.0,
    left.1,
    same_system (keyed_of new) _
        (nodes-stepped old new key (content_written at (take left.0 bytes)) left.2.step system view)
        (keys-stepped old new key (content_written at (take left.0 bytes)) left.2.step system view),
  )

-- what is said of the nodes that are kept holds of those that are seen
pub seen-at : (table : Table) (system : Keyed) → keyed_of table ≡ system → (key : ℕ) (P : Nodes → ℕ → Type 0) → P (nodes_of table) (number_of_key table key)
    → P system.nodes (number_at system key)
seen-at table system view key P holds =
    subst (λ nodes. P nodes (number_at system key)) (nodes-seen table system view) (subst (P (nodes_of table)) (number-seen table system view key) holds)

pub kept-at : (table : Table) (system : Keyed) → keyed_of table ≡ system → (key : ℕ) (P : Nodes → ℕ → Type 0) → P system.nodes (number_at system key)
    → P (nodes_of table) (number_of_key table key)
kept-at table system view key P holds =
    subst (P (nodes_of table)) (sym (number-seen table system view key)) (subst (λ nodes. P nodes (number_at system key)) (sym (nodes-seen table system view)) holds)

-- a file has content that it may have
pub file-valid : (nodes : Nodes) (n : ℕ) → IsFileSystem nodes → IfSome (file_at nodes n) IsContent
file-valid nodes n is = by (get nodes n) refl
  where
    in_content : (links : ℕ) (c : NodeContent) → IsLiveContent nodes n links c → IfSome (file_in c) IsContent
    in_content links (File content) live = live.0
    in_content links (Directory listing) live = tt
    in_content links (Link target) live = tt

    by : (o : Option Inode) → get nodes n ≡ o → IfSome (in_inode file_in o) IsContent
    by None found = tt
    by (Some i) found = in_content i.links i.content ((is.each n i found).content)

-- However a write ends, it was a step on the file's content.
pub record IsSomeStep (old new : Table) (key : ℕ) : Type 0 where
  pub change : Inode → Inode
  pub step : IsFileStep old new key change
  pub only : IsContentOnly change

pub written-step : (old new : Table) (key at : ℕ) (bytes : List ℕ) (now : ℤ) (most : FileContent → ℕ) → IsTime now → (o : Option FileContent) → IsSome o → (r : Result ℕ CoreError)
    → IfOk r (λ n. IsFileStep old new key (file_written at (take n bytes) now)) → IfSome o (λ content. IfErr r (λ e. LeavesPart e old new key at bytes (most content)))
    → IsSomeStep old new key
written-step old new key at bytes now most time None some r ok err = absurd (cc)
written-step old new key at bytes now most time (Some content) some (Ok n) ok err =
    record { change = file_written at (take n bytes) now; step = ok; only = file_written-only at (take n bytes) now time }
written-step old new key at bytes now most time (Some content) some (Err (Refused error)) ok err = record { change = λ i. i; step = err; only = nothing-only }
written-step old new key at bytes now most time (Some content) some (Err (Stop stop)) ok err =
    record { change = content_written at (take err.0 bytes); step = err.2; only = content_written-only at (take err.0 bytes) }

-- another size, where it is not refused
module _ (old new : Table) (key to : ℕ) (now : ℤ) (r : Result (Unit {0}) CoreError) (ok : OnOk r (IsFileStep old new key (modified_at now (λ c. resized c to)))) (err : OnErr r (new ≡ old)) where
  pub whole-resized : (taken : List Bool) (entries blocks left top : ℕ) → IsWhole old taken entries blocks top → IsSome (file_at (nodes_of old) (number_of_key old key)) → IsTime now
      → left ≡ live_blocks (nodes_of new) → IsWhole new taken entries left top
  whole-resized taken entries blocks left top is file time counted = by r ok err
    where
      by : (r : Result (Unit {0}) CoreError) → OnOk r (IsFileStep old new key (modified_at now (λ c. resized c to))) → OnErr r (new ≡ old) → IsWhole new taken entries left top
      by (Ok u) step same = whole-file old new key (modified_at now (λ c. resized c to)) step (modified-only now (λ c. resized c to) time) taken entries blocks left top is file counted
      by (Err e) step same = subst (λ t. IsWhole t taken entries left top) (sym same) (record {
        distinct = is.distinct;
        references = is.references;
        system = is.system;
        pool = is.pool;
        entry_total = is.entry_total;
        block_total = counted ∙ ap (λ t. live_blocks (nodes_of t)) same;
        top = is.top;
      })

  pub nodes-resized : (system : Keyed) → keyed_of old ≡ system → OnOk r ((keyed_of new).nodes ≡ after_resize system.nodes (number_at system key) to now)
  nodes-resized system view = by r ok
    where
      by : (r : Result (Unit {0}) CoreError) → OnOk r (IsFileStep old new key (modified_at now (λ c. resized c to))) → OnOk r ((keyed_of new).nodes ≡ after_resize system.nodes (number_at system key) to now)
      by (Ok u) step = nodes-stepped old new key (modified_at now (λ c. resized c to)) step.step system view
      by (Err e) step = tt

  pub keys-resized : (system : Keyed) → keyed_of old ≡ system → (keyed_of new).keys ≡ system.keys
  keys-resized system view = by r ok err
    where
      by : (r : Result (Unit {0}) CoreError) → OnOk r (IsFileStep old new key (modified_at now (λ c. resized c to))) → OnErr r (new ≡ old) → (keyed_of new).keys ≡ system.keys
      by (Ok u) step same = keys-stepped old new key (modified_at now (λ c. resized c to)) step.step system view
      by (Err e) step same = ap (λ t. (keyed_of t).keys) same ∙ ap (λ s. s.keys) view
